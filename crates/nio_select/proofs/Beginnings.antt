-- What the parts of a beginning of a selection answer.
use Rattle.std.proofs.Common.{◌≡◌, ℕ, Bool, true, false, if◌then◌else◌, Option, Some, None, List, refl, ap, sym, ◌∙◌}
use Rattle.std.specs.Prelude.{is_some}
use Rattle.nio_base.specs.declared.numbers.CallerNo.{CallerNo}
use Rattle.nio_base.specs.declared.numbers.SelNo.{SelNo}
use Rattle.nio_history.proofs.PassViews.{lasts_over}
use Rattle.nio_history.specs.Permanent.{list_had_by}
use Rattle.nio_history.specs.declared.act.Act.{Act}
use Rattle.nio_history.specs.declared.found.Mode.{Mode}
use Rattle.nio_steps.specs.SelectCalls.{Selection}
use Rattle.nio_steps.specs.declared.looked.LookedKey.{LookedKey}
use Rattle.nio_words.proofs.Stepping.{still_ready}
use Rattle.nio_words.proofs.Views.{finds_drawn, step_acts}
use Rattle.nio_words.specs.Steps.{Steps}
use Rattle.nio_words.specs.declared.words.Pass.{Pass}
use Rattle.nio_words.specs.declared.words.Words.{Words}
use Rattle.nio_select.specs.Asked.{Looked, known_of}
use Rattle.nio_select.specs.Beginning.{MayFill}
use Rattle.nio_select.specs.declared.stamp.Stamp.{Stamp}

known_listed : (b : Bool) (keys : List LookedKey) → is_some (if b then Some keys else None) ≡ b
known_listed true keys = refl
known_listed false keys = refl

abbrev selection_with : SelNo → Mode → ℕ → List LookedKey → Bool → Selection
selection_with s mode bound looked listed =
    record { selector = s; mode = mode; bound = bound; looked = looked; listed = listed }

-- the answer of a beginning that went through
pub answered : (s : SelNo) (mode : Mode) (bound : ℕ) (old new : Looked) → new.stamp ≡ old.stamp
    → selection_with s mode bound new.keys (is_some (known_of old))
    ≡ selection_with s mode bound new.keys (is_some new.stamp)
answered s mode bound old new stamp =
    ap (selection_with s mode bound new.keys) (known_listed (is_some old.stamp) old.keys ∙ ap is_some (sym stamp))

-- where it goes by the list, and where it doesn't
pub known_some : (asked : Looked) → is_some asked.stamp ≡ true → known_of asked ≡ Some asked.keys
known_some asked is = ap (λ (b : Bool). if b then Some asked.keys else None) is

pub known_none : (asked : Looked) → is_some asked.stamp ≡ false → known_of asked ≡ None
known_none asked is = ap (λ (b : Bool). if b then Some asked.keys else None) is

-- a step leaves what a beginning starts from
pub fill_stays : {w : Words} {p q : Pass} {me : CallerNo} {act : Act} {s : SelNo} {asked : Looked} → Steps w p q me act
    → finds_drawn act ≡ false → MayFill w p me s asked → MayFill w q me s asked
fill_stays {w = w} {p = p} {q = q} {me = me} {act = act} {s = s} steps new may = record {
  ready = still_ready w p q me me act steps may.ready;
  selector = may.selector;
  list = λ listed. lasts_over (list_had_by s me) (step_acts steps new) (may.list listed);
  empty = may.empty;
  below = may.below;
}

-- the list is the same where its keys and its stamp are
pub known_same : (old new : Looked) → new.keys ≡ old.keys → new.stamp ≡ old.stamp → known_of new ≡ known_of old
known_same old new keys stamp =
    ap (λ (ks : List LookedKey). if is_some new.stamp then Some ks else None) keys
    ∙ ap (λ (o : Option Stamp). if is_some o then Some old.keys else None) stamp
