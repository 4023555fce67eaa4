-- What one call did to keys, and then another; and a lister that takes note of it.
use Rattle.std.proofs.Common.{◌≡◌, ℕ, Some, Ok, List, [], ◌∷◌, ◌++◌, refl, ap, sym, ◌∙◌, append_assoc}
use Rattle.std.proofs.lemmas.List.{append-nil}
use Rattle.std.proofs.lemmas.List.Sums.{fold-append}
use Rattle.std.specs.Prelude.{fold}
use Rattle.nio_base.specs.declared.numbers.CallerNo.{CallerNo}
use Rattle.nio_base.specs.declared.numbers.SelNo.{SelNo}
use Rattle.nio_history.proofs.PassViews.{done-is, acts_nothing, acts_then}
use Rattle.nio_history.specs.Acts.{selected_with}
use Rattle.nio_history.specs.Histories.{IsLegal}
use Rattle.nio_history.specs.PassViews.{PassView, ActsClause, done_between}
use Rattle.nio_history.specs.declared.act.Act.{Act}
use Rattle.nio_history.specs.declared.act.Act.TheVariants.{Mark}
use Rattle.nio_history.specs.declared.found.Mark.{Mark as KeyMark}
use Rattle.nio_steps.specs.Lists.{listed_at}
use Rattle.nio_steps.specs.declared.looked.LookedKey.{LookedKey}
use Rattle.nio_select.specs.KeyChanges.{TakesNote, change_by, changes_by, marked_of}
use Rattle.nio_select.specs.declared.changes.KeyChange.{KeyChange}

-- ---- what was done

pub changes-append : (asked : List LookedKey) (xs ys : List Act)
    → changes_by asked (xs ++ ys) ≡ changes_by asked xs ++ changes_by asked ys
changes-append asked [] ys = refl
changes-append asked (act ∷ acts) ys =
    ap (λ later. change_by asked act ++ later) (changes-append asked acts ys)
    ∙ sym (append_assoc (change_by asked act) (changes_by asked acts) (changes_by asked ys))

-- by these acts
changed_by : {me : CallerNo} {acts : List Act} {v0 v1 : PassView} (asked : List LookedKey) → ActsClause me acts v0 v1
    → changes_by asked (done_between me v0 v1) ≡ changes_by asked acts
changed_by {me = me} {acts = acts} {v0 = v0} {v1 = v1} asked clause =
    ap (changes_by asked) (done-is me acts v0 v1 clause)

pub nothing_changed : (asked : List LookedKey) (me : CallerNo) (v : PassView) → IsLegal v.limits v.seen
    → changes_by asked (done_between me v v) ≡ []
nothing_changed asked me v legal = changed_by asked (acts_nothing me v legal)

-- by one step
pub step_changed : {me : CallerNo} {act : Act} {v0 v1 : PassView} (asked : List LookedKey)
    → ActsClause me (act ∷ []) v0 v1 → changes_by asked (done_between me v0 v1) ≡ change_by asked act
step_changed {act = act} asked clause = changed_by asked clause ∙ append-nil (change_by asked act)

pub changed_then : {me : CallerNo} {xs ys : List Act} {v0 v1 v2 : PassView} (asked : List LookedKey)
    → ActsClause me xs v0 v1 → ActsClause me ys v1 v2
    → changes_by asked (done_between me v0 v2)
    ≡ changes_by asked (done_between me v0 v1) ++ changes_by asked (done_between me v1 v2)
changed_then {me = me} {xs = xs} {ys = ys} {v0 = v0} {v1 = v1} {v2 = v2} asked first second =
    changed_by asked (acts_then me xs ys v0 v1 v2 first second)
    ∙ (changes-append asked xs ys
    ∙ (ap (λ c. c ++ changes_by asked ys) (sym (changed_by asked first))
    ∙ ap (λ c. changes_by asked (done_between me v0 v1) ++ c) (sym (changed_by asked second))))

-- by a step that changed nothing, and then others
pub changed_after : {me : CallerNo} {act : Act} {ys : List Act} {v0 v1 v2 : PassView} (asked : List LookedKey)
    → ActsClause me (act ∷ []) v0 v1 → change_by asked act ≡ [] → ActsClause me ys v1 v2
    → changes_by asked (done_between me v0 v2) ≡ changes_by asked (done_between me v1 v2)
changed_after {me = me} {v1 = v1} {v2 = v2} asked first none second =
    changed_then asked first second
    ∙ ap (λ c. c ++ changes_by asked (done_between me v1 v2)) (step_changed asked first ∙ none)

-- by a step, and then one that changed nothing
pub changed_before : {me : CallerNo} {act : Act} {xs : List Act} {v0 v1 v2 : PassView} (asked : List LookedKey)
    → ActsClause me xs v0 v1 → ActsClause me (act ∷ []) v1 v2 → change_by asked act ≡ []
    → changes_by asked (done_between me v0 v2) ≡ changes_by asked (done_between me v0 v1)
changed_before {me = me} {v0 = v0} {v1 = v1} asked first second none =
    changed_then asked first second
    ∙ (ap (λ c. changes_by asked (done_between me v0 v1) ++ c) (step_changed asked second ∙ none)
    ∙ append-nil (changes_by asked (done_between me v0 v1)))

-- by a mark that succeeded
pub mark_changed : {me : CallerNo} {s : SelNo} {i told ready : ℕ} {from : KeyMark} {v0 v1 : PassView}
    (asked : List LookedKey) → ActsClause me (Mark s i from told (Ok tt) ∷ []) v0 v1
    → ready ≡ (selected_with from told).ready
    → changes_by asked (done_between me v0 v1) ≡ marked_of i (listed_at asked i) (Some ready)
mark_changed {i = i} asked clause is =
    step_changed asked clause ∙ ap (λ (n : ℕ). marked_of i (listed_at asked i) (Some n)) (sym is)

-- ---- a lister

module _ {L : Type 0} {noted : L → KeyChange → L} {me : CallerNo} where
  pub takes_nothing : (asked : List LookedKey) (v : PassView) (x : L) → IsLegal v.limits v.seen
      → TakesNote noted asked me v v x x
  takes_nothing asked v x legal = record { notes = sym (ap (fold noted x) (nothing_changed asked me v legal)) }

  -- of these changes
  pub takes_these : {v0 v1 : PassView} {x y : L} {changes : List KeyChange} (asked : List LookedKey)
      → changes_by asked (done_between me v0 v1) ≡ changes → y ≡ fold noted x changes
      → TakesNote noted asked me v0 v1 x y
  takes_these {x = x} asked same is = record { notes = is ∙ ap (fold noted x) (sym same) }

  -- of a step that changed nothing
  pub takes_step : {act : Act} {v0 v1 : PassView} (asked : List LookedKey) (x : L) → ActsClause me (act ∷ []) v0 v1
      → change_by asked act ≡ [] → TakesNote noted asked me v0 v1 x x
  takes_step asked x clause none = takes_these asked (step_changed asked clause ∙ none) refl

  pub takes_then : {xs ys : List Act} {v0 v1 v2 : PassView} {x y z : L} (asked : List LookedKey)
      → ActsClause me xs v0 v1 → ActsClause me ys v1 v2 → TakesNote noted asked me v0 v1 x y
      → TakesNote noted asked me v1 v2 y z → TakesNote noted asked me v0 v2 x z
  takes_then {v0 = v0} {v1 = v1} {v2 = v2} {x = x} asked first second here there = record {
    notes = there.notes
        ∙ (ap (λ (l : L). fold noted l (changes_by asked (done_between me v1 v2))) here.notes
        ∙ (sym (fold-append noted x (changes_by asked (done_between me v0 v1)) (changes_by asked (done_between me v1 v2)))
        ∙ ap (fold noted x) (sym (changed_then asked first second))));
  }

  -- of a step that changed nothing, and then of others
  pub takes_after : {act : Act} {ys : List Act} {v0 v1 v2 : PassView} {x y : L} (asked : List LookedKey)
      → ActsClause me (act ∷ []) v0 v1 → change_by asked act ≡ [] → ActsClause me ys v1 v2
      → TakesNote noted asked me v1 v2 x y → TakesNote noted asked me v0 v2 x y
  takes_after {x = x} asked first none second there = takes_then asked first second (takes_step asked x first none) there
