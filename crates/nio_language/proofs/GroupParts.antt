-- A call on the group is put together from its word and its arguments, in one way.
use Rattle.std.proofs.Common.{◌≡◌, ℕ, List, Option, None, IsSomeAnd, MatchOption, refl, sym, ap, subst, ◌∙◌}
use Rattle.std.specs.Prelude.{⊤}
use Rattle.nio_base.specs.declared.group.OpKind.{OpKind}
use Rattle.nio_base.specs.declared.group.Outcome.{Outcome}
use Rattle.nio_base.specs.declared.numbers.GChan.{GChan}
use Rattle.nio_base.specs.declared.numbers.OpNo.{OpNo}
use Rattle.nio_language.specs.GroupCalls.{IsGroupCall, ReadsGroupCall, group_argument_words, group_word}
use Rattle.nio_language.specs.Reading.{Reads}
use Rattle.nio_language.specs.declared.group_call.GroupCall.{GroupCall}
use Rattle.nio_language.specs.declared.group_call.GroupCall.TheVariants as group
use Rattle.nio_language.specs.declared.group_word.GroupWord.{GroupWord}
use Rattle.nio_language.specs.declared.group_word.GroupWord.TheVariants as word
use Rattle.nio_language.proofs.Readers.{reads_made}

-- the forms of calls with several arguments, or none

abbrev pub start_call : GChan × OpKind × ℕ → GroupCall
start_call p = group.Start p.0 p.1 p.2

abbrev pub report_call : OpNo × Outcome → GroupCall
report_call p = group.Report p.0 p.1

abbrev pub lone_call : GroupCall → ⊤ → GroupCall
lone_call g _ = g

-- the form that a call with this word has

abbrev pub HasForm : {A : Type 0} → (A → GroupCall) → GroupCall → Type 0
HasForm {A} form g = (x : A) × (g ≡ form x)

abbrev pub IsOf : GroupWord → GroupCall → Type 0
IsOf word.Gopen g = HasForm group.Gopen g
IsOf word.Gbind g = HasForm group.Gbind g
IsOf word.Start g = HasForm start_call g
IsOf word.Report g = HasForm report_call g
IsOf word.Take g = HasForm (lone_call group.Take) g
IsOf word.Done g = HasForm group.Done g
IsOf word.Gclose g = HasForm group.Gclose g
IsOf word.Shutdown g = HasForm (lone_call group.Shutdown) g
IsOf word.ShutdownNow g = HasForm (lone_call group.ShutdownNow) g
IsOf word.IsShutdown g = HasForm (lone_call group.IsShutdown) g
IsOf word.Terminated g = HasForm (lone_call group.Terminated) g

own_word : (g : GroupCall) → IsOf (group_word g) g
own_word (group.Gopen kind) = (kind, refl)
own_word (group.Gbind g) = (g, refl)
own_word (group.Start g kind len) = ((g, kind, len), refl)
own_word (group.Report n outcome) = ((n, outcome), refl)
own_word group.Take = (tt, refl)
own_word (group.Done n) = (n, refl)
own_word (group.Gclose g) = (g, refl)
own_word group.Shutdown = (tt, refl)
own_word group.ShutdownNow = (tt, refl)
own_word group.IsShutdown = (tt, refl)
own_word group.Terminated = (tt, refl)

pub of_word : (w : GroupWord) (g : GroupCall) → group_word g ≡ w → IsOf w g
of_word w g e = subst (λ v. IsOf v g) e (own_word g)

-- what is made of arguments that are read is the call with the word and these arguments
pub made_group : {A : Type 0} {Made : A → GroupCall → Type 0} (w : GroupWord) (form : A → GroupCall)
    → ((g : GroupCall) → IsOf w g → HasForm form g) → ((x : A) → group_word (form x) ≡ w)
    → (words : List (List ℕ)) (o : Option A) (r : Option GroupCall)
    → Reads (λ x. IsGroupCall (form x)) (λ x. group_argument_words (form x)) words o
    → MatchOption o (r ≡ None) (λ x. IsSomeAnd r (Made x))
    → ((x : A) (g : GroupCall) → Made x g → g ≡ form x) → ReadsGroupCall w words r
made_group w form formed named words o r read cases says =
    reads_made (λ g. IsGroupCall g × (group_word g ≡ w)) group_argument_words o r read cases
    (λ x g made fits.
    let is = says x g made in
    ((subst IsGroupCall (sym is) fits, ap group_word is ∙ named x), ap group_argument_words (sym is)))
    (λ h fits.
    let own = formed h (of_word w h fits.1) in (
      own.0,
      subst IsGroupCall own.1 fits.0,
      ap group_argument_words own.1,
      λ g made. says own.0 g made ∙ sym own.1,
    ))
