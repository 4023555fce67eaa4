-- What puts the runs of a call that waits together.
use Rattle.std.proofs.Common.{◌≡◌, Bool, true, false, IsTrue, List, [], ◌∷◌, ◌++◌, refl, ap, sym, ◌∙◌, append_assoc}
use Rattle.std.proofs.lemmas.List.{append-nil}
use Rattle.std.proofs.lemmas.List.Elements.{All-nil, All-push}
use Rattle.nio_base.specs.declared.numbers.CallerNo.{CallerNo}
use Rattle.nio_history.specs.PassViews.{PassView}
use Rattle.nio_history.specs.declared.act.Act.{Act}
use Rattle.nio_steps.proofs.CallLaws.{calls_then}
use Rattle.nio_steps.specs.Calls.{CallClause}
use Rattle.nio_steps.specs.Waiting.{Then, Run, acts_of, Tries, Repeats}

pub acts_of-push : {X R : Type 0} (runs : List (Run X R)) (run : Run X R)
    → acts_of (runs ++ run ∷ []) ≡ acts_of runs ++ run.acts
acts_of-push [] run = append-nil run.acts
acts_of-push (first ∷ later) run =
    ap (λ acts. first.acts ++ acts) (acts_of-push later run) ∙ sym (append_assoc first.acts (acts_of later) run.acts)

-- ---- the acts

-- no run was made yet
unfoldable pub tries_none : {X R : Type 0} (Shape : X → List Act → R → Type 0) (goes_on : X → R → Bool)
    → Tries Shape goes_on []
tries_none Shape goes_on = record {
  runs = [];
  parts = refl;
  made = All-nil (λ run. Shape run.given run.acts run.answer);
  again = All-nil (λ run. IsTrue (goes_on run.given run.answer));
}

-- one run more, after which the call is to be made again
unfoldable pub tries_more : {X R : Type 0} {Shape : X → List Act → R → Type 0} {goes_on : X → R → Bool}
    {acts : List Act} (x : X) (later : List Act) (answer : R)
    → Tries Shape goes_on acts → Shape x later answer → goes_on x answer ≡ true → Tries Shape goes_on (acts ++ later)
tries_more {Shape = Shape} {goes_on = goes_on} {acts = acts} x later answer tries made again =
    let run : Run _ _ = record { given = x; acts = later; answer = answer } in
    record {
      runs = tries.runs ++ run ∷ [];
      parts = ap (λ xs. xs ++ later) tries.parts ∙ sym (acts_of-push tries.runs run);
      made = All-push (λ r. Shape r.given r.acts r.answer) tries.runs run tries.made made;
      again = All-push (λ r. IsTrue (goes_on r.given r.answer)) tries.runs run tries.again again;
    }

-- the last run
unfoldable pub repeats_last : {X R : Type 0} {Shape : X → List Act → R → Type 0} {goes_on : X → R → Bool}
    {acts : List Act} (x : X) (later : List Act) (answer : R)
    → Tries Shape goes_on acts → Shape x later answer → goes_on x answer ≡ false
    → Repeats Shape goes_on (acts ++ later) answer
repeats_last {acts = acts} x later answer tries made over = record {
  before = acts;
  tries = tries;
  last = record { given = x; acts = later; answer = answer };
  parts = refl;
  made = made;
  over = over;
  answers = refl;
}

-- ---- the calls

-- a call that waits, which has made these runs so far
abbrev pub TryingClause : {X R : Type 0} → CallerNo → (X → List Act → R → Type 0) → (X → R → Bool) → PassView → PassView
    → Type 0
TryingClause me Shape goes_on old new = CallClause me (λ acts (_ : Unit {0}). Tries Shape goes_on acts) old new tt

pub try_more : {X R : Type 0} {me : CallerNo} {Shape : X → List Act → R → Type 0} {goes_on : X → R → Bool}
    {v0 v1 v2 : PassView} (x : X) (answer : R)
    → TryingClause me Shape goes_on v0 v1 → CallClause me (Shape x) v1 v2 answer → goes_on x answer ≡ true
    → TryingClause me Shape goes_on v0 v2
try_more {Shape = Shape} {goes_on = goes_on} x answer trying run again =
    calls_then (λ acts (_ : Unit {0}). Tries Shape goes_on acts) tt
    (λ xs ys tries made. tries_more x ys answer tries made again) trying run

pub try_last : {X R : Type 0} {me : CallerNo} {Shape : X → List Act → R → Type 0} {goes_on : X → R → Bool}
    {v0 v1 v2 : PassView} (x : X) (answer : R)
    → TryingClause me Shape goes_on v0 v1 → CallClause me (Shape x) v1 v2 answer → goes_on x answer ≡ false
    → CallClause me (Repeats Shape goes_on) v0 v2 answer
try_last {Shape = Shape} {goes_on = goes_on} x answer trying run over =
    calls_then (Repeats Shape goes_on) answer (λ xs ys tries made. repeats_last x ys answer tries made over) trying run

-- one call, and then one that takes its answer
pub then_call : {A R : Type 0} {me : CallerNo} {First : List Act → A → Type 0} {Second : A → List Act → R → Type 0}
    {a : A} {answer : R} {v0 v1 v2 : PassView}
    → CallClause me First v0 v1 a → CallClause me (Second a) v1 v2 answer
    → CallClause me (Then First Second) v0 v2 answer
then_call {First = First} {Second = Second} {a = a} {answer = answer} first second =
    calls_then (Then First Second) answer
    (λ xs ys here there. record {
      first = xs;
      middle = a;
      second = ys;
      parts = refl;
      runs_first = here;
      runs_second = there;
    }) first second
