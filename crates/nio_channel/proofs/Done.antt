-- What a caller did in a call, from what it did in the parts of the call.
use Rattle.std.proofs.Common.{◌≡◌, Bool, false, ◌||◌, List, [], ◌∷◌, ap, ◌∙◌}
use Rattle.std.proofs.Math.Bool.{or-false}
use Rattle.std.proofs.lemmas.List.Folds.{list_any-append}
use Rattle.nio_base.specs.declared.numbers.CallerNo.{CallerNo}
use Rattle.nio_history.proofs.PassViews.{done-is, acts_then}
use Rattle.nio_history.specs.OwnEvents.{has}
use Rattle.nio_history.specs.PassViews.{PassView, done_between, ActsClause}
use Rattle.nio_history.specs.declared.act.Act.{Act}

-- these acts are what was done
pub has_done : {me : CallerNo} {acts : List Act} {v0 v1 : PassView} (p : Act → Bool) → ActsClause me acts v0 v1
    → has p (done_between me v0 v1) ≡ has p acts
has_done {me = me} {acts = acts} {v0 = v0} {v1 = v1} p clause = ap (has p) (done-is me acts v0 v1 clause)

-- these acts and then those
pub has_then : {me : CallerNo} {first second : List Act} {v0 v1 v2 : PassView} (p : Act → Bool)
    → ActsClause me first v0 v1 → ActsClause me second v1 v2
    → has p (done_between me v0 v2) ≡ (has p first || has p second)
has_then {me = me} {first = first} {second = second} {v0 = v0} {v1 = v1} {v2 = v2} p here there =
    has_done p (acts_then me first second v0 v1 v2 here there) ∙ list_any-append p first second

-- an act, these acts, and an act
pub has_between : {me : CallerNo} {a b : Act} {acts : List Act} {v0 v1 v2 v3 : PassView} (p : Act → Bool)
    → ActsClause me (a ∷ []) v0 v1 → ActsClause me acts v1 v2 → ActsClause me (b ∷ []) v2 v3
    → p a ≡ false → p b ≡ false → has p (done_between me v0 v3) ≡ has p acts
has_between {me = me} {a = a} {b = b} {acts = acts} {v0 = v0} {v1 = v1} {v2 = v2} p first middle final not_a not_b =
    has_then p (acts_then me (a ∷ []) acts v0 v1 v2 first middle) final
    ∙ (ap (λ (x : Bool). (x || has p acts) || (p b || false)) not_a
    ∙ (ap (λ (x : Bool). has p acts || (x || false)) not_b ∙ or-false (has p acts)))
