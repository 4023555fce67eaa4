-- Selectors' lists and whole calls: when a list that a call is given is the selector's, and that a caller's own is.
use Rattle.std.specs.Prelude.{◌≡◌, Option, Some, None, List, ⊤}
use Rattle.nio_base.specs.Limits.{IsFit}
use Rattle.nio_base.specs.declared.limits.Limits.{Limits}
use Rattle.nio_base.specs.declared.numbers.CallerNo.{CallerNo}
use Rattle.nio_base.specs.declared.numbers.SelNo.{SelNo}
use Rattle.nio_history.specs.Histories.{mine, IsLegal}
use Rattle.nio_history.specs.declared.event.Event.{Event}
use Rattle.nio_orderly.specs.Made.{Made, after_calls}
use Rattle.nio_orderly.specs.Orderly.{AreCallsOf}
use Rattle.nio_steps.specs.Lists.{KnowsList}
use Rattle.nio_steps.specs.Ongoing.{nothing_ongoing}
use Rattle.nio_steps.specs.declared.looked.LookedKey.{LookedKey}

-- After this history the list that a call is given, if it is given one, is the selector's list, which the caller has.
abbrev pub KnowsGiven : Limits → CallerNo → List Event → SelNo → Option (List LookedKey) → Type 0
KnowsGiven l n before s None = ⊤
KnowsGiven l n before s (Some known) = KnowsList l n before s known

-- The caller made these calls, and has this list for the selector after them. Then it is the selector's list: it is
-- right by what the caller did.
abbrev pub ListsAreKnown : Type 0
ListsAreKnown =
    (l : Limits) (n : CallerNo) (events : List Event) (calls : List Made) (s : SelNo) (known : List LookedKey)
    → IsFit l → IsLegal l events → AreCallsOf l (mine n events) calls
    → (after_calls nothing_ongoing calls).list s.0 ≡ Some known → KnowsList l n events s known
