-- Laws of turns and holds: each has one holder at a time, and only the holder of a turn selects.
use Rattle.std.specs.Prelude.{◌≡◌, ℕ, ◌==◌, Bool, false, ◌&&◌, ◌||◌, IsTrue, IsFalse, None, List, [], ◌∷◌, ◌++◌}
use Rattle.nio_base.specs.declared.limits.Limits.{Limits}
use Rattle.nio_base.specs.declared.numbers.CallerNo.{CallerNo}
use Rattle.nio_base.specs.declared.numbers.ChanNo.{ChanNo}
use Rattle.nio_base.specs.declared.numbers.SelNo.{SelNo}
use Rattle.nio_history.specs.Conditions.{holds, has_begun, has_entered, has_list}
use Rattle.nio_history.specs.Histories.{state_after, event_of, mine, IsLegal}
use Rattle.nio_history.specs.OwnEvents.{has, under, finds_unblocked, sets_mode, gives_turn, releases}
use Rattle.nio_history.specs.declared.act.Act.{Act}
use Rattle.nio_history.specs.declared.act.Act.TheVariants.{TakeTurn, BeginLook, Remove, Mark, EndWake, TryHoldBit}
use Rattle.nio_history.specs.declared.act.Act.TheVariants.{TakeTouched}
use Rattle.nio_history.specs.declared.event.Event.{Event}
use Rattle.nio_history.specs.declared.found.GateWord.{GateWord}

-- it removes a key of selector s
abbrev pub removes_on : ℕ → Act → Bool
removes_on s (Remove s' i found) = s'.0 == s
removes_on s _ = false

-- it makes a `mark` of a key of selector s, which succeeds or not
abbrev pub tries_mark_on : ℕ → Act → Bool
tries_mark_on s (Mark s' i from told found) = s'.0 == s
tries_mark_on s _ = false

-- it ends the wakeup of selector s
abbrev pub ends_wakeup : ℕ → Act → Bool
ends_wakeup s (EndWake s' found) = s'.0 == s
ends_wakeup s _ = false

-- it takes bits of touched indexes of selector s
abbrev pub takes_touched_on : ℕ → Act → Bool
takes_touched_on s (TakeTouched s' j found) = s'.0 == s
takes_touched_on s _ = false

-- what the selecting caller does to selector s: it takes the bits of touched indexes, removes and marks keys, and ends
-- the wakeup; of these a closer only removes keys
abbrev pub selects_on : ℕ → Act → Bool
selects_on s act = takes_touched_on s act || removes_on s act || tries_mark_on s act || ends_wakeup s act

-- whoever took the turn of a selector gives it back before anybody takes it again
abbrev pub TurnHasOneHolder : Type 0
TurnHasOneHolder = (l : Limits) (s : SelNo) (m n : CallerNo) (past between : List Event)
    → IsLegal l (past ++ event_of m (TakeTurn s None) ∷ (between ++ event_of n (TakeTurn s None) ∷ []))
    → IsTrue (has (gives_turn s.0) (mine m between))

-- whoever took the hold of a channel releases it before anybody takes it again
abbrev pub HoldHasOneHolder : Type 0
HoldHasOneHolder = (l : Limits) (c : ChanNo) (m n : CallerNo) (past between : List Event)
    → IsLegal l (past ++ event_of m (TryHoldBit c None) ∷ (between ++ event_of n (TryHoldBit c None) ∷ []))
    → IsTrue (has (releases c.0) (mine m between))

-- a caller that holds a channel, found it non-blocking under this hold and didn't set its mode since
-- it took the hold, knows that it is non-blocking
abbrev pub HolderKnowsMode : Type 0
HolderKnowsMode = (l : Limits) (n : CallerNo) (c : ChanNo) (events : List Event) → IsLegal l events
    → IsTrue (holds (state_after events) n c)
    → IsTrue (has (finds_unblocked c.0) (under c.0 (mine n events)))
    → IsFalse (has (sets_mode c.0) (under c.0 (mine n events)))
    → IsFalse ((state_after events).chan c.0).blocking

-- from a caller's look that found the gate not shut until it gives its turn back, nobody else takes bits of touched
-- indexes of the selector, marks or removes a key of it, or ends its wakeup
abbrev pub OneSelectionAtATime : Type 0
OneSelectionAtATime = (l : Limits) (s : SelNo) (n : CallerNo) (found : GateWord) (past between : List Event) (e : Event)
    → IsLegal l (past ++ event_of n (BeginLook s found) ∷ (between ++ e ∷ []))
    → IsFalse found.shut → IsFalse (has (gives_turn s.0) (mine n between)) → IsTrue (selects_on s.0 e.act)
    → e.caller ≡ n

-- only a caller that has begun takes bits of touched indexes, marks a key or ends the wakeup, and only such a caller, or
-- the selector's closer once it has entered, removes a key
abbrev pub OnlyWhoMaySelects : Type 0
OnlyWhoMaySelects = (l : Limits) (s : SelNo) (past : List Event) (e : Event) (later : List Event)
    → IsLegal l (past ++ e ∷ later)
    → IsTrue (selects_on s.0 e.act)
    → IsTrue (has_begun (state_after past) e.caller s
    || (removes_on s.0 e.act && has_entered (state_after past) e.caller s))

-- only the caller that has the selector's list takes bits of touched indexes
abbrev pub TakersHaveList : Type 0
TakersHaveList = (l : Limits) (s : SelNo) (past : List Event) (e : Event) (later : List Event)
    → IsLegal l (past ++ e ∷ later) → IsTrue (takes_touched_on s.0 e.act)
    → IsTrue (has_list (state_after past) e.caller s)
