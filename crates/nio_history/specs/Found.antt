-- Laws of what a step leaves and of what it finds.
use Rattle.std.specs.Prelude.{◌≡◌, ◌≢◌, ℕ, ◌==◌, nat_lt, Bool, true, false, ◌&&◌, Option, Some, None, IsTrue, List, [], ◌∷◌, ◌++◌}
use Rattle.std.specs.Int.{bit_at}
use Rattle.nio_base.specs.declared.limits.Limits.{Limits}
use Rattle.nio_base.specs.declared.numbers.CallerNo.{CallerNo}
use Rattle.nio_base.specs.declared.numbers.SelNo.{SelNo}
use Rattle.nio_history.specs.Acts.{effect}
use Rattle.nio_history.specs.Answers.{Answers}
use Rattle.nio_history.specs.Histories.{state_after, event_of, mine, IsStep, IsLegal, HistoryClause}
use Rattle.nio_history.specs.Permanent.{PermanentFact, selector_made, selector_shut, channel_made, channel_closed}
use Rattle.nio_history.specs.Permanent.{index_claimed, key_claimed, key_published, key_cancelled, key_removed}
use Rattle.nio_history.specs.Permanent.{below_keys_high, below_channels_high, stands}
use Rattle.nio_history.specs.OwnEvents.{has}
use Rattle.nio_history.specs.Sets.{was_claimed, was_published, was_cancelled, was_removed}
use Rattle.nio_history.specs.declared.act.Act.{Act}
use Rattle.nio_history.specs.declared.act.Act.TheVariants.{DrawBit, MakeSelector, LookSelectors, Wake, LookGate}
use Rattle.nio_history.specs.declared.act.Act.TheVariants.{SetInterrupt, TakeInterrupt, LookInterrupt, LookKey}
use Rattle.nio_history.specs.declared.act.Act.TheVariants.{CancelKey}
use Rattle.nio_history.specs.declared.act.Act.TheVariants.{LookInterest, SwapInterest, OrInterest, AndInterest}
use Rattle.nio_history.specs.declared.act.Act.TheVariants.{SwapNote}
use Rattle.nio_history.specs.declared.act.Act.TheVariants.{LookNote, MakeChannel, LookChannel, Claim, RaiseKeys}
use Rattle.nio_history.specs.declared.act.Act.TheVariants.{LookKeys}
use Rattle.nio_history.specs.declared.act.Act.TheVariants.{Publish, LookReg, Enrol, TakeTurn, BeginLook, GiveTurn}
use Rattle.nio_history.specs.declared.act.Act.TheVariants.{Remove}
use Rattle.nio_history.specs.declared.act.Act.TheVariants.{LookMark, Mark, UnselectBit, EndWake, LookChannels}
use Rattle.nio_history.specs.declared.act.Act.TheVariants.{RaiseChannels, TryHoldBit, Release, SetMode, CloseBit}
use Rattle.nio_history.specs.declared.act.Act.TheVariants.{ShutBit}
use Rattle.nio_history.specs.declared.act.Act.TheVariants.{Enter, Pin, Unpin, ClearMark, ClaimAgain, LookFree, PutFree}
use Rattle.nio_history.specs.declared.act.Act.TheVariants.{TakeFree}
use Rattle.nio_history.specs.declared.event.Event.{Event}
use Rattle.nio_history.specs.declared.found.Chan.{Chan}
use Rattle.nio_history.specs.declared.found.GateWord.{GateWord}
use Rattle.nio_history.specs.declared.found.Stage.{Stage}
use Rattle.nio_history.specs.declared.act.Act.TheVariants.{Reopen, Touch, LookTouched, TakeTouched, LookIndex, TakeList}
use Rattle.nio_history.specs.Sets.{was_opened, was_closed}
use Rattle.nio_base.specs.Kind.{is_same_kind}
use Rattle.nio_history.specs.Permanent.{channel_of_kind, channel_opened, list_had_by}

-- ---- what a step leaves

-- one step of `me`, on a pass that holds the numbers `Holds`: between what the pass had seen and the step
-- there are only events of callers that the pass doesn't hold
pub record Leaves (l : Limits) (Holds : CallerNo → Type 0) (me : CallerNo) (act : Act)
    (before after : List Event) : Type 0 where
  pub between : List Event
  pub parts : after ≡ before ++ (between ++ event_of me act ∷ [])
  pub own : mine me between ≡ []
  pub others : (n : CallerNo) → Holds n → n ≢ me → mine n between ≡ []
  -- its condition is true, and what it found is what the state before it gives
  pub step : IsStep l (before ++ between) (event_of me act)
  -- the state after it is its effect
  pub state : state_after after ≡ effect (state_after (before ++ between)) me act

-- on a pass that holds the numbers that pass the test `held`
abbrev pub StepsLeave : Type 0
StepsLeave = (l : Limits) (held : CallerNo → Bool) (me : CallerNo) (act : Act) (before after : List Event)
    → HistoryClause l (λ n. IsTrue (held n)) me (act ∷ []) before after
    → Leaves l (λ n. IsTrue (held n)) me act before after

-- ---- what is permanent, by what a step finds

-- which permanent facts follow from a gate, a channel and a stage that are found

abbrev pub gate_tells : ℕ → GateWord → PermanentFact → Bool
gate_tells s found (selector_shut s') = (s == s') && found.shut
gate_tells s found _ = false

abbrev pub channel_tells : ℕ → Chan → PermanentFact → Bool
channel_tells c found (channel_made c') = (c == c') && found.made
channel_tells c found (channel_of_kind c' kind) = (c == c') && (found.made && is_same_kind found.kind kind)
channel_tells c found (channel_opened c' serial) = (c == c') && was_opened found serial
channel_tells c found (channel_closed c' serial) = (c == c') && was_closed found serial
channel_tells c found _ = false

abbrev pub stage_tells : ℕ → ℕ → Stage → PermanentFact → Bool
stage_tells s i found (index_claimed s' i') = (s == s') && (i == i') && found.claimed
stage_tells s i found (key_claimed s' i' serial) = (s == s') && (i == i') && was_claimed found serial
stage_tells s i found (key_published s' i' serial) = (s == s') && (i == i') && was_published found serial
stage_tells s i found (key_cancelled s' i' serial) = (s == s') && (i == i') && was_cancelled found serial
stage_tells s i found (key_removed s' i' serial) = (s == s') && (i == i') && was_removed found serial
stage_tells s i found _ = false

-- and the word of the selectors and the two high-water marks

abbrev pub selectors_tell : ℕ → PermanentFact → Bool
selectors_tell found (selector_made s) = bit_at found s == 1
selectors_tell found _ = false

abbrev pub keys_high_tells : ℕ → ℕ → PermanentFact → Bool
keys_high_tells s found (below_keys_high s' i) = (s == s') && nat_lt i found
keys_high_tells s found _ = false

abbrev pub channels_high_tells : ℕ → PermanentFact → Bool
channels_high_tells found (below_channels_high c) = nat_lt c found
channels_high_tells found _ = false

-- the caller that has a selector's list, which it has for good
abbrev pub lister_tells : SelNo → Option CallerNo → PermanentFact → Bool
lister_tells s (Some n) (list_had_by s' n') = (s.0 == s'.0) && (n.0 == n'.0)
lister_tells s (Some n) _ = false
lister_tells s None _ = false

-- a flag, another holder, a set of operations, a mark and an attachment tell of none here
abbrev pub nothing : PermanentFact → Bool
nothing f = false

-- ---- what is found, for each kind of step

pub record FoundRow : Type 0 where
  -- whether what the step finds stands there after it too
  pub stands_after : Bool
  -- which permanent facts follow from what it finds: of a gate, a channel, a stage, the word of the selectors, a
  -- high-water mark or the caller that has a list
  pub tells : PermanentFact → Bool

abbrev pub found_row : Act → FoundRow
found_row (DrawBit n found) = record { stands_after = false; tells = nothing }
found_row (MakeSelector s found) = record { stands_after = false; tells = nothing }
found_row (LookSelectors found) = record { stands_after = true; tells = selectors_tell found }
found_row (Wake s found) = record { stands_after = false; tells = nothing }
found_row (LookGate s found) = record { stands_after = true; tells = gate_tells s.0 found }
found_row (SetInterrupt n found) = record { stands_after = false; tells = nothing }
found_row (TakeInterrupt found) = record { stands_after = false; tells = nothing }
found_row (LookInterrupt found) = record { stands_after = true; tells = nothing }
found_row (LookKey s i found) = record { stands_after = true; tells = stage_tells s.0 i found }
found_row (CancelKey s i found) = record { stands_after = false; tells = stage_tells s.0 i found }
found_row (LookInterest s i found) = record { stands_after = true; tells = nothing }
found_row (SwapInterest s i ops found) = record { stands_after = false; tells = nothing }
found_row (OrInterest s i ops found) = record { stands_after = false; tells = nothing }
found_row (AndInterest s i ops found) = record { stands_after = false; tells = nothing }
found_row (SwapNote s i att found) = record { stands_after = false; tells = nothing }
found_row (LookNote s i found) = record { stands_after = true; tells = nothing }
found_row (MakeChannel c kind found) = record { stands_after = false; tells = nothing }
found_row (LookChannel c found) = record { stands_after = true; tells = channel_tells c.0 found }
found_row (Claim s i c found) = record { stands_after = false; tells = nothing }
found_row (RaiseKeys s n found) = record { stands_after = false; tells = keys_high_tells s.0 found }
found_row (LookKeys s found) = record { stands_after = true; tells = keys_high_tells s.0 found }
found_row (Publish s i found) = record { stands_after = false; tells = stage_tells s.0 i found }
found_row (LookReg c s found) = record { stands_after = true; tells = nothing }
found_row (Enrol c s i serial found) = record { stands_after = false; tells = nothing }
found_row (TakeTurn s found) = record { stands_after = false; tells = nothing }
found_row (BeginLook s found) = record { stands_after = true; tells = gate_tells s.0 found }
found_row (GiveTurn s) = record { stands_after = false; tells = nothing }
found_row (Remove s i found) = record { stands_after = false; tells = stage_tells s.0 i found }
found_row (LookMark s i found) = record { stands_after = true; tells = nothing }
found_row (Mark s i from told found) = record { stands_after = false; tells = nothing }
found_row (UnselectBit s i found) = record { stands_after = false; tells = nothing }
found_row (EndWake s found) = record { stands_after = false; tells = gate_tells s.0 found }
found_row (LookChannels found) = record { stands_after = true; tells = channels_high_tells found }
found_row (RaiseChannels n found) = record { stands_after = false; tells = channels_high_tells found }
found_row (TryHoldBit c found) = record { stands_after = false; tells = nothing }
found_row (Release c) = record { stands_after = false; tells = nothing }
found_row (SetMode c blocking found) = record { stands_after = false; tells = channel_tells c.0 found }
found_row (CloseBit c from found) = record { stands_after = false; tells = channel_tells c.0 found }
found_row (ShutBit s found) = record { stands_after = false; tells = nothing }
found_row (Enter s found) = record { stands_after = true; tells = nothing }
found_row (Pin s i found) = record { stands_after = true; tells = stage_tells s.0 i found }
found_row (Unpin s i) = record { stands_after = false; tells = nothing }
found_row (ClearMark s i found) = record { stands_after = false; tells = nothing }
found_row (ClaimAgain s i c from found) = record { stands_after = false; tells = nothing }
found_row (LookFree s j found) = record { stands_after = true; tells = nothing }
found_row (PutFree s i) = record { stands_after = false; tells = nothing }
found_row (TakeFree s i found) = record { stands_after = false; tells = nothing }
found_row (Reopen c from found) = record { stands_after = false; tells = nothing }
found_row (Touch s i found) = record { stands_after = false; tells = nothing }
found_row (LookTouched s j found) = record { stands_after = true; tells = nothing }
found_row (TakeTouched s j found) = record { stands_after = false; tells = nothing }
found_row (LookIndex s i found) = record { stands_after = true; tells = stage_tells s.0 i found.stage }
found_row (TakeList s found) = record { stands_after = false; tells = lister_tells s found }

-- what the step finds stands there after it too
abbrev pub is_look : Act → Bool
is_look act = (found_row act).stands_after

-- what the step found tells that the fact stands
abbrev pub finds : Act → PermanentFact → Bool
finds act f = (found_row act).tells f

-- ---- the laws

-- just after a look what it found is what the state gives
abbrev pub LooksTell : Type 0
LooksTell = (l : Limits) (me : CallerNo) (act : Act) (past later : List Event)
    → IsLegal l (past ++ event_of me act ∷ later)
    → IsTrue (is_look act) → Answers (state_after (past ++ event_of me act ∷ [])) me act

-- whatever a caller found so, whenever that was, stands
abbrev pub FoundStands : Type 0
FoundStands = (l : Limits) (n : CallerNo) (events : List Event) → IsLegal l events
    → (f : PermanentFact) → IsTrue (has (λ act. finds act f) (mine n events)) → IsTrue (stands f (state_after events))
