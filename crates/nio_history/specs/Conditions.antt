-- When a caller may make each kind of step. The lines stand in the order in which `Act` lists the kinds.
--
-- The numbers of a step are below the table's limits; operations and attachments are of their types
-- in `Act`, below 256 and below 2 ^ 64, of which no condition speaks.
--
-- Read in the state: what is permanent (made, claimed); who has a turn, a hold, a pin, a taken index or a list; who
-- is amid a change of an index; who has begun, closes or has entered; that a key is in the cancelled set, where the caller selects, since then
-- nobody else removes it; which indexes the selection in progress has still to put.
-- Read in the caller's own acts: its claim of an index, while it has the pin of that claim, and whether it
-- published the key since; what it found under its present hold, among it that an enrolled key is outside the
-- key set; what it found of an index since it took it; what a closer found since it entered.
use Rattle.std.specs.Prelude.{◌≡◌, ℕ, ◌==◌, ◌<◌, ◌≤◌, ◌*◌, Bool, false, not, ◌&&◌, ◌||◌, Option, Some, None, List}
use Rattle.std.specs.Prelude.{IsTrue, ⊤}
use Rattle.nio_base.specs.declared.limits.Limits.{Limits}
use Rattle.nio_base.specs.declared.numbers.CallerNo.{CallerNo}
use Rattle.nio_base.specs.declared.numbers.ChanNo.{ChanNo}
use Rattle.nio_base.specs.declared.numbers.SelNo.{SelNo}
use Rattle.nio_history.specs.OwnEvents.{OwnClaim, has, last, under, since_entered, since_taken, stage_found}
use Rattle.nio_history.specs.OwnEvents.{finds_unblocked, finds_below, own_claim, is_unpublished, is_clear}
use Rattle.nio_history.specs.Sets.{in_cancelled_set}
use Rattle.nio_base.specs.Numbers.{last_serial}
use Rattle.nio_history.specs.State.{State}
use Rattle.nio_history.specs.declared.act.Act.{Act}
use Rattle.nio_history.specs.declared.act.Act.TheVariants.{DrawBit, MakeSelector, LookSelectors, Wake, LookGate}
use Rattle.nio_history.specs.declared.act.Act.TheVariants.{SetInterrupt, TakeInterrupt, LookInterrupt, LookKey}
use Rattle.nio_history.specs.declared.act.Act.TheVariants.{CancelKey}
use Rattle.nio_history.specs.declared.act.Act.TheVariants.{LookInterest, SwapInterest, OrInterest, AndInterest}
use Rattle.nio_history.specs.declared.act.Act.TheVariants.{SwapNote}
use Rattle.nio_history.specs.declared.act.Act.TheVariants.{LookNote, MakeChannel, LookChannel, Claim, RaiseKeys}
use Rattle.nio_history.specs.declared.act.Act.TheVariants.{LookKeys}
use Rattle.nio_history.specs.declared.act.Act.TheVariants.{Publish, LookReg, Enrol, TakeTurn, BeginLook, GiveTurn}
use Rattle.nio_history.specs.declared.act.Act.TheVariants.{Remove}
use Rattle.nio_history.specs.declared.act.Act.TheVariants.{LookMark, Mark, UnselectBit, EndWake, LookChannels}
use Rattle.nio_history.specs.declared.act.Act.TheVariants.{RaiseChannels, TryHoldBit, Release, SetMode, CloseBit}
use Rattle.nio_history.specs.declared.act.Act.TheVariants.{ShutBit}
use Rattle.nio_history.specs.declared.act.Act.TheVariants.{Enter, Pin, Unpin, ClearMark, ClaimAgain, LookFree, PutFree}
use Rattle.nio_history.specs.declared.act.Act.TheVariants.{TakeFree}
use Rattle.nio_history.specs.declared.act.Act.TheVariants.{Reopen, Touch, LookTouched, TakeTouched, LookIndex, TakeList}
use Rattle.nio_history.specs.declared.found.Chan.{Chan}
use Rattle.nio_history.specs.Sets.{was_opened}
use Rattle.std.specs.Prelude.{IsFalse}

-- ---- the numbers: below the limit, whether there is such a thing or not

abbrev pub IsCaller : Limits → CallerNo → Type 0
IsCaller l n = n.0 < l.callers

abbrev pub IsSelector : Limits → SelNo → Type 0
IsSelector l s = s.0 < l.selectors

abbrev pub IsChannel : Limits → ChanNo → Type 0
IsChannel l c = c.0 < l.channels

abbrev pub IsKey : Limits → SelNo → ℕ → Type 0
IsKey l s i = IsSelector l s × (i < l.keys)

-- ---- what is read in the state

abbrev pub is_made : State → ChanNo → Bool
is_made st c = (st.chan c.0).made

abbrev pub is_claimed : State → SelNo → ℕ → Bool
is_claimed st s i = (st.key s.0 i).claimed

-- every channel below n is made
abbrev pub AllMade : State → ℕ → Type 0
AllMade st n = (c : ℕ) → c < n → IsTrue (st.chan c).made

-- every index of the selector below n is claimed
abbrev pub AllClaimed : State → SelNo → ℕ → Type 0
AllClaimed st s n = (i : ℕ) → i < n → IsTrue (st.key s.0 i).claimed

-- a channel that is open, of the kind that number c has, and that c has or had
pub record WasOpen (st : State) (c : ChanNo) (from : Chan) : Type 0 where
  pub made : IsTrue from.made
  pub open_then : IsFalse from.closed
  pub kind : from.kind ≡ (st.chan c.0).kind
  pub was : IsTrue (was_opened (st.chan c.0) from.serial)

-- the number that stands there, if any, is that of `me`
abbrev pub is_held_by : CallerNo → Option CallerNo → Bool
is_held_by me None = false
is_held_by me (Some n) = n.0 == me.0

-- `me` holds the channel
abbrev pub holds : State → CallerNo → ChanNo → Bool
holds st me c = is_held_by me (st.hold c.0)

-- `me` has the turn of the selector
abbrev pub has_turn : State → CallerNo → SelNo → Bool
has_turn st me s = is_held_by me (st.turn s.0)

-- `me` has the turn, and found the gate not shut since it took it
abbrev pub has_begun : State → CallerNo → SelNo → Bool
has_begun st me s = has_turn st me s && st.begun s.0

-- `me` shut the selector
abbrev pub is_closer : State → CallerNo → SelNo → Bool
is_closer st me s = is_held_by me (st.closer s.0)

-- `me` shut the selector, and found its turn free after that
abbrev pub has_entered : State → CallerNo → SelNo → Bool
has_entered st me s = is_closer st me s && st.entered s.0

-- `me` has a pin on the index
abbrev pub has_pin : State → CallerNo → SelNo → ℕ → Bool
has_pin st me s i = st.pinned s.0 i me.0

-- `me` is amid a change of the index: it has a pin on it, and touched it since it pinned it
abbrev pub is_amid : State → CallerNo → SelNo → ℕ → Bool
is_amid st me s i = st.amid s.0 i me.0

-- `me` has the list of the selector
abbrev pub has_list : State → CallerNo → SelNo → Bool
has_list st me s = is_held_by me (st.lister s.0)

-- `me` took the index when it was free, and neither put it back nor claimed it since
abbrev pub has_taken : State → CallerNo → SelNo → ℕ → Bool
has_taken st me s i = is_held_by me (st.taker s.0 i)

-- a selecting caller removes a key of the cancelled set
abbrev pub may_remove_cancelled : State → CallerNo → SelNo → ℕ → Bool
may_remove_cancelled st me s i = has_begun st me s && in_cancelled_set (st.key s.0 i)

-- a selecting caller puts an index whose key its selection removed, at a serial below the last
abbrev pub may_put_due : State → CallerNo → SelNo → ℕ → Bool
may_put_due st me s i = has_begun st me s && st.put_due s.0 i

-- `me` holds the channel of its claim, and found it non-blocking under this hold
abbrev pub may_publish : State → List Act → CallerNo → Option OwnClaim → Bool
may_publish st own me None = false
may_publish st own me (Some claim) =
    holds st me claim.channel && has (finds_unblocked claim.channel.0) (under claim.channel.0 own)

-- a closer that has entered removes an index that it found below the high-water mark since
abbrev pub may_clear_out : State → List Act → CallerNo → SelNo → ℕ → Bool
may_clear_out st own me s i = has_entered st me s && has (finds_below s.0 i) (since_entered s.0 own)

-- ---- the conditions

-- `own` is what the caller did before
abbrev pub Condition : Limits → List Act → State → CallerNo → Act → Type 0
-- the caller draws its own number, and found it not drawn: else there is no event
Condition l own st me (DrawBit n found) = IsCaller l n × (me ≡ n) × (found ≡ false)
Condition l own st me (MakeSelector s found) = IsSelector l s
Condition l own st me (LookSelectors found) = ⊤
-- s is made
Condition l own st me (Wake s found) = IsSelector l s × IsTrue (st.selector s.0)
Condition l own st me (LookGate s found) = IsSelector l s
Condition l own st me (SetInterrupt n found) = IsCaller l n
Condition l own st me (TakeInterrupt found) = ⊤
Condition l own st me (LookInterrupt found) = ⊤
Condition l own st me (LookKey s i found) = IsKey l s i
-- i is claimed; the caller has a pin on it, and touched it since it pinned it
Condition l own st me (CancelKey s i found) =
    IsKey l s i × IsTrue (is_claimed st s i) × IsTrue (has_pin st me s i) × IsTrue (is_amid st me s i)
-- the caller has a pin on i, or has begun on s
Condition l own st me (LookInterest s i found) = IsKey l s i × IsTrue (has_pin st me s i || has_begun st me s)
-- the caller has a pin on i, and touched it since it pinned it
Condition l own st me (SwapInterest s i ops found) =
    IsKey l s i × IsTrue (has_pin st me s i) × IsTrue (is_amid st me s i)
-- the caller has a pin on i, and touched it since it pinned it
Condition l own st me (OrInterest s i ops found) = IsKey l s i × IsTrue (has_pin st me s i) × IsTrue (is_amid st me s i)
-- the caller has a pin on i, and touched it since it pinned it
Condition l own st me (AndInterest s i ops found) =
    IsKey l s i × IsTrue (has_pin st me s i) × IsTrue (is_amid st me s i)
-- the caller has a pin on i
Condition l own st me (SwapNote s i att found) = IsKey l s i × IsTrue (has_pin st me s i)
-- the caller has a pin on i
Condition l own st me (LookNote s i found) = IsKey l s i × IsTrue (has_pin st me s i)
-- all channels below c are made
Condition l own st me (MakeChannel c kind found) = IsChannel l c × AllMade st c.0
Condition l own st me (LookChannel c found) = IsChannel l c
-- the caller holds c; all indexes below i are claimed
Condition l own st me (Claim s i c found) = IsKey l s i × IsChannel l c × IsTrue (holds st me c) × AllClaimed st s i
-- all indexes below n are claimed
Condition l own st me (RaiseKeys s n found) = IsSelector l s × (n ≤ l.keys) × AllClaimed st s n
Condition l own st me (LookKeys s found) = IsSelector l s
-- the caller claimed i and still has the pin of that claim, and touched i since it pinned it; it holds the channel
-- that it claimed i for, which it found non-blocking under this hold
Condition l own st me (Publish s i found) =
    IsKey l s i × IsTrue (may_publish st own me (own_claim s.0 i own)) × IsTrue (is_amid st me s i)
Condition l own st me (LookReg c s found) = IsChannel l c × IsSelector l s
-- the caller claimed i for c with this serial, still has the pin of that claim, and holds c; the key that was
-- enrolled till now, if any, it found outside the key set
Condition l own st me (Enrol c s i serial found) =
    IsChannel l c × IsKey l s i × (own_claim s.0 i own ≡ Some (record { channel = c; serial = serial }))
    × IsTrue (holds st me c)
    × IsTrue (is_clear c.0 s.0 own)
Condition l own st me (TakeTurn s found) = IsSelector l s
-- the caller has the turn
Condition l own st me (BeginLook s found) = IsSelector l s × IsTrue (has_turn st me s)
-- the caller has the turn
Condition l own st me (GiveTurn s) = IsSelector l s × IsTrue (has_turn st me s)
-- either the caller has begun on s and the key is in the cancelled set, or it has entered s and found i
-- below the keys' high-water mark since
Condition l own st me (Remove s i found) =
    IsKey l s i × IsTrue (may_remove_cancelled st me s i || may_clear_out st own me s i)
-- the caller has a pin on i, or has begun on s
Condition l own st me (LookMark s i found) = IsKey l s i × IsTrue (has_pin st me s i || has_begun st me s)
-- the caller has begun on s; what is told isn't empty
Condition l own st me (Mark s i from told found) = IsKey l s i × IsTrue (has_begun st me s) × IsTrue (not (told == 0))
-- the caller has a pin on i
Condition l own st me (UnselectBit s i found) = IsKey l s i × IsTrue (has_pin st me s i)
-- the caller has begun on s
Condition l own st me (EndWake s found) = IsSelector l s × IsTrue (has_begun st me s)
Condition l own st me (LookChannels found) = ⊤
-- all channels below n are made
Condition l own st me (RaiseChannels n found) = (n ≤ l.channels) × AllMade st n
-- c is made
Condition l own st me (TryHoldBit c found) = IsChannel l c × IsTrue (is_made st c)
-- the caller holds c
Condition l own st me (Release c) = IsChannel l c × IsTrue (holds st me c)
-- the caller holds c; for blocking mode, each enrolled key of c it found outside the key set, or not
-- enrolled, under this hold
Condition l own st me (SetMode c blocking found) =
    IsChannel l c × IsTrue (holds st me c) × (IsTrue blocking → (s : ℕ) → s < l.selectors → IsTrue (is_clear c.0 s own))
-- `from` is an open channel of the kind that c has, with a serial that c has or had
Condition l own st me (CloseBit c from found) = IsChannel l c × WasOpen st c from
Condition l own st me (ShutBit s found) = IsSelector l s
-- the caller is the closer
Condition l own st me (Enter s found) = IsSelector l s × IsTrue (is_closer st me s)
-- i is claimed; the caller has no pin on it
Condition l own st me (Pin s i found) = IsKey l s i × IsTrue (is_claimed st s i) × IsTrue (not (has_pin st me s i))
-- the caller has a pin on i
Condition l own st me (Unpin s i) = IsKey l s i × IsTrue (has_pin st me s i)
-- the caller claimed i, and hasn't published the key since: so the key that it claimed is the one that i has
Condition l own st me (ClearMark s i found) = IsKey l s i × IsTrue (is_unpublished s.0 i own)
-- the caller holds c and has taken i; `from` is what it found of i since it took it, with a serial below the last
Condition l own st me (ClaimAgain s i c from found) =
    IsKey l s i × IsChannel l c × IsTrue (holds st me c) × IsTrue (has_taken st me s i)
    × (last (stage_found s.0 i) (since_taken s.0 i own) ≡ Some from)
    × (from.serial < last_serial)
-- there are indexes in these 64
Condition l own st me (LookFree s j found) = IsSelector l s × (64 * j < l.keys)
-- the caller has taken i; or it has begun on s, and its selection removed the key of i, at a serial below the
-- last, and hasn't put i yet
Condition l own st me (PutFree s i) = IsKey l s i × IsTrue (has_taken st me s i || may_put_due st me s i)
Condition l own st me (TakeFree s i found) = IsKey l s i
-- the caller holds c; `from` is made and closed, with a serial below the last; each enrolled key of c it found
-- outside the key set, or not enrolled, under this hold
Condition l own st me (Reopen c from found) =
    IsChannel l c × IsTrue (holds st me c) × IsTrue from.made × IsTrue from.closed × (from.serial < last_serial)
    × ((s : ℕ) → s < l.selectors → IsTrue (is_clear c.0 s own))
-- the caller has a pin on i, or has begun on s
Condition l own st me (Touch s i found) = IsKey l s i × IsTrue (has_pin st me s i || has_begun st me s)
-- there are indexes in these 64
Condition l own st me (LookTouched s j found) = IsSelector l s × (64 * j < l.keys)
-- there are indexes in these 64; the caller has begun on s, and has its list
Condition l own st me (TakeTouched s j found) =
    IsSelector l s × (64 * j < l.keys) × IsTrue (has_begun st me s) × IsTrue (has_list st me s)
Condition l own st me (LookIndex s i found) = IsKey l s i
Condition l own st me (TakeList s found) = IsSelector l s
