-- Laws of one call, and of the calls between two wakeups: by either of the rules, for all limits, from every state,
-- also from those that no script reaches. They follow from the documented system, and say what a reader may rely on
-- without going through its calls.
use Rattle.std.specs.Prelude.{◌≡◌, ◌≢◌, ◌⊎◌, ℕ, ◌<◌, ◌==◌, Bool, true, false, not, ◌&&◌, ◌||◌, if◌then◌else◌, Option}
use Rattle.std.specs.Prelude.{Some, None, is_some, List, [], ◌∷◌, ◌++◌, IsTrue, IsFalse}
use Rattle.std.specs.Int.{bit_at}
use Rattle.std.specs.List.{All, Contains}
use Rattle.nio_base.specs.declared.limits.Limits.{Limits}
use Rattle.nio_base.specs.declared.numbers.CallerNo.{CallerNo}
use Rattle.nio_base.specs.declared.numbers.KeyId.{KeyId}
use Rattle.nio_base.specs.declared.numbers.SelNo.{SelNo}
use Rattle.nio_history.specs.Sets.{in_cancelled_set, in_key_set, is_valid}
use Rattle.nio_history.specs.declared.found.Mark.{Mark}
use Rattle.nio_language.specs.WordRows.{word_row}
use Rattle.nio_language.specs.declared.call.Call.{Call}
use Rattle.nio_language.specs.declared.call.Call.TheVariants as call
use Rattle.nio_language.specs.declared.call.ScriptCall.{ScriptCall}
use Rattle.nio_language.specs.declared.call.Waiting.{Waiting}
use Rattle.nio_language.specs.declared.group_call.GroupCall.{GroupCall}
use Rattle.nio_language.specs.declared.group_call.GroupCall.TheVariants as group
use Rattle.nio_language.specs.declared.group_reply.GroupReply.{GroupReply}
use Rattle.nio_language.specs.declared.group_reply.GroupReply.TheVariants as of_group
use Rattle.nio_language.specs.declared.reply.Reply.{Reply}
use Rattle.nio_language.specs.declared.reply.Reply.TheVariants as reply
use Rattle.nio_plain.specs.Answer.{left_from}
use Rattle.nio_plain.specs.ScriptState.{ScriptState, Selection}
use Rattle.nio_plain.specs.Seq.{seq}
use Rattle.nio_plain.specs.Seq.Replies.{Replied}
use Rattle.nio_plain.specs.Seq.Names.{key_at}
use Rattle.nio_plain.specs.Seq.Pipes.{own_sink}
use Rattle.nio_plain.specs.Seq.Selections.{own_selection, told_bits}
use Rattle.nio_plain.specs.declared.rules.Rules.{Rules}
use Rattle.nio_plain.specs.declared.rules.Rules.TheVariants.{Now}

-- REFUSALS. A reply that calls on the group alone have, and that refuses.
abbrev pub group_refuses : GroupReply → Bool
group_refuses (of_group.Channel g) = false
group_refuses (of_group.Op n) = false
group_refuses (of_group.Completed n finished) = false
group_refuses of_group.ShutdownGroup = true
group_refuses of_group.WrongKind = true
group_refuses of_group.AlreadyBound = true
group_refuses of_group.AlreadyConnected = true
group_refuses of_group.ConnectionPending = true
group_refuses of_group.NotYetConnected = true
group_refuses of_group.NotYetBound = true
group_refuses of_group.ReadPending = true
group_refuses of_group.WritePending = true
group_refuses of_group.AcceptPending = true
group_refuses of_group.OpsSpent = true
group_refuses of_group.FlightFull = true
group_refuses of_group.NotPending = true
group_refuses of_group.WrongOutcome = true
group_refuses of_group.NotRunning = true

-- A reply that refuses: `already` is counted with them, since what the call asks for was done
-- before, and so is `again`, since the selection goes on as it was.
abbrev pub refuses : Reply → Bool
refuses (reply.Selector s) = false
refuses (reply.Channel c) = false
refuses (reply.Key k) = false
refuses (reply.Number n) = false
refuses (reply.Names keys) = false
refuses reply.«Ok» = false
refuses reply.Yes = false
refuses reply.No = false
refuses reply.None = false
refuses (reply.Looked pairs) = false
refuses (reply.Selected count why) = false
refuses reply.Again = true
refuses reply.Left = false
refuses reply.Already = true
refuses reply.Closing = false
refuses reply.Closed = false
refuses reply.SelectorsSpent = true
refuses reply.ChannelsSpent = true
refuses reply.ClosedChannel = true
refuses reply.IllegalBlockingMode = true
refuses reply.IllegalOps = true
refuses reply.CancelledKey = true
refuses reply.ClosedSelector = true
refuses reply.Full = true
refuses reply.Busy = true
refuses reply.NegativeTimeout = true
refuses reply.NotSelecting = true
refuses reply.NotClosing = true
refuses reply.NoCaller = true
refuses reply.NoSelector = true
refuses reply.NoChannel = true
refuses reply.NoKey = true
refuses (reply.Ends source sink) = false
refuses (reply.Bytes bytes) = false
refuses reply.End = false
refuses reply.NotOwner = true
refuses reply.ClosedByInterrupt = true
refuses reply.AsyncClose = true
refuses reply.BrokenPipe = true
refuses (reply.Group r) = group_refuses r

-- a call on the group with a reply that changes nothing
abbrev pub is_without_group_effect : GroupCall → Reply → Bool
is_without_group_effect (group.Gopen kind) r = refuses r
is_without_group_effect (group.Gbind g) r = refuses r
is_without_group_effect (group.Start g kind len) r = refuses r
is_without_group_effect (group.Report n outcome) r = refuses r
is_without_group_effect group.Take r = refuses r
is_without_group_effect (group.Done n) r = refuses r
is_without_group_effect (group.Gclose g) r = refuses r
is_without_group_effect group.Shutdown r = refuses r
is_without_group_effect group.ShutdownNow r = refuses r
is_without_group_effect group.IsShutdown r = true
is_without_group_effect group.Terminated r = true

-- a call with a reply that changes nothing: each call that is refused, and a call that only asks,
-- whatever its reply
abbrev pub is_without_effect : Call → Reply → Bool
is_without_effect call.Selector r = refuses r
is_without_effect (call.Channel kind) r = refuses r
is_without_effect (call.Blocking c on) r = refuses r
is_without_effect (call.IsBlocking c) r = true
is_without_effect (call.IsOpen c) r = true
is_without_effect (call.IsRegistered c) r = true
is_without_effect (call.KeyFor c s) r = true
is_without_effect (call.Register s c ops att) r = refuses r
is_without_effect (call.Closec c) r = refuses r
is_without_effect (call.Valid s k) r = true
is_without_effect (call.Interest s k) r = true
is_without_effect (call.Ready s k) r = true
is_without_effect (call.Iset s k ops) r = refuses r
is_without_effect (call.Ior s k ops) r = refuses r
is_without_effect (call.Iand s k ops) r = refuses r
is_without_effect (call.Cancel s k) r = refuses r
is_without_effect (call.Unselect s k) r = refuses r
is_without_effect (call.Attach s k att) r = refuses r
is_without_effect (call.Attachment s k) r = true
is_without_effect (call.Begin s waiting) r = refuses r
is_without_effect (call.Told s elapsed pairs) r = refuses r
is_without_effect (call.Failed s) r = refuses r
is_without_effect (call.Wakeup s) r = refuses r
is_without_effect (call.Close s) r = refuses r
is_without_effect (call.CloseEnd s) r = refuses r
is_without_effect (call.Keys s) r = true
is_without_effect (call.Selected s) r = true
is_without_effect (call.Interrupt target) r = refuses r
is_without_effect call.Interrupted r = refuses r
is_without_effect (call.Pipe target) r = refuses r
is_without_effect (call.Pwrite c bytes) r = refuses r
is_without_effect (call.Pread c n) r = refuses r
is_without_effect (call.Group g) r = is_without_group_effect g r

-- A refused call that changes a pipe or its channels all the same: an owner's call that finds its sink closed leaves
-- the seal; an interrupted caller's call closes its channel; a `pipe` that finds one channel left closes the
-- one that it made.
-- It is false for every other call and reply.
abbrev pub changes_pipe : ScriptState → CallerNo → Call → Reply → Bool
changes_pipe st me (call.Closec c) reply.Already = is_some (own_sink st.pipes me c)
changes_pipe st me (call.Pwrite c bytes) reply.ClosedChannel = true
changes_pipe st me (call.Pwrite c bytes) reply.ClosedByInterrupt = true
changes_pipe st me (call.Pread c n) reply.ClosedByInterrupt = true
changes_pipe st me (call.Pipe target) reply.ChannelsSpent = true
changes_pipe st me call.Selector r = false
changes_pipe st me (call.Channel kind) r = false
changes_pipe st me (call.Blocking c on) r = false
changes_pipe st me (call.IsBlocking c) r = false
changes_pipe st me (call.IsOpen c) r = false
changes_pipe st me (call.IsRegistered c) r = false
changes_pipe st me (call.KeyFor c s) r = false
changes_pipe st me (call.Register s c ops att) r = false
changes_pipe st me (call.Closec c) _ = false
changes_pipe st me (call.Valid s k) r = false
changes_pipe st me (call.Interest s k) r = false
changes_pipe st me (call.Ready s k) r = false
changes_pipe st me (call.Iset s k ops) r = false
changes_pipe st me (call.Ior s k ops) r = false
changes_pipe st me (call.Iand s k ops) r = false
changes_pipe st me (call.Cancel s k) r = false
changes_pipe st me (call.Unselect s k) r = false
changes_pipe st me (call.Attach s k att) r = false
changes_pipe st me (call.Attachment s k) r = false
changes_pipe st me (call.Begin s waiting) r = false
changes_pipe st me (call.Told s elapsed pairs) r = false
changes_pipe st me (call.Failed s) r = false
changes_pipe st me (call.Wakeup s) r = false
changes_pipe st me (call.Close s) r = false
changes_pipe st me (call.CloseEnd s) r = false
changes_pipe st me (call.Keys s) r = false
changes_pipe st me (call.Selected s) r = false
changes_pipe st me (call.Interrupt target) r = false
changes_pipe st me call.Interrupted r = false
changes_pipe st me (call.Pipe target) _ = false
changes_pipe st me (call.Pwrite c bytes) _ = false
changes_pipe st me (call.Pread c n) _ = false
changes_pipe st me (call.Group g) r = false

-- any other refused call changes nothing, nor does one that only asks
abbrev pub RefusalsChangeNothing : Type 0
RefusalsChangeNothing = (rules : Rules) (l : Limits) (st : ScriptState) (me : CallerNo) (c : Call)
    → let done = seq rules l st me c in
    IsTrue (is_without_effect c done.reply) → IsFalse (changes_pipe st me c done.reply) → done.left ≡ st

-- READINESS. What a call may select: the bits that its poller told of the key that an index has, and
-- that the caller's own selection looked for there. There is none but in a `told` of a selection in progress.
abbrev pub told_of : Option Selection → List (KeyId × ℕ) → KeyId → ℕ
told_of None pairs k = 0
told_of (Some selection) pairs k = told_bits selection.looked pairs k

abbrev pub newly_told : ScriptState → CallerNo → Call → ℕ → ℕ → ℕ
newly_told st me (call.Told t elapsed pairs) s i =
    if t.0 == s then told_of (own_selection st me s) pairs (key_at st.shared s i) else 0
newly_told st me _ s i = 0

abbrev pub HasBit : ℕ → ℕ → Type 0
HasBit ops bit = bit_at ops bit ≡ 1

-- what a mark may gain from these bits
pub record GainsOnly (before after : Mark) (bits : ℕ) : Type 0 where
  -- a bit of the ready set was there before, or is one of them
  pub ready : (bit : ℕ) → HasBit after.ready bit → HasBit before.ready bit ⊎ HasBit bits bit
  -- a key becomes selected only for some of them, and its ready set is then exactly these bits
  pub selected : IsFalse before.selected → IsTrue after.selected → (bits ≢ 0) × (after.ready ≡ bits)

-- a call marks a key for these bits, and for nothing else
abbrev pub OnlyToldBitsAreSelected : Type 0
OnlyToldBitsAreSelected = (rules : Rules) (l : Limits) (st : ScriptState) (me : CallerNo) (c : Call) (s i : ℕ)
    → GainsOnly (st.shared.mark s i) ((seq rules l st me c).left.shared.mark s i) (newly_told st me c s i)

-- a pair of the list gives the key a set that has the bit
pub record IsGiven (pairs : List (KeyId × ℕ)) (k : KeyId) (bit : ℕ) : Type 0 where
  pub ops : ℕ
  pub pair : Contains pairs (k, ops)
  pub has : HasBit ops bit

-- the call tells the bit of the key, by its index and serial, and the caller's own selection looked for it
-- there
pub record IsToldAndLookedFor (st : ScriptState) (me : CallerNo) (c : Call) (s : ℕ) (k : KeyId) (bit : ℕ) : Type 0 where
  pub name : SelNo
  pub elapsed : Bool
  pub pairs : List (KeyId × ℕ)
  pub selection : Selection
  pub called : c ≡ call.Told name elapsed pairs
  pub there : name.0 ≡ s
  pub own : own_selection st me s ≡ Some selection
  pub told : IsGiven pairs k bit
  pub looked_for : IsGiven selection.looked k bit

-- each of these bits was told in that call and looked for in that selection
abbrev pub BitsAreToldAndLookedFor : Type 0
BitsAreToldAndLookedFor = (st : ScriptState) (me : CallerNo) (c : Call) (s i bit : ℕ)
    → HasBit (newly_told st me c s i) bit → IsToldAndLookedFor st me c s (key_at st.shared s i) bit

-- SELECTIONS IN PROGRESS. A call began the selection: it is a `begin` there, the selection is the
-- caller's own, and what it looks at is what was replied: the keys of the key set that is left, each the
-- present one of its index, which are all valid, with their interests.
pub record IsBegunBy (me : CallerNo) (c : Call) (done : Replied) (s : ℕ) (selection : Selection) : Type 0 where
  pub name : SelNo
  pub waiting : Waiting
  pub called : c ≡ call.Begin name waiting
  pub there : name.0 ≡ s
  pub own : own_selection done.left me s ≡ Some selection
  pub replied : done.reply ≡ reply.Looked selection.looked
  pub present : All (λ p. p.0 ≡ key_at done.left.shared s p.0.index) selection.looked
  pub valid : All (λ p. IsTrue (is_valid (done.left.shared.key s p.0.index))
      × (p.1 ≡ done.left.shared.interest s p.0.index)) selection.looked
  pub all : (i : ℕ) → i < done.left.shared.keys_high s → IsTrue (in_key_set (done.left.shared.key s i))
      → Contains selection.looked (key_at done.left.shared s i, done.left.shared.interest s i)

-- a selection that is in progress after a call was so before, or the call began it
abbrev pub LookedIsReplied : Type 0
LookedIsReplied =
    (rules : Rules) (l : Limits) (st : ScriptState) (me : CallerNo) (c : Call) (s : ℕ) (selection : Selection)
    → (seq rules l st me c).left.selection s ≡ Some selection
    → (st.selection s ≡ Some selection) ⊎ IsBegunBy me c (seq rules l st me c) s selection

-- a selection of the selector ended in the call
abbrev pub is_end : ℕ → Call → Reply → Bool
is_end s (call.Told t elapsed pairs) (reply.Selected count why) = t.0 == s
is_end s _ _ = false

-- the same, or it was left after a failed poll
abbrev pub is_over : ℕ → Call → Reply → Bool
is_over s (call.Failed t) reply.Left = t.0 == s
is_over s c r = is_end s c r

-- by the rules of now the call in which a selection ends leaves no key in the cancelled set of its selector: neither a
-- looked one nor one that was registered and cancelled meanwhile
abbrev pub EndLeavesNoneCancelled : Type 0
EndLeavesNoneCancelled = (l : Limits) (st : ScriptState) (me : CallerNo) (c : Call) (s i : ℕ)
    → let done = seq Now l st me c in
    IsTrue (is_end s c done.reply) → IsFalse (in_cancelled_set (done.left.shared.key s i))

-- a caller's own selection stays so, as it is, until the caller itself makes the call in which it is over
abbrev pub OnlyItselfEndsASelection : Type 0
OnlyItselfEndsASelection =
    (rules : Rules) (l : Limits) (st : ScriptState) (me other : CallerNo) (c : Call) (s : ℕ) (selection : Selection)
    → own_selection st me s ≡ Some selection → let done = seq rules l st other c in
    (own_selection done.left me s ≡ Some selection) ⊎ ((other.0 ≡ me.0) × IsTrue (is_over s c done.reply))

-- WAKEUPS

abbrev pub is_woken : ScriptState → ℕ → Bool
is_woken st s = (st.shared.gate s).woken

-- the call was a wakeup of the selector, replied `ok`
abbrev pub is_wakeup : ℕ → Call → Reply → Bool
is_wakeup s (call.Wakeup t) reply.«Ok» = t.0 == s
is_wakeup s _ _ = false

-- a wakeup is pending after a call exactly where the call was one, or where one was pending before and
-- no selection of its selector ended in the call
abbrev pub WakeupsArePending : Type 0
WakeupsArePending = (rules : Rules) (l : Limits) (st : ScriptState) (me : CallerNo) (c : Call) (s : ℕ)
    → let done = seq rules l st me c in
    is_woken done.left s ≡ (is_wakeup s c done.reply || (is_woken st s && not (is_end s c done.reply)))

-- while one is pending a further wakeup, of any caller, leaves the state as it is
abbrev pub FurtherWakeupsChangeNothing : Type 0
FurtherWakeupsChangeNothing = (rules : Rules) (l : Limits) (st : ScriptState) (me : CallerNo) (s : SelNo)
    → IsTrue (is_woken st s.0) → (seq rules l st me (call.Wakeup s)).left ≡ st

-- a wakeup is replied `ok` by every selector that is made, whatever its state
abbrev pub WakeupsHaveReplies : Type 0
WakeupsHaveReplies = (rules : Rules) (l : Limits) (st : ScriptState) (me : CallerNo) (s : SelNo)
    → me.0 < l.callers → IsTrue (st.shared.selector s.0) → (seq rules l st me (call.Wakeup s)).reply ≡ reply.«Ok»

-- in none of the calls from a state on a selection of the selector ends
abbrev pub NoneEnds : Rules → Limits → ScriptState → ℕ → List ScriptCall → Type 0
NoneEnds rules l st s [] = Unit {0}
NoneEnds rules l st s (c ∷ calls) =
    let done = seq rules l st c.caller c.call in
    IsFalse (is_end s c.call done.reply) × NoneEnds rules l done.left s calls

-- several wakeups act as one: after a wakeup, and calls in which no selection of its selector ends, a
-- further one may be left out, and all later calls leave the same state
abbrev pub WakeupsActAsOne : Type 0
WakeupsActAsOne =
    (rules : Rules) (l : Limits) (st : ScriptState) (s : SelNo) (first further : ScriptCall)
    (between later : List ScriptCall)
    → IsTrue (is_wakeup s.0 first.call (seq rules l st first.caller first.call).reply)
    → NoneEnds rules l st s.0 (first ∷ between)
    → further.call ≡ call.Wakeup s
    → left_from rules l st (first ∷ between ++ further ∷ later) ≡ left_from rules l st (first ∷ between ++ later)

-- WAKING. Besides what its poller tells and the end of its time, three things end a selection that waits
-- (`is_again`): a pending wakeup of its selector, the closing of that selector, and its caller's interrupt status.

abbrev pub is_shut : ScriptState → ℕ → Bool
is_shut st s = (st.shared.gate s).shut

abbrev pub is_interrupted : ScriptState → ℕ → Bool
is_interrupted st n = st.shared.interrupted n

-- each of these that is there after was there before
pub record WakesNobody (before after : ScriptState) : Type 0 where
  pub woken : (s : ℕ) → IsTrue (is_woken after s) → IsTrue (is_woken before s)
  pub shut : (s : ℕ) → IsTrue (is_shut after s) → IsTrue (is_shut before s)
  pub interrupted : (n : ℕ) → IsTrue (is_interrupted after n) → IsTrue (is_interrupted before n)

-- a call whose word's row says that it doesn't wake sets no pending wakeup, shuts no selector and sets no caller's
-- interrupt status
abbrev pub OnlyWakingCallsWake : Type 0
OnlyWakingCallsWake = (rules : Rules) (l : Limits) (st : ScriptState) (me : CallerNo) (c : Call)
    → IsFalse (word_row c).wakes → WakesNobody st (seq rules l st me c).left
