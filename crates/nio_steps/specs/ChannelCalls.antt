-- The steps of the calls on channels.
use Rattle.std.specs.Prelude.{ℕ, suc, ◌+◌, ◌*◌, ◌/◌, ◌==◌, nat_lt, Bool, true, false, not, ◌&&◌, ◌||◌, if◌then◌else◌}
use Rattle.std.specs.Prelude.{Option, Some, None, is_some, Result, Ok, Err, List}
use Rattle.nio_base.specs.Kind.{valid_operations, is_same_kind}
use Rattle.nio_base.specs.declared.kind.Kind.{Kind}
use Rattle.nio_base.specs.declared.limits.Limits.{Limits}
use Rattle.nio_base.specs.declared.numbers.ChanId.{ChanId}
use Rattle.nio_base.specs.declared.numbers.ChanNo.{ChanNo}
use Rattle.nio_base.specs.declared.numbers.KeyId.{KeyId}
use Rattle.nio_base.specs.declared.numbers.KeyNo.{KeyNo}
use Rattle.nio_base.specs.declared.numbers.SelNo.{SelNo}
use Rattle.nio_history.specs.Acts.{takes_close}
use Rattle.nio_history.specs.Sets.{is_in_key_set, is_valid_key, fits_channel, is_open_channel, can_reopen}
use Rattle.nio_history.specs.declared.act.Act.{Act}
use Rattle.nio_history.specs.declared.found.Chan.{Chan}
use Rattle.nio_history.specs.declared.found.Stage.{Stage}
use Rattle.nio_base.specs.Ops.{is_within}
use Rattle.nio_steps.specs.KeyCalls.{has_bit, under_pin, cancel_plan}
use Rattle.nio_steps.specs.Names.{selector, channel, channel_of, key}
use Rattle.nio_steps.specs.Plan.{Plan, reply, ◌>>=◌, ◌>>◌, when}
use Rattle.nio_steps.specs.Runs.{Completes}
use Rattle.nio_steps.specs.Steps.{look_key, cancel_key, swap_interest, swap_note, make_channel, look_channel, claim}
use Rattle.nio_steps.specs.Steps.{raise_keys, look_keys, publish, look_reg, enrol, look_channels, raise_channels}
use Rattle.nio_steps.specs.Steps.{look_gate, try_hold_bit, release, set_mode, close_bit, unpin, clear_mark, claim_again}
use Rattle.nio_steps.specs.Steps.{look_free, put_free, take_free, reopen, touch}
use Rattle.nio_steps.specs.Sweeps.{sweep_to, seek_to}
use Rattle.nio_steps.specs.Waiting.{Retries}
use Rattle.nio_steps.specs.declared.refusal.ChannelError.{ChannelError}
use Rattle.nio_steps.specs.declared.refusal.ChannelError.TheVariants.{ChannelsSpent, IllegalOps, ClosedChannel, Busy}
use Rattle.nio_steps.specs.declared.refusal.ChannelError.TheVariants.{IllegalBlockingMode, CancelledKey, ClosedSelector}
use Rattle.nio_steps.specs.declared.refusal.ChannelError.TheVariants.{Full}
use Rattle.nio_steps.specs.declared.refusal.ReopenError.{ReopenError}
use Rattle.nio_steps.specs.declared.refusal.ReopenError.TheVariants.{Lost, Open, SerialsSpent, Registered}

-- makes the number's first channel, unless it was made
abbrev pub makes_channel : Kind → ChanNo → Plan (Option ChanNo)
makes_channel kind c = do
  was ← make_channel c kind
  reply (if was then None else Some c)

-- ---- a number's enrolled keys

-- the enrolled key, where it was found in the key set
abbrev pub enrolled_in_set : SelNo → Option KeyId → Plan (Option KeyNo)
enrolled_in_set s None = reply None
enrolled_in_set s (Some k) = do
  stage ← look_key s k.index
  reply (if is_in_key_set stage k.serial then Some (key s k) else None)

-- the key that is enrolled for the number in the selector, where that is in the key set
abbrev pub enrolled_key : ChanNo → SelNo → Plan (Option KeyNo)
enrolled_key c s = do
  enrolled ← look_reg c s
  enrolled_in_set s enrolled

-- such a key, in the first selector in which there is one
abbrev pub first_key : Limits → ChanNo → Plan (Option KeyNo)
first_key l c = seek_to l.selectors 0 (λ s. enrolled_key c (selector s))

-- what is done under the hold of a number, unless another caller has it
abbrev pub under_hold : {A E : Type 0} → E → ChanNo → Plan (Result A E) → Plan (Result A E)
under_hold busy c steps = do
  holder ← try_hold_bit c
  if is_some holder then reply (Err busy) else do
    answer ← steps
    release c
    reply answer

-- ---- opening a channel of a number that had one

-- the number is given to a new channel, where no key of it is in a key set and the channel is still the one that
-- was found
abbrev pub reopen_clear : ChanNo → Chan → Option KeyNo → Plan (Result ChanId ReopenError)
reopen_clear c from registered = if is_some registered then reply (Err Registered) else do
  failed ← reopen c from
  reply (if failed then Err ReopenError.Busy else Ok (channel_of c (suc from.serial)))

-- the channel was found so, closed and of a serial below the last
abbrev pub reopen_found : Limits → ChanNo → Chan → Plan (Result ChanId ReopenError)
reopen_found l c from = under_hold ReopenError.Busy c (first_key l c >>= reopen_clear c from)

-- the closed channel's number is given to a new one of its kind
unfoldable pub reopen_channel_plan : Limits → ChanId → Plan (Result ChanId ReopenError)
reopen_channel_plan l c = do
  found ← look_channel c.number
  if not (fits_channel found c.serial) then reply (Err Lost) else
      (if not found.closed then reply (Err Open) else
      (if can_reopen found then reopen_found l c.number found else reply (Err SerialsSpent)))

-- the new channel, where there is one
abbrev pub reopened : Result ChanId ReopenError → Plan (Option ChanId)
reopened (Ok c) = reply (Some c)
reopened (Err Lost) = reply None
reopened (Err Open) = reply None
reopened (Err SerialsSpent) = reply None
reopened (Err ReopenError.Busy) = reply None
reopened (Err Registered) = reply None

-- gives the number to a new channel of this kind, where it had one of the kind that is closed
abbrev pub reopens_number : Limits → Kind → ChanNo → Plan (Option ChanId)
reopens_number l kind c = do
  found ← look_channel c
  if can_reopen found && is_same_kind found.kind kind then (reopen_found l c found >>= reopened) else reply None

abbrev pub opened_again : Option ChanId → Result ChanId ChannelError
opened_again None = Err ChannelsSpent
opened_again (Some c) = Ok c

-- ---- opening

-- a channel of the first number that never had one; where there is none, of the first whose channel is closed, was of
-- the kind and isn't registered any more
abbrev pub opened_channel : Limits → Kind → Option ChanNo → Plan (Result ChanId ChannelError)
opened_channel l kind None = do
  again ← seek_to l.channels 0 (λ n. reopens_number l kind (channel n))
  reply (opened_again again)
opened_channel l kind (Some c) = do
  raise_channels (c.0 + 1)
  reply (Ok (channel_of c 0))

unfoldable pub open_channel_plan : Limits → Kind → Plan (Result ChanId ChannelError)
open_channel_plan l kind = do
  mark ← look_channels
  made ← seek_to l.channels mark (λ n. makes_channel kind (channel n))
  opened_channel l kind made

-- ---- one look

unfoldable pub is_open_plan : ChanId → Plan Bool
is_open_plan c = do
  found ← look_channel c.number
  reply (is_open_channel found c.serial)

-- a channel whose number has another one now is in no mode
unfoldable pub is_blocking_plan : ChanId → Plan Bool
is_blocking_plan c = do
  found ← look_channel c.number
  reply (fits_channel found c.serial && found.blocking)

-- ---- a channel's keys

-- whether the channel is the present one of its number, which was found to have a key
abbrev pub has_number : ChanId → Plan Bool
has_number c = do
  found ← look_channel c.number
  reply (fits_channel found c.serial)

-- a key that was found enrolled for the number is the channel's where the number has this channel still
abbrev pub key_of_channel : ChanId → Option KeyNo → Plan (Option KeyNo)
key_of_channel c None = reply None
key_of_channel c (Some k) = do
  present ← has_number c
  reply (if present then Some k else None)

-- the channel's key in the selector: the one that is enrolled for it there, where that is in the key set
unfoldable pub key_for_plan : ChanId → SelNo → Plan (Option KeyNo)
key_for_plan c s = enrolled_key c.number s >>= key_of_channel c

-- whether the number has a key there, or was found to have one before
abbrev pub registered_or : ChanNo → ℕ → Bool → Plan Bool
registered_or c s before = do
  here ← enrolled_key c (selector s)
  reply (before || is_some here)

unfoldable pub is_registered_plan : Limits → ChanId → Plan Bool
is_registered_plan l c = do
  registered ← sweep_to l.selectors 0 (registered_or c.number) false
  if registered then has_number c else reply false

-- ---- the mode

-- the mode is set, unless the channel was found registered
abbrev pub set_mode_clear : ChanNo → Bool → Option KeyNo → Plan (Result (Unit {0}) ChannelError)
set_mode_clear c on registered = if is_some registered then reply (Err IllegalBlockingMode) else do
  set_mode c on
  reply (Ok tt)

-- blocking mode asks that the channel isn't registered
abbrev pub key_where_blocking : Limits → ChanNo → Bool → Plan (Option KeyNo)
key_where_blocking l c on = if on then first_key l c else reply None

abbrev pub set_mode_open : Limits → ChanNo → Bool → Plan (Result (Unit {0}) ChannelError)
set_mode_open l c on = key_where_blocking l c on >>= set_mode_clear c on

abbrev pub set_mode_held : Limits → ChanId → Bool → Plan (Result (Unit {0}) ChannelError)
set_mode_held l c on = do
  found ← look_channel c.number
  if is_open_channel found c.serial then set_mode_open l c.number on else reply (Err ClosedChannel)

unfoldable pub try_set_blocking_plan : Limits → ChanId → Bool → Plan (Result (Unit {0}) ChannelError)
try_set_blocking_plan l c on = do
  found ← look_channel c.number
  if is_open_channel found c.serial then under_hold ChannelError.Busy c.number (set_mode_held l c on) else
      reply (Err ClosedChannel)

-- ---- registering: a key that the channel has

-- the channel has a valid key: its index is touched, its interest set is set, and its attachment where one is given
abbrev pub update_key : SelNo → KeyId → ℕ → ℕ → Plan (Result KeyNo ChannelError)
update_key s k ops att = do
  touch s k.index
  swap_interest s k.index ops
  when (not (att == 0)) (swap_note s k.index att)
  reply (Ok (key s k))

-- What a registration found of the enrolled key: the answer with which it ends, or none where the channel has
-- no key there and a new one is to be made.
abbrev pub register_enrolled : SelNo → ℕ → ℕ → KeyId → Stage → Plan (Option (Result KeyNo ChannelError))
register_enrolled s ops att k stage =
    if is_in_key_set stage k.serial && stage.cancelled then reply (Some (Err CancelledKey)) else do
      gate ← look_gate s
      if gate.shut then reply (Some (Err ClosedSelector)) else
          (if is_valid_key stage k.serial then (do
            answer ← update_key s k ops att
            reply (Some answer)) else reply None)

-- the same where no key is enrolled
abbrev pub register_unenrolled : SelNo → Plan (Option (Result KeyNo ChannelError))
register_unenrolled s = do
  gate ← look_gate s
  reply (if gate.shut then Some (Err ClosedSelector) else None)

abbrev pub register_over : SelNo → ℕ → ℕ → Option KeyId → Plan (Option (Result KeyNo ChannelError))
register_over s ops att None = register_unenrolled s
register_over s ops att (Some k) = under_pin s k.index (register_enrolled s ops att k)

-- ---- registering: an index for a new key

-- an index that was free is claimed again for the channel, unless somebody has a pin on it; then it is put back
-- among the free ones
abbrev pub claim_taken : SelNo → ChanNo → ℕ → Plan (Option KeyId)
claim_taken s c i = do
  stage ← look_key s i
  pinned ← claim_again s i c stage
  if pinned then (do
    put_free s i
    reply None) else reply (Some (record { index = i; serial = suc stage.serial }))

-- the index is taken, and claimed again where it was free
abbrev pub claim_free : SelNo → ChanNo → ℕ → Plan (Option KeyId)
claim_free s c i = do
  was ← take_free s i
  if was then claim_taken s c i else reply None

-- index b of the 64 from 64 times j on is claimed again, where it is below `mark` and the look shows it as free
abbrev pub claim_at_bit : SelNo → ChanNo → ℕ → ℕ → ℕ → ℕ → Plan (Option KeyId)
claim_at_bit s c mark j word b =
    if has_bit word b && nat_lt (64 * j + b) mark then claim_free s c (64 * j + b) else reply None

-- the first of these 64 indexes that can be claimed again
abbrev pub claim_in_word : SelNo → ChanNo → ℕ → ℕ → Plan (Option KeyId)
claim_in_word s c mark j = do
  word ← look_free s j
  seek_to 64 0 (claim_at_bit s c mark j word)

-- the number of 64-bit words that cover the indexes below n
abbrev pub words_below : ℕ → ℕ
words_below n = (n + 63) / 64

abbrev pub search_free : SelNo → ChanNo → ℕ → Plan (Option KeyId)
search_free s c mark = seek_to (words_below mark) 0 (claim_in_word s c mark)

-- claims the index for its first key, unless it was claimed
abbrev pub claim_new : SelNo → ChanNo → ℕ → Plan (Option KeyId)
claim_new s c i = do
  was ← claim s i c
  reply (if was then None else Some (record { index = i; serial = 0 }))

-- ---- registering: a new key

-- where the channel was closed meanwhile the new key is cancelled
abbrev pub settle_key : SelNo → ChanId → KeyId → Plan (Result KeyNo ChannelError)
settle_key s c k = do
  found ← look_channel c.number
  when (not (is_open_channel found c.serial)) (cancel_key s k.index)
  reply (Ok (key s k))

-- The index is touched before the key's parts are set, they are set before it is enrolled, and it is enrolled before it
-- is published. The one touch serves all changes up to the last, since the pin of the claim stays.
abbrev pub publish_key : SelNo → ChanId → ℕ → ℕ → KeyId → Plan (Result KeyNo ChannelError)
publish_key s c ops att k = do
  touch s k.index
  swap_interest s k.index ops
  swap_note s k.index att
  enrol c.number s k.index k.serial
  before ← publish s k.index
  if before.removed then reply (Err ClosedSelector) else settle_key s c k

-- with the pin of the claim
abbrev pub make_key : SelNo → ChanId → ℕ → ℕ → KeyId → Plan (Result KeyNo ChannelError)
make_key s c ops att k = do
  gate ← look_gate s
  if gate.shut then reply (Err ClosedSelector) else publish_key s c ops att k

-- the pin of the claim is given back
abbrev pub make_claimed : SelNo → ChanId → ℕ → ℕ → KeyId → Plan (Result KeyNo ChannelError)
make_claimed s c ops att k = do
  answer ← make_key s c ops att k
  unpin s k.index
  reply answer

-- with an index that never had a key
abbrev pub register_first : SelNo → ChanId → ℕ → ℕ → Option KeyId → Plan (Result KeyNo ChannelError)
register_first s c ops att None = reply (Err Full)
register_first s c ops att (Some k) = do
  raise_keys s (k.index + 1)
  make_claimed s c ops att k

-- with an index that had a key before
abbrev pub register_again : SelNo → ChanId → ℕ → ℕ → KeyId → Plan (Result KeyNo ChannelError)
register_again s c ops att k = do
  clear_mark s k.index
  make_claimed s c ops att k

-- with an index that had a key before and was claimed again; where there is none, with one that never had a key
abbrev pub register_next : Limits → SelNo → ChanId → ℕ → ℕ → ℕ → Option KeyId → Plan (Result KeyNo ChannelError)
register_next l s c ops att mark None = do
  claimed ← seek_to l.keys mark (claim_new s c.number)
  register_first s c ops att claimed
register_next l s c ops att mark (Some k) = register_again s c ops att k

abbrev pub register_new : Limits → SelNo → ChanId → ℕ → ℕ → Plan (Result KeyNo ChannelError)
register_new l s c ops att = do
  mark ← look_keys s
  claimed ← search_free s c.number mark
  register_next l s c ops att mark claimed

abbrev pub register_rest : Limits → SelNo → ChanId → ℕ → ℕ → Option (Result KeyNo ChannelError)
    → Plan (Result KeyNo ChannelError)
register_rest l s c ops att None = register_new l s c ops att
register_rest l s c ops att (Some answer) = reply answer

-- the channel is open and non-blocking
abbrev pub register_unblocked : Limits → SelNo → ChanId → ℕ → ℕ → Plan (Result KeyNo ChannelError)
register_unblocked l s c ops att = do
  enrolled ← look_reg c.number s
  over ← register_over s ops att enrolled
  register_rest l s c ops att over

-- what is done under the hold
abbrev pub register_held : Limits → SelNo → ChanId → ℕ → ℕ → Plan (Result KeyNo ChannelError)
register_held l s c ops att = do
  found ← look_channel c.number
  if not (is_open_channel found c.serial) then reply (Err ClosedChannel) else
      (if found.blocking then reply (Err IllegalBlockingMode) else register_unblocked l s c ops att)

-- the kind is that of every channel that the number has or had
unfoldable pub try_register_plan : Limits → SelNo → ChanId → ℕ → ℕ → Plan (Result KeyNo ChannelError)
try_register_plan l s c ops att = do
  found ← look_channel c.number
  if not (is_within ops (valid_operations found.kind)) then reply (Err IllegalOps) else
      (if not (is_open_channel found c.serial) then reply (Err ClosedChannel) else
      under_hold ChannelError.Busy c.number (register_held l s c ops att))

-- ---- closing

-- a key that is enrolled for the number is cancelled where the number has the channel still: else it is no key of it
abbrev pub cancel_at : ChanId → SelNo → Option KeyId → Plan (Unit {0})
cancel_at c s None = reply tt
cancel_at c s (Some k) = do
  present ← has_number c
  when present (cancel_plan (key s k))

-- the channel's key in the selector is cancelled, where one is enrolled
abbrev pub cancel_enrolled : ChanId → ℕ → Plan (Unit {0})
cancel_enrolled c s = do
  enrolled ← look_reg c.number (selector s)
  cancel_at c (selector s) enrolled

-- the channel's key in each selector is cancelled
abbrev pub cancel_keys : Limits → ChanId → Plan Bool
cancel_keys l c = do
  sweep_to l.selectors 0 (λ s _. cancel_enrolled c s) tt
  reply true

-- the channel was found open once more, in non-blocking mode after it was found in blocking mode
abbrev pub close_once_more : Limits → ChanId → Chan → Plan Bool
close_once_more l c from = do
  found ← close_bit c.number from
  if takes_close from found then cancel_keys l c else reply false

-- the channel was found open
abbrev pub close_found : Limits → ChanId → Chan → Plan Bool
close_found l c from = do
  found ← close_bit c.number from
  if takes_close from found then cancel_keys l c else
      (if is_open_channel found c.serial then close_once_more l c found else reply false)

-- whether this call closed it
unfoldable pub close_channel_plan : Limits → ChanId → Plan Bool
close_channel_plan l c = do
  found ← look_channel c.number
  if is_open_channel found c.serial then close_found l c found else reply false

-- ---- calls that wait

-- another caller has the hold of the channel
abbrev pub finds_held : {A : Type 0} → Result A ChannelError → Bool
finds_held (Ok answer) = false
finds_held (Err ChannelsSpent) = false
finds_held (Err IllegalOps) = false
finds_held (Err ClosedChannel) = false
finds_held (Err Busy) = true
finds_held (Err IllegalBlockingMode) = false
finds_held (Err CancelledKey) = false
finds_held (Err ClosedSelector) = false
finds_held (Err Full) = false

-- setting a channel's mode, and registering, until nobody else has the hold
abbrev pub SetsBlocking : Limits → ChanId → Bool → List Act → Result (Unit {0}) ChannelError → Type 0
SetsBlocking l c on = Retries (Completes (try_set_blocking_plan l c on)) finds_held

abbrev pub Registers : Limits → SelNo → ChanId → ℕ → ℕ → List Act → Result KeyNo ChannelError → Type 0
Registers l s c ops att = Retries (Completes (try_register_plan l s c ops att)) finds_held
