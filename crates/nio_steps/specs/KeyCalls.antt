-- The steps of the calls that find things by their numbers, and of the calls on keys.
use Rattle.std.specs.Prelude.{ℕ, ◌==◌, nat_lt, Bool, false, not, ◌&&◌, if◌then◌else◌, Option, Some, None, Result, Ok}
use Rattle.std.specs.Prelude.{Err}
use Rattle.std.specs.Int.{bit_at}
use Rattle.nio_base.specs.Kind.{valid_operations}
use Rattle.nio_base.specs.Ops.{is_within}
use Rattle.nio_base.specs.declared.limits.Limits.{Limits}
use Rattle.nio_base.specs.declared.numbers.ChanId.{ChanId}
use Rattle.nio_base.specs.declared.numbers.KeyNo.{KeyNo}
use Rattle.nio_base.specs.declared.numbers.SelNo.{SelNo}
use Rattle.nio_history.specs.Sets.{fits, was_published, is_in_key_set, is_valid_key, was_opened}
use Rattle.nio_history.specs.declared.found.Chan.{Chan}
use Rattle.nio_history.specs.declared.found.Stage.{Stage}
use Rattle.nio_steps.specs.Names.{selector, channel, channel_of}
use Rattle.nio_steps.specs.Plan.{Plan, reply, ◌>>=◌, ◌>>◌, when}
use Rattle.nio_steps.specs.Steps.{look_selectors, look_key, cancel_key, look_interest, swap_interest, or_interest}
use Rattle.nio_steps.specs.Steps.{and_interest, swap_note, look_note, look_channel, look_mark, unselect_bit, pin, unpin}
use Rattle.nio_steps.specs.Steps.{touch}
use Rattle.nio_steps.specs.declared.refusal.KeyError.{KeyError}
use Rattle.nio_steps.specs.declared.refusal.KeyError.TheVariants.{CancelledKey, IllegalOps}

-- ---- by number

-- the bit of a word that stands for this number is set
abbrev pub has_bit : ℕ → ℕ → Bool
has_bit word n = bit_at word n == 1

-- None where the number isn't below the limit, which makes no step, or the look found it not made
unfoldable pub find_selector_plan : Limits → ℕ → Plan (Option SelNo)
find_selector_plan l n = if not (nat_lt n l.selectors) then reply None else do
  made ← look_selectors
  reply (if has_bit made n then Some (selector n) else None)

-- the same of a channel, by its number and its serial. A lower serial than the one that the number has was opened
unfoldable pub find_channel_plan : Limits → ℕ → ℕ → Plan (Option ChanId)
find_channel_plan l n serial = if not (nat_lt n l.channels) then reply None else do
  found ← look_channel (channel n)
  reply (if was_opened found serial then Some (channel_of (channel n) serial) else None)

-- the same of a key, by its index and its serial: it has to have been published. A lower serial than the one
-- that the index has was published
unfoldable pub find_plan : Limits → SelNo → ℕ → ℕ → Plan (Option KeyNo)
find_plan l s i serial = if not (nat_lt i l.keys) then reply None else do
  stage ← look_key s i
  reply (if was_published stage serial then Some (record { sel = s; index = i; serial = serial }) else None)

-- ---- keys

-- the key is valid where it is the present one of its index, and that is valid
unfoldable pub is_valid_plan : KeyNo → Plan Bool
is_valid_plan k = do
  stage ← look_key k.sel k.index
  reply (is_valid_key stage k.serial)

-- what is done under a pin on an index, with the stage that is found: while the caller has the pin, the index
-- isn't given to another key
abbrev pub under_pin : {A : Type 0} → SelNo → ℕ → (Stage → Plan A) → Plan A
under_pin s i steps = do
  stage ← pin s i
  answer ← steps stage
  unpin s i
  reply answer

-- how a call on a valid key goes on with the stage of its index
abbrev pub if_valid : {A : Type 0} → KeyNo → (Stage → Plan (Result A KeyError)) → Stage → Plan (Result A KeyError)
if_valid k steps stage = if not (is_valid_key stage k.serial) then reply (Err CancelledKey) else steps stage

-- what is done with a valid key
abbrev pub on_valid : {A : Type 0} → KeyNo → (Stage → Plan (Result A KeyError)) → Plan (Result A KeyError)
on_valid k steps = under_pin k.sel k.index (if_valid k steps)

abbrev pub look_set : KeyNo → Plan (Result ℕ KeyError)
look_set k = do
  ops ← look_interest k.sel k.index
  reply (Ok ops)

unfoldable pub interest_plan : KeyNo → Plan (Result ℕ KeyError)
interest_plan k = on_valid k (λ _. look_set k)

-- how a call goes on with the channel that it looked at, and operations that the channel's kind has to have
abbrev pub if_supported : {A : Type 0} → ℕ → Plan (Result A KeyError) → Chan → Plan (Result A KeyError)
if_supported ops steps found = if not (is_within ops (valid_operations found.kind)) then reply (Err IllegalOps)
    else steps

-- what is done with operations that the key's channel has
abbrev pub on_supported : {A : Type 0} → ℕ → Plan (Result A KeyError) → Stage → Plan (Result A KeyError)
on_supported ops steps stage = look_channel stage.chan >>= if_supported ops steps

abbrev pub put_set : KeyNo → ℕ → Plan (Result (Unit {0}) KeyError)
put_set k ops = do
  touch k.sel k.index
  swap_interest k.sel k.index ops
  reply (Ok tt)

unfoldable pub set_interest_plan : KeyNo → ℕ → Plan (Result (Unit {0}) KeyError)
set_interest_plan k ops = on_valid k (on_supported ops (put_set k ops))

-- the set before
abbrev pub add_set : KeyNo → ℕ → Plan (Result ℕ KeyError)
add_set k ops = do
  touch k.sel k.index
  before ← or_interest k.sel k.index ops
  reply (Ok before)

unfoldable pub interest_or_plan : KeyNo → ℕ → Plan (Result ℕ KeyError)
interest_or_plan k ops = on_valid k (on_supported ops (add_set k ops))

abbrev pub keep_set : KeyNo → ℕ → Plan (Result ℕ KeyError)
keep_set k ops = do
  touch k.sel k.index
  before ← and_interest k.sel k.index ops
  reply (Ok before)

-- any operations are accepted
unfoldable pub interest_and_plan : KeyNo → ℕ → Plan (Result ℕ KeyError)
interest_and_plan k ops = on_valid k (λ _. keep_set k ops)

abbrev pub look_ready : KeyNo → Plan (Result ℕ KeyError)
look_ready k = do
  mark ← look_mark k.sel k.index
  reply (Ok mark.ready)

unfoldable pub ready_plan : KeyNo → Plan (Result ℕ KeyError)
ready_plan k = on_valid k (λ _. look_ready k)

-- who cancels a key touches its index first, under its pin
abbrev pub cancel_pinned : SelNo → ℕ → Plan Stage
cancel_pinned s i = do
  touch s i
  cancel_key s i

-- the key is cancelled where its index has it, and it isn't removed
abbrev pub cancel_present : KeyNo → Stage → Plan (Unit {0})
cancel_present k stage = when (fits stage k.serial && not stage.removed) (cancel_pinned k.sel k.index)

unfoldable pub cancel_plan : KeyNo → Plan (Unit {0})
cancel_plan k = under_pin k.sel k.index (cancel_present k)

-- whether it was taken out of the selected set: it was found in the key set, and was selected
abbrev pub unselect_present : KeyNo → Stage → Plan Bool
unselect_present k stage = if is_in_key_set stage k.serial then unselect_bit k.sel k.index else reply false

unfoldable pub unselect_plan : KeyNo → Plan Bool
unselect_plan k = under_pin k.sel k.index (unselect_present k)

-- the attachment before; 0, and nothing is attached, where the index has another key
abbrev pub attach_present : KeyNo → ℕ → Stage → Plan ℕ
attach_present k att stage = if fits stage k.serial then swap_note k.sel k.index att else reply 0

unfoldable pub attach_plan : KeyNo → ℕ → Plan ℕ
attach_plan k att = under_pin k.sel k.index (attach_present k att)

abbrev pub attachment_present : KeyNo → Stage → Plan ℕ
attachment_present k stage = if fits stage k.serial then look_note k.sel k.index else reply 0

unfoldable pub attachment_plan : KeyNo → Plan ℕ
attachment_plan k = under_pin k.sel k.index (attachment_present k)
