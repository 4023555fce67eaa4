-- The word of each part of the state, and below which number it stays. In the opening state every
-- word is 0.
use Rattle.std.specs.Prelude.{ℕ, ◌+◌, ◌*◌, ◌^◌, ◌<◌, Bool, not, if◌then◌else◌, Option, Some, None, ⊤}
use Rattle.std.specs.Option.{IfSome}
use Rattle.nio_base.specs.Kind.{kind_code}
use Rattle.nio_base.specs.declared.limits.Limits.{Limits}
use Rattle.nio_base.specs.declared.numbers.CallerNo.{CallerNo}
use Rattle.nio_base.specs.declared.numbers.KeyId.{KeyId}
use Rattle.nio_history.specs.Answers.{bits_below, selectors_word, pins, free_word, touched_word}
use Rattle.nio_history.specs.State.{State}
use Rattle.nio_history.specs.declared.found.Chan.{Chan as Channel}
use Rattle.nio_history.specs.declared.found.GateWord.{GateWord}
use Rattle.nio_history.specs.declared.found.Mark.{Mark as KeyMark}
use Rattle.nio_history.specs.declared.found.Stage.{Stage}
use Rattle.nio_words.specs.declared.part.Part.{Part}
use Rattle.nio_words.specs.declared.part.Part.TheVariants.{Callers, Interrupts, Selectors, ChannelsHigh, Chan, Hold}
use Rattle.nio_words.specs.declared.part.Part.TheVariants.{Enrolled, Gate, Turn, KeysHigh, Key, Interest, Mark, Note}
use Rattle.nio_words.specs.declared.part.Part.TheVariants.{Free, Touched, Lister}

abbrev pub bit : Bool → ℕ
bit b = if b then 1 else 0

-- bit 0 wakeup; bit 1 shut
abbrev pub gate_word : GateWord → ℕ
gate_word g = bit g.woken + 2 * bit g.shut

-- bit 0 claimed; bit 1 published; bit 2 cancelled; bit 3 removed; bits 4 to 11 the number of pins; bits 12
-- to 31 the channel; bits 32 to 63 the serial
abbrev pub stage_word : Stage → ℕ → ℕ
stage_word k count =
    bit k.claimed + 2 * bit k.published + 4 * bit k.cancelled + 8 * bit k.removed + 2 ^ 4 * count + 2 ^ 12 * k.chan.0
    + 2 ^ 32 * k.serial

-- bit 0 made; bits 1 to 3 kind; bit 4 closed; bit 5 non-blocking; bits 32 to 63 the serial. So of two words of one
-- kind the one of the later channel is the greater; of two of one channel the non-blocking one, and of two in one mode
-- the closed one
abbrev pub channel_word : Channel → ℕ
channel_word c =
    bit c.made + 2 * kind_code c.kind + 16 * bit c.closed + 32 * bit (not c.blocking) + 2 ^ 32 * c.serial

-- bits 0 to 7 ready; bit 8 selected
abbrev pub mark_word : KeyMark → ℕ
mark_word m = m.ready + 256 * bit m.selected

-- 0 for none, else the caller's number plus 1
abbrev pub holder_word : Option CallerNo → ℕ
holder_word None = 0
holder_word (Some n) = n.0 + 1

-- 0 for none, else bits 0 to 31 the index plus 1, and bits 32 to 63 the serial
abbrev pub enrolled_word : Option KeyId → ℕ
enrolled_word None = 0
enrolled_word (Some k) = k.index + 1 + 2 ^ 32 * k.serial

abbrev pub encoding : State → Part → ℕ
-- bit n: number n is drawn
encoding st Callers = bits_below 64 st.drawn
-- bit n: caller n is interrupted
encoding st Interrupts = bits_below 64 st.interrupted
-- bit s: selector s is made
encoding st Selectors = selectors_word st
encoding st ChannelsHigh = st.channels_high
encoding st (Chan c) = channel_word (st.chan c)
encoding st (Hold c) = holder_word (st.hold c)
encoding st (Enrolled c s) = enrolled_word (st.enrolled c s)
encoding st (Gate s) = gate_word (st.gate s)
encoding st (Turn s) = holder_word (st.turn s)
encoding st (KeysHigh s) = st.keys_high s
encoding st (Key s i) = stage_word (st.key s i) (pins st s i)
encoding st (Interest s i) = st.interest s i
encoding st (Mark s i) = mark_word (st.mark s i)
encoding st (Note s i) = st.note s i
-- bit b: index 64 * j + b is free
encoding st (Free s j) = free_word st s j
-- bit b: index 64 * j + b is touched
encoding st (Touched s j) = touched_word st s j
encoding st (Lister s) = holder_word (st.lister s)

-- the word stays below this number
abbrev pub bound : Part → ℕ
bound Callers = 2 ^ 64
bound Interrupts = 2 ^ 64
bound Selectors = 2 ^ 64
bound ChannelsHigh = 2 ^ 32
bound (Chan c) = 2 ^ 64
bound (Hold c) = 2 ^ 32 + 1
bound (Enrolled c s) = 2 ^ 64
bound (Gate s) = 4
bound (Turn s) = 2 ^ 32 + 1
bound (KeysHigh s) = 2 ^ 32
bound (Key s i) = 2 ^ 64
bound (Interest s i) = 256
bound (Mark s i) = 512
bound (Note s i) = 2 ^ 64
bound (Free s j) = 2 ^ 64
bound (Touched s j) = 2 ^ 64
bound (Lister s) = 2 ^ 32 + 1

-- what the word alone doesn't tell: the fields of a word stay within their bits
abbrev pub IsProper : State → Part → Type 0
IsProper st Callers = ⊤
IsProper st Interrupts = ⊤
IsProper st Selectors = ⊤
IsProper st ChannelsHigh = ⊤
IsProper st (Chan c) = ⊤
IsProper st (Hold c) = ⊤
-- an index plus 1 has 32 bits
IsProper st (Enrolled c s) = IfSome (st.enrolled c s) (λ k. k.index + 1 < 2 ^ 32)
IsProper st (Gate s) = ⊤
IsProper st (Turn s) = ⊤
IsProper st (KeysHigh s) = ⊤
-- a channel has 20 bits
IsProper st (Key s i) = (st.key s i).chan.0 < 2 ^ 20
IsProper st (Interest s i) = ⊤
-- a ready set has 8 bits
IsProper st (Mark s i) = (st.mark s i).ready < 256
IsProper st (Note s i) = ⊤
IsProper st (Free s j) = ⊤
IsProper st (Touched s j) = ⊤
IsProper st (Lister s) = ⊤

-- the word that holds the limits: callers in bits 0 to 7, selectors in bits 8 to 15, channels in
-- bits 16 to 39, keys in bits 40 to 63
abbrev pub limits_word : Limits → ℕ
limits_word l = l.callers + l.selectors * 2 ^ 8 + l.channels * 2 ^ 16 + l.keys * 2 ^ 40
