-- The state of the sequential selector: what a table of selectors, keys and channels holds.
--
-- Each part is a function of the numbers that name it, so that there are no lengths to speak of: what
-- nothing was done to holds the opening value. A part has one setter, below, which changes it at one
-- number and nowhere else. `docs/READING.md` says how to read the definitions of this folder, and in which order.
use Rattle.std.specs.Prelude.{ℕ, ◌/◌, ◌==◌, Bool, false, ◌&&◌, if◌then◌else◌, Option, None}
use Rattle.nio_base.specs.declared.kind.Kind.TheVariants.{Stream}
use Rattle.nio_base.specs.declared.numbers.CallerNo.{CallerNo}
use Rattle.nio_base.specs.declared.numbers.KeyId.{KeyId}
use Rattle.nio_history.specs.declared.found.Chan.{Chan}
use Rattle.nio_history.specs.declared.found.GateWord.{GateWord}
use Rattle.nio_history.specs.declared.found.Mark.{Mark}
use Rattle.nio_history.specs.declared.found.Stage.{Stage}
use Rattle.std.specs.Prelude.{true}

pub record State : Type 0 where
  -- callers: those drawn, and those whose interrupt status is set
  pub drawn : ℕ → Bool
  pub interrupted : ℕ → Bool
  -- selectors that are made
  pub selector : ℕ → Bool
  -- the channels' high-water mark, below which every channel is made
  pub channels_high : ℕ
  -- the channel that a number has, and the caller that holds the number while it registers the channel, sets its
  -- mode or gives the number to a new channel
  pub chan : ℕ → Chan
  pub hold : ℕ → Option CallerNo
  -- the key that is enrolled for a channel in a selector, by the channel and the selector
  pub enrolled : ℕ → ℕ → Option KeyId
  -- a selector: its gate, the caller that has its turn, and its keys' high-water mark
  pub gate : ℕ → GateWord
  pub turn : ℕ → Option CallerNo
  pub keys_high : ℕ → ℕ
  -- an index, by its selector and its number: the stage of its key, and the key's interest set, mark
  -- and attachment
  pub key : ℕ → ℕ → Stage
  pub interest : ℕ → ℕ → ℕ
  pub mark : ℕ → ℕ → Mark
  pub note : ℕ → ℕ → ℕ
  -- which callers have a pin on an index, by its selector, its number and the caller's
  pub pinned : ℕ → ℕ → ℕ → Bool
  -- whether an index is free: it can be given to a new key
  pub free : ℕ → ℕ → Bool
  -- whether an index is touched: the next selection by the selector's list whose bound reaches it looks there. Whoever
  -- sets an interest set, publishes or cancels a key touches the index first, and a selection that finds the index pinned
  -- touches it again.
  pub touched : ℕ → ℕ → Bool
  -- the caller that has a selector's list, for good: it takes the bits of touched indexes, and knows of the others what
  -- it found when it looked at them last
  pub lister : ℕ → Option CallerNo
  -- What stands in no word of a table. Of a selector: whether the selecting caller found the gate not
  -- shut after it took its turn, the caller whose step shut the selector, and whether that caller
  -- found the turn free after that.
  pub begun : ℕ → Bool
  pub closer : ℕ → Option CallerNo
  pub entered : ℕ → Bool
  -- Of an index: the caller that took it when it was free, and neither put it back nor claimed it
  -- since; and whether the selection in progress removed its key, whose serial is below the last, and
  -- hasn't put the index yet.
  pub taker : ℕ → ℕ → Option CallerNo
  pub put_due : ℕ → ℕ → Bool
  -- Of an index and a caller: whether the caller is amid a change there. It has a pin on the index, and touched it
  -- since it pinned it.
  pub amid : ℕ → ℕ → ℕ → Bool

-- what isn't there yet

abbrev pub unmade_channel : Chan
unmade_channel = record { made = false; kind = Stream; closed = false; blocking = true; serial = 0 }

abbrev pub open_gate : GateWord
open_gate = record { woken = false; shut = false }

abbrev pub unclaimed : Stage
unclaimed =
    record {
      claimed = false;
      published = false;
      cancelled = false;
      removed = false;
      chan = record {
        0 = 0;
      };
      serial = 0;
    }

abbrev pub unmarked : Mark
unmarked = record { selected = false; ready = 0 }

-- the opening state: nothing is drawn, made, shut, claimed or interrupted
abbrev pub opening : State
opening = record {
  drawn = λ _. false;
  interrupted = λ _. false;
  selector = λ _. false;
  channels_high = 0;
  chan = λ _. unmade_channel;
  hold = λ _. None;
  enrolled = λ _ _. None;
  gate = λ _. open_gate;
  turn = λ _. None;
  keys_high = λ _. 0;
  key = λ _ _. unclaimed;
  interest = λ _ _. 0;
  mark = λ _ _. unmarked;
  note = λ _ _. 0;
  pinned = λ _ _ _. false;
  free = λ _ _. false;
  touched = λ _ _. false;
  lister = λ _. None;
  begun = λ _. false;
  closer = λ _. None;
  entered = λ _. false;
  taker = λ _ _. None;
  put_due = λ _ _. false;
  amid = λ _ _ _. false;
}

-- a function that is changed at one number, or at one pair of numbers

abbrev pub put : {A : Type 0} → (ℕ → A) → ℕ → A → ℕ → A
put f i x = λ n. if n == i then x else f n

abbrev pub put_at : {A : Type 0} → (ℕ → ℕ → A) → ℕ → ℕ → A → ℕ → ℕ → A
put_at f i j x = λ m n. if (m == i) && (n == j) then x else f m n

-- the setters

abbrev pub with_drawn : State → ℕ → Bool → State
with_drawn st n x = record st { drawn = put st.drawn n x }

abbrev pub with_interrupted : State → ℕ → Bool → State
with_interrupted st n x = record st { interrupted = put st.interrupted n x }

abbrev pub with_selector : State → ℕ → Bool → State
with_selector st s x = record st { selector = put st.selector s x }

abbrev pub with_channels_high : State → ℕ → State
with_channels_high st n = record st { channels_high = n }

abbrev pub with_chan : State → ℕ → Chan → State
with_chan st c x = record st { chan = put st.chan c x }

abbrev pub with_hold : State → ℕ → Option CallerNo → State
with_hold st c x = record st { hold = put st.hold c x }

abbrev pub with_enrolled : State → ℕ → ℕ → Option KeyId → State
with_enrolled st c s x = record st { enrolled = put_at st.enrolled c s x }

abbrev pub with_gate : State → ℕ → GateWord → State
with_gate st s x = record st { gate = put st.gate s x }

abbrev pub with_turn : State → ℕ → Option CallerNo → State
with_turn st s x = record st { turn = put st.turn s x }

abbrev pub with_keys_high : State → ℕ → ℕ → State
with_keys_high st s n = record st { keys_high = put st.keys_high s n }

abbrev pub with_key : State → ℕ → ℕ → Stage → State
with_key st s i x = record st { key = put_at st.key s i x }

abbrev pub with_interest : State → ℕ → ℕ → ℕ → State
with_interest st s i x = record st { interest = put_at st.interest s i x }

abbrev pub with_mark : State → ℕ → ℕ → Mark → State
with_mark st s i x = record st { mark = put_at st.mark s i x }

abbrev pub with_note : State → ℕ → ℕ → ℕ → State
with_note st s i x = record st { note = put_at st.note s i x }

abbrev pub with_pin : State → ℕ → ℕ → ℕ → Bool → State
with_pin st s i n x = record st { pinned = put_at st.pinned s i (put (st.pinned s i) n x) }

abbrev pub with_free : State → ℕ → ℕ → Bool → State
with_free st s i x = record st { free = put_at st.free s i x }

abbrev pub with_touched : State → ℕ → ℕ → Bool → State
with_touched st s i x = record st { touched = put_at st.touched s i x }

-- none of the 64 indexes from 64 times j on is touched
abbrev pub with_none_touched : State → ℕ → ℕ → State
with_none_touched st s j = record st { touched = λ t i. if (t == s) && (i / 64 == j) then false else st.touched t i }

abbrev pub with_lister : State → ℕ → Option CallerNo → State
with_lister st s x = record st { lister = put st.lister s x }

abbrev pub with_begun : State → ℕ → Bool → State
with_begun st s x = record st { begun = put st.begun s x }

abbrev pub with_closer : State → ℕ → Option CallerNo → State
with_closer st s x = record st { closer = put st.closer s x }

abbrev pub with_entered : State → ℕ → Bool → State
with_entered st s x = record st { entered = put st.entered s x }

abbrev pub with_taker : State → ℕ → ℕ → Option CallerNo → State
with_taker st s i x = record st { taker = put_at st.taker s i x }

abbrev pub with_put_due : State → ℕ → ℕ → Bool → State
with_put_due st s i x = record st { put_due = put_at st.put_due s i x }

-- the selection on the selector is over: no index is to be put by it any more
abbrev pub with_no_put_due : State → ℕ → State
with_no_put_due st s = record st { put_due = λ t i. if t == s then false else st.put_due t i }

abbrev pub with_amid : State → ℕ → ℕ → ℕ → Bool → State
with_amid st s i n x = record st { amid = put_at st.amid s i (put (st.amid s i) n x) }
