-- What holds between two calls of a serial history, in which each call ends before the next begins.
use Rattle.std.specs.Prelude.{◌≡◌, ℕ, ◌<◌, ◌≤◌, nat_lt, ◌&&◌, if◌then◌else◌, IsTrue, IsFalse, Some, None, option_map}
use Rattle.std.specs.Prelude.{is_some, length}
use Rattle.std.specs.List.{AllPairs}
use Rattle.nio_base.specs.declared.kind.Kind.{Kind}
use Rattle.nio_base.specs.declared.kind.Kind.TheVariants.{Source, Sink}
use Rattle.nio_base.specs.declared.limits.Limits.{Limits}
use Rattle.nio_base.specs.declared.numbers.CallerNo.{CallerNo}
use Rattle.nio_base.specs.declared.numbers.ChanId.{ChanId}
use Rattle.nio_history.specs.Sets.{was_opened}
use Rattle.nio_base.specs.Numbers.{last_serial}
use Rattle.nio_history.specs.State.{State, unclaimed, unmarked}
use Rattle.nio_history.specs.declared.found.Chan.{Chan}
use Rattle.nio_language.specs.declared.call.Call.{Call}
use Rattle.nio_plain.specs.ScriptState.{Pipe, ScriptState, script_opening}
use Rattle.nio_plain.specs.Seq.{seq}
use Rattle.nio_plain.specs.declared.rules.Rules.TheVariants.{Now}
use Rattle.nio_steps.specs.SelectCalls.{Selection}
use Rattle.nio_serial.specs.Documented.{Progress, Selecting, documented}
use Rattle.nio_serial.specs.Reopening.{reopen_call}

-- nobody holds a channel, has a pin on an index, is amid a change of one, has taken one, or has still to put one
pub record IsUnused (st : State) : Type 0 where
  pub unheld : (c : ℕ) → st.hold c ≡ None
  pub unpinned : (s i n : ℕ) → IsFalse (st.pinned s i n)
  pub unchanging : (s i n : ℕ) → IsFalse (st.amid s i n)
  pub untaken : (s i : ℕ) → st.taker s i ≡ None
  pub none_due : (s i : ℕ) → IsFalse (st.put_due s i)

-- an index that was never claimed is as it was in the opening state
pub record IsFresh (st : State) (s i : ℕ) : Type 0 where
  pub key : st.key s i ≡ unclaimed
  pub mark : st.mark s i ≡ unmarked
  pub free : IsFalse (st.free s i)

-- the high-water marks are exact, and within the limits: what is below them is made, or has had a published
-- key, and nothing else is or has
pub record HasExactHigh (l : Limits) (st : State) : Type 0 where
  pub channels_within : st.channels_high ≤ l.channels
  pub keys_within : (s : ℕ) → st.keys_high s ≤ l.keys
  pub channels : (c : ℕ) → (st.chan c).made ≡ nat_lt c st.channels_high
  pub claimed : (s i : ℕ) → (st.key s i).claimed ≡ nat_lt i (st.keys_high s)
  pub published : (s i : ℕ) → (st.key s i).published ≡ nat_lt i (st.keys_high s)
  pub fresh : (s i : ℕ) → IsFalse (nat_lt i (st.keys_high s)) → IsFresh st s i

-- A free index has a removed key. While the closing of its selector hasn't ended, an index with a removed key is free
-- exactly where there is a next serial: a selection removed the key. A closing removes keys without freeing them.
pub record AreFree (st : State) : Type 0 where
  pub removed : (s i : ℕ) → IsTrue (st.free s i) → IsTrue (st.key s i).removed
  pub exactly : (s i : ℕ) → IsFalse (st.entered s)
      → st.free s i ≡ ((st.key s i).removed && nat_lt (st.key s i).serial last_serial)

pub record IsAtRest (l : Limits) (st : State) : Type 0 where
  pub unused : IsUnused st
  pub high : HasExactHigh l st
  pub free : AreFree st

-- a selection in progress on the selector: it looks at each index once, in rising order
pub record IsOn (s : ℕ) (x : Selection) : Type 0 where
  pub selector : x.selector.0 ≡ s
  pub rises : AllPairs (λ a b. a.index < b.index) x.looked

-- each key of the selector that is cancelled and not removed is at an index that is touched
abbrev pub AreTouched : State → ℕ → Type 0
AreTouched st s =
    (i : ℕ) → IsTrue (st.key s i).cancelled → IsFalse (st.key s i).removed → IsTrue (st.touched s i)

-- the state has the same callers selecting and closing on the selector as the progress shows
pub record IsShownBy (st : State) (now : Progress) (s : ℕ) : Type 0 where
  pub turn : st.turn s ≡ option_map (λ x. x.caller) (now.selection s)
  pub begun : st.begun s ≡ is_some (now.selection s)
  pub on : (x : Selecting) → now.selection s ≡ Some x → IsOn s x.selection
  -- so a selection that goes by the list finds at its end each key that is cancelled
  pub finds : (x : Selecting) → now.selection s ≡ Some x → IsTrue x.selection.listed → AreTouched st s
  pub closing : now.closing s ≡ (if st.entered s then None else st.closer s)

-- Documented calls, none or more, lead from the first state to the second, by the rules of now, one after the other.
-- Such a call is a line of a script, or a reopening.
pub data LeadsTo (l : Limits) (before : ScriptState) : ScriptState → Type 0 where
  no_call : LeadsTo l before before
  line : (st : ScriptState) (me : CallerNo) (word : Call)
      → LeadsTo l before st → LeadsTo l before (seq Now l st me word).left
  reopening : (st : ScriptState) (c : ChanId) → LeadsTo l before st → LeadsTo l before (reopen_call l st c).left

-- the state is one that documented calls leave
abbrev pub IsLeft : Limits → ScriptState → Type 0
IsLeft l st = LeadsTo l script_opening st

-- All that holds between two calls: what a script sees is a state that documented calls leave, in which nothing is at
-- work, and what is in progress is what the state shows. `between_law` always gives the premise `left` of the laws that
-- ask for it.
pub record IsBetween (l : Limits) (st : State) (now : Progress) : Type 0 where
  pub left : IsLeft l (documented st now)
  pub at_rest : IsAtRest l (documented st now).shared
  pub shown : (s : ℕ) → IsShownBy st now s

-- ---- what follows of the pipes

-- a channel that was opened, of this kind
abbrev pub IsChannelOf : (ℕ → Chan) → ChanId → Kind → Type 0
IsChannelOf chan c kind = IsTrue (was_opened (chan c.number.0) c.serial) × ((chan c.number.0).kind ≡ kind)

-- a pipe whose ends are channels of their kinds, and in which at most 65,536 bytes wait
pub record IsWholePipe (chan : ℕ → Chan) (p : Pipe) : Type 0 where
  pub source : IsChannelOf chan p.source Source
  pub sink : IsChannelOf chan p.sink Sink
  pub room : length p.waiting ≤ 65536
