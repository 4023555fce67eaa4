-- What holds of the state after every legal history.
use Rattle.std.specs.Prelude.{◌≡◌, ℕ, ◌<◌, ◌≤◌, IsTrue, IsFalse, None, is_some}
use Rattle.std.specs.Option.{ForSome}
use Rattle.nio_base.specs.declared.limits.Limits.{Limits}
use Rattle.nio_history.specs.Conditions.{IsCaller, IsChannel}
use Rattle.nio_history.specs.Sets.{can_come_back}
use Rattle.nio_base.specs.Numbers.{last_serial}
use Rattle.nio_history.specs.State.{State, unmade_channel, unclaimed}

pub record IsSound (st : State) : Type 0 where
  -- every channel below the channels' high-water mark is made
  pub channels_below : (c : ℕ) → c < st.channels_high → IsTrue (st.chan c).made
  -- every index below a selector's keys' high-water mark is claimed
  pub keys_below : (s i : ℕ) → i < st.keys_high s → IsTrue (st.key s i).claimed
  -- a channel that isn't made and an index that isn't claimed are as in the opening state
  pub unmade_bare : (c : ℕ) → IsFalse (st.chan c).made → st.chan c ≡ unmade_channel
  pub unclaimed_bare : (s i : ℕ) → IsFalse (st.key s i).claimed → st.key s i ≡ unclaimed
  -- a channel that somebody holds is made
  pub held_made : (c : ℕ) → IsTrue (is_some (st.hold c)) → IsTrue (st.chan c).made
  -- a selector that has a closer is shut, and one that was entered has a closer
  pub closer_shut : (s : ℕ) → IsTrue (is_some (st.closer s)) → IsTrue (st.gate s).shut
  pub entered_closer : (s : ℕ) → IsTrue (st.entered s) → IsTrue (is_some (st.closer s))
  -- where a selection has begun somebody has the turn, and no closer has entered
  pub begun_turn : (s : ℕ) → IsTrue (st.begun s) → IsTrue (is_some (st.turn s))
  pub begun_open : (s : ℕ) → IsTrue (st.begun s) → IsFalse (st.entered s)
  -- an index that isn't claimed has no pin
  pub unclaimed_unpinned : (s i n : ℕ) → IsFalse (st.key s i).claimed → IsFalse (st.pinned s i n)
  -- the key of an index that is free, that a caller has taken, or that the selection in progress has still to
  -- put, is in no set: it was published, cancelled and removed; and there is a next serial
  pub free_back : (s i : ℕ) → IsTrue (st.free s i) → IsTrue (can_come_back (st.key s i))
  pub taken_back : (s i : ℕ) → IsTrue (is_some (st.taker s i)) → IsTrue (can_come_back (st.key s i))
  pub due_back : (s i : ℕ) → IsTrue (st.put_due s i) → IsTrue (can_come_back (st.key s i))
  -- an index is at most one of: free, taken, still to be put
  pub free_untaken : (s i : ℕ) → IsTrue (st.free s i) → st.taker s i ≡ None
  pub free_not_due : (s i : ℕ) → IsTrue (st.free s i) → IsFalse (st.put_due s i)
  pub taken_not_due : (s i : ℕ) → IsTrue (is_some (st.taker s i)) → IsFalse (st.put_due s i)
  -- an index is still to be put while the selection that removed its key is in progress
  pub due_begun : (s i : ℕ) → IsTrue (st.put_due s i) → IsTrue (st.begun s)
  -- a caller that is amid a change of an index has a pin on it
  pub amid_pinned : (s i n : ℕ) → IsTrue (st.amid s i n) → IsTrue (st.pinned s i n)

-- every number that the state speaks of is within the limits
pub record IsWithin (l : Limits) (st : State) : Type 0 where
  pub drawn : (n : ℕ) → IsTrue (st.drawn n) → n < l.callers
  pub interrupted : (n : ℕ) → IsTrue (st.interrupted n) → n < l.callers
  pub selectors : (s : ℕ) → IsTrue (st.selector s) → s < l.selectors
  pub channels : (c : ℕ) → IsTrue (st.chan c).made → c < l.channels
  pub channels_high : st.channels_high ≤ l.channels
  pub keys_high : (s : ℕ) → st.keys_high s ≤ l.keys
  -- a claimed index, its selector and the channel that it was claimed for
  pub keys : (s i : ℕ) → IsTrue (st.key s i).claimed → (s < l.selectors) × (i < l.keys) × IsChannel l (st.key s i).chan
  -- who holds a channel, has a turn, or closes a selector, and the index that is enrolled
  pub holds : (c : ℕ) → ForSome (st.hold c) (IsCaller l)
  pub turns : (s : ℕ) → ForSome (st.turn s) (IsCaller l)
  pub closers : (s : ℕ) → ForSome (st.closer s) (IsCaller l)
  pub enrolled : (c s : ℕ) → ForSome (st.enrolled c s) (λ k. (k.index < l.keys) × (k.serial ≤ last_serial))
  -- serials
  pub serials : (s i : ℕ) → (st.key s i).serial ≤ last_serial
  pub channel_serials : (c : ℕ) → (st.chan c).serial ≤ last_serial
  -- who has a pin, or has taken an index
  pub pins : (s i n : ℕ) → IsTrue (st.pinned s i n) → n < l.callers
  pub takers : (s i : ℕ) → ForSome (st.taker s i) (IsCaller l)
  -- an index that is touched, and who has a list
  pub touched : (s i : ℕ) → IsTrue (st.touched s i) → (s < l.selectors) × (i < l.keys)
  pub listers : (s : ℕ) → ForSome (st.lister s) (IsCaller l)
