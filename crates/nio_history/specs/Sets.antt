-- The sets of a selector: Java's key set, cancelled-key set and selected-key set, what makes a key
-- valid, and what makes a channel registered.
--
-- A key is an index with its serial. The stage of an index tells of its present key; a key with a lower
-- serial was published, cancelled and removed before.
use Rattle.std.specs.Prelude.{◌≡◌, ℕ, ◌==◌, nat_lt, Bool, not, ◌&&◌, ◌||◌, IsTrue}
use Rattle.nio_base.specs.Numbers.{last_serial}
use Rattle.nio_history.specs.State.{State}
use Rattle.nio_history.specs.declared.found.Stage.{Stage}
use Rattle.nio_history.specs.declared.found.Chan.{Chan}
use Rattle.nio_base.specs.declared.numbers.ChanId.{ChanId}

-- ---- the present key of an index

-- the key set: the keys that are published and not removed
abbrev pub in_key_set : Stage → Bool
in_key_set k = k.published && not k.removed

-- the cancelled set: the keys of the key set that are cancelled
abbrev pub in_cancelled_set : Stage → Bool
in_cancelled_set k = in_key_set k && k.cancelled

-- a valid key is in the key set and isn't cancelled. Closing its channel cancels it, and closing its
-- selector removes it
abbrev pub is_valid : Stage → Bool
is_valid k = in_key_set k && not k.cancelled

-- the selected set: the keys of the key set that are selected
abbrev pub in_selected_set : State → ℕ → ℕ → Bool
in_selected_set st s i = in_key_set (st.key s i) && (st.mark s i).selected

-- nothing in the stage forbids that the index is given to a new key: its key was published, cancelled and
-- removed, and there is a next serial
abbrev pub can_come_back : Stage → Bool
can_come_back k = k.claimed && k.published && k.cancelled && k.removed && nat_lt k.serial last_serial

-- ---- a key, by the stage of its index and by its serial

-- the key is the present one of its index
abbrev pub fits : Stage → ℕ → Bool
fits k serial = k.claimed && (k.serial == serial)

-- the index was claimed for this key
abbrev pub was_claimed : Stage → ℕ → Bool
was_claimed k serial = k.claimed && not (nat_lt k.serial serial)

-- the key was published, cancelled, removed
abbrev pub was_published : Stage → ℕ → Bool
was_published k serial = nat_lt serial k.serial || (fits k serial && k.published)

abbrev pub was_cancelled : Stage → ℕ → Bool
was_cancelled k serial = nat_lt serial k.serial || (fits k serial && k.cancelled)

abbrev pub was_removed : Stage → ℕ → Bool
was_removed k serial = nat_lt serial k.serial || (fits k serial && k.removed)

-- the key is in the key set
abbrev pub is_in_key_set : Stage → ℕ → Bool
is_in_key_set k serial = fits k serial && in_key_set k

-- the key is valid
abbrev pub is_valid_key : Stage → ℕ → Bool
is_valid_key k serial = fits k serial && is_valid k

-- ---- a channel, by what its number has and by its serial

-- the channel is the present one of its number
abbrev pub fits_channel : Chan → ℕ → Bool
fits_channel c serial = c.made && (c.serial == serial)

-- the channel was opened
abbrev pub was_opened : Chan → ℕ → Bool
was_opened c serial = c.made && not (nat_lt c.serial serial)

-- the channel was closed: its number has a later one, or it is closed
abbrev pub was_closed : Chan → ℕ → Bool
was_closed c serial = nat_lt serial c.serial || (fits_channel c serial && c.closed)

-- the channel is open
abbrev pub is_open_channel : Chan → ℕ → Bool
is_open_channel c serial = fits_channel c serial && not c.closed

-- nothing in what a number has forbids that it is given to a new channel: its channel is closed, and there is a next
-- serial
abbrev pub can_reopen : Chan → Bool
can_reopen c = c.made && c.closed && nat_lt c.serial last_serial

-- a channel is registered where it is the present one of its number and a key of this number is in a key set
pub record IsRegistered (st : State) (c : ChanId) : Type 0 where
  pub present : IsTrue (fits_channel (st.chan c.number.0) c.serial)
  pub selector : ℕ
  pub index : ℕ
  pub of_channel : (st.key selector index).chan ≡ c.number
  pub in_set : IsTrue (in_key_set (st.key selector index))
