-- A selector's list: what the caller that has it knows of each index from its own acts, and the law that this is right.
--
-- Whoever sets an interest set, publishes or cancels a key touches the index first. The caller that has the list takes the bits of touched
-- indexes, and looks at those alone; of all others it knows what it found when it looked there last.
use Rattle.std.specs.Prelude.{◌≡◌, ℕ, ◌/◌, ◌%◌, ◌==◌, Bool, false, not, ◌&&◌, ◌||◌, if◌then◌else◌, Option, Some, None}
use Rattle.std.specs.Prelude.{option_map, is_some, IsTrue, IsFalse, List, map}
use Rattle.std.specs.Int.{bit_at}
use Rattle.nio_base.specs.Limits.{IsFit}
use Rattle.nio_base.specs.declared.limits.Limits.{Limits}
use Rattle.nio_base.specs.declared.numbers.CallerNo.{CallerNo}
use Rattle.nio_base.specs.declared.numbers.ChanNo.{ChanNo}
use Rattle.nio_base.specs.declared.numbers.SelNo.{SelNo}
use Rattle.nio_history.specs.Conditions.{has_list, is_amid}
use Rattle.nio_history.specs.Histories.{state_after, mine, IsLegal}
use Rattle.nio_history.specs.OwnEvents.{has, first, last, since_from, touches}
use Rattle.nio_history.specs.Pins.{removes}
use Rattle.nio_history.specs.Sets.{is_valid, in_cancelled_set}
use Rattle.nio_history.specs.State.{State}
use Rattle.nio_history.specs.declared.act.Act.{Act}
use Rattle.nio_history.specs.declared.act.Act.TheVariants.{LookInterest, TakeTouched, LookIndex}
use Rattle.nio_history.specs.declared.event.Event.{Event}
use Rattle.nio_history.specs.declared.found.IndexWord.{IndexWord}
use Rattle.nio_history.specs.declared.found.Stage.{Stage}

-- a valid key, as it stands on a list
pub record ListEntry : Type 0 where
  pub serial : ℕ
  pub channel : ChanNo
  pub interest : ℕ

abbrev pub list_entry : Stage → ℕ → ListEntry
list_entry stage ops = record { serial = stage.serial; channel = stage.chan; interest = ops }

-- what stands at an index: its key and the interest set of that, where the key is valid
abbrev pub entry_at : State → ℕ → ℕ → Option ListEntry
entry_at st s i = if is_valid (st.key s i) then Some (list_entry (st.key s i) (st.interest s i)) else None

-- ---- what the caller that has the list knows of an index

-- what it found at index i of selector s by `look_index`
abbrev pub index_found : ℕ → ℕ → Act → Option IndexWord
index_found s i (LookIndex s' i' found) = if (s'.0 == s) && (i' == i) then Some found else None
index_found s i _ = None

-- an interest set that it found there
abbrev pub interest_found : ℕ → ℕ → Act → Option ℕ
interest_found s i (LookInterest s' i' found) = if (s'.0 == s) && (i' == i) then Some found else None
interest_found s i _ = None

-- it took the bit of index i, which was touched
abbrev pub takes_bit : ℕ → ℕ → Act → Bool
takes_bit s i (TakeTouched s' j found) = (s'.0 == s) && (i / 64 == j) && (bit_at found (i % 64) == 1)
takes_bit s i _ = false

-- what it did since it looked at the index last
abbrev pub since_looked : ℕ → ℕ → List Act → List Act
since_looked s i own = since_from (λ act. is_some (index_found s i act)) own

-- The entry of an index by the last look at it and the interest set that was found next: none where there was no such
-- look, or where it found no valid key.
abbrev pub entry_by : Option IndexWord → Option ℕ → Option ListEntry
entry_by None interest = None
entry_by (Some found) interest = if is_valid found.stage then option_map (list_entry found.stage) interest else None

-- the caller's entry of index i of selector s
abbrev pub entry : ℕ → ℕ → List Act → Option ListEntry
entry s i own = entry_by (last (index_found s i) own) (first (interest_found s i) (since_looked s i own))

-- what is still to be done after the last look at an index: to touch it, where that look found it pinned; to remove its
-- key, where it found that in the cancelled set; and to look at the interest set, where it found a valid key
abbrev pub is_half_done : ℕ → ℕ → List Act → Option IndexWord → Bool
is_half_done s i since None = false
is_half_done s i since (Some found) =
    (found.pinned && not (has (touches s i) since))
    || (in_cancelled_set found.stage && not (has (removes s i) since))
    || (is_valid found.stage && not (is_some (first (interest_found s i) since)))

-- it took the bit of the index and hasn't looked there since, or is in the middle of that look
abbrev pub owes_look : ℕ → ℕ → List Act → Bool
owes_look s i own =
    has (takes_bit s i) (since_looked s i own)
    || is_half_done s i (since_looked s i own) (last (index_found s i) own)

-- ---- the law

-- an entry is what stands at the index, where no key is in the cancelled set, and nobody is amid a change there
pub record IsRight (st : State) (s : SelNo) (i : ℕ) (known : Option ListEntry) : Type 0 where
  pub stands : known ≡ entry_at st s.0 i
  pub not_cancelled : IsFalse (in_cancelled_set (st.key s.0 i))
  pub unchanging : (n : CallerNo) → IsFalse (is_amid st n s i)

-- Till a closer has entered: where an index isn't touched, and the caller that has the list doesn't owe a look there,
-- its entry of the index is right.
abbrev pub ListsAreRight : Type 0
ListsAreRight = (l : Limits) (n : CallerNo) (s : SelNo) (i : ℕ) (events : List Event) → IsFit l → IsLegal l events
    → IsTrue (has_list (state_after events) n s)
    → IsFalse ((state_after events).entered s.0)
    → IsFalse ((state_after events).touched s.0 i)
    → IsFalse (owes_look s.0 i (mine n events))
    → IsRight (state_after events) s i (entry s.0 i (mine n events))

-- ---- which indexes are touched

-- it takes the bits of the 64 indexes among which index i is
abbrev pub takes_word_of : ℕ → ℕ → Act → Bool
takes_word_of s i (TakeTouched s' j found) = (s'.0 == s) && (i / 64 == j)
takes_word_of s i _ = false

-- An index is touched exactly where somebody touched it since the bits of its word were taken last, or at any time where
-- they never were.
abbrev pub TouchedSince : Type 0
TouchedSince = (l : Limits) (s : SelNo) (i : ℕ) (events : List Event) → IsLegal l events
    → (state_after events).touched s.0 i
    ≡ has (touches s.0 i) (since_from (takes_word_of s.0 i) (map (λ e. e.act) events))
