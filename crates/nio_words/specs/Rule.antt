-- The table's rule: what holds of its words and of all seats' views between any two steps.
use Rattle.std.specs.Prelude.{◌≡◌, ◌≢◌, ℕ, ◌<◌, true, false, IsTrue, List, [], ◌∷◌, length, All, slice_index}
use Rattle.std.specs.Prelude.{if◌then◌else◌, nat_lt, bit_or}
use Rattle.std.specs.Int.{bit_at}
use mathlib.Core.List.{IsPrefix}
use mathlib.Core.Option.{some}
use lib.ListN.{get_elem?}
use Rattle.atomic_table.specs.Table.{State as Table}
use Rattle.nio_base.specs.Limits.{IsFit}
use Rattle.nio_base.specs.declared.limits.Limits.{Limits}
use Rattle.nio_base.specs.declared.numbers.CallerNo.{CallerNo}
use Rattle.nio_history.specs.Histories.{state_after, mine, IsLegal}
use Rattle.nio_history.specs.declared.event.Event.{Event}
use Rattle.nio_words.specs.Encodings.{encoding, bound, IsProper, limits_word}
use Rattle.nio_words.specs.Places.{IsWithin, place, word_count}
use Rattle.nio_words.specs.declared.part.Part.{Part}
use Rattle.nio_words.specs.declared.view.Half.{Half}
use Rattle.nio_words.specs.declared.view.View.{View}

-- a set of numbers, one bit each, has n
abbrev pub HasBit : ℕ → ℕ → Type 0
HasBit numbers n = bit_at numbers n ≡ 1

-- the first seat has seen nothing, holds no number, and is the only one
abbrev pub first_view : Limits → View
first_view l = record { seen = []; numbers = 0; limits = l; alone = true; spent = false; halves = [] }

-- what two seats that are joined leave: one with the numbers of both and the longer of what they
-- have seen, and one that is spent
abbrev pub longer : List Event → List Event → List Event
longer xs ys = if nat_lt (length xs) (length ys) then ys else xs

abbrev pub half : View → Half
half v = record { seen = v.seen; numbers = v.numbers }

abbrev pub joined_view : View → View → View
joined_view v w =
    record v {
      seen = longer v.seen w.seen;
      numbers = bit_or v.numbers w.numbers;
      alone = false;
      halves =
          half v ∷ half w ∷ [];
    }

abbrev pub spent_view : View
spent_view =
    record {
      seen = [];
      numbers = 0;
      limits = record {
        callers = 0;
        selectors = 0;
        channels = 0;
        keys = 0;
      };
      alone = false;
      spent = true;
      halves = [];
    }

-- what a seat that is split leaves with these numbers, on either side
abbrev pub split_view : ℕ → View → View
split_view numbers v = record v { numbers = numbers; alone = false; halves = [] }

-- what one of two joined passes knew stands in what is seen now
pub record StandsIn (seen : List Event) (h : Half) : Type 0 where
  pub begins : IsPrefix h.seen seen
  pub own : (n : CallerNo) → HasBit h.numbers n.0 → mine n seen ≡ mine n h.seen

-- what a seat that isn't spent knows of the table: what it has seen begins the history, and has
-- every event of each number that it holds; each of these is drawn
pub record Knows (l : Limits) (history : List Event) (v : View) : Type 0 where
  pub limits : v.limits ≡ l
  pub begins : IsPrefix v.seen history
  pub own : (n : CallerNo) → HasBit v.numbers n.0 → mine n history ≡ mine n v.seen
  pub callers : (n : ℕ) → HasBit v.numbers n → n < l.callers
  pub drawn : (n : ℕ) → HasBit v.numbers n → IsTrue ((state_after history).drawn n)
  pub halves : All (StandsIn v.seen) v.halves

-- a part's word is its encoding, and stays below the part's bound
pub record IsEncoded (l : Limits) (history : List Event) (words : List ℕ) (p : Part) : Type 0 where
  pub word : slice_index words (place l p) ≡ encoding (state_after history) p
  pub small : slice_index words (place l p) < bound p
  pub proper : IsProper (state_after history) p

-- some seat that isn't spent has seen the whole history
pub record IsSeenWhole (views : List View) (history : List Event) : Type 0 where
  pub seat : ℕ
  pub view : View
  pub there : get_elem? views seat ≡ some view
  pub unspent : view.spent ≡ false
  pub whole : view.seen ≡ history

-- the rule, for a table of these limits
pub record IsKept (l : Limits) (s : Table (Unit {0}) View) : Type 0 where
  pub fit : IsFit l
  -- one legal history, which some seat that isn't spent has seen whole
  pub history : List Event
  pub legal : IsLegal l history
  pub longest : IsSeenWhole s.views history
  -- each word that belongs to a part of the state is the encoding of that part of the state that the
  -- history leaves, and the word of the limits holds them
  pub wide : length s.words ≡ word_count l
  pub encoded : (p : Part) → IsWithin l p → IsEncoded l history s.words p
  pub limits : slice_index s.words 1 ≡ limits_word l
  -- each seat knows a beginning of the history
  pub each : (i : ℕ) (v : View) → get_elem? s.views i ≡ some v → v.spent ≡ false → Knows l history v
  -- no number is held by two seats, and none by a seat that is spent
  pub one_seat : (i j : ℕ) (v w : View) (n : ℕ) → get_elem? s.views i ≡ some v → get_elem? s.views j ≡ some w
      → HasBit v.numbers n → HasBit w.numbers n → i ≡ j
  pub spent_empty : (i : ℕ) (v : View) → get_elem? s.views i ≡ some v → v.spent ≡ true → v.numbers ≡ 0
  -- a number that isn't drawn has no event
  pub undrawn : (n : CallerNo) → (state_after history).drawn n.0 ≡ false → mine n history ≡ []
  -- a seat that is marked as the only one has seen the whole history, and every other seat is spent
  pub alone : (i : ℕ) (v : View) → get_elem? s.views i ≡ some v → v.alone ≡ true → v.seen ≡ history
  pub others_spent : (i j : ℕ) (v w : View) → get_elem? s.views i ≡ some v → v.alone ≡ true
      → get_elem? s.views j ≡ some w → j ≢ i → w.spent ≡ true
