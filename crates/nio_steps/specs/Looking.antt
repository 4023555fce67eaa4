-- How a selection goes over the keys of a selector.
--
-- A caller that hasn't the selector's list looks at each index that isn't free. A caller that has the list goes from
-- selection to selection with what it knows of the selector's valid keys, and looks only at the indexes that are
-- touched. Whoever changes what a selection looks at touches the index first, under a pin. A selection that finds an
-- index pinned touches it again, so that the next one looks there too.
use Rattle.std.specs.Prelude.{ℕ, zero, suc, ◌+◌, ◌*◌, ◌==◌, nat_lt, Bool, true, false, not, ◌&&◌, if◌then◌else◌}
use Rattle.std.specs.Prelude.{Option, Some, None, List, [], ◌∷◌, ◌++◌, filter}
use Rattle.nio_base.specs.Numbers.{last_serial}
use Rattle.nio_base.specs.declared.numbers.SelNo.{SelNo}
use Rattle.nio_history.specs.Sets.{in_cancelled_set, is_valid}
use Rattle.nio_history.specs.declared.found.IndexWord.{IndexWord}
use Rattle.nio_history.specs.declared.found.Stage.{Stage}
use Rattle.nio_steps.specs.ChannelCalls.{words_below}
use Rattle.nio_steps.specs.KeyCalls.{has_bit}
use Rattle.nio_steps.specs.Plan.{Plan, reply, ◌>>=◌, ◌>>◌, when}
use Rattle.nio_steps.specs.Steps.{look_key, look_interest, remove, look_free, put_free, touch, look_touched, take_touched}
use Rattle.nio_steps.specs.Steps.{look_index}
use Rattle.nio_steps.specs.Sweeps.{sweep_to, sweep_over}
use Rattle.nio_steps.specs.declared.looked.LookedKey.{LookedKey}

-- ---- going over the indexes of a selector that aren't free

-- those of the first n of the 64 indexes from 64 times j on that are below the bound and that the look shows
-- as not free
unfoldable pub not_free : ℕ → ℕ → ℕ → ℕ → List ℕ
not_free word j bound zero = []
not_free word j bound (suc n) =
    if nat_lt (64 * j + n) bound && not (has_bit word n) then not_free word j bound n ++ (64 * j + n) ∷ []
    else not_free word j bound n

-- makes the steps `f` of each of these 64 indexes that is below the bound and that one look finds not free
abbrev pub over_word : {A : Type 0} → SelNo → ℕ → (ℕ → A → Plan A) → ℕ → A → Plan A
over_word s bound f j x = do
  word ← look_free s j
  sweep_over (not_free word j bound 64) f x

-- the same of all indexes below the bound, 64 after 64
abbrev pub over_not_free : {A : Type 0} → SelNo → ℕ → (ℕ → A → Plan A) → A → Plan A
over_not_free s bound f x = sweep_to (words_below bound) 0 (over_word s bound f) x

-- ---- going over the indexes that were touched

-- those of the first n of the 64 indexes from 64 times j on that the word shows
unfoldable pub shown : ℕ → ℕ → ℕ → List ℕ
shown word j zero = []
shown word j (suc n) = if has_bit word n then shown word j n ++ (64 * j + n) ∷ [] else shown word j n

-- makes the steps `f` of each of these 64 indexes that one look finds touched; the bits stay
abbrev pub over_touched : {A : Type 0} → SelNo → (ℕ → A → Plan A) → ℕ → A → Plan A
over_touched s f j x = do
  word ← look_touched s j
  sweep_over (shown word j 64) f x

-- ---- removing cancelled keys

-- a key of the cancelled set is removed, and its index is free then, unless this was its last serial
abbrev pub remove_cancelled : SelNo → ℕ → Stage → Plan (Unit {0})
remove_cancelled s i stage = do
  remove s i
  when (nat_lt stage.serial last_serial) (put_free s i)

abbrev pub remove_if_cancelled : SelNo → ℕ → Plan (Unit {0})
remove_if_cancelled s i = do
  stage ← look_key s i
  when (in_cancelled_set stage) (remove_cancelled s i stage)

-- ---- looking at the keys, without the list

abbrev pub looked_key : ℕ → Stage → ℕ → LookedKey
looked_key i stage ops = record { index = i; serial = stage.serial; channel = stage.chan; interest = ops }

-- a valid key is looked at
abbrev pub look_valid : SelNo → ℕ → Stage → List LookedKey → Plan (List LookedKey)
look_valid s i stage looked = do
  ops ← look_interest s i
  reply (looked ++ looked_key i stage ops ∷ [])

-- how a selection goes on after its look at an index that isn't free
abbrev pub look_on : SelNo → ℕ → List LookedKey → Stage → Plan (List LookedKey)
look_on s i looked stage =
    if in_cancelled_set stage then (remove_cancelled s i stage >> reply looked) else
    (if is_valid stage then look_valid s i stage looked else reply looked)

abbrev pub look_over : SelNo → ℕ → List LookedKey → Plan (List LookedKey)
look_over s i looked = look_key s i >>= look_on s i looked

-- ---- looking at the keys, with the list

-- what the list has of other indexes
abbrev pub without_index : ℕ → List LookedKey → List LookedKey
without_index i known = filter (λ entry. not (entry.index == i)) known

-- a key comes on the list, which rises
unfoldable pub enlisted : LookedKey → List LookedKey → List LookedKey
enlisted entry [] = entry ∷ []
enlisted entry (e ∷ known) = if nat_lt e.index entry.index then e ∷ enlisted entry known else entry ∷ e ∷ known

-- a valid key is looked at, and stands on the list as it was found
abbrev pub list_valid : SelNo → ℕ → Stage → List LookedKey → Plan (List LookedKey)
list_valid s i stage known = do
  ops ← look_interest s i
  reply (enlisted (looked_key i stage ops) (without_index i known))

-- how a selection goes on after its look at an index whose bit it took
abbrev pub list_on : SelNo → ℕ → List LookedKey → Stage → Plan (List LookedKey)
list_on s i known stage =
    if in_cancelled_set stage then (remove_cancelled s i stage >> reply (without_index i known)) else
    (if is_valid stage then list_valid s i stage known else reply (without_index i known))

-- whoever has a pin may be amid a change, so an index that is found pinned is touched again
abbrev pub list_found : SelNo → ℕ → List LookedKey → IndexWord → Plan (List LookedKey)
list_found s i known found = when found.pinned (touch s i) >> list_on s i known found.stage

abbrev pub list_over : SelNo → ℕ → List LookedKey → Plan (List LookedKey)
list_over s i known = look_index s i >>= list_found s i known

-- the bits of these 64 indexes are taken, and each index that was touched is looked at
abbrev pub list_taken : SelNo → ℕ → List LookedKey → Plan (List LookedKey)
list_taken s j known = do
  word ← take_touched s j
  sweep_over (shown word j 64) (list_over s) known

-- they are taken where a look shows any
abbrev pub list_word : SelNo → ℕ → List LookedKey → Plan (List LookedKey)
list_word s j known = do
  word ← look_touched s j
  if word == 0 then reply known else list_taken s j known

-- ---- both ways

-- The keys that a selection with this bound looks at: without the list the valid keys below the bound, and with the
-- list, `known`, the keys that it has after this. With the list it goes over whole words of 64 indexes, so of the last
-- word some may be at or above the bound.
abbrev pub look_at_keys : SelNo → ℕ → Option (List LookedKey) → Plan (List LookedKey)
look_at_keys s bound None = over_not_free s bound (look_over s) []
look_at_keys s bound (Some known) = sweep_to (words_below bound) 0 (list_word s) known

-- Removes each key below the mark that it finds in the cancelled set: it looks at each index that isn't free, or, where
-- the selection goes by the list, at each that is touched. A key was touched before it was cancelled. With the list it
-- goes over whole words of 64 indexes, so it may remove keys of the last word at or above the mark.
abbrev pub remove_below : SelNo → ℕ → (listed : Bool) → Plan (Unit {0})
remove_below s mark false = over_not_free s mark (λ i _. remove_if_cancelled s i) tt
remove_below s mark true = sweep_to (words_below mark) 0 (over_touched s (λ i _. remove_if_cancelled s i)) tt
