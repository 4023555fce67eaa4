-- A bound on the steps of a selection, whatever other callers do meanwhile.
use Rattle.std.specs.Prelude.{◌≡◌, ℕ, ◌+◌, ◌*◌, ◌/◌, ◌%◌, ◌≤◌, ◌==◌, nat_lt, Bool, false, not, ◌&&◌, None, Ok, List, ◌∷◌}
use Rattle.std.specs.Prelude.{◌++◌, length, map}
use Rattle.nio_base.specs.Limits.{IsFit}
use Rattle.nio_base.specs.declared.limits.Limits.{Limits}
use Rattle.nio_base.specs.declared.numbers.CallerNo.{CallerNo}
use Rattle.nio_base.specs.declared.numbers.SelNo.{SelNo}
use Rattle.nio_history.specs.Answers.{count_below}
use Rattle.nio_history.specs.Histories.{mine, event_of, IsLegal}
use Rattle.nio_history.specs.OwnEvents.{has, count, gives_turn}
use Rattle.nio_history.specs.Turns.{removes_on}
use Rattle.nio_history.specs.declared.act.Act.{Act}
use Rattle.nio_history.specs.declared.act.Act.TheVariants.{LookKeys, BeginLook, UnselectBit, LookFree}
use Rattle.nio_history.specs.declared.event.Event.{Event}
use Rattle.nio_history.specs.declared.found.GateWord.{GateWord}
use Rattle.nio_steps.specs.ChannelCalls.{words_below}
use Rattle.nio_steps.specs.KeyCalls.{has_bit}
use Rattle.nio_steps.specs.SelectCalls.{Selection, Begins, Poll, Tells, done}
use Rattle.nio_steps.specs.declared.selected.Selected.{Selected}

-- it takes a key out of the selected set, at an index of selector s below the bound
abbrev pub unselects : ℕ → ℕ → Act → Bool
unselects s bound (UnselectBit s' i found) = (s'.0 == s) && nat_lt i bound
unselects s bound _ = false

-- it found that index k of selector s isn't free
abbrev pub finds_not_free : ℕ → ℕ → Act → Bool
finds_not_free s k (LookFree s' j found) = (s'.0 == s) && (j == k / 64) && not (has_bit found (k % 64))
finds_not_free s k _ = false

-- how many indexes of selector s below the mark these acts found not free
abbrev pub count_not_free : SelNo → ℕ → List Act → ℕ
count_not_free s mark acts = count_below mark (λ k. has (finds_not_free s.0 k) acts)

-- The acts of a whole selection without the list: a `try_begin` that answered Ok, and the `told` that ended it. They are given by the
-- look with which the selection begins and by the look at the keys' high-water mark at its end, and by what stands
-- before and after each of the two; between the two calls the caller may do what it likes, but give the turn back or
-- remove a key.
pub record IsWholeSelection (selection : Selection) (poll : Poll) (answer : Selected) (found : GateWord) (mark : ℕ)
    (first second between third fourth : List Act) : Type 0 where
  pub begins : Begins selection.selector selection.mode None (first ++ BeginLook selection.selector found ∷ second)
      (Ok selection)
  pub tells : Tells selection poll (third ++ LookKeys selection.selector mark ∷ fourth) (done answer)
  pub kept : has (gives_turn selection.selector.0) between ≡ false
  pub unremoved : has (removes_on selection.selector.0) between ≡ false

-- A selection finds the keys' high-water mark twice: its bound when it begins, and the mark at its end. It makes at
-- most 9 steps, one for each 64 indexes below each of the two, 4 for each index that it found not free when it began, 3
-- for each that it found not free at its end, and one for each time that anybody takes a key below the bound out of the
-- selected set between its first look at the gate with the turn and its look at the mark.
abbrev pub SelectionIsBounded : Type 0
SelectionIsBounded =
    (l : Limits) (n : CallerNo) (past window rest : List Event) (selection : Selection) (poll : Poll)
    (answer : Selected) (found : GateWord) (mark : ℕ) (first second between third fourth : List Act) → IsFit l
    → IsLegal l
    (past ++ event_of n (BeginLook selection.selector found)
    ∷ (window ++ event_of n (LookKeys selection.selector mark) ∷ rest))
    → mine n window ≡ second ++ (between ++ third)
    → IsWholeSelection selection poll answer found mark first second between third fourth
    → let s = selection.selector in
    let bound = selection.bound in
    length (first ++ BeginLook s found ∷ second) + length (third ++ LookKeys s mark ∷ fourth)
    ≤ 9 + words_below bound + words_below mark + 4 * count_not_free s bound second + 3 * count_not_free s mark fourth
    + count (unselects s.0 bound) (map (λ e. e.act) window)
