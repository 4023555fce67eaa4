-- To which selection a `told` or a `leave` belongs, and to which closing a `try_finish`: what the
-- caller's own acts tell of it.
use Rattle.std.specs.Prelude.{◌≡◌, ℕ, ◌==◌, Bool, false, Option, Ok, List, ◌++◌}
use Rattle.std.specs.List.{Contains}
use Rattle.nio_base.specs.declared.numbers.SelNo.{SelNo}
use Rattle.nio_history.specs.OwnEvents.{has, gives_turn}
use Rattle.nio_history.specs.Turns.{removes_on}
use Rattle.nio_history.specs.declared.act.Act.{Act}
use Rattle.nio_history.specs.declared.act.Act.TheVariants.{Mark, ShutBit}
use Rattle.nio_steps.specs.SelectCalls.{Selection, Begins}
use Rattle.nio_steps.specs.declared.looked.LookedKey.{LookedKey}

-- it marked a key of selector s, which succeeded
abbrev pub marks_on : ℕ → Act → Bool
marks_on s (Mark s' i from told (Ok _)) = s'.0 == s
marks_on s _ = false

-- `own` has a beginning of this selection: a run of `try_begin`, with the selector's list or without it, that answered
-- Ok with its bound and its looked list. Since then the caller hasn't given the turn back, so it is its latest one on that selector, and it
-- has marked and removed no key there: a `told` that does so ends the selection.
pub record IsBegun (own : List Act) (selection : Selection) : Type 0 where
  pub earlier : List Act
  pub beginning : List Act
  pub since : List Act
  pub parts : own ≡ earlier ++ (beginning ++ since)
  -- the list before it
  pub known : Option (List LookedKey)
  pub begins : Begins selection.selector selection.mode known beginning (Ok selection)
  pub goes_on : has (gives_turn selection.selector.0) since ≡ false
  pub unmarked : has (marks_on selection.selector.0) since ≡ false
  pub unremoved : has (removes_on selection.selector.0) since ≡ false

-- the caller shut the selector; it may finish closing it, also again
abbrev pub IsClosing : List Act → SelNo → Type 0
IsClosing own s = Contains own (ShutBit s false)
