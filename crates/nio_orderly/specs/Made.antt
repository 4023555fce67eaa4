-- The calls that callers make, each with its reply; what a caller does in a call, and which call may come
-- after others.
use Rattle.std.specs.Prelude.{◌≡◌, false, List, [], ◌∷◌, ⊤}
use Rattle.nio_base.specs.declared.limits.Limits.{Limits}
use Rattle.nio_base.specs.declared.numbers.CallerNo.{CallerNo}
use Rattle.nio_history.specs.declared.act.Act.{Act}
use Rattle.nio_history.specs.declared.act.Act.TheVariants.{DrawBit}
use Rattle.nio_steps.specs.Ongoing.{Ongoing, changed}
use Rattle.nio_steps.specs.Runs.{Completes}
use Rattle.nio_steps.specs.TableCalls.{TableCall, row_of, WaitCall, wait_row_of}

-- a call: what it was given, and its reply
pub data Made : Type 0 where
  -- a draw that found its number not drawn; one that found it drawn makes no event
  draw : CallerNo → Made
  -- a call that doesn't wait
  table_call : (call : TableCall) → (row_of call).Reply → Made
  waiting_call : (call : WaitCall) → (wait_row_of call).Reply → Made

-- the acts are those of a caller that makes this call and has this reply
abbrev pub IsRun : Limits → Made → List Act → Type 0
IsRun l (draw n) acts = acts ≡ DrawBit n false ∷ []
IsRun l (table_call call answer) acts =
    Completes ((row_of call).plan l ((row_of call).lacks_memory answer)) acts answer
IsRun l (waiting_call call answer) acts = (wait_row_of call).Shape l acts answer

-- what a caller has in progress after the call
abbrev pub after_call : Ongoing → Made → Ongoing
after_call now (draw n) = now
after_call now (table_call call answer) = changed now ((row_of call).change answer)
after_call now (waiting_call call answer) = changed now ((wait_row_of call).change answer)

-- The call may come next: `told` and `leave` belong to the caller's selection in progress on that selector, and
-- `try_finish` to its closing in progress; a `try_begin` and a whole selection with a list are given the list that the
-- caller has for the selector.
abbrev pub MayCome : Ongoing → Made → Type 0
MayCome now (draw n) = ⊤
MayCome now (table_call call answer) = (row_of call).may_come now
MayCome now (waiting_call call answer) = (wait_row_of call).may_come now

-- each call of the list may come after those before it
abbrev pub AreInOrder : Ongoing → List Made → Type 0
AreInOrder now [] = ⊤
AreInOrder now (call ∷ later) = MayCome now call × AreInOrder (after_call now call) later

abbrev pub after_calls : Ongoing → List Made → Ongoing
after_calls now [] = now
after_calls now (call ∷ later) = after_calls (after_call now call) later
