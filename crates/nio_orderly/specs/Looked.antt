-- What a selection looks at in a legal and orderly history: each key that is valid all the while. Where it goes by a list,
-- these laws ask that the list is the selector's and that its caller has it.
use Rattle.std.specs.Prelude.{ℕ, Option, Ok, IfOk, IsTrue, List, ◌++◌}
use Rattle.nio_base.specs.declared.limits.Limits.{Limits}
use Rattle.nio_base.specs.declared.numbers.CallerNo.{CallerNo}
use Rattle.nio_base.specs.declared.numbers.SelNo.{SelNo}
use Rattle.nio_history.specs.Histories.{state_after}
use Rattle.nio_history.specs.Sets.{is_valid_key, was_published}
use Rattle.nio_history.specs.declared.event.Event.{Event}
use Rattle.nio_history.specs.declared.found.Mode.{Mode}
use Rattle.nio_orderly.specs.Lists.{KnowsGiven}
use Rattle.nio_orderly.specs.Made.{table_call, waiting_call}
use Rattle.nio_orderly.specs.Removals.{MadeLast}
use Rattle.nio_steps.specs.Laws.{HasEntry}
use Rattle.nio_steps.specs.SelectCalls.{Selection, Poll, SelectOutcome}
use Rattle.nio_steps.specs.TableCalls.{try_begin, select}
use Rattle.nio_steps.specs.declared.looked.LookedKey.{LookedKey}

-- A key that was published before a `try_begin` that answers Ok, and is valid when the call returns, is on its looked
-- list.
abbrev pub BeginLooksAtValid : Type 0
BeginLooksAtValid =
    (l : Limits) (n : CallerNo) (before later : List Event) (s : SelNo) (mode : Mode) (known : Option (List LookedKey))
    (selection : Selection) (i serial : ℕ)
    → MadeLast l n before later (table_call (try_begin s mode known) (Ok selection)) → KnowsGiven l n before s known
    → IsTrue (was_published ((state_after before).key s.0 i) serial)
    → IsTrue (is_valid_key ((state_after (before ++ later)).key s.0 i) serial)
    → HasEntry selection.looked i serial

-- So is a key that was published before a `select` that begins, and is valid when the call returns.
abbrev pub SelectLooksAtValid : Type 0
SelectLooksAtValid =
    (l : Limits) (n : CallerNo) (before later : List Event) (s : SelNo) (mode : Mode) (known : Option (List LookedKey))
    (polls : List Poll) (outcome : SelectOutcome) (i serial : ℕ)
    → MadeLast l n before later (waiting_call (select s mode known polls) outcome) → KnowsGiven l n before s known
    → IsTrue (was_published ((state_after before).key s.0 i) serial)
    → IsTrue (is_valid_key ((state_after (before ++ later)).key s.0 i) serial)
    → IfOk outcome.begun (λ selection. HasEntry selection.looked i serial)
