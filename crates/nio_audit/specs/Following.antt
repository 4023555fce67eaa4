-- A judge follows a history: it has the state that the history leaves, and what callers know from their own events.
use Rattle.std.specs.Prelude.{◌≡◌, ◌+◌, List, length}
use Rattle.nio_audit.specs.Allowing.{state_of}
use Rattle.nio_audit.specs.Counting.{IsCounted}
use Rattle.nio_audit.specs.DueIndexes.{IsBefore}
use Rattle.nio_audit.specs.Remembering.{knowledge_of}
use Rattle.nio_audit.specs.Remembers.{Remembers}
use Rattle.nio_audit.specs.TableWords.{row}
use Rattle.nio_audit.specs.declared.judge.Judge.{Judge}
use Rattle.nio_base.specs.declared.limits.Limits.{Limits}
use Rattle.nio_history.specs.Histories.{state_after, IsLegal}
use Rattle.nio_history.specs.declared.event.Event.{Event}

pub record Follows (j : Judge) (past : List Event) : Type 0 where
  pub state : state_of j ≡ state_after past
  pub counted : IsCounted (state_of j) j.counts.channels (row j.counts.keys)
  pub before : IsBefore j.dues (length past + 1)
  pub remembers : Remembers (knowledge_of j.memory) past

-- the judge followed these events, which are steps
pub record HasJudged (j : Judge) (l : Limits) (past : List Event) : Type 0 where
  pub limits : j.limits ≡ l
  pub legal : IsLegal l past
  pub follows : Follows j past
