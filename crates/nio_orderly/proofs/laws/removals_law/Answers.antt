use Rattle.nio_orderly.proofs.Removals.{begin_removes_cancelled, select_removes_cancelled, close_removes_below}
use Rattle.nio_orderly.proofs.Removals.{finish_removes_published, close_removes_published}
use Rattle.nio_orderly.proofs.ToldRemovals.{told_removes_cancelled, told_removes_looked}
use Rattle.nio_orderly.proofs.laws.removals_law.Goals as goal

pub returns-clause-begin : goal.returns-clause-begin
returns-clause-begin c = begin_removes_cancelled c.listed_law.ensures.cancelled c.listed_law.ensures.stood

pub returns-clause-select : goal.returns-clause-select
returns-clause-select c =
    select_removes_cancelled (begin_removes_cancelled c.listed_law.ensures.cancelled c.listed_law.ensures.stood)

pub returns-clause-told : goal.returns-clause-told
returns-clause-told c = told_removes_cancelled

pub returns-clause-looked : goal.returns-clause-looked
returns-clause-looked c = told_removes_looked

pub returns-clause-below : goal.returns-clause-below
returns-clause-below c = close_removes_below

pub returns-clause-finish : goal.returns-clause-finish
returns-clause-finish c = finish_removes_published

pub returns-clause-close : goal.returns-clause-close
returns-clause-close c = close_removes_published
