use Rattle.nio_words.proofs.GoingOn.{calls_go_on, draws_go_on, splits_go_on, joins_go_on, going_on_chains}
use Rattle.nio_words.proofs.GoingOn.{histories_go_on}
use Rattle.nio_words.proofs.laws.going_on_law.Goals as goal

pub returns-clause-calls : goal.returns-clause-calls
returns-clause-calls c = calls_go_on

pub returns-clause-draws : goal.returns-clause-draws
returns-clause-draws c = draws_go_on

pub returns-clause-splits : goal.returns-clause-splits
returns-clause-splits c = splits_go_on

pub returns-clause-joins : goal.returns-clause-joins
returns-clause-joins c = joins_go_on

pub returns-clause-chains : goal.returns-clause-chains
returns-clause-chains c = going_on_chains

pub returns-clause-histories : goal.returns-clause-histories
returns-clause-histories c = histories_go_on
