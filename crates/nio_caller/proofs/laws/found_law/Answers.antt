use Rattle.nio_caller.proofs.Found.{channels_are_found, keys_are_found, selectors_are_found}
use Rattle.nio_caller.proofs.laws.found_law.Goals as goal

pub returns-clause-selectors : goal.returns-clause-selectors
returns-clause-selectors c = selectors_are_found

pub returns-clause-channels : goal.returns-clause-channels
returns-clause-channels c = channels_are_found

pub returns-clause-keys : goal.returns-clause-keys
returns-clause-keys c = keys_are_found
