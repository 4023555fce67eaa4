use Rattle.nio_plain.proofs.ReachedLaws.{one_key_of_a_channel, key_of_a_channel_is_found}
use Rattle.nio_plain.proofs.laws.reached.key_of_channel_law.Goals as goal

pub returns-clause-one : goal.returns-clause-one
returns-clause-one c = one_key_of_a_channel

pub returns-clause-found : goal.returns-clause-found
returns-clause-found c = key_of_a_channel_is_found
