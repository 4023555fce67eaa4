use Rattle.nio_plain.proofs.ReachedLaws.{sets_are_within_key_set, keys_are_below_high, looked_are_in_key_set}
use Rattle.nio_plain.proofs.laws.reached.sets_law.Goals as goal

pub returns-clause-within : goal.returns-clause-within
returns-clause-within c = sets_are_within_key_set

pub returns-clause-below : goal.returns-clause-below
returns-clause-below c = keys_are_below_high

pub returns-clause-looked : goal.returns-clause-looked
returns-clause-looked c = looked_are_in_key_set
