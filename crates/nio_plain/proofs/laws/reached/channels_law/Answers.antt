use Rattle.nio_plain.proofs.ReachedLaws.{closed_stays, key_keeps_its_channel, kind_stays, new_channel_is_new}
use Rattle.nio_plain.proofs.ReachedLaws.{opened_stays}
use Rattle.nio_plain.proofs.laws.reached.channels_law.Goals as goal

pub returns-clause-opened : goal.returns-clause-opened
returns-clause-opened c = opened_stays

pub returns-clause-closed : goal.returns-clause-closed
returns-clause-closed c = closed_stays

pub returns-clause-kind : goal.returns-clause-kind
returns-clause-kind c = kind_stays

pub returns-clause-new : goal.returns-clause-new
returns-clause-new c = new_channel_is_new

pub returns-clause-keys : goal.returns-clause-keys
returns-clause-keys c = key_keeps_its_channel
