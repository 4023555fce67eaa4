use Rattle.nio_channel.proofs.Held.{enrolled_inside, enrolled_claimed}
use Rattle.nio_channel.proofs.keys.look_enrolled.Goals as goal

pub returns-clause-inside : goal.returns-clause-inside
returns-clause-inside c = enrolled_inside c.look_reg.result c.look_reg.ensures c.requires.selector

pub returns-clause-claimed : goal.returns-clause-claimed
returns-clause-claimed c = enrolled_claimed c.look_reg.result c.look_reg.ensures
