use Rattle.std.proofs.Common.{refl}
use Rattle.nio_datagram.proofs.PassLaws.{gives_advances, gives_none_failed}
use Rattle.nio_datagram.proofs.direction.give.Goals as goal

pub returns-clause-advances : goal.returns-clause-advances
returns-clause-advances g c =
    gives_advances _ _ c.args.to c.send.result c.requires.passing.apart c.send.ensures.gives refl c.send.ensures.link

pub returns-clause-still : goal.returns-clause-still
returns-clause-still g c = gives_none_failed _ c.args.to _ _ _ _ c.send.result c.send.ensures.gives
