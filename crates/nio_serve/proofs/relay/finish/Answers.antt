use Rattle.std.proofs.Common.{refl}
use Rattle.nio_poller.proofs.Marks.{within_trans}
use Rattle.nio_serve.proofs.relay.finish.Goals as goal

pub finish_connect-requires : goal.finish_connect-requires
finish_connect-requires g c =
    record {
      ready = within_trans 8 c.args.ops _ (c.if-within.ensures.0 refl) c.requires.ready;
      connecting = c.requires.stands;
    }
