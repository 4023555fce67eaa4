use Rattle.std.proofs.Common.{refl}
use Rattle.nio_poller.proofs.Marks.{within_trans}
use Rattle.nio_serve.proofs.proxy.Proxy.accept_told.Goals as goal

pub accept_all-requires-clause-ready : goal.accept_all-requires-clause-ready
accept_all-requires-clause-ready g c = within_trans 16 c.args.ops _ (c.if-within.ensures.0 refl) c.requires.ready
