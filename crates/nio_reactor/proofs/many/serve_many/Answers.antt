use Rattle.nio_reactor.proofs.Accounting.{none_accounted}
use Rattle.nio_reactor.proofs.Concluding.{none_served}
use Rattle.nio_reactor.proofs.Handing.{none_handed}
use Rattle.nio_reactor.proofs.Nets.{members}
use Rattle.nio_reactor.specs.declared.many.ManyError.TheVariants.{Memory}
use Rattle.nio_reactor.proofs.many.serve_many.Goals as goal

pub returns-in_default-clause-serves : goal.returns-in_default-clause-serves
returns-in_default-clause-serves g c =
    none_served (members g.N.Poller g.N.Net) c.args.plan c.args.net.now c.args.more.now.items c.requires.fresh c.requires.nets

pub returns-in_default-clause-handed : goal.returns-in_default-clause-handed
returns-in_default-clause-handed g c =
    none_handed (members g.N.Poller g.N.Net) c.args.plan.conns c.args.more.now.items c.args.handed.now Memory

pub returns-in_default-clause-links : goal.returns-in_default-clause-links
returns-in_default-clause-links g c =
    none_accounted (members g.N.Poller g.N.Net) (g.N.Net.accepted c.args.net.now) c.args.more.now.items c.args.more.now.items c.args.handed.now

pub returns-in_default-set_up-clause-serves : goal.returns-in_default-set_up-clause-serves
returns-in_default-set_up-clause-serves g c =
    none_served (members g.N.Poller g.N.Net) c.args.plan c.args.net.now c.args.more.now.items c.requires.fresh c.requires.nets

pub returns-in_default-set_up-clause-handed : goal.returns-in_default-set_up-clause-handed
returns-in_default-set_up-clause-handed g c =
    none_handed (members g.N.Poller g.N.Net) c.args.plan.conns c.args.more.now.items c.args.handed.now Memory

pub returns-in_default-set_up-clause-links : goal.returns-in_default-set_up-clause-links
returns-in_default-set_up-clause-links g c =
    none_accounted (members g.N.Poller g.N.Net) (g.N.Net.accepted c.args.net.now) c.args.more.now.items c.args.more.now.items c.args.handed.now

pub returns-in_default-open_lines-clause-serves : goal.returns-in_default-open_lines-clause-serves
returns-in_default-open_lines-clause-serves g c =
    none_served (members g.N.Poller g.N.Net) c.args.plan c.args.net.now c.args.more.now.items c.requires.fresh c.requires.nets

pub returns-in_default-open_lines-clause-handed : goal.returns-in_default-open_lines-clause-handed
returns-in_default-open_lines-clause-handed g c =
    none_handed (members g.N.Poller g.N.Net) c.args.plan.conns c.args.more.now.items c.args.handed.now Memory

pub returns-in_default-open_lines-clause-links : goal.returns-in_default-open_lines-clause-links
returns-in_default-open_lines-clause-links g c =
    none_accounted (members g.N.Poller g.N.Net) (g.N.Net.accepted c.args.net.now) c.args.more.now.items c.args.more.now.items c.args.handed.now
