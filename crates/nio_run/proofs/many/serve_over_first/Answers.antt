use Rattle.std.proofs.Common.{◌≤◌, length, arith}
use Rattle.std.proofs.lemmas.Grind.{common_steps}
use Rattle.nio_reactor.proofs.Nets.{members}
use Rattle.nio_run.proofs.ByWorkers.{first_back, none_by_workers, none_over}
use Rattle.nio_run.proofs.many.serve_over_first.Goals as goal

pub returns-then-len-count-clause-serves : goal.returns-then-len-count-clause-serves
returns-then-len-count-clause-serves g c =
    none_by_workers (members g.N.Poller g.N.Net) c.args.plan c.args.more.now.items c.requires.more c.args.workers c.args.net.now
    c.requires.fresh

pub returns-in_default-clause-serves : goal.returns-in_default-clause-serves
returns-in_default-clause-serves g c =
    none_over (members g.N.Poller g.N.Net) c.args.plan c.args.more.now.items c.requires.more c.args.workers c.args.net.now c.requires.fresh
    c.lend.new.nets.items c.in_default.ensures.same

pub returns-clause-serves : goal.returns-clause-serves
returns-clause-serves g c =
    let enough : c.args.workers ≤ length c.args.more.now.items
    = grind (arith, common_steps, c.if-len-count.false, c.len.ensures) in
    let back = first_back c.args.workers c.args.more.now.items c.in-Ok.lent.items c.serve_many-served.new.more.items
    c.lend.new.nets.items c.give_back.new.nets.items enough c.in-Ok.ensures.lent c.serve_many-served.ensures.count
    c.give_back.ensures in
    rw (back, ← c.in-Ok.ensures.lent, c.without_pass.ensures) c.serve_many-served.ensures.serves
