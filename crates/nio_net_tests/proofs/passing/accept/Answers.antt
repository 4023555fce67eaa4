use Rattle.nio_net_tests.proofs.Accepted.{accept_carries}
use Rattle.nio_net_tests.proofs.passing.accept.Goals as goal

pub returns-clause-links : goal.returns-clause-links
returns-clause-links c =
    let made = c.accept_link.ensures in
    accept_carries c.args.net.now c.first.result c.args.chan c.accept_link.new.self c.accept_link.result made.fresh
    made.spent made.free made.ok made.err
