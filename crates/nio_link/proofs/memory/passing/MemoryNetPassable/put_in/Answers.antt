use Rattle.nio_link.proofs.Handing.{puts_in}
use Rattle.nio_link.proofs.memory.passing.MemoryNetPassable.put_in.Goals as goal

pub returns-clause-call : goal.returns-clause-call
returns-clause-call c =
    let made = c.put_loose.ensures in
    puts_in c.args.self.now c.put_loose.new.self c.args.chan c.args.link c.put_loose.result c.requires made.ok made.err
    made.back made.fresh made.spent made.later
