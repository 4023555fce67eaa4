use Rattle.std.proofs.Common.{sym, ◌∙◌}
use Rattle.nio_link.proofs.Handing.{takes_out}
use Rattle.nio_link.proofs.memory.passing.MemoryNetPassable.take_out.Goals as goal

pub returns-clause-call : goal.returns-clause-call
returns-clause-call c =
    let made = c.take_loose.ensures in
    takes_out c.args.self.now c.take_loose.new.self c.args.chan c.take_loose.result
    (rw (← c.self.view_is) (sym c.stands.ensures ∙ c.if-not-stands.false)) made.link made.there made.after made.spent
    c.requires.unused
