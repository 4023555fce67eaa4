use Rattle.nio_race.proofs.RacerLines.{line_of_block, stands_blocked}
use Rattle.nio_race.proofs.racer.Racer.make_race_line.Goals as goal

pub returns-in-Block-clause-line : goal.returns-in-Block-clause-line
returns-in-Block-clause-line g c =
    line_of_block c.args.w.now c.args.self.now.desk c.block_line.new.d c.args.self.now.ends c.args.self.now.number c.args.call.now
    c.in-Block.sel c.block_line.result c.in-Block.is c.block_line.ensures.line

pub returns-in-Block-clause-stands : goal.returns-in-Block-clause-stands
returns-in-Block-clause-stands g c =
    stands_blocked c.args.w.now c.args.self.now.desk c.block_line.new.d c.args.self.now.ends c.args.self.now.number c.in-Block.sel
    c.block_line.result c.requires.stands c.block_line.ensures.line c.block_line.ensures.stands
