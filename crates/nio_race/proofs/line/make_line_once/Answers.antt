use Rattle.nio_race.proofs.Standing.{line_later, line_once_of, line_stands}
use Rattle.nio_race.proofs.line.make_line_once.Goals as goal

pub returns-clause-line : goal.returns-clause-line
returns-clause-line c =
    line_once_of c.args.w.now c.args.d.now c.make_line.new.d c.args.me c.args.call.now c.make_line.result c.requires
    c.make_line.ensures

pub returns-clause-stands : goal.returns-clause-stands
returns-clause-stands c =
    line_stands c.args.w.now c.args.d.now c.make_line.new.d c.args.me c.args.call.now c.make_line.result c.requires
    c.make_line.ensures

pub returns-clause-later : goal.returns-clause-later
returns-clause-later c =
    line_later c.args.w.now c.args.d.now c.make_line.new.d c.args.me c.args.call.now c.make_line.result
    c.make_line.ensures
