use Rattle.std.proofs.Common.{rules}
use Rattle.nio_race.proofs.RacerLines.{line_of_script, stands_scripted}
use Rattle.nio_race.proofs.racer.make_called_line.Goals as goal

pub returns-in_default-clause-line : goal.returns-in_default-clause-line
returns-in_default-clause-line g c =
    line_of_script c.args.w.now c.args.d.now c.script_line.new.d c.args.ends.now c.args.me c.args.call.now
    c.script_line.result (search rules) c.script_line.ensures.line

pub returns-in_default-clause-stands : goal.returns-in_default-clause-stands
returns-in_default-clause-stands g c =
    stands_scripted c.args.w.now c.args.d.now c.script_line.new.d c.args.ends.now c.args.me c.args.call.now
    c.script_line.result c.requires.line c.requires.stands c.script_line.ensures.line c.script_line.ensures.stands
