use Rattle.nio_race.proofs.Gathering.{joined_own}
use Rattle.nio_race.proofs.Running.{runs_to}
use Rattle.nio_race.proofs.run.race.Goals as goal

pub returns-clause-run : goal.returns-clause-run
returns-clause-run g c =
    let w = c.args.w.now in
    runs_to w c.in_ok-desk.desk c.args.setup.now c.args.lines.now c.run_callers-run.new.racers.items c.gather.new.p
    c.join.new.p
    c.new-text.result.items c.set_up.new.text.items c.run_callers-run.new.text.items
    c.in_ok-desk.ensures.set_up c.in_ok-desk.ensures.pipes c.new-text.ensures.items c.in_ok-desk.ensures.text
    c.in_ok-run.ensures.run c.in_ok-run.ensures.text
    c.gather.ensures.each (joined_own w c.gather.new.p c.into_pass.result c.join.new.p c.join.ensures)
    c.join.ensures.pass
