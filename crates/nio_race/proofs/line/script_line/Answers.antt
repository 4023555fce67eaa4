use Rattle.std.proofs.Common.{rules}
use Rattle.nio_race.proofs.Retried.{tried, tries_on}
use Rattle.nio_race.proofs.line.script_line.Goals as goal

pub returns-then-not-waits_for_hold-clause-line : goal.returns-then-not-waits_for_hold-clause-line
returns-then-not-waits_for_hold-clause-line g c =
    tried c.args.w.now c.args.d.now c.loop.d c.make_line_once.new.d c.args.me c.args.call.now c.in_ok-reply.reply
    c.loop.invariant c.in_ok-reply.ensures.line (search rules)

pub loop-preserved : goal.loop-preserved
loop-preserved g c =
    tries_on c.args.w.now c.args.d.now c.loop.d c.make_line_once.new.d c.args.me c.args.call.now c.in_ok-reply.reply
    c.loop.invariant c.in_ok-reply.ensures.line c.in_ok-reply.ensures.stands c.in_ok-reply.ensures.later
    (search rules)
