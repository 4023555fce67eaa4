use Rattle.nio_race.proofs.Adding.{not_its, unanswered}
use Rattle.nio_race.proofs.output.add_line.Goals as goal
use Rattle.nio_race.proofs.output.add_line.Goals.{then-line-caller-via-then-line-caller}
use Rattle.nio_race.proofs.output.add_line.Goals.{then-line-caller-via-else-line-caller+then-made-replies}

pub returns-then-line-caller : goal.returns-then-line-caller
returns-then-line-caller c =
    elim c.then-line-caller.branch [
      | then-line-caller-via-then-line-caller w ↦ not_its c.args.caller c.args.line.now c.args.replies.now c.args.made
          c.args.text.now.items w.if-line-caller.true
      | then-line-caller-via-else-line-caller+then-made-replies w ↦ unanswered c.args.caller c.args.line.now
          c.args.replies.now c.args.made c.args.text.now.items w.if-made-replies.true
    ]
