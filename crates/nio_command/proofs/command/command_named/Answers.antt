use Rattle.nio_command.proofs.Commands.{not_named}
use Rattle.nio_command.proofs.command.command_named.Goals as goal

pub returns-in_default-clause-only : goal.returns-in_default-clause-only
returns-in_default-clause-only c = λ command h.
    absurd (not_named c.args.word.now command c.in_default.not-script c.in_default.not-check c.in_default.not-text
    c.in_default.not-race c.in_default.not-timed h)
