use Rattle.nio_channel.proofs.modes.key_if_blocking.Goals as goal

pub returns-then-on-clause-clear : goal.returns-then-on-clause-clear
returns-then-on-clause-clear c = λ none _. c.first_key.ensures.clear none
