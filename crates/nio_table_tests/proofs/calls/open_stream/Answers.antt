use Rattle.nio_history.proofs.PassViews.{channel_after}
use Rattle.nio_steps.proofs.PinLaws.{pins_are_given_back}
use Rattle.nio_table_tests.proofs.Idle.{idle_call}
use Rattle.nio_table_tests.proofs.calls.open_stream.Goals as goal

pub returns-in_err-try_set_blocking-clause-idle : goal.returns-in_err-try_set_blocking-clause-idle
returns-in_err-try_set_blocking-clause-idle c =
    idle_call (pins_are_given_back.try_set_blocking _ _ _) c.try_set_blocking.ensures.call
    c.try_set_blocking.ensures.ready c.opened.ensures.idle

pub returns-clause-idle : goal.returns-clause-idle
returns-clause-idle c =
    idle_call (pins_are_given_back.try_set_blocking _ _ _) c.try_set_blocking.ensures.call
    c.try_set_blocking.ensures.ready c.opened.ensures.idle

pub returns-clause-made : goal.returns-clause-made
returns-clause-made c = channel_after c.try_set_blocking.ensures.call.acts c.in_ok-chan.ensures.made
