use Rattle.nio_steps.proofs.PinLaws.{pins_are_given_back}
use Rattle.nio_channel.proofs.Idle.{idle_after}
use Rattle.nio_table_tests.proofs.Idle.{idle_call}
use Rattle.nio_table_tests.proofs.calls.on_key.Goals as goal

pub returns-in-IsValid : goal.returns-in-IsValid
returns-in-IsValid c =
    idle_call (pins_are_given_back.is_valid _) c.is_valid.ensures.call c.is_valid.ensures.ready c.requires.idle

pub returns-in-Interest : goal.returns-in-Interest
returns-in-Interest c =
    idle_after c.interest.ensures.call.acts c.interest.ensures.ready.pass c.interest.ensures.unpinned c.requires.idle

pub returns-in-Set : goal.returns-in-Set
returns-in-Set c =
    idle_after c.set_interest.ensures.call.acts c.set_interest.ensures.ready.pass c.set_interest.ensures.unpinned
    c.requires.idle

pub returns-in-Or : goal.returns-in-Or
returns-in-Or c =
    idle_after c.interest_or.ensures.call.acts c.interest_or.ensures.ready.pass c.interest_or.ensures.unpinned
    c.requires.idle

pub returns-in-And : goal.returns-in-And
returns-in-And c =
    idle_after c.interest_and.ensures.call.acts c.interest_and.ensures.ready.pass c.interest_and.ensures.unpinned
    c.requires.idle

pub returns-in-Ready : goal.returns-in-Ready
returns-in-Ready c =
    idle_after c.ready.ensures.call.acts c.ready.ensures.ready.pass c.ready.ensures.unpinned c.requires.idle

pub returns-in-Cancel : goal.returns-in-Cancel
returns-in-Cancel c =
    idle_after c.cancel.ensures.call.acts c.cancel.ensures.ready.pass c.cancel.ensures.unpinned c.requires.idle

pub returns-in-Unselect : goal.returns-in-Unselect
returns-in-Unselect c =
    idle_after c.unselect.ensures.call.acts c.unselect.ensures.ready.pass c.unselect.ensures.unpinned c.requires.idle

pub returns-in-Attach : goal.returns-in-Attach
returns-in-Attach c =
    idle_after c.attach.ensures.call.acts c.attach.ensures.ready.pass c.attach.ensures.unpinned c.requires.idle

pub returns-in-Attachment : goal.returns-in-Attachment
returns-in-Attachment c =
    idle_after c.attachment.ensures.call.acts c.attachment.ensures.ready.pass c.attachment.ensures.unpinned
    c.requires.idle
