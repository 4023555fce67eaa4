use Rattle.nio_sole.proofs.PipeLines.{group_called}
use Rattle.nio_sole.proofs.Words.{may_make, makes_by, asked_by}
use Rattle.nio_sole.proofs.line.call_of.Goals as goal

pub returns-in-Selector : goal.returns-in-Selector
returns-in-Selector c = asked_by c.in-Selector.is c.requires.places c.open_selector.ensures

pub returns-in-Channel : goal.returns-in-Channel
returns-in-Channel c = asked_by c.in-Channel.is c.requires.places c.open_channel.ensures

pub returns-in-Blocking : goal.returns-in-Blocking
returns-in-Blocking c = asked_by c.in-Blocking.is c.requires.places c.set_blocking.ensures

pub returns-in-IsBlocking : goal.returns-in-IsBlocking
returns-in-IsBlocking c = asked_by c.in-IsBlocking.is c.requires.places c.is_blocking.ensures

pub returns-in-IsOpen : goal.returns-in-IsOpen
returns-in-IsOpen c = asked_by c.in-IsOpen.is c.requires.places c.is_open.ensures

pub returns-in-IsRegistered : goal.returns-in-IsRegistered
returns-in-IsRegistered c = asked_by c.in-IsRegistered.is c.requires.places c.is_registered.ensures

pub returns-in-KeyFor : goal.returns-in-KeyFor
returns-in-KeyFor c = asked_by c.in-KeyFor.is c.requires.places c.key_for.ensures

pub returns-in-Register : goal.returns-in-Register
returns-in-Register c = asked_by c.in-Register.is c.requires.places c.register.ensures

pub returns-in-Valid : goal.returns-in-Valid
returns-in-Valid c = asked_by c.in-Valid.is c.requires.places c.is_valid.ensures

pub returns-in-Interest : goal.returns-in-Interest
returns-in-Interest c = asked_by c.in-Interest.is c.requires.places c.interest.ensures

pub returns-in-Ready : goal.returns-in-Ready
returns-in-Ready c = asked_by c.in-Ready.is c.requires.places c.ready.ensures

pub returns-in-Iset : goal.returns-in-Iset
returns-in-Iset c = asked_by c.in-Iset.is c.requires.places c.set_interest.ensures

pub returns-in-Ior : goal.returns-in-Ior
returns-in-Ior c = asked_by c.in-Ior.is c.requires.places c.interest_or.ensures

pub returns-in-Iand : goal.returns-in-Iand
returns-in-Iand c = asked_by c.in-Iand.is c.requires.places c.interest_and.ensures

pub returns-in-Cancel : goal.returns-in-Cancel
returns-in-Cancel c = asked_by c.in-Cancel.is c.requires.places c.cancel.ensures

pub returns-in-Unselect : goal.returns-in-Unselect
returns-in-Unselect c = asked_by c.in-Unselect.is c.requires.places c.unselect.ensures

pub returns-in-Attach : goal.returns-in-Attach
returns-in-Attach c = asked_by c.in-Attach.is c.requires.places c.attach.ensures

pub returns-in-Attachment : goal.returns-in-Attachment
returns-in-Attachment c = asked_by c.in-Attachment.is c.requires.places c.attachment.ensures

pub returns-in-Wakeup : goal.returns-in-Wakeup
returns-in-Wakeup c = asked_by c.in-Wakeup.is c.requires.places c.wakeup.ensures

pub returns-in-Interrupt : goal.returns-in-Interrupt
returns-in-Interrupt c = asked_by c.in-Interrupt.is c.requires.places c.interrupt.ensures

pub returns-in-Interrupted : goal.returns-in-Interrupted
returns-in-Interrupted c = asked_by c.in-Interrupted.is c.requires.places c.interrupted.ensures

pub returns-in-Group : goal.returns-in-Group
returns-in-Group c =
    let d = c.args.d.now in
    makes_by c.args.w.now d (record d { group = c.call_script_group.new.group }) c.args.me c.call_script_group.result
    c.in-Group.is
    (group_called c.args.w.now d c.args.me c.in-Group.call c.call_script_group.new.group c.call_script_group.result
    (may_make c.in-Group.is c.requires)
    c.call_script_group.ensures.reply c.call_script_group.ensures.left c.call_script_group.ensures.memory)
