use Rattle.std.proofs.Common.{◌≡◌, refl, sym, ap, ◌∙◌}
use Rattle.nio_group.specs.Group.{Group}
use Rattle.nio_group.specs.Run as step
use Rattle.nio_language.specs.declared.group_call.GroupCall.{GroupCall}
use Rattle.nio_language.specs.declared.reply.Reply.{Reply}
use Rattle.nio_plain.specs.Seq.Replies.{yes_or_no}
use Rattle.nio_plain.specs.Seq.Grouping.{line_reply, group_replied, group_left, group_reply}
use Rattle.nio_plain.proofs.plain.grouping.call_group.Goals as goal

-- the call is this one

replies_to : (g : Group) (call known : GroupCall) (r : Reply) → call ≡ known → r ≡ group_reply g known
    → r ≡ group_reply g call
replies_to g call known r is says = says ∙ sym (ap (group_reply g) is)

leaves_by : (g : Group) (call known : GroupCall) (left : Group) → call ≡ known → left ≡ group_left g known
    → left ≡ group_left g call
leaves_by g call known left is leaves = leaves ∙ sym (ap (group_left g) is)

pub returns-in-Gopen-clause-reply : goal.returns-in-Gopen-clause-reply
unfolding group_replied
returns-in-Gopen-clause-reply c =
    replies_to c.args.group.now _ _ _ c.in-Gopen.is (c.opened.ensures
    ∙ ap (λ a. line_reply (step.opened a)) c.open_channel.ensures.answer)

pub returns-in-Gopen-clause-left : goal.returns-in-Gopen-clause-left
unfolding group_replied
returns-in-Gopen-clause-left c =
    leaves_by c.args.group.now _ _ _ c.in-Gopen.is c.open_channel.ensures.after

pub returns-in-Gbind-clause-reply : goal.returns-in-Gbind-clause-reply
unfolding group_replied
returns-in-Gbind-clause-reply c =
    replies_to c.args.group.now _ _ _ c.in-Gbind.is c.bind.ensures.reply

pub returns-in-Gbind-clause-left : goal.returns-in-Gbind-clause-left
unfolding group_replied
returns-in-Gbind-clause-left c =
    leaves_by c.args.group.now _ _ _ c.in-Gbind.is c.bind.ensures.left

pub returns-in-Start-clause-reply : goal.returns-in-Start-clause-reply
unfolding group_replied
returns-in-Start-clause-reply c =
    replies_to c.args.group.now _ _ _ c.in-Start.is c.start.ensures.reply

pub returns-in-Start-clause-left : goal.returns-in-Start-clause-left
unfolding group_replied
returns-in-Start-clause-left c =
    leaves_by c.args.group.now _ _ _ c.in-Start.is c.start.ensures.left

pub returns-in-Report-clause-reply : goal.returns-in-Report-clause-reply
unfolding group_replied
returns-in-Report-clause-reply c =
    replies_to c.args.group.now _ _ _ c.in-Report.is (c.reported.ensures
    ∙ ap (λ a. line_reply (step.reported a)) c.report.ensures.answer)

pub returns-in-Report-clause-left : goal.returns-in-Report-clause-left
unfolding group_replied
returns-in-Report-clause-left c =
    leaves_by c.args.group.now _ _ _ c.in-Report.is c.report.ensures.after

pub returns-in-Take-clause-reply : goal.returns-in-Take-clause-reply
unfolding group_replied
returns-in-Take-clause-reply c =
    replies_to c.args.group.now _ _ _ c.in-Take.is (c.taken.ensures
    ∙ ap (λ a. line_reply (step.taken a)) c.take.ensures.answer)

pub returns-in-Take-clause-left : goal.returns-in-Take-clause-left
unfolding group_replied
returns-in-Take-clause-left c =
    leaves_by c.args.group.now _ _ _ c.in-Take.is c.take.ensures.after

pub returns-in-Done-clause-reply : goal.returns-in-Done-clause-reply
unfolding group_replied
returns-in-Done-clause-reply c =
    replies_to c.args.group.now _ _ _ c.in-Done.is (c.finished.ensures
    ∙ ap (λ a. line_reply (step.finished a)) c.finish.ensures.answer)

pub returns-in-Done-clause-left : goal.returns-in-Done-clause-left
unfolding group_replied
returns-in-Done-clause-left c =
    leaves_by c.args.group.now _ _ _ c.in-Done.is c.finish.ensures.after

pub returns-in-Gclose-clause-reply : goal.returns-in-Gclose-clause-reply
unfolding group_replied
returns-in-Gclose-clause-reply c =
    replies_to c.args.group.now _ _ _ c.in-Gclose.is c.close_channel.ensures.reply

pub returns-in-Gclose-clause-left : goal.returns-in-Gclose-clause-left
unfolding group_replied
returns-in-Gclose-clause-left c =
    leaves_by c.args.group.now _ _ _ c.in-Gclose.is c.close_channel.ensures.left

pub returns-in-Shutdown-clause-reply : goal.returns-in-Shutdown-clause-reply
unfolding group_replied
returns-in-Shutdown-clause-reply c =
    replies_to c.args.group.now _ _ _ c.in-Shutdown.is refl

pub returns-in-Shutdown-clause-left : goal.returns-in-Shutdown-clause-left
unfolding group_replied
returns-in-Shutdown-clause-left c =
    leaves_by c.args.group.now _ _ _ c.in-Shutdown.is c.shutdown.ensures

pub returns-in-ShutdownNow-clause-reply : goal.returns-in-ShutdownNow-clause-reply
unfolding group_replied
returns-in-ShutdownNow-clause-reply c =
    replies_to c.args.group.now _ _ _ c.in-ShutdownNow.is refl

pub returns-in-ShutdownNow-clause-left : goal.returns-in-ShutdownNow-clause-left
unfolding group_replied
returns-in-ShutdownNow-clause-left c =
    leaves_by c.args.group.now _ _ _ c.in-ShutdownNow.is c.shutdown_now.ensures

pub returns-in-IsShutdown-clause-reply : goal.returns-in-IsShutdown-clause-reply
unfolding group_replied
returns-in-IsShutdown-clause-reply c =
    replies_to c.args.group.now _ _ _ c.in-IsShutdown.is (c.yes_or_no.ensures ∙ ap yes_or_no c.is_shutdown.ensures)

pub returns-in-IsShutdown-clause-left : goal.returns-in-IsShutdown-clause-left
unfolding group_replied
returns-in-IsShutdown-clause-left c =
    leaves_by c.args.group.now _ _ _ c.in-IsShutdown.is refl

pub returns-in-Terminated-clause-reply : goal.returns-in-Terminated-clause-reply
unfolding group_replied
returns-in-Terminated-clause-reply c =
    replies_to c.args.group.now _ _ _ c.in-Terminated.is (c.yes_or_no-in-Terminated.ensures
    ∙ ap yes_or_no c.is_terminated.ensures)

pub returns-in-Terminated-clause-left : goal.returns-in-Terminated-clause-left
unfolding group_replied
returns-in-Terminated-clause-left c =
    leaves_by c.args.group.now _ _ _ c.in-Terminated.is refl
