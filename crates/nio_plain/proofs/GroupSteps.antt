-- A step of the group with a reply that refuses leaves the group as it was.
use Rattle.std.proofs.Common.{◌≡◌, Bool, true, false, ◌&&◌, cond, Option, Some, None, Result, Ok, Err, refl, sym, subst, ◌∙◌}
use Rattle.std.proofs.lemmas.Bool.{false≢true}
use Rattle.nio_group.specs.Completion.{CompletionFields}
use Rattle.nio_base.specs.declared.group.GKind.{GKind}
use Rattle.nio_base.specs.declared.numbers.GChan.{GChan}
use Rattle.nio_group.specs.declared.refusal.StartError.{StartError}
use Rattle.nio_group.specs.Group.{Group, channel_at, is_open, is_present}
use Rattle.nio_group.specs.Refusals.{bind_refusal, start_refusal, report_refusal}
use Rattle.nio_group.proofs.MakingLemmas.{refused-open}
use Rattle.nio_group.specs.Run as step
use Rattle.nio_group.specs.Run.{after, reply_to}
use Rattle.nio_group.specs.Stages.{is_running}
use Rattle.nio_group.specs.Flight.{op_at}
use Rattle.nio_group.specs.Steps.{after_close, after_closing, after_open, answer_to_open, answer_to_take, finish_refusal, kept_if_refused, unless_refused}
use Rattle.nio_language.specs.declared.group_call.GroupCall.{GroupCall}
use Rattle.nio_language.specs.declared.group_call.GroupCall.TheVariants as group
use Rattle.nio_language.specs.declared.reply.Reply.{Reply}
use Rattle.nio_plain.proofs.CallChanges.{step_of}
use Rattle.nio_plain.specs.CallLaws.{is_without_group_effect, refuses}
use Rattle.nio_plain.specs.Seq.Grouping.{line_reply}

-- no refusal
not_refused : {P : Type 0} {b : Bool} → b ≡ false → b ≡ true → P
not_refused fine refuses = absurd (false≢true (sym fine ∙ refuses))

kept : {E T : Type 0} (o : Option E) (answer : T) (g new : Group) (wrap : Result T E → step.Reply)
    → refuses (line_reply (wrap (Ok answer))) ≡ false → refuses (line_reply (wrap (unless_refused o answer))) ≡ true
    → kept_if_refused o g new ≡ g
kept None answer g new wrap fine e = not_refused fine e
kept (Some refusal) answer g new wrap fine e = refl

taken_fine : (o : Option CompletionFields) → refuses (line_reply (step.taken o)) ≡ false
taken_fine None = refl
taken_fine (Some done) = refl

-- no channel is opened
open_before : (kind : GKind) (g : Group) (answer : Result GChan StartError) → answer_to_open g kind ≡ answer
    → refuses (line_reply (step.opened answer)) ≡ true → after_open g kind ≡ g
open_before kind g (Ok chan) is e = not_refused refl e
open_before kind g (Err refusal) is e = refused-open g kind refusal is

closed_before : (b : Bool) (g new : Group) → refuses (line_reply (step.closed b)) ≡ true → cond b new g ≡ g
closed_before true g new e = not_refused refl e
closed_before false g new e = refl

close_before : (g : Group) (chan : GChan) → refuses (line_reply (step.closed (is_open g chan))) ≡ true
    → after_close g chan ≡ g
close_before g chan e = by_present (is_present g chan) refl
  where
    by_present : (b : Bool) → is_present g chan ≡ b → cond b (after_closing g chan.number) g ≡ g
    by_present false is = refl
    by_present true is =
        closed_before (channel_at g chan.number).is_open g _
        (subst (λ (b : Bool). refuses (line_reply (step.closed (b && (channel_at g chan.number).is_open))) ≡ true) is e)

pub refused_step : (g : Group) (s : step.Call) → refuses (line_reply (reply_to g s)) ≡ true → after g s ≡ g
refused_step g (step.open_channel kind) e = open_before kind g (answer_to_open g kind) refl e
refused_step g (step.bind chan) e =
    kept (bind_refusal (is_open g chan) (channel_at g chan.number).endpoint) _ g _ step.bound refl e
refused_step g (step.start chan kind len) e = kept (start_refusal g chan kind) _ g _ step.started refl e
refused_step g (step.report n outcome) e =
    kept (report_refusal (op_at g.flight n.0) outcome) _ g _ step.reported refl e
refused_step g step.take e = not_refused (taken_fine (answer_to_take g)) e
refused_step g (step.finish n) e = kept (finish_refusal (is_running (op_at g.flight n.0))) _ g _ step.finished refl e
refused_step g (step.close_channel chan) e = close_before g chan e
refused_step g step.shutdown e = not_refused refl e
refused_step g step.shutdown_now e = not_refused refl e

-- a call that makes a step only asks nothing
pub same_effect : (g : GroupCall) (s : step.Call) → step_of g ≡ Some s → (r : Reply)
    → is_without_group_effect g r ≡ refuses r
same_effect group.IsShutdown s is r = absurd (cc is)
same_effect group.Terminated s is r = absurd (cc is)
same_effect _ s is r = refl
