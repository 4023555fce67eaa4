-- A timed script as a run of timed steps, and what times out in it.
use Rattle.std.proofs.Common.{◌≡◌, ◌↔◌, Bool, true, false, if◌then◌else◌, List, [], ◌∷◌, ◌++◌, Option}
use Rattle.std.proofs.Common.{Some, None, inl, inr, refl, sym, ap, ◌∙◌, subst}
use Rattle.nio_base.specs.declared.numbers.GChan.{GChan}
use Rattle.nio_base.specs.declared.numbers.OpNo.{OpNo}
use Rattle.nio_group.specs.Group.{IsMade, is_made}
use Rattle.nio_group.proofs.NumberLemmas.{made-so}
use Rattle.nio_deadline.specs.Run as step
use Rattle.nio_deadline.specs.Run.{IsCallOf, IsRunOf, TimesOut, after, left_by}
use Rattle.nio_deadline.specs.Steps.{answer_to_take}
use Rattle.nio_deadline.specs.Timed.{Timed}
use Rattle.nio_deadline.specs.declared.done.TimedDone.{TimedDone}
use Rattle.nio_deadline.specs.declared.done.TimedResult.{TimedResult}
use Rattle.nio_deadline.specs.declared.done.TimedResult.TheVariants.{Core, InterruptedByTimeout}
use Rattle.nio_deadline.proofs.LimitLemmas.{left-append, times-out-exactly}
use Rattle.nio_language.specs.declared.group_call.GroupCall.TheVariants as group
use Rattle.nio_language.specs.declared.reply.Reply.TheVariants as plain
use Rattle.nio_plain.specs.ScriptState.{group_limits}
use Rattle.nio_timed.specs.Called.{done_reply, kept, stepped, taken_reply, timed_left, timed_left_from, timed_opening}
use Rattle.nio_timed.specs.Called.{timed_reply, with_named_channel}
use Rattle.nio_timed.specs.Laws.{AreRuns, HandsOut, TimesOutInScripts, if_made, steps_from, steps_of, steps_to}
use Rattle.nio_timed.specs.declared.call.TimedCall.{TimedCall}
use Rattle.nio_timed.specs.declared.call.TimedCall.TheVariants.{Group, StartTimed, Expire, Next}
use Rattle.nio_timed.specs.declared.call.TimedLine.{TimedLine}
use Rattle.nio_timed.specs.declared.reply.TimedReply.TheVariants.{Timeout}

-- ---- runs, one behind the other

run_append : (t : Timed) (xs ys : List step.Call) → IsRunOf t xs → IsRunOf (left_by t xs) ys → IsRunOf t (xs ++ ys)
run_append t [] ys run more = more
run_append t (x ∷ xs) ys run more = (run.0, run_append (after t x) xs ys run.1 more)

-- ---- one call

abbrev AreStepsOf : Timed → Timed → List step.Call → Type 0
AreStepsOf t left steps = IsRunOf t steps × (left ≡ left_by t steps)

named : (t : Timed) (chan : GChan) (call : step.Call) → (IsMade t.group chan → IsCallOf t call)
    → AreStepsOf t (with_named_channel t chan (stepped t call)).left (if_made t chan call)
named t chan call of = by_test (is_made t.group chan) refl
  where
    by_test : (b : Bool) → is_made t.group chan ≡ b
        → AreStepsOf t (if b then stepped t call else kept t plain.NoChannel).left (if b then call ∷ [] else [])
    by_test true e = ((of (made-so t.group chan e), tt), refl)
    by_test false e = (tt, refl)

one_call : (t : Timed) (c : TimedCall) → AreStepsOf t (timed_left t c) (steps_of t c)
one_call t (Group (group.Gopen kind)) = ((tt, tt), refl)
one_call t (Group (group.Gbind chan)) = named t chan (step.bind chan) (λ made. made)
one_call t (Group (group.Start chan kind len)) = named t chan (step.start_timed chan kind len 0 0) (λ made. made)
one_call t (Group (group.Report n outcome)) = ((tt, tt), refl)
one_call t (Group group.Take) = ((tt, tt), refl)
one_call t (Group (group.Done n)) = ((tt, tt), refl)
one_call t (Group (group.Gclose chan)) = named t chan (step.close_channel chan) (λ made. made)
one_call t (Group group.Shutdown) = ((tt, tt), refl)
one_call t (Group group.ShutdownNow) = ((tt, tt), refl)
one_call t (Group group.IsShutdown) = (tt, refl)
one_call t (Group group.Terminated) = (tt, refl)
one_call t (StartTimed s) =
    named t s.chan (step.start_timed s.chan s.kind s.len s.now s.limit) (λ made. made)
one_call t (Expire now) = ((tt, tt), refl)
one_call t Next = (tt, refl)

-- ---- all calls

all_calls : (t : Timed) (calls : List TimedLine) → AreStepsOf t (timed_left_from t calls) (steps_from t calls)
all_calls t [] = (tt, refl)
all_calls t (l ∷ calls) =
    let one = one_call t l.call in
    let more = all_calls (timed_left t l.call) calls in
    let first = steps_of t l.call in
    let rest = steps_from (timed_left t l.call) calls in (
      run_append t first rest one.0 (subst (λ u. IsRunOf u rest) one.1 more.0),
      more.1 ∙ ap (λ u. left_by u rest) one.1 ∙ sym (left-append t first rest),
    )

pub are_runs : AreRuns
are_runs calls =
    let all = all_calls timed_opening calls in
    record { run = all.0; left = all.1 }

-- ---- what times out

-- the completion that a reply hands out
handed : (answer : Option TimedDone) (n : OpNo) → HandsOut (taken_reply answer) n
    → (done : TimedDone) × (answer ≡ Some done) × (done.op ≡ n)
    × ((taken_reply answer ≡ Timeout n) ↔ (done.result ≡ InterruptedByTimeout))
handed None n (inl e) = absurd (cc e)
handed None n (inr e) = absurd (cc e.1)
handed (Some done) n hands = by_result done.result refl hands
  where
    by_result : (r : TimedResult) → done.result ≡ r → HandsOut (done_reply done r) n
        → (d : TimedDone) × (Some done ≡ Some d) × (d.op ≡ n)
        × ((done_reply done r ≡ Timeout n) ↔ (d.result ≡ InterruptedByTimeout))
    by_result (Core finished) is (inl e) = absurd (cc e)
    by_result (Core finished) is (inr e) =
        (done, refl, cc e.1, ((λ late. absurd (cc late)), (λ late. absurd (cc (sym is ∙ late)))))
    by_result InterruptedByTimeout is (inl e) = (done, refl, cc e, ((λ _. is), (λ _. e)))
    by_result InterruptedByTimeout is (inr e) = absurd (cc e.1)

pub times_out : TimesOutInScripts
times_out calls n hands =
    let runs = are_runs calls in
    let done = handed (answer_to_take (timed_left_from timed_opening calls)) n hands in
    let exact = times-out-exactly group_limits (steps_to calls) done.0 runs.run
    (ap answer_to_take (sym runs.left) ∙ done.1) in
    subst (λ (m : OpNo). (timed_reply (timed_left_from timed_opening calls) (Group group.Take) ≡ Timeout n)
    ↔ TimesOut m.0 timed_opening (steps_to calls)) done.2
    ((λ late. exact.0 (done.3.0 late)), (λ due. done.3.1 (exact.1 due)))
