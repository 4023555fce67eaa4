-- What each call of a group with time limits answers, and the state that it leaves, where it isn't the group's own.
use Rattle.std.specs.Prelude.{ℕ, ◌+◌, if◌then◌else◌, not, ◌==◌, Bool, List, [], ◌∷◌, ◌++◌, length, Option}
use Rattle.std.specs.Prelude.{Some, None, Result, Ok, Err, filter, slice_set}
use Rattle.std.specs.List.{list_any}
use Rattle.std.specs.Option.{option_map}
use Rattle.nio_base.specs.declared.numbers.OpNo.{OpNo}
use Rattle.nio_base.specs.declared.numbers.GChan.{GChan}
use Rattle.nio_base.specs.declared.group.OpKind.{OpKind}
use Rattle.nio_base.specs.declared.group.Finished.{Finished}
use Rattle.nio_base.specs.declared.group.Outcome.TheVariants.{Fault}
use Rattle.nio_group.specs.declared.refusal.StartError.{StartError}
use Rattle.nio_group.specs.Completion.{CompletionFields}
use Rattle.nio_group.specs.Flight.{op_at, accepted}
use Rattle.nio_group.specs.Stages.{is_pending}
use Rattle.nio_group.specs.Steps as group
use Rattle.nio_deadline.specs.Deadlines.{Deadline, with_deadline, due}
use Rattle.nio_deadline.specs.Timed.{Timed, with_group, own_refusal, kinds_at, with_kind}
use Rattle.nio_deadline.specs.declared.done.TimedDone.{TimedDone}
use Rattle.nio_deadline.specs.declared.done.TimedResult.{TimedResult}
use Rattle.nio_deadline.specs.declared.done.TimedResult.TheVariants.{Core, InterruptedByTimeout}
use Rattle.nio_deadline.specs.declared.refusal.TimedError.{TimedError}
use Rattle.nio_deadline.specs.declared.refusal.TimedError.TheVariants.{Start}

-- `start_timed`: refused for a cause of its own, or else what the group's `start` does. Where the operation is
-- pending and has a limit, its deadline is that much later than now

abbrev pub by_group : Result OpNo StartError → Result OpNo TimedError
by_group (Ok n) = Ok n
by_group (Err e) = Err (Start e)

abbrev pub unless_refused : Option TimedError → Result OpNo StartError → Result OpNo TimedError
unless_refused None answer = by_group answer
unless_refused (Some e) answer = Err e

abbrev pub kept_if_refused : Option TimedError → Timed → Timed → Timed
kept_if_refused None old new = new
kept_if_refused (Some e) old new = old

abbrev pub answer_to_start : Timed → GChan → OpKind → ℕ → ℕ → Result OpNo TimedError
answer_to_start t chan kind now limit =
    unless_refused (own_refusal t chan kind now limit) (group.answer_to_start t.group chan kind)

-- the operation with the next number gets a deadline, if it is pending
abbrev pub with_limit : Timed → GChan → OpKind → ℕ → Timed → Timed
with_limit old chan kind at new =
    if is_pending (op_at new.group.flight (accepted old.group.flight))
    then record new {
      deadlines = with_deadline
          (record { at = at; op = accepted old.group.flight; chan = chan; kind = kind }) new.deadlines;
    }
    else new

abbrev pub started : Timed → GChan → OpKind → ℕ → ℕ → ℕ → Timed
started t chan kind len now limit =
    let new = with_group t (group.after_start t.group chan kind len) in
    if limit == 0 then new else with_limit t chan kind (now + limit) new

abbrev pub after_start : Timed → GChan → OpKind → ℕ → ℕ → ℕ → Timed
after_start t chan kind len now limit =
    kept_if_refused (own_refusal t chan kind now limit) t (started t chan kind len now limit)

-- `expire`: the operations whose deadlines have come time out, in the order of the deadlines. To the group each of
-- them has failed

abbrev pub with_timeout : Timed → Deadline → Timed
with_timeout t d =
    record (with_group t (group.after_report t.group d.op Fault)) {
      timed_out = t.timed_out ++ d.op ∷ [];
      kinds = slice_set t.kinds d.chan.number (with_kind (kinds_at t d.chan) d.kind);
    }

abbrev pub with_timeouts : Timed → List Deadline → Timed
with_timeouts t [] = t
with_timeouts t (d ∷ ds) = with_timeouts (with_timeout t d) ds

abbrev pub answer_to_expire : Timed → ℕ → ℕ
answer_to_expire t now = length (due now t.deadlines)

abbrev pub after_expire : Timed → ℕ → Timed
after_expire t now = with_timeouts t (due now t.deadlines)

-- `take`: what the group's `take` hands out, where the result of an operation that has timed out is that

abbrev pub is_among : ℕ → List ℕ → Bool
is_among n ns = list_any (λ m. m == n) ns

abbrev pub result_of : Timed → OpNo → Finished → TimedResult
result_of t n finished = if is_among n.0 t.timed_out then InterruptedByTimeout else Core finished

abbrev pub done_of : Timed → CompletionFields → TimedDone
done_of t completion =
    record {
      op = completion.op;
      chan = completion.chan;
      kind = completion.kind;
      result = result_of t completion.op completion.finished;
    }

abbrev pub answer_to_take : Timed → Option TimedDone
answer_to_take t = option_map (done_of t) (group.answer_to_take t.group)

abbrev pub without_number : ℕ → List ℕ → List ℕ
without_number n ns = filter (λ m. not (m == n)) ns

abbrev pub without_taken : Option CompletionFields → List ℕ → List ℕ
without_taken None ns = ns
without_taken (Some completion) ns = without_number completion.op.0 ns

abbrev pub after_take : Timed → Timed
after_take t =
    record (with_group t (group.after_take t.group)) {
      timed_out = without_taken (group.answer_to_take t.group) t.timed_out;
    }
