use Rattle.std.proofs.Common.{◌≡◌, ℕ, [], ◌∷◌, ◌++◌, ap, ◌+◌, ◌≤◌, ◌&&◌, true, false, length, Ok, Err, sym, ◌∙◌, subst}
use Rattle.std.proofs.Common.{rules}
use Rattle.std.proofs.lemmas.Bool.{and_parts}
use Rattle.std.proofs.lemmas.List.{append-nil}
use Rattle.nio_history.proofs.PassViews.{channel_after}
use Rattle.nio_steps.specs.Calls.{CallClause}
use Rattle.nio_steps.specs.declared.refusal.PipeError.TheVariants.{AsynchronousClose}
use Rattle.nio_words.specs.Passes.{limits_of}
use Rattle.nio_words.specs.Views.{view}
use Rattle.nio_pipe.specs.Answers.{bytes_written, refusal_after, write_answer, write_waits}
use Rattle.nio_pipe.specs.Calls.{WaitsToWrite}
use Rattle.nio_pipe.specs.Ends.{HasTriedToWrite, TakesBytes, free, places, tries_to_write}
use Rattle.nio_pipe.specs.declared.answers.PipeWrite.{PipeWrite}
use Rattle.nio_pipe.specs.declared.answers.PipeWrite.TheVariants.{NotYet}
use Rattle.nio_pipe.proofs.EndLemmas.{no_place_before, no_place_left, sink_looks_none, sink_looks_more}
use Rattle.nio_pipe.proofs.Waits.{tried_none, tried_more, tried_last, refused_ends, found_no_place, write_done}
use Rattle.nio_pipe.proofs.Waits.{some_run, told_then, waited_before, write_refused, write_some}
use Rattle.nio_pipe.proofs.sink.PipeSink.write.Goals as goal

pub loop-init : goal.loop-init
loop-init g c = record {
  ready = c.requires.ready;
  ends = c.requires.ends;
  unpinned = c.requires.unpinned;
  tried = tried_none _ _ (tries_to_write c.args.self.now) _ c.requires.ready.pass.legal;
  looks = sink_looks_none c.args.self.now;
  room = λ waited. absurd (cc waited);
  nothing = λ waited. absurd (cc waited);
}

pub loop-preserved : goal.loop-preserved
loop-preserved g c =
    let goes : (write_waits (Ok c.push-answer.result) && c.in-Ok.blocking) ≡ true = search rules in
    let both = and_parts (write_waits (Ok c.push-answer.result)) c.in-Ok.blocking goes in
    let none = found_no_place c.push-answer.result both.0 in
    let takes : TakesBytes c.loop.self c.push-answer.new.self c.args.from.now 0 =
    subst (λ answer. TakesBytes c.loop.self c.push-answer.new.self c.args.from.now (bytes_written (Ok answer))) none
    c.push-answer.ensures.bytes in
    let fills : free c.loop.self ≤ free c.push-answer.new.self + 0 =
    subst (λ answer. free c.loop.self ≤ free c.push-answer.new.self + bytes_written (Ok answer)) none
    c.push-answer.ensures.places in
    let looked : places c.loop.self ≤ places c.push-answer.new.self + 0 =
    subst (λ answer. places c.loop.self ≤ places c.push-answer.new.self + bytes_written (Ok answer)) none
    c.push-answer.ensures.looked in
    let answers : NotYet ≡ write_answer (length c.args.from.now) 0 =
    subst (λ (answer : PipeWrite). answer ≡ write_answer (length c.args.from.now) (bytes_written (Ok answer))) none
    c.push-answer.ensures.answer in
    record {
      ready = c.in-Ok.ensures.ready;
      ends = record {
        source = channel_after c.in-Ok.ensures.call.acts c.loop.invariant.ends.source;
        sink = channel_after c.in-Ok.ensures.call.acts c.loop.invariant.ends.sink;
      };
      unpinned = c.in-Ok.ensures.unpinned;
      tried = tried_more (Ok c.in-Ok.blocking) (tries_to_write c.push-answer.new.self) c.loop.invariant.tried
          c.in-Ok.ensures.call both.1
          (c.push-answer.ensures.tries
          ∙ ap (λ (n : ℕ). tries_to_write c.loop.self ++ n ∷ []) (c.push-answer.ensures.not_yet none).1);
      looks = sink_looks_more c.loop.invariant.looks c.push-answer.ensures.same takes c.push-answer.ensures.seal looked
          fills;
      room = λ _. write_some (length c.args.from.now) answers;
      nothing = λ _. (c.push-answer.ensures.not_yet none).1;
    }

pub returns-then-not-write_goes_on-clause-call : goal.returns-then-not-write_goes_on-clause-call
returns-then-not-write_goes_on-clause-call g c =
    let over : (write_waits (Ok c.push-answer.result) && c.in-Ok.blocking) ≡ false = search rules in
    let answer = c.push-answer.result in
    let tried = c.loop.invariant.tried in
    let had = HasTriedToWrite c.args.self.now c.push-answer.new.self c.args.from.now in
    write_done _ _ _ had answer c.in-Ok.blocking
    (tried_last (had (Ok answer)) (write_waits (Ok answer)) (Ok c.in-Ok.blocking) tried (record {
      had = λ some.
          let waited : c.loop.waited ≡ true = tried.counted ∙ some_run tried.count some in
          record {
            bytes = c.loop.invariant.room waited;
            before = no_place_before c.loop.invariant.looks (c.loop.invariant.nothing waited);
            after = tt;
          };
      told = told_then (tries_to_write c.args.self.now) (tries_to_write c.loop.self)
          (tries_to_write c.push-answer.new.self) (free c.push-answer.new.self ∷ []) tried.count tried.told_is
          c.push-answer.ensures.tries;
    }) c.in-Ok.ensures.call over)

pub returns-in-Err-clause-call : goal.returns-in-Err-clause-call
returns-in-Err-clause-call g c =
    let l = limits_of c.args.w.now in
    let source = c.args.self.now.source in
    let sink = c.args.self.now.chan in
    let tried = c.loop.invariant.tried in
    let had = HasTriedToWrite c.args.self.now c.seal_after.new.self c.args.from.now in
    subst (λ refusal. CallClause c.args.me (WaitsToWrite l source sink had) (view c.args.w.now c.args.p.now)
    (view c.args.w.now c.check_write.new.p) (Err refusal)) (sym c.refusal_after.ensures)
    (write_refused l source sink had c.loop.waited c.in-Err.refusal
    (tried_last (had (Err (refusal_after c.loop.waited c.in-Err.refusal))) false (Err c.in-Err.refusal) tried
    (record {
      had = λ some.
          let waited : c.loop.waited ≡ true = tried.counted ∙ some_run tried.count some in
          record {
            bytes = c.loop.invariant.room waited;
            before = no_place_before c.loop.invariant.looks (c.loop.invariant.nothing waited);
            after = no_place_left c.seal_after.new.self c.loop.invariant.looks (c.loop.invariant.nothing waited)
                c.seal_after.ensures.ring;
          };
      told = told_then (tries_to_write c.args.self.now) (tries_to_write c.loop.self)
          (tries_to_write c.seal_after.new.self) [] tried.count tried.told_is
          (c.seal_after.ensures.tries ∙ sym (append-nil (tries_to_write c.loop.self)));
    }) c.in-Err.ensures.call
    (refused_ends false c.in-Err.refusal)))

pub returns-in-Err-clause-closed_meanwhile : goal.returns-in-Err-clause-closed_meanwhile
returns-in-Err-clause-closed_meanwhile g c = λ is.
    let closed : refusal_after c.loop.waited c.in-Err.refusal ≡ AsynchronousClose =
    sym c.refusal_after.ensures ∙ cc is in
    let waited : c.loop.waited ≡ true =
    waited_before c.loop.waited c.in-Err.refusal (λ same. c.in-Err.ensures.at_once (λ i. Err (same i))) closed in
    record {
      bytes = c.loop.invariant.room waited;
      before = no_place_before c.loop.invariant.looks (c.loop.invariant.nothing waited);
      after = no_place_left c.seal_after.new.self c.loop.invariant.looks (c.loop.invariant.nothing waited)
          c.seal_after.ensures.ring;
    }
