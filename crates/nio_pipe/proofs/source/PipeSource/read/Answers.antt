use Rattle.std.proofs.Common.{◌≡◌, ℕ, [], ◌∷◌, ◌++◌, ap, ◌<◌, ◌&&◌, true, false, length, Ok, Err, refl, sym, ◌∙◌, subst}
use Rattle.std.proofs.Common.{rules}
use Rattle.std.proofs.lemmas.Bool.{and_parts}
use Rattle.std.proofs.lemmas.List.{append-nil}
use Rattle.rtrb.specs.Ring.{known_items}
use Rattle.nio_pipe.specs.Counts.{count_known}
use Rattle.nio_history.proofs.PassViews.{channel_after}
use Rattle.nio_steps.specs.Calls.{CallClause}
use Rattle.nio_steps.specs.declared.refusal.PipeError.TheVariants.{AsynchronousClose}
use Rattle.nio_words.specs.Passes.{limits_of}
use Rattle.nio_words.specs.Views.{view}
use Rattle.nio_pipe.specs.Answers.{bytes_read, read_answer, read_waits, refusal_after}
use Rattle.nio_pipe.specs.Calls.{WaitsToRead}
use Rattle.nio_pipe.specs.Ends.{GivesBytes, HasTriedToRead, knows_end, tries_to_read}
use Rattle.nio_pipe.specs.declared.answers.PipeRead.{PipeRead}
use Rattle.nio_pipe.specs.declared.answers.PipeRead.TheVariants.{NotYet}
use Rattle.nio_pipe.proofs.EndLemmas.{looks_none, looks_more, gives_after, knew_nothing, none_known}
use Rattle.nio_pipe.proofs.Waits.{tried_none, tried_more, tried_last, refused_ends, found_nothing, read_done}
use Rattle.nio_pipe.proofs.Waits.{read_refused, read_some, some_run, told_then, waited_before}
use Rattle.nio_pipe.proofs.source.PipeSource.read.Goals as goal

pub loop-init : goal.loop-init
loop-init g c = record {
  ready = c.requires.ready;
  channel = c.requires.channel;
  unpinned = c.requires.unpinned;
  tried = tried_none _ _ (tries_to_read c.args.self.now) _ c.requires.ready.pass.legal;
  looks = looks_none c.args.self.now;
  into = refl;
  room = λ waited. absurd (cc waited);
  nothing = λ waited. absurd (cc waited);
}

pub loop-preserved : goal.loop-preserved
loop-preserved g c =
    let goes : (read_waits (Ok c.give-answer.result) && c.in-Ok.blocking) ≡ true = search rules in
    let both = and_parts (read_waits (Ok c.give-answer.result)) c.in-Ok.blocking goes in
    let none : c.give-answer.result ≡ NotYet = found_nothing c.give-answer.result both.0 in
    let gives : GivesBytes c.loop.self c.give-answer.new.self c.loop.into c.give-answer.new.into 0 =
    subst (λ answer. GivesBytes c.loop.self c.give-answer.new.self c.loop.into c.give-answer.new.into
    (bytes_read (Ok answer))) none c.give-answer.ensures.bytes in
    let answers : NotYet ≡ read_answer (length c.loop.into) 0 (knows_end c.give-answer.new.self) =
    subst (λ (answer : PipeRead). answer ≡ read_answer (length c.loop.into) (bytes_read (Ok answer))
    (knows_end c.give-answer.new.self)) none c.give-answer.ensures.answer in
    let room : 0 < length c.loop.into =
    read_some (length c.loop.into) (knows_end c.give-answer.new.self) NotYet (λ same. absurd (cc same)) answers in
    record {
      ready = c.in-Ok.ensures.ready;
      channel = channel_after c.in-Ok.ensures.call.acts c.loop.invariant.channel;
      unpinned = c.in-Ok.ensures.unpinned;
      tried = tried_more (Ok c.in-Ok.blocking) (tries_to_read c.give-answer.new.self) c.loop.invariant.tried
          c.in-Ok.ensures.call both.1
          (c.give-answer.ensures.tries
          ∙ ap (λ (n : ℕ). tries_to_read c.loop.self ++ n ∷ [])
          (none_known c.give-answer.new.self (c.give-answer.ensures.not_yet none).1));
      looks = looks_more c.loop.invariant.looks c.give-answer.ensures.same gives;
      into = gives.rest ∙ c.loop.invariant.into;
      room = λ _. subst (λ into. 0 < length into) c.loop.invariant.into room;
      nothing = λ _. (c.give-answer.ensures.not_yet none).1;
    }

pub returns-then-not-read_goes_on-clause-call : goal.returns-then-not-read_goes_on-clause-call
returns-then-not-read_goes_on-clause-call g c =
    let over : (read_waits (Ok c.give-answer.result) && c.in-Ok.blocking) ≡ false = search rules in
    let answer = c.give-answer.result in
    let tried = c.loop.invariant.tried in
    let had = HasTriedToRead c.args.self.now c.give-answer.new.self c.args.into.now in
    read_done _ _ had answer c.in-Ok.blocking
    (tried_last (had (Ok answer)) (read_waits (Ok answer)) (Ok c.in-Ok.blocking) tried (record {
      had = λ some.
          let waited : c.loop.waited ≡ true = tried.counted ∙ some_run tried.count some in
          record {
            room = c.loop.invariant.room waited;
            before = knew_nothing c.loop.invariant.looks (c.loop.invariant.nothing waited);
            after = tt;
          };
      told = told_then (tries_to_read c.args.self.now) (tries_to_read c.loop.self)
          (tries_to_read c.give-answer.new.self)
          (count_known c.give-answer.new.self.to_end (known_items c.give-answer.new.self.bytes) ∷ []) tried.count
          tried.told_is c.give-answer.ensures.tries;
    }) c.in-Ok.ensures.call over)

pub returns-then-not-read_goes_on-clause-bytes : goal.returns-then-not-read_goes_on-clause-bytes
returns-then-not-read_goes_on-clause-bytes g c =
    subst (λ into. GivesBytes c.args.self.now c.give-answer.new.self into c.give-answer.new.into
    (bytes_read (Ok c.give-answer.result))) c.loop.invariant.into
    (gives_after c.loop.invariant.looks c.give-answer.ensures.bytes)

pub returns-then-not-read_goes_on-clause-not_yet : goal.returns-then-not-read_goes_on-clause-not_yet
returns-then-not-read_goes_on-clause-not_yet g c = λ is.
    let answer : c.give-answer.result ≡ NotYet = cc is in
    let none = c.give-answer.ensures.not_yet answer in
    (knew_nothing c.loop.invariant.looks none.0, none.1)

pub returns-in-Err-clause-call : goal.returns-in-Err-clause-call
returns-in-Err-clause-call g c =
    let l = limits_of c.args.w.now in
    let chan = c.args.self.now.chan in
    let tried = c.loop.invariant.tried in
    let had = HasTriedToRead c.args.self.now c.loop.self c.args.into.now in
    subst (λ refusal. CallClause c.args.me (WaitsToRead l chan had) (view c.args.w.now c.args.p.now)
    (view c.args.w.now c.check_open.new.p) (Err refusal)) (sym c.refusal_after.ensures)
    (read_refused l chan had c.loop.waited c.in-Err.refusal
    (tried_last (had (Err (refusal_after c.loop.waited c.in-Err.refusal))) false (Err c.in-Err.refusal) tried
    (record {
      had = λ some.
          let waited : c.loop.waited ≡ true = tried.counted ∙ some_run tried.count some in
          record {
            room = c.loop.invariant.room waited;
            before = knew_nothing c.loop.invariant.looks (c.loop.invariant.nothing waited);
            after = c.loop.invariant.nothing waited;
          };
      told = told_then (tries_to_read c.args.self.now) (tries_to_read c.loop.self) (tries_to_read c.loop.self) []
          tried.count tried.told_is (sym (append-nil (tries_to_read c.loop.self)));
    }) c.in-Err.ensures.call
    (refused_ends false c.in-Err.refusal)))

pub returns-in-Err-clause-closed_meanwhile : goal.returns-in-Err-clause-closed_meanwhile
returns-in-Err-clause-closed_meanwhile g c = λ is.
    let closed : refusal_after c.loop.waited c.in-Err.refusal ≡ AsynchronousClose =
    sym c.refusal_after.ensures ∙ cc is in
    let waited : c.loop.waited ≡ true =
    waited_before c.loop.waited c.in-Err.refusal (λ same. c.in-Err.ensures.at_once (λ i. Err (same i))) closed in
    record {
      room = c.loop.invariant.room waited;
      before = knew_nothing c.loop.invariant.looks (c.loop.invariant.nothing waited);
      after = c.loop.invariant.nothing waited;
    }
