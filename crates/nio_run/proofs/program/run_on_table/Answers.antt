use Rattle.std.proofs.Common.{◌≡◌, ℕ, List, [], ap, sym, ◌∙◌, subst, inr}
use Rattle.nio_base.specs.declared.limits.Limits.{Limits}
use Rattle.nio_language.specs.declared.call.ScriptCall.{ScriptCall}
use Rattle.nio_plain.specs.Answer.{answer_to, left_from}
use Rattle.nio_plain.specs.ScriptState.{ScriptState}
use Rattle.nio_plain.specs.declared.rules.Rules.TheVariants.{Now}
use Rattle.nio_script.specs.Output.{IsWritten, WritesPrefix}
use Rattle.nio_script.specs.Run.{IsCutShort, MakesPrefix, StopsWithin}
use Rattle.nio_sole.specs.Sole.{state_of, words_of}
use Rattle.nio_words.specs.Passes.{limits_of}
use Rattle.nio_run.specs.Commands.{IsCutShortOn, MakesAllOn, MakesPrefixOn, StopsWithinOn}
use Rattle.nio_run.proofs.Leaving.{either_way, joined_table, on_table, sole_system}
use Rattle.nio_run.proofs.program.run_on_table.Goals as goal

pub join-requires-clause-other : goal.join-requires-clause-other
join-requires-clause-other g c =
    joined_table c.args.table.now c.in-Ok.sole c.run_script-status.new.system c.run_script-status.ensures.kept
    c.in-Ok.ensures.table c.into_pass.result c.into_pass.ensures.pass c.into_pass.ensures.ready

pub returns-in-Ok-clause-script : goal.returns-in-Ok-clause-script
returns-in-Ok-clause-script g c =
    let w = c.args.table.now in
    let first = c.in-Ok.sole in
    let last = c.run_script-status.new.system in
    let its = c.run_script-status.ensures in
    let opened = c.in-Ok.ensures in
    let same : limits_of (words_of first) ≡ limits_of w = ap limits_of opened.table in
    let on = on_table w first last its.kept opened.table c.make.new.pass c.into_pass.result c.join.new.p opened.sight
    c.into_pass.ensures.pass c.join.ensures opened.drawn c.into_pass.ensures.ready c.into_pass.ensures.whole
    opened.opening opened.none in
    let uncalled : last ≡ first → MakesAllOn w c.join.new.p [] = λ same. on.all [] same (ap state_of same) in
    let cut : (Made MadeOn : List ScriptCall → List ScriptCall → Type 0)
    → ((calls made : List ScriptCall) → Made calls made → MadeOn calls made) → (text : List ℕ)
    → IsCutShort g.K.Sink sole_system c.args.output.now c.run_script-status.new.output first Made text
    → IsCutShortOn g.K.Sink w c.args.output.now c.run_script-status.new.output MadeOn text = λ Made MadeOn also text x.
    record {
      calls = x.calls;
      script = x.script;
      made = x.made;
      makes = also x.calls x.made x.makes;
      written = subst
          (λ (l : Limits). WritesPrefix g.K.Sink c.args.output.now c.run_script-status.new.output
          (answer_to Now l x.made)) same x.written;
    } in
    record {
      done = λ is. let read = its.done is in (
        read.0,
        read.1,
        record {
          calls = read.2.calls;
          script = read.2.script;
          written = subst
              (λ (l : Limits). IsWritten g.K.Sink c.args.output.now c.run_script-status.new.output
              (answer_to Now l read.2.calls)) same read.2.written;
          still = read.2.still;
          makes = on.all read.2.calls read.2.makes
              (read.2.left
              ∙ ap (λ (st : ScriptState). left_from Now (limits_of (words_of first)) st read.2.calls)
              (sym opened.opening));
        },
      );
      bad_script = λ line is. let read = its.bad_script line is in (
        read.0,
        read.1,
        record {
          first = read.2.first;
          said = read.2.said;
          uncalled = uncalled read.2.uncalled;
        },
      );
      write_fault = λ is. let read = its.write_fault is in (
        read.0,
        read.1,
        cut (MakesPrefix sole_system first last) (MakesPrefixOn w c.join.new.p) on.some read.0 read.2,
      );
      memory = λ is. inr (either_way (λ none. record {
        unwritten = none.unwritten;
        uncalled = uncalled none.uncalled;
      }) (λ read. (
        read.0,
        read.1,
        cut (StopsWithin sole_system first last) (StopsWithinOn w c.join.new.p) on.stops read.0 read.2,
      )) (its.memory is));
      unread = λ is. record {
        unwritten = (its.unread is).unwritten;
        uncalled = uncalled (its.unread is).uncalled;
      };
      ends = its.ends;
      kept = c.join.ensures.pass;
      of_script = its.of_script;
      of_bad = its.of_bad;
      of_long = its.of_long;
      complete = its.complete;
    }
