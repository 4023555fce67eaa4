use Rattle.std.proofs.Common.{◌≡◌, ap, sym, ◌∙◌, subst, inr, List}
use Rattle.nio_base.specs.declared.limits.Limits.{Limits}
use Rattle.nio_language.specs.declared.call.ScriptCall.{ScriptCall}
use Rattle.nio_load.specs.Load.{IsLoaded}
use Rattle.nio_load.specs.Summary.{summary_of}
use Rattle.nio_plain.specs.Answer.{left_from}
use Rattle.nio_plain.specs.ScriptState.{ScriptState}
use Rattle.nio_plain.specs.declared.rules.Rules.TheVariants.{Now}
use Rattle.nio_script.specs.Output.{IsWritten, WritesPrefix}
use Rattle.nio_sole.specs.Sole.{words_of}
use Rattle.nio_words.specs.Passes.{limits_of}
use Rattle.nio_run.specs.Load.{IsLoadedOn}
use Rattle.nio_run.proofs.Leaving.{joined_table, on_table, sole_system}
use Rattle.nio_run.proofs.program.load_on_table.Goals as goal

pub join-requires-clause-other : goal.join-requires-clause-other
join-requires-clause-other g c =
    joined_table c.args.table.now c.in-Ok.sole c.run_load-status.new.system c.run_load-status.ensures.kept
    c.in-Ok.ensures.table c.into_pass.result c.into_pass.ensures.pass c.into_pass.ensures.ready

pub returns-in-Ok-clause-load : goal.returns-in-Ok-clause-load
returns-in-Ok-clause-load g c =
    let w = c.args.table.now in
    let first = c.in-Ok.sole in
    let last = c.run_load-status.new.system in
    let its = c.run_load-status.ensures in
    let opened = c.in-Ok.ensures in
    let same : limits_of (words_of first) ≡ limits_of w = ap limits_of opened.table in
    let on = on_table w first last its.kept opened.table c.make.new.pass c.into_pass.result c.join.new.p opened.sight
    c.into_pass.ensures.pass c.join.ensures opened.drawn c.into_pass.ensures.ready c.into_pass.ensures.whole
    opened.opening opened.none in
    let loaded : (calls : List ScriptCall) → IsLoaded sole_system first last c.args.rounds calls
    → IsLoadedOn w c.join.new.p c.args.rounds calls = λ calls x. record {
      script = x.script;
      makes = on.all calls x.makes
          (x.left
          ∙ ap (λ (st : ScriptState). left_from Now (limits_of (words_of first)) st calls) (sym opened.opening));
    } in
    record {
      done = λ is. let summed = its.done is in record {
        calls = summed.calls;
        loaded = loaded summed.calls summed.loaded;
        written = subst
            (λ (l : Limits). IsWritten g.K.Sink c.args.output.now c.run_load-status.new.output
            (summary_of Now l summed.calls)) same summed.written;
        still = summed.still;
      };
      write_fault = λ is. let half = its.write_fault is in record {
        calls = half.calls;
        loaded = loaded half.calls half.loaded;
        written = subst
            (λ (l : Limits). WritesPrefix g.K.Sink c.args.output.now c.run_load-status.new.output
            (summary_of Now l half.calls)) same half.written;
      };
      memory = λ is. let none = its.memory is in inr (record {
        calls = none.calls;
        script = none.script;
        made = none.made;
        stops = on.stops none.calls none.made none.stops;
        unwritten = none.unwritten;
      });
      ends = its.ends;
      kept = c.join.ensures.pass;
      complete = its.complete;
    }
