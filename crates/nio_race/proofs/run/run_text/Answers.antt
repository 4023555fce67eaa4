use Rattle.std.proofs.Common.{◌≡◌, ◌⊎◌, List, ℕ, sym, ap, ◌∙◌, subst}
use Rattle.std.specs.Prelude.{Err}
use Rattle.nio_language.specs.declared.call.ScriptCall.{ScriptCall}
use Rattle.nio_race_text.proofs.RaceTexts.{first_bad_race_one, race_not_bad}
use Rattle.nio_race_text.specs.RaceText.{IsRaceText}
use Rattle.nio_race_text.specs.declared.call.RaceLine.{RaceLine}
use Rattle.nio_script.specs.Output.{IsWritten}
use Rattle.nio_script.specs.declared.status.Status.TheVariants.{BadScript, Memory}
use Rattle.nio_race.proofs.Running.{may_race_text}
use Rattle.nio_race.specs.Runs.{MayRaceLines}
use Rattle.nio_race.proofs.run.run_text.Goals as goal

pub race-requires-in-Ok-clause-lines : goal.race-requires-in-Ok-clause-lines
race-requires-in-Ok-clause-lines g c = λ _ _. subst MayRaceLines (sym c.race.ensures) (may_race_text c.in-Ok.ensures.ok)

pub returns-in-Ok-race-clause-done : goal.returns-in-Ok-race-clause-done
returns-in-Ok-race-clause-done g c = λ is.
    let text = c.args.text.now in
    let ran = c.in-Ok-race.ensures.run in
    let wrote = c.write.ensures.done is in
    record {
      setup = c.setup.result.now;
      race = c.race.result.now;
      race_text =
          subst (λ (setup : List ScriptCall). IsRaceText text setup c.race.result.now) (sym c.setup.ensures)
          (subst (λ (race : List RaceLine). IsRaceText text c.in-Ok.lines.setup race)
          (sym c.race.ensures) c.in-Ok.ensures.ok);
      replies = ran.replies;
      run = ran.run;
      written = subst (λ (bytes : List ℕ). IsWritten g.K.Sink c.args.output.now c.write.new.output bytes)
          (c.deref.ensures.value ∙ ran.text_is) wrote.0;
      still = wrote.1;
    }

pub returns-in-Ok-race-clause-of_bad : goal.returns-in-Ok-race-clause-of_bad
returns-in-Ok-race-clause-of_bad g c =
    λ line bad. absurd (race_not_bad c.args.text.now c.in-Ok.lines.setup c.in-Ok.lines.race line c.in-Ok.ensures.ok bad)

pub returns-in-Err-BadLine-clause-of_bad : goal.returns-in-Err-BadLine-clause-of_bad
returns-in-Err-BadLine-clause-of_bad g c = λ line bad.
    let read = c.in-Err-BadLine in
    let first = read.ensures.bad read.line (ap Err read.field-0-is) in
    subst (λ (n : ℕ). (c.refuse.result ≡ BadScript n) ⊎ (c.refuse.result ≡ Memory))
    (first_bad_race_one c.args.text.now read.line line first bad) c.refuse.ensures.status
