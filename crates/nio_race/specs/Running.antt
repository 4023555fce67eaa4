-- What a race leaves behind before its output is written.
use Rattle.std.specs.Prelude.{◌≡◌, ℕ, IsFalse, List, All}
use Rattle.nio_base.specs.declared.numbers.CallerNo.{CallerNo}
use Rattle.nio_language.specs.declared.call.ScriptCall.{ScriptCall}
use Rattle.nio_language.specs.declared.reply.Reply.{Reply}
use Rattle.nio_race_text.specs.declared.call.RaceLine.{RaceLine}
use Rattle.nio_sole.specs.Stands.{progress_of}
use Rattle.nio_sole.specs.declared.desk.Desk.{Desk}
use Rattle.nio_words.specs.Passes.{limits_of, seen}
use Rattle.nio_words.specs.declared.words.Pass.{Pass}
use Rattle.nio_words.specs.declared.words.Words.{Words}
use Rattle.nio_race.specs.Does.{HasRunRace}
use Rattle.nio_race.specs.Ends.{AreSameButEnds, HaveMet, HaveParted}
use Rattle.nio_race.specs.Race.{race_output}
use Rattle.nio_race.specs.Racers.{HaveRaced}
use Rattle.nio_race.specs.SetOff.{AreSetOff}
use Rattle.nio_race.specs.declared.ends.Owners.{Owners}
use Rattle.nio_race.specs.declared.racer.Racer.{Racer}

-- The race was run, with some replies, and this is its output.
pub record RunsTo (w : Words) (pass : Pass) (setup : List ScriptCall) (race : List RaceLine)
    (text : List ℕ) : Type 0 where
  pub replies : CallerNo → List Reply
  pub run : HasRunRace w pass setup race replies
  pub text_is : text ≡ race_output (limits_of w) setup race replies

-- The racers were set off from the desk, each made its lines, and then the ends of each pipe met. `raced` is the list
-- of the racers as their threads left them.
pub record HaveRun (w : Words) (d : Desk) (race : List RaceLine) (racers : List Racer) : Type 0 where
  pub before : List Racer
  pub owners : List Owners
  pub raced : List Racer
  pub set_off : AreSetOff w (seen d.pass) (progress_of d) (limits_of w).callers before
  pub parted : HaveParted before owners (progress_of d).pipes
  pub made : HaveRaced w race before raced
  pub in_memory : All (λ r. IsFalse r.lacks_memory) raced
  pub met : HaveMet raced owners
  pub rest : AreSameButEnds raced racers
