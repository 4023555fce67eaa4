-- A line that leaves the ends of its caller's pipes as they are: a `block`, and a call of scripts that neither reads,
-- writes nor closes.
use Rattle.std.proofs.Common.{◌≡◌, Result, Ok, Err, IfOk, refl, sym, subst}
use Rattle.std.specs.declared.alloc.AllocError.{AllocError}
use Rattle.nio_base.specs.declared.numbers.CallerNo.{CallerNo}
use Rattle.nio_base.specs.declared.numbers.SelNo.{SelNo}
use Rattle.nio_history.specs.PassViews.{done_between}
use Rattle.nio_language.specs.WordRows.{PipeUse, neither}
use Rattle.nio_language.specs.declared.call.Call.{Call}
use Rattle.nio_language.specs.declared.reply.Reply.{Reply}
use Rattle.nio_race_text.specs.RaceLines.{MayRace}
use Rattle.nio_race_text.specs.declared.call.RaceCall.{RaceCall}
use Rattle.nio_race_text.specs.declared.call.RaceCall.TheVariants.{Script, Block}
use Rattle.nio_sole.specs.Stands.{progress_of}
use Rattle.nio_sole.specs.declared.desk.Desk.{Desk}
use Rattle.nio_steps.specs.Calls.{CallClause}
use Rattle.nio_words.specs.Passes.{limits_of}
use Rattle.nio_words.specs.Views.{view}
use Rattle.nio_words.specs.declared.words.Words.{Words}
use Rattle.nio_race.proofs.LineEnds.{neither_stays, pipes_none, stands_with}
use Rattle.nio_race.proofs.LinePipes.{block_pipeless, script_line_pipeless}
use Rattle.nio_race.specs.Ends.{ends_of}
use Rattle.nio_race.specs.Piping.{use_of}
use Rattle.nio_race.specs.Racers.{CalledOn, LineOn, LooksAndBlocksOn, MakesAsScript, StandsFor, StandsWith}
use Rattle.nio_race.specs.Runs.{MakesCalledLine}
use Rattle.nio_race.specs.declared.ends.OwnEnds.{OwnEnds}

module _ (w : Words) (d d' : Desk) (ends : OwnEnds) (me : CallerNo) where
  -- ---- `block`

  pub line_of_block : (line : RaceCall) (s : SelNo) (result : Result Reply AllocError) → line ≡ Block s
      → IfOk result (LooksAndBlocksOn w d d' me s) → IfOk result (LineOn w d d' ends ends me line)
  line_of_block line s (Ok r) is made =
      subst (λ (x : RaceCall). LineOn w d d' ends ends me x r) (sym is)
      (record { made = made; went_on = neither_stays (Block s) r ends refl })
  line_of_block line s (Err e) is made = tt

  pub stands_blocked : (s : SelNo) (result : Result Reply AllocError) → StandsWith w d ends me
      → IfOk result (LooksAndBlocksOn w d d' me s) → IfOk result (λ _. StandsFor w d' me)
      → IfOk result (λ _. StandsWith w d' ends me)
  stands_blocked s (Ok r) with_ends made stands =
      stands_with w d d' ends me with_ends stands made
      (block_pipeless (limits_of w) (progress_of d) (pipes_none d with_ends.pipeless) s
      (done_between me (view w d.pass) (view w d'.pass)) (record { reply = r; left = progress_of d' }) made.shape)
  stands_blocked s (Err e) with_ends made stands = tt

  -- ---- a call of scripts

  pub called_as_script : (word : Call) (r : Reply) → use_of word ≡ neither → MakesAsScript w d d' me word r
      → CalledOn w d d' ends ends me word r
  called_as_script word r is made = record {
    made = subst
        (λ (u : PipeUse). CallClause me (MakesCalledLine (limits_of w) (ends_of ends) (progress_of d) me word u)
        (view w d.pass) (view w d'.pass) (record { reply = r; left = progress_of d' })) (sym is) made;
    went_on = neither_stays (Script word) r ends is;
  }

  pub line_of_script : (word : Call) (result : Result Reply AllocError) → use_of word ≡ neither
      → IfOk result (MakesAsScript w d d' me word) → IfOk result (CalledOn w d d' ends ends me word)
  line_of_script word (Ok r) is made = called_as_script word r is made
  line_of_script word (Err e) is made = tt

  pub stands_scripted : (word : Call) (result : Result Reply AllocError) → MayRace word → StandsWith w d ends me
      → IfOk result (MakesAsScript w d d' me word) → StandsFor w d' me
      → IfOk result (λ _. StandsWith w d' ends me)
  stands_scripted word (Ok r) may with_ends made stands =
      stands_with w d d' ends me with_ends stands made
      (script_line_pipeless (limits_of w) (progress_of d) (pipes_none d with_ends.pipeless) me word
      (done_between me (view w d.pass) (view w d'.pass)) (record { reply = r; left = progress_of d' }) may made.shape)
  stands_scripted word (Err e) may with_ends made stands = tt
