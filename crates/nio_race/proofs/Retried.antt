-- A line that is made again while its channel is held.
use Rattle.std.proofs.Common.{◌≡◌, true, false, subst}
use Rattle.nio_base.specs.declared.numbers.CallerNo.{CallerNo}
use Rattle.nio_history.proofs.Clauses.{prefix_trans}
use Rattle.nio_language.specs.declared.call.Call.{Call}
use Rattle.nio_language.specs.declared.reply.Reply.{Reply}
use Rattle.nio_serial.specs.Documented.{Progress}
use Rattle.nio_serial.specs.Lines.{line_plan}
use Rattle.nio_sole.specs.Stands.{progress_of}
use Rattle.nio_sole.specs.declared.desk.Desk.{Desk}
use Rattle.nio_steps.proofs.WaitingLaws.{TryingClause, try_more, try_last}
use Rattle.nio_steps.specs.Calls.{CallClause}
use Rattle.nio_steps.specs.Runs.{Completes}
use Rattle.nio_words.specs.Passes.{limits_of, seen}
use Rattle.nio_words.specs.Views.{view}
use Rattle.nio_words.specs.declared.words.Words.{Words}
use mathlib.Core.List.{IsPrefix}
use Rattle.nio_race.proofs.Waiting.{line_stays}
use Rattle.nio_race.specs.Racers.{MakesAsScript, MakesOnce, StandsFor}
use Rattle.nio_race.specs.Runs.{is_made_again, waits_for_hold}

-- The line was made some times, each time in vain. What is in progress stays.
pub record IsTrying (w : Words) (first d : Desk) (me : CallerNo) (word : Call) : Type 0 where
  pub stands : StandsFor w d me
  pub later : IsPrefix (seen first.pass) (seen d.pass)
  pub same : progress_of d ≡ progress_of first
  pub tries : TryingClause me (λ (_ : Unit {0}). Completes (line_plan (limits_of w) (progress_of first) me word))
      (λ _. is_made_again word) (view w first.pass) (view w d.pass)

module _ (w : Words) (first d d' : Desk) (me : CallerNo) (word : Call) (r : Reply) (at : IsTrying w first d me word)
    (once : MakesOnce w d d' me word r) where
  its : CallClause me (Completes (line_plan (limits_of w) (progress_of first) me word)) (view w d.pass) (view w d'.pass)
      (record { reply = r; left = progress_of d' })
  its = subst
      (λ (p : Progress). CallClause me (Completes (line_plan (limits_of w) p me word)) (view w d.pass) (view w d'.pass)
      (record { reply = r; left = progress_of d' })) at.same once

  pub tries_on : StandsFor w d' me → IsPrefix (seen d.pass) (seen d'.pass) → waits_for_hold word r ≡ true
      → IsTrying w first d' me word
  tries_on stands later again = record {
    stands = stands;
    later = prefix_trans _ _ _ at.later later;
    same = line_stays (limits_of w) (progress_of first) me word _ (record { reply = r; left = progress_of d' }) r again
        its.shape;
    tries = try_more tt (record { reply = r; left = progress_of d' }) at.tries its again;
  }

  pub tried : waits_for_hold word r ≡ false → MakesAsScript w first d' me word r
  tried over = try_last tt (record { reply = r; left = progress_of d' }) at.tries its over
