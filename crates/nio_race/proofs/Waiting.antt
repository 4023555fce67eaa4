-- A line whose call waits for a hold leaves in progress what was in progress.
use Rattle.std.proofs.Common.{◌≡◌, true, List, refl}
use Rattle.nio_base.specs.declared.limits.Limits.{Limits}
use Rattle.nio_base.specs.declared.numbers.CallerNo.{CallerNo}
use Rattle.nio_history.specs.declared.act.Act.{Act}
use Rattle.nio_language.specs.declared.call.Call.{Call}
use Rattle.nio_language.specs.declared.call.Call.TheVariants as call
use Rattle.nio_language.specs.declared.reply.Reply.{Reply}
use Rattle.nio_serial.proofs.Leaving.{Leaves, asks-leaves, line-leaves, run-leaves}
use Rattle.nio_serial.specs.Documented.{Progress}
use Rattle.nio_serial.specs.Lines.{Said, call_plan, line_plan}
use Rattle.nio_steps.specs.Runs.{Completes}
use Rattle.nio_race.specs.Runs.{waits_for_hold}

module _ (l : Limits) (now : Progress) where
  abbrev Stays : Progress → Type 0
  Stays left = left ≡ now

  call-stays : (me : CallerNo) (word : Call) (r : Reply) → waits_for_hold word r ≡ true
      → Leaves Stays (call_plan l now me word)
  unfolding call_plan
  call-stays me (call.Blocking c on) r waits = asks-leaves Stays now refl _ _
  call-stays me (call.Register s c ops att) r waits = asks-leaves Stays now refl _ _
  call-stays me _ r waits = absurd (cc waits)

  pub line_stays : (me : CallerNo) (word : Call) (acts : List Act) (said : Said) (r : Reply)
      → waits_for_hold word r ≡ true → Completes (line_plan l now me word) acts said → said.left ≡ now
  line_stays me word acts said r waits run =
      run-leaves Stays (line_plan l now me word) acts said
      (line-leaves Stays now refl l me word (call-stays me word r waits)) run
