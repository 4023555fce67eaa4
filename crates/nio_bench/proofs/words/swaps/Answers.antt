use Rattle.std.proofs.Common.{refl, ◌∙◌}
use Rattle.nio_channel.proofs.Held.{had_stays}
use Rattle.nio_history.specs.Permanent.{a_change}
use Rattle.nio_words.proofs.Pins.{same_pin}
use Rattle.nio_words.proofs.Stepping.{still_ready}
use Rattle.nio_words.proofs.Views.{step_acts, touched_amid}
use Rattle.nio_bench.proofs.words.swaps.Goals as goal

pub loop-turn-init : goal.loop-turn-init
loop-turn-init c =
    let pin = same_pin (step_acts c.touch.ensures refl) refl c.args.s 0 ∙ c.requires.pinned in (
      still_ready _ _ _ _ _ _ c.touch.ensures c.requires.ready,
      pin,
      touched_amid (step_acts c.touch.ensures refl) pin,
    )

pub loop-turn-preserved : goal.loop-turn-preserved
loop-turn-preserved c = (
  still_ready _ _ _ _ _ _ c.swap_interest.ensures c.loop-turn.invariant.0,
  same_pin (step_acts c.swap_interest.ensures refl) refl c.args.s 0 ∙ c.loop-turn.invariant.1,
  had_stays (a_change c.args.s 0) c.swap_interest.ensures refl refl c.loop-turn.invariant.0.pass
      c.loop-turn.invariant.2,
)
