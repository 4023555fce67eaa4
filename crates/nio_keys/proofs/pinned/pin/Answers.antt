use Rattle.std.proofs.Common.{◌≡◌, refl, subst}
use Rattle.nio_history.proofs.Within.{legal-within}
use Rattle.nio_history.specs.Conditions.{IsChannel}
use Rattle.nio_history.specs.Questions.{stage}
use Rattle.nio_history.specs.declared.found.Stage.{Stage}
use Rattle.nio_words.proofs.Pins.{only_pinned, pinned_claimed}
use Rattle.nio_words.proofs.Stepping.{still_ready}
use Rattle.nio_words.proofs.Views.{key_claimed, look_tells, step_acts}
use Rattle.nio_words.specs.Passes.{seen, limits_of}
use Rattle.nio_keys.proofs.pinned.pin.Goals as goal

pub pin-requires-clause-claimed : goal.pin-requires-clause-claimed
pin-requires-clause-claimed c = key_claimed c.requires.ready.pass c.requires.key

pub returns-clause-act : goal.returns-clause-act
returns-clause-act c = step_acts c.pin.ensures refl

pub returns-clause-pinned : goal.returns-clause-pinned
returns-clause-pinned c = record {
  ready = still_ready _ _ _ _ _ _ c.pin.ensures c.requires.ready;
  inside = c.requires.key.inside;
  only = only_pinned (step_acts c.pin.ensures refl) c.requires.unpinned;
}

same_stage : {a b : Stage} → stage a ≡ stage b → b ≡ a
same_stage e = cc

pub returns-clause-channel : goal.returns-clause-channel
returns-clause-channel c =
    let claimed = pinned_claimed (returns-clause-pinned c) in
    let inside = (legal-within (limits_of c.args.w.now) (seen c.pin.new.p) c.pin.ensures.pass.legal).keys
    c.args.key.sel.0 c.args.key.index claimed in
    subst (λ (k : Stage). IsChannel (limits_of c.args.w.now) k.chan)
    (same_stage (look_tells (step_acts c.pin.ensures refl) refl)) inside.2
