use Rattle.std.proofs.Common.{not, refl, rules}
use Rattle.nio_base.specs.Kind.{valid_operations}
use Rattle.nio_history.specs.Sets.{is_valid_key}
use Rattle.nio_steps.proofs.CallLaws.{left_ask, left_then, left_else, left_after, returned}
use Rattle.nio_base.specs.Ops.{is_within}
use Rattle.nio_words.proofs.Pins.{stays_pinned}
use Rattle.nio_words.proofs.Views.{step_acts}
use Rattle.nio_keys.proofs.interests.check_operations.Goals as goal

pub returns-then-not-supports-clause-call : goal.returns-then-not-supports-clause-call
returns-then-not-supports-clause-call c =
    let looked = step_acts c.look_channel-found.ensures refl in
    returned (left_else (not (is_valid_key c.args.stage c.args.key.serial)) _ _ (search rules)
    (left_ask _ looked
    (left_then (not (is_within c.args.ops (valid_operations c.look_channel-found.result.kind))) _ _ (search rules)
    (left_after looked))))

pub returns-then-not-supports-clause-pinned : goal.returns-then-not-supports-clause-pinned
returns-then-not-supports-clause-pinned c = stays_pinned c.look_channel-found.ensures refl refl c.requires.pinned

pub returns-clause-pinned : goal.returns-clause-pinned
returns-clause-pinned c = stays_pinned c.look_channel-found.ensures refl refl c.requires.pinned
