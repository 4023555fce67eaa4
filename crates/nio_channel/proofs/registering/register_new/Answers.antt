use Rattle.std.proofs.Common.{refl}
use Rattle.nio_history.specs.Permanent.{index_claimed}
use Rattle.nio_history.proofs.PassViews.{lasts_over}
use Rattle.nio_steps.proofs.CallLaws.{returned, left_ask, ran_then, left_of_call}
use Rattle.nio_steps.specs.ChannelCalls.{register_next}
use Rattle.nio_words.proofs.Pins.{no_pin_stays}
use Rattle.nio_words.proofs.Views.{step_acts}
use Rattle.nio_words.specs.Passes.{limits_of}
use Rattle.nio_channel.proofs.Claimed.{all_claimed_below, mark_inside}
use Rattle.nio_channel.proofs.Held.{may_enrol_stays}
use Rattle.nio_channel.proofs.registering.register_new.Goals as goal

pub search_free-claimed-requires-clause-may : goal.search_free-claimed-requires-clause-may
search_free-claimed-requires-clause-may c = may_enrol_stays c.look_keys-mark.ensures refl refl c.requires.may

pub search_free-claimed-requires-clause-mark : goal.search_free-claimed-requires-clause-mark
search_free-claimed-requires-clause-mark c = mark_inside (step_acts c.look_keys-mark.ensures refl)

pub search_free-claimed-requires-clause-unpinned : goal.search_free-claimed-requires-clause-unpinned
search_free-claimed-requires-clause-unpinned c =
    no_pin_stays (step_acts c.look_keys-mark.ensures refl) refl c.requires.unpinned

pub register_next-requires-clause-lower : goal.register_next-requires-clause-lower
register_next-requires-clause-lower c =
    λ i below. lasts_over (index_claimed c.args.wanted.now.sel.0 i) c.search_free-claimed.ensures.call.acts
    (all_claimed_below (step_acts c.look_keys-mark.ensures refl) i below)

pub returns-clause-call : goal.returns-clause-call
returns-clause-call c =
    returned (left_ask _ (step_acts c.look_keys-mark.ensures refl)
    (ran_then
    (register_next (limits_of c.args.w.now) c.args.wanted.now.sel c.args.wanted.now.chan c.args.wanted.now.ops
    c.args.wanted.now.att c.look_keys-mark.result)
    c.search_free-claimed.ensures.call (left_of_call c.register_next.ensures.call)))
