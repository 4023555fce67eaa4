use Rattle.std.proofs.Common.{refl, rules}
use Rattle.nio_steps.proofs.CallLaws.{returned, left_ask, left_of_call}
use Rattle.nio_words.proofs.Pins.{no_pin_stays}
use Rattle.nio_words.proofs.Views.{step_acts}
use Rattle.nio_channel.proofs.Chains.{left_at}
use Rattle.nio_channel.proofs.Claimed.{none_free}
use Rattle.nio_channel.proofs.Held.{may_enrol_stays}
use Rattle.nio_channel.proofs.claiming.search_word.Goals as goal

pub search_bits-requires-clause-may : goal.search_bits-requires-clause-may
search_bits-requires-clause-may c = may_enrol_stays c.look_free-word.ensures refl refl c.requires.may

pub search_bits-requires-clause-unpinned : goal.search_bits-requires-clause-unpinned
search_bits-requires-clause-unpinned c = no_pin_stays (step_acts c.look_free-word.ensures refl) refl c.requires.unpinned

pub returns-clause-call : goal.returns-clause-call
returns-clause-call c =
    returned (left_ask _ (step_acts c.look_free-word.ensures refl) (left_of_call c.search_bits.ensures.call))

pub returns-then-word-eq0-clause-call : goal.returns-then-word-eq0-clause-call
returns-then-word-eq0-clause-call c =
    returned (left_ask _ (step_acts c.look_free-word.ensures refl)
    (left_at (none_free c.args.sel c.args.chan.number c.args.mark c.args.j c.look_free-word.result (search rules))
    (step_acts c.look_free-word.ensures refl)))

pub returns-then-word-eq0-clause-may : goal.returns-then-word-eq0-clause-may
returns-then-word-eq0-clause-may c = may_enrol_stays c.look_free-word.ensures refl refl c.requires.may

pub returns-then-word-eq0-clause-unpinned : goal.returns-then-word-eq0-clause-unpinned
returns-then-word-eq0-clause-unpinned c =
    λ _. no_pin_stays (step_acts c.look_free-word.ensures refl) refl c.requires.unpinned
