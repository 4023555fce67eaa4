use Rattle.std.proofs.Common.{◌≡◌, true, false, [], ◌∷◌, refl, sym, ◌∙◌, rules}
use Rattle.std.proofs.lemmas.Bool.{or_left, or_from}
use Rattle.nio_history.specs.Acts.{takes_close}
use Rattle.nio_history.specs.OwnEvents.{has}
use Rattle.nio_history.specs.declared.act.Act.TheVariants.{CloseBit}
use Rattle.nio_steps.proofs.CallLaws.{returned, left_ask, left_then, left_else, left_after, left_of_call}
use Rattle.nio_words.proofs.Pins.{no_pin_stays}
use Rattle.nio_words.proofs.Views.{step_acts}
use Rattle.nio_channel.proofs.Chans.{closed_unblocked, closes_not, closes_now}
use Rattle.nio_channel.proofs.Done.{has_done, has_then}
use Rattle.nio_channel.proofs.Made.{closed_after, closed_found, opened_then, taken_closed}
use Rattle.nio_history.specs.OwnEvents.{closes}
use Rattle.nio_channel.proofs.closing.close_once_more.Goals as goal

pub cancel_all-requires-clause-unpinned : goal.cancel_all-requires-clause-unpinned
cancel_all-requires-clause-unpinned c = no_pin_stays (step_acts c.close_bit-found.ensures refl) refl c.requires.unpinned

pub returns-then-takes_close-clause-call : goal.returns-then-takes_close-clause-call
returns-then-takes_close-clause-call c =
    let takes : takes_close c.args.from c.close_bit-found.result ≡ true = search rules in
    returned (left_ask _ (step_acts c.close_bit-found.ensures refl)
    (left_then _ _ _ takes (left_of_call c.cancel_all.ensures.call)))

pub returns-then-takes_close-clause-took : goal.returns-then-takes_close-clause-took
returns-then-takes_close-clause-took c =
    let takes : takes_close c.args.from c.close_bit-found.result ≡ true = search rules in
    let act = CloseBit c.args.chan.number c.args.from c.close_bit-found.result in
    c.cancel_all.ensures.yes
    ∙ sym (has_then (closes c.args.chan) (step_acts c.close_bit-found.ensures refl) c.cancel_all.ensures.call.acts
    ∙ or_left (has (closes c.args.chan) (act ∷ [])) _
    (or_left (closes c.args.chan act) false
    (closes_now c.args.chan c.args.from c.close_bit-found.result c.requires.open_now takes)))

pub returns-then-takes_close-clause-closed : goal.returns-then-takes_close-clause-closed
returns-then-takes_close-clause-closed c =
    let takes : takes_close c.args.from c.close_bit-found.result ≡ true = search rules in
    closed_after c.args.chan c.cancel_all.ensures.call.acts
    (taken_closed (step_acts c.close_bit-found.ensures refl) c.requires.channel c.requires.open_now takes)

pub returns-else-takes_close-clause-call : goal.returns-else-takes_close-clause-call
returns-else-takes_close-clause-call c =
    let fails : takes_close c.args.from c.close_bit-found.result ≡ false = search rules in
    returned (left_ask _ (step_acts c.close_bit-found.ensures refl)
    (left_else _ _ _ fails (left_after (step_acts c.close_bit-found.ensures refl))))

pub returns-else-takes_close-clause-took : goal.returns-else-takes_close-clause-took
returns-else-takes_close-clause-took c =
    let fails : takes_close c.args.from c.close_bit-found.result ≡ false = search rules in
    sym (has_done (closes c.args.chan) (step_acts c.close_bit-found.ensures refl)
    ∙ or_from (closes c.args.chan (CloseBit c.args.chan.number c.args.from c.close_bit-found.result)) false
    (closes_not c.args.chan c.args.from c.close_bit-found.result fails) refl)

pub returns-else-takes_close-clause-closed : goal.returns-else-takes_close-clause-closed
returns-else-takes_close-clause-closed c =
    let fails : takes_close c.args.from c.close_bit-found.result ≡ false = search rules in
    closed_found c.args.chan c.close_bit-found.result (step_acts c.close_bit-found.ensures refl) refl
    (closed_unblocked c.args.from c.close_bit-found.result c.args.chan.serial c.requires.open_now c.requires.unblocked
    fails (opened_then (step_acts c.close_bit-found.ensures refl) c.requires.channel))

pub returns-else-takes_close-clause-unpinned : goal.returns-else-takes_close-clause-unpinned
returns-else-takes_close-clause-unpinned c =
    no_pin_stays (step_acts c.close_bit-found.ensures refl) refl c.requires.unpinned
