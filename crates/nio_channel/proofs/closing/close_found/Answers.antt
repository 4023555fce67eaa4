use Rattle.std.proofs.Common.{◌≡◌, true, false, ◌||◌, [], ◌∷◌, refl, ap, sym, ◌∙◌, rules}
use Rattle.std.proofs.lemmas.Bool.{or_left, or_from}
use Rattle.nio_history.proofs.PassViews.{channel_after}
use Rattle.nio_history.specs.Acts.{takes_close}
use Rattle.nio_history.specs.OwnEvents.{has}
use Rattle.nio_history.specs.PassViews.{done_between}
use Rattle.nio_history.specs.Sets.{is_open_channel}
use Rattle.nio_history.specs.declared.act.Act.TheVariants.{CloseBit}
use Rattle.nio_steps.proofs.CallLaws.{returned, left_ask, left_then, left_else, left_after, left_of_call}
use Rattle.nio_words.proofs.Pins.{no_pin_stays}
use Rattle.nio_words.proofs.Views.{step_acts, was_open_found}
use Rattle.nio_words.specs.Views.{view}
use Rattle.nio_channel.proofs.Chans.{closes_not, closes_now, fails_open, open_parts, opened_closed}
use Rattle.nio_channel.proofs.Done.{has_done, has_then}
use Rattle.nio_channel.proofs.Made.{closed_after, closed_found, opened_then, taken_closed}
use Rattle.nio_history.specs.OwnEvents.{closes}
use Rattle.nio_channel.proofs.closing.close_found.Goals as goal

pub cancel_all-requires-clause-unpinned : goal.cancel_all-requires-clause-unpinned
cancel_all-requires-clause-unpinned c = no_pin_stays (step_acts c.close_bit-found.ensures refl) refl c.requires.unpinned

pub returns-then-takes_close-clause-call : goal.returns-then-takes_close-clause-call
returns-then-takes_close-clause-call c =
    let takes : takes_close c.args.from c.close_bit-found.result ≡ true = search rules in
    returned (left_ask _ (step_acts c.close_bit-found.ensures refl)
    (left_then _ _ _ takes (left_of_call c.cancel_all.ensures.call)))

pub returns-then-takes_close-clause-took : goal.returns-then-takes_close-clause-took
returns-then-takes_close-clause-took c =
    let takes : takes_close c.args.from c.close_bit-found.result ≡ true = search rules in
    let act = CloseBit c.args.chan.number c.args.from c.close_bit-found.result in
    c.cancel_all.ensures.yes
    ∙ sym (has_then (closes c.args.chan) (step_acts c.close_bit-found.ensures refl) c.cancel_all.ensures.call.acts
    ∙ or_left (has (closes c.args.chan) (act ∷ [])) _
    (or_left (closes c.args.chan act) false
    (closes_now c.args.chan c.args.from c.close_bit-found.result c.requires.open_now takes)))

pub returns-then-takes_close-clause-closed : goal.returns-then-takes_close-clause-closed
returns-then-takes_close-clause-closed c =
    let takes : takes_close c.args.from c.close_bit-found.result ≡ true = search rules in
    closed_after c.args.chan c.cancel_all.ensures.call.acts
    (taken_closed (step_acts c.close_bit-found.ensures refl) c.requires.channel c.requires.open_now takes)

pub returns-then-not-is_open-clause-call : goal.returns-then-not-is_open-clause-call
returns-then-not-is_open-clause-call c =
    let fails : takes_close c.args.from c.close_bit-found.result ≡ false = search rules in
    let unopen : is_open_channel c.close_bit-found.result c.args.chan.serial ≡ false = search rules in
    returned (left_ask _ (step_acts c.close_bit-found.ensures refl)
    (left_else _ _ _ fails (left_else _ _ _ unopen (left_after (step_acts c.close_bit-found.ensures refl)))))

pub returns-then-not-is_open-clause-took : goal.returns-then-not-is_open-clause-took
returns-then-not-is_open-clause-took c =
    let fails : takes_close c.args.from c.close_bit-found.result ≡ false = search rules in
    sym (has_done (closes c.args.chan) (step_acts c.close_bit-found.ensures refl)
    ∙ or_from (closes c.args.chan (CloseBit c.args.chan.number c.args.from c.close_bit-found.result)) false
    (closes_not c.args.chan c.args.from c.close_bit-found.result fails) refl)

pub returns-then-not-is_open-clause-closed : goal.returns-then-not-is_open-clause-closed
returns-then-not-is_open-clause-closed c =
    let unopen : is_open_channel c.close_bit-found.result c.args.chan.serial ≡ false = search rules in
    closed_found c.args.chan c.close_bit-found.result (step_acts c.close_bit-found.ensures refl) refl
    (opened_closed c.close_bit-found.result c.args.chan.serial
    (opened_then (step_acts c.close_bit-found.ensures refl) c.requires.channel) unopen)

pub returns-then-not-is_open-clause-unpinned : goal.returns-then-not-is_open-clause-unpinned
returns-then-not-is_open-clause-unpinned c =
    no_pin_stays (step_acts c.close_bit-found.ensures refl) refl c.requires.unpinned

pub close_once_more-requires-clause-channel : goal.close_once_more-requires-clause-channel
close_once_more-requires-clause-channel c =
    channel_after (step_acts c.close_bit-found.ensures refl) c.requires.channel

pub close_once_more-requires-clause-was_open : goal.close_once_more-requires-clause-was_open
close_once_more-requires-clause-was_open c =
    let opens : is_open_channel c.close_bit-found.result c.args.chan.serial ≡ true = search rules in
    let is = open_parts c.close_bit-found.result c.args.chan.serial opens in
    was_open_found (step_acts c.close_bit-found.ensures refl) (λ f. refl) is.made is.open_now

pub close_once_more-requires-clause-unblocked : goal.close_once_more-requires-clause-unblocked
close_once_more-requires-clause-unblocked c =
    let fails : takes_close c.args.from c.close_bit-found.result ≡ false = search rules in
    let opens : is_open_channel c.close_bit-found.result c.args.chan.serial ≡ true = search rules in
    fails_open c.args.from c.close_bit-found.result c.args.chan.serial c.requires.open_now fails opens

pub close_once_more-requires-clause-unpinned : goal.close_once_more-requires-clause-unpinned
close_once_more-requires-clause-unpinned c =
    no_pin_stays (step_acts c.close_bit-found.ensures refl) refl c.requires.unpinned

pub returns-clause-call : goal.returns-clause-call
returns-clause-call c =
    let fails : takes_close c.args.from c.close_bit-found.result ≡ false = search rules in
    let opens : is_open_channel c.close_bit-found.result c.args.chan.serial ≡ true = search rules in
    returned (left_ask _ (step_acts c.close_bit-found.ensures refl)
    (left_else _ _ _ fails (left_then _ _ _ opens (left_of_call c.close_once_more.ensures.call))))

pub returns-clause-took : goal.returns-clause-took
returns-clause-took c =
    let fails : takes_close c.args.from c.close_bit-found.result ≡ false = search rules in
    let later = has (closes c.args.chan)
    (done_between c.args.me (view c.args.w.now c.close_bit-found.new.p) (view c.args.w.now c.close_once_more.new.p)) in
    c.close_once_more.ensures.took
    ∙ sym (has_then (closes c.args.chan) (step_acts c.close_bit-found.ensures refl) c.close_once_more.ensures.call.acts
    ∙ ap (λ b. (b || false) || later) (closes_not c.args.chan c.args.from c.close_bit-found.result fails))
