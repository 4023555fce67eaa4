use Rattle.std.proofs.Common.{◌≡◌, true, not, Ok, refl, rules}
use Rattle.nio_history.specs.Permanent.{a_change}
use Rattle.nio_history.specs.Sets.{is_open_channel}
use Rattle.nio_steps.proofs.CallLaws.{returned, left_ask, left_after}
use Rattle.nio_steps.specs.Names.{key}
use Rattle.nio_steps.specs.Plan.{reply, ◌>>◌, when}
use Rattle.nio_steps.specs.Steps.{cancel_key}
use Rattle.nio_words.proofs.Pins.{stays_pinned, pinned_claimed}
use Rattle.nio_words.proofs.Views.{step_acts}
use Rattle.nio_channel.proofs.Chains.{left_choice}
use Rattle.nio_channel.proofs.Held.{had_stays, hold_stays}
use Rattle.nio_channel.proofs.Registered.{settled_open, settled_cancelled}
use Rattle.nio_channel.proofs.registering.settle_key.Goals as goal

pub returns-then-is_open-clause-held : goal.returns-then-is_open-clause-held
returns-then-is_open-clause-held c = hold_stays c.look_channel-found.ensures refl refl c.requires.known.unblocked.held

pub returns-then-is_open-clause-registered : goal.returns-then-is_open-clause-registered
returns-then-is_open-clause-registered c =
    let opens : is_open_channel c.look_channel-found.result c.args.wanted.now.chan.serial ≡ true = search rules in
    settled_open c.look_channel-found.ensures opens c.requires

pub returns-then-is_open-clause-pinned : goal.returns-then-is_open-clause-pinned
returns-then-is_open-clause-pinned c = stays_pinned c.look_channel-found.ensures refl refl c.requires.known.pinned

pub cancel_key-requires-clause-claimed : goal.cancel_key-requires-clause-claimed
cancel_key-requires-clause-claimed c =
    pinned_claimed (stays_pinned c.look_channel-found.ensures refl refl c.requires.known.pinned)

pub cancel_key-requires-clause-pinned : goal.cancel_key-requires-clause-pinned
cancel_key-requires-clause-pinned c =
    (stays_pinned c.look_channel-found.ensures refl refl c.requires.known.pinned).only.here

pub cancel_key-requires-clause-touched : goal.cancel_key-requires-clause-touched
cancel_key-requires-clause-touched c =
    had_stays (a_change c.args.wanted.now.sel c.args.k.index) c.look_channel-found.ensures refl refl
    c.requires.known.pinned.ready.pass c.requires.amid

pub returns-clause-call : goal.returns-clause-call
returns-clause-call c =
    let unopen : not (is_open_channel c.look_channel-found.result c.args.wanted.now.chan.serial)
    ≡ true = search rules in
    returned (left_ask _ (step_acts c.look_channel-found.ensures refl)
    (left_choice (λ b. when b (cancel_key c.args.wanted.now.sel c.args.k.index)
    >> reply (Ok (key c.args.wanted.now.sel c.args.k))) unopen
    (left_ask _ (step_acts c.cancel_key.ensures refl) (left_after (step_acts c.cancel_key.ensures refl)))))

pub returns-clause-held : goal.returns-clause-held
returns-clause-held c =
    hold_stays c.cancel_key.ensures refl refl
    (hold_stays c.look_channel-found.ensures refl refl c.requires.known.unblocked.held)

pub returns-clause-registered : goal.returns-clause-registered
returns-clause-registered c = settled_cancelled c.look_channel-found.ensures c.cancel_key.ensures c.requires

pub returns-clause-pinned : goal.returns-clause-pinned
returns-clause-pinned c =
    stays_pinned c.cancel_key.ensures refl refl
    (stays_pinned c.look_channel-found.ensures refl refl c.requires.known.pinned)
