use Rattle.std.proofs.Common.{◌≡◌, ◌==◌, true, false, not, Ok, refl, rules}
use Rattle.nio_steps.proofs.CallLaws.{returned, left_ask, left_after}
use Rattle.nio_steps.specs.Names.{key}
use Rattle.nio_steps.specs.Plan.{reply, ◌>>◌, when}
use Rattle.nio_steps.specs.Steps.{swap_note}
use Rattle.nio_words.proofs.Views.{step_acts, touched_amid}
use Rattle.nio_channel.proofs.Chains.{left_choice}
use Rattle.nio_channel.proofs.Registered.{knows_key_stays}
use Rattle.nio_channel.proofs.registering.update_key.Goals as goal

pub returns-then-wanted-eq0-clause-call : goal.returns-then-wanted-eq0-clause-call
returns-then-wanted-eq0-clause-call c =
    let none : (c.args.wanted.now.att == 0) ≡ true = search rules in
    returned (left_ask _ (step_acts c.touch.ensures refl) (left_ask _ (step_acts c.swap_interest.ensures refl)
    (left_choice (λ b. when (not b) (swap_note c.args.wanted.now.sel c.args.k.index c.args.wanted.now.att)
    >> reply (Ok (key c.args.wanted.now.sel c.args.k))) none
    (left_after (step_acts c.swap_interest.ensures refl)))))

pub returns-then-wanted-eq0-clause-known : goal.returns-then-wanted-eq0-clause-known
returns-then-wanted-eq0-clause-known c =
    knows_key_stays c.swap_interest.ensures refl refl refl
    (knows_key_stays c.touch.ensures refl refl refl c.requires)

pub swap_interest-requires-clause-pinned : goal.swap_interest-requires-clause-pinned
swap_interest-requires-clause-pinned c = (knows_key_stays c.touch.ensures refl refl refl c.requires).pinned.only.here

pub swap_interest-requires-clause-touched : goal.swap_interest-requires-clause-touched
swap_interest-requires-clause-touched c =
    touched_amid (step_acts c.touch.ensures refl)
    (knows_key_stays c.touch.ensures refl refl refl c.requires).pinned.only.here

pub swap_note-requires-clause-pinned : goal.swap_note-requires-clause-pinned
swap_note-requires-clause-pinned c =
    (knows_key_stays c.swap_interest.ensures refl refl refl
    (knows_key_stays c.touch.ensures refl refl refl c.requires)).pinned.only.here

pub returns-clause-call : goal.returns-clause-call
returns-clause-call c =
    let given : (c.args.wanted.now.att == 0) ≡ false = search rules in
    returned (left_ask _ (step_acts c.touch.ensures refl) (left_ask _ (step_acts c.swap_interest.ensures refl)
    (left_choice (λ b. when (not b) (swap_note c.args.wanted.now.sel c.args.k.index c.args.wanted.now.att)
    >> reply (Ok (key c.args.wanted.now.sel c.args.k))) given
    (left_ask _ (step_acts c.swap_note.ensures refl) (left_after (step_acts c.swap_note.ensures refl))))))

pub returns-clause-known : goal.returns-clause-known
returns-clause-known c =
    knows_key_stays c.swap_note.ensures refl refl refl
    (knows_key_stays c.swap_interest.ensures refl refl refl
    (knows_key_stays c.touch.ensures refl refl refl c.requires))
