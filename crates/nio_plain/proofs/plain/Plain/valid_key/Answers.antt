use Rattle.std.proofs.Common.{ap, sym, ◌∙◌}
use Rattle.nio_history.specs.Sets.{is_valid_key}
use Rattle.nio_plain.proofs.Naming.{valid-refused, valid-through, valid-cancelled}
use Rattle.nio_plain.specs.PlainState.{KeyRow, state_of}
use Rattle.nio_plain.proofs.plain.Plain.valid_key.Goals as goal

pub returns-in-Err-clause-refused : goal.returns-in-Err-clause-refused
returns-in-Err-clause-refused c =
    valid-refused (state_of c.args.self.now) c.args.sel c.args.id _ c.in-Err.ensures.refused

pub returns-then-not-is_valid_key-clause-refused : goal.returns-then-not-is_valid_key-clause-refused
returns-then-not-is_valid_key-clause-refused c =
    valid-cancelled (state_of c.args.self.now) c.args.sel c.args.id c.in-Ok.ensures.through
    (ap (λ (k : KeyRow). is_valid_key k.stage c.args.id.serial) c.in-Ok.ensures.row
    ∙ sym c.if-not-is_valid_key.ensures)

pub returns-clause-through : goal.returns-clause-through
returns-clause-through c =
    valid-through (state_of c.args.self.now) c.args.sel c.args.id c.in-Ok.ensures.through
    (ap (λ (k : KeyRow). is_valid_key k.stage c.args.id.serial) c.in-Ok.ensures.row
    ∙ sym c.if-not-is_valid_key.ensures)
