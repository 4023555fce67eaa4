use Rattle.std.proofs.Common.{sym, ap, ◌∙◌}
use Rattle.nio_history.specs.Sets.{is_valid_key}
use Rattle.nio_plain.proofs.Replying.{unchanged_without_memory}
use Rattle.nio_plain.specs.PlainState.{KeyRow, state_of}
use Rattle.nio_plain.specs.Seq.Replies.{unchanged, yes_or_no}
use Rattle.nio_plain.specs.Seq.Keys.{valid_call}
use Rattle.nio_plain.proofs.plain.Plain.is_valid_key.Goals as goal

pub returns-in-Ok : goal.returns-in-Ok
unfolding valid_call
returns-in-Ok c =
    let st = state_of c.args.self.now in
    let told = c.yes_or_no.ensures ∙ ap yes_or_no c.is_valid_key.ensures in
    unchanged_without_memory c.args.self.now _ _
    (c.in-Ok.ensures.through _
    ∙ (ap (λ (k : KeyRow). unchanged st (yes_or_no (is_valid_key k.stage c.args.id.serial))) c.in-Ok.ensures.row
    ∙ ap (unchanged st) (sym told)))

pub returns-in-Err : goal.returns-in-Err
unfolding valid_call
returns-in-Err c =
    unchanged_without_memory c.args.self.now _ _ (c.in-Err.ensures.refused _)
