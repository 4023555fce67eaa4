use Rattle.std.proofs.Common.{sym, ap, ◌∙◌}
use Rattle.nio_history.specs.Sets.{is_open_channel}
use Rattle.nio_history.specs.declared.found.Chan.{Chan}
use Rattle.nio_plain.proofs.Replying.{unchanged_without_memory}
use Rattle.nio_plain.specs.PlainState.{state_of}
use Rattle.nio_plain.specs.Seq.Replies.{unchanged, yes_or_no}
use Rattle.nio_plain.specs.Seq.Modes.{is_open_call}
use Rattle.nio_plain.proofs.plain.Plain.is_open_channel.Goals as goal

pub returns-in-Ok : goal.returns-in-Ok
unfolding is_open_call
returns-in-Ok c =
    let st = state_of c.args.self.now in
    unchanged_without_memory c.args.self.now _ _
    (c.in-Ok.ensures.through _
    ∙ (ap (λ (x : Chan). unchanged st (yes_or_no (is_open_channel x c.args.chan.serial))) c.in-Ok.ensures.row
    ∙ ap (unchanged st) (sym (c.yes_or_no.ensures ∙ ap yes_or_no c.is_open.ensures))))

pub returns-in-Err : goal.returns-in-Err
unfolding is_open_call
returns-in-Err c =
    unchanged_without_memory c.args.self.now _ _ (c.in-Err.ensures.refused _)
