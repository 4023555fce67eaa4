use Rattle.std.proofs.Common.{refl, sym, ap, ◌∙◌}
use Rattle.nio_history.specs.Sets.{fits_channel}
use Rattle.nio_history.specs.declared.found.Chan.{Chan}
use Rattle.nio_plain.proofs.Replying.{unchanged_without_memory}
use Rattle.nio_plain.specs.PlainState.{state_of}
use Rattle.nio_plain.specs.Seq.Replies.{unchanged, yes_or_no}
use Rattle.nio_plain.specs.Seq.Modes.{is_registered_call}
use Rattle.nio_plain.proofs.plain.Plain.is_registered_channel.Goals as goal

pub returns-in-Err : goal.returns-in-Err
unfolding is_registered_call
returns-in-Err c =
    unchanged_without_memory c.args.self.now _ _ (c.in-Err.ensures.refused _)

pub returns-then-not-fits : goal.returns-then-not-fits
unfolding is_registered_call
returns-then-not-fits c =
    let old = ap (λ (x : Chan). fits_channel x c.args.chan.serial) c.in-Ok.ensures.row
    ∙ (sym c.fits.ensures ∙ c.if-not-fits.true) in
    unchanged_without_memory c.args.self.now _ _ (c.in-Ok.ensures.through _ ∙ rw old refl)

pub returns : goal.returns
unfolding is_registered_call
returns c =
    let st = state_of c.args.self.now in
    let present = ap (λ (x : Chan). fits_channel x c.args.chan.serial) c.in-Ok.ensures.row
    ∙ (sym c.fits.ensures ∙ c.if-not-fits.false) in
    unchanged_without_memory c.args.self.now _ _
    (c.in-Ok.ensures.through _
    ∙ rw present (ap (unchanged st) (sym (c.yes_or_no.ensures ∙ ap yes_or_no c.has_key.ensures))))
