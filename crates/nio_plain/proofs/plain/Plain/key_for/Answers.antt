use Rattle.std.proofs.Common.{◌<◌, Option, Some, None, get_or, length, refl, sym, ap, ◌∙◌, arith}
use Rattle.nio_base.specs.declared.numbers.KeyId.{KeyId}
use Rattle.nio_history.specs.Sets.{fits_channel}
use Rattle.nio_history.specs.declared.found.Chan.{Chan}
use Rattle.nio_plain.proofs.Replying.{unchanged_without_memory}
use Rattle.nio_plain.proofs.Registered.{key_of-read}
use Rattle.nio_plain.specs.PlainState.{state_of}
use Rattle.nio_plain.specs.Seq.Replies.{unchanged}
use Rattle.nio_plain.specs.Seq.Modes.{key_for_call, name_or_none}
use Rattle.nio_plain.proofs.plain.Plain.key_for.Goals as goal

pub returns-in-Err : goal.returns-in-Err
unfolding key_for_call
returns-in-Err c =
    unchanged_without_memory c.args.self.now _ _ (c.in-Err.ensures.refused _)

pub returns-in-Err-selector : goal.returns-in-Err-selector
unfolding key_for_call
returns-in-Err-selector c =
    unchanged_without_memory c.args.self.now _ _ (c.in-Ok.ensures.through _ ∙ c.in-Err-selector.ensures.refused _)

pub returns-then-not-fits : goal.returns-then-not-fits
unfolding key_for_call
returns-then-not-fits c =
    let p = c.args.self.now in
    let old = ap (λ (x : Chan). fits_channel x c.args.chan.serial) c.in-Ok.ensures.row
    ∙ (sym c.fits.ensures ∙ c.if-not-fits.true) in
    unchanged_without_memory p _ _
    (c.in-Ok.ensures.through _ ∙ (c.in-Ok-selector.ensures.through _ ∙ rw old refl))

pub returns-in-Some : goal.returns-in-Some
unfolding key_for_call
returns-in-Some c =
    let p = c.args.self.now in
    let x = c.index.result.now in
    let within : c.args.sel.0 < length p.selectors.items =
    omega (arith, p.selectors.ok.0, c.in-Ok-selector.ensures.made) in
    let read = c.index.ensures ∙ ap (λ n. get_or p.selectors.items n x) c.in-Ok-selector.ensures.place in
    let key =
    key_of-read p c.args.sel.0 c.args.chan.number.0 x (Some c.in-Some.key) within read c.in-Some.ensures.key in
    let present = ap (λ (x : Chan). fits_channel x c.args.chan.serial) c.in-Ok.ensures.row
    ∙ (sym c.fits.ensures ∙ c.if-not-fits.false) in
    unchanged_without_memory p _ _
    (c.in-Ok.ensures.through _ ∙ (c.in-Ok-selector.ensures.through _
    ∙ rw present (ap (λ (o : Option KeyId). unchanged (state_of p) (name_or_none o)) key)))

pub returns-in-None : goal.returns-in-None
unfolding key_for_call
returns-in-None c =
    let p = c.args.self.now in
    let x = c.index.result.now in
    let within : c.args.sel.0 < length p.selectors.items =
    omega (arith, p.selectors.ok.0, c.in-Ok-selector.ensures.made) in
    let read = c.index.ensures ∙ ap (λ n. get_or p.selectors.items n x) c.in-Ok-selector.ensures.place in
    let key = key_of-read p c.args.sel.0 c.args.chan.number.0 x None within read c.in-None.ensures.key in
    let present = ap (λ (x : Chan). fits_channel x c.args.chan.serial) c.in-Ok.ensures.row
    ∙ (sym c.fits.ensures ∙ c.if-not-fits.false) in
    unchanged_without_memory p _ _
    (c.in-Ok.ensures.through _ ∙ (c.in-Ok-selector.ensures.through _
    ∙ rw present (ap (λ (o : Option KeyId). unchanged (state_of p) (name_or_none o)) key)))
