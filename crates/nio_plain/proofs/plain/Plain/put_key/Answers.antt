use Rattle.std.proofs.Common.{refl, ap, sym, ◌∙◌, arith}
use Rattle.nio_history.specs.State.{put}
use Rattle.nio_plain.proofs.Replying.{rows_of, with_rows, state-set_selector}
use Rattle.nio_plain.proofs.KeyChange.{claimed-made, state-key}
use Rattle.nio_plain.proofs.Places.{places_at}
use Rattle.nio_plain.specs.PlainState.{SelectorRow, selector_row, no_selector, key_row, with_key_at}
use Rattle.nio_plain.proofs.plain.Plain.put_key.Goals as goal

pub index_mut-requires : goal.index_mut-requires
index_mut-requires c =
    let p = c.args.self.now in
    let made = claimed-made p c.args.sel.0 c.args.index c.requires in
    omega (arith, p.selectors.ok.0)

pub put_key-requires : goal.put_key-requires
put_key-requires c =
    let p = c.args.self.now in
    let x = c.index_mut.result.now in
    let made = claimed-made p c.args.sel.0 c.args.index c.requires in
    let mark = ap (λ (r : SelectorRow). r.keys_high)
    (places_at selector_row no_selector p.selectors.items c.args.sel.0 x made c.index_mut.ensures.value) in
    omega (arith, x.keys.ok.0, c.requires, mark)

pub returns-clause-left : goal.returns-clause-left
returns-clause-left c =
    let p = c.args.self.now in
    let s = c.args.sel.0 in
    let key = key_row c.args.key in
    let made = claimed-made p s c.args.index c.requires in
    let at = places_at selector_row no_selector p.selectors.items s c.index_mut.result.now made
    c.index_mut.ensures.value in
    let row = c.put_key.ensures ∙ ap (λ r. with_key_at r c.args.index key) (sym at) in
    state-set_selector p _ s c.put_key.new.self made refl
    ∙ (ap (λ r. with_rows p (put (rows_of p) s r)) row ∙ state-key _ _ _ _ _ (rows_of p) s c.args.index key)
