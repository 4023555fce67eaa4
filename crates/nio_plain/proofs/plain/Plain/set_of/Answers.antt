use Rattle.std.proofs.Common.{◌<◌, List, filter, map, length, sym, ap, ◌∙◌, arith, refl}
use Rattle.nio_base.specs.declared.numbers.KeyId.{KeyId}
use Rattle.nio_plain.proofs.Replying.{unchanged_as}
use Rattle.nio_plain.proofs.Closing.{read_row}
use Rattle.nio_plain.specs.PlainState.{SelectorRow, state_of, places, key_row, no_key, key_id, is_listed, listed_below}
use Rattle.nio_plain.specs.Seq.Replies.{Replied, unchanged}
use Rattle.nio_plain.specs.Seq.Listing.{names_or_none}
use Rattle.nio_plain.specs.Seq.Names.{below}
use Rattle.nio_plain.proofs.plain.Plain.set_of.Goals as goal

pub returns-in-Err : goal.returns-in-Err
returns-in-Err c =
    unchanged_as c.args.self.now _ _ (c.in-Err.ensures.refused _)

pub returns-then-is_shut : goal.returns-then-is_shut
returns-then-is_shut c =
    let p = c.args.self.now in
    let s = c.args.sel.0 in
    let within : c.args.sel.0 < length p.selectors.items = omega (arith, p.selectors.ok.0, c.in-Ok.ensures.made) in
    let row = read_row p s c.in-Ok.place c.index-selector.result.now c.in-Ok.ensures.place within
    c.index-selector.ensures in
    let shut = ap (λ (r : SelectorRow). r.gate.shut) row ∙ sym c.if-is_shut.ensures in
    unchanged_as p _ _
    (c.in-Ok.ensures.through _
    ∙ rw shut refl)

pub returns : goal.returns
returns c =
    let p = c.args.self.now in
    let s = c.args.sel.0 in
    let x = c.index-selector.result.now in
    let selected = c.args.selected in
    let within : c.args.sel.0 < length p.selectors.items = omega (arith, p.selectors.ok.0, c.in-Ok.ensures.made) in
    let row = read_row p s c.in-Ok.place x c.in-Ok.ensures.place within c.index-selector.ensures in
    let opened = ap (λ (r : SelectorRow). r.gate.shut) row ∙ sym c.if-is_shut.ensures in
    let names : List KeyId → Replied = λ ks. unchanged (state_of p) (names_or_none ks) in
    let of_row = ap
    (λ (r : SelectorRow). names
    (map (key_id r.keys) (filter (λ i. is_listed (r.keys i) selected) (below r.keys_high)))) row in
    let read = ap (λ ys. listed_below (places key_row no_key ys) selected (length ys)) c.deref.ensures.value in
    let told = c.names_or_none.ensures ∙ ap names_or_none (c.in_ok-names.ensures ∙ read) in
    unchanged_as p _ _
    (c.in-Ok.ensures.through _
    ∙ (rw opened (of_row ∙ ap (unchanged (state_of p)) (sym told))))
