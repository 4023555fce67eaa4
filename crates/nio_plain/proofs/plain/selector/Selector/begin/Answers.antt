use Rattle.std.proofs.Common.{◌≡◌, Some, length, ap, ◌∙◌, arith}
use Rattle.nio_plain.specs.PlainState.{places, key_row, no_key, SelectorRow, selector_row, swept, looked_below}
use Rattle.nio_plain.proofs.plain.selector.Selector.begin.Goals as goal

pub returns-clause-left : goal.returns-clause-left
returns-clause-left c =
    let self = c.args.self.now in
    let keys = (selector_row self).keys in
    let bound : c.len-bound.result ≡ length self.keys.items = omega (arith, self.keys.ok.0) in
    let looked = c.in_ok-looked.ensures.looked
    ∙ ap (λ xs. looked_below (places key_row no_key xs) (length xs)) c.deref.ensures.value in
    let selecting : SelectorRow → SelectorRow = λ r. record r {
      turn = Some c.args.caller;
      selection = Some
          (record { mode = c.args.mode; bound = c.len-bound.result; looked = c.in_ok-looked.looked.items });
    } in
    ap selecting c.sweep.ensures
    ∙ (λ j. record (selector_row self) {
      turn = Some c.args.caller;
      selection = Some (record { mode = c.args.mode; bound = bound j; looked = looked j });
      keys = swept c.args.rules keys;
    })
