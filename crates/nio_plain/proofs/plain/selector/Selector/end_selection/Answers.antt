use Rattle.std.proofs.Common.{◌≡◌, ℕ, sym, ap, ◌∙◌, false, get_or}
use Rattle.nio_plain.proofs.Telling.{if_some}
use Rattle.nio_plain.specs.PlainState.{KeyRow, SelectorRow, caller_of, marked_keys, selection_of, selector_row, swept}
use Rattle.nio_plain.specs.PlainState.{swept_at_end, swept_looked}
use Rattle.nio_plain.specs.declared.rules.Rules.{Rules}
use Rattle.nio_plain.proofs.plain.selector.Selector.end_selection.Goals as goal
use Rattle.nio_plain.proofs.plain.selector.Selector.end_selection.Goals.{in-First, in-Now}

pub returns-after-rules : goal.returns-after-rules
returns-after-rules c =
    let self = c.args.self.now in
    let rules = c.args.rules in
    let told : ℕ → ℕ = λ i. get_or c.args.told.now i 0 in
    let was = sym c.take.ensures.value ∙ c.in-Some.is in
    let none = c.take.ensures.after in
    let looked = c.in-Some.selecting.looked.items in
    let looked_is = c.deref.ensures.value in
    let marked = selector_row c.mark.new.self in
    let with_keys : (ℕ → KeyRow) → SelectorRow = λ keys. record marked { keys = keys } in
    let swept_is : selector_row c.match-rules.self ≡ with_keys (swept_at_end rules marked.keys looked) =
    elim c.match-rules.branch [
      | in-First w ↦ ap selector_row w.self-is ∙ (w.sweep_looked.ensures
          ∙ ap with_keys (ap (swept_looked rules marked.keys) w.deref-in-First.ensures.value
          ∙ (ap (λ (r : Rules). swept_looked r marked.keys looked) w.in-First.is
          ∙ sym (ap (λ (r : Rules). swept_at_end r marked.keys looked) w.in-First.is))))
      | in-Now w ↦ ap selector_row w.self-is ∙ (w.sweep.ensures
          ∙ ap with_keys (ap (λ (r : Rules). swept r marked.keys) w.in-Now.is
          ∙ sym (ap (λ (r : Rules). swept_at_end r marked.keys looked) w.in-Now.is)))
    ] in
    let sweeps : SelectorRow → SelectorRow = λ r. record r { keys = swept_at_end rules r.keys looked } in
    let sleeps : SelectorRow → SelectorRow = λ r. record r { gate = record r.gate { woken = false } } in
    if_some _ _ _ was
    (ap sleeps (swept_is ∙ ap sweeps c.mark.ensures.row) ∙ (λ j. record (selector_row self) {
      gate = record (selector_row self).gate { woken = false };
      turn = caller_of (none j);
      selection = selection_of (none j);
      keys = swept_at_end rules (marked_keys (selector_row self).keys (looked_is j) told) looked;
    }))
