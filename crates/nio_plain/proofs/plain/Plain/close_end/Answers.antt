use Rattle.std.proofs.Common.{◌<◌, Bool, true, not, ◌||◌, Option, is_some, length, refl, sym, ap, ◌∙◌, arith}
use Rattle.std.proofs.lemmas.Bool.{eq-eqb, ne_eqb, or_right}
use Rattle.std.proofs.lemmas.List.{get_or_default}
use Rattle.nio_history.specs.State.{with_entered}
use Rattle.nio_plain.proofs.Replying.{is_some-caller_of, unchanged_without_memory, replied_without_memory}
use Rattle.nio_plain.proofs.Closing.{changed_selector, read_row, makes-emptied}
use Rattle.nio_plain.proofs.Parts.{then, makes-entered}
use Rattle.nio_plain.specs.PlainState.{SelectorRow, state_of, selector_row, emptied, closer_of, has_finished}
use Rattle.nio_plain.specs.declared.plain.selector.Closing.{Closing}
use Rattle.nio_plain.specs.declared.plain.selector.Selector.{Selector}
use Rattle.nio_plain.specs.ScriptState.{ScriptState, with_shared}
use Rattle.nio_plain.specs.Seq.Closing.{close_end_call, without_keys}
use Rattle.nio_plain.specs.Seq.Selections.{is_caller}
use Rattle.nio_plain.proofs.plain.Plain.close_end.Goals as goal

pub returns-in-Err : goal.returns-in-Err
unfolding close_end_call
returns-in-Err c =
    unchanged_without_memory c.args.self.now _ _ (c.in-Err.ensures.refused _)

pub returns-in_default : goal.returns-in_default
unfolding close_end_call
returns-in_default c =
    let p = c.args.self.now in
    let s = c.args.sel.0 in
    let st = state_of p in
    let within : c.args.sel.0 < length p.selectors.items = omega (arith, p.selectors.ok.0, c.in-Ok.ensures.made) in
    let row = read_row p s c.in-Ok.place c.index-selector.result.now c.in-Ok.ensures.place within
    c.index-selector.ensures in
    let is_other : Option Closing → Bool = λ o. not (is_caller c.args.me (closer_of o)) || has_finished o in
    let other = ap (λ (r : SelectorRow). not (is_caller c.args.me r.closer) || r.entered) row
    ∙ ap is_other c.in_default.is in
    unchanged_without_memory p _ _
    (c.in-Ok.ensures.through _
    ∙ rw other refl)

pub returns-then-closing-me : goal.returns-then-closing-me
unfolding close_end_call
returns-then-closing-me c =
    let p = c.args.self.now in
    let s = c.args.sel.0 in
    let st = state_of p in
    let within : c.args.sel.0 < length p.selectors.items = omega (arith, p.selectors.ok.0, c.in-Ok.ensures.made) in
    let row = read_row p s c.in-Ok.place c.index-selector.result.now c.in-Ok.ensures.place within
    c.index-selector.ensures in
    let is_other : Option Closing → Bool = λ o. not (is_caller c.args.me (closer_of o)) || has_finished o in
    let other = ap (λ (r : SelectorRow). not (is_caller c.args.me r.closer) || r.entered) row
    ∙ (ap is_other c.in-Some.is
    ∙ ap (λ b. not b || c.in-Some.closing.finished)
    (ne_eqb c.in-Some.closing.closer.0 c.args.me.0 c.if-closing-me.true)) in
    unchanged_without_memory p _ _
    (c.in-Ok.ensures.through _
    ∙ rw other refl)

pub returns-then-closing : goal.returns-then-closing
unfolding close_end_call
returns-then-closing c =
    let p = c.args.self.now in
    let s = c.args.sel.0 in
    let st = state_of p in
    let within : c.args.sel.0 < length p.selectors.items = omega (arith, p.selectors.ok.0, c.in-Ok.ensures.made) in
    let row = read_row p s c.in-Ok.place c.index-selector.result.now c.in-Ok.ensures.place within
    c.index-selector.ensures in
    let is_other : Option Closing → Bool = λ o. not (is_caller c.args.me (closer_of o)) || has_finished o in
    let other = ap (λ (r : SelectorRow). not (is_caller c.args.me r.closer) || r.entered) row
    ∙ (ap is_other c.in-Some.is ∙ or_right _ _ c.if-closing.true) in
    unchanged_without_memory p _ _
    (c.in-Ok.ensures.through _
    ∙ rw other refl)

pub returns-then-is_some : goal.returns-then-is_some
unfolding close_end_call
returns-then-is_some c =
    let p = c.args.self.now in
    let s = c.args.sel.0 in
    let st = state_of p in
    let x = c.index-selector.result.now in
    let within : c.args.sel.0 < length p.selectors.items = omega (arith, p.selectors.ok.0, c.in-Ok.ensures.made) in
    let row = read_row p s c.in-Ok.place x c.in-Ok.ensures.place within c.index-selector.ensures in
    let is_other : Option Closing → Bool = λ o. not (is_caller c.args.me (closer_of o)) || has_finished o in
    let own = ap (λ (r : SelectorRow). not (is_caller c.args.me r.closer) || r.entered) row
    ∙ (ap is_other c.in-Some.is
    ∙ (ap (λ b. not b || c.in-Some.closing.finished)
    (eq-eqb c.in-Some.closing.closer.0 c.args.me.0 c.if-closing-me.false) ∙ c.if-closing.false)) in
    let taken = ap (λ (r : SelectorRow). is_some r.turn) row
    ∙ (is_some-caller_of x.selecting ∙ sym c.if-is_some.ensures) in
    unchanged_without_memory p _ _
    (c.in-Ok.ensures.through _
    ∙ (rw (own, taken) refl))

pub returns : goal.returns
unfolding close_end_call
returns c =
    let p = c.args.self.now in
    let s = c.args.sel.0 in
    let st = state_of p in
    let x = c.index-selector.result.now in
    let y = c.index_mut.result.now in
    let within : c.args.sel.0 < length p.selectors.items = omega (arith, p.selectors.ok.0, c.in-Ok.ensures.made) in
    let place_within : c.in-Ok.place < length p.selectors.items = omega (arith, c.in-Ok.ensures.place) in
    let row = read_row p s c.in-Ok.place x c.in-Ok.ensures.place within c.index-selector.ensures in
    let is_other : Option Closing → Bool = λ o. not (is_caller c.args.me (closer_of o)) || has_finished o in
    let own = ap (λ (r : SelectorRow). not (is_caller c.args.me r.closer) || r.entered) row
    ∙ (ap is_other c.in-Some.is
    ∙ (ap (λ b. not b || c.in-Some.closing.finished)
    (eq-eqb c.in-Some.closing.closer.0 c.args.me.0 c.if-closing-me.false) ∙ c.if-closing.false)) in
    let free = ap (λ (r : SelectorRow). is_some r.turn) row
    ∙ (is_some-caller_of x.selecting ∙ sym c.if-is_some.ensures) in
    let one = (c.index_mut.ensures.value ∙ get_or_default p.selectors.items c.in-Ok.place y x place_within)
    ∙ sym c.index-selector.ensures in
    let closing = sym (ap (λ (z : Selector). z.closing) one ∙ c.in-Some.is) in
    let empties : SelectorRow → SelectorRow = λ r. record r { keys = emptied r.keys } in
    let empties' : ScriptState → ScriptState = λ m. with_shared m (without_keys m.shared s) in
    let enters : SelectorRow → SelectorRow = λ r. record r { entered = true } in
    let enters' : ScriptState → ScriptState = λ m. with_shared m (with_entered m.shared s true) in
    let both = then _ _ _ _ _ s empties enters empties' enters' (makes-emptied _ _ _ _ _ s)
    (makes-entered _ _ _ _ _ s true) in
    replied_without_memory p _ _ _ _
    (c.in-Ok.ensures.through _
    ∙ (rw (own, free) refl))
    refl
    (changed_selector p s c.in-Ok.place y c.finish_closing.new.self (λ r. enters (empties r))
    (λ m. enters' (empties' m)) both c.in-Ok.ensures.place within c.index_mut.ensures.value
    (c.finish_closing.ensures ∙ (λ j. record (selector_row y) {
      gate = record { woken = y.woken; shut = is_some (closing j) };
      closer = closer_of (closing j);
      entered = true;
      keys = emptied (selector_row y).keys;
    })))
    (record { limits = refl; rules = refl })
