use Rattle.std.proofs.Common.{◌<◌, true, Some, length, refl, sym, ap, ◌∙◌, arith}
use Rattle.nio_history.specs.State.{with_gate, with_closer}
use Rattle.nio_plain.proofs.Replying.{unchanged_without_memory, replied_without_memory}
use Rattle.nio_plain.proofs.Closing.{changed_selector, read_row, not_finished}
use Rattle.nio_plain.proofs.Parts.{then, makes-gate, makes-closer}
use Rattle.nio_plain.specs.PlainState.{SelectorRow, selector_row}
use Rattle.nio_plain.specs.ScriptState.{ScriptState, with_shared}
use Rattle.nio_plain.specs.Seq.Closing.{close_call}
use Rattle.nio_plain.proofs.plain.Plain.close.Goals as goal

pub returns-in-Err : goal.returns-in-Err
unfolding close_call
returns-in-Err c =
    unchanged_without_memory c.args.self.now _ _ (c.in-Err.ensures.refused _)

pub returns-then-is_shut : goal.returns-then-is_shut
unfolding close_call
returns-then-is_shut c =
    let p = c.args.self.now in
    let s = c.args.sel.0 in
    let within : c.args.sel.0 < length p.selectors.items = omega (arith, p.selectors.ok.0, c.in-Ok.ensures.made) in
    let row = read_row p s c.in-Ok.place c.index.result.now c.in-Ok.ensures.place within c.index.ensures in
    let shut = ap (λ (r : SelectorRow). r.gate.shut) row ∙ sym c.if-is_shut.ensures in
    unchanged_without_memory p _ _
    (c.in-Ok.ensures.through _
    ∙ rw shut refl)

pub returns : goal.returns
unfolding close_call
returns c =
    let p = c.args.self.now in
    let s = c.args.sel.0 in
    let x = c.index_mut.result.now in
    let within : c.args.sel.0 < length p.selectors.items = omega (arith, p.selectors.ok.0, c.in-Ok.ensures.made) in
    let row = read_row p s c.in-Ok.place c.index.result.now c.in-Ok.ensures.place within c.index.ensures in
    let row' = read_row p s c.in-Ok.place x c.in-Ok.ensures.place within c.index_mut.ensures.value in
    let opened = ap (λ (r : SelectorRow). r.gate.shut) row ∙ sym c.if-is_shut.ensures in
    let unfinished = not_finished x.closing (ap (λ (r : SelectorRow). r.gate.shut) (sym row') ∙ opened) in
    let shuts : SelectorRow → SelectorRow = λ r. record r { gate = record r.gate { shut = true } } in
    let shuts' : ScriptState
    → ScriptState = λ st. with_shared st (with_gate st.shared s (record (st.shared.gate s) { shut = true })) in
    let closes : SelectorRow → SelectorRow = λ r. record r { closer = Some c.args.me } in
    let closes' : ScriptState → ScriptState = λ st. with_shared st (with_closer st.shared s (Some c.args.me)) in
    let both = then _ _ _ _ _ s shuts closes shuts' closes' (makes-gate _ _ _ _ _ s (λ g. record g { shut = true }))
    (makes-closer _ _ _ _ _ s (Some c.args.me)) in
    replied_without_memory p _ _ _ _
    (c.in-Ok.ensures.through _
    ∙ rw opened refl)
    refl
    (changed_selector p s c.in-Ok.place x _ (λ r. closes (shuts r))
    (λ st. closes' (shuts' st)) both c.in-Ok.ensures.place within c.index_mut.ensures.value
    (λ j. record (selector_row x) {
      gate = record { woken = x.woken; shut = true };
      closer = Some c.args.me;
      entered = unfinished j;
    }))
    (record { limits = refl; rules = refl })
