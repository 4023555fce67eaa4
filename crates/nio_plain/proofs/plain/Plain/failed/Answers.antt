use Rattle.std.proofs.Common.{◌<◌, false, None, length, refl, ap, ◌∙◌, arith}
use Rattle.nio_history.specs.State.{put, with_turn, with_begun}
use Rattle.nio_plain.proofs.Replying.{unchanged_without_memory, replied_without_memory}
use Rattle.nio_plain.proofs.Closing.{changed_selector, read_row}
use Rattle.nio_plain.proofs.Telling.{own-none, own-others, own-some}
use Rattle.nio_plain.proofs.Parts.{makes-selecting}
use Rattle.nio_plain.specs.PlainState.{SelectorRow, state_of}
use Rattle.nio_plain.specs.ScriptState.{ScriptState}
use Rattle.nio_plain.specs.Seq.Selections.{failed_call, left_selection}
use Rattle.nio_plain.proofs.plain.Plain.failed.Goals as goal

pub returns-in-Err : goal.returns-in-Err
unfolding failed_call
returns-in-Err c =
    unchanged_without_memory c.args.self.now _ _ (c.in-Err.ensures.refused _)

pub returns-in_default : goal.returns-in_default
unfolding failed_call
returns-in_default c =
    let p = c.args.self.now in
    let s = c.args.sel.0 in
    let x = c.index.result.now in
    let within : c.args.sel.0 < length p.selectors.items = omega (arith, p.selectors.ok.0, c.in-Ok.ensures.made) in
    let row = read_row p s c.in-Ok.place x c.in-Ok.ensures.place within c.index.ensures in
    unchanged_without_memory p _ _
    (c.in-Ok.ensures.through _ ∙ ap (left_selection (state_of p) s) (own-none p c.args.me s x row c.in_default.is))

pub returns-then-selecting-me : goal.returns-then-selecting-me
unfolding failed_call
returns-then-selecting-me c =
    let p = c.args.self.now in
    let s = c.args.sel.0 in
    let x = c.index.result.now in
    let within : c.args.sel.0 < length p.selectors.items = omega (arith, p.selectors.ok.0, c.in-Ok.ensures.made) in
    let row = read_row p s c.in-Ok.place x c.in-Ok.ensures.place within c.index.ensures in
    unchanged_without_memory p _ _
    (c.in-Ok.ensures.through _
    ∙ ap (left_selection (state_of p) s)
    (own-others p c.args.me s x row c.in-Some.selecting c.in-Some.is c.if-selecting-me.true))

pub returns : goal.returns
unfolding failed_call
returns c =
    let p = c.args.self.now in
    let s = c.args.sel.0 in
    let x = c.index.result.now in
    let within : c.args.sel.0 < length p.selectors.items = omega (arith, p.selectors.ok.0, c.in-Ok.ensures.made) in
    let row = read_row p s c.in-Ok.place x c.in-Ok.ensures.place within c.index.ensures in
    let leaves : SelectorRow → SelectorRow = λ r. record r { turn = None; selection = None } in
    let leaves' : ScriptState
    → ScriptState = λ m. record m {
      shared = with_begun (with_turn m.shared s None) s false;
      selection = put m.selection s None;
    } in
    replied_without_memory p _ _ _ _
    (c.in-Ok.ensures.through _
    ∙ ap (left_selection (state_of p) s)
    (own-some p c.args.me s x row c.in-Some.selecting c.in-Some.is c.if-selecting-me.false))
    refl
    (changed_selector p s c.in-Ok.place c.index_mut.result.now _ leaves leaves' (makes-selecting _ _ _ _ _ s None None)
    c.in-Ok.ensures.place within c.index_mut.ensures.value refl)
    (record { limits = refl; rules = refl })
