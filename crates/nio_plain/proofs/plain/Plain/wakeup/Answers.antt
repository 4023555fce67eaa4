use Rattle.std.proofs.Common.{◌<◌, true, length, refl, arith}
use Rattle.nio_history.specs.State.{with_gate}
use Rattle.nio_plain.proofs.Replying.{unchanged_without_memory, replied_without_memory}
use Rattle.nio_plain.proofs.Closing.{changed_selector}
use Rattle.nio_plain.proofs.Parts.{makes-gate}
use Rattle.nio_plain.specs.PlainState.{SelectorRow}
use Rattle.nio_plain.specs.ScriptState.{ScriptState, with_shared}
use Rattle.nio_plain.specs.Seq.Wakeups.{wakeup_call}
use Rattle.nio_plain.proofs.plain.Plain.wakeup.Goals as goal

pub returns-in-Err : goal.returns-in-Err
unfolding wakeup_call
returns-in-Err c =
    unchanged_without_memory c.args.self.now _ _ (c.in-Err.ensures.refused _)

pub returns-in-Ok : goal.returns-in-Ok
unfolding wakeup_call
returns-in-Ok c =
    let p = c.args.self.now in
    let s = c.args.sel.0 in
    let within : c.args.sel.0 < length p.selectors.items = omega (arith, p.selectors.ok.0, c.in-Ok.ensures.made) in
    let wakes : SelectorRow → SelectorRow = λ r. record r { gate = record r.gate { woken = true } } in
    let wakes' : ScriptState
    → ScriptState = λ st. with_shared st (with_gate st.shared s (record (st.shared.gate s) { woken = true })) in
    replied_without_memory p _ _ _ _
    (c.in-Ok.ensures.through _)
    refl
    (changed_selector p s c.in-Ok.place c.index_mut.result.now _ wakes wakes'
    (makes-gate _ _ _ _ _ s (λ g. record g { woken = true })) c.in-Ok.ensures.place within c.index_mut.ensures.value
    refl)
    (record { limits = refl; rules = refl })
