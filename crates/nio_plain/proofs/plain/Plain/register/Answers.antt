use Rattle.std.proofs.Common.{ℕ, ◌<◌, refl, sym, ap, ◌∙◌, length, arith}
use Rattle.nio_plain.proofs.Replying.{failed_as, state-same_selector, same_row}
use Rattle.nio_plain.proofs.Registering.{given-unwrapped}
use Rattle.nio_plain.proofs.RegisteringAt.{answers-cancelled, answers-shut, answers-again, answers_new-shut}
use Rattle.nio_plain.proofs.RegisteringAt.{answers-full, answers-new}
use Rattle.nio_plain.specs.PlainState.{KeyRow, key_row, selector_row, with_key_at, with_key_added, new_key_row}
use Rattle.nio_plain.specs.Seq.Registering.{given_or_none}
use Rattle.nio_plain.proofs.plain.Plain.register.Goals as goal

pub returns-then-key : goal.returns-then-key
returns-then-key c =
    let p = c.args.self.now in
    let x = c.index-selector.result.now in
    let within : c.args.sel.0 < length p.selectors.items = omega (arith, p.selectors.ok.0, c.in_default.ensures.made) in
    let in_keys : c.in-Some-key_of.id.index < length x.keys.items = omega
    (arith, x.keys.ok.0, c.in-Some-key_of.ensures.made) in
    answers-cancelled p c.args.sel c.args.chan c.args.ops c.args.note x within c.index-selector.ensures
    (c.in_default.ensures.passed c.args.note) c.in-Some-key_of.id c.index-key.result.now
    c.in-Some-key_of.ensures.key in_keys c.index-key.ensures c.if-key.true

pub returns-then-is_shut : goal.returns-then-is_shut
returns-then-is_shut c =
    let p = c.args.self.now in
    let x = c.index-selector.result.now in
    let within : c.args.sel.0 < length p.selectors.items = omega (arith, p.selectors.ok.0, c.in_default.ensures.made) in
    let in_keys : c.in-Some-key_of.id.index < length x.keys.items = omega
    (arith, x.keys.ok.0, c.in-Some-key_of.ensures.made) in
    answers-shut p c.args.sel c.args.chan c.args.ops c.args.note x within c.index-selector.ensures
    (c.in_default.ensures.passed c.args.note) c.in-Some-key_of.id c.index-key.result.now
    c.in-Some-key_of.ensures.key in_keys c.index-key.ensures c.if-key.false (sym c.if-is_shut.ensures)

pub returns-else-is_shut : goal.returns-else-is_shut
returns-else-is_shut c =
    let p = c.args.self.now in
    let x = c.index-selector.result.now in
    let id = c.in-Some-key_of.id in
    let within : c.args.sel.0 < length p.selectors.items = omega (arith, p.selectors.ok.0, c.in_default.ensures.made) in
    let in_keys : id.index < length x.keys.items = omega (arith, x.keys.ok.0, c.in-Some-key_of.ensures.made) in
    let same = same_row p c.args.sel.0 c.index_mut.result.now x within c.index_mut.ensures.value
    c.index-selector.ensures in
    let k = c.index-key.result.now in
    let new : ℕ → KeyRow = λ n. record (key_row k) { interest = c.args.ops; note = n } in
    let done = c.put_key.ensures
    ∙ (ap (λ r. with_key_at r id.index (new c.given_or_kept.result)) same
    ∙ ap (λ n. with_key_at (selector_row x) id.index (new n)) c.given_or_kept.ensures) in
    answers-again p c.args.sel c.args.chan c.args.ops c.args.note x within c.index-selector.ensures
    (c.in_default.ensures.passed c.args.note) id c.index-key.result.now c.in-Some-key_of.ensures.key in_keys
    c.index-key.ensures _ c.put_key.new.self c.if-key.false (sym c.if-is_shut.ensures) done refl
    (record { limits = refl; rules = refl })

pub returns-then-is_shut-2 : goal.returns-then-is_shut-2
returns-then-is_shut-2 c =
    let p = c.args.self.now in
    let x = c.index-selector.result.now in
    let within : c.args.sel.0 < length p.selectors.items = omega (arith, p.selectors.ok.0, c.in_default.ensures.made) in
    answers_new-shut p c.args.sel c.args.chan c.args.ops c.args.note x within c.index-selector.ensures
    (c.in_default.ensures.passed c.args.note) c.in-None.ensures.key (sym c.if-is_shut-2.ensures)

pub returns-in_default-next_key : goal.returns-in_default-next_key
returns-in_default-next_key c =
    let p = c.args.self.now in
    let x = c.index-selector.result.now in
    let within : c.args.sel.0 < length p.selectors.items = omega (arith, p.selectors.ok.0, c.in_default.ensures.made) in
    answers-full p c.args.sel c.args.chan c.args.ops c.args.note x within c.index-selector.ensures
    (c.in_default.ensures.passed c.args.note) c.in-None.ensures.key
    (sym c.if-is_shut-2.ensures) c.in_default-next_key.ensures.next

pub returns-in_err-add_key-in-None : goal.returns-in_err-add_key-in-None
returns-in_err-add_key-in-None c =
    let p = c.args.self.now in
    let within : c.args.sel.0 < length p.selectors.items = omega (arith, p.selectors.ok.0, c.in_default.ensures.made) in
    failed_as _ _ _ _ c.from_residual.ensures.0
    (state-same_selector p c.args.sel.0 c.index_mut-in-None.result.now c.add_key.new.self within
    c.index_mut-in-None.ensures.value c.in_err-add_key-in-None.ensures.memory)
    (record { limits = refl; rules = refl })

pub returns-in_ok-add_key-in-None : goal.returns-in_ok-add_key-in-None
returns-in_ok-add_key-in-None c =
    let p = c.args.self.now in
    let x = c.index-selector.result.now in
    let chan = c.args.chan.number.0 in
    let id = c.in-Some-next_key.id in
    let within : c.args.sel.0 < length p.selectors.items = omega (arith, p.selectors.ok.0, c.in_default.ensures.made) in
    let y = c.index_mut-in-None.result.now in
    let same = same_row p c.args.sel.0 y x within c.index_mut-in-None.ensures.value c.index-selector.ensures in
    let as_new = ap (λ k. with_key_added (selector_row y) k.stage.chan.0 id k) c.new-key.ensures in
    let att = c.unwrap_or.ensures ∙ given-unwrapped c.args.note in
    let enrolled = ap (λ n. with_key_added (selector_row y) chan id (new_key_row chan id.serial c.args.ops n)) att in
    let added = c.in_ok-add_key-in-None.ensures.ok
    ∙ ((as_new ∙ enrolled)
    ∙ ap (λ r. with_key_added r chan id (new_key_row chan id.serial c.args.ops (given_or_none c.args.note)))
    same) in
    answers-new p c.args.sel c.args.chan c.args.ops c.args.note x within c.index-selector.ensures
    (c.in_default.ensures.passed c.args.note) c.in-None.ensures.key _ c.add_key.new.self id
    (sym c.if-is_shut-2.ensures) c.in-Some-next_key.ensures.next added refl
    (record { limits = refl; rules = refl })
