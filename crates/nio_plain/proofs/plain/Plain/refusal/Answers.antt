use Rattle.std.proofs.Common.{◌≡◌, ◌==◌, ℕ, ◌<◌, ◌≤◌, true, false, bit_and, refl, sym, ap, ◌∙◌, length, arith}
use Rattle.std.proofs.lemmas.Bool.{eq-eqb, ne_eqb, true≢false}
use Rattle.nio_base.specs.Kind.{valid_operations}
use Rattle.nio_plain.proofs.Replying.{selector_made-below, selector_made-past}
use Rattle.nio_plain.proofs.Registering.{register-no_selector, register-no_channel, register-illegal_ops}
use Rattle.nio_plain.proofs.Registering.{register-closed, register-blocking, register-passed}
use Rattle.nio_plain.specs.PlainState.{state_of, channel_row}
use Rattle.nio_plain.proofs.plain.Plain.refusal.Goals as goal

pub returns-then-sel-len-clause-refused : goal.returns-then-sel-len-clause-refused
returns-then-sel-len-clause-refused c =
    let p = c.args.self.now in
    let past : length p.selectors.items ≤ c.args.sel.0 = omega (arith, p.selectors.ok.0) in
    λ note. register-no_selector p.limits (state_of p) c.args.sel c.args.chan c.args.ops note
    (selector_made-past p.selectors.items c.args.sel.0 past)

pub returns-in-Err-clause-refused : goal.returns-in-Err-clause-refused
returns-in-Err-clause-refused c =
    let p = c.args.self.now in
    let within : c.args.sel.0 < length p.selectors.items = omega (arith, p.selectors.ok.0) in
    λ note. register-no_channel p.limits (state_of p) c.args.sel c.args.chan c.args.ops note
    (selector_made-below p.selectors.items c.args.sel.0 within) _ c.in-Err.ensures.refused

is_valid : (ops v w : ℕ) → v ≡ w → bit_and ops v ≡ ops → (bit_and ops w == ops) ≡ true
is_valid ops v w e h = eq-eqb (bit_and ops w) ops (ap (bit_and ops) (sym e) ∙ h)

never_valid : (ops v w : ℕ) → v ≡ w → (bit_and ops v ≡ ops → ⊥) → (bit_and ops w == ops) ≡ false
never_valid ops v w e h = ne_eqb (bit_and ops w) ops (λ k. h (ap (bit_and ops) e ∙ k))

pub returns-then-not-within-clause-refused : goal.returns-then-not-within-clause-refused
returns-then-not-within-clause-refused c =
    let p = c.args.self.now in
    let in_selectors : c.args.sel.0 < length p.selectors.items = omega (arith, p.selectors.ok.0) in
    let x = c.in-Ok.channel in
    let made = selector_made-below p.selectors.items c.args.sel.0 in_selectors in
    let illegal = never_valid c.args.ops c.valid_ops.result (valid_operations x.kind) c.valid_ops.ensures
    (λ k. true≢false (sym (c.within.ensures.1 k) ∙ c.if-not-within.true)) in
    λ note. register-illegal_ops p.limits (state_of p) c.args.sel c.args.chan c.args.ops note made
    c.in-Ok.ensures.through (channel_row x) c.in-Ok.ensures.row illegal

pub returns-then-not-is_open-clause-refused : goal.returns-then-not-is_open-clause-refused
returns-then-not-is_open-clause-refused c =
    let p = c.args.self.now in
    let in_selectors : c.args.sel.0 < length p.selectors.items = omega (arith, p.selectors.ok.0) in
    let x = c.in-Ok.channel in
    let made = selector_made-below p.selectors.items c.args.sel.0 in_selectors in
    let valid = is_valid c.args.ops c.valid_ops.result (valid_operations x.kind) c.valid_ops.ensures
    (c.within.ensures.0 c.if-not-within.false) in
    λ note. register-closed p.limits (state_of p) c.args.sel c.args.chan c.args.ops note made
    c.in-Ok.ensures.through (channel_row x) c.in-Ok.ensures.row valid
    (sym c.is_open.ensures ∙ c.if-not-is_open.true)

pub returns-then-channel-clause-refused : goal.returns-then-channel-clause-refused
returns-then-channel-clause-refused c =
    let p = c.args.self.now in
    let in_selectors : c.args.sel.0 < length p.selectors.items = omega (arith, p.selectors.ok.0) in
    let x = c.in-Ok.channel in
    let made = selector_made-below p.selectors.items c.args.sel.0 in_selectors in
    let valid = is_valid c.args.ops c.valid_ops.result (valid_operations x.kind) c.valid_ops.ensures
    (c.within.ensures.0 c.if-not-within.false) in
    λ note. register-blocking p.limits (state_of p) c.args.sel c.args.chan c.args.ops note made
    c.in-Ok.ensures.through (channel_row x) c.in-Ok.ensures.row valid
    (sym c.is_open.ensures ∙ c.if-not-is_open.false) c.if-channel.true

pub returns-clause-passed : goal.returns-clause-passed
returns-clause-passed c =
    let p = c.args.self.now in
    let in_selectors : c.args.sel.0 < length p.selectors.items = omega (arith, p.selectors.ok.0) in
    let x = c.in-Ok.channel in
    let made = selector_made-below p.selectors.items c.args.sel.0 in_selectors in
    let valid = is_valid c.args.ops c.valid_ops.result (valid_operations x.kind) c.valid_ops.ensures
    (c.within.ensures.0 c.if-not-within.false) in
    λ note. register-passed p.limits (state_of p) c.args.sel c.args.chan c.args.ops note made
    c.in-Ok.ensures.through (channel_row x) c.in-Ok.ensures.row valid _
    (sym c.is_open.ensures ∙ c.if-not-is_open.false) c.if-channel.false refl
