use Rattle.std.proofs.Common.{◌≡◌, ◌<◌, ◌≤◌, suc, Some, length, sym, ap, ◌∙◌, add-one, arith}
use Rattle.nio_base.specs.declared.numbers.ChanId.{ChanId}
use Rattle.nio_history.specs.State.{unmade_channel}
use Rattle.nio_history.specs.declared.found.Chan.{Chan}
use Rattle.nio_plain.proofs.Piping.{next_end, no_next_end}
use Rattle.nio_plain.proofs.Places.{places_at}
use Rattle.nio_plain.specs.PlainState.{channel_row, limits_of, rules_of, state_of}
use Rattle.nio_plain.specs.Seq.Opening.{channel_after, next_by}
use Rattle.nio_plain.proofs.plain.Plain.next_channel.Goals as goal

pub returns-then-number-self-clause-next : goal.returns-then-number-self-clause-next
returns-then-number-self-clause-next c =
    let p = c.args.self.now in
    let number : c.len-number.result ≡ length p.channels.items = omega (arith, p.channels.ok.0) in
    let room : length p.channels.items < p.limits.channels = omega (arith, number) in
    (λ j. let d : ChanId = record { number = record { 0 = number j }; serial = 0 } in Some d)
    ∙ sym (ap (next_by (rules_of p) (limits_of p) (state_of p).shared c.args.kind)
    (next_end p p.pipes.items p.channels.items room))

pub overflow_add-result : goal.overflow_add-result
overflow_add-result c =
    let p = c.args.self.now in
    let n = c.in_ok-number.number in
    let within : n < length p.channels.items = omega (arith, p.channels.ok.0, c.in_ok-number.ensures.there) in
    let here = places_at channel_row unmade_channel p.channels.items n c.index.result.now within c.index.ensures in
    let serial = ap (λ (x : Chan). x.serial) here in
    omega (arith, serial, c.in_ok-number.ensures.serial)

pub returns-in_err-number-clause-next : goal.returns-in_err-number-clause-next
returns-in_err-number-clause-next c =
    let p = c.args.self.now in
    let full : p.limits.channels ≤ length p.channels.items = omega (arith, p.channels.ok.0) in
    c.from_residual.ensures
    ∙ sym (ap (next_by (rules_of p) (limits_of p) (state_of p).shared c.args.kind)
    (no_next_end p p.pipes.items p.channels.items full)
    ∙ ap (channel_after (state_of p).shared) (sym c.in_err-number.ensures.least))

pub returns-clause-next : goal.returns-clause-next
returns-clause-next c =
    let p = c.args.self.now in
    let n = c.in_ok-number.number in
    let full : p.limits.channels ≤ length p.channels.items = omega (arith, p.channels.ok.0) in
    let within : n < length p.channels.items = omega (arith, p.channels.ok.0, c.in_ok-number.ensures.there) in
    let here = places_at channel_row unmade_channel p.channels.items n c.index.result.now within c.index.ensures in
    let serial = add-one c.index.result.now.serial ∙ ap suc (sym (ap (λ (x : Chan). x.serial) here)) in
    (λ j. let d : ChanId = record { number = record { 0 = n }; serial = serial j } in Some d)
    ∙ sym (ap (next_by (rules_of p) (limits_of p) (state_of p).shared c.args.kind)
    (no_next_end p p.pipes.items p.channels.items full)
    ∙ ap (channel_after (state_of p).shared) (sym c.in_ok-number.ensures.least))
