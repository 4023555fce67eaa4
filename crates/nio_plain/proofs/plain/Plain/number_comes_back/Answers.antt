use Rattle.std.proofs.Common.{not, ◌&&◌, length, sym, ap, ◌∙◌}
use Rattle.std.proofs.lemmas.Bool.{ltb-false}
use Rattle.nio_base.specs.Kind.{is_same_kind}
use Rattle.nio_history.specs.Sets.{can_reopen}
use Rattle.nio_history.specs.State.{unmade_channel}
use Rattle.nio_history.specs.declared.found.Chan.{Chan}
use Rattle.nio_plain.proofs.Places.{places_at, places_past}
use Rattle.nio_plain.specs.PlainState.{channel_row, limits_of, places, state_of}
use Rattle.nio_plain.specs.Seq.Modes.{has_key}
use Rattle.nio_plain.specs.Seq.Opening.{number_comes_back}
use Rattle.nio_plain.specs.declared.rules.Rules.{Rules}
use Rattle.nio_plain.proofs.plain.Plain.number_comes_back.Goals as goal

pub returns-in-None : goal.returns-in-None
returns-in-None c =
    let p = c.args.self.now in
    let n = c.args.number in
    let xs = c.deref.result.now in
    let past = ltb-false n (length xs) (sym c.in-None.ensures.lookup.0) in
    let none = ap (λ ys. places channel_row unmade_channel ys n) (sym c.deref.ensures.value)
    ∙ places_past channel_row unmade_channel xs n past in
    sym (ap (λ (r : Rules). number_comes_back r (limits_of p) (state_of p).shared c.args.kind n) c.in-Now.is
    ∙ ap (λ (x : Chan). can_reopen x && is_same_kind x.kind c.args.kind
    && not (has_key (limits_of p) (state_of p).shared n)) none)

pub returns-then-can_reopen_as : goal.returns-then-can_reopen_as
returns-then-can_reopen_as c =
    let p = c.args.self.now in
    let n = c.args.number in
    let xs = c.deref.result.now in
    let there = ap (λ ys. places channel_row unmade_channel ys n) (sym c.deref.ensures.value)
    ∙ places_at channel_row unmade_channel xs n c.in-Some.channel.now c.in-Some.ensures.lookup.3.0
    c.in-Some.ensures.lookup.1 in
    sym (ap (λ (r : Rules). number_comes_back r (limits_of p) (state_of p).shared c.args.kind n) c.in-Now.is
    ∙ (ap (λ (x : Chan). can_reopen x && is_same_kind x.kind c.args.kind
    && not (has_key (limits_of p) (state_of p).shared n)) there
    ∙ (ap (λ b. b && not (has_key (limits_of p) (state_of p).shared n)) (sym c.if-can_reopen_as.ensures)
    ∙ ap not (sym c.has_key.ensures))))

pub returns-else-can_reopen_as : goal.returns-else-can_reopen_as
returns-else-can_reopen_as c =
    let p = c.args.self.now in
    let n = c.args.number in
    let xs = c.deref.result.now in
    let there = ap (λ ys. places channel_row unmade_channel ys n) (sym c.deref.ensures.value)
    ∙ places_at channel_row unmade_channel xs n c.in-Some.channel.now c.in-Some.ensures.lookup.3.0
    c.in-Some.ensures.lookup.1 in
    sym (ap (λ (r : Rules). number_comes_back r (limits_of p) (state_of p).shared c.args.kind n) c.in-Now.is
    ∙ (ap (λ (x : Chan). can_reopen x && is_same_kind x.kind c.args.kind
    && not (has_key (limits_of p) (state_of p).shared n)) there
    ∙ (ap (λ b. b && not (has_key (limits_of p) (state_of p).shared n)) (sym c.if-can_reopen_as.ensures)
    ∙ (c.if-can_reopen_as.ensures ∙ sym c.can_reopen_as.ensures))))
