use Rattle.std.proofs.lemmas.Bool.{ne_eqb}
use Rattle.std.proofs.Common.{◌≡◌, Bool, true, false, ap, sym, ◌∙◌, Some, None, eqb, eq-eqb}
use Rattle.nio_future.specs.Desk.{tickets_out}
use Rattle.nio_future.proofs.StartLemmas.{or_full, refusal-answer}
use Rattle.nio_future.proofs.SettleLemmas.{desk_of}
use Rattle.nio_future.proofs.desk.Desk.start_refusal.Goals as goal

pub returns-in-Some : goal.returns-in-Some
returns-in-Some c =
    let i = c.self.inside in
    refusal-answer (desk_of i.core i.out i.source.id i.waiting) _ c.args.chan c.args.kind (Some c.in-Some.refused)
    c.self.invariant c.self.view_is c.in-Some.ensures

pub returns-then-in_flight-limit : goal.returns-then-in_flight-limit
returns-then-in_flight-limit c =
    let i = c.self.inside in
    let d = desk_of i.core i.out i.source.id i.waiting in
    let full : eqb (tickets_out d) d.out.limit ≡ true =
    eq-eqb (tickets_out d) d.out.limit (sym c.in_flight.ensures ∙ c.if-in_flight-limit.true ∙ c.limit.ensures) in
    ap (λ (b : Bool). or_full b None) (sym full)
    ∙ refusal-answer d _ c.args.chan c.args.kind None c.self.invariant c.self.view_is c.in_default.ensures

pub returns : goal.returns
returns c =
    let i = c.self.inside in
    let d = desk_of i.core i.out i.source.id i.waiting in
    let room : eqb (tickets_out d) d.out.limit ≡ false =
    ne_eqb (tickets_out d) d.out.limit
    (λ e. c.if-in_flight-limit.false (c.in_flight.ensures ∙ e ∙ sym c.limit.ensures)) in
    ap (λ (b : Bool). or_full b None) (sym room)
    ∙ refusal-answer d _ c.args.chan c.args.kind None c.self.invariant c.self.view_is c.in_default.ensures
