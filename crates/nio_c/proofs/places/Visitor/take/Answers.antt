use Rattle.std.proofs.Common.{◌≡◌, ◌<◌, ◌∙◌, ◌==◌, ◌∷◌, Bool, sym, subst, ap, eq-eqb, ℕ, List, Option, Some}
use Rattle.std.specs.Prelude.{MatchBool}
use prog.Atomic.{either}
use Rattle.std.specs.Arc.{arc_value}
use Rattle.atomic_table.specs.Table.{Allows, Me, rest}
use Rattle.nio_words.specs.Passes.{limits_of}
use Rattle.nio_c.proofs.Visiting.{may_take}
use Rattle.nio_caller.specs.Callers.{Acting}
use Rattle.nio_c.specs.Places.{VisitorView}
use Rattle.nio_c.specs.Visits.{AreKept, Takes, with_visit}
use Rattle.nio_c.specs.declared.visits.Visit.TheVariants as visit
use Rattle.nio_c.specs.declared.visits.Visits.{Visits}
use Rattle.nio_c.proofs.places.Visitor.take.Goals as goal

pub compare_exchange-requires : goal.compare_exchange-requires
compare_exchange-requires c =
    let seat = c.self.inside.seat in
    let below = subst (λ (v : VisitorView). c.args.place < (limits_of v.table).callers) (sym c.self.view_is) c.requires.inside in
    subst (λ p. (seat.table_id ≡ p.shared.table_id) × (c.args.place < p.shared.table_id.words)
    × Allows (AreKept p.shared.key) p.shared.table_id.slots seat.id seat.me c.args.place
    (λ n. either (n == 1) 2 n) (Takes c.args.place seat.me))
    (sym c.deref.ensures) (
      c.self.invariant.0,
      subst (λ (n : ℕ). c.args.place < n) (sym c.self.invariant.3) below,
      may_take (arc_value c.self.inside.places).shared.key (arc_value c.self.inside.places).shared.table_id.slots seat.id c.args.place seat.me
          (subst (λ (n : ℕ). c.args.place < n) (sym c.self.invariant.4) below),
    )

pub exchange-requires : goal.exchange-requires
exchange-requires c =
    let found = c.compare_exchange.result in
    let after = c.compare_exchange.new.seat.me in
    let before = c.self.inside.seat.me in
    let took = subst (λ (b : Bool). MatchBool b
    ((caller : Acting) × (caller.table ≡ before.0.table)
    × (after ≡ (with_visit (visit.Takes c.args.place caller) before.0, (c.args.place, Some caller) ∷ before.1)))
    (after ≡ (with_visit (visit.FindsNone c.args.place) before.0, before.1)))
    (eq-eqb found 1 c.if-compare_exchange-ne-LEFT.false) c.compare_exchange.ensures.2 in
    let carries : after.1 ≡ (c.args.place, Some took.0) ∷ before.1 =
    ap (λ (me : Me (Option Acting) Visits). me.1) took.2 in (
      c.compare_exchange.ensures.0 ∙ (c.self.invariant.0 ∙ ap (λ p. p.shared.table_id) (sym c.deref.ensures)),
      (Some took.0, carries ∙ ap (λ (xs : List (ℕ × Option Acting)). (c.args.place, Some took.0) ∷ rest xs) (sym carries)),
    )
