use Rattle.std.proofs.Common.{◌≡◌, ◌<◌, sym, subst, ℕ, ◌==◌}
use prog.Atomic.{either}
use Rattle.std.specs.Arc.{arc_value}
use Rattle.atomic_table.specs.Table.{Allows}
use Rattle.nio_words.specs.Passes.{limits_of}
use Rattle.nio_c.proofs.Visiting.{may_come}
use Rattle.nio_c.specs.Places.{VisitorView}
use Rattle.nio_c.specs.Visits.{AreKept, Comes}
use Rattle.nio_c.proofs.places.Visitor.come.Goals as goal

pub compare_exchange-requires : goal.compare_exchange-requires
compare_exchange-requires c =
    let seat = c.self.inside.seat in
    let below = subst (λ (v : VisitorView). c.args.place < (limits_of v.table).callers) (sym c.self.view_is) c.requires.inside in
    subst (λ p. (seat.table_id ≡ p.shared.table_id) × (c.args.place < p.shared.table_id.words)
    × Allows (AreKept p.shared.key) p.shared.table_id.slots seat.id seat.me c.args.place (λ n. either (n == 0) 2 n) (Comes c.args.place seat.me))
    (sym c.deref.ensures) (
      c.self.invariant.0,
      subst (λ (n : ℕ). c.args.place < n) (sym c.self.invariant.3) below,
      may_come (arc_value c.self.inside.places).shared.key (arc_value c.self.inside.places).shared.table_id.slots seat.id c.args.place seat.me
          (subst (λ (n : ℕ). c.args.place < n) (sym c.self.invariant.4) below),
    )
