use Rattle.std.proofs.Common.{◌≡◌, ◌<◌, ◌∙◌, sym, subst, ap, ℕ}
use Rattle.std.specs.Arc.{arc_value}
use Rattle.atomic_table.specs.Table.{Allows}
use Rattle.nio_words.specs.Passes.{limits_of}
use Rattle.nio_words.specs.declared.words.Words.{Words}
use Rattle.nio_c.proofs.Visiting.{may_free}
use Rattle.nio_c.specs.Places.{HandView, VisitorView}
use Rattle.nio_c.specs.Visits.{AreKept, Frees}
use Rattle.nio_c.proofs.places.Visitor.free.Goals as goal

pub store-requires : goal.store-requires
store-requires c =
    let mine = c.self.inside.seat in
    let seat = c.hand.inside.seat in
    let place = c.hand.inside.place in
    let same_places : seat.table_id ≡ mine.table_id = ap (λ (h : HandView). h.visitor.places) c.hand.view_is
    ∙ (c.requires.places.places ∙ ap (λ (v : VisitorView). v.places) (sym c.self.view_is)) in
    let same_table : seat.me.0.table ≡ mine.me.0.table = ap (λ (h : HandView). h.visitor.table) c.hand.view_is
    ∙ (c.requires.places.table ∙ ap (λ (v : VisitorView). v.table) (sym c.self.view_is)) in
    let below = subst (λ (w : Words). place < (limits_of w).callers) same_table c.hand.invariant.2 in
    subst (λ p. (seat.table_id ≡ p.shared.table_id) × (place < p.shared.table_id.words)
    × Allows (AreKept p.shared.key) p.shared.table_id.slots seat.id seat.me place (λ _. 0) (λ _. Frees place seat.me))
    (sym c.deref.ensures) (
      same_places ∙ c.self.invariant.0,
      subst (λ (n : ℕ). place < n) (sym c.self.invariant.3) below,
      may_free (arc_value c.self.inside.places).shared.key (arc_value c.self.inside.places).shared.table_id.slots seat.id
          place seat.me (subst (λ (n : ℕ). place < n) (sym c.self.invariant.4) below) c.hand.invariant.1 c.hand.invariant.0,
    )
