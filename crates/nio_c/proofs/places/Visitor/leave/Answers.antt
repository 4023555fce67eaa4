use Rattle.std.proofs.Common.{◌≡◌, ◌<◌, ◌∙◌, ◌∷◌, [], sym, subst, ap, ℕ, List, Option, Some}
use Rattle.std.specs.Arc.{arc_value}
use Rattle.atomic_table.specs.Table.{Allows, Me, rest}
use Rattle.nio_words.specs.Passes.{limits_of}
use Rattle.nio_c.proofs.Visiting.{may_leave}
use Rattle.nio_caller.specs.Callers.{Acting}
use Rattle.nio_c.specs.declared.visits.Visits.{Visits}
use Rattle.nio_words.specs.declared.words.Words.{Words}
use Rattle.nio_c.specs.Places.{HandView, VisitorView}
use Rattle.nio_c.specs.Visits.{AreKept, HasInHand, Leaves}
use Rattle.nio_c.proofs.places.Visitor.leave.Goals as goal

pub store-requires : goal.store-requires
store-requires c =
    let mine = c.self.inside.seat in
    let seat = c.hand.inside.seat in
    let place = c.hand.inside.place in
    let same_places : seat.table_id ≡ mine.table_id = ap (λ (h : HandView). h.visitor.places) c.hand.view_is
    ∙ (c.requires.places.places ∙ ap (λ (v : VisitorView). v.places) (sym c.self.view_is)) in
    let same_table : seat.me.0.table ≡ mine.me.0.table = ap (λ (h : HandView). h.visitor.table) c.hand.view_is
    ∙ (c.requires.places.table ∙ ap (λ (v : VisitorView). v.table) (sym c.self.view_is)) in
    let below = subst (λ (w : Words). place < (limits_of w).callers) same_table c.hand.invariant.2 in
    let now = c.exchange-nobody.new.seat in
    let its_table = c.requires.table ∙ (ap (λ (v : VisitorView). v.table) (sym c.self.view_is) ∙ sym c.self.invariant.1) in
    let same : now.me.0 ≡ seat.me.0 = ap (λ (me : Me (Option Acting) Visits). me.0) c.exchange-nobody.ensures.3 in
    let carries : now.me.1 ≡ (place, Some c.args.caller) ∷ [] =
    ap (λ (me : Me (Option Acting) Visits). me.1) c.exchange-nobody.ensures.3
    ∙ ap (λ (xs : List (ℕ × Option Acting)). (place, Some c.args.caller) ∷ rest xs) c.hand.invariant.0 in
    subst (λ p. (now.table_id ≡ p.shared.table_id) × (place < p.shared.table_id.words)
    × Allows (AreKept p.shared.key) p.shared.table_id.slots now.id now.me place (λ _. 1) (λ _. Leaves place now.me))
    (sym c.deref.ensures) (
      c.exchange-nobody.ensures.0 ∙ (same_places ∙ c.self.invariant.0),
      subst (λ (n : ℕ). place < n) (sym c.self.invariant.3) below,
      may_leave (arc_value c.self.inside.places).shared.key (arc_value c.self.inside.places).shared.table_id.slots now.id place
          now.me c.args.caller (subst (λ (n : ℕ). place < n) (sym c.self.invariant.4) below)
          (subst (λ (v : Visits). HasInHand place v.made) (sym same) c.hand.invariant.1) its_table carries,
    )
