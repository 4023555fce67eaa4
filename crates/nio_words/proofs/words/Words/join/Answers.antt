use Rattle.std.proofs.Common.{ap, ◌∙◌, subst, arith}
use Rattle.nio_words.proofs.Joining.{joins, recalls_allowed, joins_clause}
use Rattle.nio_words.proofs.Places.{limits_inside}
use Rattle.nio_words.specs.Telling.{Recalls}
use Rattle.nio_words.proofs.words.Words.join.Goals as goal

pub join_seat-requires : goal.join_seat-requires
join_seat-requires c =
    let w = c.args.self.now in
    let p = c.args.p.now in
    let other = c.args.other in (
      c.requires.pass.table,
      c.requires.other.table,
      other.carries_nothing,
      omega (arith, w.sized, limits_inside w.limits),
      joins _ p.seat.id other.seat.id p.seat.me.0 other.seat.me.0 p.unspent other.unspent,
    )

pub perform-requires-clause-rule : goal.perform-requires-clause-rule
perform-requires-clause-rule c =
    recalls_allowed _ _ _ c.join_seat.new.seat.me.0 c.join_seat.new.seat.me.1 0
    (ap (λ m. m.0.spent) c.join_seat.ensures.2 ∙ c.args.p.now.unspent)

pub returns : goal.returns
returns c =
    joins_clause c.args.self.now c.args.p.now c.args.other _ c.requires.pass c.requires.other
    (c.perform.ensures.seat.0 ∙ c.join_seat.ensures.0)
    (subst (λ m. Recalls m.0 c.perform.new.seat.me.0) c.join_seat.ensures.2 c.perform.ensures.told.1)
