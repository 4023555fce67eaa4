use Rattle.std.proofs.Common.{◌≡◌, ℕ, ◌^◌, ◌<◌, sym, ap, ◌∙◌, subst, arith}
use Rattle.std.specs.Prelude.{bit_and}
use Rattle.std.specs.Int.{bit_not, w64}
use Rattle.nio_history.specs.Histories.{IsLegal}
use Rattle.nio_words.proofs.Bits.{kept_has, kept_not}
use Rattle.nio_words.proofs.Places.{limits_inside}
use Rattle.nio_words.proofs.Splitting.{splits}
use Rattle.nio_words.specs.Rule.{HasBit}
use Rattle.nio_words.proofs.words.Words.split_off.Goals as goal

pub split_seat-seat-requires : goal.split_seat-seat-requires
split_seat-seat-requires g c =
    let w = c.args.self.now in
    let p = c.args.p.now in
    let v = p.seat.me.0 in
    let taken : g.taken ≡ c.args.numbers = c.requires.0 in
    let small : g.taken < 2 ^ 64 = omega arith in (
      c.requires.1.0.table,
      omega (arith, w.sized, limits_inside w.limits),
      rw w.key (splits w.limits p.seat.id v (bit_and v.numbers (bit_not w64 g.taken)) g.taken p.unspent
          (λ n has. kept_has v.numbers (bit_not w64 g.taken) n has)
          (λ n has. c.requires.1.1 n (subst (λ (k : ℕ). HasBit k n) taken has))
          (λ n has has'. kept_not v.numbers g.taken n small has has')),
    )

pub returns-clause-sees : goal.returns-clause-sees
returns-clause-sees g c =
    let w = c.args.self.now in
    let pass = c.requires.1.0 in
    let split = c.split_seat-seat.ensures in
    record {
      pass = record {
        table = split.0 ∙ pass.table;
        limits = ap (λ m. m.0.limits) split.2 ∙ pass.limits;
        legal = subst (IsLegal w.limits) (sym (ap (λ m. m.0.seen) split.2)) pass.legal;
        callers = λ n has. pass.callers n
            (kept_has c.args.p.now.seat.me.0.numbers (bit_not w64 g.taken) n.0
            (subst (λ (k : ℕ). HasBit k n.0) (ap (λ m. m.0.numbers) split.2) has));
      };
      given_pass = record {
        table = split.3 ∙ pass.table;
        limits = ap (λ m. m.0.limits) split.4 ∙ pass.limits;
        legal = subst (IsLegal w.limits) (sym (ap (λ m. m.0.seen) split.4)) pass.legal;
        callers = λ n has. pass.callers n
            (c.requires.1.1 n.0 (subst (λ (k : ℕ). HasBit k n.0) (ap (λ m. m.0.numbers) split.4 ∙ c.requires.0) has));
      };
      sight = ap (λ m. m.0.seen) split.2;
      given_sight = ap (λ m. m.0.seen) split.4;
    }
