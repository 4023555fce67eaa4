use Rattle.std.proofs.Common.{ℕ, ◌*◌, ◌%◌, ◌^◌, ◌<◌, refl, ap, sym, subst, arith}
use Rattle.nio_base.specs.declared.numbers.CallerNo.{CallerNo}
use Rattle.nio_words.proofs.Beginnings.{same_number}
use Rattle.nio_words.specs.Passes.{numbers_of}
use Rattle.nio_words.proofs.Bits.{only_has, alone_has, less_has, still_has}
use Rattle.nio_words.specs.Rule.{HasBit}
use Rattle.nio_words.proofs.words.Words.hand_over.Goals as goal

pub overflow_shl-number : goal.overflow_shl-number
overflow_shl-number c =
    omega (arith, c.requires.pass.callers c.args.number c.requires.number, c.args.self.now.fit.few_callers)

pub split_off-requires : goal.split_off-requires
split_off-requires c =
    let below : c.args.number.0
    < 64 = omega
    (arith, c.requires.pass.callers c.args.number c.requires.number, c.args.self.now.fit.few_callers) in (
      refl,
      (
        c.requires.pass,
        λ n has. subst (HasBit (numbers_of c.args.p.now))
            (sym (only_has c.args.number.0 n below has)) c.requires.number,
      ),
    )

pub returns : goal.returns
returns c =
    let below : c.args.number.0
    < 64 = omega
    (arith, c.requires.pass.callers c.args.number c.requires.number, c.args.self.now.fit.few_callers) in
    let k = c.args.number.0 in
    let old = numbers_of c.args.p.now in
    let split = c.split_off.ensures in
    record {
      sees = split.sees;
      numbers = λ n. (
        λ has.
            let less = less_has old k n.0 split.fits below (subst (λ (m : ℕ). HasBit m n.0) split.left has) in
            (less.1, λ same. less.0 (ap (λ (x : CallerNo). x.0) same)),
        λ both. subst (λ (m : ℕ). HasBit m n.0) (sym split.left)
            (still_has old k n.0 split.fits below (λ same. both.1 (same_number n c.args.number same)) both.0),
      );
      given_number = λ n. (
        λ has. same_number n c.args.number (only_has k n.0 below (subst (λ (m : ℕ). HasBit m n.0) split.given has)),
        λ same. subst (λ (m : ℕ). HasBit m n.0) (sym split.given)
            (subst (HasBit (1 * 2 ^ k % 2 ^ 64)) (sym (ap (λ (x : CallerNo). x.0) same)) (alone_has k below)),
      );
    }
