use Rattle.std.proofs.Common.{ℕ, ◌∙◌, subst}
use Rattle.nio_words.proofs.Bits.{none_has, kept_all}
use Rattle.nio_words.specs.Rule.{HasBit}
use Rattle.nio_words.proofs.words.Words.split.Goals as goal

pub returns : goal.returns
returns c = record {
  sees = c.split_off.ensures.sees;
  numbers = c.split_off.ensures.left ∙ kept_all _ c.split_off.ensures.fits;
  empty = λ n has. none_has n.0 (subst (λ (k : ℕ). HasBit k n.0) c.split_off.ensures.given has);
}
