use Rattle.std.proofs.Common.{◌≡◌, set, replicate, ap, sym, ◌∙◌, subst, rules}
use Rattle.nio_history.proofs.Legal.{legal_empty}
use Rattle.nio_history.specs.Histories.{IsLegal}
use Rattle.nio_words.proofs.Bits.{none_has}
use Rattle.nio_words.proofs.Starts.{starts}
use Rattle.nio_words.specs.Encodings.{limits_word}
use Rattle.nio_words.specs.Places.{word_count}
use Rattle.nio_words.specs.Rule.{HasBit}
use Rattle.nio_words.proofs.words.Words.make.Goals as goal

pub of_words-requires : goal.of_words-requires
of_words-requires c =
    let zeros : c.in_ok-words.words.items ≡ replicate c.word_count.result 0 =
    c.in_ok-words.ensures.items_if_clones_equal (search rules) in
    let many : c.word_count.result ≡ word_count c.args.limits = c.word_count.ensures in
    let limits : c.limits_word.result ≡ limits_word c.args.limits = c.limits_word.ensures in
    let words : c.as_slice.result.now ≡ set c.in_ok-words.words.items 1 c.limits_word.result =
    c.as_slice.ensures.value in
    starts c.args.limits c.as_slice.result.now c.requires
    (words ∙ (ap (λ ws. set ws 1 c.limits_word.result) (zeros ∙ ap (λ n. replicate n 0) many)
    ∙ ap (set (replicate (word_count c.args.limits) 0) 1) limits))

pub returns-clause-pass : goal.returns-clause-pass
returns-clause-pass c =
    let me = c.in_ok-table.ensures.4 in
    record {
      pass = record {
        table = c.in_ok-table.ensures.2;
        limits = ap (λ m. m.0.limits) me;
        legal = subst (IsLegal c.args.limits) (sym (ap (λ m. m.0.seen) me)) (legal_empty c.args.limits);
        callers = λ n has. absurd (none_has n.0 (subst (λ k. HasBit k n.0) (ap (λ m. m.0.numbers) me) has));
      };
      unseen = ap (λ m. m.0.seen) me;
      empty = λ n has. none_has n.0 (subst (λ k. HasBit k n.0) (ap (λ m. m.0.numbers) me) has);
      only = ap (λ m. m.0.alone) me;
    }
