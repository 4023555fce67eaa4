use Rattle.std.proofs.Common.{ℕ, ◌≡◌, ◌+◌, ◌*◌, sym, ◌∙◌, ap, arith}
use Rattle.nio_audit.proofs.BitWords.{with_bit, without_bit, bits_below-none}
use Rattle.nio_audit.specs.TableWords.{grid}
use Rattle.nio_audit.proofs.state.StateTables.touched_word.Goals as goal
use Rattle.nio_audit.proofs.state.StateTables.touched_word.Goals.{then-get, else-get}
use Rattle.nio_history.specs.Answers.{bits_below}

pub loop-bit-init : goal.loop-bit-init
loop-bit-init c = sym (bits_below-none (λ (b : ℕ). grid c.args.self.now.touched c.args.sel.0 (64 * c.args.part + b)))

pub loop-bit-preserved : goal.loop-bit-preserved
loop-bit-preserved c =
    elim c.if-get.branch [
      | then-get w ↦ w.word-is
          ∙ with_bit (λ (b : ℕ). grid c.args.self.now.touched c.args.sel.0 (64 * c.args.part + b)) c.loop-bit.bit
          c.loop-bit.word c.loop-bit-test.true c.loop-bit.invariant (sym c.get.ensures ∙ w.if-get.true)
      | else-get w ↦ w.word-is
          ∙ without_bit (λ (b : ℕ). grid c.args.self.now.touched c.args.sel.0 (64 * c.args.part + b)) c.loop-bit.bit
          c.loop-bit.word c.loop-bit.invariant (sym c.get.ensures ∙ w.if-get.false)
    ]

pub returns : goal.returns
returns c =
    let all : c.loop-bit.bit ≡ 64 = omega arith in
    c.loop-bit.invariant
    ∙ ap (λ (n : ℕ). bits_below n (λ (b : ℕ). grid c.args.self.now.touched c.args.sel.0 (64 * c.args.part + b))) all
