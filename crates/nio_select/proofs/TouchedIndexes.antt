-- The indexes that are found touched are within the limits.
use Rattle.std.proofs.Common.{◌≡◌, ℕ, ◌+◌, ◌*◌, ◌<◌, Bool, true, false, if◌then◌else◌, [], ◌∷◌, ◌++◌, refl, ap, sym, ◌∙◌}
use Rattle.std.proofs.Common.{subst, append_assoc, eqb-true, arith}
use Rattle.std.specs.Int.{bit_at}
use Rattle.nio_base.specs.declared.numbers.CallerNo.{CallerNo}
use Rattle.nio_base.specs.declared.numbers.SelNo.{SelNo}
use Rattle.nio_history.proofs.Bits.{bits_below-at}
use Rattle.nio_history.proofs.Finds.{step_leaves}
use Rattle.nio_history.proofs.Legal.{legal_beginning}
use Rattle.nio_history.proofs.Within.{legal-within}
use Rattle.nio_history.specs.Answers.{Answers, touched_word}
use Rattle.nio_history.specs.Histories.{state_after, event_of, IsLegal}
use Rattle.nio_history.specs.PassViews.{PassView, Holds, ActsClause}
use Rattle.nio_history.specs.Sound.{IsWithin}
use Rattle.nio_history.specs.State.{State}
use Rattle.nio_history.specs.declared.act.Act.{Act}
use Rattle.nio_history.specs.declared.act.Act.TheVariants.{LookTouched, TakeTouched}
use Rattle.nio_steps.specs.KeyCalls.{has_bit}

-- a bit of the word says that its index is touched
touched_bit : (st : State) (s j b : ℕ) → b < 64 → has_bit (touched_word st s j) b ≡ true → st.touched s (64 * j + b) ≡ true
touched_bit st s j b low bit = by_test (st.touched s (64 * j + b)) refl
  where
    is : bit_at (touched_word st s j) b ≡ (if st.touched s (64 * j + b) then 1 else 0)
    is = bits_below-at 64 (λ k. st.touched s (64 * j + k)) b low

    by_test : (t : Bool) → st.touched s (64 * j + b) ≡ t → st.touched s (64 * j + b) ≡ true
    by_test true set = set
    by_test false clear =
        let one : bit_at (touched_word st s j) b ≡ 1 = eqb-true (bit_at (touched_word st s j) b) 1 bit in
        let none : bit_at (touched_word st s j) b ≡ 0 = is ∙ ap (λ (t : Bool). if t then 1 else 0) clear in
        absurd (omega (arith, one, none))

-- where the word that an act found is the state's
module _ {me : CallerNo} {act : Act} {v0 v1 : PassView} (s : SelNo) (j word : ℕ) where
  within_by : ActsClause me (act ∷ []) v0 v1
      → ((st : State) → Answers st me act → word ≡ touched_word st s.0 j)
      → (b : ℕ) → b < 64 → has_bit word b ≡ true → 64 * j + b < v0.limits.keys
  within_by clause tells b low bit =
      let leaves = step_leaves v0.limits (Holds v0) me act v0.seen v1.seen clause.history in
      let before : State = state_after (v0.seen ++ leaves.between) in
      let e = event_of me act in
      let whole : v1.seen ≡ (v0.seen ++ leaves.between) ++ e ∷ [] = leaves.parts
      ∙ sym (append_assoc v0.seen leaves.between (e ∷ [])) in
      let legal : IsLegal v0.limits (v0.seen ++ leaves.between) = legal_beginning v0.limits (v0.seen ++ leaves.between)
      (e ∷ []) (subst (IsLegal v0.limits) whole clause.history.legal) in
      let within : IsWithin v0.limits before = legal-within v0.limits (v0.seen ++ leaves.between) legal in
      (within.touched s.0 (64 * j + b)
      (touched_bit before s.0 j b low
      (subst (λ (n : ℕ). has_bit n b ≡ true) (tells before leaves.step.answers) bit))).1

pub look_within : {me : CallerNo} {v0 v1 : PassView} (s : SelNo) (j word : ℕ)
    → ActsClause me (LookTouched s j word ∷ []) v0 v1 → (b : ℕ) → b < 64 → has_bit word b ≡ true
    → 64 * j + b < v0.limits.keys
look_within s j word clause = within_by s j word clause (λ st answers. cc answers)

pub take_within : {me : CallerNo} {v0 v1 : PassView} (s : SelNo) (j word : ℕ)
    → ActsClause me (TakeTouched s j word ∷ []) v0 v1 → (b : ℕ) → b < 64 → has_bit word b ≡ true
    → 64 * j + b < v0.limits.keys
take_within s j word clause = within_by s j word clause (λ st answers. cc answers)
