-- Where an index isn't touched, a caller that selects with the selector's list knows what stands there.
use Rattle.std.proofs.Common.{◌≡◌, ℕ, ◌+◌, ◌*◌, ◌/◌, ◌%◌, ◌==◌, Bool, false, true, if◌then◌else◌, List, ◌++◌, refl, ap}
use Rattle.std.proofs.Common.{sym, ◌∙◌, subst, eq-eqb, arith}
use Rattle.std.proofs.lemmas.Bool.{and_parts}
use Rattle.nio_base.specs.declared.limits.Limits.{Limits}
use Rattle.nio_base.specs.declared.numbers.CallerNo.{CallerNo}
use Rattle.nio_base.specs.declared.numbers.SelNo.{SelNo}
use Rattle.nio_history.proofs.Bits.{bits_below-at}
use Rattle.nio_history.proofs.OneMore.{mine-append}
use Rattle.nio_history.proofs.RightLists.{lists_are_right}
use Rattle.nio_history.proofs.Soundness.{legal-sound}
use Rattle.nio_history.proofs.Stays.{facts_are_permanent}
use Rattle.nio_history.specs.Answers.{touched_word}
use Rattle.nio_history.specs.Conditions.{has_turn, has_begun}
use Rattle.nio_history.specs.Histories.{state_after, mine, IsLegal}
use Rattle.nio_history.specs.Lists.{IsRight, entry, owes_look}
use Rattle.nio_history.specs.OwnEvents.{has}
use Rattle.nio_history.specs.Permanent.{list_had_by}
use Rattle.nio_history.specs.State.{State}
use Rattle.nio_history.specs.declared.event.Event.{Event}
use Rattle.nio_steps.proofs.KnownAt.{known-stays}
use Rattle.nio_steps.specs.KeyCalls.{has_bit}
use Rattle.nio_steps.specs.ListLaws.{lists_index}
use Rattle.nio_steps.specs.Lists.{KnowsList, listed_at}
use Rattle.nio_steps.specs.declared.looked.LookedKey.{LookedKey}

-- an index whose bit a word that was looked at hasn't isn't touched
pub clear_untouched : (st : State) (s i word : ℕ) → word ≡ touched_word st s (i / 64)
    → has_bit word (i % 64) ≡ false → st.touched s i ≡ false
clear_untouched st s i word is clear =
    let at : 64 * (i / 64) + i % 64 ≡ i = omega arith in
    subst (λ (k : ℕ). st.touched s k ≡ false) at
    (by_bit (st.touched s (64 * (i / 64) + i % 64))
    (bits_below-at 64 (λ b. st.touched s (64 * (i / 64) + b)) (i % 64) (omega arith))
    (ap (λ (w : ℕ). has_bit w (i % 64)) (sym is) ∙ clear))
  where
    by_bit : {bit : ℕ} (b : Bool) → bit ≡ (if b then 1 else 0) → (bit == 1) ≡ false → b ≡ false
    by_bit {bit = bit} true one not_one = absurd (cc (sym (eq-eqb bit 1 one) ∙ not_one))
    by_bit false zero not_one = refl

-- `more` is what was done since the list was this one; the caller neither took the bit of the index since nor looked
-- there
pub untouched_stands : (l : Limits) (n : CallerNo) (s : SelNo) (i : ℕ) (known : List LookedKey)
    (start more : List Event)
    → KnowsList l n start s known → IsLegal l (start ++ more)
    → has (lists_index s.0 i) (mine n more) ≡ false
    → has_begun (state_after (start ++ more)) n s ≡ true
    → (state_after (start ++ more)).touched s.0 i ≡ false
    → IsRight (state_after (start ++ more)) s i (listed_at known i)
untouched_stands l n s i known start more knows legal none begun untouched =
    let all : mine n (start ++ more) ≡ mine n start ++ mine n more = mine-append n start more in
    let at = known-stays (mine n start) (mine n more) s i (listed_at known i) none
    (record { entry_is = knows.right.entries i; whole = knows.right.whole i }) in
    let st = state_after (start ++ more) in
    let is : entry s.0 i (mine n (start ++ more)) ≡ listed_at known i = ap (entry s.0 i) all ∙ sym at.entry_is in
    subst (IsRight st s i) is
    (lists_are_right l n s i (start ++ more) knows.fit legal
    (facts_are_permanent l start (start ++ more) (more, refl) legal (list_had_by s n) knows.had)
    ((legal-sound l (start ++ more) legal).begun_open s.0 (and_parts (has_turn st n s) (st.begun s.0) begun).1)
    untouched
    (ap (owes_look s.0 i) all ∙ at.whole))
