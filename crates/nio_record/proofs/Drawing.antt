-- The numbers of all callers are drawn one after the other.
use Rattle.std.proofs.Common.{◌≡◌, ℕ, zero, suc, ◌+◌, ◌<◌, ◌≤◌, ◌==◌, Bool, true, false, if◌then◌else◌, ◌∷◌, [], ◌++◌}
use Rattle.std.proofs.Common.{List, refl, ap, sym, ◌∙◌, subst, eqb-true, eq-eqb, arith}
use Rattle.std.proofs.lemmas.List.{append-nil}
use Rattle.nio_base.specs.declared.numbers.CallerNo.{CallerNo}
use Rattle.nio_history.proofs.OneMore.{state_after-more}
use Rattle.nio_history.specs.Histories.{state_after, event_of}
use Rattle.nio_history.specs.State.{State}
use Rattle.nio_history.specs.declared.act.Act.TheVariants.{DrawBit}
use Rattle.nio_history.specs.declared.event.Event.{Event}
use Rattle.nio_words.specs.Drawing.{Draws}
use Rattle.nio_words.specs.Passes.{Holds, IsFirstPass, seen}
use Rattle.nio_words.specs.declared.words.Pass.{Pass}
use Rattle.nio_words.specs.declared.words.Words.{Words}
use Rattle.nio_record.specs.Recorded.{HasDrawn, draws}

abbrev numbered : ℕ → CallerNo
numbered k = record { 0 = k }

abbrev draw_of : ℕ → Event
draw_of k = event_of (numbered k) (DrawBit (numbered k) false)

abbrev drawn_state : ℕ → State
drawn_state k = state_after (draws k)

-- the draws leave the numbers from k on undrawn
undrawn_from : (k n : ℕ) → k ≤ n → (drawn_state k).drawn n ≡ false
undrawn_from zero n above = refl
undrawn_from (suc k) n above =
    ap (λ (st : State). st.drawn n) (state_after-more (draws k) (draw_of k))
    ∙ (ap (λ b. if b then true else (drawn_state k).drawn n) (by_test (n == k) refl)
    ∙ undrawn_from k n (omega arith))
  where
    by_test : (b : Bool) → (n == k) ≡ b → b ≡ false
    by_test true is = let same : n ≡ k = eqb-true n k is in absurd (omega (arith, same, above))
    by_test false is = refl

-- ---- with a pass

pub first_has_drawn : (w : Words) (p : Pass) → IsFirstPass w p → HasDrawn w p 0
first_has_drawn w p first =
    record { pass = first.pass; only = first.only; holds = λ n below. absurd (omega arith); sight = first.unseen }

pub next_has_drawn : (w : Words) (p q : Pass) (number : CallerNo) (found : Bool) → HasDrawn w p number.0
    → Draws w p q number found → HasDrawn w q (number.0 + 1)
next_has_drawn w p q number true before drawing =
    let same : seen q ≡ draws number.0 = (drawing.only before.only).1 ∙ (append-nil (seen p) ∙ before.sight) in
    let drawn : (drawn_state number.0).drawn number.0 ≡ true =
    ap (λ (es : List Event). (state_after es).drawn number.0) (sym same) ∙ drawing.clause.drawn in
    let clash : true ≡ false = sym drawn ∙ undrawn_from number.0 number.0 (omega arith) in
    absurd cc
next_has_drawn w p q number false before drawing = record {
  pass = drawing.pass;
  only = (drawing.only before.only).0;
  holds = λ n below. by_test n below (n.0 == number.0) refl;
  sight = (drawing.only before.only).1
      ∙ (ap (λ (es : List Event). es ++ draw_of number.0 ∷ []) before.sight
      ∙ (let on : suc number.0 ≡ number.0 + 1 = omega arith in ap draws on));
}
  where
    by_test : (n : CallerNo) → n.0 < number.0 + 1 → (b : Bool) → (n.0 == number.0) ≡ b → Holds q n
    by_test n below true is =
        subst (λ (m : CallerNo). Holds q m) (sym (ap numbered (eqb-true n.0 number.0 is))) (drawing.holds refl)
    by_test n below false is =
        drawing.keeps n
        (before.holds n
        (lower n.0 number.0 below (λ same. let clash : false ≡ true = sym is ∙ eq-eqb n.0 number.0 same in
        absurd cc)))
      where
        lower : (a b : ℕ) → a < b + 1 → (a ≡ b → ⊥) → a < b
        lower a b below' other = omega arith
