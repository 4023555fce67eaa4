-- The callers' numbers are drawn one after the other, before the first line.
use Rattle.std.proofs.Common.{append_assoc, map, suc, ◌≡◌, ℕ, ◌+◌, ◌<◌, ◌≤◌, ◌==◌, Bool, true, false, if◌then◌else◌}
use Rattle.std.proofs.Common.{List, [], ◌∷◌, ◌++◌, refl, ap, sym, ◌∙◌, subst, eqb-true, eq-eqb, arith}
use Rattle.std.proofs.lemmas.List.{append-nil}
use Rattle.nio_base.specs.declared.limits.Limits.{Limits}
use Rattle.nio_base.specs.declared.numbers.CallerNo.{CallerNo}
use Rattle.nio_history.proofs.OneMore.{state_after-more, mine-own, mine-other}
use Rattle.nio_history.specs.Histories.{state_after, mine, event_of}
use Rattle.nio_history.specs.State.{State}
use Rattle.nio_history.specs.declared.act.Act.TheVariants.{DrawBit}
use Rattle.nio_history.specs.declared.event.Event.{Event}
use Rattle.nio_serial.proofs.Histories.{draws-stay}
use Rattle.nio_serial.proofs.Staying.{begins-between}
use Rattle.nio_serial.specs.Between.{IsBetween}
use Rattle.nio_serial.specs.Documented.{nothing_yet, documented}
use Rattle.nio_serial.specs.Serial.{Entry, draw, line, history_of}
use Rattle.nio_sole.proofs.Beginnings.{made_nothing, made_draw}
use Rattle.nio_sole.specs.Drawn.{AreDrawn, HasDrawn, draws}
use Rattle.nio_sole.specs.Made.{HasMade}
use Rattle.nio_words.specs.Drawing.{Draws}
use Rattle.nio_words.specs.Passes.{Holds, IsFirstPass, limits_of, seen}
use Rattle.nio_words.specs.declared.words.Pass.{Pass}
use Rattle.nio_words.specs.declared.words.Words.{Words}

abbrev pub caller : ℕ → CallerNo
caller k = record { 0 = k }

-- a draw more is its event more
history-more : (entries : List Entry) (n : CallerNo)
    → history_of (entries ++ draw n ∷ []) ≡ history_of entries ++ event_of n (DrawBit n false) ∷ []
history-more [] n = refl
history-more (draw m ∷ entries) n = ap (λ (es : List Event). event_of m (DrawBit m false) ∷ es) (history-more entries n)
history-more (line me word acts said ∷ entries) n =
    ap (λ (es : List Event). map (event_of me) acts ++ es) (history-more entries n)
    ∙ sym (append_assoc (map (event_of me) acts) (history_of entries) (event_of n (DrawBit n false) ∷ []))

pub none_drawn : (l : Limits) → AreDrawn l [] 0
none_drawn l =
    record {
      are = refl;
      opening = refl;
      between = begins-between l;
      made = λ n. made_nothing l n;
      drawn = λ n below. absurd (omega arith);
      undrawn = λ n _. refl;
    }

pub one_drawn : (l : Limits) (events : List Event) (k : ℕ) → AreDrawn l events k
    → AreDrawn l (events ++ event_of (caller k) (DrawBit (caller k) false) ∷ []) (k + 1)
one_drawn l events k before = record {
  are = ap (λ (es : List Event). es ++ e ∷ []) before.are
      ∙ (sym (history-more (draws k) (caller k))
      ∙ (let on : suc k ≡ k + 1 = omega arith in ap (λ m. history_of (draws m)) on));
  opening = ap (λ (x : State). documented x nothing_yet) state ∙ before.opening;
  between = subst (λ (x : State). IsBetween l x nothing_yet) (sym state)
      (draws-stay l st nothing_yet (caller k) before.between);
  made = λ n. by_caller n (k == n.0) refl;
  drawn = λ n below. ap (λ (x : State). x.drawn n) state ∙ is_drawn n below (n == k) refl;
  undrawn = λ n above. ap (λ (x : State). x.drawn n) state
      ∙ (ap (λ b. if b then true else st.drawn n) (later n above) ∙ before.undrawn n (omega arith));
}
  where
    e : Event
    e = event_of (caller k) (DrawBit (caller k) false)

    st : State
    st = state_after events

    state : state_after (events ++ e ∷ []) ≡ record st { drawn = λ n. if n == k then true else st.drawn n }
    state = state_after-more events e

    is_drawn : (n : ℕ) → n < k + 1 → (b : Bool) → (n == k) ≡ b → (if n == k then true else st.drawn n) ≡ true
    is_drawn n below true is = ap (λ b. if b then true else st.drawn n) is
    is_drawn n below false is =
        ap (λ b. if b then true else st.drawn n) is
        ∙ before.drawn n (earlier n below (λ same. let clash : false ≡ true = sym is ∙ eq-eqb n k same in absurd cc))
      where
        earlier : (a : ℕ) → a < k + 1 → (a ≡ k → ⊥) → a < k
        earlier a below' other = omega arith

    later : (n : ℕ) → k + 1 ≤ n → (n == k) ≡ false
    later n above = by_test (n == k) refl
      where
        by_test : (b : Bool) → (n == k) ≡ b → b ≡ false
        by_test true is = let same : n ≡ k = eqb-true n k is in absurd (omega (arith, same, above))
        by_test false is = refl

    by_caller : (n : CallerNo) (b : Bool) → (k == n.0) ≡ b → HasMade l (mine n (events ++ e ∷ [])) n nothing_yet
    by_caller n true by =
        let same : caller k ≡ n = ap caller (eqb-true k n.0 by) in
        subst (λ xs. HasMade l xs n nothing_yet)
        (sym (mine-own n events e by ∙ ap (λ (m : CallerNo). mine n events ++ DrawBit m false ∷ []) same))
        (made_draw l (mine n events) n nothing_yet (before.made n))
    by_caller n false by = subst (λ xs. HasMade l xs n nothing_yet) (sym (mine-other n events e by)) (before.made n)

-- ---- with a pass

pub first_has_drawn : (w : Words) (p : Pass) → IsFirstPass w p → HasDrawn w p 0
first_has_drawn w p first = record {
  pass = first.pass;
  only = first.only;
  holds = λ n below. absurd (omega arith);
  drawn = subst (λ (es : List Event). AreDrawn (limits_of w) es 0) (sym first.unseen) (none_drawn (limits_of w));
}

pub next_has_drawn : (w : Words) (p q : Pass) (number : CallerNo) (found : Bool) → HasDrawn w p number.0
    → Draws w p q number found → HasDrawn w q (number.0 + 1)
next_has_drawn w p q number true before draws =
    let same : seen q ≡ seen p = (draws.only before.only).1 ∙ append-nil (seen p) in
    let drawn : (state_after (seen p)).drawn number.0 ≡ true = ap (λ (es : List Event). (state_after es).drawn number.0)
    (sym same) ∙ draws.clause.drawn in
    let clash : true ≡ false = sym drawn ∙ before.drawn.undrawn number.0 (omega arith) in
    absurd cc
next_has_drawn w p q number false before draws = record {
  pass = draws.pass;
  only = (draws.only before.only).0;
  holds = λ n below. by_test n below (n.0 == number.0) refl;
  drawn = subst (λ (es : List Event). AreDrawn (limits_of w) es (number.0 + 1)) (sym (draws.only before.only).1)
      (one_drawn (limits_of w) (seen p) number.0 before.drawn);
}
  where
    by_test : (n : CallerNo) → n.0 < number.0 + 1 → (b : Bool) → (n.0 == number.0) ≡ b → Holds q n
    by_test n below true is =
        subst (λ (m : CallerNo). Holds q m) (sym (ap caller (eqb-true n.0 number.0 is))) (draws.holds refl)
    by_test n below false is =
        draws.keeps n
        (before.holds n
        (lower n.0 number.0 below (λ same. let clash : false ≡ true = sym is ∙ eq-eqb n.0 number.0 same in
        absurd cc)))
      where
        lower : (a b : ℕ) → a < b + 1 → (a ≡ b → ⊥) → a < b
        lower a b below' other = omega arith
