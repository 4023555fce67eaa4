-- A draw keeps the table's rule, and tells whether its number was drawn.
use Rattle.std.proofs.Common.{◌≡◌, ℕ, ◌<◌, Bool, true, false, ◌⊎◌, inl, inr, List, [], ◌∷◌, ◌++◌, length, set, refl, ap}
use Rattle.std.proofs.Common.{sym, ◌∙◌, subst, arith}
use Rattle.std.specs.Prelude.{bit_or, slice_index}
use Rattle.std.proofs.lemmas.List.{set-get_or, append-nil}
use Rattle.std.proofs.lemmas.Nat.{or_lt}
use mathlib.Core.List.{IsPrefix}
use mathlib.Core.Option.{some}
use lib.ListN.{get_elem?}
use Rattle.atomic_table.specs.Table.{State as Table, Act as TableAct, Valid, carried_after, stepped, keeps, Allows}
use Rattle.nio_base.specs.declared.limits.Limits.{Limits}
use Rattle.nio_base.specs.declared.numbers.CallerNo.{CallerNo}
use Rattle.nio_history.proofs.Lasts.{drawn_lasts}
use Rattle.nio_history.proofs.Legal.{legal_more}
use Rattle.nio_history.proofs.Put.{put-same}
use Rattle.nio_history.specs.Answers.{bits_below}
use Rattle.nio_history.specs.Conditions.{IsCaller}
use Rattle.nio_history.specs.Histories.{state_after, mine, event_of, IsStep, IsLegal, HistoryClause}
use Rattle.nio_history.specs.Questions.{flag}
use Rattle.nio_history.specs.State.{put}
use Rattle.nio_history.specs.declared.act.Act.TheVariants.{DrawBit}
use Rattle.nio_history.specs.declared.event.Event.{Event}
use Rattle.nio_words.proofs.Beginnings.{prefix_self, prefix_whole, mine_begins, same_number}
use Rattle.nio_words.proofs.Bits.{none_has, more_has, new_has, left_has, reads_bit, sets_bit, sets_again, one_bit-lt}
use Rattle.nio_words.proofs.Keeps.{AddsTo, added, looked, held_here}
use Rattle.nio_words.proofs.Stepping.{history_clause}
use Rattle.nio_words.specs.Decodings.{is_set}
use Rattle.nio_words.specs.Drawing.{Draws}
use Rattle.nio_words.specs.Telling.{TellsDrawn}
use Rattle.nio_words.specs.Instructions.{one_bit}
use Rattle.nio_words.specs.Passes.{view_of, seen, numbers_of, Holds, IsPassOf}
use Rattle.nio_words.specs.Rule.{HasBit, Knows, IsKept}
use Rattle.nio_words.specs.declared.part.Part.TheVariants.{Callers}
use Rattle.nio_words.specs.declared.view.View.{View}
use Rattle.nio_words.specs.declared.words.Pass.{Pass}
use Rattle.nio_words.specs.declared.words.Words.{Words}

module _ (l : Limits) (s : Table (Unit {0}) View) (kept : IsKept l s) (id : ℕ) (v : View)
    (here : get_elem? s.views id ≡ some v) (unspent : v.spent ≡ false)
    (number : CallerNo) (below : number.0 < 64) (is_caller : IsCaller l number) where
  -- what the step may do at this moment
  pub May : List (ℕ × Unit {0}) → Bool → Type 0
  May carried found =
      (w : View) × (a : TableAct (Unit {0})) × Valid s.homes carried a
      × IsKept l (stepped s 0 (bit_or (slice_index s.words 0) (one_bit number.0)) id carried w a)
      × ((carried_after carried a ≡ carried) × TellsDrawn v number found w)

  known : Knows l kept.history v
  known = kept.each id v here unspent

  word : slice_index s.words 0 ≡ bits_below 64 (state_after kept.history).drawn
  word = (kept.encoded Callers tt).word

  reads : is_set (slice_index s.words 0) number.0 ≡ (state_after kept.history).drawn number.0
  reads = ap (λ n. is_set n number.0) word ∙ reads_bit (state_after kept.history).drawn number.0 below

  finds_drawn : (carried : List (ℕ × Unit {0})) → (state_after kept.history).drawn number.0 ≡ true → May carried true
  unfolding May
  finds_drawn carried drawn =
      let w : View = record v { seen = kept.history; halves = [] } in
      let knows : Knows l kept.history w = record {
        limits = known.limits;
        begins = prefix_self kept.history;
        own = λ n has. refl;
        callers = known.callers;
        drawn = known.drawn;
        halves = λ i d h. absurd (omega arith);
      } in
      let same : bit_or (slice_index s.words 0) (one_bit number.0) ≡ slice_index s.words 0 =
      ap (λ n. bit_or n (one_bit number.0)) word
      ∙ (sets_again (state_after kept.history).drawn number.0 below drawn ∙ sym word) in (
        w,
        keeps,
        tt,
        looked l s kept id v here unspent w knows refl refl unspent known.begins
            (set s.words 0 (bit_or (slice_index s.words 0) (one_bit number.0)))
            (ap (set s.words 0) same ∙ set-get_or s.words 0 0) s.homes,
        (
          refl,
          (
            record {
              past = kept.history;
              begins = known.begins;
              own = known.own;
              legal = subst (λ l'. IsLegal l' kept.history) (sym known.limits) kept.legal;
              whole = λ alone. sym (kept.alone id v here alone);
              after = refl;
            },
            drawn,
          ),
        ),
      )

  -- a number that isn't drawn is nowhere
  nowhere : (state_after kept.history).drawn number.0 ≡ false → (j : ℕ) (u : View) → get_elem? s.views j ≡ some u
      → HasBit u.numbers number.0 → ⊥
  nowhere undrawn j u at has = by_test u.spent refl
    where
      by_test : (b : Bool) → u.spent ≡ b → ⊥
      by_test true e = none_has number.0 (subst (λ (n : ℕ). HasBit n number.0) (kept.spent_empty j u at e) has)
      by_test false e = let clash : true ≡ false = sym ((kept.each j u at e).drawn number.0 has) ∙ undrawn in cc

  finds_undrawn : (carried : List (ℕ × Unit {0})) → (state_after kept.history).drawn number.0 ≡ false
      → May carried false
  unfolding May
  finds_undrawn carried undrawn =
      let e : Event = event_of number (DrawBit number false) in
      let st = state_after kept.history in
      let w : View = record v {
        seen = kept.history ++ e ∷ [];
        numbers = bit_or v.numbers (one_bit number.0);
        halves = [];
      } in
      let step : IsStep l kept.history e = record {
        by_caller = is_caller;
        condition = (is_caller, refl, refl);
        answers = ap flag (sym undrawn);
      } in
      let drawn_now : put st.drawn number.0 true number.0 ≡ true = put-same st.drawn number.0 true in
      let no_event : mine number kept.history ≡ [] = kept.undrawn number undrawn in
      let adds : AddsTo l s kept.history id v w e = record {
        step = step;
        caller_drawn = drawn_now;
        caller_here = λ j u ne at has. nowhere undrawn j u at has;
        seen = refl;
        limits = known.limits;
        alone = refl;
        unspent = unspent;
        halves = refl;
        callers = λ n has. elim (more_has v.numbers number.0 n below has)
            [ inl same ↦ subst (λ (m : ℕ). m < l.callers) (sym same) is_caller | inr old ↦ known.callers n old ];
        drawn = λ n has. elim (more_has v.numbers number.0 n below has) [
          | inl same ↦ subst (λ (m : ℕ). put st.drawn number.0 true m ≡ true) (sym same) drawn_now
          | inr old ↦ drawn_lasts st number (DrawBit number false) n (known.drawn n old)
        ];
        numbers = λ n has. elim (more_has v.numbers number.0 n below has) [
          | inl same ↦ λ j u ne at has'. nowhere undrawn j u at (subst (HasBit u.numbers) same has')
          | inr old ↦ held_here l s kept id v here unspent n old
        ];
      } in
      let new_word : bit_or (slice_index s.words 0) (one_bit number.0) ≡ bits_below 64 (put st.drawn number.0 true) =
      ap (λ n. bit_or n (one_bit number.0)) word ∙ sets_bit st.drawn number.0 below in (
        w,
        keeps,
        tt,
        added l s kept id v here unspent w e Callers (bit_or (slice_index s.words 0) (one_bit number.0)) adds tt refl
            new_word
            (or_lt 64 (slice_index s.words 0) (one_bit number.0) (kept.encoded Callers tt).small (one_bit-lt number.0))
            tt s.homes,
        (
          refl,
          record {
            past = kept.history;
            begins = known.begins;
            own = known.own;
            own_me = sym
                (prefix_whole (mine number v.seen) (mine number kept.history)
                (mine_begins number v.seen kept.history known.begins) (omega (arith, ap length no_event)));
            legal = subst (λ l'. IsLegal l' (kept.history ++ e ∷ [])) (sym known.limits)
                (legal_more l kept.history e kept.legal step);
            whole = λ alone. sym (kept.alone id v here alone);
            after = refl;
          },
        ),
      )

  pub may_draw : (carried : List (ℕ × Unit {0})) → May carried (is_set (slice_index s.words 0) number.0)
  may_draw carried = by_test ((state_after kept.history).drawn number.0) refl
    where
      by_test : (b : Bool) → (state_after kept.history).drawn number.0 ≡ b
          → May carried (is_set (slice_index s.words 0) number.0)
      by_test true e = subst (May carried) (sym (reads ∙ e)) (finds_drawn carried e)
      by_test false e = subst (May carried) (sym (reads ∙ e)) (finds_undrawn carried e)

pub draw_allowed : (l : Limits) (slots id : ℕ) (v : View) (carried : List (ℕ × Unit {0})) (number : CallerNo)
    → number.0 < 64 → v.spent ≡ false → IsCaller l number
    → Allows (IsKept l) slots id (v, carried) 0 (λ n. bit_or n (one_bit number.0))
    (λ n after. (after.1 ≡ carried) × TellsDrawn v number (is_set n number.0) after.0)
unfolding May
draw_allowed l slots id v carried number below unspent is_caller s kept homes at fits =
    may_draw l s kept id v at unspent number below is_caller carried

-- ---- what follows from what is told

pub draws_undrawn : (w : Words) (p q : Pass) (number : CallerNo) → number.0 < 64 → IsCaller w.limits number
    → IsPassOf w p → q.seat.table_id ≡ p.seat.table_id
    → TellsDrawn (view_of p) number false (view_of q) → Draws w p q number false
draws_undrawn w p q number below is_caller pass table adds =
    let e : Event = event_of number (DrawBit number false) in
    let clause : HistoryClause w.limits (Holds p) number (DrawBit number false ∷ []) (seen p) (seen q) =
    subst (λ l. HistoryClause l (Holds p) number (DrawBit number false ∷ []) (seen p) (seen q)) pass.limits
    (history_clause (view_of p) (bit_or (numbers_of p) (one_bit number.0)) number (DrawBit number false)
    (view_of q) adds) in
    let numbers : numbers_of q ≡ bit_or (numbers_of p) (one_bit number.0) = ap (λ x. x.numbers) adds.after in
    let which : (n : CallerNo) → Holds q n
    → (n.0 ≡ number.0)
    ⊎ Holds p n = λ n has. more_has (numbers_of p) number.0 n.0 below
    (subst (λ (k : ℕ). HasBit k n.0) numbers has) in
    record {
      pass = record {
        table = table ∙ pass.table;
        limits = ap (λ x. x.limits) adds.after ∙ pass.limits;
        legal = clause.legal;
        callers = λ n has. elim (which n has) [
          | inl same ↦ subst (λ (k : ℕ). k < w.limits.callers) (sym same) is_caller
          | inr old ↦ pass.callers n old
        ];
      };
      clause = clause;
      keeps = λ n has. subst (λ (k : ℕ). HasBit k n.0) (sym numbers)
          (left_has (numbers_of p) (one_bit number.0) n.0 has);
      holds = λ _. subst (λ (k : ℕ). HasBit k number.0) (sym numbers) (new_has (numbers_of p) number.0 below);
      others = λ n has other. elim (which n has) [
        | inl same ↦ absurd (other (same_number n number same))
        | inr old ↦ old
      ];
      same = λ clash. absurd cc;
      only = λ alone. (
        ap (λ x. x.alone) adds.after ∙ alone,
        ap (λ x. x.seen) adds.after
            ∙ ap (λ es. es ++ e ∷ []) (adds.whole alone),
      );
    }

pub draws_drawn : (w : Words) (p q : Pass) (number : CallerNo) → IsPassOf w p → q.seat.table_id ≡ p.seat.table_id
    → TellsDrawn (view_of p) number true (view_of q) → Draws w p q number true
draws_drawn w p q number pass table told =
    let looks = told.0 in
    let sight : seen q ≡ looks.past = ap (λ x. x.seen) looks.after in
    let numbers : numbers_of q ≡ numbers_of p = ap (λ x. x.numbers) looks.after in
    let legal : IsLegal w.limits (seen q) = subst (IsLegal w.limits) (sym sight)
    (subst (λ l. IsLegal l looks.past) pass.limits looks.legal) in
    record {
      pass = record {
        table = table ∙ pass.table;
        limits = ap (λ x. x.limits) looks.after ∙ pass.limits;
        legal = legal;
        callers = λ n has. pass.callers n (subst (λ (k : ℕ). HasBit k n.0) numbers has);
      };
      clause = record {
        legal = legal;
        goes_on = subst (IsPrefix (seen p)) (sym sight) looks.begins;
        drawn = told.1;
        own = λ n has. ap (mine n) sight ∙ looks.own n has;
      };
      keeps = λ n has. subst (λ (k : ℕ). HasBit k n.0) (sym numbers) has;
      holds = λ clash. absurd cc;
      others = λ n has other. subst (λ (k : ℕ). HasBit k n.0) numbers has;
      same = λ _. numbers;
      only = λ alone. (ap (λ x. x.alone) looks.after ∙ alone, sight ∙ (looks.whole alone ∙ sym (append-nil (seen p))));
    }
