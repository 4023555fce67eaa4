-- A kind of step that does to its word what it does to its part keeps the rule, and tells what it
-- adds; and from what it tells follows the history clause.
use Rattle.std.proofs.Common.{◌≡◌, ℕ, ◌<◌, true, false, List, [], ◌∷◌, ◌++◌, Some, None, refl, ap, sym, ◌∙◌, subst}
use Rattle.std.proofs.Common.{eq-eqb, ne_eqb, append_assoc}
use Rattle.std.specs.Prelude.{slice_index}
use Rattle.std.proofs.lemmas.List.Sums.{fold-append}
use Rattle.atomic_table.specs.Table.{keeps, Allows}
use Rattle.nio_base.specs.declared.limits.Limits.{Limits}
use Rattle.nio_base.specs.declared.numbers.CallerNo.{CallerNo}
use Rattle.nio_history.proofs.Lasts.{drawn_lasts}
use Rattle.nio_history.proofs.Legal.{legal_more, legal_next}
use Rattle.nio_history.proofs.OneMore.{mine-own, mine-other}
use Rattle.nio_history.proofs.Stays.{conditions_stay}
use Rattle.nio_history.specs.Acts.{effect}
use Rattle.nio_history.specs.Answers.{Answers}
use Rattle.nio_history.specs.Conditions.{Condition}
use Rattle.nio_history.specs.Histories.{state_after, mine, event_of, IsStep, IsLegal, HistoryClause, StepClause}
use Rattle.nio_history.specs.declared.act.Act.{Act}
use Rattle.nio_history.specs.declared.act.Act.TheVariants.{DrawBit}
use Rattle.nio_history.specs.declared.event.Event.{Event}
use Rattle.nio_words.proofs.Beginnings.{same_number}
use Rattle.nio_words.proofs.Keeps.{AddsTo, added, held_here}
use Rattle.nio_words.specs.Encodings.{encoding, bound, IsProper}
use Rattle.nio_words.specs.Instructions.{applied}
use Rattle.nio_words.specs.Passes.{view_of, seen, Holds, IsPassOf, IsReady}
use Rattle.nio_words.specs.Places.{place}
use Rattle.nio_words.specs.Rule.{HasBit, IsKept}
use Rattle.nio_words.specs.Telling.{Adds}
use Rattle.nio_words.specs.Moves.{IsMoment, Moves}
use Rattle.nio_words.specs.Steps.{Steps}
use Rattle.nio_words.specs.declared.instruction.Instruction.{Instruction}
use Rattle.nio_words.specs.declared.part.Part.{Part}
use Rattle.nio_words.specs.declared.view.View.{View}
use Rattle.nio_words.specs.declared.words.Pass.{Pass}
use Rattle.nio_words.specs.declared.words.Words.{Words}

-- whatever the table is at that moment, the step may be made
pub allowed : (l : Limits) (slots id : ℕ) (v : View) (carried : _) (me : CallerNo) (p : Part)
    (instruction : Instruction) (act : ℕ → Act)
    → v.spent ≡ false → HasBit v.numbers me.0 → Moves l me p instruction act
    → ((n : ℕ) → Condition v.limits (mine me v.seen) (state_after v.seen) me (act n))
    → Allows (IsKept l) slots id (v, carried) (place l p) (applied instruction)
    (λ n after. (after.1 ≡ carried) × Adds v v.numbers me (act n) after.0)
allowed l slots id v carried me p instruction act unspent has moves may s kept homes at fits =
    let known = kept.each id v at unspent in
    let n : ℕ = slice_index s.words (place l p) in
    let e : Event = event_of me (act n) in
    let w : View = record v { seen = kept.history ++ e ∷ []; halves = [] } in
    let here = kept.encoded p moves.within in
    let is_word : encoding (state_after kept.history) p ≡ n = sym here.word in
    let small : encoding (state_after kept.history) p < bound p = subst (λ (k : ℕ). k < bound p) here.word here.small in
    let may' : (k : ℕ) → Condition l (mine me kept.history) (state_after kept.history) me (act k) = λ k.
    conditions_stay l me v.seen kept.history known.begins kept.legal (known.own me has) (act k)
    (subst (λ l'. Condition l' (mine me v.seen) (state_after v.seen) me (act k)) known.limits (may k)) in
    let now : IsMoment l me p act (state_after kept.history) = record {
      past = kept.history;
      legal = kept.legal;
      leaves = refl;
      condition = may';
      small = small;
      proper = here.proper;
    } in
    let step : IsStep l kept.history e = record {
      by_caller = known.callers me.0 has;
      condition = may' n;
      answers = subst (λ (k : ℕ). Answers (state_after kept.history) me (act k)) is_word
          (moves.answers (state_after kept.history) now);
    } in
    let adds : AddsTo l s kept.history id v w e = record {
      step = step;
      caller_drawn = drawn_lasts (state_after kept.history) me (act n) me.0 (known.drawn me.0 has);
      caller_here = held_here l s kept id v at unspent me.0 has;
      seen = refl;
      limits = known.limits;
      alone = refl;
      unspent = unspent;
      halves = refl;
      callers = known.callers;
      drawn = λ k has'. drawn_lasts (state_after kept.history) me (act n) k (known.drawn k has');
      numbers = held_here l s kept id v at unspent;
    } in
    let word : applied instruction n ≡ encoding (effect (state_after kept.history) me (act n)) p = subst
    (λ (k : ℕ). applied instruction k ≡ encoding (effect (state_after kept.history) me (act k)) p) is_word
    (moves.word (state_after kept.history) now) in
    let proper : IsProper (effect (state_after kept.history) me (act n)) p = subst
    (λ (k : ℕ). IsProper (effect (state_after kept.history) me (act k)) p) is_word
    (moves.proper (state_after kept.history) now) in (
      w,
      keeps,
      tt,
      added l s kept id v at unspent w e p (applied instruction n) adds moves.within (moves.part n) word
          (moves.small n here.small) proper s.homes,
      (
        refl,
        record {
          past = kept.history;
          begins = known.begins;
          own = known.own;
          own_me = known.own me has;
          legal = subst (λ l'. IsLegal l' (kept.history ++ e ∷ [])) (sym known.limits)
              (legal_more l kept.history e kept.legal step);
          whole = λ alone. sym (kept.alone id v at alone);
          after = refl;
        },
      ),
    )

-- a legal history's draw found its number not drawn, so its clause is that of every step
clause_of : (l : Limits) (Holds' : CallerNo → Type 0) (me : CallerNo) (act : Act) (before past after : List Event)
    → IsLegal l (past ++ event_of me act ∷ []) → HistoryClause l Holds' me (act ∷ []) before after
    → StepClause l Holds' me act before after
clause_of l Holds' me (DrawBit n true) before past after legal clause =
    let found : true ≡ false = (legal_next l past (event_of me (DrawBit n true)) [] legal).condition.2 in
    absurd cc
clause_of l Holds' me act before past after legal clause = clause

-- what a step tells gives its clause
pub history_clause : (v : View) (numbers : ℕ) (me : CallerNo) (act : Act) (w : View) → Adds v numbers me act w
    → HistoryClause v.limits (λ n. HasBit v.numbers n.0) me (act ∷ []) v.seen w.seen
history_clause v numbers me act w adds =
    let e : Event = event_of me act in
    let now : w.seen ≡ adds.past ++ e ∷ [] = ap (λ x. x.seen) adds.after in
    subst (λ es. HistoryClause v.limits (λ n. HasBit v.numbers n.0) me (act ∷ []) v.seen es) (sym now) record {
      legal = adds.legal;
      goes_on = (
        adds.begins.0 ++ e ∷ [],
        sym (append_assoc v.seen adds.begins.0 (e ∷ []))
            ∙ ap (λ es. es ++ e ∷ []) adds.begins.1,
      );
      own = mine-own me adds.past e (eq-eqb me.0 me.0 refl) ∙ ap (λ acts. acts ++ act ∷ []) adds.own_me;
      others = λ n has other. mine-other n adds.past e (ne_eqb me.0 n.0 (λ same. other (same_number n me (sym same))))
          ∙ adds.own n has;
      ends = fold-append (λ _ x. Some x) None adds.past (e ∷ []);
    }

pub step_taken : (w : Words) (p q : Pass) (me : CallerNo) (act : Act) → IsPassOf w p → q.seat.table_id ≡ p.seat.table_id
    → Adds (view_of p) (view_of p).numbers me act (view_of q) → Steps w p q me act
step_taken w p q me act pass table adds =
    let clause : HistoryClause w.limits (Holds p) me (act ∷ []) (seen p) (seen q) = subst
    (λ l. HistoryClause l (Holds p) me (act ∷ []) (seen p) (seen q)) pass.limits
    (history_clause (view_of p) (view_of p).numbers me act (view_of q) adds) in
    let legal : IsLegal w.limits (adds.past ++ event_of me act ∷ []) = subst
    (λ l. IsLegal l (adds.past ++ event_of me act ∷ [])) pass.limits adds.legal in
    record {
      pass = record {
        table = table ∙ pass.table;
        limits = ap (λ x. x.limits) adds.after ∙ pass.limits;
        legal = clause.legal;
        callers = λ n has'. pass.callers n (subst (λ (k : ℕ). HasBit k n.0) (ap (λ x. x.numbers) adds.after) has');
      };
      clause = clause_of w.limits (Holds p) me act (seen p) adds.past (seen q) legal clause;
      numbers = ap (λ x. x.numbers) adds.after;
      only = λ alone. (
        ap (λ x. x.alone) adds.after ∙ alone,
        ap (λ x. x.seen) adds.after
            ∙ ap (λ es. es ++ event_of me act ∷ []) (adds.whole alone),
      );
    }

-- a step leaves its pass ready for whom it was ready for
pub still_ready : (w : Words) (p q : Pass) (me n : CallerNo) (act : Act) → Steps w p q me act → IsReady w p n
    → IsReady w q n
still_ready w p q me n act steps ready =
    record { pass = steps.pass; number = subst (λ (k : ℕ). HasBit k n.0) (sym steps.numbers) ready.number }
