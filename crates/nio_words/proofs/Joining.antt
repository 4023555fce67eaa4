-- Two seats that are joined keep the table's rule, and a look after it tells what both knew.
use Rattle.std.proofs.Common.{◌≡◌, ◌≢◌, ℕ, zero, suc, ◌==◌, ◌<◌, ◌≤◌, Bool, true, false, cond, ◌⊎◌, inl, inr, List, []}
use Rattle.std.proofs.Common.{◌∷◌, length, set, get_or, refl, ap, sym, ◌∙◌, subst, arith, eqb-true}
use Rattle.std.specs.Prelude.{All, bit_or, nat_lt}
use Rattle.std.proofs.lemmas.Bool.{eqb-false, ltb-true, ltb-false}
use Rattle.std.proofs.lemmas.List.{set-get_or}
use mathlib.Core.List.{IsPrefix}
use mathlib.Core.Option.{some, some-injective}
use lib.ListN.{get_elem?}
use Rattle.atomic_table.specs.Table.{State as Table, Joins, Allows, keeps}
use Rattle.atomic_table.proofs.Lists.{at_set, set_else}
use Rattle.nio_base.specs.declared.limits.Limits.{Limits}
use Rattle.nio_base.specs.declared.numbers.CallerNo.{CallerNo}
use Rattle.nio_history.specs.Histories.{mine, IsLegal}
use Rattle.nio_history.proofs.Legal.{legal_beginning}
use Rattle.nio_history.specs.declared.event.Event.{Event}
use Rattle.nio_words.proofs.Beginnings.{prefix_self, prefix_shorter, prefix_both, mine_between}
use Rattle.nio_words.proofs.Bits.{none_has, both_has, left_has, right_has}
use Rattle.nio_words.proofs.Keeps.{set_at_own, its_own, not_alone, looked}
use Rattle.nio_words.specs.Passes.{view_of, seen, numbers_of, Holds, IsPassOf}
use Rattle.nio_words.specs.Sharing.{Joins as JoinsPasses}
use Rattle.nio_words.specs.Rule.{HasBit, StandsIn, Knows, IsSeenWhole, IsKept, longer, half, joined_view, spent_view}
use Rattle.nio_words.specs.Telling.{Recalls}
use Rattle.nio_words.specs.declared.view.Half.{Half}
use Rattle.nio_words.specs.declared.view.View.{View}
use Rattle.nio_words.specs.declared.words.Pass.{Pass}
use Rattle.nio_words.specs.declared.words.Words.{Words}

-- the longer of two beginnings of one list begins it, and each of the two begins the longer
record IsLonger (xs ys zs : List Event) : Type 0 where
  whole : IsPrefix (longer xs ys) zs
  first : IsPrefix xs (longer xs ys)
  second : IsPrefix ys (longer xs ys)

longer_of : (xs ys zs : List Event) → IsPrefix xs zs → IsPrefix ys zs → IsLonger xs ys zs
longer_of xs ys zs p q = by_test (nat_lt (length xs) (length ys)) refl
  where
    by_test : (t : Bool) → nat_lt (length xs) (length ys) ≡ t → IsLonger xs ys zs
    by_test true e =
        let is : longer xs ys ≡ ys = ap (λ t. cond t ys xs) e in
        let less : length xs < length ys = ltb-true (length xs) (length ys) e in
        record {
          whole = subst (λ ws. IsPrefix ws zs) (sym is) q;
          first = subst (IsPrefix xs) (sym is) (prefix_shorter xs ys zs p q (omega arith));
          second = subst (IsPrefix ys) (sym is) (prefix_self ys);
        }
    by_test false e =
        let is : longer xs ys ≡ xs = ap (λ t. cond t ys xs) e in
        let less : length ys ≤ length xs = ltb-false (length xs) (length ys) e in
        record {
          whole = subst (λ ws. IsPrefix ws zs) (sym is) p;
          first = subst (IsPrefix xs) (sym is) (prefix_self xs);
          second = subst (IsPrefix ys) (sym is) (prefix_shorter ys xs zs q p less);
        }

both_of : (P : Half → Type 0) (x y : Half) → P x → P y → All P (x ∷ y ∷ [])
both_of P x y px py zero d h = px
both_of P x y px py (suc zero) d h = py
both_of P x y px py (suc (suc k)) d h = absurd (omega arith)

module _ (l : Limits) (s : Table (Unit {0}) View) (kept : IsKept l s) (id : ℕ) (v : View)
    (here : get_elem? s.views id ≡ some v) (unspent : v.spent ≡ false)
    (from : ℕ) (w : View) (apart : from ≢ id) (there : get_elem? s.views from ≡ some w) (live : w.spent ≡ false) where
  left_knows : Knows l kept.history v
  left_knows = kept.each id v here unspent

  right_knows : Knows l kept.history w
  right_knows = kept.each from w there live

  long : IsLonger v.seen w.seen kept.history
  long = longer_of v.seen w.seen kept.history left_knows.begins right_knows.begins

  left_between : (n : CallerNo) → HasBit v.numbers n.0 → mine n (longer v.seen w.seen) ≡ mine n v.seen
  left_between n has =
      mine_between n v.seen (longer v.seen w.seen) kept.history long.first long.whole (left_knows.own n has)

  right_between : (n : CallerNo) → HasBit w.numbers n.0 → mine n (longer v.seen w.seen) ≡ mine n w.seen
  right_between n has =
      mine_between n w.seen (longer v.seen w.seen) kept.history long.second long.whole (right_knows.own n has)

  knows_joined : Knows l kept.history (joined_view v w)
  knows_joined = record {
    limits = left_knows.limits;
    begins = long.whole;
    own = λ n has. elim (both_has v.numbers w.numbers n.0 has) [
      | inl first ↦ left_knows.own n first ∙ sym (left_between n first)
      | inr second ↦ right_knows.own n second ∙ sym (right_between n second)
    ];
    callers = λ n has. elim (both_has v.numbers w.numbers n has) [
      | inl first ↦ left_knows.callers n first
      | inr second ↦ right_knows.callers n second
    ];
    drawn = λ n has. elim (both_has v.numbers w.numbers n has) [
      | inl first ↦ left_knows.drawn n first
      | inr second ↦ right_knows.drawn n second
    ];
    halves = both_of (StandsIn (longer v.seen w.seen)) (half v) (half w)
        record { begins = long.first; own = left_between }
        record { begins = long.second; own = right_between };
  }

  -- a seat of the table after it: the joined one, the spent one, or another seat as it was
  pub data Seat (j : ℕ) (u : View) : Type 0 where
    joined : j ≡ id → joined_view v w ≡ u → Seat j u
    spent : j ≡ from → spent_view ≡ u → Seat j u
    other : j ≢ from → j ≢ id → get_elem? s.views j ≡ some u → Seat j u

  seat_at : (j : ℕ) (u : View) → get_elem? (set (set s.views id (joined_view v w)) from spent_view) j ≡ some u
      → Seat j u
  seat_at j u at = elim (at_set (set s.views id (joined_view v w)) from j spent_view u at) [
    | inl same ↦ spent same.0 same.1
    | inr else ↦ elim (at_set s.views id j (joined_view v w) u else.1) [
      | inl same ↦ joined same.0 same.1
      | inr else' ↦ other else.0 else'.0 else'.1
    ]
  ]

  each : (j : ℕ) (u : View) → Seat j u → u.spent ≡ false → Knows l kept.history u
  each j u (joined i e) alive = subst (Knows l kept.history) e knows_joined
  each j u (spent i e) alive = let clash : true ≡ false = ap (λ x. x.spent) e ∙ alive in absurd cc
  each j u (other ne ne' at) alive = kept.each j u at alive

  -- a number that the joined seat has is in no other
  no_other : (j : ℕ) (u : View) (n : ℕ) → j ≢ from → j ≢ id → get_elem? s.views j ≡ some u → HasBit u.numbers n
      → HasBit (bit_or v.numbers w.numbers) n → ⊥
  no_other j u n ne ne' at has has' = elim (both_has v.numbers w.numbers n has') [
    | inl first ↦ ne' (kept.one_seat j id u v n at here has first)
    | inr second ↦ ne (kept.one_seat j from u w n at there has second)
  ]

  one_seat : (i j : ℕ) (x y : View) (n : ℕ) → Seat i x → Seat j y → HasBit x.numbers n → HasBit y.numbers n → i ≡ j
  one_seat i j x y n (spent p e) seat hx hy = absurd (none_has n (subst (λ u. HasBit u.numbers n) (sym e) hx))
  one_seat i j x y n seat (spent q f) hx hy = absurd (none_has n (subst (λ u. HasBit u.numbers n) (sym f) hy))
  one_seat i j x y n (joined p e) (joined q f) hx hy = p ∙ sym q
  one_seat i j x y n (joined p e) (other ne ne' at) hx hy =
      absurd (no_other j y n ne ne' at hy (subst (λ u. HasBit u.numbers n) (sym e) hx))
  one_seat i j x y n (other ne ne' at) (joined q f) hx hy =
      absurd (no_other i x n ne ne' at hx (subst (λ u. HasBit u.numbers n) (sym f) hy))
  one_seat i j x y n (other ne ne' at) (other me me' at') hx hy = kept.one_seat i j x y n at at' hx hy

  spent_empty : (j : ℕ) (u : View) → Seat j u → u.spent ≡ true → u.numbers ≡ 0
  spent_empty j u (joined i e) is_spent = let clash : true ≡ false =
      sym is_spent ∙ (ap (λ x. x.spent) (sym e) ∙ unspent) in absurd cc
  spent_empty j u (spent i e) is_spent = ap (λ x. x.numbers) (sym e)
  spent_empty j u (other ne ne' at) is_spent = kept.spent_empty j u at is_spent

  none_alone : (j : ℕ) (u : View) → Seat j u → u.alone ≡ true → ⊥
  none_alone j u (joined i e) alone = let clash : true ≡ false = sym alone ∙ ap (λ x. x.alone) (sym e) in cc
  none_alone j u (spent i e) alone = let clash : true ≡ false = sym alone ∙ ap (λ x. x.alone) (sym e) in cc
  none_alone j u (other ne ne' at) alone = not_alone l s kept id v here unspent j u ne' at alone

  joined_at : get_elem? (set (set s.views id (joined_view v w)) from spent_view) id ≡ some (joined_view v w)
  joined_at = set_else (set s.views id (joined_view v w)) from id spent_view (λ e. apart (sym e))
      ∙ set_at_own s.views id v (joined_view v w) here

  -- whichever of the two has seen the whole, the joined one has
  whole_of : (xs : List Event) → xs ≡ kept.history → IsPrefix xs (longer v.seen w.seen)
      → longer v.seen w.seen ≡ kept.history
  whole_of xs is begins =
      sym (prefix_both kept.history (longer v.seen w.seen) (subst (λ es. IsPrefix es (longer v.seen w.seen)) is begins)
      long.whole)

  its_other : (j : ℕ) (u : View) → get_elem? s.views j ≡ some u → j ≡ from → u ≡ w
  its_other j u at e = some-injective u w (sym at ∙ (ap (get_elem? s.views) e ∙ there))

  longest : IsSeenWhole (set (set s.views id (joined_view v w)) from spent_view) kept.history
  longest = by_test (kept.longest.seat == id) (kept.longest.seat == from) refl refl
    where
      by_joined : (joined_view v w).seen ≡ kept.history
          → IsSeenWhole (set (set s.views id (joined_view v w)) from spent_view) kept.history
      by_joined whole =
          record { seat = id; view = joined_view v w; there = joined_at; unspent = unspent; whole = whole }

      by_test : (t t' : Bool) → (kept.longest.seat == id) ≡ t → (kept.longest.seat == from) ≡ t'
          → IsSeenWhole (set (set s.views id (joined_view v w)) from spent_view) kept.history
      by_test true t' e e' =
          by_joined
          (whole_of v.seen
          (ap (λ x. x.seen)
          (sym (its_own l s kept id v here unspent kept.longest.seat kept.longest.view kept.longest.there
          (eqb-true kept.longest.seat id e))) ∙ kept.longest.whole) long.first)
      by_test false true e e' =
          by_joined
          (whole_of w.seen
          (ap (λ x. x.seen)
          (sym (its_other kept.longest.seat kept.longest.view kept.longest.there
          (eqb-true kept.longest.seat from e'))) ∙ kept.longest.whole) long.second)
      by_test false false e e' = record {
        seat = kept.longest.seat;
        view = kept.longest.view;
        there =
            set_else (set s.views id (joined_view v w)) from kept.longest.seat spent_view
            (eqb-false kept.longest.seat from e')
            ∙ (set_else s.views id kept.longest.seat (joined_view v w) (eqb-false kept.longest.seat id e)
            ∙ kept.longest.there);
        unspent = kept.longest.unspent;
        whole = kept.longest.whole;
      }

  pub brought_together : IsKept l record {
    words = s.words;
    homes = s.homes;
    views = set (set s.views id (joined_view v w)) from spent_view;
  }
  brought_together = record {
    fit = kept.fit;
    history = kept.history;
    legal = kept.legal;
    longest = longest;
    wide = kept.wide;
    encoded = kept.encoded;
    limits = kept.limits;
    each = λ j u at. each j u (seat_at j u at);
    one_seat = λ i j x y n at_i at_j. one_seat i j x y n (seat_at i x at_i) (seat_at j y at_j);
    spent_empty = λ j u at. spent_empty j u (seat_at j u at);
    undrawn = kept.undrawn;
    alone = λ j u at alone. absurd (none_alone j u (seat_at j u at) alone);
    others_spent = λ i j x y at_i alone at_j ne. absurd (none_alone i x (seat_at i x at_i) alone);
  }

pub joins : (l : Limits) (id from : ℕ) (v w : View) → v.spent ≡ false → w.spent ≡ false
    → Joins (IsKept l) id v from w (joined_view v w) spent_view
joins l id from v w unspent live s kept here apart there =
    brought_together l s kept id v here unspent from w apart
    (sym (set_else s.views id from (joined_view v w) apart) ∙ there) live

-- ---- the look after it

pub recalls_allowed : (l : Limits) (slots id : ℕ) (v : View) (carried : _) (i : ℕ) → v.spent ≡ false
    → Allows (IsKept l) slots id (v, carried) i (λ n. n) (λ _ after. (after.1 ≡ carried) × Recalls v after.0)
recalls_allowed l slots id v carried i unspent s kept homes at fits =
    let known = kept.each id v at unspent in
    let w : View = record v { halves = [] } in
    let knows : Knows l kept.history w = record {
      limits = known.limits;
      begins = known.begins;
      own = known.own;
      callers = known.callers;
      drawn = known.drawn;
      halves = λ k d h. absurd (omega arith);
    } in
    let legal : IsLegal l v.seen = legal_beginning l v.seen known.begins.0
    (subst (IsLegal l) (sym known.begins.1) kept.legal) in (
      w,
      keeps,
      tt,
      looked l s kept id v at unspent w knows refl refl unspent (prefix_self v.seen)
          (set s.words i (get_or s.words i 0)) (set-get_or s.words i 0) s.homes,
      (
        refl,
        record {
          halves = known.halves;
          legal = subst (λ l'. IsLegal l' v.seen) (sym known.limits) legal;
          after = refl;
        },
      ),
    )

-- what is told after a joining gives its clause
pub joins_clause : (w : Words) (p p' q : Pass) → IsPassOf w p → IsPassOf w p' → q.seat.table_id ≡ p.seat.table_id
    → Recalls (joined_view (view_of p) (view_of p')) (view_of q) → JoinsPasses w p p' q
joins_clause w p p' q pass other_pass table recalls =
    let sight : seen q ≡ longer (seen p) (seen p') = ap (λ x. x.seen) recalls.after in
    let numbers : numbers_of q ≡ bit_or (numbers_of p) (numbers_of p') = ap (λ x. x.numbers) recalls.after in
    let first : StandsIn (seen q) (half (view_of p)) = subst (λ es. StandsIn es (half (view_of p))) (sym sight)
    (recalls.halves 0 (half (view_of p)) (omega arith)) in
    let second : StandsIn (seen q) (half (view_of p')) = subst (λ es. StandsIn es (half (view_of p'))) (sym sight)
    (recalls.halves 1 (half (view_of p)) (omega arith)) in
    let split_number : (n : CallerNo) → Holds q n
    → Holds p n
    ⊎ Holds p' n = λ n has. both_has (numbers_of p) (numbers_of p') n.0
    (subst (λ (k : ℕ). HasBit k n.0) numbers has) in
    record {
      pass = record {
        table = table ∙ pass.table;
        limits = ap (λ x. x.limits) recalls.after ∙ pass.limits;
        legal = subst (IsLegal w.limits) (sym sight)
            (subst (λ l. IsLegal l (longer (seen p) (seen p'))) pass.limits recalls.legal);
        callers = λ n has.
            elim (split_number n has) [ inl at_p ↦ pass.callers n at_p | inr at_other ↦ other_pass.callers n at_other ];
      };
      sight = sight;
      stands = record { begins = first.begins; own = first.own };
      other_stands = record { begins = second.begins; own = second.own };
      numbers = λ n. (
        split_number n,
        λ either. subst (λ (k : ℕ). HasBit k n.0) (sym numbers) (elim either [
          | inl at_p ↦ left_has (numbers_of p) (numbers_of p') n.0 at_p
          | inr at_other ↦ right_has (numbers_of p) (numbers_of p') n.0 at_other
        ]),
      );
    }
