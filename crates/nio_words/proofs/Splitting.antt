-- A seat that is split keeps the table's rule.
use Rattle.std.proofs.Common.{◌≡◌, ◌≢◌, ℕ, zero, suc, ◌==◌, Bool, true, false, ◌⊎◌, inl, inr, List, [], ◌∷◌, ◌++◌}
use Rattle.std.proofs.Common.{length, set, refl, ap, sym, ◌∙◌, subst, arith, eqb-true, length-set}
use Rattle.std.proofs.lemmas.Bool.{eqb-false}
use mathlib.Core.Option.{some, some-injective, some-ne-none}
use lib.ListN.{get_elem?}
use Rattle.atomic_table.specs.Table.{State as Table, Splits}
use Rattle.atomic_table.proofs.Lists.{at_set, set_else, at_longer}
use Rattle.nio_base.specs.declared.limits.Limits.{Limits}
use Rattle.nio_words.proofs.Keeps.{set_at_own, its_own, not_alone}
use Rattle.nio_words.specs.Rule.{HasBit, Knows, IsSeenWhole, IsKept, split_view}
use Rattle.nio_words.specs.declared.view.View.{View}

-- an element of a list with one more at its end is that one, or one of the list
at_end : {A : Type 0} (xs : List A) (x : A) (j : ℕ) (y : A) → get_elem? (xs ++ x ∷ []) j ≡ some y
    → (get_elem? xs j ≡ some y) ⊎ ((j ≡ length xs) × (x ≡ y))
at_end [] x zero y at = inr (refl, some-injective x y at)
at_end [] x (suc j) y at = absurd (some-ne-none y (sym at))
at_end (z ∷ xs) x zero y at = inl at
at_end (z ∷ xs) x (suc j) y at = elim (at_end xs x j y at) [ inl old ↦ inl old | inr new ↦ inr (ap suc new.0, new.1) ]

module _ (l : Limits) (s : Table (Unit {0}) View) (kept : IsKept l s) (id : ℕ) (v : View)
    (here : get_elem? s.views id ≡ some v) (unspent : v.spent ≡ false)
    (a b : ℕ) (of_a : (n : ℕ) → HasBit a n → HasBit v.numbers n) (of_b : (n : ℕ) → HasBit b n → HasBit v.numbers n)
    (not_both : (n : ℕ) → HasBit a n → HasBit b n → ⊥) where
  knows_part : (numbers : ℕ) → ((n : ℕ) → HasBit numbers n → HasBit v.numbers n)
      → Knows l kept.history (split_view numbers v)
  knows_part numbers of_it =
      let known = kept.each id v here unspent in
      record {
        limits = known.limits;
        begins = known.begins;
        own = λ n has. known.own n (of_it n.0 has);
        callers = λ n has. known.callers n (of_it n has);
        drawn = λ n has. known.drawn n (of_it n has);
        halves = λ k d h. absurd (omega arith);
      }

  -- a seat of the table after it: the left part, the right part, or another seat as it was
  pub data Seat (j : ℕ) (u : View) : Type 0 where
    left : j ≡ id → split_view a v ≡ u → Seat j u
    right : j ≡ length s.views → split_view b v ≡ u → Seat j u
    other : j ≢ id → get_elem? s.views j ≡ some u → Seat j u

  seat_at : (j : ℕ) (u : View) → get_elem? (set s.views id (split_view a v) ++ split_view b v ∷ []) j ≡ some u
      → Seat j u
  seat_at j u at = elim (at_end (set s.views id (split_view a v)) (split_view b v) j u at) [
    | inl old ↦ elim (at_set s.views id j (split_view a v) u old) [
      | inl same ↦ left same.0 same.1
      | inr
          else ↦ other else.0 else.1
    ]
    | inr new ↦ right (new.0 ∙ length-set s.views id (split_view a v)) new.1
  ]

  each : (j : ℕ) (u : View) → Seat j u → u.spent ≡ false → Knows l kept.history u
  each j u (left i e) live = subst (Knows l kept.history) e (knows_part a of_a)
  each j u (right i e) live = subst (Knows l kept.history) e (knows_part b of_b)
  each j u (other ne at) live = kept.each j u at live

  elsewhere : (j : ℕ) (u : View) → j ≢ id → get_elem? s.views j ≡ some u → (n : ℕ) → HasBit u.numbers n
      → HasBit v.numbers n → ⊥
  elsewhere j u ne at n has has' = ne (kept.one_seat j id u v n at here has has')

  one_seat : (i j : ℕ) (x y : View) (n : ℕ) → Seat i x → Seat j y → HasBit x.numbers n → HasBit y.numbers n → i ≡ j
  one_seat i j x y n (left p e) (left q f) hx hy = p ∙ sym q
  one_seat i j x y n (left p e) (right q f) hx hy =
      absurd (not_both n (subst (λ u. HasBit u.numbers n) (sym e) hx) (subst (λ u. HasBit u.numbers n) (sym f) hy))
  one_seat i j x y n (left p e) (other ne at) hx hy =
      absurd (elsewhere j y ne at n hy (of_a n (subst (λ u. HasBit u.numbers n) (sym e) hx)))
  one_seat i j x y n (right p e) (left q f) hx hy =
      absurd (not_both n (subst (λ u. HasBit u.numbers n) (sym f) hy) (subst (λ u. HasBit u.numbers n) (sym e) hx))
  one_seat i j x y n (right p e) (right q f) hx hy = p ∙ sym q
  one_seat i j x y n (right p e) (other ne at) hx hy =
      absurd (elsewhere j y ne at n hy (of_b n (subst (λ u. HasBit u.numbers n) (sym e) hx)))
  one_seat i j x y n (other ne at) (left q f) hx hy =
      absurd (elsewhere i x ne at n hx (of_a n (subst (λ u. HasBit u.numbers n) (sym f) hy)))
  one_seat i j x y n (other ne at) (right q f) hx hy =
      absurd (elsewhere i x ne at n hx (of_b n (subst (λ u. HasBit u.numbers n) (sym f) hy)))
  one_seat i j x y n (other ne at) (other ne' at') hx hy = kept.one_seat i j x y n at at' hx hy

  spent_empty : (j : ℕ) (u : View) → Seat j u → u.spent ≡ true → u.numbers ≡ 0
  spent_empty j u (left i e) spent = let clash : true ≡ false = sym spent ∙ (ap (λ x. x.spent) (sym e) ∙ unspent) in
      absurd cc
  spent_empty j u (right i e) spent = let clash : true ≡ false = sym spent ∙ (ap (λ x. x.spent) (sym e) ∙ unspent) in
      absurd cc
  spent_empty j u (other ne at) spent = kept.spent_empty j u at spent

  -- none is the only one
  none_alone : (j : ℕ) (u : View) → Seat j u → u.alone ≡ true → ⊥
  none_alone j u (left i e) alone = let clash : true ≡ false = sym alone ∙ ap (λ x. x.alone) (sym e) in cc
  none_alone j u (right i e) alone = let clash : true ≡ false = sym alone ∙ ap (λ x. x.alone) (sym e) in cc
  none_alone j u (other ne at) alone = not_alone l s kept id v here unspent j u ne at alone

  longest : IsSeenWhole (set s.views id (split_view a v) ++ split_view b v ∷ []) kept.history
  longest = by_test (kept.longest.seat == id) refl
    where
      by_test : (t : Bool) → (kept.longest.seat == id) ≡ t
          → IsSeenWhole (set s.views id (split_view a v) ++ split_view b v ∷ []) kept.history
      by_test true e = record {
        seat = id;
        view = split_view a v;
        there = at_longer (set s.views id (split_view a v)) (split_view b v ∷ []) id (split_view a v)
            (set_at_own s.views id v (split_view a v) here);
        unspent = unspent;
        whole = ap (λ x. x.seen)
            (sym (its_own l s kept id v here unspent kept.longest.seat kept.longest.view kept.longest.there
            (eqb-true kept.longest.seat id e))) ∙ kept.longest.whole;
      }
      by_test false e = record {
        seat = kept.longest.seat;
        view = kept.longest.view;
        there = at_longer (set s.views id (split_view a v)) (split_view b v ∷ []) kept.longest.seat kept.longest.view
            (set_else s.views id kept.longest.seat (split_view a v) (eqb-false kept.longest.seat id e)
            ∙ kept.longest.there);
        unspent = kept.longest.unspent;
        whole = kept.longest.whole;
      }

  pub parted : IsKept l record {
    words = s.words;
    homes = s.homes;
    views = set s.views id (split_view a v) ++ split_view b v ∷ [];
  }
  parted = record {
    fit = kept.fit;
    history = kept.history;
    legal = kept.legal;
    longest = longest;
    wide = kept.wide;
    encoded = kept.encoded;
    limits = kept.limits;
    each = λ j u at. each j u (seat_at j u at);
    one_seat = λ i j x y n at_i at_j. one_seat i j x y n (seat_at i x at_i) (seat_at j y at_j);
    spent_empty = λ j u at. spent_empty j u (seat_at j u at);
    undrawn = kept.undrawn;
    alone = λ j u at alone. absurd (none_alone j u (seat_at j u at) alone);
    others_spent = λ i j x y at_i alone at_j ne. absurd (none_alone i x (seat_at i x at_i) alone);
  }

pub splits : (l : Limits) (id : ℕ) (v : View) (a b : ℕ) → v.spent ≡ false
    → ((n : ℕ) → HasBit a n → HasBit v.numbers n) → ((n : ℕ) → HasBit b n → HasBit v.numbers n)
    → ((n : ℕ) → HasBit a n → HasBit b n → ⊥)
    → Splits (IsKept l) id v (split_view a v) (split_view b v)
splits l id v a b unspent of_a of_b not_both s kept here = parted l s kept id v here unspent a b of_a of_b not_both
