-- What keeps the table's rule: one event more, by any seat; and a seat that sees more of the history.
use Rattle.std.proofs.Common.{◌≡◌, ◌≢◌, ℕ, zero, suc, ◌==◌, ◌<◌, Bool, true, false, inl, inr, List, [], ◌∷◌, ◌++◌}
use Rattle.std.proofs.Common.{length, set, get_or, refl, ap, sym, ◌∙◌, subst, arith, eqb-true, ne_eqb, length-set}
use Rattle.std.proofs.Common.{get_or-set_same, get_or-set_other}
use Rattle.std.specs.Prelude.{All}
use Rattle.std.proofs.lemmas.Bool.{eqb-false}
use mathlib.Core.List.{IsPrefix}
use mathlib.Core.Option.{some, some-injective, some-ne-none}
use lib.ListN.{get_elem?}
use Rattle.atomic_table.specs.Table.{State as Table}
use Rattle.atomic_table.proofs.Lists.{at_set, set_else}
use Rattle.nio_base.specs.declared.limits.Limits.{Limits}
use Rattle.nio_base.specs.declared.numbers.CallerNo.{CallerNo}
use Rattle.nio_history.proofs.Lasts.{drawn_lasts}
use Rattle.nio_history.proofs.Legal.{legal_more}
use Rattle.nio_history.proofs.OneMore.{state_after-more, mine-other}
use Rattle.nio_history.specs.Acts.{effect}
use Rattle.nio_history.specs.Histories.{state_after, is_by, mine, IsStep, IsLegal}
use Rattle.nio_history.specs.declared.event.Event.{Event}
use Rattle.nio_history.proofs.Clauses.{prefix_trans}
use Rattle.nio_words.proofs.Apart.{apart, proper-apart}
use Rattle.nio_words.proofs.Beginnings.{prefix_self, prefix_both}
use Rattle.nio_words.proofs.Places.{place_inside, same_part, place-limits}
use Rattle.nio_words.specs.Encodings.{encoding, bound, IsProper}
use Rattle.nio_words.specs.Parts.{part_of}
use Rattle.nio_words.specs.Places.{IsWithin, place}
use Rattle.nio_words.specs.Rule.{HasBit, StandsIn, Knows, IsEncoded, IsSeenWhole, IsKept}
use Rattle.nio_words.specs.declared.part.Part.{Part}
use Rattle.nio_words.specs.declared.view.View.{View}

-- what is put at a place that is there is there
pub set_at_own : {A : Type 0} (xs : List A) (i : ℕ) (x y : A) → get_elem? xs i ≡ some x
    → get_elem? (set xs i y) i ≡ some y
set_at_own [] i x y at = absurd (some-ne-none x (sym at))
set_at_own (z ∷ xs) zero x y at = refl
set_at_own (z ∷ xs) (suc i) x y at = set_at_own xs i x y at

-- no seat but id has the number
abbrev pub Elsewhere : List View → ℕ → ℕ → Type 0
Elsewhere views id n = (j : ℕ) (u : View) → j ≢ id → get_elem? views j ≡ some u → HasBit u.numbers n → ⊥

-- what an event more at the end of the history asks of the seat that adds it, and of its new view
pub record AddsTo (l : Limits) (s : Table (Unit {0}) View) (history : List Event) (id : ℕ) (v w : View)
    (e : Event) : Type 0 where
  pub step : IsStep l history e
  pub caller_drawn : (effect (state_after history) e.caller e.act).drawn e.caller.0 ≡ true
  pub caller_here : Elsewhere s.views id e.caller.0
  pub seen : w.seen ≡ history ++ e ∷ []
  pub limits : w.limits ≡ l
  pub alone : w.alone ≡ v.alone
  pub unspent : w.spent ≡ false
  pub halves : w.halves ≡ []
  pub callers : (n : ℕ) → HasBit w.numbers n → n < l.callers
  pub drawn : (n : ℕ) → HasBit w.numbers n → (effect (state_after history) e.caller e.act).drawn n ≡ true
  pub numbers : (n : ℕ) → HasBit w.numbers n → Elsewhere s.views id n

not_by : (n : CallerNo) (e : Event) → e.caller.0 ≢ n.0 → is_by n e ≡ false
not_by n e ne = ne_eqb e.caller.0 n.0 ne

module _ (l : Limits) (s : Table (Unit {0}) View) (kept : IsKept l s) (id : ℕ) (v : View)
    (here : get_elem? s.views id ≡ some v) (unspent : v.spent ≡ false) where
  -- the seat's own view
  pub its_own : (j : ℕ) (u : View) → get_elem? s.views j ≡ some u → j ≡ id → u ≡ v
  its_own j u at e = some-injective u v (sym at ∙ (ap (get_elem? s.views) e ∙ here))

  -- a number that the seat has is nowhere else
  pub held_here : (n : ℕ) → HasBit v.numbers n → Elsewhere s.views id n
  held_here n has j u ne at has' = ne (kept.one_seat j id u v n at here has' has)

  -- where another seat is the only one, this one is spent
  pub not_alone : (j : ℕ) (u : View) → j ≢ id → get_elem? s.views j ≡ some u → u.alone ≡ true → ⊥
  not_alone j u ne at alone =
      let spent : v.spent ≡ true = kept.others_spent j id u v at alone here (λ e. ne (sym e)) in
      let clash : true ≡ false = sym spent ∙ unspent in
      cc

  -- a new view of the seat, which isn't spent, and alone where the old one is
  module _ (w : View) (same_alone : w.alone ≡ v.alone) (live : w.spent ≡ false) where
    spent_empty : (j : ℕ) (u : View) → get_elem? (set s.views id w) j ≡ some u → u.spent ≡ true → u.numbers ≡ 0
    spent_empty j u at is_spent = elim (at_set s.views id j w u at) [
      | inl same ↦ let clash : true ≡ false = sym is_spent ∙ (ap (λ x. x.spent) (sym same.1) ∙ live) in
          absurd cc
      | inr other ↦ kept.spent_empty j u other.1 is_spent
    ]

    others_spent : (i j : ℕ) (x y : View) → get_elem? (set s.views id w) i ≡ some x → x.alone ≡ true
        → get_elem? (set s.views id w) j ≡ some y → j ≢ i → y.spent ≡ true
    others_spent i j x y at_i is_alone at_j ne = elim (at_set s.views id i w x at_i) [
      | inl same ↦ elim (at_set s.views id j w y at_j) [
        | inl same' ↦ absurd (ne (same'.0 ∙ sym same.0))
        | inr other' ↦ kept.others_spent id j v y here (sym same_alone ∙ (ap (λ u. u.alone) same.1 ∙ is_alone)) other'.1
            other'.0
      ]
      | inr other ↦ absurd (not_alone i x other.0 other.1 is_alone)
    ]

  module _ (w : View) (e : Event) (p : Part) (new : ℕ) (adds : AddsTo l s kept.history id v w e) (within : IsWithin l p)
      (part : part_of e.act ≡ p) (word : new ≡ encoding (effect (state_after kept.history) e.caller e.act) p)
      (small : new < bound p) (proper : IsProper (effect (state_after kept.history) e.caller e.act) p) where
    state-after : state_after (kept.history ++ e ∷ []) ≡ effect (state_after kept.history) e.caller e.act
    state-after = state_after-more kept.history e

    legal : IsLegal l (kept.history ++ e ∷ [])
    legal = legal_more l kept.history e kept.legal adds.step

    still_drawn : (n : ℕ) → (state_after kept.history).drawn n ≡ true
        → (state_after (kept.history ++ e ∷ [])).drawn n ≡ true
    still_drawn n h =
        subst (λ st. st.drawn n ≡ true) (sym state-after) (drawn_lasts (state_after kept.history) e.caller e.act n h)

    encoded_here : IsEncoded l (kept.history ++ e ∷ []) (set s.words (place l p) new) p
    encoded_here =
        let there : get_or (set s.words (place l p) new) (place l p) 0 ≡ new = get_or-set_same s.words (place l p) new 0
        (subst (λ (k : ℕ). place l p < k) (sym kept.wide) (place_inside l p within)) in
        record {
          word = there ∙ (word ∙ ap (λ st. encoding st p) (sym state-after));
          small = subst (λ (k : ℕ). k < bound p) (sym there) small;
          proper = subst (λ st. IsProper st p) (sym state-after) proper;
        }

    encoded_there : (q : Part) → IsWithin l q → place l q ≢ place l p
        → IsEncoded l (kept.history ++ e ∷ []) (set s.words (place l p) new) q
    encoded_there q h ne =
        let old = kept.encoded q h in
        let there : get_or (set s.words (place l p) new) (place l q) 0 ≡ get_or s.words (place l q) 0 =
        get_or-set_other s.words (place l p) (place l q) new 0 ne in
        let apart' : encoding (effect (state_after kept.history) e.caller e.act) q
        ≡ encoding (state_after kept.history) q = apart (state_after kept.history) e.caller e.act q
        (λ same. ne (ap (place l) (same ∙ part))) in
        record {
          word = there ∙ (old.word ∙ (sym apart' ∙ ap (λ st. encoding st q) (sym state-after)));
          small = subst (λ (k : ℕ). k < bound q) (sym there) old.small;
          proper = subst (λ st. IsProper st q) (sym state-after)
              (proper-apart (state_after kept.history) e.caller e.act q (λ same. ne (ap (place l) (same ∙ part)))
              old.proper);
        }

    encoded : (q : Part) → IsWithin l q → IsEncoded l (kept.history ++ e ∷ []) (set s.words (place l p) new) q
    encoded q h = by_test (place l q == place l p) refl
      where
        by_test : (b : Bool) → (place l q == place l p) ≡ b
            → IsEncoded l (kept.history ++ e ∷ []) (set s.words (place l p) new) q
        by_test true same =
            subst (IsEncoded l (kept.history ++ e ∷ []) (set s.words (place l p) new))
            (sym (same_part l q p h within (eqb-true (place l q) (place l p) same))) encoded_here
        by_test false other = encoded_there q h (eqb-false (place l q) (place l p) other)

    knows_new : Knows l (kept.history ++ e ∷ []) w
    knows_new = record {
      limits = adds.limits;
      begins = subst (λ es. IsPrefix es (kept.history ++ e ∷ [])) (sym adds.seen)
          (prefix_self (kept.history ++ e ∷ []));
      own = λ n has. ap (mine n) (sym adds.seen);
      callers = adds.callers;
      drawn = λ n has. subst (λ st. st.drawn n ≡ true) (sym state-after) (adds.drawn n has);
      halves = subst (All (StandsIn w.seen)) (sym adds.halves) (λ k d h. absurd (omega arith));
    }

    knows_other : (j : ℕ) (u : View) → j ≢ id → get_elem? s.views j ≡ some u → u.spent ≡ false
        → Knows l (kept.history ++ e ∷ []) u
    knows_other j u ne at live =
        let old = kept.each j u at live in
        record {
          limits = old.limits;
          begins = prefix_trans u.seen kept.history (kept.history ++ e ∷ []) old.begins (e ∷ [], refl);
          own = λ n has. mine-other n kept.history e
              (not_by n e (λ same. adds.caller_here j u ne at (subst (HasBit u.numbers) (sym same) has)))
              ∙ old.own n has;
          callers = old.callers;
          drawn = λ n has. still_drawn n (old.drawn n has);
          halves = old.halves;
        }

    each : (j : ℕ) (u : View) → get_elem? (set s.views id w) j ≡ some u → u.spent ≡ false
        → Knows l (kept.history ++ e ∷ []) u
    each j u at live = elim (at_set s.views id j w u at) [
      | inl same ↦ subst (Knows l (kept.history ++ e ∷ [])) same.1 knows_new
      | inr other ↦ knows_other j u other.0 other.1 live
    ]

    one_seat : (i j : ℕ) (x y : View) (n : ℕ) → get_elem? (set s.views id w) i ≡ some x
        → get_elem? (set s.views id w) j ≡ some y → HasBit x.numbers n → HasBit y.numbers n → i ≡ j
    one_seat i j x y n at_i at_j has_i has_j = elim (at_set s.views id i w x at_i) [
      | inl same ↦ elim (at_set s.views id j w y at_j) [
        | inl same' ↦ same.0 ∙ sym same'.0
        | inr other' ↦ absurd
            (adds.numbers n (subst (λ u. HasBit u.numbers n) (sym same.1) has_i) j y other'.0 other'.1 has_j)
      ]
      | inr other ↦ elim (at_set s.views id j w y at_j) [
        | inl same' ↦ absurd
            (adds.numbers n (subst (λ u. HasBit u.numbers n) (sym same'.1) has_j) i x other.0 other.1 has_i)
        | inr other' ↦ kept.one_seat i j x y n other.1 other'.1 has_i has_j
      ]
    ]

    undrawn : (n : CallerNo) → (state_after (kept.history ++ e ∷ [])).drawn n.0 ≡ false
        → mine n (kept.history ++ e ∷ []) ≡ []
    undrawn n h =
        let now : (effect (state_after kept.history) e.caller e.act).drawn n.0
        ≡ false = subst (λ st. st.drawn n.0 ≡ false) state-after h in
        let other : e.caller.0 ≢ n.0 = λ same. let clash : true
        ≡ false = sym
        (subst (λ (k : ℕ). (effect (state_after kept.history) e.caller e.act).drawn k ≡ true) same
        adds.caller_drawn) ∙ now in cc in
        mine-other n kept.history e (not_by n e other)
        ∙ kept.undrawn n (before ((state_after kept.history).drawn n.0) refl)
      where
        before : (b : Bool) → (state_after kept.history).drawn n.0 ≡ b → (state_after kept.history).drawn n.0 ≡ false
        before true was = let clash : true ≡ false = sym (still_drawn n.0 was) ∙ h in cc
        before false was = was

    alone : (j : ℕ) (u : View) → get_elem? (set s.views id w) j ≡ some u → u.alone ≡ true
        → u.seen ≡ kept.history ++ e ∷ []
    alone j u at is_alone = elim (at_set s.views id j w u at) [
      | inl same ↦ ap (λ x. x.seen) (sym same.1) ∙ adds.seen
      | inr other ↦ absurd (not_alone j u other.0 other.1 is_alone)
    ]

    -- one event more keeps the rule
    pub added : (homes : _)
        → IsKept l record { words = set s.words (place l p) new; homes = homes; views = set s.views id w }
    added homes = record {
      fit = kept.fit;
      history = kept.history ++ e ∷ [];
      legal = legal;
      longest = record { seat = id; view = w; there = set_here'; unspent = adds.unspent; whole = adds.seen };
      wide = length-set s.words (place l p) new ∙ kept.wide;
      encoded = encoded;
      limits = get_or-set_other s.words (place l p) 1 new 0 (λ same. place-limits l p within (sym same)) ∙ kept.limits;
      each = each;
      one_seat = one_seat;
      spent_empty = spent_empty w adds.alone adds.unspent;
      undrawn = undrawn;
      alone = alone;
      others_spent = others_spent w adds.alone adds.unspent;
    }
      where
        set_here' : get_elem? (set s.views id w) id ≡ some w
        set_here' = set_at_own s.views id v w here

  -- what a seat sees more of the history without a step keeps the rule
  module _ (w : View) (knows : Knows l kept.history w) (numbers : w.numbers ≡ v.numbers)
      (same_alone : w.alone ≡ v.alone) (live : w.spent ≡ false) (further : IsPrefix v.seen w.seen) where
    seen_whole : v.seen ≡ kept.history → w.seen ≡ kept.history
    seen_whole whole =
        sym (prefix_both kept.history w.seen (subst (λ es. IsPrefix es w.seen) whole further) knows.begins)

    longest_seen : IsSeenWhole (set s.views id w) kept.history
    longest_seen = by_test (kept.longest.seat == id) refl
      where
        by_test : (b : Bool) → (kept.longest.seat == id) ≡ b → IsSeenWhole (set s.views id w) kept.history
        by_test true e = record {
          seat = id;
          view = w;
          there = set_at_own s.views id v w here;
          unspent = live;
          whole = seen_whole
              (ap (λ x. x.seen)
              (sym (its_own kept.longest.seat kept.longest.view kept.longest.there
              (eqb-true kept.longest.seat id e))) ∙ kept.longest.whole);
        }
        by_test false e = record {
          seat = kept.longest.seat;
          view = kept.longest.view;
          there = set_else s.views id kept.longest.seat w (eqb-false kept.longest.seat id e) ∙ kept.longest.there;
          unspent = kept.longest.unspent;
          whole = kept.longest.whole;
        }

    pub looked : (words : List ℕ) → words ≡ s.words → (homes : _)
        → IsKept l record { words = words; homes = homes; views = set s.views id w }
    looked words same_words homes = record {
      fit = kept.fit;
      history = kept.history;
      legal = kept.legal;
      longest = longest_seen;
      wide = ap length same_words ∙ kept.wide;
      encoded = λ p h. subst (λ ws. IsEncoded l kept.history ws p) (sym same_words) (kept.encoded p h);
      limits = ap (λ ws. get_or ws 1 0) same_words ∙ kept.limits;
      each = λ j u at alive. elim (at_set s.views id j w u at) [
        | inl same ↦ subst (Knows l kept.history) same.1 knows
        | inr other ↦ kept.each j u other.1 alive
      ];
      one_seat = λ i j x y n at_i at_j has_i has_j. kept.one_seat i j (before i x at_i).0 (before j y at_j).0 n
          (was_at i x at_i) (was_at j y at_j) (was_has i x at_i n has_i) (was_has j y at_j n has_j);
      spent_empty = spent_empty w same_alone live;
      undrawn = kept.undrawn;
      alone = λ j u at is_alone. elim (at_set s.views id j w u at) [
        | inl same ↦ ap (λ x. x.seen) (sym same.1)
            ∙ seen_whole (kept.alone id v here (sym same_alone ∙ (ap (λ x. x.alone) same.1 ∙ is_alone)))
        | inr other ↦ absurd (not_alone j u other.0 other.1 is_alone)
      ];
      others_spent = others_spent w same_alone live;
    }
      where
        before : (j : ℕ) (u : View) → get_elem? (set s.views id w) j ≡ some u
            → (u' : View) × (get_elem? s.views j ≡ some u') × (u'.numbers ≡ u.numbers)
        before j u at = elim (at_set s.views id j w u at) [
          | inl same ↦ (v, ap (get_elem? s.views) same.0 ∙ here, sym numbers ∙ ap (λ x. x.numbers) same.1)
          | inr other ↦ (u, other.1, refl)
        ]

        was_at : (j : ℕ) (u : View) → (at : get_elem? (set s.views id w) j ≡ some u)
            → get_elem? s.views j ≡ some (before j u at).0
        was_at j u at = (before j u at).1

        was_has : (j : ℕ) (u : View) → (at : get_elem? (set s.views id w) j ≡ some u) → (n : ℕ) → HasBit u.numbers n
            → HasBit (before j u at).0.numbers n
        was_has j u at n has = subst (λ (k : ℕ). HasBit k n) (sym (before j u at).2) has
