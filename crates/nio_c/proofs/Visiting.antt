-- Each step at the places keeps their rule.
use Rattle.std.proofs.Common.{◌≡◌, ◌≢◌, ◌⊎◌, ℕ, zero, suc, ◌<◌, ◌≤◌, ◌==◌, Bool, true, false, List, [], ◌∷◌, ◌++◌}
use Rattle.std.proofs.Common.{length, set, get_or, refl, sym, ap, ◌∙◌, subst, ⊎_elim, arith, eq-eqb, ne_eqb, length-set, length-append, map, replicate}
use Rattle.std.proofs.Common.{get_or-set_same, get_or-set_other, inl, inr}
use Rattle.std.specs.Prelude.{if◌then◌else◌, MatchBool, Option, None, Some, slice_index}
use mathlib.Core.Option.{none, some, some-ne-none, some-injective, Option as Found}
use native.Mathlib.Decide.{ℕ_discrete}
use prog.Atomic.{either}
use lib.ListN.{get_elem?}
use Rattle.atomic_table.specs.Table.{Act, Allows, Enters, Me, opening, State, Valid, carried_after, gives, keeps, stepped, takes}
use Rattle.atomic_table.proofs.Lists.{at_set, set_else, set_here}
use Rattle.nio_words.specs.declared.words.Words.{Words}
use Rattle.nio_caller.specs.Callers.{Acting}
use Rattle.nio_c.specs.Visits.{AreKept, first_visits, Comes, VisitBy, Frees, HasInHand, IsKeptAs, IsLegal, Leaves, MayMake, Stand, Takes, free, in_hand}
use Rattle.nio_c.specs.Visits.{left, made_by, place_of, stand_after, stand_of, with_visit}
use Rattle.nio_c.specs.declared.visits.Visit.{Visit}
use Rattle.nio_c.specs.declared.visits.Visit.TheVariants as visit
use Rattle.nio_c.specs.declared.visits.Visits.{Visits}

-- ---- how places stand after one visit more

stand_here : (k : ℕ) (last : VisitBy) (all : List VisitBy) → place_of last.visit ≡ k
    → stand_of k (last ∷ all) ≡ stand_after last.who last.visit (stand_of k all)
stand_here k last all e = ap (λ (b : Bool).
    if b then stand_after last.who last.visit (stand_of k all) else stand_of k all) (eq-eqb (place_of last.visit) k e)

stand_elsewhere : (k : ℕ) (last : VisitBy) (all : List VisitBy) → place_of last.visit ≢ k
    → stand_of k (last ∷ all) ≡ stand_of k all
stand_elsewhere k last all ne = ap (λ (b : Bool).
    if b then stand_after last.who last.visit (stand_of k all) else stand_of k all) (ne_eqb (place_of last.visit) k ne)

made_more : (who : ℕ) (x : Visit) (all : List VisitBy)
    → made_by who (record { who = who; visit = x } ∷ all) ≡ x ∷ made_by who all
made_more who x all =
    ap (λ (b : Bool). if b then x ∷ made_by who all else made_by who all) (eq-eqb who who refl)

made_else : (who other : ℕ) (x : Visit) (all : List VisitBy) → who ≢ other
    → made_by other (record { who = who; visit = x } ∷ all) ≡ made_by other all
made_else who other x all ne =
    ap (λ (b : Bool). if b then x ∷ made_by other all else made_by other all) (ne_eqb who other ne)

-- ---- the rule after one visit more

below_length : {A : Type 0} (xs : List A) (i : ℕ) (x : A) → get_elem? xs i ≡ some x → i < length xs
below_length [] i x at = absurd (some-ne-none x (sym at))
below_length (y ∷ ys) zero x at = omega arith
below_length (y ∷ ys) (suc i) x at = let below = below_length ys i x at in omega arith

module _ (table : Words) (s : State (Option Acting) Visits) (kept : AreKept table s) (who : ℕ) (v : Visits)
    (here : get_elem? s.views who ≡ some v) (x : Visit) (i n : ℕ) (inside : i < length s.homes) (at : place_of x ≡ i)
    (homes : List (Found (Option Acting))) (may : MayMake who x (stand_of (place_of x) kept.all))
    (as_long : length homes ≡ length s.homes) (elsewhere : (k : ℕ) → k ≢ i → get_elem? homes k ≡ get_elem? s.homes k)
    (new : IsKeptAs table n (get_elem? homes i) (stand_after who x (stand_of i kept.all))) where
  abbrev last : VisitBy
  last = record { who = who; visit = x }

  abbrev after : State (Option Acting) Visits
  after = record { words = set s.words i n; homes = homes; views = set s.views who (with_visit x v) }

  stands_there : (k : ℕ) → k < length s.homes → Dec (k ≡ i)
      → IsKeptAs table (get_or (set s.words i n) k 0) (get_elem? homes k) (stand_of k (last ∷ kept.all))
  stands_there k below (yes e) = subst (λ (j : ℕ).
      IsKeptAs table (get_or (set s.words i n) j 0) (get_elem? homes j) (stand_of j (last ∷ kept.all))) (sym e)
      (subst (λ (m : ℕ). IsKeptAs table m (get_elem? homes i) (stand_of i (last ∷ kept.all)))
      (sym (get_or-set_same s.words i n 0 (let wide = kept.wide in omega arith)))
      (subst (λ (z : Stand). IsKeptAs table n (get_elem? homes i) z) (sym (stand_here i last kept.all at)) new))
  stands_there k below (no ne) =
      subst (λ (m : ℕ). IsKeptAs table m (get_elem? homes k) (stand_of k (last ∷ kept.all)))
      (sym (get_or-set_other s.words i k n 0 ne))
      (subst (λ (h : Found (Found (Option Acting))). IsKeptAs table (get_or s.words k 0) h (stand_of k (last ∷ kept.all)))
      (sym (elsewhere k ne))
      (subst (λ (z : Stand). IsKeptAs table (get_or s.words k 0) (get_elem? s.homes k) z)
      (sym (stand_elsewhere k last kept.all (λ e. ne (sym e ∙ at)))) (kept.stands k below)))

  known_there : (other : ℕ) (w : Visits) → get_elem? (set s.views who (with_visit x v)) other ≡ some w
      → (w.table ≡ table) × (made_by other (last ∷ kept.all) ≡ w.made)
  known_there other w there = ⊎_elim
      (λ (t : (other ≡ who) × (with_visit x v ≡ w)). (
        ap (λ (u : Visits). u.table) (sym t.1) ∙ (kept.known who v here).0,
        ap (λ (j : ℕ). made_by j (last ∷ kept.all)) t.0 ∙ (made_more who x kept.all
            ∙ (ap (λ (xs : List Visit). x ∷ xs) (kept.known who v here).1 ∙ ap (λ (u : Visits). u.made) t.1)),
      ))
      (λ (t : (other ≢ who) × (get_elem? s.views other ≡ some w)).
      ((kept.known other w t.1).0, made_else who other x kept.all (λ e. t.0 (sym e)) ∙ (kept.known other w t.1).1))
      (at_set s.views who other (with_visit x v) w there)

  pub one_more : AreKept table after
  one_more = record {
    all = last ∷ kept.all;
    legal = (may, kept.legal);
    wide = length-set s.words i n ∙ (kept.wide ∙ sym as_long);
    stands = λ k below. stands_there k (subst (λ (m : ℕ). k < m) as_long below) (ℕ_discrete k i);
    known = known_there;
    others = λ other past.
        let inside_views = below_length s.views who v here in
        let past_old : length s.views ≤ other = subst (λ (m : ℕ). m ≤ other) (length-set s.views who (with_visit x v)) past in
        made_else who other x kept.all (λ e. omega arith) ∙ kept.others other past_old;
  }

-- ---- who has a place in hand

abbrev hand_of : Stand → ℕ
hand_of free = 0
hand_of (in_hand who) = who
hand_of (left caller) = 0

abbrev is_free : Stand → Bool
is_free free = true
is_free (in_hand who) = false
is_free (left caller) = false

abbrev is_left : Stand → Bool
is_left free = false
is_left (in_hand who) = false
is_left (left caller) = true

-- what another one does at a place that is in hand leaves it so
still_in_hand : (who other i : ℕ) (x : Visit) → other ≢ who → MayMake other x (in_hand who)
    → stand_after other x (in_hand who) ≡ in_hand who
still_in_hand who other i (visit.Comes k) ne may = absurd (let clash = ap is_free may in cc)
still_in_hand who other i (visit.FindsTaken k) ne may = refl
still_in_hand who other i (visit.Leaves k caller) ne may = absurd (ne (sym (ap hand_of may)))
still_in_hand who other i (visit.Takes k caller) ne may = absurd (let clash = ap is_left may in cc)
still_in_hand who other i (visit.FindsNone k) ne may = refl
still_in_hand who other i (visit.Frees k) ne may = absurd (ne (sym (ap hand_of may)))

own_hand : (who i : ℕ) (x : Visit) (earlier : List Visit) (stand : Stand) → HasInHand i (x ∷ earlier)
    → (place_of x ≡ i) × (stand_after who x stand ≡ in_hand who)
own_hand who i (visit.Comes k) earlier stand has = (has, refl)
own_hand who i (visit.FindsTaken k) earlier stand has = absurd has
own_hand who i (visit.Leaves k caller) earlier stand has = absurd has
own_hand who i (visit.Takes k caller) earlier stand has = (has, refl)
own_hand who i (visit.FindsNone k) earlier stand has = absurd has
own_hand who i (visit.Frees k) earlier stand has = absurd has

-- A place stands as in the hand of the visitor who came to it or took a caller there last.
in_hand_of : (who i : ℕ) (all : List VisitBy) → IsLegal all → HasInHand i (made_by who all)
    → stand_of i all ≡ in_hand who
in_hand_of who i [] legal has = absurd has
in_hand_of who i (last ∷ all) legal has = by_maker (in_hand_of who i all legal.1) (ℕ_discrete last.who who)
  where
    at_place : stand_of i all ≡ in_hand who → last.who ≢ who → Dec (place_of last.visit ≡ i)
        → stand_of i (last ∷ all) ≡ in_hand who
    at_place stood ne (yes e) = stand_here i last all e
        ∙ (ap (stand_after last.who last.visit) stood
        ∙ still_in_hand who last.who i last.visit ne (subst (MayMake last.who last.visit)
        (ap (λ (k : ℕ). stand_of k all) e ∙ stood) legal.0))
    at_place stood ne (no apart) = stand_elsewhere i last all apart ∙ stood

    by_maker : (HasInHand i (made_by who all) → stand_of i all ≡ in_hand who) → Dec (last.who ≡ who) → stand_of i (last ∷ all) ≡ in_hand who
    by_maker before (yes e) =
        let made = ap (λ (b : Bool). if b then last.visit ∷ made_by who all else made_by who all)
        (eq-eqb last.who who e) in
        let own = own_hand last.who i last.visit (made_by who all) (stand_of i all) (subst (HasInHand i) made has) in
        stand_here i last all own.0 ∙ (own.1 ∙ ap in_hand e)
    by_maker before (no ne) =
        let made = ap (λ (b : Bool). if b then last.visit ∷ made_by who all else made_by who all)
        (ne_eqb last.who who ne) in
        at_place (before (subst (HasInHand i) made has)) ne (ℕ_discrete (place_of last.visit) i)

-- ---- the steps

-- the caller in what is carried
abbrev carried_by : List (ℕ × Option Acting) → Acting → Acting
carried_by [] other = other
carried_by ((k, None) ∷ rest) other = other
carried_by ((k, Some caller) ∷ rest) other = caller

hit : (n old new : ℕ) → n ≡ old → either (n == old) new n ≡ new
hit n old new e = ap (λ (b : Bool). either b new n) (eq-eqb n old e)

miss : (n old new : ℕ) → n ≢ old → either (n == old) new n ≡ n
miss n old new ne = ap (λ (b : Bool). either b new n) (ne_eqb n old ne)

-- how a step at a place ends, which makes its word m
abbrev Ends : Words → State (Option Acting) Visits → ℕ → ℕ → Me (Option Acting) Visits → ℕ
    → (ℕ → Me (Option Acting) Visits → Type 0) → Type 0
Ends table s who i me m told = (w : Visits) × (a : Act (Option Acting)) × Valid s.homes me.1 a
    × AreKept table (stepped s i m who me.1 w a) × told (slice_index s.words i) (w, carried_after me.1 a)

module _ (table : Words) (who i : ℕ) (me : Me (Option Acting) Visits) (s : State (Option Acting) Visits)
    (kept : AreKept table s) (here : get_elem? s.views who ≡ some me.0) (inside : i < length s.homes) where
  -- the place is looked at, and nothing else is done
  looks : (x : Visit) (m : ℕ) (told : ℕ → Me (Option Acting) Visits → Type 0) → place_of x ≡ i
      → MayMake who x (stand_of (place_of x) kept.all)
      → stand_after who x (stand_of i kept.all) ≡ stand_of i kept.all → m ≡ slice_index s.words i
      → told (slice_index s.words i) (with_visit x me.0, me.1) → Ends table s who i me m told
  looks x m told at may same word tells = (
    with_visit x me.0,
    keeps,
    tt,
    subst (λ (k : ℕ). AreKept table (stepped s i k who me.1 (with_visit x me.0) keeps)) (sym word)
        (one_more table s kept who me.0 here x i (slice_index s.words i) inside at s.homes may refl (λ k _. refl)
        (subst (IsKeptAs table (slice_index s.words i) (get_elem? s.homes i)) (sym same) (kept.stands i inside))),
    tells,
  )

  -- the place is taken in hand, with what is there
  grasps : (x : Visit) (m : ℕ) (there : Option Acting) (told : ℕ → Me (Option Acting) Visits → Type 0)
      → place_of x ≡ i → MayMake who x (stand_of (place_of x) kept.all)
      → stand_after who x (stand_of i kept.all) ≡ in_hand who → m ≡ 2 → get_elem? s.homes i ≡ some (some there)
      → told (slice_index s.words i) (with_visit x me.0, (i, there) ∷ me.1) → Ends table s who i me m told
  grasps x m there told at may grasped word home tells = (
    with_visit x me.0,
    takes i there,
    home,
    subst (λ (k : ℕ). AreKept table (stepped s i k who me.1 (with_visit x me.0) (takes i there))) (sym word)
        (one_more table s kept who me.0 here x i 2 inside at (set s.homes i none) may (length-set s.homes i none)
        (λ k ne. set_else s.homes i k none ne)
        (subst (IsKeptAs table 2 (get_elem? (set s.homes i none) i)) (sym grasped) refl)),
    tells,
  )

when_true : (X Y : Type 0) (b : Bool) → b ≡ true → X → MatchBool b X Y
when_true X Y true e x = x
when_true X Y false e x = absurd cc

when_false : (X Y : Type 0) (b : Bool) → b ≡ false → Y → MatchBool b X Y
when_false X Y true e y = absurd cc
when_false X Y false e y = y

coming : (table : Words) (who i : ℕ) (me : Me (Option Acting) Visits) (s : State (Option Acting) Visits)
    (kept : AreKept table s) → get_elem? s.views who ≡ some me.0 → i < length s.homes → (stand : Stand)
    → stand_of i kept.all ≡ stand
    → IsKeptAs table (slice_index s.words i) (get_elem? s.homes i) stand
    → Ends table s who i me (either (slice_index s.words i == 0) 2 (slice_index s.words i)) (Comes i me)
coming table who i me s kept here inside free e as_kept =
    grasps table who i me s kept here inside (visit.Comes i) _ None (Comes i me) refl e refl
    (hit (slice_index s.words i) 0 2 as_kept.0) as_kept.1
    (when_true _ _ (slice_index s.words i == 0) (eq-eqb (slice_index s.words i) 0 as_kept.0) refl)
coming table who i me s kept here inside (in_hand other) e as_kept =
    let ne : slice_index s.words i ≢ 0 = λ is_zero. omega arith in
    looks table who i me s kept here inside (visit.FindsTaken i) _ (Comes i me) refl
    (λ is. let clash = ap is_free (sym e ∙ is) in cc) refl (miss (slice_index s.words i) 0 2 ne)
    (when_false _ _ (slice_index s.words i == 0) (ne_eqb (slice_index s.words i) 0 ne) refl)
coming table who i me s kept here inside (left caller) e as_kept =
    let word = as_kept.0 in
    let ne : slice_index s.words i ≢ 0 = λ is_zero. omega arith in
    looks table who i me s kept here inside (visit.FindsTaken i) _ (Comes i me) refl
    (λ is. let clash = ap is_free (sym e ∙ is) in cc) refl (miss (slice_index s.words i) 0 2 ne)
    (when_false _ _ (slice_index s.words i == 0) (ne_eqb (slice_index s.words i) 0 ne) refl)

pub may_come : (table : Words) (slots who i : ℕ) (me : Me (Option Acting) Visits) → i < slots
    → Allows (AreKept table) slots who me i (λ n. either (n == 0) 2 n) (Comes i me)
may_come table slots who i me below s kept wide here small =
    let inside : i < length s.homes = omega arith in
    coming table who i me s kept here inside (stand_of i kept.all) refl (kept.stands i inside)

taking : (table : Words) (who i : ℕ) (me : Me (Option Acting) Visits) (s : State (Option Acting) Visits)
    (kept : AreKept table s) → get_elem? s.views who ≡ some me.0 → i < length s.homes → (stand : Stand)
    → stand_of i kept.all ≡ stand
    → IsKeptAs table (slice_index s.words i) (get_elem? s.homes i) stand
    → Ends table s who i me (either (slice_index s.words i == 1) 2 (slice_index s.words i)) (Takes i me)
taking table who i me s kept here inside free e as_kept =
    let word = as_kept.0 in
    let ne : slice_index s.words i ≢ 1 = λ is_one. omega arith in
    looks table who i me s kept here inside (visit.FindsNone i) _ (Takes i me) refl
    (λ caller is. let clash = ap is_left (sym e ∙ is) in cc) refl (miss (slice_index s.words i) 1 2 ne)
    (when_false _ _ (slice_index s.words i == 1) (ne_eqb (slice_index s.words i) 1 ne) refl)
taking table who i me s kept here inside (in_hand other) e as_kept =
    let ne : slice_index s.words i ≢ 1 = λ is_one. omega arith in
    looks table who i me s kept here inside (visit.FindsNone i) _ (Takes i me) refl
    (λ caller is. let clash = ap is_left (sym e ∙ is) in cc) refl (miss (slice_index s.words i) 1 2 ne)
    (when_false _ _ (slice_index s.words i == 1) (ne_eqb (slice_index s.words i) 1 ne) refl)
taking table who i me s kept here inside (left caller) e as_kept =
    grasps table who i me s kept here inside (visit.Takes i caller) _ (Some caller) (Takes i me) refl e refl
    (hit (slice_index s.words i) 1 2 as_kept.0) as_kept.1
    (when_true _ _ (slice_index s.words i == 1) (eq-eqb (slice_index s.words i) 1 as_kept.0)
    (caller, as_kept.2 ∙ sym (kept.known who me.0 here).0, refl))

-- A caller that was left may be taken.
pub may_take : (table : Words) (slots who i : ℕ) (me : Me (Option Acting) Visits) → i < slots
    → Allows (AreKept table) slots who me i (λ n. either (n == 1) 2 n) (Takes i me)
may_take table slots who i me below s kept wide here small =
    let inside : i < length s.homes = omega arith in
    taking table who i me s kept here inside (stand_of i kept.all) refl (kept.stands i inside)

-- a visitor who has the place in hand puts back what it has of it
puts_back : (table : Words) (who i n : ℕ) (v : Visits) (there : Option Acting) (s : State (Option Acting) Visits)
    (kept : AreKept table s) → get_elem? s.views who ≡ some v → i < length s.homes → (x : Visit) → place_of x ≡ i
    → MayMake who x (stand_of (place_of x) kept.all)
    → IsKeptAs table n (some (some there)) (stand_after who x (stand_of i kept.all))
    → AreKept table (stepped s i n who ((i, there) ∷ []) (with_visit x v) gives)
puts_back table who i n v there s kept here inside x at may as_kept =
    one_more table s kept who v here x i n inside at (set s.homes i (some there)) may
    (length-set s.homes i (some there)) (λ k ne. set_else s.homes i k (some there) ne)
    (subst (λ (h : Found (Found (Option Acting))). IsKeptAs table n h (stand_after who x (stand_of i kept.all)))
    (sym (set_here s.homes i (some there) inside)) as_kept)

-- The visitor who has the place in hand may leave a caller there.
pub may_leave : (table : Words) (slots who i : ℕ) (me : Me (Option Acting) Visits) (caller : Acting) → i < slots
    → HasInHand i me.0.made → caller.table ≡ table → me.1 ≡ (i, Some caller) ∷ []
    → Allows (AreKept table) slots who me i (λ _. 1) (λ _. Leaves i me)
may_leave table slots who i me caller below has its_table carries =
    subst (λ (c : List (ℕ × Option Acting)).
    Allows (AreKept table) slots who (me.0, c) i (λ _. 1) (λ _. Leaves i (me.0, c))) (sym carries)
    (λ s kept wide here small.
    let inside : i < length s.homes = omega arith in
    let stood = in_hand_of who i kept.all kept.legal (subst (HasInHand i) (sym (kept.known who me.0 here).1) has) in (
      with_visit (visit.Leaves i caller) me.0,
      gives,
      tt,
      puts_back table who i 1 me.0 (Some caller) s kept here inside (visit.Leaves i caller) refl stood
          (refl, refl, its_table),
      λ other is.
          let same : caller ≡ other = ap (λ (c : List (ℕ × Option Acting)). carried_by c caller) is in
          let v : Acting → Me (Option Acting) Visits = λ x. (with_visit (visit.Leaves i x) me.0, []) in
          ap v same,
    ))

-- The visitor who has the place in hand may free it.
pub may_free : (table : Words) (slots who i : ℕ) (me : Me (Option Acting) Visits) → i < slots
    → HasInHand i me.0.made → me.1 ≡ (i, None) ∷ []
    → Allows (AreKept table) slots who me i (λ _. 0) (λ _. Frees i me)
may_free table slots who i me below has carries =
    subst (λ (c : List (ℕ × Option Acting)).
    Allows (AreKept table) slots who (me.0, c) i (λ _. 0) (λ _. Frees i (me.0, c))) (sym carries)
    (λ s kept wide here small.
    let inside : i < length s.homes = omega arith in
    let stood = in_hand_of who i kept.all kept.legal (subst (HasInHand i) (sym (kept.known who me.0 here).1) has) in (
      with_visit (visit.Frees i) me.0,
      gives,
      tt,
      puts_back table who i 0 me.0 None s kept here inside (visit.Frees i) refl stood (refl, refl),
      refl,
    ))

-- ---- visitors

at_end : {A : Type 0} (xs : List A) (x y : A) (j : ℕ) → get_elem? (xs ++ x ∷ []) j ≡ some y
    → (get_elem? xs j ≡ some y) ⊎ ((length xs ≤ j) × (x ≡ y))
at_end [] x y zero at = inr (omega arith, some-injective x y at)
at_end [] x y (suc j) at = absurd (some-ne-none y (sym at))
at_end (z ∷ zs) x y zero at = inl at
at_end (z ∷ zs) x y (suc j) at =
    ⊎_elim (λ there. inl there) (λ (t : (length zs ≤ j) × (x ≡ y)). let past = t.0 in inr (omega arith, t.1)) (at_end zs x y j at)

-- A new visitor has made no visit.
pub may_enter : (table : Words) (slots : ℕ)
    → Enters (AreKept table) slots 0 (λ n w. ◌≡◌ {A = Me (Option Acting) Visits} (w, []) (first_visits table, []))
may_enter table slots s kept wide small = (
  first_visits table,
  record {
    all = kept.all;
    legal = kept.legal;
    wide = kept.wide;
    stands = kept.stands;
    known = λ who v at. ⊎_elim (λ there. kept.known who v there)
        (λ (t : (length s.views ≤ who) × (first_visits table ≡ v)).
        (ap (λ (u : Visits). u.table) (sym t.1), kept.others who t.0 ∙ ap (λ (u : Visits). u.made) t.1))
        (at_end s.views (first_visits table) v who at);
    others = λ who past.
        let longer = length-append s.views (first_visits table ∷ []) in
        kept.others who (omega arith);
  },
  refl,
)

-- At first all places are free.
pub all_free : (table : Words) (count : ℕ)
    → AreKept table (opening (replicate count 0) (replicate count None) (first_visits table))
all_free table count = record {
  all = [];
  legal = tt;
  wide = same_length count;
  stands = λ k below. (zero_at count k, none_at count k (subst (λ (n : ℕ). k < n) (sym (same_length count)) below));
  known = λ who v at. only who v at;
  others = λ who past. refl;
}
  where
    same_length : (n : ℕ) → length {A = ℕ} (replicate n 0) ≡ length (map some (replicate {A = Option Acting} n None))
    same_length zero = refl
    same_length (suc n) = ap suc (same_length n)

    zero_at : (n k : ℕ) → ◌≡◌ {A = ℕ} (get_or (replicate n 0) k 0) 0
    zero_at zero k = refl
    zero_at (suc n) zero = refl
    zero_at (suc n) (suc k) = zero_at n k

    none_at : (n k : ℕ) → k < length {A = ℕ} (replicate n 0) → get_elem? (map some (replicate {A = Option Acting} n None)) k ≡ some (some None)
    none_at zero k below = absurd (omega arith)
    none_at (suc n) zero below = refl
    none_at (suc n) (suc k) below = none_at n k (omega arith)

    only : (who : ℕ) (v : Visits) → get_elem? (first_visits table ∷ []) who ≡ some v → (v.table ≡ table) × ([] ≡ v.made)
    only zero v at = let is = some-injective (first_visits table) v at in
        (ap (λ (u : Visits). u.table) (sym is), ap (λ (u : Visits). u.made) is)
    only (suc who) v at = absurd (some-ne-none v (sym at))
