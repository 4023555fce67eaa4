-- Deadlines in order, as insertions and removals leave them.
use Rattle.std.specs.Bool.{⊤}
use Rattle.std.proofs.Common.{◌≡◌, ◌≢◌, ◌⊎◌, inl, inr, ℕ, ◌<◌, ◌≤◌, Bool, true, false, not, eqb, leb, List, [], ◌∷◌}
use Rattle.std.proofs.Common.{IfSome, All, get_or, zero, suc, Option, Some, None, length, filter, refl, sym, ap, ◌∙◌}
use Rattle.std.proofs.Common.{subst, arith, slice_get}
use Rattle.std.specs.BTreeMap.{BTreeMap, get, is_at, insert_entry}
use Rattle.std.specs.Map.{remove_entry}
use Rattle.std.specs.declared.cmp.Ordering.TheVariants.{Less, Greater}
use Rattle.std.specs.Ordering.{nat_cmp, ordering_then}
use Rattle.std.proofs.lemmas.Bool.Decides.{nat_tests}
use Rattle.nio_group.proofs.TableLemmas.{by_test}
use Rattle.nio_deadline.specs.Deadlines.{Deadline, with_deadline, without, due, first_moment, IsBefore, AreInOrder}
use Rattle.nio_deadline.specs.Kept.{deadline_of, deadlines_of, HaveMoments, IsAboveAll, IsDeadlinesKept}
use Rattle.nio_deadline.specs.declared.deadlines.Moment.{Moment}
use Rattle.nio_deadline.specs.declared.deadlines.Place.{Place}
use Rattle.std.proofs.lemmas.Bool.{leb-false, leb-true, lt-leb, ne_eqb, eqb-true, eqb-false}

-- ---- tests on numbers

not-at : (m n : ℕ) → n ≢ m → is_at (nat_cmp m) n ≡ false
not-at m n l = grind (arith, nat_tests)

-- ---- insertion

not-after : (d e : Deadline) → e.at ≤ d.at → e.op < d.op → (e.at < d.at) ⊎ ((e.at ≡ d.at) × (e.op < d.op))
not-after d e l below =
    by_test (eqb e.at d.at) (λ t. inr (eqb-true e.at d.at t, below))
    (λ t. let other = eqb-false e.at d.at t in inl (omega arith))

insert-before : (d e : Deadline) (ds : List Deadline) → IsBefore e ds → e.at ≤ d.at → e.op < d.op
    → IsBefore e (with_deadline d ds)
insert-before d e [] before l below =
    (not-after d e l below, (λ same. absurd (omega arith)), tt)
insert-before d e (f ∷ fs) before l below =
    by_test (leb f.at d.at)
    (λ t. rw t (before.0, before.1, insert-before d e fs before.2 l below))
    (λ t. rw t (not-after d e l below, (λ same. absurd (omega arith)), (before.0, before.1, before.2)))

earlier-all : (d e : Deadline) (es : List Deadline) → IsBefore e es → d.at < e.at → IsAboveAll d.op es → IsBefore d es
earlier-all d e [] before l above = tt
earlier-all d e (f ∷ fs) before l above =
    let later : e.at ≤ f.at = elim before.0 [ inl less ↦ omega arith | inr same ↦ omega arith ] in
    (inl (omega arith), (λ same. absurd (let b = above.0 in omega arith)), earlier-all d e fs before.2 l above.1)

pub insert-in_order : (d : Deadline) (ds : List Deadline) → AreInOrder ds → IsAboveAll d.op ds
    → AreInOrder (with_deadline d ds)
insert-in_order d [] order above = (tt, tt)
insert-in_order d (e ∷ es) order above =
    by_test (leb e.at d.at)
    (λ t. rw t (insert-before d e es order.0 (leb-true e.at d.at t) above.0, insert-in_order d es order.1 above.1))
    (λ t. let later = leb-false e.at d.at t in
    rw t (
      (inl later, (λ same. absurd (let l = above.0 in omega arith)), earlier-all d e es order.0 later above.1),
      (order.0, order.1),
    ))

-- the map's insertion, where the number is above all others
pub inserted : (m : Moment) (p : Place) (es : List (Moment × Place)) → IsAboveAll m.op (deadlines_of es)
    → deadlines_of (insert_entry (λ a b. ordering_then (nat_cmp a.at b.at) (nat_cmp a.op b.op)) es m p)
    ≡ with_deadline (deadline_of (m, p)) (deadlines_of es)
inserted m p [] above = refl
inserted m p (e ∷ es) above =
    let rest = inserted m p es above.1 in
    by_test (leb e.0.at m.at)
    (λ t. let l = leb-true e.0.at m.at t in
    let below = above.0 in
    let after : ordering_then (nat_cmp m.at e.0.at) (nat_cmp m.op e.0.op) ≡ Greater = grind (arith, nat_tests) in
    rw (after, t) (ap (λ ds. deadline_of e ∷ ds) rest))
    (λ t. let l = leb-false e.0.at m.at t in
    let before : ordering_then (nat_cmp m.at e.0.at) (nat_cmp m.op e.0.op) ≡ Less = grind (arith, nat_tests) in
    rw (before, t) refl)

-- ---- the moments by number

abbrev pub AreOthers : ℕ → List Deadline → Type 0
AreOthers n [] = ⊤
AreOthers n (d ∷ ds) = (d.op ≢ n) × AreOthers n ds

pub others-above : (n : ℕ) (ds : List Deadline) → IsAboveAll n ds → AreOthers n ds
others-above n [] above = tt
others-above n (d ∷ ds) above = ((λ same. absurd (let l = above.0 in omega arith)), others-above n ds above.1)

pub others-before : (d : Deadline) (ds : List Deadline) → IsBefore d ds → AreOthers d.op ds
others-before d [] before = tt
others-before d (e ∷ es) before = ((λ same. before.1 (sym same)), others-before d es before.2)

pub others-without : (n : ℕ) (ds : List Deadline) → AreOthers n (without n ds)
others-without n [] = tt
others-without n (d ∷ ds) =
    by_test (eqb d.op n)
    (λ t. rw t (others-without n ds))
    (λ t. rw t (eqb-false d.op n t, others-without n ds))

pub moments-others : (m m' : BTreeMap ℕ ℕ) (n : ℕ) (ds : List Deadline)
    → ((q : ℕ) → is_at (nat_cmp n) q ≡ false → get nat_cmp m' q ≡ get nat_cmp m q)
    → AreOthers n ds → HaveMoments m ds → HaveMoments m' ds
moments-others m m' n [] same others have = tt
moments-others m m' n (d ∷ ds) same others have =
    (same d.op (not-at n d.op others.0) ∙ have.0, moments-others m m' n ds same others.1 have.1)

pub moments-insert : (m : BTreeMap ℕ ℕ) (d : Deadline) (ds : List Deadline) → get nat_cmp m d.op ≡ Some d.at
    → HaveMoments m ds → HaveMoments m (with_deadline d ds)
moments-insert m d [] is have = (is, tt)
moments-insert m d (e ∷ es) is have =
    by_test (leb e.at d.at)
    (λ t. rw t (have.0, moments-insert m d es is have.1))
    (λ t. rw t (is, (have.0, have.1)))

-- ---- removal

pub without-others : (n : ℕ) (ds : List Deadline) → AreOthers n ds → without n ds ≡ ds
without-others n [] others = refl
without-others n (d ∷ ds) others =
    rw (ne_eqb d.op n others.0) (ap (λ es. d ∷ es) (without-others n ds others.1))

filter-before : (p : Deadline → Bool) (d : Deadline) (ds : List Deadline) → IsBefore d ds → IsBefore d (filter p ds)
filter-before p d [] before = tt
filter-before p d (e ∷ es) before =
    by_test (p e)
    (λ t. rw t (before.0, before.1, filter-before p d es before.2))
    (λ t. rw t (filter-before p d es before.2))

pub filter-in_order : (p : Deadline → Bool) (ds : List Deadline) → AreInOrder ds → AreInOrder (filter p ds)
filter-in_order p [] order = tt
filter-in_order p (d ∷ ds) order =
    by_test (p d)
    (λ t. rw t (filter-before p d ds order.0, filter-in_order p ds order.1))
    (λ t. rw t (filter-in_order p ds order.1))

pub filter-moments : (p : Deadline → Bool) (m : BTreeMap ℕ ℕ) (ds : List Deadline) → HaveMoments m ds
    → HaveMoments m (filter p ds)
filter-moments p m [] have = tt
filter-moments p m (d ∷ ds) have =
    by_test (p d)
    (λ t. rw t (have.0, filter-moments p m ds have.1))
    (λ t. rw t (filter-moments p m ds have.1))

absent-others : (m : BTreeMap ℕ ℕ) (n : ℕ) (ds : List Deadline) → get nat_cmp m n ≡ None → HaveMoments m ds
    → AreOthers n ds
absent-others m n [] none have = tt
absent-others m n (d ∷ ds) none have = (
  (λ same. let at : get nat_cmp m n ≡ Some d.at = subst (λ (k : ℕ). get nat_cmp m k ≡ Some d.at) same have.0 in cc),
  absent-others m n ds none have.1,
)

-- where the operation has no moment it has no deadline
pub removed-none : (m : BTreeMap ℕ ℕ) (n : ℕ) (ds : List Deadline) → get nat_cmp m n ≡ None → HaveMoments m ds
    → ds ≡ without n ds
removed-none m n ds none have = sym (without-others n ds (absent-others m n ds none have))

pub removed-some : (m : BTreeMap ℕ ℕ) (n at : ℕ) (es : List (Moment × Place)) → get nat_cmp m n ≡ Some at
    → AreInOrder (deadlines_of es) → HaveMoments m (deadlines_of es)
    → deadlines_of (remove_entry (is_at (λ b. ordering_then (nat_cmp at b.at) (nat_cmp n b.op))) es)
    ≡ without n (deadlines_of es)
removed-some m n at [] is order have = refl
removed-some m n at (e ∷ es) is order have =
    by_test (eqb e.0.op n)
    (λ t. let same = eqb-true e.0.op n t in
    let found : get nat_cmp m n ≡ Some e.0.at = subst (λ (k : ℕ). get nat_cmp m k ≡ Some e.0.at) same have.0 in
    let moment : e.0.at ≡ at = cc in
    let here : is_at (λ (b : Moment). ordering_then (nat_cmp at b.at) (nat_cmp n b.op)) e.0 ≡ true =
    grind (arith, nat_tests) in
    rw (here, t)
    (sym (without-others n (deadlines_of es)
    (subst (λ (k : ℕ). AreOthers k (deadlines_of es)) same (others-before (deadline_of e)
    (deadlines_of es) order.0)))))
    (λ t. let other = eqb-false e.0.op n t in
    let there : is_at (λ (b : Moment). ordering_then (nat_cmp at b.at) (nat_cmp n b.op)) e.0 ≡ false =
    grind (arith, nat_tests) in
    rw (there, t) (ap (λ ds. deadline_of e ∷ ds) (removed-some m n at es is order.1 have.1)))

-- what a removal leaves is kept
pub kept-without : (m m' : BTreeMap ℕ ℕ) (n : ℕ) (ds : List Deadline)
    → ((q : ℕ) → is_at (nat_cmp n) q ≡ false → get nat_cmp m' q ≡ get nat_cmp m q)
    → IsDeadlinesKept ds m → IsDeadlinesKept (without n ds) m'
kept-without m m' n ds same kept =
    record {
      in_order = filter-in_order (λ d. not (eqb d.op n)) ds kept.in_order;
      have_moments = moments-others m m' n (without n ds) same (others-without n ds)
          (filter-moments (λ d. not (eqb d.op n)) m ds kept.have_moments);
    }

-- ---- the first

pub first-is : (es : List (Moment × Place)) (e : Moment × Place) → slice_get es 0 ≡ Some e
    → first_moment (deadlines_of es) ≡ Some e.0.at
first-is [] e is = absurd (cc)
first-is (f ∷ fs) e is = let same : f ≡ e = cc in ap (λ (x : Moment × Place). Some x.0.at) same

none-due-after : (now : ℕ) (d : Deadline) (ds : List Deadline) → IsBefore d ds → now < d.at → due now ds ≡ []
none-due-after now d [] before l = refl
none-due-after now d (e ∷ es) before l =
    let later : now < e.at = elim before.0 [ inl less ↦ omega arith | inr same ↦ omega arith ] in
    rw (lt-leb e.at now later) (none-due-after now d es before.2 l)

-- where the first deadline is later none has come
pub none-due : (now at : ℕ) (ds : List Deadline) → AreInOrder ds → first_moment ds ≡ Some at → now < at → due now ds
    ≡ []
none-due now at [] order first l = refl
none-due now at (d ∷ ds) order first l =
    let same : d.at ≡ at = cc in
    let later : now < d.at = omega arith in
    rw (lt-leb d.at now later) (none-due-after now d ds order.0 later)

pub kept-tail : (m m' : BTreeMap ℕ ℕ) (e : Moment × Place) (es es' : List (Moment × Place)) → es ≡ e ∷ es'
    → ((q : ℕ) → is_at (nat_cmp e.0.op) q ≡ false → get nat_cmp m' q ≡ get nat_cmp m q)
    → IsDeadlinesKept (deadlines_of es) m → IsDeadlinesKept (deadlines_of es') m'
kept-tail m m' e es es' is same kept =
    let order : AreInOrder (deadlines_of (e ∷ es')) =
    subst (λ (xs : List (Moment × Place)). AreInOrder (deadlines_of xs)) is kept.in_order in
    let have : HaveMoments m (deadlines_of (e ∷ es')) =
    subst (λ (xs : List (Moment × Place)). HaveMoments m (deadlines_of xs)) is kept.have_moments in
    record {
      in_order = order.1;
      have_moments = moments-others m m' e.0.op (deadlines_of es') same
          (others-before (deadline_of e) (deadlines_of es') order.0) have.1;
    }

-- the moments stay as they were, or are put back
pub kept-others : (m m' : BTreeMap ℕ ℕ) (n : ℕ) (ds : List Deadline)
    → ((q : ℕ) → is_at (nat_cmp n) q ≡ false → get nat_cmp m' q ≡ get nat_cmp m q)
    → IsAboveAll n ds → IsDeadlinesKept ds m → IsDeadlinesKept ds m'
kept-others m m' n ds same above kept =
    record {
      in_order = kept.in_order;
      have_moments = moments-others m m' n ds same (others-above n ds above) kept.have_moments;
    }

pub kept-inserted : (m m' : BTreeMap ℕ ℕ) (d : Deadline) (ds : List Deadline)
    → ((q : ℕ) → is_at (nat_cmp d.op) q ≡ false → get nat_cmp m' q ≡ get nat_cmp m q)
    → get nat_cmp m' d.op ≡ Some d.at → IsAboveAll d.op ds → IsDeadlinesKept ds m
    → IsDeadlinesKept (with_deadline d ds) m'
kept-inserted m m' d ds same is above kept =
    record {
      in_order = insert-in_order d ds kept.in_order above;
      have_moments = moments-insert m' d ds is (moments-others m m' d.op ds same (others-above d.op ds above)
          kept.have_moments);
    }

before-all : (d : Deadline) (es : List Deadline) → IsBefore d es → (k : ℕ) (x : Deadline) → k < length es
    → d.at ≤ (get_or es k x).at
before-all d [] before k x l = absurd (omega arith)
before-all d (e ∷ es) before zero x l = elim before.0 [ inl less ↦ omega arith | inr same ↦ omega arith ]
before-all d (e ∷ es) before (suc k) x l = before-all d es before.2 k x (omega arith)

-- the moment of the first deadline is the least
pub first-least : (ds : List Deadline) (moment : Option ℕ) → moment ≡ first_moment ds → AreInOrder ds
    → IfSome moment (λ at. All (λ (d : Deadline). at ≤ d.at) ds)
first-least [] moment is order = rw is tt
first-least (d ∷ ds) moment is order = rw is (λ k x l. least k x l)
  where
    least : (k : ℕ) (x : Deadline) → k < length (d ∷ ds) → d.at ≤ (get_or (d ∷ ds) k x).at
    least zero x l = omega arith
    least (suc k) x l = before-all d ds order.0 k x (omega arith)
