-- Each step keeps the rule of a queue.
use Rattle.std.proofs.Common.{◌≡◌, ◌≢◌, ℕ, ◌+◌, ◌-◌, ◌<◌, ◌≤◌, List, [], ◌∷◌, ◌++◌, length, set, map, sum_by}
use Rattle.std.proofs.Common.{sym, refl, ap, ◌∙◌, subst, ⊎_elim, arith, cond, eqb}
use Rattle.std.proofs.lemmas.List.{map-append, length-map}
use Rattle.std.proofs.lemmas.List.Sums.{sum_by-cons, sum_by-append, sum_by_push}
use mathlib.Core.Option.{some, some-ne-none}
use lib.ListN.{get_elem?}
use Rattle.crossbeam_queue.specs.Fifo.{Pushes, Pops, Forks, Merges, Learns}
use Rattle.crossbeam_queue.proofs.Lists.{at_snoc, set_else}
use Rattle.nio_group.specs.Completion.{CompletionFields}
use Rattle.nio_pool.specs.declared.hand.Hand.{Hand}
use Rattle.nio_pool.specs.Hands.{number, hand, spent, joined, after_put, after_take, parts_of, Fits, IsBalanced}
use Rattle.nio_pool.specs.Hands.{Moment, Puts, Takes}
use Rattle.nio_pool.proofs.Totals.{total_set, none_has_parts, all_none, all_set, count_all, times_more}

abbrev AllFit : List Hand → Type 0
AllFit views = (place : ℕ) (v : Hand) → get_elem? views place ≡ some v → Fits (parts_of views) v

-- the rule holds of an empty queue with its first pass
pub begins : IsBalanced [] (hand 1 1 [] [] ∷ [])
begins = record {
  weights = λ weight. refl;
  passes = λ place v at. ⊎_elim
      (λ (x : get_elem? [] place ≡ some v). absurd (some-ne-none v (sym x)))
      (λ (x : hand 1 1 [] [] ≡ v). subst (Fits 1) x
      (record { all = λ _. refl; idle = λ none. absurd (omega arith) }))
      (at_snoc [] (hand 1 1 [] []) v place at);
}

-- the view of one pass changes, but not its parts
stays_fit : (views : List Hand) (place : ℕ) (v w : Hand) → get_elem? views place ≡ some v → w.parts ≡ v.parts
    → w.all ≡ v.all → 0 < v.parts → AllFit views → AllFit (set views place w)
stays_fit views place v w at parts all some_part fit =
    let total = total_set (λ (u : Hand). u.parts) views place v w at in
    let same : parts_of views ≡ parts_of (set views place w) = omega arith in
    let mine = (fit place v at).all some_part in
    all_set (Fits (parts_of (set views place w))) views place w
    (record { all = λ _. sym same ∙ mine ∙ sym all; idle = λ none. absurd (omega arith) })
    (λ i u _ there. subst (λ (n : ℕ). Fits n u) same (fit i u there))

-- a pass has no more parts than there are
pub shares : (place : ℕ) (v : Hand) → 0 < v.parts → Learns IsBalanced place v (λ items. v.parts ≤ v.all)
shares place v some_part items views b at =
    let total = total_set (λ (u : Hand). u.parts) views place v spent at in
    let mine = (b.passes place v at).all some_part in
    omega arith

-- where a pass has all parts no other has any
others_idle : (views : List Hand) (place : ℕ) (v : Hand) → get_elem? views place ≡ some v → 0 < v.parts
    → v.parts ≡ v.all → AllFit views → (i : ℕ) (u : Hand) → get_elem? (set views place spent) i ≡ some u
    → (u.put ≡ []) × (u.taken ≡ [])
others_idle views place v at some_part whole fit i u there =
    let total = total_set (λ (w : Hand). w.parts) views place v spent at in
    let mine = (fit place v at).all some_part in
    let none : parts_of (set views place spent) ≡ 0 = omega arith in
    let no_part = none_has_parts (set views place spent) none i u there in
    all_set (λ w. w.parts ≡ 0 → (w.put ≡ []) × (w.taken ≡ [])) views place spent (λ _. (refl, refl))
    (λ j w _ that. (fit j w that).idle) i u there no_part

-- what a pass knows of each moment
pub moment : (place : ℕ) (v : Hand) → 0 < v.parts → Learns IsBalanced place v (Moment v)
moment place v some_part items views b at =
    record {
      passes = views;
      mine = place;
      is_one = at;
      balanced = b;
      alone = λ whole other w apart there.
          others_idle views place v at some_part whole b.passes other w
          (set_else views place other spent apart ∙ there);
    }

-- what the passes have put or taken weighs no more than what one of them has, where the others have none
weighs_one : (weight : ℕ → ℕ) (f : Hand → List ℕ) (views : List Hand) (place : ℕ) (v : Hand)
    → get_elem? views place ≡ some v
    → ((i : ℕ) (u : Hand) → i ≢ place → get_elem? views i ≡ some u → f u ≡ []) → f spent ≡ []
    → sum_by (λ u. sum_by weight (f u)) views ≡ sum_by weight (f v)
weighs_one weight f views place v at none idle =
    let total = total_set (λ (u : Hand). sum_by weight (f u)) views place v spent at in
    let others = all_none weight f (set views place spent)
    (all_set (λ (u : Hand). f u ≡ []) views place spent idle none) in
    let mine : sum_by weight (f spent) ≡ 0 = ap (sum_by weight) idle in
    omega arith

-- what a pass with all parts knows of each moment
pub weighs_alone : (v : Hand) (items : List CompletionFields) → Moment v items → v.parts ≡ v.all → (weight : ℕ → ℕ)
    → sum_by weight v.put ≡ sum_by weight v.taken + sum_by weight (map number items)
weighs_alone v items m whole weight =
    let all = m.balanced.weights weight in
    let put = weighs_one weight (λ u. u.put) m.passes m.mine v m.is_one
    (λ i u apart there. (m.alone whole i u apart there).0) refl in
    let taken = weighs_one weight (λ u. u.taken) m.passes m.mine v m.is_one
    (λ i u apart there. (m.alone whole i u apart there).1) refl in
    omega arith

pub counts_alone : (v : Hand) (items : List CompletionFields) → Moment v items → v.parts ≡ v.all
    → length v.put ≡ length v.taken + length items
counts_alone v items m whole =
    let all = weighs_alone v items m whole (λ _. 1) in
    omega (arith, count_all v.put, count_all v.taken, count_all (map number items), length-map items number)

pub puts : (room place : ℕ) (v : Hand) (done : CompletionFields) → 0 < v.parts
    → Pushes IsBalanced room place v done (Puts room v done)
puts room place v done some_part items views short b at =
    let w = after_put v done in (
      w,
      record {
        weights = λ weight.
            let all = b.weights weight in
            let put = total_set (λ (u : Hand). sum_by weight u.put) views place v w at in
            let taken = total_set (λ (u : Hand). sum_by weight u.taken) views place v w at in
            let more = ap (sum_by weight) (map-append number items (done ∷ [])) in
            omega (arith, sum_by_push weight v.put (number done), sum_by_push weight (map number items) (number done));
        passes = stays_fit views place v w at refl refl some_part b.passes;
      },
      record {
        after = refl;
        had_room = λ whole.
            let count = counts_alone v items (moment place v some_part items views b at) whole in
            omega arith;
      },
    )

pub takes : (place : ℕ) (v : Hand) → 0 < v.parts → Pops IsBalanced place v (Takes v)
takes place v some_part done items views b at =
    let w = after_take v done in (
      w,
      record {
        weights = λ weight.
            let all = b.weights weight in
            let put = total_set (λ (u : Hand). sum_by weight u.put) views place v w at in
            let taken = total_set (λ (u : Hand). sum_by weight u.taken) views place v w at in
            let front = sum_by-cons weight (number done) (map number items) in
            omega (arith, sum_by_push weight v.taken (number done));
        passes = stays_fit views place v w at refl refl some_part b.passes;
      },
      record {
        after = refl;
        waited = λ whole.
            let n = number done in
            let m = moment place v some_part (done ∷ items) views b at in
            let all = weighs_alone v (done ∷ items) m whole (λ k. cond (eqb k n) 1 0) in
            omega (arith, times_more n (map number items));
      },
    )

-- a part is cut off
pub cuts : (place : ℕ) (v : Hand) → 1 < v.parts
    → Forks IsBalanced place v (record v { parts = v.parts - 1 }) (hand 1 v.all [] [])
cuts place v two items views b at =
    let left : Hand = record v { parts = v.parts - 1 } in
    let right = hand 1 v.all [] [] in
    let mid = set views place left in
    let parts = total_set (λ (u : Hand). u.parts) views place v left at in
    let same : parts_of views ≡ parts_of (mid ++ right ∷ []) =
    omega (arith, sum_by_push (λ (u : Hand). u.parts) mid right) in
    let mine : parts_of (mid ++ right ∷ []) ≡ v.all = sym same ∙ (b.passes place v at).all (omega arith) in
    let F = Fits (parts_of (mid ++ right ∷ [])) in
    let old = all_set F views place left (record { all = λ _. mine; idle = λ none. absurd (omega arith) })
    (λ i u _ there. subst (λ (n : ℕ). Fits n u) same (b.passes i u there)) in
    record {
      weights = λ weight.
          let all = b.weights weight in
          let put = total_set (λ (u : Hand). sum_by weight u.put) views place v left at in
          let taken = total_set (λ (u : Hand). sum_by weight u.taken) views place v left at in
          omega (
            arith,
            sum_by_push (λ (u : Hand). sum_by weight u.put) mid right,
            sum_by_push (λ (u : Hand). sum_by weight u.taken) mid right,
          );
      passes = λ i u there. ⊎_elim (λ (x : get_elem? mid i ≡ some u). old i u x)
          (λ (x : right ≡ u). subst F x (record { all = λ _. mine; idle = λ none. absurd (omega arith) }))
          (at_snoc mid right u i there);
    }

-- the first pass gets all parts
pub opens : (place all : ℕ) (v : Hand) → 0 < all → v ≡ hand 1 1 [] []
    → Forks IsBalanced place v (hand all all [] []) spent
opens place all v some_part first items views b at =
    let left = hand all all [] [] in
    let mid = set views place left in
    let one : v.parts ≡ 1 = ap (λ (u : Hand). u.parts) first in
    let whole : v.all ≡ 1 = ap (λ (u : Hand). u.all) first in
    let mine = (b.passes place v at).all (omega arith) in
    let before = total_set (λ (u : Hand). u.parts) views place v spent at in
    let none : parts_of (set views place spent) ≡ 0 = omega arith in
    let parts = total_set (λ (u : Hand). u.parts) views place v left at in
    let total : parts_of (mid ++ spent ∷ []) ≡ all = omega (arith, sum_by_push (λ (u : Hand). u.parts) mid spent) in
    let F = Fits (parts_of (mid ++ spent ∷ [])) in
    let idle : (i : ℕ) (u : Hand) → i ≢ place → get_elem? views i ≡ some u → F u = λ i u apart there.
    let no_part = none_has_parts (set views place spent) none i u (set_else views place i spent apart ∙ there) in
    record { all = λ h. absurd (omega arith); idle = (b.passes i u there).idle } in
    let old = all_set F views place left (record { all = λ _. total; idle = λ h. absurd (omega arith) }) idle in
    record {
      weights = λ weight.
          let all = b.weights weight in
          let put = total_set (λ (u : Hand). sum_by weight u.put) views place v left at in
          let taken = total_set (λ (u : Hand). sum_by weight u.taken) views place v left at in
          let put' : sum_by weight v.put ≡ 0 = ap (λ (u : Hand). sum_by weight u.put) first in
          let taken' : sum_by weight v.taken ≡ 0 = ap (λ (u : Hand). sum_by weight u.taken) first in
          omega (
            arith,
            sum_by_push (λ (u : Hand). sum_by weight u.put) mid spent,
            sum_by_push (λ (u : Hand). sum_by weight u.taken) mid spent,
          );
      passes = λ i u there. ⊎_elim (λ (x : get_elem? mid i ≡ some u). old i u x)
          (λ (x : spent ≡ u). subst F x (record { all = λ h. absurd (omega arith); idle = λ _. (refl, refl) }))
          (at_snoc mid spent u i there);
    }

-- two passes are made one
pub merges : (place : ℕ) (v : Hand) (other : ℕ) (w : Hand) → 0 < v.parts
    → Merges IsBalanced place v other w (joined v w) spent
merges place v other w some_part items views b at apart at' =
    let both = joined v w in
    let mid = set views place both in
    let after = set mid other spent in
    let parts = total_set (λ (u : Hand). u.parts) views place v both at in
    let parts' = total_set (λ (u : Hand). u.parts) mid other w spent at' in
    let same : parts_of views ≡ parts_of after = omega arith in
    let mine : parts_of after ≡ v.all = sym same ∙ (b.passes place v at).all some_part in
    let F = Fits (parts_of after) in
    let half = all_set F views place both (record { all = λ _. mine; idle = λ none. absurd (omega arith) })
    (λ i u _ there. subst (λ (n : ℕ). Fits n u) same (b.passes i u there)) in
    record {
      weights = λ weight.
          let all = b.weights weight in
          let put = total_set (λ (u : Hand). sum_by weight u.put) views place v both at in
          let taken = total_set (λ (u : Hand). sum_by weight u.taken) views place v both at in
          let put' = total_set (λ (u : Hand). sum_by weight u.put) mid other w spent at' in
          let taken' = total_set (λ (u : Hand). sum_by weight u.taken) mid other w spent at' in
          omega (arith, sum_by-append weight v.put w.put, sum_by-append weight v.taken w.taken);
      passes = all_set F mid other spent (record { all = λ h. absurd (omega arith); idle = λ _. (refl, refl) })
          (λ i u _ there. half i u there);
    }
