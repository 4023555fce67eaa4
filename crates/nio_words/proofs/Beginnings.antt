-- Beginnings of a history, and the events of one caller in them.
use Rattle.std.proofs.Common.{◌≡◌, ℕ, ◌≤◌, List, [], ◌∷◌, length, refl, ap, sym, ◌∙◌, subst, arith, length-append}
use Rattle.std.proofs.lemmas.List.{append-nil}
use mathlib.Core.List.{IsPrefix}
use Rattle.nio_base.specs.declared.numbers.CallerNo.{CallerNo}
use Rattle.nio_history.specs.Histories.{mine}
use Rattle.nio_history.specs.declared.event.Event.{Event}
use Rattle.nio_history.proofs.OneMore.{mine-append}

pub prefix_self : {A : Type 0} (xs : List A) → IsPrefix xs xs
prefix_self xs = ([], append-nil xs)

-- of two beginnings of one list the shorter begins the longer
pub prefix_shorter : {A : Type 0} (xs ys zs : List A) → IsPrefix xs zs → IsPrefix ys zs → length xs ≤ length ys
    → IsPrefix xs ys
prefix_shorter [] ys zs p q le = (ys, refl)
prefix_shorter (x ∷ xs) [] zs p q le = absurd (omega arith)
prefix_shorter (x ∷ xs) (y ∷ ys) [] p q le = absurd (cc (p.1))
prefix_shorter (x ∷ xs) (y ∷ ys) (z ∷ zs) p q le =
    let heads : x ≡ y = cc (p.1, q.1) in
    let rest = prefix_shorter xs ys zs (p.0, cc (p.1)) (q.0, cc (q.1)) (omega arith) in
    (rest.0, cc (heads, rest.1))

-- a beginning as long as the whole is the whole
pub prefix_whole : {A : Type 0} (xs ys : List A) → IsPrefix xs ys → length ys ≤ length xs → xs ≡ ys
prefix_whole [] [] p le = refl
prefix_whole [] (y ∷ ys) p le = absurd (omega arith)
prefix_whole (x ∷ xs) [] p le = absurd (cc (p.1))
prefix_whole (x ∷ xs) (y ∷ ys) p le =
    let rest = prefix_whole xs ys (p.0, cc (p.1)) (omega arith) in cc (p.1, rest)

pub prefix_length : {A : Type 0} (xs ys : List A) → IsPrefix xs ys → length xs ≤ length ys
prefix_length xs ys p = omega (arith, sym (ap length p.1) ∙ length-append xs p.0)

-- what begins a list that begins with it is that list
pub prefix_both : {A : Type 0} (xs ys : List A) → IsPrefix xs ys → IsPrefix ys xs → xs ≡ ys
prefix_both xs ys p q = prefix_whole xs ys p (prefix_length ys xs q)

pub mine_begins : (n : CallerNo) (xs ys : List Event) → IsPrefix xs ys → IsPrefix (mine n xs) (mine n ys)
mine_begins n xs ys p = (mine n p.0, sym (mine-append n xs p.0) ∙ ap (mine n) p.1)

-- a caller with the same events in a longer history has them in every history between
pub mine_between : (n : CallerNo) (xs ys zs : List Event) → IsPrefix xs ys → IsPrefix ys zs → mine n zs ≡ mine n xs
    → mine n ys ≡ mine n xs
mine_between n xs ys zs p q e =
    sym (prefix_both (mine n xs) (mine n ys) (mine_begins n xs ys p)
    (subst (λ es. IsPrefix (mine n ys) es) e (mine_begins n ys zs q)))

pub same_number : (m n : CallerNo) → m.0 ≡ n.0 → m ≡ n
same_number m n e = ap (λ (k : ℕ). record { 0 = k }) e
