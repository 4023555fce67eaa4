-- How many connections, or slots, are for a worker.
use Rattle.std.proofs.Common.{◌≡◌, ◌≢◌, ℕ, zero, suc, ◌+◌, ◌-◌, ◌*◌, ◌/◌, ◌%◌, ◌<◌, ◌≤◌, ◌==◌, if◌then◌else◌, ⊎_elim}
use Rattle.std.proofs.Common.{Bool, true, false, refl, sym, ap, ◌∙◌, arith, add-one, eq-eqb, mod-lt}
use Rattle.std.proofs.Math.Nat.{suc-mul, mod-add-div', mul-le-mul_right}
use Rattle.std.proofs.lemmas.Bool.{cases_eq, cases_lt, ne_eqb}
use Rattle.std.proofs.lemmas.Nat.{mod-mul-add, div-mul-add}
use Rattle.nio_reactor.specs.Dealing.{share}
use Rattle.nio_reactor.specs.Many.{sum_below}

-- ---- one more

add-zero : (n : ℕ) → n + 0 ≡ n
add-zero n = omega arith

pub share_mine : (w v k : ℕ) → k % w ≡ v → share w v (k + 1) ≡ share w v k + 1
share_mine w v k mine =
    ap (share w v) (add-one k) ∙ ap (λ t. share w v k + (if t then 1 else 0)) (eq-eqb (k % w) v mine)

pub share_others : (w v k : ℕ) → k % w ≢ v → share w v (k + 1) ≡ share w v k
share_others w v k others =
    ap (share w v) (add-one k)
    ∙ ap (λ t. share w v k + (if t then 1 else 0)) (ne_eqb (k % w) v others)
    ∙ add-zero (share w v k)

-- ---- which they are

pub times_more : (a w : ℕ) → (a + 1) * w ≡ a * w + w
times_more a w = ap (λ m. m * w) (add-one a) ∙ suc-mul a w

-- the next connection of the worker after its share is none of those
share_reaches : (w v n : ℕ) → v < w → n ≤ v + share w v n * w
share_reaches w v zero less = omega arith
share_reaches w v (suc n) less =
    let so_far = share_reaches w v n less in
    let next : share w v (n + 1) ≡ share w v (suc n) = ap (share w v) (add-one n) in
    ⊎_elim
    (λ (mine : n % w ≡ v).
    let times : share w v (suc n) * w ≡ share w v n * w + w
    = ap (λ m. m * w) (sym next ∙ share_mine w v n mine) ∙ times_more (share w v n) w in
    omega (arith, so_far, times, less))
    (λ (others : n % w ≡ v → ⊥).
    let same : share w v (suc n) * w ≡ share w v n * w
    = ap (λ m. m * w) (sym next ∙ share_others w v n others) in
    let apart : n ≢ share w v n * w + v
    = λ is. others (ap (λ m. m % w) is ∙ mod-mul-add (share w v n) w v less) in
    let rest : n ≢ v + share w v n * w = λ is. apart (omega (arith, is)) in
    omega (arith, so_far, same, rest))
    (cases_eq (n % w) v)

equal : (a b : ℕ) → a ≤ b → b ≤ a → a ≡ b
equal a b less more = omega (arith, less, more)

-- a connection of the worker is the one that comes after its share below it
exact_from : (w v n : ℕ) → v < w → n % w ≡ v → share w v n * w + v < n + w → v + share w v n * w ≡ n
exact_from w v n less mine close =
    let some : 0 < w = omega (arith, less) in
    let reaches = share_reaches w v n less in
    let parts : n % w + n / w * w ≡ n = mod-add-div' n w in
    ⊎_elim
    (λ (fewer : share w v n < n / w).
    let far : (share w v n + 1) * w ≤ n / w * w = mul-le-mul_right w (omega (arith, fewer)) in
    absurd (omega (arith, far, times_more (share w v n) w, reaches, parts, mine, some)))
    (λ (most : n / w ≤ share w v n).
    ⊎_elim
    (λ (more : n / w < share w v n).
    let far : (n / w + 1) * w ≤ share w v n * w = mul-le-mul_right w (omega (arith, more)) in
    absurd (omega (arith, far, times_more (n / w) w, close, parts, mine)))
    (λ (least : share w v n ≤ n / w).
    let same : share w v n * w ≡ n / w * w = ap (λ m. m * w) (equal (share w v n) (n / w) least most) in
    omega (arith, same, parts, mine))
    (cases_lt (n / w) (share w v n)))
    (cases_lt (share w v n) (n / w))

share_close : (w v n : ℕ) → v < w → share w v n * w + v < n + w
share_close w v zero less = omega (arith, less)
share_close w v (suc n) less =
    let so_far = share_close w v n less in
    let next : share w v (n + 1) ≡ share w v (suc n) = ap (share w v) (add-one n) in
    ⊎_elim
    (λ (mine : n % w ≡ v).
    let times : share w v (suc n) * w ≡ share w v n * w + w
    = ap (λ m. m * w) (sym next ∙ share_mine w v n mine) ∙ times_more (share w v n) w in
    omega (arith, times, exact_from w v n less mine so_far))
    (λ (others : n % w ≡ v → ⊥).
    let same : share w v (suc n) * w ≡ share w v n * w
    = ap (λ m. m * w) (sym next ∙ share_others w v n others) in
    omega (arith, so_far, same))
    (cases_eq (n % w) v)

pub share_exact : (w v n : ℕ) → v < w → n % w ≡ v → v + share w v n * w ≡ n
share_exact w v n less mine = exact_from w v n less mine (share_close w v n less)

-- those of the worker are below n
pub share_below : (w v n j : ℕ) → v < w → j < share w v n → v + j * w < n
share_below w v n j less few =
    let far : (j + 1) * w ≤ share w v n * w = mul-le-mul_right w (omega (arith, few)) in
    omega (arith, far, times_more j w, share_close w v n less)

-- ---- how many they are

abbrev one_if : Bool → ℕ
one_if b = if b then 1 else 0

one_or_none : (b : Bool) → one_if b ≤ 1
one_or_none true = omega arith
one_or_none false = omega arith

pub share_few : (w v n : ℕ) → share w v n ≤ n
share_few w v zero = omega arith
share_few w v (suc n) = omega (arith, share_few w v n, one_or_none ((n % w) == v))

-- each of the first n workers has one
pub share_some : (w v n : ℕ) → v < w → v < n → 1 ≤ share w v n
share_some w v n less few =
    ⊎_elim
    (λ (none : share w v n < 1).
    let zero_is : share w v n ≡ 0 = omega (arith, none) in
    let times : share w v n * w ≡ 0 * w = ap (λ m. m * w) zero_is in
    absurd (omega (arith, share_reaches w v n less, times, few)))
    (λ (some : 1 ≤ share w v n). some)
    (cases_lt (share w v n) 1)

-- one more than each has, where some are left for it
pub share_one_more : (w v n : ℕ) → v < w → v < n % w → share w v n ≡ n / w + 1
share_one_more w v n less left =
    let reaches = share_reaches w v n less in
    let close = share_close w v n less in
    let parts : n % w + n / w * w ≡ n = mod-add-div' n w in
    let within : n % w < w = mod-lt n (omega (arith, less)) in
    equal (share w v n) (n / w + 1)
    (⊎_elim
    (λ (more : n / w + 1 < share w v n).
    let far : (n / w + 1 + 1) * w ≤ share w v n * w = mul-le-mul_right w (omega (arith, more)) in
    absurd (omega (arith, far, times_more (n / w + 1) w, times_more (n / w) w, close, parts, within)))
    (λ (few : share w v n ≤ n / w + 1). few)
    (cases_lt (n / w + 1) (share w v n)))
    (⊎_elim
    (λ (fewer : share w v n < n / w + 1).
    let far : share w v n * w ≤ n / w * w = mul-le-mul_right w (omega (arith, fewer)) in
    absurd (omega (arith, far, reaches, parts, left)))
    (λ (most : n / w + 1 ≤ share w v n). most)
    (cases_lt (share w v n) (n / w + 1)))

-- and as many as each has, where none is
pub share_even : (w v n : ℕ) → v < w → n % w ≤ v → share w v n ≡ n / w
share_even w v n less none =
    let reaches = share_reaches w v n less in
    let close = share_close w v n less in
    let parts : n % w + n / w * w ≡ n = mod-add-div' n w in
    equal (share w v n) (n / w)
    (⊎_elim
    (λ (more : n / w < share w v n).
    let far : (n / w + 1) * w ≤ share w v n * w = mul-le-mul_right w (omega (arith, more)) in
    absurd (omega (arith, far, times_more (n / w) w, close, parts, none)))
    (λ (few : share w v n ≤ n / w). few)
    (cases_lt (n / w) (share w v n)))
    (⊎_elim
    (λ (fewer : share w v n < n / w).
    let far : (share w v n + 1) * w ≤ n / w * w = mul-le-mul_right w (omega (arith, fewer)) in
    absurd (omega (arith, far, times_more (share w v n) w, reaches, parts, less)))
    (λ (most : n / w ≤ share w v n). most)
    (cases_lt (share w v n) (n / w)))

-- ---- those of all workers

-- at most one of them has the next one
at_most_one : (k m : ℕ) → sum_below (λ v. one_if (k == v)) m ≤ 1
at_most_one k zero = omega arith
at_most_one k (suc m) =
    ⊎_elim
    (λ (same : k ≡ m).
    let one : one_if (k == m) ≡ 1 = ap one_if (eq-eqb k m same) in
    omega (arith, none_below k m (omega (arith, same)), one))
    (λ (other : k ≡ m → ⊥).
    let none : one_if (k == m) ≡ 0 = ap one_if (ne_eqb k m other) in
    omega (arith, at_most_one k m, none))
    (cases_eq k m)
  where
    none_below : (k m : ℕ) → m ≤ k → sum_below (λ v. one_if (k == v)) m ≡ 0
    none_below k zero few = refl
    none_below k (suc m) few =
        let none : one_if (k == m) ≡ 0
        = ap one_if (ne_eqb k m (λ same. absurd (omega (arith, few, same)))) in
        omega (arith, none_below k m (omega (arith, few)), none)

sum_of_both : (f g : ℕ → ℕ) (m : ℕ) → sum_below (λ v. f v + g v) m ≡ sum_below f m + sum_below g m
sum_of_both f g zero = refl
sum_of_both f g (suc m) = omega (arith, sum_of_both f g m)

pub shares_few : (w n m : ℕ) → sum_below (λ v. share w v n) m ≤ n
shares_few w zero m = omega (arith, sum_zero m)
  where
    sum_zero : (m : ℕ) → sum_below (λ v. 0) m ≡ 0
    sum_zero zero = refl
    sum_zero (suc m) = omega (arith, sum_zero m)
shares_few w (suc n) m =
    omega (
      arith,
      shares_few w n m,
      sum_of_both (λ v. share w v n) (λ v. one_if ((n % w) == v)) m,
      at_most_one (n % w) m,
    )

-- only equal numbers have equal multiples
pub times_same : (a b w : ℕ) → 0 < w → a * w ≡ b * w → a ≡ b
times_same a b w some same =
    let of : (n : ℕ) → (n * w + 0) / w ≡ n = λ n. div-mul-add n w 0 some in
    let plain : (n : ℕ) → n * w ≡ n * w + 0 = λ n. omega arith in
    sym (of a) ∙ ap (λ m. (m + 0) / w) same ∙ of b
