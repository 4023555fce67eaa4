-- Clients in lists: the first ones, and those that are counted.
use Rattle.std.proofs.Common.{◌≡◌, ◌≢◌, ℕ, zero, suc, ◌+◌, ◌<◌, ◌≤◌, Bool, true, false, IsFalse, if◌then◌else◌, All, refl, ap, arith}
use Rattle.std.proofs.Common.{List, [], ◌∷◌, length, length-append}
use Rattle.std.specs.Prelude.{count_by}
use Rattle.std.proofs.lemmas.List.Elements.{All-head, All-nil, All-push, All-tail}
use Rattle.std.proofs.lemmas.List.Sums.{sum_by-append}
use Rattle.nio_base.specs.declared.numbers.ChanId.{ChanId}
use Rattle.nio_serve.specs.Serving.{listener}
use Rattle.nio_reactor.specs.Accepting.{client_at, clients_below}

-- ---- the clients of the first connections

pub client_listener : (k : ℕ) → client_at k ≢ listener
client_listener k is =
    let at : 1 ≡ 0 = ap (λ (c : ChanId). c.number.0) is in absurd (omega (arith, at))

pub client_else : (j k : ℕ) → j ≢ k → client_at j ≢ client_at k
client_else j k other is = other (ap (λ (c : ChanId). c.serial) is)

-- what holds of each connection below n holds of all clients
pub all_below : (P : ChanId → Type 0) (n : ℕ) → ((k : ℕ) → k < n → P (client_at k)) → All P (clients_below n)
all_below P zero each = All-nil P
all_below P (suc n) each =
    All-push P (clients_below n) (client_at n) (all_below P n (λ k few. each k (omega (arith, few))))
    (each n (omega arith))

pub length_below : (n : ℕ) → length (clients_below n) ≡ n
length_below zero = refl
length_below (suc n) = omega (arith, length-append (clients_below n) (client_at n ∷ []), length_below n)

-- ---- how many are counted

abbrev one_if : Bool → ℕ
one_if b = if b then 1 else 0

one_or_none : (b : Bool) → one_if b ≤ 1
one_or_none true = omega arith
one_or_none false = omega arith

count_first : (f : ChanId → Bool) (x : ChanId) (xs : List ChanId) → count_by f (x ∷ xs) ≡ one_if (f x) + count_by f xs
count_first f x xs =
    let joined : count_by f (x ∷ xs) ≡ count_by f (x ∷ []) + count_by f xs =
    sum_by-append (λ c. if f c then 1 else 0) (x ∷ []) xs in
    let first : count_by f (x ∷ []) ≡ one_if (f x) = omega arith in
    omega (arith, joined, first)

pub few_counted : (f : ChanId → Bool) (xs : List ChanId) → count_by f xs ≤ length xs
few_counted f [] = omega arith
few_counted f (x ∷ xs) = omega (arith, count_first f x xs, one_or_none (f x), few_counted f xs)

pub count_nobody : (f : ChanId → Bool) (xs : List ChanId) → All (λ c. IsFalse (f c)) xs → count_by f xs ≡ 0
count_nobody f [] none = refl
count_nobody f (x ∷ xs) none =
    let first : one_if (f x) ≡ 0 = ap one_if (All-head (λ c. IsFalse (f c)) x xs none) in
    omega (arith, count_first f x xs, first, count_nobody f xs (All-tail (λ c. IsFalse (f c)) x xs none))
