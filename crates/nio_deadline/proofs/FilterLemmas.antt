-- Deadlines that are kept by a test.
use Rattle.std.specs.Bool.{⊤}
use Rattle.std.proofs.Common.{◌≡◌, ◌≤◌, Bool, true, false, ◌&&◌, List, [], ◌∷◌, filter, length, refl, ap, arith}
use Rattle.nio_group.proofs.TableLemmas.{by_test}
use Rattle.nio_deadline.specs.Deadlines.{Deadline}

abbrev pub AreSo : (Deadline → Type 0) → List Deadline → Type 0
AreSo P [] = ⊤
AreSo P (d ∷ ds) = P d × AreSo P ds

pub filter-same : (p q : Deadline → Bool) (ds : List Deadline) → AreSo (λ d. p d ≡ q d) ds → filter p ds ≡ filter q ds
filter-same p q [] same = refl
filter-same p q (d ∷ ds) same =
    let rest = filter-same p q ds same.1 in
    by_test (q d)
    (λ t. rw (same.0, t) (ap (λ es. d ∷ es) rest))
    (λ e. rw (same.0, e) rest)

pub filter-all : (p : Deadline → Bool) (ds : List Deadline) → AreSo (λ d. p d ≡ true) ds → ds ≡ filter p ds
filter-all p [] all = refl
filter-all p (d ∷ ds) all = rw all.0 (ap (λ es. d ∷ es) (filter-all p ds all.1))

pub filter-none : (p : Deadline → Bool) (ds : List Deadline) → AreSo (λ d. p d ≡ false) ds → [] ≡ filter p ds
filter-none p [] none = refl
filter-none p (d ∷ ds) none = rw none.0 (filter-none p ds none.1)

pub filter-twice : (p q : Deadline → Bool) (ds : List Deadline) → filter q (filter p ds) ≡ filter (λ d. p d && q d) ds
filter-twice p q [] = refl
filter-twice p q (d ∷ ds) =
    let rest = filter-twice p q ds in
    by_test (p d)
    (λ t. by_test (q d) (λ u. rw (t, u) (ap (λ es. d ∷ es) rest)) (λ u. rw (t, u) rest))
    (λ e. rw e rest)

pub filter-fewer : (p : Deadline → Bool) (ds : List Deadline) → length (filter p ds) ≤ length ds
filter-fewer p [] = omega arith
filter-fewer p (d ∷ ds) =
    let rest = filter-fewer p ds in
    by_test (p d) (λ t. rw t (omega (arith, rest))) (λ e. rw e (omega (arith, rest)))

pub all-so : (P : Deadline → Type 0) (ds : List Deadline) → ((d : Deadline) → P d) → AreSo P ds
all-so P [] all = tt
all-so P (d ∷ ds) all = (all d, all-so P ds all)
