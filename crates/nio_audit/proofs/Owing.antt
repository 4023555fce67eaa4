-- Which indexes selections have still to put, after a moment is set.
use Rattle.std.proofs.Common.{◌≡◌, ℕ, ◌<◌, Bool, true, false, ◌||◌, ◌&&◌, ◌==◌, if◌then◌else◌, refl, sym, ap, ◌∙◌}
use Rattle.std.proofs.Common.{nat_lt, eqb-true, arith}
use Rattle.std.proofs.lemmas.Bool.{lt-ltb, le-ltb, and_parts}
use Rattle.std.proofs.Math.Bool.{or-true, or-false}
use mathlib.Core.Path.{fun_ext}
use Rattle.nio_audit.specs.DueIndexes.{due_of, IsBefore}
use Rattle.nio_audit.specs.TableWords.{row, grid}
use Rattle.nio_audit.specs.declared.dues.Dues.{Dues}
use Rattle.nio_history.specs.State.{put, put_at}

pub due_of-new : (d : Dues) → row d.ended ≡ (λ _. 0) → grid d.removed ≡ (λ _ _. 0) → due_of d ≡ (λ _ _. false)
unfolding due_of
due_of-new d e r =
    fun_ext (λ s. fun_ext (λ i. ap (λ f. nat_lt (f s) (grid d.removed s i)) e ∙ ap (λ g. nat_lt 0 (g s i)) r))

pub due_of-ended : (d d' : Dues) (s now : ℕ) → IsBefore d now → grid d'.removed ≡ grid d.removed
    → row d'.ended ≡ put (row d.ended) s now
    → due_of d' ≡ (λ t i. if t == s then false else due_of d t i)
unfolding due_of
due_of-ended d d' s now before r e =
    fun_ext (λ t. fun_ext
    (λ i. (ap (λ f. nat_lt (f t) (grid d'.removed t i)) e ∙ ap (λ g. nat_lt (put (row d.ended) s now t) (g t i)) r)
    ∙ by_test (t == s) (row d.ended t) (grid d.removed t i) (before.removed t i)))
  where
    by_test : (b : Bool) (x y : ℕ) → y < now → nat_lt (if b then now else x) y ≡ (if b then false else nat_lt x y)
    by_test true x y h = le-ltb now y (omega arith)
    by_test false x y h = refl

pub due_of-removed : (d d' : Dues) (s i now : ℕ) (frees : Bool) → IsBefore d now → row d'.ended ≡ row d.ended
    → grid d'.removed ≡ put_at (grid d.removed) s i (if frees then now else grid d.removed s i)
    → due_of d' ≡ put_at (due_of d) s i (due_of d s i || frees)
unfolding due_of
due_of-removed d d' s i now frees before e r =
    fun_ext (λ t. fun_ext
    (λ j. (ap (λ f. nat_lt (f t) (grid d'.removed t j)) e ∙ ap (λ g. nat_lt (row d.ended t) (g t j)) r)
    ∙ by_test ((t == s) && (j == i)) t j frees
    (λ b. ap (λ k. nat_lt (row d.ended k) (grid d.removed s i)) (eqb-true t s (and_parts (t == s) (j == i) b).0))))
  where
    by_test : (b : Bool) (t j : ℕ) (frees : Bool)
        → (b ≡ true → nat_lt (row d.ended t) (grid d.removed s i) ≡ nat_lt (row d.ended s) (grid d.removed s i))
        → nat_lt (row d.ended t) (if b then (if frees then now else grid d.removed s i) else grid d.removed t j)
        ≡ (if b then (nat_lt (row d.ended s) (grid d.removed s i) || frees)
        else nat_lt (row d.ended t) (grid d.removed t j))
    by_test false t j frees same = refl
    by_test true t j true same =
        lt-ltb (row d.ended t) now (before.ended t) ∙ sym (or-true (nat_lt (row d.ended s) (grid d.removed s i)))
    by_test true t j false same = same refl ∙ sym (or-false (nat_lt (row d.ended s) (grid d.removed s i)))

pub due_of-put : (d d' : Dues) (s i : ℕ) → row d'.ended ≡ row d.ended → grid d'.removed ≡ put_at (grid d.removed) s i 0
    → due_of d' ≡ put_at (due_of d) s i false
unfolding due_of
due_of-put d d' s i e r =
    fun_ext (λ t. fun_ext
    (λ j. (ap (λ f. nat_lt (f t) (grid d'.removed t j)) e ∙ ap (λ g. nat_lt (row d.ended t) (g t j)) r)
    ∙ by_test ((t == s) && (j == i)) (row d.ended t) (grid d.removed t j)))
  where
    by_test : (b : Bool) (x y : ℕ) → nat_lt x (if b then 0 else y) ≡ (if b then false else nat_lt x y)
    by_test true x y = le-ltb x 0 (omega arith)
    by_test false x y = refl
