-- Going over the indexes of a selector that aren't free: each key that is looked at comes after those before.
use Rattle.std.proofs.Common.{◌≡◌, ℕ, ◌+◌, ◌<◌, ◌≤◌, Bool, not, if◌then◌else◌, List, [], ◌∷◌, ◌++◌, refl, ap, ◌∙◌}
use Rattle.std.proofs.Common.{ne_eqb, arith}
use Rattle.std.proofs.lemmas.Bool.{lt-ltb}
use Rattle.std.proofs.lemmas.List.Elements.{All-head, All-tail, All-weaker, All-push}
use Rattle.nio_steps.specs.Looking.{enlisted, without_index}
use Rattle.nio_steps.specs.declared.looked.LookedKey.{LookedKey}
use Rattle.nio_select.specs.Asked.{AreBelow}

without_last : (i : ℕ) (keys : List LookedKey) → AreBelow i keys → without_index i keys ≡ keys
without_last i [] below = refl
without_last i (k ∷ later) below =
    ap (λ (b : Bool). if not b then k ∷ without_index i later else without_index i later)
    (ne_eqb k.index i (λ same. omega (arith, same, All-head (λ e. e.index < i) k later below)))
    ∙ ap (λ xs. k ∷ xs) (without_last i later (All-tail (λ e. e.index < i) k later below))

enlisted_last : (e : LookedKey) (keys : List LookedKey) → AreBelow e.index keys → enlisted e keys ≡ keys ++ e ∷ []
unfolding enlisted
enlisted_last e [] below = refl
enlisted_last e (k ∷ later) below =
    ap (λ (b : Bool). if b then k ∷ enlisted e later else e ∷ k ∷ later)
    (lt-ltb k.index e.index (All-head (λ x. x.index < e.index) k later below))
    ∙ ap (λ xs. k ∷ xs) (enlisted_last e later (All-tail (λ x. x.index < e.index) k later below))

-- a key above all others comes last
pub put_last : (e : LookedKey) (keys : List LookedKey) → AreBelow e.index keys
    → enlisted e (without_index e.index keys) ≡ keys ++ e ∷ []
put_last e keys below = ap (enlisted e) (without_last e.index keys below) ∙ enlisted_last e keys below

pub below_longer : (m n : ℕ) (keys : List LookedKey) → m ≤ n → AreBelow m keys → AreBelow n keys
below_longer m n keys less below =
    All-weaker (λ x. x.index < m) (λ x. x.index < n) (λ x low. omega (arith, less, low)) keys below

pub below_push : (e : LookedKey) (keys : List LookedKey) → AreBelow e.index keys → AreBelow (e.index + 1) (keys ++ e ∷ [])
below_push e keys below =
    All-push (λ x. x.index < e.index + 1) keys e (below_longer e.index (e.index + 1) keys (omega arith) below) (omega arith)
