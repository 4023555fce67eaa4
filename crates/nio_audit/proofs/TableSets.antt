-- A table after a value is set, by one number, two and three.
use Rattle.std.proofs.Common.{◌≡◌, ℕ, Bool, true, false, ◌&&◌, if◌then◌else◌, refl, ap, ◌∙◌, eqb-true, nat_eq}
use mathlib.Core.Path.{fun_ext}
use Rattle.nio_audit.specs.TableWords.{value_at, row, grid, cube, put_at_three}
use Rattle.nio_audit.specs.declared.table.Cube.{Cube}
use Rattle.nio_audit.specs.declared.table.Grid.{Grid}
use Rattle.nio_audit.specs.declared.table.Row.{Row}
use Rattle.nio_history.specs.State.{put, put_at}

pub row-set : {V : Type 0} (t t' : Row V) (n : ℕ) (x : V)
    → ((q : ℕ) → value_at nat_eq t'.0 q ≡ (if nat_eq q n then x else value_at nat_eq t.0 q))
    → row t' ≡ put (row t) n x
unfolding row
row-set t t' n x h = fun_ext h

pub grid-set : {V : Type 0} (t t' : Grid V) (m n : ℕ) (x : V)
    → ((q : ℕ × ℕ) → value_at (λ y z. nat_eq y.0 z.0 && nat_eq y.1 z.1) t'.0 q
    ≡ (if nat_eq q.0 m && nat_eq q.1 n then x else value_at (λ y z. nat_eq y.0 z.0 && nat_eq y.1 z.1) t.0 q))
    → grid t' ≡ put_at (grid t) m n x
unfolding grid
grid-set t t' m n x h = fun_ext (λ i. fun_ext (λ j. h (i, j)))

cube_case : {V : Type 0} (a b c : Bool) (x y : V) (F G : ℕ → V) (k : ℕ) → y ≡ G k
    → (a ≡ true → b ≡ true → (if c then x else y) ≡ F k)
    → (if (a && b) && c then x else y) ≡ (if a && b then F else G) k
cube_case true true c x y F G k other here = here refl refl
cube_case true false c x y F G k other here = other
cube_case false b c x y F G k other here = other

pub cube-set : {V : Type 0} (t t' : Cube V) (m n o : ℕ) (x : V)
    → ((q : ℕ × ℕ × ℕ) → value_at (λ y z. (nat_eq y.0 z.0 && nat_eq y.1 z.1) && nat_eq y.2 z.2) t'.0 q
    ≡ (if (nat_eq q.0 m && nat_eq q.1 n) && nat_eq q.2 o then x
    else value_at (λ y z. (nat_eq y.0 z.0 && nat_eq y.1 z.1) && nat_eq y.2 z.2) t.0 q))
    → cube t' ≡ put_at_three (cube t) m n o x
unfolding cube
cube-set t t' m n o x h = fun_ext (λ i. fun_ext (λ j. fun_ext (λ k. h (i, j, k)
    ∙ cube_case (nat_eq i m) (nat_eq j n) (nat_eq k o) x (cube t i j k) (put (cube t m n) o x) (cube t i j) k refl
    (λ a b. ap (λ y. if nat_eq k o then x else y)
    (ap (λ v. cube t v j k) (eqb-true i m a) ∙ ap (λ v. cube t m v k) (eqb-true j n b))))))
