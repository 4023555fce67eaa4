-- The parts of a selector after its calls.
use Rattle.std.proofs.Common.{◌≡◌, ℕ, eqb, true, false, cond, Some, None, refl, sym, ap, ◌∙◌, ltb}
use Rattle.std.proofs.lemmas.Bool.{cond-true, cond-false, ne_eqb}
use Rattle.std.specs.BTreeMap.{BTreeMap, Updates, get}
use Rattle.std.specs.Ordering.{nat_cmp, is_eq}
use Rattle.std.specs.declared.cmp.Ordering.{Ordering}
use Rattle.std.specs.declared.cmp.Ordering.TheVariants.{Less, Equal, Greater}
use Rattle.nio_base.specs.declared.numbers.KeyId.{KeyId}
use Rattle.nio_history.specs.Sets.{is_in_key_set}
use Rattle.nio_history.specs.State.{put}
use Rattle.nio_plain.proofs.Places.{put_is}
use Rattle.nio_plain.specs.PlainState.{SelectorRow, key_in, if_in_set}

-- the channel's key in a selector, by what is enrolled

pub key_in-gone : (r : SelectorRow) (c : ℕ) (k : KeyId) → r.enrolled c ≡ Some k
    → is_in_key_set (r.keys k.index).stage k.serial ≡ false → key_in r c ≡ None
key_in-gone r c k e h =
    ap (if_in_set r.keys) e ∙ cond-false (is_in_key_set (r.keys k.index).stage k.serial) (Some k) None h

pub key_in-some : (r : SelectorRow) (c : ℕ) (k : KeyId) → r.enrolled c ≡ Some k
    → is_in_key_set (r.keys k.index).stage k.serial ≡ true → key_in r c ≡ Some k
key_in-some r c k e h =
    ap (if_in_set r.keys) e ∙ cond-true (is_in_key_set (r.keys k.index).stage k.serial) (Some k) None h

-- a map by numbers after an insertion
is_eq-other : (k q : ℕ) → (q ≡ k → ⊥) → is_eq (nat_cmp k q) ≡ false
is_eq-other k q h =
    elim (ltb k q) as (λ b. is_eq (cond {A = Ordering} b Less (cond {A = Ordering} (eqb k q) Equal Greater)) ≡ false)
    [ true ↦ refl | false ↦ ap (λ b. is_eq (cond {A = Ordering} b Equal Greater)) (ne_eqb k q (λ e. h (sym e))) ]

pub get-insert : {V : Type 0} (m n : BTreeMap ℕ V) (k : ℕ) (v : V) → Updates nat_cmp m n k (Some v)
    → (λ c. get nat_cmp n c) ≡ put (λ c. get nat_cmp m c) k (Some v)
get-insert m n k v u =
    put_is (λ c. get nat_cmp n c) (λ c. get nat_cmp m c) k (Some v) u.1 (λ q ne. u.2 q (is_eq-other k q ne))
