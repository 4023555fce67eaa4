-- What a call leaves as it was.
use Rattle.std.proofs.Common.{◌≡◌, ℕ, Bool, List, Vec, length, ap, sym, ◌∙◌}
use Rattle.std.specs.Vec.{with_items}
use Rattle.std.proofs.lemmas.List.{with_items_is}
use Rattle.nio_base.specs.declared.numbers.ChanNo.{ChanNo}
use Rattle.nio_checked.specs.Checked.{Checked}

abbrev checked_of : {N : Type 0} → N → ℕ → List (ChanNo × ℕ) → ℕ → Bool → Checked N
checked_of net numbers told given failed =
    record { net = net; numbers = numbers; told = told; given = given; failed = failed }

-- a checked net of which each part is as before
pub unchanged : {N : Type 0} (old new : Checked N) → new.net ≡ old.net → new.numbers ≡ old.numbers
    → new.told ≡ old.told → new.given ≡ old.given → new.failed ≡ old.failed → new ≡ old
unchanged {N = N} old new net numbers told given failed =
    ap (λ (x : N). checked_of x new.numbers new.told new.given new.failed) net
    ∙ (ap (λ (x : ℕ). checked_of old.net x new.told new.given new.failed) numbers
    ∙ (ap (λ (x : List (ChanNo × ℕ)). checked_of old.net old.numbers x new.given new.failed) told
    ∙ (ap (λ (x : ℕ). checked_of old.net old.numbers old.told x new.failed) given
    ∙ ap (λ (x : Bool). checked_of old.net old.numbers old.told old.given x) failed)))

-- a vector over whose elements as many others were written
pub written : {X Z : Type 0} (v : Vec X Z) (ws : List X) {us : List X} → length ws ≡ v.len → ws ≡ us
    → (with_items v ws).items ≡ us
written v ws many same = with_items_is v ws many ∙ same

-- a vector over whose elements they themselves were written
pub written_same : {X Z : Type 0} (v : Vec X Z) (ws : List X) → ws ≡ v.items → (with_items v ws).items ≡ v.items
written_same v ws same = written v ws (ap length same ∙ sym v.ok.0) same
