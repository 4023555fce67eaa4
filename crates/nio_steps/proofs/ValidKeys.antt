-- What it says of an index that a key is valid there, or in the key set.
use Rattle.std.proofs.Common.{◌≡◌, ℕ, ◌==◌, not, ◌||◌, Bool, true, List, ap, eqb-true, eq-eqb}
use Rattle.std.proofs.lemmas.Bool.{and_parts, and_from}
use Rattle.nio_base.specs.declared.limits.Limits.{Limits}
use Rattle.nio_history.proofs.Soundness.{legal-sound, beyond-claimed}
use Rattle.nio_history.specs.Histories.{state_after, IsLegal}
use Rattle.nio_history.specs.Sets.{fits, in_key_set, is_in_key_set, is_valid, is_valid_key}
use Rattle.nio_history.specs.declared.event.Event.{Event}
use Rattle.nio_history.specs.declared.found.Stage.{Stage}

-- in a legal history the key of a valid stage is a valid key
pub valid_here : (l : Limits) (past : List Event) (s i serial : ℕ) → IsLegal l past
    → is_valid ((state_after past).key s i) ≡ true
    → ((state_after past).key s i).serial ≡ serial → is_valid_key ((state_after past).key s i) serial ≡ true
valid_here l past s i serial legal valid same =
    let st = state_after past in
    let k : Stage = st.key s i in
    let in_set = (and_parts (in_key_set k) (not k.cancelled) valid).0 in
    let published : k.published ≡ true = (and_parts k.published (not k.removed) in_set).0 in
    let claimed : k.claimed ≡ true = beyond-claimed st (legal-sound l past legal) s i
    (ap (λ (b : Bool). b || k.cancelled || k.removed) published) in
    and_from (fits k serial) (is_valid k)
    (and_from k.claimed (k.serial == serial) claimed (eq-eqb k.serial serial same)) valid

-- a valid key is in the key set
pub valid_in_set : (k : Stage) (serial : ℕ) → is_valid_key k serial ≡ true → is_in_key_set k serial ≡ true
valid_in_set k serial valid =
    let parts = and_parts (fits k serial) (is_valid k) valid in
    and_from (fits k serial) (in_key_set k) parts.0 (and_parts (in_key_set k) (not k.cancelled) parts.1).0

-- the index of a key of the key set is claimed, with its serial
pub in_set-fits : (k : Stage) (serial : ℕ) → is_in_key_set k serial ≡ true
    → (k.claimed ≡ true) × (k.serial ≡ serial)
in_set-fits k serial there =
    let both = and_parts k.claimed (k.serial == serial) (and_parts (fits k serial) (in_key_set k) there).0 in
    (both.0, eqb-true k.serial serial both.1)
