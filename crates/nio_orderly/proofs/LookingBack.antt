-- The rules of careful histories, looking back: at each act by what its caller did before it alone. A legal
-- history whose acts keep them is careful.
use Rattle.std.proofs.Common.{◌≡◌, ℕ, Bool, true, false, Some, List, ◌∷◌, ◌++◌}
use Rattle.nio_history.specs.OwnEvents.{OwnClaim, has, count, under, sets_mode, own_claim}
use Rattle.nio_history.specs.declared.act.Act.{Act}
use Rattle.nio_history.specs.declared.act.Act.TheVariants.{Publish, Enrol, SetMode, Reopen}
use Rattle.nio_orderly.specs.Careful.{enrols_for, enrols_this_key, is_prepared}

-- it published a key
abbrev pub publishes_any : Act → Bool
publishes_any (Publish s i found) = true
publishes_any _ = false

-- before it publishes the key of its claim
pub record MayPublish (s i : ℕ) (claim : OwnClaim) (own : List Act) : Type 0 where
  pub enrolled : has (enrols_this_key claim.channel.0 s i claim.serial) (under claim.channel.0 own) ≡ true
  pub enrolled_alone : count (enrols_for claim.channel.0) (under claim.channel.0 own) ≡ 1
  pub mode : has (sets_mode claim.channel.0) (under claim.channel.0 own) ≡ false
  pub prepared : is_prepared s i own ≡ true

-- a caller that did `own` does this act with care
abbrev pub CarefulAct : List Act → Act → Type 0
CarefulAct own (Publish s i found) = (claim : OwnClaim) → own_claim s.0 i own ≡ Some claim → MayPublish s.0 i claim own
CarefulAct own (Enrol c s i serial found) = has publishes_any (under c.0 own) ≡ false
CarefulAct own (SetMode c blocking found) = has publishes_any (under c.0 own) ≡ false
CarefulAct own (Reopen c from false) = has publishes_any (under c.0 own) ≡ false
CarefulAct own act = Unit {0}

-- each of the acts is done with care
abbrev pub AreCarefulActs : List Act → Type 0
AreCarefulActs own = (before : List Act) (act : Act) (later : List Act) → own ≡ before ++ act ∷ later
    → CarefulAct before act
