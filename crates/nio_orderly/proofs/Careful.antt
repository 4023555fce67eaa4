-- Careful histories: their beginnings, and what a publish at their end keeps.
use Rattle.std.proofs.Common.{◌≡◌, ℕ, ◌==◌, ◌+◌, ◌≤◌, true, ◌&&◌, Some, List, [], ◌∷◌, ◌++◌, append_assoc, refl, ap}
use Rattle.std.proofs.Common.{sym, ◌∙◌, arith, eq-eqb}
use Rattle.std.proofs.lemmas.Bool.{and_parts}
use Rattle.nio_base.specs.declared.numbers.SelNo.{SelNo}
use Rattle.nio_history.proofs.OneMore.{mine-own, mine-append, has_none-append}
use Rattle.nio_history.specs.Histories.{mine}
use Rattle.nio_history.specs.OwnEvents.{OwnClaim, has, count, under, sets_mode, own_claim}
use Rattle.nio_history.specs.declared.act.Act.{Act}
use Rattle.nio_history.specs.declared.act.Act.TheVariants.{Publish, Enrol}
use Rattle.nio_history.specs.declared.event.Event.{Event}
use Rattle.nio_history.specs.declared.found.Stage.{Stage}
use Rattle.nio_orderly.proofs.ActLists.{has_counts, until_released-append}
use Rattle.nio_orderly.proofs.LookingBack.{MayPublish}
use Rattle.nio_orderly.specs.Careful.{enrols_for, enrols_this_key, until_released, its_hold, KeepsRules, IsCareful}
use Rattle.nio_orderly.specs.Careful.{BeginningsAreCareful}
use Rattle.nio_steps.proofs.SelectionLaws.{count-append}

-- who enrols a key for a channel enrols one for it
pub key_enrolled_for : (c s i q : ℕ) (act : Act) → enrols_this_key c s i q act ≡ true → enrols_for c act ≡ true
key_enrolled_for c s i q (Enrol c' s' i' serial found) enrolled =
    let three = (and_parts ((c'.0 == c) && (s'.0 == s) && (i' == i)) (serial == q) enrolled).0 in
    let two = (and_parts ((c'.0 == c) && (s'.0 == s)) (i' == i) three).0 in
    (and_parts (c'.0 == c) (s'.0 == s) two).0
key_enrolled_for c s i q act enrolled = absurd (cc enrolled)

-- where one at least is among the first, and one is among all, one is among the first
one_among : (a b : ℕ) → 1 ≤ a → a + b ≡ 1 → a ≡ 1
one_among a b some one = omega arith

-- a publish that keeps the rules in a longer history keeps them in a beginning
pub rules_before : (s i : ℕ) (claim : OwnClaim) (before later more : List Act)
    → KeepsRules s i claim before (later ++ more) → KeepsRules s i claim before later
rules_before s i claim before later more rules = record {
  enrolled = rules.enrolled;
  enrolled_alone = one_among (count (enrols_for c) (its_hold c before later)) (count (enrols_for c) rest.0) some
      (sym (count-append (enrols_for c) (its_hold c before later) rest.0)
      ∙ (ap (count (enrols_for c)) (sym whole) ∙ rules.enrolled_alone));
  mode = (has_none-append (sets_mode c) (its_hold c before later) rest.0
      (ap (has (sets_mode c)) (sym whole) ∙ rules.mode)).0;
  prepared = rules.prepared;
}
  where
    c : ℕ
    c = claim.channel.0

    rest : (zs : List Act) × (until_released c (later ++ more) ≡ until_released c later ++ zs)
    rest = until_released-append c later more

    whole : its_hold c before (later ++ more) ≡ its_hold c before later ++ rest.0
    whole = ap (λ acts. under c before ++ acts) rest.1
        ∙ sym (append_assoc (under c before) (until_released c later) rest.0)

    some : 1 ≤ count (enrols_for c) (its_hold c before later)
    some =
        let first = has_counts (enrols_for c) (enrols_this_key c s i claim.serial) (key_enrolled_for c s i claim.serial)
        (under c before) rules.enrolled in
        omega (arith, count-append (enrols_for c) (under c before) (until_released c later))

pub beginnings_are_careful : BeginningsAreCareful
beginnings_are_careful before after goes_on careful n b s i found later parts claim its =
    rules_before s.0 i claim b later (mine n goes_on.0)
    (careful n b s i found (later ++ mine n goes_on.0)
    (ap (mine n) (sym goes_on.1)
    ∙ (mine-append n before goes_on.0
    ∙ (ap (λ acts. acts ++ mine n goes_on.0) parts
    ∙ append_assoc b (Publish s i found ∷ later) (mine n goes_on.0))))
    claim its)

-- what a publish that keeps the rules keeps looking back
pub rules_back : (s i : ℕ) (claim : OwnClaim) (before later : List Act) → KeepsRules s i claim before later
    → MayPublish s i claim before
rules_back s i claim before later rules = record {
  enrolled = rules.enrolled;
  enrolled_alone = one_among (count (enrols_for c) (under c before)) (count (enrols_for c) (until_released c later))
      (has_counts (enrols_for c) (enrols_this_key c s i claim.serial) (key_enrolled_for c s i claim.serial)
      (under c before) rules.enrolled)
      (sym (count-append (enrols_for c) (under c before) (until_released c later)) ∙ rules.enrolled_alone);
  mode = (has_none-append (sets_mode c) (under c before) (until_released c later) rules.mode).0;
  prepared = rules.prepared;
}
  where
    c : ℕ
    c = claim.channel.0

-- the last event of a careful history keeps the rules looking back, where it publishes a key
pub careful_last : (past : List Event) (e : Event) → IsCareful (past ++ e ∷ []) → (s : SelNo) (i : ℕ) (found : Stage)
    → e.act ≡ Publish s i found
    → (claim : OwnClaim) → own_claim s.0 i (mine e.caller past) ≡ Some claim
    → MayPublish s.0 i claim (mine e.caller past)
careful_last past e careful s i found publishes claim its =
    rules_back s.0 i claim (mine e.caller past) []
    (careful e.caller (mine e.caller past) s i found []
    (mine-own e.caller past e (eq-eqb e.caller.0 e.caller.0 refl)
    ∙ ap (λ act. mine e.caller past ++ act ∷ []) publishes) claim its)
