-- A key that was published before a selection without the list begins, and is valid when it has begun, is looked at.
use Rattle.std.proofs.Common.{◌≡◌, ◌∷◌, sym, ap, subst}
use Rattle.std.specs.List.{Contains}
use Rattle.nio_history.specs.Histories.{state_after, mine, event_of}
use Rattle.nio_history.specs.declared.act.Act.TheVariants.{LookKey}
use Rattle.nio_history.specs.declared.found.Stage.{Stage}
use Rattle.nio_steps.proofs.GoneLaws.{step_in}
use Rattle.nio_steps.proofs.LookedLaws.{Met, IsListed, is_free, is_found, is_gone, begin-meets}
use Rattle.nio_steps.proofs.ValidListed.{IsIt, valid_between, not_gone, not_free}
use Rattle.nio_steps.specs.Laws.{HasEntry, ValidKeysAreLookedAt}
use Rattle.nio_steps.specs.Steps.{stage_in}

pub valid_keys_are_looked_at : ValidKeysAreLookedAt
valid_keys_are_looked_at l n before later s mode selection i serial legal run published valid below =
    by_meeting (begin-meets s mode (mine n later) selection run i below)
  where
    found_valid : (stage : Stage) → Contains (mine n later) (LookKey s i stage)
        → IsIt l n before later s i serial legal published valid stage
    found_valid stage look =
        let there = step_in l n before later (LookKey s i stage) legal look in
        let is : stage ≡ (state_after there.past).key s.0 i = ap stage_in there.step.answers in
        subst (IsIt l n before later s i serial legal published valid) (sym is)
        (valid_between l n before later s i serial legal published valid there.past
        (event_of n (LookKey s i stage) ∷ there.rest) there.parts there.begins there.legal_past)

    by_meeting : Met s i (IsListed i selection.looked) (mine n later) → HasEntry selection.looked i serial
    by_meeting (is_free j b word at low look bit) =
        absurd (not_free l n before later s i serial legal published valid j b word at low look bit)
    by_meeting (is_found stage look listed) =
        let it = found_valid stage look in subst (HasEntry selection.looked i) it.serial_is (listed.has_valid it.valid_is)
    by_meeting (is_gone found there) = absurd (not_gone l n before later s i serial legal published valid found there)
