-- A judge that follows a history decides which event is a step, and follows the history with it.
use Rattle.std.proofs.Common.{◌≡◌, ℕ, ◌+◌, ◌*◌, ◌<◌, ◌≤◌, ◌↔◌, List, [], ◌∷◌, ◌++◌, length, ap, sym, ◌∙◌, subst, arith}
use Rattle.std.proofs.lemmas.List.{length-append}
use Rattle.nio_audit.proofs.Counted.{counted-step}
use Rattle.nio_audit.proofs.Knowing.{remembers-more}
use Rattle.nio_audit.proofs.Recalling.{allowed_iff}
use Rattle.nio_audit.specs.Allowing.{state_of, IsAllowed}
use Rattle.nio_audit.specs.Audit.{MayStep}
use Rattle.nio_audit.specs.Bounds.{IsBounded}
use Rattle.nio_audit.specs.Counting.{IsCounted, channels_after, keys_after}
use Rattle.nio_audit.specs.DueIndexes.{IsBefore}
use Rattle.nio_audit.specs.Following.{Follows, HasJudged}
use Rattle.nio_audit.specs.Remembering.{Knowledge, knowledge_of, learned}
use Rattle.nio_audit.specs.Remembers.{Remembers}
use Rattle.nio_audit.specs.StepNumbers.{number_of}
use Rattle.nio_audit.specs.TableWords.{row}
use Rattle.nio_audit.specs.declared.judge.Judge.{Judge}
use Rattle.nio_base.specs.Limits.{IsFit}
use Rattle.nio_base.specs.declared.limits.Limits.{Limits}
use Rattle.nio_base.specs.declared.numbers.CallerNo.{CallerNo}
use Rattle.nio_history.proofs.Legal.{legal_more}
use Rattle.nio_history.proofs.OneMore.{state_after-more}
use Rattle.nio_history.proofs.PinLaws.{claims_again_the_removed}
use Rattle.nio_history.proofs.Soundness.{legal-sound}
use Rattle.nio_history.specs.Acts.{effect}
use Rattle.nio_history.specs.Answers.{Answers}
use Rattle.nio_history.specs.Conditions.{Condition, IsCaller}
use Rattle.nio_history.specs.Histories.{state_after, mine, event_of, IsStep, IsLegal}
use Rattle.nio_history.specs.Sound.{IsSound}
use Rattle.nio_base.specs.Numbers.{last_serial}
use Rattle.nio_history.specs.State.{State}
use Rattle.nio_history.specs.declared.act.Act.{Act}
use Rattle.nio_history.specs.declared.act.Act.TheVariants.{ClaimAgain, Reopen, TakeTouched}
use Rattle.nio_history.specs.declared.event.Event.{Event}
use Rattle.nio_history.specs.declared.found.Stage.{Stage}

-- what the judge tests
abbrev pub IsPassed : Judge → Event → Type 0
IsPassed j e = IsCaller j.limits e.caller × IsAllowed j e.caller e.act × Answers (state_of j) e.caller e.act

module _ {j : Judge} {past : List Event} (e : Event) (f : Follows j past) where
  condition_iff : IsAllowed j e.caller e.act ↔ Condition j.limits (mine e.caller past) (state_of j) e.caller e.act
  condition_iff = allowed_iff j.limits e.caller e.act f.remembers f.counted

  pub step_iff : IsPassed j e ↔ IsStep j.limits past e
  step_iff = (
    λ passed. record {
      by_caller = passed.0;
      condition = subst (λ (st : State). Condition j.limits (mine e.caller past) st e.caller e.act) f.state
          (condition_iff.0 passed.1);
      answers = subst (λ (st : State). Answers st e.caller e.act) f.state passed.2;
    },
    λ step. (
      step.by_caller,
      condition_iff.1
          (subst (λ (st : State). Condition j.limits (mine e.caller past) st e.caller e.act)
          (sym f.state) step.condition),
      subst (λ (st : State). Answers st e.caller e.act) (sym f.state) step.answers,
    ),
  )

bounded_act : (l : _) (past : List Event) (me : _) (act : Act) → IsFit l → IsLegal l past
    → IsStep l past (record { caller = me; act = act }) → IsBounded (state_after past) (number_of act)
bounded_act l past me (ClaimAgain s i c from found) fit legal step =
    let law = claims_again_the_removed l me s i c from found past []
    (legal_more l past (event_of me (ClaimAgain s i c from found)) legal step) in
    subst (λ (k : Stage). k.serial < last_serial) (sym law.0) step.condition.5
bounded_act l past me (Reopen c from found) fit legal step = step.condition.4
bounded_act l past me (TakeTouched s j found) fit legal step =
    let below : 64 * j < l.keys = step.condition.1 in
    let few : l.keys ≤ 262144 = fit.few_keys in
    omega arith
bounded_act l past me _ fit legal step = tt

-- the serial of an index that is claimed again has a next, and so has that of a channel whose number is given to a
-- new one; a table can have the indexes whose bits are taken
pub step-bounded : {j : Judge} {past : List Event} (e : Event) → IsFit j.limits → Follows j past → IsLegal j.limits past
    → IsPassed j e
    → IsBounded (state_of j) (number_of e.act)
step-bounded {j = j} {past = past} e fit f legal passed =
    subst (λ (st : State). IsBounded st (number_of e.act)) (sym f.state)
    (bounded_act j.limits past e.caller e.act fit legal ((step_iff e f).0 passed))

-- what going on by an event leaves
pub record GoesOn (j j' : Judge) (now : ℕ) (e : Event) : Type 0 where
  pub state : state_of j' ≡ effect (state_of j) e.caller e.act
  pub channels : j'.counts.channels ≡ channels_after j.counts.channels (number_of e.act)
  pub keys : row j'.counts.keys ≡ keys_after (row j.counts.keys) (number_of e.act)
  pub before : IsBefore j'.dues (now + 1)
  pub knowledge : knowledge_of j'.memory ≡ learned now e.caller e.act (knowledge_of j.memory)

pub follows-more : {j j' : Judge} {past : List Event} (e : Event) → Follows j past → IsLegal j.limits past
    → IsPassed j e → GoesOn j j' (length past + 1) e
    → Follows j' (past ++ e ∷ [])
follows-more {j = j} {j' = j'} {past = past} e f legal passed on = record {
  state = on.state ∙ (ap (λ st. effect st e.caller e.act) f.state ∙ sym (state_after-more past e));
  counted = subst (λ (st : State). IsCounted st j'.counts.channels (row j'.counts.keys)) (sym on.state)
      (subst (λ (n : ℕ). IsCounted (effect (state_of j) e.caller e.act) n (row j'.counts.keys)) (sym on.channels)
      (subst (λ (g : ℕ → ℕ). IsCounted (effect (state_of j) e.caller e.act)
      (channels_after j.counts.channels (number_of e.act)) g)
      (sym on.keys)
      (counted-step j.limits (mine e.caller past) (state_of j) e.caller e.act j.counts.channels (row j.counts.keys)
      (subst IsSound (sym f.state) (legal-sound j.limits past legal)) ((condition_iff e f).0 passed.1) passed.2
      f.counted)));
  before =
      let longer : (length past + 1) + 1 ≡ length (past ++ e ∷ []) + 1 = omega (arith, length-append past (e ∷ [])) in
      subst (IsBefore j'.dues) longer on.before;
  remembers = subst (λ (k : Knowledge). Remembers k (past ++ e ∷ [])) (sym on.knowledge)
      (remembers-more (knowledge_of j.memory) past e f.remembers);
}

-- the same whatever the step finds
pub may_step_iff : {j : Judge} {l : Limits} {past : List Event} (me : CallerNo) (act : Act) → HasJudged j l past
    → (IsCaller j.limits me × IsAllowed j me act) ↔ MayStep l past me act
may_step_iff {j = j} {l = l} {past = past} me act judged = (
  λ may. record {
    by_caller = subst (λ (l' : Limits). IsCaller l' me) judged.limits may.0;
    condition = subst (λ (l' : Limits). Condition l' (mine me past) (state_after past) me act) judged.limits
        (subst (λ (st : State). Condition j.limits (mine me past) st me act) judged.follows.state
        ((condition_iff (event_of me act) judged.follows).0 may.1));
  },
  λ may. (
    subst (λ (l' : Limits). IsCaller l' me) (sym judged.limits) may.by_caller,
    (condition_iff (event_of me act) judged.follows).1
        (subst (λ (st : State). Condition j.limits (mine me past) st me act) (sym judged.follows.state)
        (subst (λ (l' : Limits). Condition l' (mine me past) (state_after past) me act)
        (sym judged.limits) may.condition)),
  ),
)
