-- A step of a caller's own in a longer history, with what it did before and after it.
use Rattle.std.proofs.Common.{◌≡◌, List, ◌∷◌, ◌++◌, ap, sym, ◌∙◌, subst, append_assoc}
use Rattle.nio_base.specs.declared.limits.Limits.{Limits}
use Rattle.nio_base.specs.declared.numbers.CallerNo.{CallerNo}
use Rattle.nio_history.proofs.Legal.{legal_beginning, legal_next}
use Rattle.nio_history.specs.Histories.{mine, event_of, IsStep, IsLegal}
use Rattle.nio_history.specs.declared.act.Act.{Act}
use Rattle.nio_history.specs.declared.event.Event.{Event}
use Rattle.nio_steps.proofs.OwnActs.{cut_at}

-- it stands after `before`, and the caller did `xs` before it since, and `ys` after it
pub record StepAt (l : Limits) (n : CallerNo) (before later : List Event) (xs : List Act) (act : Act) (ys : List Act)
    : Type 0 where
  pub past : List Event
  pub rest : List Event
  pub parts : later ≡ past ++ event_of n act ∷ rest
  pub own_past : mine n past ≡ xs
  pub own_rest : mine n rest ≡ ys
  pub whole : before ++ later ≡ (before ++ past) ++ event_of n act ∷ rest
  pub step : IsStep l (before ++ past) (event_of n act)
  pub legal_past : IsLegal l (before ++ past)

pub step_at : (l : Limits) (n : CallerNo) (before later : List Event) (xs : List Act) (act : Act) (ys : List Act)
    → IsLegal l (before ++ later) → mine n later ≡ xs ++ act ∷ ys → StepAt l n before later xs act ys
step_at l n before later xs act ys legal own =
    let cut = cut_at n later xs act ys own in
    let e = event_of n act in
    let whole : before ++ later ≡ (before ++ cut.past) ++ e ∷ cut.later = ap (λ events. before ++ events) cut.parts
    ∙ sym (append_assoc before cut.past (e ∷ cut.later)) in
    let legal' = subst (IsLegal l) whole legal in
    record {
      past = cut.past;
      rest = cut.later;
      parts = cut.parts;
      own_past = cut.mine_past;
      own_rest = cut.mine_later;
      whole = whole;
      step = legal_next l (before ++ cut.past) e cut.later legal';
      legal_past = legal_beginning l (before ++ cut.past) (e ∷ cut.later) legal';
    }
