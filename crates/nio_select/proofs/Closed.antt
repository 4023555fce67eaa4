-- What a closing that has finished found and removed.
use Rattle.std.proofs.Common.{◌≡◌, ℕ, true, List, [], ◌∷◌, ◌++◌, refl, ap, sym, ◌∙◌, subst, append_assoc}
use Rattle.std.specs.Prelude.{⊤, is_some}
use Rattle.nio_base.specs.declared.numbers.SelNo.{SelNo}
use Rattle.nio_history.specs.Histories.{state_after, mine, event_of, IsLegal}
use Rattle.nio_history.specs.PassViews.{done_between}
use Rattle.nio_history.specs.Questions.{answer_of}
use Rattle.nio_history.specs.Sets.{was_claimed, was_removed}
use Rattle.nio_history.specs.declared.act.Act.{Act}
use Rattle.nio_history.specs.declared.act.Act.TheVariants.{LookKeys}
use Rattle.nio_steps.proofs.OwnActs.{cut_at}
use Rattle.nio_steps.proofs.Walks.{Always, always_run, always_bind, always_if, always_any}
use Rattle.nio_steps.specs.Laws.{ClosedRemovesKeys}
use Rattle.nio_steps.specs.Plan.{reply}
use Rattle.nio_steps.specs.Runs.{Completes}
use Rattle.nio_steps.specs.SelectCalls.{FinishReply, closed, busy, remove_key, try_finish_plan}
use Rattle.nio_steps.specs.Steps.{holder_in, number_in}
use Rattle.nio_steps.specs.Sweeps.{sweep_to}
use Rattle.nio_select.proofs.GoneOn.{done_in}
use Rattle.nio_steps.proofs.ListedBy.{keys-look}
use Rattle.nio_select.specs.Laws.{ClosingsRemoveKeys, ClosingsFindHigh}

pub closings_remove_keys : ClosedRemovesKeys → ClosingsRemoveKeys
closings_remove_keys law old new me s mark i serial past call finds claimed below =
    let looked = finds.after.0 in
    let e = event_of me (LookKeys s mark) in
    let in_call = looked ++ e ∷ finds.later in
    let whole : old.seen ++ in_call ≡ new.seen
    = sym (append_assoc old.seen looked (e ∷ finds.later))
    ∙ (ap (λ events. events ++ e ∷ finds.later) finds.after.1 ∙ sym finds.parts) in
    let legal : IsLegal old.limits (old.seen ++ in_call) = subst (IsLegal old.limits)
    (sym whole) call.acts.history.legal in
    let run = subst (λ acts. Completes (try_finish_plan s) acts closed) (done_in me old new in_call whole) call.shape in
    subst (λ events. was_removed ((state_after events).key s.0 i) serial ≡ true) whole
    (law old.limits me old.seen looked finds.later s mark i serial legal run
    (subst (λ events. was_claimed ((state_after events).key s.0 i) serial ≡ true) (sym finds.after.1) claimed)
    below)

-- ---- the look at the high-water mark

record HasLook (s : SelNo) (acts : List Act) : Type 0 where
  enters : Act
  mark : ℕ
  rest : List Act
  parts : acts ≡ enters ∷ LookKeys s mark ∷ rest

abbrev LooksWhereClosed : SelNo → List Act → FinishReply → Type 0
LooksWhereClosed s acts closed = HasLook s acts
LooksWhereClosed s acts busy = ⊤

finish-looks : (s : SelNo) → Always (LooksWhereClosed s) (try_finish_plan s)
unfolding try_finish_plan
finish-looks s =
    λ enters asks. always_if (λ xs r. LooksWhereClosed s (enters ∷ xs) r) (is_some (holder_in (answer_of enters)))
    (reply busy) _ (λ _. tt)
    (λ _ look asks'. let sweep = sweep_to (number_in (answer_of look)) 0 (λ i _. remove_key s i) tt in
    always_bind (λ _ _. ⊤) (λ xs r. LooksWhereClosed s (enters ∷ look ∷ xs) r) sweep (λ _. reply closed)
    (always_any sweep)
    (λ xs _ _. record {
      enters = enters;
      mark = number_in (answer_of look);
      rest = xs ++ [];
      parts =
          ap (λ act. enters ∷ act ∷ (xs ++ [])) (keys-look s look asks');
    }))

pub closings_find_high : ClosingsFindHigh
closings_find_high old new me s call =
    let more = call.acts.history.goes_on in
    let look = always_run (LooksWhereClosed s) (try_finish_plan s) (done_between me old new) closed
    (finish-looks s) call.shape in
    let own : mine me more.0 ≡ (look.enters ∷ []) ++ LookKeys s look.mark
    ∷ look.rest = sym (done_in me old new more.0 more.1) ∙ look.parts in
    let cut = cut_at me more.0 (look.enters ∷ []) (LookKeys s look.mark) look.rest own in
    let e = event_of me (LookKeys s look.mark) in (
      look.mark,
      old.seen ++ cut.past,
      record {
        later = cut.later;
        parts = sym more.1
            ∙ (ap (λ events. old.seen ++ events) cut.parts ∙ sym (append_assoc old.seen cut.past (e ∷ cut.later)));
        after = (cut.past, refl);
      },
    )
