-- A finished closing removed each key below the high-water mark that it found, where the key was claimed before.
use Rattle.std.proofs.Common.{◌≡◌, ℕ, ◌+◌, ◌<◌, ◌==◌, Bool, true, false, List, [], ◌∷◌, ◌++◌, refl, ap, sym, ◌∙◌, subst}
use Rattle.std.proofs.Common.{append_assoc, eqb-true, eq-eqb, arith}
use Rattle.std.specs.Prelude.{⊤, is_some}
use Rattle.std.specs.List.{All, Contains}
use Rattle.std.proofs.lemmas.Bool.{eqb-false}
use Rattle.std.proofs.lemmas.List.{append-nil}
use Rattle.std.proofs.lemmas.List.Elements.{All-contains, Contains-append_left, Contains-append_right}
use Rattle.nio_base.specs.declared.numbers.SelNo.{SelNo}
use Rattle.nio_history.proofs.OneMore.{mine-append}
use Rattle.nio_history.proofs.Stays.{facts_are_permanent}
use Rattle.nio_history.specs.Histories.{state_after, mine, event_of, IsLegal}
use Rattle.nio_history.specs.Permanent.{key_claimed}
use Rattle.nio_history.specs.Questions.{Question, question_of, answer_of}
use Rattle.nio_history.specs.Sets.{was_claimed, was_removed}
use Rattle.nio_history.specs.declared.act.Act.{Act}
use Rattle.nio_history.specs.declared.act.Act.TheVariants.{LookKeys, Remove}
use Rattle.nio_history.specs.declared.found.Stage.{Stage}
use Rattle.nio_steps.proofs.EachLaws.{each_sweep, each_run}
use Rattle.nio_steps.proofs.GoneLaws.{claimed_removed, removal_stands}
use Rattle.nio_steps.proofs.Lists.{contains-middle}
use Rattle.nio_steps.proofs.Listing.{removal}
use Rattle.nio_steps.proofs.OwnActs.{mine-own_first}
use Rattle.nio_steps.proofs.Walks.{Always, always_if, always_bind, always_itself, always_sweep, always_run}
use Rattle.nio_steps.specs.Laws.{ClosedRemovesKeys}
use Rattle.nio_steps.specs.Plan.{reply}
use Rattle.nio_steps.specs.Runs.{Completes}
use Rattle.nio_steps.specs.SelectCalls.{FinishReply, closed, busy, remove_key, try_finish_plan}
use Rattle.nio_steps.specs.Steps.{number_in, holder_in, stage_in}
use Rattle.nio_steps.specs.Sweeps.{sweep_to}

-- ---- the parts of a run that answers Closed

module _ (s : SelNo) where
  -- the look at the turn and the look at the high-water mark, and then the removal of each index below the high-water
  -- mark
  record Finished (acts : List Act) : Type 0 where
    enters : Act
    look : Act
    rest : List Act
    parts : acts ≡ enters ∷ look ∷ rest
    asks_enter : question_of enters ≡ Question.enter s
    asks_look : question_of look ≡ Question.look_keys s
    runs_rest : Completes (sweep_to (number_in (answer_of look)) 0 (λ i _. remove_key s i) tt) rest tt

  abbrev IsFinishedBy : List Act → FinishReply → Type 0
  IsFinishedBy acts closed = Finished acts
  IsFinishedBy acts busy = ⊤

  finish-finished : Always IsFinishedBy (try_finish_plan s)
  unfolding try_finish_plan
  finish-finished =
      λ enters asks. always_if (λ xs r. IsFinishedBy (enters ∷ xs) r) (is_some (holder_in (answer_of enters)))
      (reply busy) _ (λ _. tt)
      (λ _ look asks'. always_bind (Completes (sweep_to (number_in (answer_of look)) 0 (λ i _. remove_key s i) tt))
      (λ xs r. IsFinishedBy (enters ∷ look ∷ xs) r)
      (sweep_to (number_in (answer_of look)) 0 (λ i _. remove_key s i) tt) (λ _. reply closed)
      (always_itself (sweep_to (number_in (answer_of look)) 0 (λ i _. remove_key s i) tt))
      (λ xs u run. record {
        enters = enters;
        look = look;
        rest = xs;
        parts = ap (λ acts. enters ∷ look ∷ acts) (append-nil xs);
        asks_enter = asks;
        asks_look = asks';
        runs_rest = run;
      }))

  -- the acts have a removal of each of the first indexes
  record IsRemoval (i : ℕ) (acts : List Act) : Type 0 where
    found : Stage
    there : Contains acts (Remove s i found)

  abbrev AreRemoved : ℕ → List Act → Type 0
  AreRemoved k acts = (i : ℕ) → i < k → IsRemoval i acts

  sweep-removes : (bound : ℕ) → Always (λ acts _. AreRemoved bound acts) (sweep_to bound 0 (λ i _. remove_key s i) tt)
  sweep-removes bound =
      always_sweep (λ k acts _. AreRemoved k acts) bound 0 (λ i _. remove_key s i) tt (omega arith)
      (λ i low. absurd (omega arith))
      (λ k acts _ _ _ here act asks i low. by_place k acts here act asks i low (i == k) refl)
    where
      by_place : (k : ℕ) (acts : List Act) → AreRemoved k acts → (act : Act) → question_of act ≡ Question.remove s k
          → (i : ℕ) → i < k + 1 → (b : Bool) → (i == k) ≡ b → IsRemoval i (acts ++ act ∷ [])
      by_place k acts here act asks i low true is =
          let same : i ≡ k = eqb-true i k is in
          subst (λ (m : ℕ). IsRemoval m (acts ++ act ∷ [])) (sym same)
          (record {
            found = stage_in (answer_of act);
            there =
                subst (Contains (acts ++ act ∷ [])) (removal s k act asks) (contains-middle acts act []);
          })
      by_place k acts here act asks i low false is =
          let earlier = here i (omega (arith, eqb-false i k is)) in
          record {
            found = earlier.found;
            there = Contains-append_left acts (act ∷ [])
                (Remove s i earlier.found) earlier.there;
          }

-- ---- the one look at the high-water mark

abbrev asks_keys : Question → Bool
asks_keys (Question.look_keys s) = true
asks_keys _ = false

-- what stands before and after it
look-place : (mark : ℕ) (s : SelNo) (xs ys : List Act) (enters look : Act) (rest : List Act)
    → asks_keys (question_of enters) ≡ false → All (λ act. asks_keys (question_of act) ≡ false) rest
    → xs ++ LookKeys s mark ∷ ys ≡ enters ∷ look ∷ rest → (look ≡ LookKeys s mark) × (ys ≡ rest)
look-place mark s [] ys enters look rest not_it not_later same = let is : LookKeys s mark ≡ enters =
    cc same in absurd (cc (ap (λ act. asks_keys (question_of act)) is ∙ not_it))
look-place mark s (x ∷ []) ys enters look rest not_it not_later same = (sym (cc same), cc same)
look-place mark s (x ∷ y ∷ xs) ys enters look rest not_it not_later same =
    let is : xs ++ LookKeys s mark ∷ ys ≡ rest = cc same in
    absurd (cc
    (All-contains (λ act. asks_keys (question_of act) ≡ false) rest (LookKeys s mark) not_later
    (subst (λ acts. Contains acts (LookKeys s mark)) is (contains-middle xs (LookKeys s mark) ys))))

pub closed_removes_keys : ClosedRemovesKeys
closed_removes_keys l n before looked later s mark i serial legal run claimed below =
    let e = event_of n (LookKeys s mark) in
    let call = looked ++ e ∷ later in
    let finished = always_run (IsFinishedBy s) (try_finish_plan s) (mine n call) closed (finish-finished s) run in
    let bound = number_in (answer_of finished.look) in
    let sweep = sweep_to bound 0 (λ k _. remove_key s k) tt in
    let none_later = (each_run (λ q. asks_keys q ≡ false) (λ _. ⊤) sweep finished.rest tt
    (each_sweep (λ q. asks_keys q ≡ false) (λ _. ⊤) bound 0 (λ k _. remove_key s k) tt tt
    (λ k x _ _ _. (refl, λ _. tt))) finished.runs_rest).0 in
    let own : mine n call ≡ mine n looked ++ LookKeys s mark ∷ mine n later = mine-append n looked (e ∷ later)
    ∙ ap (λ acts. mine n looked ++ acts) (mine-own_first n e later (eq-eqb n.0 n.0 refl)) in
    let place = look-place mark s (mine n looked) (mine n later) finished.enters finished.look finished.rest
    (ap asks_keys finished.asks_enter) none_later (sym own ∙ finished.parts) in
    let is : bound ≡ mark = ap (λ act. number_in (answer_of act)) place.0 in
    let removes = always_run (λ acts _. AreRemoved s bound acts) sweep finished.rest tt
    (sweep-removes s bound) finished.runs_rest i (omega arith) in
    let there : Contains (mine n (e ∷ later)) (Remove s i removes.found) =
    subst (λ acts. Contains acts (Remove s i removes.found))
    (sym (mine-own_first n e later (eq-eqb n.0 n.0 refl) ∙ ap (λ acts. LookKeys s mark ∷ acts) place.1))
    (Contains-append_right (LookKeys s mark ∷ []) finished.rest (Remove s i removes.found) removes.there) in
    let joined : before ++ call ≡ (before ++ looked) ++ e ∷ later = sym (append_assoc before looked (e ∷ later)) in
    subst (λ events. was_removed ((state_after events).key s.0 i) serial ≡ true) (sym joined)
    (removal_stands l n (before ++ looked) (e ∷ later) s i serial removes.found (subst (IsLegal l) joined legal) there
    (λ past begins legal' k is'. claimed_removed (record k { removed = true }) serial
    (subst (λ (x : Stage). was_claimed x serial ≡ true) (sym is')
    (facts_are_permanent l (before ++ looked) past begins legal' (key_claimed s.0 i serial) claimed)) refl))
