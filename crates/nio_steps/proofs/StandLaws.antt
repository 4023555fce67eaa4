-- What a caller began and hasn't ended stands in the state, whatever others did.
use Rattle.std.proofs.Common.{◌≡◌, ℕ, List, true, false, not, ◌||◌, [], ◌∷◌, ◌++◌, Some, refl, ap, sym, ◌∙◌, subst}
use Rattle.std.proofs.Common.{Option}
use Rattle.std.proofs.Common.{append_assoc, eq-eqb}
use Rattle.std.specs.Prelude.{⊤}
use Rattle.std.proofs.lemmas.Bool.{and_from, or_from, or_right}
use Rattle.std.proofs.lemmas.List.Folds.{list_any-append}
use Rattle.nio_base.specs.declared.limits.Limits.{Limits}
use Rattle.nio_base.specs.declared.numbers.CallerNo.{CallerNo}
use Rattle.nio_base.specs.declared.numbers.SelNo.{SelNo}
use Rattle.nio_history.proofs.Legal.{legal_next}
use Rattle.nio_history.proofs.OneMore.{state_after-more}
use Rattle.nio_history.proofs.Put.{put-same}
use Rattle.nio_history.proofs.Stays.{facts_are_permanent, only_itself_gives_back}
use Rattle.nio_history.specs.Acts.{effect}
use Rattle.nio_history.specs.Conditions.{has_turn, has_begun, is_held_by, is_closer}
use Rattle.nio_history.specs.Histories.{state_after, mine, event_of, IsLegal}
use Rattle.nio_history.specs.Permanent.{a_selection, selector_closed_by}
use Rattle.nio_history.specs.OwnEvents.{has, gives_turn}
use Rattle.nio_history.specs.Questions.{Question, question_of, answer_of}
use Rattle.nio_history.specs.State.{put}
use Rattle.nio_history.specs.declared.act.Act.{Act}
use Rattle.nio_history.specs.declared.act.Act.TheVariants.{BeginLook, ShutBit}
use Rattle.nio_history.specs.declared.event.Event.{Event}
use Rattle.nio_history.specs.declared.found.GateWord.{GateWord}
use Rattle.nio_steps.proofs.BeginLaws.{begin-parts}
use Rattle.nio_steps.proofs.EachLaws.{each_run}
use Rattle.nio_steps.proofs.OwnActs.{cut_at, at_own}
use Rattle.nio_steps.proofs.SelectionAsks.{each_look_at_keys}
use Rattle.nio_steps.proofs.SelectionLaws.{NoGive, asks_give, no_gives, not-gives}
use Rattle.nio_steps.specs.Laws.{SelectionsStand, ClosingsStand}
use Rattle.nio_steps.specs.Runs.{Completes}
use Rattle.nio_steps.specs.Looking.{look_at_keys}
use Rattle.nio_steps.specs.Steps.{gate_in}
use Rattle.nio_steps.specs.declared.looked.LookedKey.{LookedKey}

-- ---- a beginning of a selection

pub look-act : (s : SelNo) (act : Act) → question_of act ≡ Question.begin_look s
    → act ≡ BeginLook s (gate_in (answer_of act))
look-act s (BeginLook s' found) asks = cc asks
look-act s _ asks = absurd (cc asks)

-- who looked with the turn, found the gate not shut and hasn't given the turn back since has begun
pub begun_since : (l : Limits) (n : CallerNo) (events : List Event) (s : SelNo) (before : List Act) (found : GateWord)
    (later : List Act) → IsLegal l events
    → mine n events ≡ before ++ BeginLook s found ∷ later → found.shut ≡ false → has (gives_turn s.0) later ≡ false
    → has_begun (state_after events) n s ≡ true
begun_since l n events s before found later legal own opens keeps =
    let cut = cut_at n events before (BeginLook s found) later own in
    let e = event_of n (BeginLook s found) in
    let legal' = subst (IsLegal l) cut.parts legal in
    let step = legal_next l cut.past e cut.later legal' in
    let st = state_after cut.past in
    let begins : (st.begun s.0 || not found.shut) ≡ true = or_right (st.begun s.0) (not found.shut) (ap not opens) in
    let here : has_begun (effect st n (BeginLook s found)) n s ≡ true
    = and_from (has_turn st n s) (put st.begun s.0 (st.begun s.0 || not found.shut) s.0) step.condition.1
    (put-same st.begun s.0 (st.begun s.0 || not found.shut) ∙ begins) in
    let there : has_begun (state_after (cut.past ++ e ∷ [])) n s ≡ true = ap (λ x. has_begun x n s)
    (state_after-more cut.past e) ∙ here in
    let joined : (cut.past ++ e ∷ []) ++ cut.later ≡ events = append_assoc cut.past (e ∷ []) cut.later
    ∙ sym cut.parts in
    subst (λ evs. has_begun (state_after evs) n s ≡ true) joined
    (only_itself_gives_back l n (cut.past ++ e ∷ []) cut.later (subst (IsLegal l) (sym joined) legal) (a_selection s)
    (ap (has (gives_turn s.0)) cut.mine_later ∙ keeps) there)

-- going over the indexes doesn't give the turn back
pub over-keeps : (s : SelNo) (bound : ℕ) (known : Option (List LookedKey)) (over : List Act) (looked : List LookedKey)
    → Completes (look_at_keys s bound known) over looked → has (gives_turn s.0) over ≡ false
over-keeps s bound known over looked run =
    no_gives s.0 over (each_run (NoGive s.0) (λ _. ⊤) (look_at_keys s bound known) over looked
    (each_look_at_keys (NoGive s.0) s bound known
    (record {
      frees = λ _. refl;
      touched = λ _. refl;
      takes = λ _. refl;
      at = λ _. record {
        looks = refl;
        looks_interest = refl;
        removes = refl;
        puts = refl;
        looks_index = refl;
        touches = refl;
      };
    })) run).0

-- who began a selection has begun on its selector, in every legal history
pub selections_stand : SelectionsStand
selections_stand l n events selection legal begun =
    let s = selection.selector in
    let first = begin-parts s selection.mode begun.known begun.beginning selection begun.begins in
    let found = gate_in (answer_of first.look) in
    let before = first.gate ∷ first.take ∷ [] in
    let rest = first.keys ∷ first.over in
    let keeps_over = over-keeps s selection.bound begun.known first.over selection.looked first.runs_over in
    let keeps_rest : has (gives_turn s.0) rest ≡ false
    = or_from _ _ (not-gives s.0 first.keys (ap (asks_give s.0) first.asks_keys)) keeps_over in
    let acts : begun.beginning ≡ before ++ BeginLook s found ∷ rest
    = first.parts ∙ ap (λ x. first.gate ∷ first.take ∷ x ∷ rest) (look-act s first.look first.asks_look) in
    let own : mine n events ≡ (begun.earlier ++ before) ++ BeginLook s found ∷ (rest ++ begun.since)
    = begun.parts ∙ (ap (λ xs. begun.earlier ++ (xs ++ begun.since)) acts
    ∙ sym (append_assoc begun.earlier before (BeginLook s found ∷ (rest ++ begun.since)))) in
    begun_since l n events s (begun.earlier ++ before) found (rest ++ begun.since) legal own first.opens
    (list_any-append (gives_turn s.0) rest begun.since ∙ or_from _ _ keeps_rest begun.goes_on)

-- ---- closing

-- who shut a selector is its closer, in every legal history
pub closings_stand : ClosingsStand
closings_stand l n events s legal closing =
    let act = ShutBit s false in
    let at = at_own n events act closing in
    let e = event_of n act in
    let joined : (at.past ++ e ∷ []) ++ at.later ≡ events = append_assoc at.past (e ∷ []) at.later ∙ sym at.parts in
    let st = state_after at.past in
    let closes : is_closer (effect st n act) n s ≡ true = ap (is_held_by n) (put-same st.closer s.0 (Some n))
    ∙ eq-eqb n.0 n.0 refl in
    let here : is_closer (state_after (at.past ++ e ∷ [])) n s ≡ true = ap (λ x. is_closer x n s)
    (state_after-more at.past e) ∙ closes in
    facts_are_permanent l (at.past ++ e ∷ []) events (at.later, joined) legal (selector_closed_by s n) here
