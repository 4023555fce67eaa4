-- After a poll that failed, and after want of memory, the turn is free, and a pending wakeup stays.
use Rattle.std.proofs.Common.{◌≡◌, ◌==◌, ◌&&◌, true, false, Some, None, Result, Ok, Err, List, [], ◌∷◌, ◌++◌, refl, ap}
use Rattle.nio_history.specs.Turns.{ends_wakeup}
use Rattle.nio_steps.specs.declared.looked.LookedKey.{LookedKey}
use Rattle.std.specs.Prelude.{Option, List}
use Rattle.std.proofs.Common.{sym, ◌∙◌, subst, append_assoc, eq-eqb}
use Rattle.std.specs.Prelude.{⊤, is_some}
use Rattle.std.proofs.lemmas.Bool.{and_parts, and_from}
use Rattle.nio_base.specs.declared.limits.Limits.{Limits}
use Rattle.nio_base.specs.declared.numbers.CallerNo.{CallerNo}
use Rattle.nio_base.specs.declared.numbers.SelNo.{SelNo}
use Rattle.nio_history.proofs.Clauses.{last_of-later}
use Rattle.nio_history.proofs.Finds.{last_event, step_leaves}
use Rattle.nio_history.proofs.Keeping.{stands_while}
use Rattle.nio_history.proofs.LastsAlone.{one_holder}
use Rattle.nio_history.proofs.Legal.{not_empty, legal_beginning}
use Rattle.nio_history.proofs.OneMore.{state_after-more}
use Rattle.nio_history.proofs.Put.{put_keeps, put-same}
use Rattle.nio_history.specs.Acts.{effect}
use Rattle.nio_history.specs.Conditions.{Condition, is_held_by, has_turn}
use Rattle.nio_history.specs.Histories.{state_after, mine, event_of, last_of, EndsWith, IsLegal}
use Rattle.nio_history.specs.Holders.{Keeps}
use Rattle.nio_history.specs.OwnEvents.{has, gives_turn}
use Rattle.nio_history.specs.PassViews.{PassView, Holds, known, done_between, ActsClause}
use Rattle.nio_history.specs.Permanent.{the_turn}
use Rattle.nio_history.specs.Questions.{Question, question_of, answer_of}
use Rattle.nio_history.specs.State.{State}
use Rattle.nio_history.specs.declared.act.Act.{Act}
use Rattle.nio_history.specs.declared.act.Act.TheVariants.{LookKeys, TakeTurn, BeginLook, GiveTurn, Wake, EndWake}
use Rattle.nio_history.specs.declared.act.Act.TheVariants.{ShutBit}
use Rattle.nio_history.specs.declared.event.Event.{Event}
use Rattle.nio_history.specs.declared.found.Mode.{Mode}
use Rattle.nio_steps.proofs.OwnActs.{Cut, cut_at}
use Rattle.nio_steps.proofs.StandLaws.{look-act, selections_stand}
use Rattle.nio_steps.proofs.Walks.{Always, always_run, always_if}
use Rattle.nio_steps.specs.Plan.{reply}
use Rattle.nio_steps.specs.Runs.{Completes}
use Rattle.nio_steps.specs.SelectCalls.{Selection, given_back, begin_with_turn, begin_open, try_begin_plan, leave_plan}
use Rattle.nio_steps.specs.Steps.{gate_in, holder_in, number_in}
use Rattle.nio_steps.specs.declared.refusal.BeginError.{BeginError}
use Rattle.nio_select.proofs.GoneOn.{done_in, mine-around}
use Rattle.nio_steps.proofs.ListedBy.{keys-look}
use Rattle.nio_select.specs.Laws.{IsGivenBack, LeavingGivesBack, NoMemoryGivesBack}

-- ---- who has the turn keeps a pending wakeup

-- nobody else ends the wakeup of a selector whose turn the caller has
woken_kept : (l : Limits) (own : List Act) (st : State) (me n : CallerNo) (act : Act) (s : SelNo)
    → Condition l own st me act → has_turn st n s ≡ true → ((me.0 == n.0) && ends_wakeup s.0 act) ≡ false
    → (st.gate s.0).woken ≡ true → ((effect st me act).gate s.0).woken ≡ true
woken_kept l own st me n (Wake k found) s may turn spared =
    put_keeps (λ _ g. g.woken ≡ true) st.gate k.0 _ (λ _. refl) s.0
woken_kept l own st me n (EndWake k found) s may turn spared = λ now.
    put_keeps (λ m g. is_held_by n (st.turn m) ≡ true → ((me.0 == n.0) && (k.0 == m)) ≡ false → g.woken ≡ true) st.gate
    k.0 _
    (λ _ turn' spared'.
    let holder = one_holder me n (st.turn k.0) (and_parts (has_turn st me k) (st.begun k.0) may.1).0 turn' in
    let ends = and_from (me.0 == n.0) (k.0 == k.0) (eq-eqb me.0 n.0 holder) (eq-eqb k.0 k.0 refl) in
    absurd cc)
    s.0 (λ _ _. now) turn spared
woken_kept l own st me n (ShutBit k found) s may turn spared =
    put_keeps (λ _ g. g.woken ≡ true) st.gate k.0 _ (λ e. e) s.0
woken_kept l own st me n act s may turn spared = λ now. now

turn_keeps_wakeup : (l : Limits) (n : CallerNo) (s : SelNo) (before later : List Event)
    → Keeps l n (the_turn s) before later → has (ends_wakeup s.0) (mine n later) ≡ false
    → ((state_after before).gate s.0).woken ≡ true → ((state_after (before ++ later)).gate s.0).woken ≡ true
turn_keeps_wakeup l n s =
    stands_while l n (the_turn s) (ends_wakeup s.0) (λ st. (st.gate s.0).woken ≡ true)
    (λ past e legal step had spared. woken_kept l (mine e.caller past) (state_after past) e.caller n e.act s
    step.condition had spared)

-- the caller's last step gives the turn back, which it had when `past` had happened
given_back_last : (l : Limits) (me : CallerNo) (s : SelNo) (past between : List Event) (now : PassView)
    → now.seen ≡ (past ++ between) ++ event_of me (GiveTurn s) ∷ []
    → Keeps l me (the_turn s) past between → has (ends_wakeup s.0) (mine me between) ≡ false
    → IsGivenBack past now s
given_back_last l me s past between now parts keeps spared =
    let st = state_after (past ++ between) in
    let left : known now ≡ effect st me (GiveTurn s)
    = ap state_after parts ∙ state_after-more (past ++ between) (event_of me (GiveTurn s)) in
    record {
      free = ap (λ x. x.turn s.0) left ∙ put-same st.turn s.0 None;
      wakeup = λ woken. ap (λ x. (x.gate s.0).woken) left ∙ turn_keeps_wakeup l me s past between keeps spared woken;
    }

-- ---- after a poll that failed

leave-acts : (selection : Selection) (acts : List Act) → Completes (leave_plan selection) acts tt
    → acts ≡ GiveTurn selection.selector ∷ []
unfolding leave_plan
leave-acts selection [] run = absurd (cc run)
leave-acts selection (GiveTurn s ∷ []) run =
    let same : s ≡ selection.selector = cc run.0 in
    ap (λ t. GiveTurn t ∷ []) same
leave-acts selection (GiveTurn s ∷ act ∷ acts) run = absurd run.1
leave-acts selection (_ ∷ acts) run = absurd (cc run.0)

pub leaving_gives_back : LeavingGivesBack
leaving_gives_back old new me selection selects call =
    let s = selection.selector in
    let clause = subst (λ acts. ActsClause me acts old new)
    (leave-acts selection (done_between me old new) call.shape) call.acts in
    let leaves = step_leaves old.limits (Holds old) me (GiveTurn s) old.seen new.seen clause.history in
    let e = event_of me (GiveTurn s) in
    let whole : new.seen ≡ (old.seen ++ leaves.between) ++ e ∷ [] = leaves.parts
    ∙ sym (append_assoc old.seen leaves.between (e ∷ [])) in
    let legal : IsLegal old.limits (old.seen ++ leaves.between) = legal_beginning old.limits
    (old.seen ++ leaves.between) (e ∷ []) (subst (IsLegal old.limits) whole clause.history.legal) in
    given_back_last old.limits me s old.seen leaves.between new whole
    (record {
      legal = legal;
      has_it = (and_parts (has_turn (known old) me s) ((known old).begun s.0)
          (selections_stand old.limits me old.seen selection (legal_beginning old.limits old.seen leaves.between legal)
          selects.begun)).0;
      kept = ap (has (gives_turn s.0)) leaves.own;
    })
    (ap (has (ends_wakeup s.0)) leaves.own)

-- ---- after want of memory

-- the steps of a `try_begin` for which there is no memory
record LacksMemory (s : SelNo) (acts : List Act) : Type 0 where
  gate : Act
  look : Act
  keys : Act
  asks_look : question_of look ≡ Question.begin_look s
  asks_keys : question_of keys ≡ Question.look_keys s
  parts : acts ≡ gate ∷ TakeTurn s None ∷ look ∷ keys ∷ GiveTurn s ∷ []

abbrev Lacks : SelNo → List Act → Result Selection BeginError → Type 0
Lacks s acts (Ok selection) = ⊤
Lacks s acts (Err BeginError.ClosedSelector) = ⊤
Lacks s acts (Err BeginError.Busy) = ⊤
Lacks s acts (Err BeginError.Memory) = LacksMemory s acts

take-act : (s : SelNo) (act : Act) → question_of act ≡ Question.take_turn s
    → is_some (holder_in (answer_of act)) ≡ false → act ≡ TakeTurn s None
take-act s (TakeTurn s' None) asks free = ap (λ t. TakeTurn t None) (cc asks)
take-act s (TakeTurn s' (Some n)) asks free = absurd (cc free)
take-act s _ asks free = absurd (cc asks)

give-act : (s : SelNo) (act : Act) → question_of act ≡ Question.give_turn s → act ≡ GiveTurn s
give-act s (GiveTurn s') asks = cc asks
give-act s _ asks = absurd (cc asks)

begin-lacks : (s : SelNo) (mode : Mode) (known : Option (List LookedKey))
    → Always (Lacks s) (try_begin_plan s mode known true)
unfolding try_begin_plan
begin-lacks s mode known =
    λ gate asks. always_if (λ xs r. Lacks s (gate ∷ xs) r) (gate_in (answer_of gate)).shut
    (reply (Err BeginError.ClosedSelector)) (begin_open s mode known true) (λ _. tt)
    (λ _ take asks_take. always_if (λ xs r. Lacks s (gate ∷ take ∷ xs) r) (is_some (holder_in (answer_of take)))
    (reply (Err BeginError.Busy)) (begin_with_turn s mode known true) (λ _. tt)
    (λ free look asks_look. always_if (λ xs r. Lacks s (gate ∷ take ∷ look ∷ xs) r) (gate_in (answer_of look)).shut
    (given_back s (Err BeginError.ClosedSelector)) _ (λ _ give asks_give. tt)
    (λ _ keys asks_keys give asks_give. record {
      gate = gate;
      look = look;
      keys = keys;
      asks_look = asks_look;
      asks_keys = asks_keys;
      parts = ap (λ act. gate ∷ act ∷ look ∷ keys ∷ give ∷ []) (take-act s take asks_take free)
          ∙ ap (λ act. gate ∷ TakeTurn s None ∷ look ∷ keys ∷ act ∷ []) (give-act s give asks_give);
    })))

-- what ends with an event of the caller's, and has none of it in its last part, ends with that event
nothing_after : (n : CallerNo) (past : List Event) (act : Act) (later : List Event) → mine n later ≡ []
    → last_of (past ++ event_of n act ∷ later) ≡ Some (event_of n act) → later ≡ []
nothing_after n past act [] none is = refl
nothing_after n past act (x ∷ xs) none is =
    let e = event_of n act in
    let last = last_event (x ∷ xs) e
    (sym (last_of-later (e ∷ []) x xs) ∙ (sym (last_of-later past e (x ∷ xs)) ∙ is)) in
    absurd (not_empty (mine n last.0) act []
    (sym none ∙ (ap (mine n) last.1 ∙ mine-around n last.0 act [])))

pub no_memory_gives_back : NoMemoryGivesBack
no_memory_gives_back old new me s mode known call = (
  past,
  record {
    later = take.later;
    parts = joined;
    after = (take.past, refl);
  },
  given_back,
)
  where
    lacks : LacksMemory s (done_between me old new)
    lacks = always_run (Lacks s) (try_begin_plan s mode known true) (done_between me old new) (Err BeginError.Memory)
        (begin-lacks s mode known) call.shape

    more : List Event
    more = call.acts.history.goes_on.0

    own : mine me more ≡ lacks.gate ∷ TakeTurn s None ∷ lacks.look ∷ lacks.keys ∷ GiveTurn s ∷ []
    own = sym (done_in me old new more call.acts.history.goes_on.1) ∙ lacks.parts

    take : Cut me more (lacks.gate ∷ []) (TakeTurn s None) (lacks.look ∷ lacks.keys ∷ GiveTurn s ∷ [])
    take = cut_at me more (lacks.gate ∷ []) (TakeTurn s None) (lacks.look ∷ lacks.keys ∷ GiveTurn s ∷ []) own

    give : Cut me take.later (lacks.look ∷ lacks.keys ∷ []) (GiveTurn s) []
    give = cut_at me take.later (lacks.look ∷ lacks.keys ∷ []) (GiveTurn s) [] take.mine_later

    past : List Event
    past = old.seen ++ take.past

    e : Event
    e = event_of me (TakeTurn s None)

    e' : Event
    e' = event_of me (GiveTurn s)

    joined : new.seen ≡ past ++ e ∷ take.later
    joined = sym call.acts.history.goes_on.1
        ∙ (ap (λ events. old.seen ++ events) take.parts ∙ sym (append_assoc old.seen take.past (e ∷ take.later)))

    before_give : List Event
    before_give = (past ++ e ∷ []) ++ give.past

    parts : new.seen ≡ before_give ++ e' ∷ give.later
    parts = joined
        ∙ (ap (λ events. past ++ e ∷ events) give.parts
        ∙ (sym (append_assoc past (e ∷ []) (give.past ++ e' ∷ give.later))
        ∙ sym (append_assoc (past ++ e ∷ []) give.past (e' ∷ give.later))))

    ends : last_of new.seen ≡ Some e'
    ends = subst (λ acts. EndsWith me old.seen acts new.seen) lacks.parts call.acts.history.ends

    whole : new.seen ≡ before_give ++ e' ∷ []
    whole = parts
        ∙ ap (λ events. before_give ++ e' ∷ events)
        (nothing_after me before_give (GiveTurn s) give.later give.mine_later (ap last_of (sym parts) ∙ ends))

    legal : IsLegal old.limits before_give
    legal = legal_beginning old.limits before_give (e' ∷ [])
        (subst (IsLegal old.limits) whole call.acts.history.legal)

    st : State
    st = state_after past

    taken : state_after (past ++ e ∷ []) ≡ effect st me (TakeTurn s None)
    taken = state_after-more past e

    looks : lacks.look ∷ lacks.keys ∷ []
        ≡ BeginLook s (gate_in (answer_of lacks.look)) ∷ LookKeys s (number_in (answer_of lacks.keys)) ∷ []
    looks = ap (λ act. act ∷ lacks.keys ∷ []) (look-act s lacks.look lacks.asks_look)
        ∙ ap (λ act. BeginLook s (gate_in (answer_of lacks.look)) ∷ act ∷ []) (keys-look s lacks.keys lacks.asks_keys)

    kept : IsGivenBack (past ++ e ∷ []) new s
    kept = given_back_last old.limits me s (past ++ e ∷ []) give.past new whole
        (record {
          legal = legal;
          has_it = ap (λ x. has_turn x me s) taken
              ∙ (ap (is_held_by me) (put-same st.turn s.0 (Some me)) ∙ eq-eqb me.0 me.0 refl);
          kept = ap (has (gives_turn s.0)) (give.mine_past ∙ looks);
        })
        (ap (has (ends_wakeup s.0)) (give.mine_past ∙ looks))

    given_back : IsGivenBack past new s
    given_back = record {
      free = kept.free;
      wakeup = λ woken. kept.wakeup (ap (λ x. (x.gate s.0).woken) taken ∙ woken);
    }
