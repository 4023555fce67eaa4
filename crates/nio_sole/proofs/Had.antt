-- What a caller has in progress, from the mere fact that it has it: in a legal history there is one such selection.
use Rattle.std.proofs.Common.{◌≡◌, ℕ, Bool, true, false, ◌||◌, if◌then◌else◌, Some, None, is_some, Result, Ok, Err}
use Rattle.nio_steps.proofs.BeginLaws.{unlisted-begins}
use Rattle.std.proofs.Common.{List, [], ◌∷◌, ◌++◌, refl, ap, sym, ◌∙◌, subst, append_assoc, eqb-true, eq-eqb}
use Rattle.std.specs.Prelude.{is_ok}
use Rattle.std.proofs.Math.Bool.{Bool-set}
use Rattle.std.proofs.Math.Logic.{∥∥₁_elim}
use Rattle.std.proofs.Math.Nat.{ℕ_set}
use Rattle.std.proofs.lemmas.List.{append_cancel_left}
use Rattle.std.specs.List.{Contains}
use mathlib.Core.HLevel.{Σ_prop_path}
use mathlib.Core.List as lists
use mathlib.Core.Sum.{⊎_set}
use Rattle.nio_base.specs.declared.limits.Limits.{Limits}
use Rattle.nio_base.specs.declared.numbers.CallerNo.{CallerNo}
use Rattle.nio_base.specs.declared.numbers.SelNo.{SelNo}
use Rattle.nio_history.specs.Histories.{mine, event_of, IsLegal}
use Rattle.nio_history.specs.OwnEvents.{has, since_first, gives_turn}
use Rattle.nio_history.specs.Questions.{Question, question_of, answer_of}
use Rattle.nio_history.specs.Turns.{removes_on}
use Rattle.nio_history.proofs.Legal.{not_empty, legal_beginning}
use Rattle.nio_history.proofs.TurnLaws.{turn_has_one_holder}
use Rattle.nio_history.proofs.Soundness.{both_ways}
use Rattle.nio_history.specs.declared.act.Act.{Act}
use Rattle.nio_history.specs.declared.act.Act.TheVariants.{TakeTurn, ShutBit}
use Rattle.nio_history.specs.declared.event.Event.{Event}
use Rattle.nio_history.specs.declared.found.Mode.{Mode}
use Rattle.nio_orderly.proofs.ListWords.{has-neither, has-not_first, has-at, no_such_act}
use Rattle.nio_orderly.proofs.OrderlyCare.{first_opened}
use Rattle.nio_sole.proofs.Calls.{takes_turn, shuts}
use Rattle.nio_steps.proofs.BeginLaws.{begin-parts}
use Rattle.nio_steps.proofs.Lists.{parted, contains-middle}
use Rattle.nio_steps.proofs.OwnActs.{cut_at}
use Rattle.nio_steps.proofs.SelectionLaws.{asks_give, not-gives}
use Rattle.nio_steps.proofs.StandLaws.{over-keeps}
use Rattle.nio_steps.proofs.Walks.{Always, always_weaker, always_if, always_any, always_run}
use Rattle.nio_steps.specs.Plan.{Plan, reply, ask}
use Rattle.nio_steps.specs.Runs.{Completes}
use Rattle.nio_steps.specs.SelectCalls.{Selection, try_begin_plan, begin_open, begin_with_turn}
use Rattle.nio_steps.specs.Selections.{marks_on, IsBegun, IsClosing}
use Rattle.nio_steps.specs.Steps.{gate_in, holder_in}
use Rattle.nio_steps.specs.declared.looked.LookedKey.{LookedKey}
use Rattle.nio_steps.specs.declared.refusal.BeginError.{BeginError}

-- ---- sets

act_set : IsSet Act
act_set = hlevel (ℕ_set, Bool-set, ⊎_set)

question_set : IsSet Question
question_set = hlevel (ℕ_set, Bool-set, ⊎_set)

entry_set : IsSet LookedKey
entry_set = hlevel ℕ_set

mode_set : IsSet Mode
mode_set = hlevel (ℕ_set, ⊎_set)

selection_set : IsSet Selection
selection_set = hlevel (ℕ_set, Bool-set, mode_set, lists.is_set entry_set)

result_set : {A B : Type 0} → IsSet A → IsSet B → IsSet (Result A B)
result_set a b = hlevel (a, b, ⊎_set)

refusal_set : IsSet BeginError
refusal_set = hlevel ⊎_set

answer_set : IsSet (Result Selection BeginError)
answer_set = result_set selection_set refusal_set

-- ---- a run of a plan, without equations of plans

Ran : {R : Type 0} → Plan R → List Act → R → Type 0
Ran (reply a) [] r = a ≡ r
Ran (reply a) (act ∷ acts) r = ⊥
Ran (ask question next) [] r = ⊥
Ran (ask question next) (act ∷ acts) r = (question_of act ≡ question) × Ran (next (answer_of act)) acts r

ran_of : {R : Type 0} (plan : Plan R) (acts : List Act) (r : R) → Completes plan acts r → Ran plan acts r
unfolding Ran
ran_of (reply a) [] r run = cc run
ran_of (reply a) (act ∷ acts) r run = absurd run
ran_of (ask question next) [] r run = absurd (cc run)
ran_of (ask question next) (act ∷ acts) r run = (run.0, ran_of (next (answer_of act)) acts r run.1)

of_ran : {R : Type 0} (plan : Plan R) (acts : List Act) (r : R) → Ran plan acts r → Completes plan acts r
unfolding Ran
of_ran (reply a) [] r ran = ap reply ran
of_ran (reply a) (act ∷ acts) r ran = absurd ran
of_ran (ask question next) [] r ran = absurd ran
of_ran (ask question next) (act ∷ acts) r ran = (ran.0, of_ran (next (answer_of act)) acts r ran.1)

ran_prop : {R : Type 0} → IsSet R → (plan : Plan R) (acts : List Act) (r : R) → IsProp (Ran plan acts r)
unfolding Ran
ran_prop set (reply a) [] r = set a r
ran_prop set (reply a) (act ∷ acts) r = λ x y. absurd x
ran_prop set (ask question next) [] r = λ x y. absurd x
ran_prop set (ask question next) (act ∷ acts) r =
    λ x y j. (question_set (question_of act) question x.0 y.0 j, ran_prop set (next (answer_of act)) acts r x.1 y.1 j)

-- a run of a plan ends where the plan does
ran_same : {R : Type 0} (plan : Plan R) (xs ys us vs : List Act) (r r' : R) → Ran plan xs r → Ran plan ys r'
    → xs ++ us ≡ ys ++ vs → xs ≡ ys
unfolding Ran
ran_same (reply a) [] [] us vs r r' ran ran' same = refl
ran_same (reply a) [] (y ∷ ys) us vs r r' ran ran' same = absurd ran'
ran_same (reply a) (x ∷ xs) ys us vs r r' ran ran' same = absurd ran
ran_same (ask question next) [] ys us vs r r' ran ran' same = absurd ran
ran_same (ask question next) (x ∷ xs) [] us vs r r' ran ran' same = absurd ran'
ran_same (ask question next) (x ∷ xs) (y ∷ ys) us vs r r' ran ran' same =
    let first : x ≡ y = cc same in
    let rest : xs ++ us ≡ ys ++ vs = cc same in
    ap (λ (z : Act). z ∷ xs) first
    ∙ ap (λ zs. y ∷ zs)
    (ran_same (next (answer_of y)) xs ys us vs r r'
    (subst (λ (z : Act). Ran (next (answer_of z)) xs r) first ran.1) ran'.1 rest)

-- ---- the last act of a kind

record LastPushed (xs ys : List Act) (act act' : Act) : Type 0 where
  before : xs ≡ ys
  last : act ≡ act'

last_pushed : (xs ys : List Act) (act act' : Act) → xs ++ act ∷ [] ≡ ys ++ act' ∷ [] → LastPushed xs ys act act'
last_pushed [] [] act act' same = record { before = refl; last = cc same }
last_pushed [] (y ∷ ys) act act' same = absurd (not_empty ys act' [] (cc same))
last_pushed (x ∷ xs) [] act act' same = absurd (not_empty xs act [] (cc (sym same)))
last_pushed (x ∷ xs) (y ∷ ys) act act' same =
    let first : x ≡ y = cc same in
    let rest = last_pushed xs ys act act' (cc same) in
    record { before = ap (λ (z : Act). z ∷ xs) first ∙ ap (λ zs. y ∷ zs) rest.before; last = rest.last }

record LastPlace (before before' after after' : List Act) : Type 0 where
  first : before ≡ before'
  second : after ≡ after'

last_place : (p : Act → Bool) (act : Act) (xs ys us vs : List Act) → p act ≡ true → has p us ≡ false → has p vs ≡ false
    → xs ++ act ∷ us ≡ ys ++ act ∷ vs → LastPlace xs ys us vs
last_place p act [] [] us vs is none none' same = record { first = refl; second = cc same }
last_place p act [] (y ∷ ys) us vs is none none' same =
    absurd (no_such_act p ys act vs (ap (has p) (sym (cc same)) ∙ none) is)
last_place p act (x ∷ xs) [] us vs is none none' same =
    absurd (no_such_act p xs act us (ap (has p) (cc same) ∙ none') is)
last_place p act (x ∷ xs) (y ∷ ys) us vs is none none' same =
    let first : x ≡ y = cc same in
    let rest = last_place p act xs ys us vs is none none' (cc same) in
    record { first = ap (λ (z : Act). z ∷ xs) first ∙ ap (λ zs. y ∷ zs) rest.first; second = rest.second }

-- ---- a beginning of a selection

-- a look at the gate, the taking of the turn, and acts that don't give it back
record TakesFree (s : SelNo) (acts : List Act) : Type 0 where
  gate : Act
  rest : List Act
  parts : acts ≡ gate ∷ TakeTurn s None ∷ rest

begin-takes : (s : SelNo) (mode : Mode)
    → Always (λ acts r. is_ok r ≡ true → TakesFree s acts) (try_begin_plan s mode None false)
unfolding try_begin_plan
begin-takes s mode = λ gate asks_gate.
    always_if (λ acts r. is_ok r ≡ true → TakesFree s (gate ∷ acts)) (gate_in (answer_of gate)).shut
    (reply (Err BeginError.ClosedSelector)) (begin_open s mode None false) (λ _ ok. absurd (cc ok))
    (λ _ take asks_take. by_take gate take asks_take)
  where
    by_take : (gate take : Act) → question_of take ≡ Question.take_turn s
        → Always (λ acts r. is_ok r ≡ true → TakesFree s (gate ∷ take ∷ acts))
        (if is_some (holder_in (answer_of take)) then reply (Err BeginError.Busy) else begin_with_turn s mode None false)
    by_take gate (TakeTurn s' (Some n)) asks = λ ok. absurd (cc ok)
    by_take gate (TakeTurn s' None) asks =
        let same : s' ≡ s = cc asks in
        always_weaker (λ _ _. Unit {0}) (λ acts r. is_ok r ≡ true → TakesFree s (gate ∷ TakeTurn s' None ∷ acts))
        (begin_with_turn s mode None false)
        (λ acts r _ _. record {
          gate = gate;
          rest = acts;
          parts = ap (λ (t : SelNo). gate ∷ TakeTurn t None ∷ acts) same;
        })
        (always_any (begin_with_turn s mode None false))
    by_take gate _ asks = absurd (cc asks)

-- what the caller did since it took the turn
record Taken (own : List Act) (x : Selection) (earlier beginning since : List Act) : Type 0 where
  gate : Act
  rest : List Act
  begins : beginning ≡ gate ∷ TakeTurn x.selector None ∷ rest
  parts : own ≡ (earlier ++ gate ∷ []) ++ TakeTurn x.selector None ∷ (rest ++ since)
  keeps : has (gives_turn x.selector.0) (rest ++ since) ≡ false

taken_so : (own : List Act) (x : Selection) (earlier beginning since : List Act) → own ≡ earlier ++ (beginning ++ since)
    → Completes (try_begin_plan x.selector x.mode None false) beginning (Ok x)
    → has (gives_turn x.selector.0) since ≡ false → Taken own x earlier beginning since
taken_so own x earlier beginning since parts run goes_on =
    let s = x.selector in
    let at = always_run (λ acts r. is_ok r ≡ true → TakesFree s acts) (try_begin_plan s x.mode None false) beginning (Ok x)
    (begin-takes s x.mode) run refl in
    let first = begin-parts s x.mode None beginning x run in
    let both : at.gate ∷ TakeTurn s None ∷ at.rest ≡ first.gate ∷ first.take ∷ first.look ∷ first.keys ∷ first.over
    = sym at.parts ∙ first.parts in
    let rest_is : at.rest ≡ first.look ∷ first.keys ∷ first.over = cc both in
    let look_gives = not-gives s.0 first.look (ap (asks_give s.0) first.asks_look) in
    let keys_give = not-gives s.0 first.keys (ap (asks_give s.0) first.asks_keys) in
    let over_gives = over-keeps s x.bound None first.over x.looked first.runs_over in
    let rest_gives : has (gives_turn s.0) (first.look ∷ first.keys ∷ first.over) ≡ false
    = has-neither (gives_turn s.0) (first.look ∷ []) (first.keys ∷ first.over) (ap (λ b. b || false) look_gives)
    (has-neither (gives_turn s.0) (first.keys ∷ []) first.over (ap (λ b. b || false) keys_give) over_gives) in
    record {
      gate = at.gate;
      rest = at.rest;
      begins = at.parts;
      parts = parts
          ∙ (ap (λ xs. earlier ++ (xs ++ since)) at.parts
          ∙ sym (append_assoc earlier (at.gate ∷ []) (TakeTurn s None ∷ (at.rest ++ since))));
      keeps = has-neither (gives_turn s.0) at.rest since (ap (has (gives_turn s.0)) rest_is ∙ rest_gives) goes_on;
    }

-- ---- in a legal history

module _ (l : Limits) (events : List Event) (n : CallerNo) (legal : IsLegal l events) where
  -- who took the turn and hasn't given it back doesn't take it again
  not_again : (s : SelNo) (before later : List Act) → mine n events ≡ before ++ TakeTurn s None ∷ later
      → has (gives_turn s.0) later ≡ false → has (takes_turn s.0) later ≡ false
  not_again s before later did keeps = by_test (has (takes_turn s.0) later) refl
    where
      act : Act
      act = TakeTurn s None

      again : has (takes_turn s.0) later ≡ true → ⊥
      again there =
          let second = first_opened (takes_turn s.0) later there in
          let is_act : second.act ≡ act = takes_is second.act second.opening in
          let rest = since_first (takes_turn s.0) later in
          let later_is : later ≡ second.before ++ act ∷ rest = second.parts
          ∙ ap (λ (a : Act). second.before ++ a ∷ rest) is_act in
          let cut = cut_at n events before act later did in
          let cut' = cut_at n cut.later second.before act rest (cut.mine_later ∙ later_is) in
          let e = event_of n act in
          let parts : events ≡ (cut.past ++ e ∷ (cut'.past ++ e ∷ [])) ++ cut'.later
          = cut.parts
          ∙ (ap (λ es. cut.past ++ e ∷ es) cut'.parts
          ∙ (ap (λ es. cut.past ++ e ∷ es) (sym (append_assoc cut'.past (e ∷ []) cut'.later))
          ∙ sym (append_assoc cut.past (e ∷ (cut'.past ++ e ∷ [])) cut'.later))) in
          let given = turn_has_one_holder l s n n cut.past cut'.past
          (legal_beginning l (cut.past ++ e ∷ (cut'.past ++ e ∷ [])) cut'.later (subst (IsLegal l) parts legal)) in
          both_ways (has (gives_turn s.0) second.before) (ap (has (gives_turn s.0)) (sym cut'.mine_past) ∙ given)
          (has-not_first (gives_turn s.0) second.before (act ∷ rest) (ap (has (gives_turn s.0)) (sym later_is) ∙ keeps))
        where
          takes_is : (a : Act) → takes_turn s.0 a ≡ true → a ≡ act
          takes_is (TakeTurn s' None) is = ap (λ (k : ℕ). TakeTurn (record { 0 = k }) None) (eqb-true s'.0 s.0 is)
          takes_is (TakeTurn s' (Some m)) is = absurd (cc is)
          takes_is _ is = absurd (cc is)

      by_test : (b : Bool) → has (takes_turn s.0) later ≡ b → b ≡ false
      by_test true there = absurd (again there)
      by_test false there = refl

  abbrev own : List Act
  own = mine n events

  -- how what the caller did is cut: what it did before, the beginning, and what it did since
  abbrev Cuts : Type 0
  Cuts = List Act × List Act × List Act

  abbrev IsCutSo : Selection → Cuts → Type 0
  IsCutSo x t =
      (own ≡ t.0 ++ (t.1 ++ t.2)) × Ran (try_begin_plan x.selector x.mode None false) t.1 (Ok x)
      × (has (gives_turn x.selector.0) t.2 ≡ false) × (has (marks_on x.selector.0) t.2 ≡ false)
      × (has (removes_on x.selector.0) t.2 ≡ false)

  cut_so-prop : (x : Selection) (t : Cuts) → IsProp (IsCutSo x t)
  cut_so-prop x t = hlevel (lists.is_set act_set, Bool-set, ran_prop answer_set)

  -- there is one way to cut it
  same_cut : (x : Selection) (t u : Cuts) → IsCutSo x t → IsCutSo x u → t ≡ u
  same_cut x t u f g = λ j. (earlier_is j, beginning_is j, since_is j)
    where
      plan : Plan (Result Selection BeginError)
      plan = try_begin_plan x.selector x.mode None false

      a : Taken own x t.0 t.1 t.2
      a = taken_so own x t.0 t.1 t.2 f.0 (of_ran plan t.1 (Ok x) f.1) f.2

      b : Taken own x u.0 u.1 u.2
      b = taken_so own x u.0 u.1 u.2 g.0 (of_ran plan u.1 (Ok x) g.1) g.2

      place : LastPlace (t.0 ++ a.gate ∷ []) (u.0 ++ b.gate ∷ []) (a.rest ++ t.2) (b.rest ++ u.2)
      place =
          last_place (takes_turn x.selector.0) (TakeTurn x.selector None) (t.0 ++ a.gate ∷ []) (u.0 ++ b.gate ∷ [])
          (a.rest ++ t.2) (b.rest ++ u.2) (eq-eqb x.selector.0 x.selector.0 refl)
          (not_again x.selector (t.0 ++ a.gate ∷ []) (a.rest ++ t.2) a.parts a.keeps)
          (not_again x.selector (u.0 ++ b.gate ∷ []) (b.rest ++ u.2) b.parts b.keeps) (sym a.parts ∙ b.parts)

      pushed : LastPushed t.0 u.0 a.gate b.gate
      pushed = last_pushed t.0 u.0 a.gate b.gate place.first

      earlier_is : t.0 ≡ u.0
      earlier_is = pushed.before

      whole : t.1 ++ t.2 ≡ u.1 ++ u.2
      whole =
          ap (λ xs. xs ++ t.2) a.begins
          ∙ (ap (λ (act : Act). act ∷ TakeTurn x.selector None ∷ (a.rest ++ t.2)) pushed.last
          ∙ (ap (λ xs. b.gate ∷ TakeTurn x.selector None ∷ xs) place.second ∙ ap (λ xs. xs ++ u.2) (sym b.begins)))

      beginning_is : t.1 ≡ u.1
      beginning_is = ran_same plan t.1 u.1 t.2 u.2 (Ok x) (Ok x) f.1 g.1 whole

      since_is : t.2 ≡ u.2
      since_is = append_cancel_left t.1 t.2 u.2 (whole ∙ ap (λ xs. xs ++ u.2) (sym beginning_is))

  -- a selection without the list that was merely begun was begun
  pub begun_had : (x : Selection) → x.listed ≡ false → ∥ IsBegun own x ∥₁ → IsBegun own x
  begun_had x unlisted mere = back (∥∥₁_elim mere only_one forth)
    where
      Cut : Type 0
      Cut = (t : Cuts) × IsCutSo x t

      only_one : IsProp Cut
      only_one = λ p q. Σ_prop_path (cut_so-prop x) (same_cut x p.0 q.0 p.1 q.1)

      forth : IsBegun own x → Cut
      forth begun = (
        (begun.earlier, begun.beginning, begun.since),
        (
          begun.parts,
          ran_of (try_begin_plan x.selector x.mode None false) begun.beginning (Ok x)
              (unlisted-begins own x begun unlisted),
          begun.goes_on,
          begun.unmarked,
          begun.unremoved,
        ),
      )

      back : Cut → IsBegun own x
      back cut = record {
        earlier = cut.0.0;
        beginning = cut.0.1;
        since = cut.0.2;
        known = None;
        parts = cut.1.0;
        begins = of_ran (try_begin_plan x.selector x.mode None false) cut.0.1 (Ok x) cut.1.1;
        goes_on = cut.1.2;
        unmarked = cut.1.3;
        unremoved = cut.1.4;
      }

-- ---- closing

-- a selector that was merely shut was shut
pub closing_had : (did : List Act) (s : SelNo) → ∥ IsClosing did s ∥₁ → IsClosing did s
closing_had did s mere = back (∥∥₁_elim mere (Bool-set (has (shuts s.0) did) true) forth)
  where
    act : Act
    act = ShutBit s false

    forth : Contains did act → has (shuts s.0) did ≡ true
    forth there =
        let at = parted did act there in
        ap (has (shuts s.0)) at.parts ∙ has-at (shuts s.0) at.past act at.later (eq-eqb s.0 s.0 refl)

    shuts_is : (a : Act) → shuts s.0 a ≡ true → a ≡ act
    shuts_is (ShutBit s' false) is = ap (λ (k : ℕ). ShutBit (record { 0 = k }) false) (eqb-true s'.0 s.0 is)
    shuts_is (ShutBit s' true) is = absurd (cc is)
    shuts_is _ is = absurd (cc is)

    back : has (shuts s.0) did ≡ true → Contains did act
    back there =
        let first = first_opened (shuts s.0) did there in
        let rest = since_first (shuts s.0) did in
        subst (λ xs. Contains xs act)
        (sym (first.parts ∙ ap (λ (a : Act). first.before ++ a ∷ rest) (shuts_is first.act first.opening)))
        (contains-middle first.before act rest)
