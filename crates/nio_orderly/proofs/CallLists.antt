-- Lists of calls, of what callers did in them, and of events.
use Rattle.std.proofs.Common.{◌≡◌, ℕ, ◌==◌, Bool, true, false, cond, if◌then◌else◌, List, [], ◌∷◌, ◌++◌, map, refl, ap}
use Rattle.std.proofs.Common.{sym, ◌∙◌, subst, append_assoc, eqb-true, ◌⊎◌, inl, inr}
use Rattle.std.specs.List.{filter}
use Rattle.std.proofs.lemmas.List.{append-nil, map-append}
use Rattle.std.proofs.lemmas.List.Elements.{filter-append}
use Rattle.nio_base.specs.declared.limits.Limits.{Limits}
use Rattle.nio_base.specs.declared.numbers.CallerNo.{CallerNo}
use Rattle.nio_history.proofs.OneMore.{mine-append}
use Rattle.nio_history.specs.Histories.{is_by, mine, event_of}
use Rattle.nio_history.specs.declared.act.Act.{Act}
use Rattle.nio_history.specs.declared.act.Act.TheVariants.{TakeInterrupt}
use Rattle.nio_history.specs.declared.event.Event.{Event}
use Rattle.nio_orderly.specs.Made.{Made, IsRun, after_call, after_calls, MayCome, AreInOrder, table_call}
use Rattle.nio_orderly.specs.Orderly.{AreRuns, HasMadeCalls, MadeBy, AreRunsBy, calls_of}
use Rattle.nio_orderly.specs.OrderlyLaws.{BeginningsAreOrderly, WholeIsOrderly, OneCallMore, OrderlyEndsInCall}
use Rattle.nio_orderly.specs.OrderlyLaws.{SerialIsWhole, SerialCallMore}
use Rattle.nio_steps.specs.Ongoing.{Ongoing, nothing_ongoing}
use Rattle.nio_steps.specs.SelectCalls.{interrupted_plan}
use Rattle.nio_steps.specs.TableCalls.{interrupted}

-- ---- one list of calls and then another

pub runs_append : (l : Limits) (calls later : List Made) (xs ys : List Act) → AreRuns l calls xs → AreRuns l later ys
    → AreRuns l (calls ++ later) (xs ++ ys)
runs_append l [] later xs ys none there = subst (λ acts. AreRuns l later (acts ++ ys)) (sym none) there
runs_append l (call ∷ calls) later xs ys here there = record {
  first = here.first;
  second = here.second ++ ys;
  parts = ap (λ acts. acts ++ ys) here.parts ∙ append_assoc here.first here.second ys;
  is_first = here.is_first;
  is_second = runs_append l calls later here.second ys here.is_second there;
}

pub order_append : (now : Ongoing) (calls later : List Made) → AreInOrder now calls
    → AreInOrder (after_calls now calls) later → AreInOrder now (calls ++ later)
order_append now [] later here there = there
order_append now (call ∷ calls) later here there = (here.0, order_append (after_call now call) calls later here.1 there)

pub run_one : (l : Limits) (call : Made) (acts : List Act) → IsRun l call acts → AreRuns l (call ∷ []) acts
run_one l call acts run =
    record { first = acts; second = []; parts = sym (append-nil acts); is_first = run; is_second = refl }

pub one_call_more : OneCallMore
one_call_more l own acts calls call are may_come run = record {
  runs = runs_append l calls (call ∷ []) own acts are.runs (run_one l call acts run);
  in_order = order_append nothing_ongoing calls (call ∷ []) are.in_order (may_come, tt);
}

-- ---- beginnings

pub beginnings_are_orderly : BeginningsAreOrderly
beginnings_are_orderly l past later orderly = λ n.
    let makes = orderly n in
    let same : mine n (past ++ later) ++ makes.later ≡ mine n past ++ (mine n later ++ makes.later) =
    ap (λ acts. acts ++ makes.later) (mine-append n past later)
    ∙ append_assoc (mine n past) (mine n later) makes.later in
    record { later = mine n later ++ makes.later; whole = subst (HasMadeCalls l) same makes.whole }

pub whole_is_orderly : WholeIsOrderly
whole_is_orderly l events whole =
    λ n. record { later = []; whole = subst (HasMadeCalls l) (sym (append-nil (mine n events))) (whole n) }

-- ---- the call that a caller is in

-- two cuts of a list: the first is the earlier one, or the later one
pub record Earlier {X : Type 0} (xs us : List X) : Type 0 where
  pub between : List X
  pub parts : us ≡ xs ++ between

pub record Further {X : Type 0} (xs ys us vs : List X) : Type 0 where
  pub between : List X
  pub parts : xs ≡ us ++ between
  pub rest : vs ≡ between ++ ys

pub cut_twice : {X : Type 0} (xs ys us vs : List X) → xs ++ ys ≡ us ++ vs → Earlier xs us ⊎ Further xs ys us vs
cut_twice [] ys us vs same = inl (record { between = us; parts = refl })
cut_twice (x ∷ xs) ys [] vs same = inr (record { between = x ∷ xs; parts = refl; rest = sym same })
cut_twice {X = X} (x ∷ xs) ys (u ∷ us) vs same = by_case (cut_twice xs ys us vs (cc same))
  where
    first : x ≡ u
    first = cc same

    by_case : Earlier xs us ⊎ Further xs ys us vs → Earlier (x ∷ xs) (u ∷ us) ⊎ Further (x ∷ xs) ys (u ∷ us) vs
    by_case (inl cut) =
        inl (record { between = cut.between; parts = ap (λ (y : X). y ∷ us) (sym first) ∙ ap (λ zs. x ∷ zs) cut.parts })
    by_case (inr cut) =
        inr (record {
          between = cut.between;
          parts = ap (λ (y : X). y ∷ xs) first ∙ ap (λ zs. u ∷ zs) cut.parts;
          rest =
              cut.rest;
        })

-- the same of what a caller does after it has so much in progress
record EndsFrom (l : Limits) (now : Ongoing) (acts : List Act) : Type 0 where
  made : List Act
  begun : List Act
  parts : acts ≡ made ++ begun
  calls : List Made
  runs : AreRuns l calls made
  in_order : AreInOrder now calls
  call : Made
  may_come : MayCome (after_calls now calls) call
  later : List Act
  is_run : IsRun l call (begun ++ later)

asks_interrupted : (l : Limits) → IsRun l (table_call interrupted false) (TakeInterrupt false ∷ [])
unfolding interrupted_plan
asks_interrupted l = (refl, refl)

ends_from : (l : Limits) (now : Ongoing) (calls : List Made) (acts later : List Act) → AreRuns l calls (acts ++ later)
    → AreInOrder now calls → EndsFrom l now acts
ends_from l now [] [] later runs order = record {
  made = [];
  begun = [];
  parts = refl;
  calls = [];
  runs = refl;
  in_order = tt;
  call = table_call interrupted false;
  may_come = tt;
  later = TakeInterrupt false ∷ [];
  is_run = asks_interrupted l;
}
ends_from l now [] (act ∷ acts) later runs order = absurd (cc runs)
ends_from l now (call ∷ calls) acts later runs order =
    by_case (λ between rest. ends_from l (after_call now call) calls between later rest order.1)
    (cut_twice acts later runs.first runs.second runs.parts)
  where
    by_case : ((between : List Act) → AreRuns l calls (between ++ later) → EndsFrom l (after_call now call) between)
        → Earlier acts runs.first ⊎ Further acts later runs.first runs.second → EndsFrom l now acts
    by_case further (inl cut) = record {
      made = [];
      begun = acts;
      parts = refl;
      calls = [];
      runs = refl;
      in_order = tt;
      call = call;
      may_come = order.0;
      later = cut.between;
      is_run = subst (IsRun l call) cut.parts runs.is_first;
    }
    by_case further (inr cut) =
        let rest = further cut.between (subst (AreRuns l calls) cut.rest runs.is_second) in
        record {
          made = runs.first ++ rest.made;
          begun = rest.begun;
          parts = cut.parts
              ∙ (ap (λ xs. runs.first ++ xs) rest.parts ∙ sym (append_assoc runs.first rest.made rest.begun));
          calls = call ∷ rest.calls;
          runs = record {
            first = runs.first;
            second = rest.made;
            parts = refl;
            is_first = runs.is_first;
            is_second = rest.runs;
          };
          in_order = (order.0, rest.in_order);
          call = rest.call;
          may_come = rest.may_come;
          later = rest.later;
          is_run = rest.is_run;
        }

pub orderly_ends_in_call : OrderlyEndsInCall
orderly_ends_in_call l acts makes =
    let ends = ends_from l nothing_ongoing makes.whole.calls acts makes.later makes.whole.are.runs
    makes.whole.are.in_order in
    record {
      made = ends.made;
      begun = ends.begun;
      parts = ends.parts;
      calls = ends.calls;
      are = record { runs = ends.runs; in_order = ends.in_order };
      call = ends.call;
      may_come = ends.may_come;
      later = ends.later;
      runs = ends.is_run;
    }

-- ---- serial histories

-- the events of one caller
pub mine-by : (n m : CallerNo) (acts : List Act) (b : Bool) → (m.0 == n.0) ≡ b
    → mine n (map (event_of m) acts) ≡ (if b then acts else [])
mine-by n m [] true by = refl
mine-by n m [] false by = refl
mine-by n m (act ∷ acts) true by =
    let rest = filter (is_by n) (map (event_of m) acts) in
    ap (λ (b : Bool). map (λ (e : Event). e.act) (cond b (event_of m act ∷ rest) rest)) by
    ∙ ap (λ xs. act ∷ xs) (mine-by n m acts true by)
mine-by n m (act ∷ acts) false by =
    let rest = filter (is_by n) (map (event_of m) acts) in
    ap (λ (b : Bool). map (λ (e : Event). e.act) (cond b (event_of m act ∷ rest) rest)) by ∙ mine-by n m acts false by

-- one call more, of a caller or of another
pub calls-by : (n : CallerNo) (made : MadeBy) (later : List MadeBy) (b : Bool) → (made.caller.0 == n.0) ≡ b
    → calls_of n (made ∷ later) ≡ (if b then made.call ∷ calls_of n later else calls_of n later)
calls-by n made later true by =
    let rest = filter (λ (m : MadeBy). m.caller.0 == n.0) later in
    ap (λ (b : Bool). map (λ (m : MadeBy). m.call) (cond b (made ∷ rest) rest)) by
calls-by n made later false by =
    let rest = filter (λ (m : MadeBy). m.caller.0 == n.0) later in
    ap (λ (b : Bool). map (λ (m : MadeBy). m.call) (cond b (made ∷ rest) rest)) by

pub calls-append : (n : CallerNo) (made later : List MadeBy)
    → calls_of n (made ++ later) ≡ calls_of n made ++ calls_of n later
calls-append n made later =
    let by = λ (m : MadeBy). m.caller.0 == n.0 in
    ap (map (λ (m : MadeBy). m.call)) (filter-append by made later)
    ∙ map-append (λ (m : MadeBy). m.call) (filter by made) (filter by later)

serial_runs : (l : Limits) (n : CallerNo) (made : List MadeBy) (events : List Event) → AreRunsBy l made events
    → AreRuns l (calls_of n made) (mine n events)
serial_runs l n [] events none = ap (mine n) none
serial_runs l n (one ∷ later) events runs =
    by_caller (one.caller.0 == n.0) refl (serial_runs l n later runs.second runs.is_second)
  where
    own : mine n events ≡ mine n (map (event_of one.caller) runs.is_first.acts) ++ mine n runs.second
    own = ap (mine n) runs.parts
        ∙ (mine-append n runs.first runs.second ∙ ap (λ es. mine n es ++ mine n runs.second) runs.is_first.events_are)

    by_caller : (b : Bool) → (one.caller.0 == n.0) ≡ b → AreRuns l (calls_of n later) (mine n runs.second)
        → AreRuns l (calls_of n (one ∷ later)) (mine n events)
    by_caller true by rest =
        let acts : mine n events ≡ runs.is_first.acts ++ mine n runs.second = own
        ∙ ap (λ xs. xs ++ mine n runs.second) (mine-by n one.caller runs.is_first.acts true by) in
        subst (λ calls. AreRuns l calls (mine n events)) (sym (calls-by n one later true by))
        (record {
          first = runs.is_first.acts;
          second = mine n runs.second;
          parts = acts;
          is_first =
              runs.is_first.runs;
          is_second = rest;
        })
    by_caller false by rest =
        let acts : mine n events ≡ mine n runs.second = own
        ∙ ap (λ xs. xs ++ mine n runs.second) (mine-by n one.caller runs.is_first.acts false by) in
        subst (λ calls. AreRuns l calls (mine n events)) (sym (calls-by n one later false by))
        (subst (AreRuns l (calls_of n later)) (sym acts) rest)

pub serial_is_whole : SerialIsWhole
serial_is_whole l events made n serial =
    record { runs = serial_runs l n made events serial.runs; in_order = serial.in_order n }

runs_by-append : (l : Limits) (made later : List MadeBy) (xs ys : List Event) → AreRunsBy l made xs
    → AreRunsBy l later ys → AreRunsBy l (made ++ later) (xs ++ ys)
runs_by-append l [] later xs ys none there = subst (λ events. AreRunsBy l later (events ++ ys)) (sym none) there
runs_by-append l (one ∷ made) later xs ys here there = record {
  first = here.first;
  second = here.second ++ ys;
  parts = ap (λ events. events ++ ys) here.parts ∙ append_assoc here.first here.second ys;
  is_first = here.is_first;
  is_second = runs_by-append l made later here.second ys here.is_second there;
}

pub serial_call_more : SerialCallMore
serial_call_more l events acts made n call serial may_come run = record {
  runs = runs_by-append l made (one ∷ []) events added serial.runs (record {
    first = added;
    second = [];
    parts = sym (append-nil added);
    is_first = record { acts = acts; runs = run; events_are = refl };
    is_second = refl;
  });
  in_order = λ k. by_caller k (n.0 == k.0) refl;
}
  where
    one : MadeBy
    one = record { caller = n; call = call }

    added : List Event
    added = map (event_of n) acts

    by_caller : (k : CallerNo) (b : Bool) → (n.0 == k.0) ≡ b
        → AreInOrder nothing_ongoing (calls_of k (made ++ one ∷ []))
    by_caller k true by =
        let same : n ≡ k = ap (λ (m : ℕ). record { 0 = m }) (eqb-true n.0 k.0 by) in
        subst (AreInOrder nothing_ongoing)
        (sym (calls-append k made (one ∷ []) ∙ ap (λ calls. calls_of k made ++ calls) (calls-by k one [] true by)))
        (order_append nothing_ongoing (calls_of k made) (call ∷ []) (serial.in_order k)
        (subst (λ m. MayCome (after_calls nothing_ongoing (calls_of m made)) call) same may_come, tt))
    by_caller k false by =
        subst (AreInOrder nothing_ongoing)
        (sym (calls-append k made (one ∷ [])
        ∙ (ap (λ calls. calls_of k made ++ calls) (calls-by k one [] false by) ∙ append-nil (calls_of k made))))
        (serial.in_order k)
