-- What serial histories leave: call by call, from the opening state on.
use Rattle.std.proofs.Common.{◌≡◌, ℕ, ◌==◌, Bool, true, false, not, ◌&&◌, IsTrue, if◌then◌else◌, Some, List, [], ◌∷◌, ◌++◌}
use Rattle.std.proofs.Common.{map, refl, ap, sym, ◌∙◌, subst, append_assoc, eqb-true, eq-eqb, Option, None}
use Rattle.std.proofs.lemmas.List.{append-nil}
use Rattle.std.proofs.lemmas.List.Elements.{All-head, All-tail}
use Rattle.nio_base.specs.Limits.{IsFit}
use Rattle.nio_base.specs.declared.limits.Limits.{Limits}
use Rattle.nio_base.specs.declared.numbers.CallerNo.{CallerNo}
use Rattle.nio_base.specs.declared.numbers.SelNo.{SelNo}
use Rattle.nio_history.proofs.Legal.{legal_beginning, legal_empty}
use Rattle.nio_history.specs.Conditions.{IsCaller}
use Rattle.nio_history.proofs.OneMore.{mine-append}
use Rattle.nio_history.specs.Histories.{state_after, event_of, mine, IsLegal}
use Rattle.nio_history.specs.State.{State}
use Rattle.nio_history.specs.declared.act.Act.{Act}
use Rattle.nio_history.specs.declared.event.Event.{Event}
use Rattle.nio_language.specs.declared.call.ScriptCall.{ScriptCall}
use Rattle.nio_language.specs.declared.reply.Reply.{Reply}
use Rattle.nio_orderly.proofs.CallLists.{calls-by, calls-append, mine-by, one_call_more, serial_is_whole}
use Rattle.nio_orderly.proofs.CallLists.{serial_call_more}
use Rattle.nio_orderly.proofs.WaitedCalls.{after_calls-append}
use Rattle.nio_orderly.specs.Made.{Made, IsRun, after_call, after_calls, MayCome, AreInOrder, draw, table_call}
use Rattle.nio_orderly.specs.Made.{waiting_call}
use Rattle.nio_orderly.specs.Orderly.{MadeBy, IsRunBy, AreCallsOf, AreRunsBy, calls_of}
use Rattle.nio_plain.specs.Answer.{left_from}
use Rattle.nio_plain.specs.ScriptState.{ScriptState}
use Rattle.nio_plain.specs.Seq.Replies.{Replied}
use Rattle.nio_plain.specs.declared.rules.Rules.TheVariants.{Now}
use Rattle.nio_orderly.proofs.KnownLists.{lists_are_known}
use Rattle.nio_orderly.specs.Lists.{KnowsGiven}
use Rattle.nio_serial.proofs.SequenceCalls.{after, IsScripted, Ends, KnowsFor, ends, listed-ends}
use Rattle.nio_serial.proofs.Progress.{pipes-after, pipes-in_progress}
use Rattle.nio_serial.proofs.SequenceReopening.{reopened-is, reopen-ends}
use Rattle.nio_serial.proofs.SequenceWaiting.{blocking-ends, register-ends, select-ends, close-ends, read-ends}
use Rattle.nio_serial.proofs.SequenceWaiting.{write-ends, pipe-ends, try_read-ends, try_write-ends}
use Rattle.nio_serial.specs.Called.{Scripted, as_call, unseen, unscripted, script_call, lacks_memory, HasNames}
use Rattle.nio_serial.specs.Called.{IsNamedCall}
use Rattle.nio_serial.specs.SequenceLaws.{is_of_script, AreOfScript, line_of, reply_of, script_of_calls}
use Rattle.nio_serial.specs.SequenceLaws.{replies_of_calls, SequencesStand, NextCallIsDocumented, SequencesGrow}
use Rattle.nio_serial.specs.SequenceLaws.{NothingIsSequence, ReopeningIsDocumented, SequencesAreScripts, one_more}
use Rattle.nio_serial.specs.Left.{after_made, in_progress, IsOngoing, AreNamed, AreEnrolled, IsSequence, IsLeftBy}
use Rattle.nio_serial.proofs.Facts.{sound}
use Rattle.nio_serial.proofs.Staying.{begins-between}
use Rattle.nio_serial.specs.Between.{IsBetween}
use Rattle.nio_serial.specs.Documented.{Progress, nothing_yet, documented}
use Rattle.nio_serial.specs.Reopening.{Reopened}
use Rattle.nio_serial.specs.Serial.{replies_from}
use Rattle.nio_steps.specs.Ongoing.{Ongoing, nothing_ongoing}
use Rattle.nio_steps.specs.TableCalls.{try_begin, reopen_channel, pipe, try_read, try_write, set_blocking, register, select, close}
use Rattle.nio_steps.specs.TableCalls.{read, write, IsItsList}
use Rattle.nio_steps.specs.declared.looked.LookedKey.{LookedKey}

-- ---- every call

module _ (l : Limits) (past : List Event) (now : Progress) (me : CallerNo) (fit : IsFit l) (by : IsCaller l me)
    (between : IsBetween l (state_after past) now) (no_pipes : now.pipes ≡ []) where
  pub each-ends : (o : Ongoing) (made : Made) (acts : List Act) → IsRun l made acts → IsLegal l (after past me acts)
      → HasNames (state_after past) made → IsOngoing me now o → MayCome o made → KnowsFor l past me made
      → Ends l past now me o acts made
  each-ends o (draw n) acts run legal names at may knows =
      ends l past now me fit by between no_pipes o (draw n) acts refl run legal names at may
  each-ends o (table_call (try_begin s mode (Some known)) answer) acts run legal names at may knows =
      listed-ends l past now me fit by between no_pipes o s mode known answer acts knows run legal names at
  each-ends o (table_call pipe answer) acts run legal names at may knows =
      pipe-ends l me fit by past now o between no_pipes at answer acts run legal
  each-ends o (table_call (try_read source) answer) acts run legal names at may knows =
      try_read-ends l me fit by past now o between no_pipes at source answer acts run legal names
  each-ends o (table_call (try_write source sink) answer) acts run legal names at may knows =
      try_write-ends l me fit by past now o between no_pipes at source sink answer acts run legal names.1
  each-ends o (table_call (reopen_channel c) answer) acts run legal names at may knows =
      reopen-ends l past now me between c acts answer legal run o at
  each-ends o (table_call call answer) acts run legal names at may knows =
      ends l past now me fit by between no_pipes o (table_call call answer) acts refl run legal names at may
  each-ends o (waiting_call (set_blocking c on) answer) acts run legal names at may knows =
      blocking-ends l me fit by past now o between no_pipes at c on answer acts run legal names
  each-ends o (waiting_call (register s c ops att) answer) acts run legal names at may knows =
      register-ends l me fit by past now o between no_pipes at s c ops att answer acts run legal names.0 names.1
  each-ends o (waiting_call (select s mode known polls) outcome) acts run legal names at may knows =
      select-ends l me fit by past now o between no_pipes at s names mode known knows polls outcome acts run legal
  each-ends o (waiting_call (close s) answer) acts run legal names at may knows =
      close-ends l me fit by past now o between no_pipes at s names answer acts run legal
  each-ends o (waiting_call (read source none) answer) acts run legal names at may knows =
      read-ends l me fit by past now o between no_pipes at source none answer acts run legal names
  each-ends o (waiting_call (write source sink none) answer) acts run legal names at may knows =
      write-ends l me fit by past now o between no_pipes at source sink none answer acts run legal names.1

-- ---- what a script has of a call

module _ (l : Limits) (past : List Event) (now : Progress) (me : CallerNo) (acts : List Act) (left : Progress) where
  abbrev before : ScriptState
  before = documented (state_after past) now

  abbrev behind : ScriptState
  behind = documented (state_after (after past me acts)) left

  replies-step : (lacks : Bool) (sc : Scripted) → IsScripted l past now me acts left lacks sc
      → (is_of_script sc && not lacks) ≡ true → (rs : List Reply) (script : List ScriptCall)
      → rs ≡ replies_from l behind script
      → reply_of sc ++ rs ≡ replies_from l before (line_of me sc ++ script)
  replies-step true (as_call word said) is plain rs script later = absurd (cc plain)
  replies-step true unseen is plain rs script later = absurd (cc plain)
  replies-step true unscripted is plain rs script later = absurd (cc plain)
  replies-step false (as_call word said) is plain rs script later =
      ap (λ xs. said ∷ xs) later ∙ ap (λ (a : Replied). a.reply ∷ replies_from l a.left script) (sym is)
  replies-step false unseen is plain rs script later = later ∙ ap (λ (st : ScriptState). replies_from l st script) is
  replies-step false unscripted is plain rs script later = absurd (cc plain)

  left-step : (lacks : Bool) (sc : Scripted) → IsScripted l past now me acts left lacks sc
      → (is_of_script sc && not lacks) ≡ true → (end : ScriptState) (script : List ScriptCall)
      → end ≡ left_from Now l behind script
      → end ≡ left_from Now l before (line_of me sc ++ script)
  left-step true (as_call word said) is plain end script later = absurd (cc plain)
  left-step true unseen is plain end script later = absurd (cc plain)
  left-step true unscripted is plain end script later = absurd (cc plain)
  left-step false (as_call word said) is plain end script later =
      later ∙ ap (λ (a : Replied). left_from Now l a.left script) (sym is)
  left-step false unseen is plain end script later = later ∙ ap (λ (st : ScriptState). left_from Now l st script) is
  left-step false unscripted is plain end script later = absurd (cc plain)

-- ---- one call, and who made it

-- what each caller has in progress after it
abbrev next_ongoing : (CallerNo → Ongoing) → MadeBy → CallerNo → Ongoing
next_ongoing o one n = if one.caller.0 == n.0 then after_call (o n) one.call else o n

same-caller : (n m : CallerNo) → (n.0 == m.0) ≡ true → n ≡ m
same-caller n m is = ap (λ (k : ℕ). record { 0 = k }) (eqb-true n.0 m.0 is)

-- what it leaves to each caller
each-ongoing : (l : Limits) (past : List Event) (now : Progress) (o : CallerNo → Ongoing) (one : MadeBy)
    (acts : List Act) → Ends l past now one.caller (o one.caller) acts one.call
    → ((n : CallerNo) → IsOngoing n now (o n))
    → (n : CallerNo) → IsOngoing n (after_made now one.caller one.call) (next_ongoing o one n)
each-ongoing l past now o one acts done at n = by_caller (one.caller.0 == n.0) refl
  where
    by_caller : (b : Bool) → (one.caller.0 == n.0) ≡ b
        → IsOngoing n (after_made now one.caller one.call) (if b then after_call (o n) one.call else o n)
    by_caller true is =
        subst (λ m. IsOngoing m (after_made now one.caller one.call) (after_call (o m) one.call))
        (same-caller one.caller n is) done.own
    by_caller false is = done.others n (o n) is (at n)

each-order : (o : CallerNo → Ongoing) (one : MadeBy) (later : List MadeBy)
    → ((n : CallerNo) → AreInOrder (o n) (calls_of n (one ∷ later))) → (n : CallerNo)
    → AreInOrder (next_ongoing o one n) (calls_of n later)
each-order o one later order n = by_caller (one.caller.0 == n.0) refl
  where
    by_caller : (b : Bool) → (one.caller.0 == n.0) ≡ b
        → AreInOrder (if b then after_call (o n) one.call else o n) (calls_of n later)
    by_caller true is = (subst (AreInOrder (o n)) (calls-by n one later true is) (order n)).1
    by_caller false is = subst (AreInOrder (o n)) (calls-by n one later false is) (order n)

may-come : (o : CallerNo → Ongoing) (one : MadeBy) (later : List MadeBy)
    → ((n : CallerNo) → AreInOrder (o n) (calls_of n (one ∷ later))) → MayCome (o one.caller) one.call
may-come o one later order =
    (subst (AreInOrder (o one.caller)) (calls-by one.caller one later true (eq-eqb one.caller.0 one.caller.0 refl))
    (order one.caller)).0

after-one : (o : CallerNo → Ongoing) (one : MadeBy) (later : List MadeBy) (n : CallerNo)
    → after_calls (next_ongoing o one n) (calls_of n later) ≡ after_calls (o n) (calls_of n (one ∷ later))
after-one o one later n = by_caller (one.caller.0 == n.0) refl
  where
    by_caller : (b : Bool) → (one.caller.0 == n.0) ≡ b
        → after_calls (if b then after_call (o n) one.call else o n) (calls_of n later)
        ≡ after_calls (o n) (calls_of n (one ∷ later))
    by_caller true is = sym (ap (after_calls (o n)) (calls-by n one later true is))
    by_caller false is = sym (ap (after_calls (o n)) (calls-by n one later false is))

-- ---- what each caller did so far

-- whole calls, which left so much in progress
record CameTo (l : Limits) (own : List Act) (o : Ongoing) : Type 0 where
  calls : List Made
  are : AreCallsOf l own calls
  leaves : after_calls nothing_ongoing calls ≡ o

-- so a list that a call may be given is the one that its caller knows
knows-given : (l : Limits) (past : List Event) (me : CallerNo) (o : Ongoing) (s : SelNo)
    (known : Option (List LookedKey)) → IsFit l → IsLegal l past → CameTo l (mine me past) o → IsItsList s known o
    → KnowsGiven l me past s known
knows-given l past me o s None fit legal came may = tt
knows-given l past me o s (Some known) fit legal came may =
    lists_are_known l me past came.calls s known fit legal came.are (ap (λ (x : Ongoing). x.list s.0) came.leaves ∙ may)

knows-for : (l : Limits) (past : List Event) (me : CallerNo) (o : Ongoing) (made : Made) → IsFit l → IsLegal l past
    → CameTo l (mine me past) o → MayCome o made → KnowsFor l past me made
knows-for l past me o (table_call (try_begin s mode known) answer) fit legal came may =
    knows-given l past me o s known fit legal came may
knows-for l past me o (waiting_call (select s mode known polls) outcome) fit legal came may =
    knows-given l past me o s known fit legal came may
knows-for l past me o _ fit legal came may = tt

mine-after : (n : CallerNo) (past : List Event) (me : CallerNo) (acts : List Act) (b : Bool) → (me.0 == n.0) ≡ b
    → mine n (after past me acts) ≡ mine n past ++ (if b then acts else [])
mine-after n past me acts b is =
    mine-append n past (map (event_of me) acts) ∙ ap (λ xs. mine n past ++ xs) (mine-by n me acts b is)

next-history : (l : Limits) (past : List Event) (o : CallerNo → Ongoing) (one : MadeBy) (acts : List Act)
    → IsRun l one.call acts → MayCome (o one.caller) one.call → ((n : CallerNo) → CameTo l (mine n past) (o n))
    → (n : CallerNo) → CameTo l (mine n (after past one.caller acts)) (next_ongoing o one n)
next-history l past o one acts run may history n = by_caller (one.caller.0 == n.0) refl
  where
    Came : Bool → Type 0
    Came b = CameTo l (mine n (after past one.caller acts)) (if b then after_call (o n) one.call else o n)

    by_caller : (b : Bool) → (one.caller.0 == n.0) ≡ b → Came b
    by_caller true is =
        let came = history n in
        let may' = subst (λ m. MayCome (o m) one.call) (same-caller one.caller n is) may in
        record {
          calls = came.calls ++ one.call ∷ [];
          are = subst (λ xs. AreCallsOf l xs (came.calls ++ one.call ∷ []))
              (sym (mine-after n past one.caller acts true is))
              (one_call_more l (mine n past) acts came.calls one.call came.are
              (subst (λ x. MayCome x one.call) (sym came.leaves) may') run);
          leaves = after_calls-append nothing_ongoing came.calls (one.call ∷ [])
              ∙ ap (λ x. after_call x one.call) came.leaves;
        }
    by_caller false is =
        let came = history n in
        record {
          calls = came.calls;
          are = subst (λ xs. AreCallsOf l xs came.calls)
              (sym (mine-after n past one.caller acts false is ∙ append-nil (mine n past))) came.are;
          leaves = came.leaves;
        }

-- ---- a history

record StandsFrom (l : Limits) (past : List Event) (now : Progress) (o : CallerNo → Ongoing) (made : List MadeBy)
    (events : List Event) : Type 0 where
  between : IsBetween l (state_after (past ++ events)) (in_progress now made)
  ongoing : (n : CallerNo) → IsOngoing n (in_progress now made) (after_calls (o n) (calls_of n made))
  replies : AreOfScript made
      → replies_of_calls made ≡ replies_from l (documented (state_after past) now) (script_of_calls made)
  left : AreOfScript made → documented (state_after (past ++ events)) (in_progress now made)
      ≡ left_from Now l (documented (state_after past) now) (script_of_calls made)

module _ (l : Limits) (fit : IsFit l) where
  stand_from : (made : List MadeBy) (past : List Event) (now : Progress) (o : CallerNo → Ongoing) (events : List Event)
      (runs : AreRunsBy l made events) → IsLegal l (past ++ events) → AreNamed l past made events runs
      → IsBetween l (state_after past) now → now.pipes ≡ [] → ((n : CallerNo) → IsOngoing n now (o n))
      → ((n : CallerNo) → AreInOrder (o n) (calls_of n made)) → ((n : CallerNo) → CameTo l (mine n past) (o n))
      → StandsFrom l past now o made events
  stand_from [] past now o events runs legal named between no_pipes at order history =
      let same : past ++ events ≡ past = ap (λ es. past ++ es) runs ∙ append-nil past in
      record {
        between = subst (λ es. IsBetween l (state_after es) now) (sym same) between;
        ongoing = at;
        replies = λ _. refl;
        left = λ _. ap (λ es. documented (state_after es) now) same;
      }
  stand_from (one ∷ later) past now o events runs legal named between no_pipes at order history =
      let acts = runs.is_first.acts in
      let here : after past one.caller acts ≡ past ++ runs.first =
      ap (λ es. past ++ es) (sym runs.is_first.events_are) in
      let joined : (past ++ runs.first) ++ runs.second ≡ past ++ events =
      append_assoc past runs.first runs.second ∙ ap (λ es. past ++ es) (sym runs.parts) in
      let whole = subst (IsLegal l) (sym joined) legal in
      let legal_here = subst (IsLegal l) (sym here) (legal_beginning l (past ++ runs.first) runs.second whole) in
      let done =
      each-ends l past now one.caller fit named.0.by between no_pipes
      (o one.caller) one.call acts runs.is_first.runs legal_here named.0.names (at one.caller)
      (may-come o one later order)
      (knows-for l past one.caller (o one.caller) one.call fit
      (legal_beginning l past (map (event_of one.caller) acts) legal_here) (history one.caller)
      (may-come o one later order)) in
      let now' = after_made now one.caller one.call in
      let rest =
      stand_from later (past ++ runs.first) now' (next_ongoing o one) runs.second runs.is_second whole named.1
      (subst (λ es. IsBetween l (state_after es) now') here done.between)
      (pipes-after now one.caller one.call ∙ no_pipes) (each-ongoing l past now o one acts done at)
      (each-order o one later order)
      (subst (λ es. (n : CallerNo) → CameTo l (mine n es) (next_ongoing o one n)) here
      (next-history l past o one acts runs.is_first.runs (may-come o one later order) history)) in
      let script =
      λ (of : AreOfScript (one ∷ later)). All-tail (λ (m : MadeBy). IsTrue
      (is_of_script (script_call m.call) && not (lacks_memory m.call))) one later of in
      let plain =
      λ (of : AreOfScript (one ∷ later)). All-head (λ (m : MadeBy). IsTrue
      (is_of_script (script_call m.call) && not (lacks_memory m.call))) one later of in
      record {
        between = subst (λ es. IsBetween l (state_after es) (in_progress now' later)) joined rest.between;
        ongoing = λ n. subst (IsOngoing n (in_progress now' later)) (after-one o one later n) (rest.ongoing n);
        replies =
            λ of. replies-step l past now one.caller acts now' (lacks_memory one.call) (script_call one.call) done.is
            (plain of) (replies_of_calls later) (script_of_calls later)
            (rest.replies (script of)
            ∙ ap (λ es. replies_from l (documented (state_after es) now') (script_of_calls later)) (sym here));
        left = λ of. left-step l past now one.caller acts now' (lacks_memory one.call) (script_call one.call) done.is
            (plain of) (documented (state_after (past ++ events)) (in_progress now' later)) (script_of_calls later)
            (ap (λ es. documented (state_after es) (in_progress now' later)) (sym joined)
            ∙ (rest.left (script of)
            ∙ ap (λ es. left_from Now l (documented (state_after es) now') (script_of_calls later)) (sym here)));
      }

  stand : (events : List Event) (made : List MadeBy) → IsSequence l events made
      → StandsFrom l [] nothing_yet (λ _. nothing_ongoing) made events
  stand events made sequence =
      stand_from made [] nothing_yet (λ _. nothing_ongoing) events sequence.serial.runs sequence.legal sequence.named
      (begins-between l) refl (λ n. record { selection = λ s. refl; closes = λ s. refl }) sequence.serial.in_order
      (λ n. record { calls = []; are = record { runs = refl; in_order = tt }; leaves = refl })

are-enrolled : (l : Limits) (st : State) (now : Progress) → IsBetween l st now → AreEnrolled st
are-enrolled l st now between s i in_set = (sound l st now between).keys.enrolments.in_set s i in_set

pub sequences_stand : SequencesStand
sequences_stand l events made fit sequence = let all = stand l fit events made sequence in
    record {
      between = all.between;
      enrolled = are-enrolled l (state_after events)
          (in_progress nothing_yet made) all.between;
      ongoing = all.ongoing;
    }

pub sequences_are_scripts : SequencesAreScripts
sequences_are_scripts l events made fit sequence of = let all = stand l fit events made sequence in
    record { replies = all.replies of; left = all.left of }

-- ---- one call more

-- what each caller has in progress by its calls, after one more
after-next : (made : List MadeBy) (one : MadeBy) (n : CallerNo)
    → next_ongoing (λ m. after_calls nothing_ongoing (calls_of m made)) one n
    ≡ after_calls nothing_ongoing (calls_of n (made ++ one ∷ []))
after-next made one n = by_caller (one.caller.0 == n.0) refl
  where
    calls : List Made
    calls = calls_of n made

    by_caller : (b : Bool) → (one.caller.0 == n.0) ≡ b
        → (if b then after_call (after_calls nothing_ongoing calls) one.call else after_calls nothing_ongoing calls)
        ≡ after_calls nothing_ongoing (calls_of n (made ++ one ∷ []))
    by_caller true is =
        sym (after_calls-append nothing_ongoing calls (one.call ∷ []))
        ∙ ap (after_calls nothing_ongoing) (sym (calls-append n made (one ∷ [])
        ∙ ap (λ xs. calls ++ xs) (calls-by n one [] true is)))
    by_caller false is =
        ap (after_calls nothing_ongoing) (sym (calls-append n made (one ∷ [])
        ∙ (ap (λ xs. calls ++ xs) (calls-by n one [] false is) ∙ append-nil calls)))

-- what a history leaves, after one call more of which this holds
stands-next : (l : Limits) (past : List Event) (made : List MadeBy) (now : Progress) (me : CallerNo) (acts : List Act)
    (call : Made) → IsLeftBy l past made now
    → Ends l past now me (after_calls nothing_ongoing (calls_of me made)) acts call
    → IsLeftBy l (after past me acts) (one_more made me call) (after_made now me call)
stands-next l past made now me acts call stands done =
    let one : MadeBy = record { caller = me; call = call } in
    record {
      between = done.between;
      enrolled = are-enrolled l (state_after (after past me acts)) (after_made now me call) done.between;
      ongoing =
          λ n. subst (IsOngoing n (after_made now me call)) (after-next made one n)
          (each-ongoing l past now (λ m. after_calls nothing_ongoing (calls_of m made)) one acts done stands.ongoing n);
    }

pub next_call_is_documented : NextCallIsDocumented
next_call_is_documented l past made now me acts call word said fit next =
    let o = λ (m : CallerNo). after_calls nothing_ongoing (calls_of m made) in
    let stands = subst (IsLeftBy l past made) (sym next.progress) (sequences_stand l past made fit next.sequence) in
    let no_pipes : now.pipes ≡ [] = ap (λ (x : Progress). x.pipes) next.progress ∙ pipes-in_progress nothing_yet made in
    let done =
    each-ends l past now me fit next.by stands.between no_pipes (o me) call acts next.runs next.legal next.names
    (stands.ongoing me) next.may_come
    (knows-for l past me (o me) call fit next.sequence.legal
    (record { calls = calls_of me made; are = serial_is_whole l past made me next.sequence.serial; leaves = refl })
    next.may_come) in
    let is =
    subst (IsScripted l past now me acts (after_made now me call) false) next.is_scripted
    (subst (λ b. IsScripted l past now me acts (after_made now me call) b
    (script_call call)) next.has_memory done.is) in
    record {
      replies = sym (ap (λ (a : Replied). a.reply) is);
      leaves = sym (ap (λ (a : Replied). a.left) is);
      stands = stands-next l past made now me acts call stands done;
    }

pub reopening_is_documented : ReopeningIsDocumented
reopening_is_documented l past made now me acts c answer fit next =
    let stands = subst (IsLeftBy l past made) (sym next.progress) (sequences_stand l past made fit next.sequence) in
    let is = reopened-is l past now me stands.between c acts answer next.legal next.runs in
    record {
      answers = sym (ap (λ (x : Reopened). x.answer) is);
      leaves = sym (ap (λ (x : Reopened). x.left) is);
      stands = stands-next l past made now me acts (table_call (reopen_channel c) answer) stands
          (reopen-ends l past now me stands.between c acts answer next.legal next.runs
          (after_calls nothing_ongoing (calls_of me made)) (stands.ongoing me));
    }

-- ---- longer histories

record GrowsFrom (l : Limits) (past : List Event) (made : List MadeBy) (events : List Event) : Type 0 where
  runs : AreRunsBy l made events
  named : AreNamed l past made events runs

grow_from : (l : Limits) (made : List MadeBy) (past events added : List Event) (runs : AreRunsBy l made events)
    → AreNamed l past made events runs → (one : MadeBy) → IsRunBy l one added
    → IsNamedCall l (state_after (past ++ events)) one
    → GrowsFrom l past (made ++ one ∷ []) (events ++ added)
grow_from l [] past events added runs named one run names = record {
  runs = record {
    first = added;
    second = [];
    parts = ap (λ es. es ++ added) runs ∙ sym (append-nil added);
    is_first =
        run;
    is_second = refl;
  };
  named = (subst (λ es. IsNamedCall l (state_after es) one) (ap (λ es. past ++ es) runs ∙ append-nil past) names, tt);
}
grow_from l (first ∷ made) past events added runs named one run names =
    let rest = grow_from l made (past ++ runs.first) runs.second added runs.is_second named.1 one run
    (subst (λ es. IsNamedCall l (state_after es) one)
    (ap (λ es. past ++ es) runs.parts ∙ sym (append_assoc past runs.first runs.second)) names) in
    record {
      runs = record {
        first = runs.first;
        second = runs.second ++ added;
        parts = ap (λ es. es ++ added) runs.parts ∙ append_assoc runs.first runs.second added;
        is_first = runs.is_first;
        is_second = rest.runs;
      };
      named = (named.0, rest.named);
    }

pub sequences_grow : SequencesGrow
sequences_grow l past made me acts call sequence legal run names may =
    let one : MadeBy = record { caller = me; call = call } in
    let grown =
    grow_from l made [] past (map (event_of me) acts) sequence.serial.runs sequence.named one
    (record { acts = acts; runs = run; events_are = refl }) names in
    record {
      legal = legal;
      serial =
          record {
            runs = grown.runs;
            in_order =
                (serial_call_more l past acts made me call sequence.serial may run).in_order;
          };
      named = grown.named;
    }

pub nothing_is_sequence : NothingIsSequence
nothing_is_sequence l =
    record { legal = legal_empty l; serial = record { runs = refl; in_order = λ n. tt }; named = tt }
