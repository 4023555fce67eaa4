-- Calls that wait, and calls on pipes, made between two calls: what they leave.
use Rattle.std.proofs.Common.{◌≡◌, ℕ, Bool, true, false, Some, None, Result, Ok, Err, List, [], ◌∷◌, ◌++◌, map, refl}
use Rattle.std.proofs.Common.{ap, sym, ◌∙◌, subst, append_assoc, Option, eq-eqb}
use Rattle.std.specs.List.{All}
use Rattle.std.proofs.lemmas.List.{append-nil, map-append}
use Rattle.std.proofs.lemmas.List.Elements.{All-head, All-tail}
use Rattle.nio_base.specs.Limits.{IsFit}
use Rattle.nio_base.specs.declared.limits.Limits.{Limits}
use Rattle.nio_base.specs.declared.numbers.CallerNo.{CallerNo}
use Rattle.nio_base.specs.declared.numbers.ChanId.{ChanId}
use Rattle.nio_base.specs.declared.numbers.KeyNo.{KeyNo}
use Rattle.nio_base.specs.declared.numbers.SelNo.{SelNo}
use Rattle.nio_history.proofs.Legal.{legal_beginning}
use Rattle.nio_history.proofs.Put.{put-same}
use Rattle.nio_history.proofs.Stays.{facts_are_permanent}
use Rattle.nio_history.specs.Conditions.{IsCaller}
use Rattle.nio_history.specs.Histories.{state_after, event_of, IsLegal}
use Rattle.nio_history.specs.OwnEvents.{has}
use Rattle.nio_history.specs.Permanent.{PermanentFact}
use Rattle.nio_history.specs.State.{put}
use Rattle.nio_history.specs.declared.act.Act.{Act}
use Rattle.nio_history.specs.declared.event.Event.{Event}
use Rattle.nio_history.specs.declared.found.Mode.{Mode}
use Rattle.nio_language.specs.declared.call.Call.{Call}
use Rattle.nio_language.specs.declared.call.Call.TheVariants as call
use Rattle.nio_language.specs.declared.reply.Reply.{Reply}
use Rattle.nio_language.specs.declared.reply.Reply.TheVariants as reply
use Rattle.nio_orderly.proofs.CallLists.{mine-by}
use Rattle.nio_orderly.proofs.KnownLists.{given_on}
use Rattle.nio_orderly.specs.Lists.{KnowsGiven}
use Rattle.nio_orderly.specs.Made.{IsRun, table_call, waiting_call}
use Rattle.nio_plain.proofs.CallLawsRefusals.{refusals_change_nothing}
use Rattle.nio_plain.proofs.Places.{put-twice}
use Rattle.nio_plain.specs.CallLaws.{changes_pipe, is_without_effect}
use Rattle.nio_plain.specs.Seq.{seq}
use Rattle.nio_plain.specs.Seq.Replies.{Replied}
use Rattle.nio_plain.specs.declared.rules.Rules.TheVariants.{Now}
use Rattle.nio_serial.proofs.SequenceCalls.{after, IsScripted, EndsAs, Ends, ends, listed-ends}
use Rattle.nio_serial.proofs.SequencePipes.{read-leaves, write-leaves, pipe-leaves}
use Rattle.nio_serial.specs.Called.{as_call, Scripted, unscripted}
use Rattle.nio_serial.specs.Left.{IsOngoing, progress_changed}
use Rattle.nio_serial.specs.Between.{IsBetween}
use Rattle.nio_serial.specs.Documented.{Progress, documented}
use Rattle.nio_serial.specs.Laws.{IsMadeSelector, IsMadeChannel}
use Rattle.nio_serial.specs.Lines.{with_selection, with_closing, after_begin, after_shut, after_finish}
use Rattle.nio_serial.specs.Replies.{mode_reply, register_reply}
use Rattle.nio_steps.proofs.PerformLaws.{perform_ran}
use Rattle.nio_steps.specs.ChannelCalls.{try_set_blocking_plan, try_register_plan, finds_held}
use Rattle.nio_steps.proofs.Unlisted.{refusals_leave_list}
use Rattle.nio_steps.specs.ListLaws.{lists_index}
use Rattle.nio_steps.specs.Ongoing.{Ongoing, selecting, closes_on, begun_by, changed, select_change}
use Rattle.nio_steps.specs.Perform.{Performed, perform}
use Rattle.nio_steps.specs.PipeCalls.{PipeEnds, pipe_plan, pipe_lacks_memory, try_read_plan, try_write_plan}
use Rattle.nio_steps.specs.Plan.{Plan}
use Rattle.nio_steps.specs.Runs.{Completes}
use Rattle.nio_steps.specs.SelectCalls.{Selection, Begins, begin_finds_busy, Poll, Tells, goes_on_after, ToldReply}
use Rattle.nio_steps.specs.SelectCalls.{done, again, SelectReply, selected, not_begun, left, SelectsRest, TellsAll}
use Rattle.nio_steps.specs.SelectCalls.{TellsAndLeaves, ShutReply, closing, already_closed, FinishReply, closed, busy}
use Rattle.nio_steps.specs.SelectCalls.{finish_finds_busy, ClosesRest, shut_plan, try_finish_plan, SelectOutcome, select_lacks_memory}
use Rattle.nio_steps.specs.TableCalls.{try_set_blocking, try_register, try_begin, told, leave, shut, try_finish, pipe}
use Rattle.nio_steps.specs.TableCalls.{try_read, try_write, set_blocking, register, select, close, read, write}
use Rattle.nio_steps.specs.Waiting.{Run, acts_of, Tries, Repeats, Retries}
use Rattle.nio_steps.specs.declared.looked.LookedKey.{LookedKey}
use Rattle.nio_steps.specs.declared.refusal.BeginError.{BeginError}
use Rattle.nio_steps.specs.declared.refusal.ChannelError.{ChannelError}
use Rattle.nio_steps.specs.declared.refusal.ChannelError.TheVariants.{Busy}
use Rattle.nio_steps.specs.declared.refusal.PipeError.{PipeError}
use Rattle.nio_steps.specs.declared.refusal.PipeMakeError.{PipeMakeError}
use Rattle.nio_steps.specs.declared.selected.Selected.{Selected}

unscripted-is : (l : Limits) (past : List Event) (now : Progress) (me : CallerNo) (acts : List Act) (x : Progress)
    (b : Bool) → IsScripted l past now me acts x b unscripted
unscripted-is l past now me acts x true = tt
unscripted-is l past now me acts x false = tt

pub joined : (past : List Event) (me : CallerNo) (xs ys : List Act)
    → after (after past me xs) me ys ≡ after past me (xs ++ ys)
joined past me xs ys =
    append_assoc past (map (event_of me) xs) (map (event_of me) ys)
    ∙ ap (λ es. past ++ es) (sym (map-append (event_of me) xs ys))

module _ (l : Limits) (me : CallerNo) where
  pub begins-legal : (past : List Event) (xs ys : List Act) → IsLegal l (after past me (xs ++ ys))
      → IsLegal l (after past me xs)
  begins-legal past xs ys legal =
      legal_beginning l (after past me xs) (map (event_of me) ys) (subst (IsLegal l) (sym (joined past me xs ys)) legal)

  pub then-legal : (past : List Event) (xs ys : List Act) → IsLegal l (after past me (xs ++ ys))
      → IsLegal l (after (after past me xs) me ys)
  then-legal past xs ys legal = subst (IsLegal l) (sym (joined past me xs ys)) legal

  -- ---- the same call again and again

  module _ {X R : Type 0} (Shape : X → List Act → R → Type 0) (goes_on : X → R → Bool) (P : List Event → Type 0)
      (each : (past : List Event) (x : X) (acts : List Act) (r : R) → P past → IsLegal l (after past me acts)
      → Shape x acts r → goes_on x r ≡ true → P (after past me acts)) where
    runs_keep : (runs : List (Run X R)) (past : List Event) → P past → IsLegal l (after past me (acts_of runs))
        → All (λ r. Shape r.given r.acts r.answer) runs → All (λ r. goes_on r.given r.answer ≡ true) runs
        → P (after past me (acts_of runs))
    runs_keep [] past here legal made goes = subst P (sym (append-nil past)) here
    runs_keep (run ∷ later) past here legal made goes =
        subst P (joined past me run.acts (acts_of later))
        (runs_keep later (after past me run.acts)
        (each past run.given run.acts run.answer here (begins-legal past run.acts (acts_of later) legal)
        (All-head (λ r. Shape r.given r.acts r.answer) run later made)
        (All-head (λ r. goes_on r.given r.answer ≡ true) run later goes))
        (then-legal past run.acts (acts_of later) legal)
        (All-tail (λ r. Shape r.given r.acts r.answer) run later made)
        (All-tail (λ r. goes_on r.given r.answer ≡ true) run later goes))

    pub tries_keep : (past : List Event) (acts : List Act) → P past → IsLegal l (after past me acts)
        → Tries Shape goes_on acts → P (after past me acts)
    tries_keep past acts here legal tries =
        subst (λ xs. P (after past me xs)) (sym tries.parts)
        (runs_keep tries.runs past here (subst (λ xs. IsLegal l
        (after past me xs)) tries.parts legal) tries.made tries.again)

    -- the last of the runs
    pub record LastRun (past : List Event) (acts : List Act) (answer : R) : Type 0 where
      pub before : List Event
      pub here : P before
      pub last : List Act
      pub given : X
      pub legal : IsLegal l (after before me last)
      pub made : Shape given last answer
      pub same : after before me last ≡ after past me acts

    pub last_run : (past : List Event) (acts : List Act) (answer : R) → P past → IsLegal l (after past me acts)
        → Repeats Shape goes_on acts answer → LastRun past acts answer
    last_run past acts answer here legal runs =
        let legal' = subst (λ xs. IsLegal l (after past me xs)) runs.parts legal in
        record {
          before = after past me runs.before;
          here = tries_keep past runs.before here (begins-legal past runs.before runs.last.acts legal') runs.tries;
          last = runs.last.acts;
          given = runs.last.given;
          legal = then-legal past runs.before runs.last.acts legal';
          made = subst (Shape runs.last.given runs.last.acts) runs.answers runs.made;
          same = joined past me runs.before runs.last.acts ∙ ap (λ xs. after past me xs) (sym runs.parts);
        }

module _ (l : Limits) (me : CallerNo) (fit : IsFit l) (by : IsCaller l me) where
  selector-stays : (past : List Event) (acts : List Act) (s : SelNo) → IsLegal l (after past me acts)
      → IsMadeSelector (state_after past) s → IsMadeSelector (state_after (after past me acts)) s
  selector-stays past acts s legal made =
      facts_are_permanent l past (after past me acts) (map (event_of me) acts, refl) legal
      (PermanentFact.selector_made s.0) made

  channel-stays : (past : List Event) (acts : List Act) (c : ChanId) → IsLegal l (after past me acts)
      → IsMadeChannel (state_after past) c → IsMadeChannel (state_after (after past me acts)) c
  channel-stays past acts c legal made =
      facts_are_permanent l past (after past me acts) (map (event_of me) acts, refl) legal
      (PermanentFact.channel_opened c.number.0 c.serial) made

  -- what a call leaves that begins and ends nothing
  leaves-now : (past : List Event) (now : Progress) (o : Ongoing) (acts : List Act) (lacks : Bool)
      → IsBetween l (state_after (after past me acts)) now → IsOngoing me now o
      → EndsAs l past now me acts now o lacks unscripted
  leaves-now past now o acts lacks there at =
      record {
        between = there;
        own = at;
        others = λ n o' other at'.
            at';
        is = unscripted-is l past now me acts now lacks;
      }

  -- ---- the hold of a channel

  module _ (past : List Event) (now : Progress) (o : Ongoing) (between : IsBetween l (state_after past) now)
      (no_pipes : now.pipes ≡ []) (at : IsOngoing me now o) where
    abbrev WithChannel : ChanId → List Event → Type 0
    WithChannel c p = IsBetween l (state_after p) now × IsMadeChannel (state_after p) c

    abbrev WithBoth : SelNo → ChanId → List Event → Type 0
    WithBoth s c p =
        IsBetween l (state_after p) now × (IsMadeSelector (state_after p) s × IsMadeChannel (state_after p) c)

    -- and a script sees the state as it was
    abbrev SeenSame : List Event → Type 0
    SeenSame p = documented (state_after p) now ≡ documented (state_after past) now

    -- a try that finds the hold taken is refused, and a refusal changes nothing
    busy-same : (p : List Event) (xs : List Act) (word : Call) → is_without_effect word reply.Busy ≡ true
        → changes_pipe (documented (state_after p) now) me word reply.Busy ≡ false
        → seq Now l (documented (state_after p) now) me word
        ≡ record { reply = reply.Busy; left = documented (state_after (after p me xs)) now } → SeenSame p
        → SeenSame (after p me xs)
    busy-same p xs word refuses keeps is same =
        sym (ap (λ (a : Replied). a.left) is)
        ∙ (refusals_change_nothing Now l (documented (state_after p) now) me word
        (ap (λ (a : Replied). is_without_effect word a.reply) is ∙ refuses)
        (ap (λ (a : Replied). changes_pipe (documented (state_after p) now) me word a.reply) is ∙ keeps) ∙ same)

    -- the last try, with the answer of the call
    last-ends : (p : List Event) (xs acts : List Act) (word : Call) (r : Reply)
        → EndsAs l p now me xs now o false (as_call word r) → SeenSame p → after p me xs ≡ after past me acts
        → EndsAs l past now me acts now o false (as_call word r)
    last-ends p xs acts word r one seen same = record {
      between = subst (λ es. IsBetween l (state_after es) now) same one.between;
      own = one.own;
      others = one.others;
      is = ap (λ st. seq Now l st me word) (sym seen)
          ∙ (one.is ∙ ap (λ es. record { reply = r; left = documented (state_after es) now }) same);
    }

    pub blocking-ends : (c : ChanId) (on : Bool) (answer : Result (Unit {0}) ChannelError) (acts : List Act)
        → IsRun l (waiting_call (set_blocking c on) answer) acts → IsLegal l (after past me acts)
        → IsMadeChannel (state_after past) c
        → Ends l past now me o acts (waiting_call (set_blocking c on) answer)
    blocking-ends c on answer acts run legal made =
        let it =
        last_run l me _ _ (λ p. WithChannel c p × SeenSame p)
        (λ p x xs r here legal' run' goes. once_more p xs r here legal' run' goes) past acts answer
        ((between, made), refl) legal run in
        last-ends it.before it.last acts (call.Blocking c on) (mode_reply answer)
        (one it.before it.last answer it.here.0 it.legal it.made) it.here.1 it.same
      where
        one : (p : List Event) (xs : List Act) (r : Result (Unit {0}) ChannelError) → WithChannel c p
            → IsLegal l (after p me xs) → Completes (try_set_blocking_plan l c on) xs r
            → Ends l p now me o xs (table_call (try_set_blocking c on) r)
        one p xs r here legal' run' =
            ends l p now me fit by here.0 no_pipes o (table_call (try_set_blocking c on) r) xs refl run' legal' here.1
            at tt

        once_more : (p : List Event) (xs : List Act) (r : Result (Unit {0}) ChannelError) → WithChannel c p × SeenSame p
            → IsLegal l (after p me xs) → Completes (try_set_blocking_plan l c on) xs r → finds_held r ≡ true
            → WithChannel c (after p me xs) × SeenSame (after p me xs)
        once_more p xs (Err Busy) here legal' run' goes =
            let done = one p xs (Err Busy) here.0 legal' run' in (
              (done.between, channel-stays p xs c legal' here.0.1),
              busy-same p xs
                  (call.Blocking c on) refl refl done.is here.1,
            )
        once_more p xs _ here legal' run' goes = absurd (cc goes)

    pub register-ends : (s : SelNo) (c : ChanId) (ops att : ℕ) (answer : Result KeyNo ChannelError) (acts : List Act)
        → IsRun l (waiting_call (register s c ops att) answer) acts → IsLegal l (after past me acts)
        → IsMadeSelector (state_after past) s → IsMadeChannel (state_after past) c
        → Ends l past now me o acts (waiting_call (register s c ops att) answer)
    register-ends s c ops att answer acts run legal made made' =
        let it =
        last_run l me _ _ (λ p. WithBoth s c p × SeenSame p)
        (λ p x xs r here legal' run' goes. once_more p xs r here legal' run' goes) past acts answer
        ((between, (made, made')), refl) legal run in
        last-ends it.before it.last acts (call.Register s c ops (Some att)) (register_reply answer)
        (one it.before it.last answer it.here.0 it.legal it.made) it.here.1 it.same
      where
        one : (p : List Event) (xs : List Act) (r : Result KeyNo ChannelError) → WithBoth s c p
            → IsLegal l (after p me xs) → Completes (try_register_plan l s c ops att) xs r
            → Ends l p now me o xs (table_call (try_register s c ops att) r)
        one p xs r here legal' run' =
            ends l p now me fit by here.0 no_pipes o (table_call (try_register s c ops att) r) xs refl run' legal'
            here.1 at tt

        once_more : (p : List Event) (xs : List Act) (r : Result KeyNo ChannelError) → WithBoth s c p × SeenSame p
            → IsLegal l (after p me xs) → Completes (try_register_plan l s c ops att) xs r → finds_held r ≡ true
            → WithBoth s c (after p me xs) × SeenSame (after p me xs)
        once_more p xs (Err Busy) here legal' run' goes =
            let done = one p xs (Err Busy) here.0 legal' run' in (
              (done.between, (selector-stays p xs s legal' here.0.1.0, channel-stays p xs c legal' here.0.1.1)),
              busy-same p xs (call.Register s c ops (Some att)) refl refl done.is here.1,
            )
        once_more p xs _ here legal' run' goes = absurd (cc goes)

    -- ---- pipes

    ran-between : {R : Type 0} (p : List Event) (plan : Plan R) (xs : List Act) (r : R)
        → IsBetween l (perform me plan (state_after p)).state now → IsLegal l (after p me xs) → Completes plan xs r
        → IsBetween l (state_after (after p me xs)) now
    ran-between {R = R} p plan xs r there legal' run' =
        subst (λ (d : Performed R). IsBetween l d.state now) (perform_ran l me plan p xs r legal' run') there

    pub pipe-ends : (answer : Result PipeEnds PipeMakeError) (acts : List Act) → IsRun l (table_call pipe answer) acts
        → IsLegal l (after past me acts) → Ends l past now me o acts (table_call pipe answer)
    pipe-ends answer acts run legal =
        leaves-now past now o acts (pipe_lacks_memory answer)
        (ran-between past (pipe_plan l (pipe_lacks_memory answer)) acts answer
        (pipe-leaves l now me fit by no_pipes (state_after past) (pipe_lacks_memory answer) between) legal run) at

    pub try_read-ends : (c : ChanId) (answer : Result Bool PipeError) (acts : List Act)
        → IsRun l (table_call (try_read c) answer) acts → IsLegal l (after past me acts)
        → IsMadeChannel (state_after past) c
        → Ends l past now me o acts (table_call (try_read c) answer)
    try_read-ends c answer acts run legal made =
        leaves-now past now o acts false (ran-between past (try_read_plan l c) acts answer
        (read-leaves l (state_after past) now me fit by between no_pipes c made) legal run) at

    pub try_write-ends : (source c : ChanId) (answer : Result Bool PipeError) (acts : List Act)
        → IsRun l (table_call (try_write source c) answer) acts → IsLegal l (after past me acts)
        → IsMadeChannel (state_after past) c
        → Ends l past now me o acts (table_call (try_write source c) answer)
    try_write-ends source c answer acts run legal made =
        leaves-now past now o acts false (ran-between past (try_write_plan l source c) acts answer
        (write-leaves l (state_after past) now me fit by between no_pipes source c made) legal run) at

    pub read-ends : (c : ChanId) (none : Bool) (answer : Result Bool PipeError) (acts : List Act)
        → IsRun l (waiting_call (read c none) answer) acts → IsLegal l (after past me acts)
        → IsMadeChannel (state_after past) c
        → Ends l past now me o acts (waiting_call (read c none) answer)
    read-ends c none answer acts run legal made =
        let it = last_run l me _ _ (WithChannel c)
        (λ p x xs r here legal' run' _. (
          one p xs r here legal' run',
          channel-stays p xs c legal' here.1,
        )) past acts run.found (between, made) legal run.runs in
        leaves-now past now o acts false (subst (λ es. IsBetween l (state_after es) now) it.same
        (one it.before it.last run.found it.here it.legal it.made)) at
      where
        one : (p : List Event) (xs : List Act) (r : Result Bool PipeError) → WithChannel c p → IsLegal l (after p me xs)
            → Completes (try_read_plan l c) xs r → IsBetween l (state_after (after p me xs)) now
        one p xs r here legal' run' =
            ran-between p (try_read_plan l c) xs r (read-leaves l
            (state_after p) now me fit by here.0 no_pipes c here.1) legal' run'

    pub write-ends : (source c : ChanId) (none : Bool) (answer : Result Bool PipeError) (acts : List Act)
        → IsRun l (waiting_call (write source c none) answer) acts → IsLegal l (after past me acts)
        → IsMadeChannel (state_after past) c
        → Ends l past now me o acts (waiting_call (write source c none) answer)
    write-ends source c none answer acts run legal made =
        let it = last_run l me _ _ (WithChannel c)
        (λ p x xs r here legal' run' _. (
          one p xs r here legal' run',
          channel-stays p xs c legal' here.1,
        )) past acts run.found (between, made) legal run.runs in
        leaves-now past now o acts false (subst (λ es. IsBetween l (state_after es) now) it.same
        (one it.before it.last run.found it.here it.legal it.made)) at
      where
        one : (p : List Event) (xs : List Act) (r : Result Bool PipeError) → WithChannel c p → IsLegal l (after p me xs)
            → Completes (try_write_plan l source c) xs r → IsBetween l (state_after (after p me xs)) now
        one p xs r here legal' run' =
            ran-between p (try_write_plan l source c) xs r (write-leaves l
            (state_after p) now me fit by here.0 no_pipes source c here.1) legal' run'

  -- ---- one call and then another

  abbrev WithSelector : Progress → SelNo → List Event → Type 0
  WithSelector now s p = IsBetween l (state_after p) now × IsMadeSelector (state_after p) s

  -- what two calls leave that make one
  two-end : (past : List Event) (now middle x : Progress) (o o' : Ongoing) (first second acts : List Act)
      (lacks lacks' : Bool) (a a' : Scripted) (between_ends : List Event) (final : Progress) (ongoing : Ongoing)
      (lacks'' : Bool)
      → EndsAs l past now me first middle o lacks a → EndsAs l between_ends middle me second x o' lacks' a'
      → after between_ends me second ≡ after past me acts → x ≡ final → o' ≡ ongoing
      → EndsAs l past now me acts final ongoing lacks'' unscripted
  two-end past now middle x o o' first second acts lacks lacks' a a' between_ends final ongoing lacks'' one two
      same left_is ongoing_is = record {
        between =
            subst (λ es. IsBetween l (state_after es) final) same
            (subst (IsBetween l (state_after (after between_ends me second))) left_is two.between);
        own = subst (λ w. IsOngoing me w ongoing) left_is (subst (IsOngoing me x) ongoing_is two.own);
        others = λ n k other at. subst (λ w. IsOngoing n w k) left_is (two.others n k other (one.others n k other at));
        is = unscripted-is l past now me acts final lacks'';
      }

  -- an earlier beginning of what is done in the same position
  moved : (before past : List Event) (now : Progress) (last acts : List Act) (x : Progress) (o : Ongoing)
      (lacks lacks' : Bool) (a : Scripted) → EndsAs l before now me last x o lacks a
      → after before me last ≡ after past me acts
      → EndsAs l past now me acts x o lacks' unscripted
  moved before past now last acts x o lacks lacks' a one same = record {
    between = subst (λ es. IsBetween l (state_after es) x) same one.between;
    own = one.own;
    others = one.others;
    is = unscripted-is l past now me acts x lacks';
  }

  -- ---- closing

  module _ (past : List Event) (now : Progress) (o : Ongoing) (between : IsBetween l (state_after past) now)
      (no_pipes : now.pipes ≡ []) (at : IsOngoing me now o) (s : SelNo)
      (made : IsMadeSelector (state_after past) s) where
    finish-again : (w : Progress) → w.pipes ≡ [] → (k : Ongoing) (p : List Event) (xs : List Act) (r : FinishReply)
        → IsOngoing me w k → k.closes s.0 ≡ true → WithSelector w s p → IsLegal l (after p me xs)
        → Completes (try_finish_plan s) xs r → finish_finds_busy r ≡ true → WithSelector w s (after p me xs)
    finish-again w without k p xs closed at' may here legal run goes = absurd (cc goes)
    finish-again w without k p xs busy at' may here legal run goes = (
      (ends l p w me fit by here.0 without k (table_call (try_finish s) busy) xs refl run legal here.1 at' may).between,
      selector-stays p xs s legal here.1,
    )

    close-rest : (first second acts : List Act) (middle : ShutReply) (answer : Bool) → acts ≡ first ++ second
        → IsLegal l (after past me acts) → Completes (shut_plan s) first middle → ClosesRest s middle second answer
        → Ends l past now me o acts (waiting_call (close s) answer)
    close-rest first second acts already_closed answer parts legal run rest =
        let legal' = begins-legal l me past first second (subst (λ xs. IsLegal l (after past me xs)) parts legal) in
        let one =
        ends l past now me fit by between no_pipes o (table_call (shut s) already_closed) first refl run legal' made at
        tt in
        subst (λ (b : Bool). Ends l past now me o acts (waiting_call (close s) b)) (sym rest.0)
        (moved past past now first acts now o false false _ one
        (ap (λ xs. after past me xs) (sym (append-nil first) ∙ (ap (λ xs. first ++ xs) (sym rest.1) ∙ sym parts))))
    close-rest first second acts closing answer parts legal run rest =
        let whole = subst (λ xs. IsLegal l (after past me xs)) parts legal in
        let legal' = begins-legal l me past first second whole in
        let one = ends l past now me fit by between no_pipes o (table_call (shut s) closing) first refl run legal' made
        at tt in
        let w = after_shut now me s closing in
        let k = closes_on o s true in
        let may : k.closes s.0 ≡ true = put-same o.closes s.0 true in
        let it =
        last_run l me _ _ (WithSelector w s) (λ p x xs r here legal'' run' goes.
        finish-again w no_pipes k p xs r one.own may here legal'' run' goes)
        (after past me first) second closed (one.between, selector-stays past first s legal' made)
        (then-legal l me past first second whole) rest.1 in
        let two =
        ends l it.before w me fit by it.here.0 no_pipes k
        (table_call (try_finish s) closed) it.last refl it.made it.legal it.here.1 one.own may in
        subst (λ (b : Bool). Ends l past now me o acts (waiting_call (close s) b)) (sym rest.0)
        (two-end past now w (after_finish w s closed) k
        (closes_on k s false) first it.last acts false false _ _ it.before (with_closing now s None)
        (closes_on o s false) false one two
        (it.same ∙ (joined past me first second ∙ ap (λ xs. after past me xs) (sym parts)))
        (ap (λ f. record now { closing = f }) (put-twice now.closing s.0 (Some me) None))
        (ap (λ f. record o { closes = f }) (put-twice o.closes s.0 true false)))

    pub close-ends : (answer : Bool) (acts : List Act) → IsRun l (waiting_call (close s) answer) acts
        → IsLegal l (after past me acts)
        → Ends l past now me o acts (waiting_call (close s) answer)
    close-ends answer acts run legal =
        close-rest run.first run.second acts run.middle answer run.parts legal run.runs_first run.runs_second

  -- ---- selecting

  -- a selection in progress of this caller, and what is over or left then
  module _ (past : List Event) (now : Progress) (o : Ongoing) (between : IsBetween l (state_after past) now)
      (no_pipes : now.pipes ≡ []) (at : IsOngoing me now o) (s : SelNo) (made : IsMadeSelector (state_after past) s)
      (mode : Mode) (known : Option (List LookedKey)) (knows : KnowsGiven l me past s known) where
    -- where the selection may begin: the caller knows the list that it is given
    abbrev MayBegin : List Event → Type 0
    MayBegin p = WithSelector now s p × KnowsGiven l me p s known

    begin-ends : (p : List Event) (xs : List Act) (r : Result Selection BeginError) → MayBegin p
        → IsLegal l (after p me xs) → Begins s mode known xs r
        → Ends l p now me o xs (table_call (try_begin s mode known) r)
    begin-ends p xs r here legal run = by_list known here.1 run
      where
        by_list : (k : Option (List LookedKey)) → KnowsGiven l me p s k → Begins s mode k xs r
            → Ends l p now me o xs (table_call (try_begin s mode k) r)
        by_list None knows' run' =
            ends l p now me fit by here.0.0 no_pipes o (table_call (try_begin s mode None) r) xs refl run' legal here.0.1
            at tt
        by_list (Some list) knows' run' =
            listed-ends l p now me fit by here.0.0 no_pipes o s mode list r xs knows' run' legal here.0.1 at

    -- a try that finds the turn taken leaves what its caller knows
    knows-still : (p : List Event) (xs : List Act) (refusal : BeginError) → IsLegal l (after p me xs)
        → Begins s mode known xs (Err refusal) → KnowsGiven l me p s known → KnowsGiven l me (after p me xs) s known
    knows-still p xs refusal legal run knows' =
        given_on l me p (map (event_of me) xs) s known legal
        (λ i. ap (has (lists_index s.0 i)) (mine-by me me xs true (eq-eqb me.0 me.0 refl))
        ∙ refusals_leave_list s mode known xs refusal run i) knows'

    begin-again : (p : List Event) (xs : List Act) (r : Result Selection BeginError) → MayBegin p
        → IsLegal l (after p me xs) → Begins s mode known xs r → begin_finds_busy r ≡ true → MayBegin (after p me xs)
    begin-again p xs (Ok x) here legal run goes = absurd (cc goes)
    begin-again p xs (Err BeginError.ClosedSelector) here legal run goes = absurd (cc goes)
    begin-again p xs (Err BeginError.Memory) here legal run goes = absurd (cc goes)
    begin-again p xs (Err BeginError.Busy) here legal run goes = (
      ((begin-ends p xs (Err BeginError.Busy) here legal run).between, selector-stays p xs s legal here.0.1),
      knows-still p xs BeginError.Busy legal run here.1,
    )

    -- what a whole selection leaves that began so
    abbrev IsOver : List Act → Result Selection BeginError → Bool → Type 0
    IsOver acts begun lacks =
        EndsAs l past now me acts (progress_changed now me (select_change s begun)) (changed o (select_change s begun))
        lacks unscripted

    module _ (x : Selection) where
      -- with the selection in progress
      abbrev now_on : Progress
      now_on = after_begin now me s (Ok x)

      abbrev o_on : Ongoing
      o_on = begun_by o s x

      on-selector : (p : List Event) → IsBetween l (state_after p) now_on → x.selector.0 ≡ s.0
      on-selector p there =
          ((there.shown s.0).on (record { caller = me; selection = x })
          (put-same now.selection s.0 (Some (record { caller = me; selection = x })))).selector

      may-tell : x.selector.0 ≡ s.0 → o_on.selection x.selector.0 ≡ Some x
      may-tell same = ap (λ (k : ℕ). o_on.selection k) same ∙ put-same o.selection s.0 (Some x)

      its-selector : x.selector.0 ≡ s.0 → (p : List Event) → IsMadeSelector (state_after p) s
          → IsMadeSelector (state_after p) x.selector
      its-selector same p here = ap (λ (k : ℕ). (state_after p).selector k) same ∙ here

      over-now : x.selector.0 ≡ s.0 → with_selection now_on x.selector None ≡ with_selection now s None
      over-now same =
          ap (λ (k : ℕ). record now { selection = put now_on.selection k None }) same
          ∙ ap (λ f. record now { selection = f }) (put-twice now.selection s.0
          (Some (record { caller = me; selection = x })) None)

      over-ongoing : x.selector.0 ≡ s.0 → selecting o_on x.selector None ≡ selecting o_on s None
      over-ongoing same = ap (λ (k : ℕ). record o_on { selection = put o_on.selection k None }) same

      tell-again : x.selector.0 ≡ s.0 → IsOngoing me now_on o_on
          → (p : List Event) (poll : Poll) (xs : List Act) (r : ToldReply) → WithSelector now_on s p
          → IsLegal l (after p me xs) → Tells x poll xs r → goes_on_after poll r ≡ true
          → WithSelector now_on s (after p me xs)
      tell-again same at' p poll xs (done a) here legal run goes = absurd (cc goes)
      tell-again same at' p poll xs (again next) here legal run goes = (
        (ends l p now_on me fit by here.0 no_pipes o_on (table_call (told x poll) (again next)) xs refl run legal
            (its-selector same p here.1) at' (may-tell same)).between,
        selector-stays p xs s legal here.1,
      )

      abbrev Begun : List Event → List Act → Type 0
      Begun p xs = EndsAs l p now me xs now_on o_on false unscripted

      rest-selected : (first second acts : List Act) (polls : List Poll) (answer : Selected) → acts ≡ first ++ second
          → IsLegal l (after past me acts) → Begun past first → IsMadeSelector (state_after (after past me first)) s
          → TellsAll x polls second answer → (lacks : Bool) → IsOver acts (Ok x) lacks
      rest-selected first second acts polls answer parts legal one there rest lacks =
          let whole = subst (λ xs. IsLegal l (after past me xs)) parts legal in
          let same = on-selector (after past me first) one.between in
          let it =
          last_run l me _ _ (WithSelector now_on s) (tell-again same one.own) (after past me first) second
          (done answer) (one.between, there) (then-legal l me past first second whole) rest.tells in
          let two =
          ends l it.before now_on me fit by it.here.0 no_pipes o_on
          (table_call (told x it.given) (done answer)) it.last refl it.made it.legal
          (its-selector same it.before it.here.1) one.own (may-tell same) in
          two-end past now now_on (with_selection now_on x.selector None) o_on
          (selecting o_on x.selector None) first it.last acts false false _ _ it.before (with_selection now s None)
          (selecting o_on s None) lacks one two
          (it.same ∙ (joined past me first second ∙ ap (λ xs. after past me xs) (sym parts))) (over-now same)
          (over-ongoing same)

      rest-left : (first second acts : List Act) (polls : List Poll) → acts ≡ first ++ second
          → IsLegal l (after past me acts) → Begun past first → IsMadeSelector (state_after (after past me first)) s
          → TellsAndLeaves x polls second → (lacks : Bool) → IsOver acts (Ok x) lacks
      rest-left first second acts polls parts legal one there rest lacks =
          let whole = subst (λ xs. IsLegal l (after past me xs)) parts legal in
          let same = on-selector (after past me first) one.between in
          let p = after past me first in
          let legal_rest =
          subst (λ xs. IsLegal l (after p me xs)) rest.parts (then-legal l me past first second whole) in
          let here =
          tries_keep l me _ _ (WithSelector now_on s) (tell-again same one.own) p rest.told (one.between, there)
          (begins-legal l me p rest.told rest.leaves legal_rest) rest.tells in
          let before = after p me rest.told in
          let two =
          ends l before now_on me fit by here.0 no_pipes o_on (table_call (leave x) tt) rest.leaves refl rest.left
          (then-legal l me p rest.told rest.leaves legal_rest) (its-selector same before here.1) one.own
          (may-tell same) in
          two-end past now now_on (with_selection now_on x.selector None) o_on
          (selecting o_on x.selector None) first rest.leaves acts false false _ _ before (with_selection now s None)
          (selecting o_on s None) lacks one two
          (joined p me rest.told rest.leaves
          ∙ (ap (λ xs. after p me xs) (sym rest.parts)
          ∙ (joined past me first second ∙ ap (λ xs. after past me xs) (sym parts)))) (over-now same)
          (over-ongoing same)

    select-rest : (first second acts : List Act) (polls : List Poll) (middle : Result Selection BeginError)
        (answer : SelectReply) → acts ≡ first ++ second → IsLegal l (after past me acts)
        → Retries (Begins s mode known) begin_finds_busy first middle → SelectsRest polls middle second answer
        → (lacks : Bool) → IsOver acts middle lacks
    select-rest first second acts polls middle answer parts legal runs rest lacks = by_middle middle answer it one rest
      where
        first_legal : IsLegal l (after past me first)
        first_legal = begins-legal l me past first second (subst (λ xs. IsLegal l (after past me xs)) parts legal)

        it : LastRun l me (λ (_ : Unit {0}). Begins s mode known) (λ _. begin_finds_busy) MayBegin
            (λ p _ xs r here legal' run' goes. begin-again p xs r here legal' run' goes) past first middle
        it = last_run l me _ _ MayBegin (λ p _ xs r here legal' run' goes.
            begin-again p xs r here legal' run' goes) past first middle ((between, made), knows) first_legal runs

        one : Ends l it.before now me o it.last (table_call (try_begin s mode known) middle)
        one = begin-ends it.before it.last middle it.here it.legal it.made

        there : IsMadeSelector (state_after (after past me first)) s
        there = selector-stays past first s first_legal made

        by_middle : (m : Result Selection BeginError) (a : SelectReply)
            → (run : LastRun l me (λ (_ : Unit {0}). Begins s mode known) (λ _. begin_finds_busy) MayBegin
            (λ p _ xs r here legal' run' goes. begin-again p xs r here legal' run' goes) past first m)
            → Ends l run.before now me o run.last (table_call (try_begin s mode known) m) → SelectsRest polls m second a
            → IsOver acts m lacks
        by_middle (Ok x) (selected a) run one' rest' =
            rest-selected x first second acts polls a parts legal
            (moved run.before past now run.last first (now_on x) (o_on x) false false _ one' run.same) there rest' lacks
        by_middle (Ok x) (not_begun refusal) run one' rest' = absurd rest'
        by_middle (Ok x) left run one' rest' =
            rest-left x first second acts polls parts legal
            (moved run.before past now run.last first (now_on x) (o_on x) false false _ one' run.same) there rest' lacks
        by_middle (Err refusal) a run one' rest' =
            moved run.before past now run.last acts now o _ lacks _ one'
            (run.same
            ∙ ap (λ xs. after past me xs) (sym (append-nil first)
            ∙ (ap (λ xs. first ++ xs) (sym rest'.0) ∙ sym parts)))

    pub select-ends : (polls : List Poll) (outcome : SelectOutcome) (acts : List Act)
        → IsRun l (waiting_call (select s mode known polls) outcome) acts → IsLegal l (after past me acts)
        → Ends l past now me o acts (waiting_call (select s mode known polls) outcome)
    select-ends polls outcome acts run legal =
        let makes = run.makes in
        subst (λ begun. IsOver acts begun (select_lacks_memory outcome.answer)) run.begun
        (select-rest makes.first makes.second acts polls makes.middle outcome.answer makes.parts legal makes.runs_first
        makes.runs_second (select_lacks_memory outcome.answer))
