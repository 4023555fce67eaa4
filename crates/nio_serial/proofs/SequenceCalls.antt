-- Each call that doesn't wait, made between two calls: what it leaves.
use Rattle.std.proofs.Common.{◌≡◌, ℕ, ◌==◌, Bool, true, false, not, ◌&&◌, cond, if◌then◌else◌}
use Rattle.std.proofs.Common.{Option, Some, None, option_map, Result, Ok, Err, List, [], ◌∷◌, ◌++◌, map, refl, ap, sym}
use Rattle.std.proofs.Common.{◌∙◌, subst}
use Rattle.nio_plain.specs.Seq.Pipes.{own_sink}
use Rattle.std.specs.Prelude.{is_some, IsTrue}
use Rattle.std.proofs.lemmas.Bool.{both_ways}
use Rattle.nio_base.specs.Limits.{IsFit}
use Rattle.nio_base.specs.declared.limits.Limits.{Limits}
use Rattle.nio_base.specs.declared.numbers.CallerNo.{CallerNo}
use Rattle.nio_base.specs.declared.numbers.ChanId.{ChanId}
use Rattle.nio_base.specs.declared.numbers.KeyId.{KeyId}
use Rattle.nio_base.specs.declared.numbers.KeyNo.{KeyNo}
use Rattle.nio_base.specs.declared.numbers.SelNo.{SelNo}
use Rattle.nio_history.proofs.Legal.{legal_next}
use Rattle.nio_history.proofs.OneMore.{state_after-more}
use Rattle.nio_history.specs.Acts.{taken_by}
use Rattle.nio_history.specs.Conditions.{IsCaller, Condition}
use Rattle.nio_history.specs.Histories.{state_after, event_of, mine, IsLegal}
use Rattle.nio_history.specs.Questions.{Question, question_of}
use Rattle.nio_history.specs.State.{State, with_drawn, with_lister}
use Rattle.nio_history.specs.declared.act.Act.{Act}
use Rattle.nio_history.specs.declared.act.Act.TheVariants.{DrawBit, SetInterrupt}
use Rattle.nio_history.specs.declared.event.Event.{Event}
use Rattle.nio_history.specs.declared.found.Mode.{Mode}
use Rattle.nio_language.specs.declared.call.Call.{Call}
use Rattle.nio_language.specs.declared.call.Call.TheVariants as call
use Rattle.nio_language.specs.declared.reply.Reply.{Reply}
use Rattle.nio_language.specs.declared.reply.Reply.TheVariants as reply
use Rattle.nio_orderly.specs.Lists.{KnowsGiven}
use Rattle.nio_orderly.specs.Made.{Made, IsRun, after_call, MayCome, draw, table_call, waiting_call}
use Rattle.nio_orderly.specs.Waited.{waits}
use Rattle.nio_plain.proofs.Naming.{selector-through}
use Rattle.nio_plain.specs.ScriptState.{ScriptState}
use Rattle.nio_plain.specs.Seq.{call_of, seq}
use Rattle.nio_plain.specs.Seq.Closing.{close_call}
use Rattle.nio_plain.specs.Seq.Replies.{Replied, unchanged, yes_or_no}
use Rattle.nio_plain.specs.Seq.Selections.{begun_with, begin_call, is_caller}
use Rattle.nio_plain.specs.declared.rules.Rules.TheVariants.{Now}
use Rattle.nio_serial.proofs.SequencePipes.{unsealed}
use Rattle.nio_serial.proofs.Progress.{put_selection, put_closing, put_same, own_of_caller, closing_of_caller}
use Rattle.nio_serial.proofs.Progress.{others_begun, others_ended, others_shut, others_closed}
use Rattle.nio_serial.specs.Called.{Scripted, as_call, unseen, unscripted, waiting_of, script_call, lacks_memory}
use Rattle.nio_serial.specs.Called.{HasNames}
use Rattle.nio_serial.specs.SequenceLaws.{is_of_script}
use Rattle.nio_serial.specs.Left.{after_made, IsOngoing}
use Rattle.nio_serial.proofs.Facts.{sound}
use Rattle.nio_serial.proofs.Histories.{call-runs-amount, told-runs-amount, lacking-leaves, draws-stay, lists-stay}
use Rattle.nio_serial.proofs.Histories.{seq-through}
use Rattle.nio_serial.proofs.ListedCalls.{mode_through, listed-runs-amount}
use Rattle.nio_serial.proofs.Lines.{selector-found, channel-found, key-found}
use Rattle.nio_serial.proofs.Showing.{own-is}
use Rattle.nio_serial.specs.Between.{IsBetween}
use Rattle.nio_serial.specs.Documented.{Progress, Selecting, documented, shown}
use Rattle.nio_serial.specs.Laws.{IsMadeSelector, IsNamed, Amounts, by_key}
use Rattle.nio_serial.specs.Lines.{Said, makes, asks, refused, begin_line, failed_line, close_end_line, call_plan}
use Rattle.nio_serial.specs.Lines.{own_selection, after_begin, after_told, after_shut, after_finish, with_selection}
use Rattle.nio_serial.specs.PipeLines.{with_seal}
use Rattle.nio_serial.specs.Replies.{key_id, find_reply, set_reply, put_reply, channel_reply, mode_reply}
use Rattle.nio_serial.specs.Replies.{register_reply, closed_reply, selector_reply, begin_reply, told_reply, shut_reply}
use Rattle.nio_serial.specs.Replies.{finish_reply, list_reply}
use Rattle.nio_steps.proofs.EachLaws.{each_run, split}
use Rattle.nio_steps.proofs.PerformLaws.{perform_ran}
use Rattle.nio_steps.proofs.RunLaws.{follows_bind}
use Rattle.nio_steps.proofs.SelectionLaws.{NoMark, Replies, after-replies}
use Rattle.nio_steps.specs.ChannelCalls.{open_channel_plan, is_open_plan, is_blocking_plan, is_registered_plan}
use Rattle.nio_steps.specs.ChannelCalls.{key_for_plan, try_set_blocking_plan, try_register_plan, close_channel_plan}
use Rattle.nio_steps.specs.KeyCalls.{find_selector_plan, find_channel_plan, find_plan, is_valid_plan, interest_plan}
use Rattle.nio_steps.specs.KeyCalls.{set_interest_plan, interest_or_plan, interest_and_plan, ready_plan, cancel_plan}
use Rattle.nio_steps.specs.KeyCalls.{unselect_plan, attach_plan, attachment_plan}
use Rattle.nio_steps.specs.Ongoing.{Ongoing, selecting, begun_by}
use Rattle.nio_steps.specs.Lists.{KnowsList}
use Rattle.nio_steps.specs.Perform.{perform}
use Rattle.nio_steps.specs.Plan.{Plan}
use Rattle.nio_steps.specs.Runs.{Completes}
use Rattle.nio_steps.specs.SelectCalls.{Selection, open_selector_plan, wakeup_plan, interrupt_plan, interrupted_plan}
use Rattle.nio_steps.specs.SelectCalls.{take_list_plan, try_begin_plan, told_plan, mark_entry, after_marks, Poll, ToldReply, done}
use Rattle.nio_steps.specs.SelectCalls.{again, leave_plan, shut_plan, ShutReply, closing, already_closed}
use Rattle.nio_steps.specs.SelectCalls.{try_finish_plan, FinishReply, closed, busy, keys_plan, selected_keys_plan}
use Rattle.nio_steps.specs.Sweeps.{sweep_over}
use Rattle.nio_steps.specs.TableCalls.{find_selector, find_channel, find, is_valid, interest, set_interest, interest_or}
use Rattle.nio_steps.specs.TableCalls.{interest_and, ready, cancel, unselect, attach, attachment, open_channel}
use Rattle.nio_steps.specs.TableCalls.{reopen_channel, is_open, is_blocking, is_registered, key_for, try_set_blocking}
use Rattle.nio_steps.specs.TableCalls.{try_register, close_channel, open_selector, take_list, try_begin, told, leave, shut}
use Rattle.nio_steps.specs.TableCalls.{try_finish, keys, selected_keys, wakeup, interrupt, interrupted, pipe, try_read}
use Rattle.nio_steps.specs.TableCalls.{try_write, set_blocking, register, select, close, read, write}
use Rattle.nio_steps.specs.declared.looked.LookedKey.{LookedKey}
use Rattle.nio_steps.specs.declared.refusal.BeginError.{BeginError}
use Rattle.nio_steps.specs.declared.refusal.ListError.{ListError}

abbrev pub after : List Event → CallerNo → List Act → List Event
after past me acts = past ++ map (event_of me) acts

-- ---- what a call leaves

-- what a script has of a call
abbrev pub IsScripted : Limits → List Event → Progress → CallerNo → List Act → Progress → Bool → Scripted → Type 0
IsScripted l past now me acts left true _ = Unit {0}
IsScripted l past now me acts left false (as_call word said) =
    seq Now l (documented (state_after past) now) me word
    ≡ record { reply = said; left = documented (state_after (after past me acts)) left }
IsScripted l past now me acts left false unseen =
    documented (state_after (after past me acts)) left ≡ documented (state_after past) now
IsScripted l past now me acts left false unscripted = Unit {0}

-- what is in progress by it, for its caller and for others, and that the state is between two calls
pub record EndsAs (l : Limits) (past : List Event) (now : Progress) (me : CallerNo) (acts : List Act) (left : Progress)
    (ongoing : Ongoing) (lacks : Bool) (scripted : Scripted) : Type 0 where
  pub between : IsBetween l (state_after (after past me acts)) left
  pub own : IsOngoing me left ongoing
  pub others : (n : CallerNo) (o : Ongoing) → (me.0 == n.0) ≡ false → IsOngoing n now o → IsOngoing n left o
  pub is : IsScripted l past now me acts left lacks scripted

abbrev pub Ends : Limits → List Event → Progress → CallerNo → Ongoing → List Act → Made → Type 0
Ends l past now me ongoing acts call =
    EndsAs l past now me acts (after_made now me call) (after_call ongoing call) (lacks_memory call) (script_call call)

-- it begins a selection with the list
abbrev pub is_listed : Made → Bool
is_listed (table_call (try_begin s mode (Some known)) answer) = true
is_listed _ = false

-- the call doesn't wait, is no reopening, isn't on a pipe, and is without the list
abbrev pub IsPlain : Made → Type 0
IsPlain made = IsTrue (is_of_script (script_call made) && not (waits made) && not (is_listed made))

-- the list that the call is given, if it is given one, is the one that the caller knows
abbrev pub KnowsFor : Limits → List Event → CallerNo → Made → Type 0
KnowsFor l past me (table_call (try_begin s mode known) answer) = KnowsGiven l me past s known
KnowsFor l past me (waiting_call (select s mode known polls) outcome) = KnowsGiven l me past s known
KnowsFor l past me _ = Unit {0}

-- ---- plans

pub made-run : {R : Type 0} (plan : Plan R) (said : R → Reply) (left : R → Progress) (acts : List Act) (a : R)
    → Completes plan acts a → Completes (makes plan said left) acts (record { reply = said a; left = left a })
made-run plan said left acts a run =
    follows_bind plan (λ answer. Plan.reply (record { reply = said answer; left = left answer })) acts
    (Plan.reply a) run

-- a `told` that answers Again goes on with the same selection
pub again-same : (x next : Selection) (pairs : List (ℕ × ℕ)) (elapsed : Bool) (acts : List Act)
    → Completes (told_plan x pairs elapsed) acts (again next) → next ≡ x
unfolding told_plan
again-same x next pairs elapsed acts run =
    let parts =
    split (sweep_over x.looked (mark_entry x.selector pairs) 0) (after_marks x elapsed) acts (again next) run in
    (each_run (NoMark x.selector.0) (Replies x parts.middle) (after_marks x elapsed parts.middle) parts.second
    (again next) (after-replies x elapsed parts.middle) parts.runs_second).1.0

-- ---- what stood before

none_from : (o : Option Selecting) → is_some (option_map (λ (x : Selecting). x.caller) o) ≡ false → o ≡ None
none_from None is = refl
none_from (Some x) is = absurd (cc is)

begun_free : (b c : Bool) (ds : ScriptState) (y : Replied) (xs : List (KeyId × ℕ))
    → (cond b (unchanged ds reply.ClosedSelector) (cond c (unchanged ds reply.Busy) y)).reply ≡ reply.Looked xs
    → c ≡ false
begun_free true c ds y xs is = absurd (cc is)
begun_free false true ds y xs is = absurd (cc is)
begun_free false false ds y xs is = refl

shut_open : (b : Bool) (ds : ScriptState) (y : Replied) → (cond b (unchanged ds reply.Already) y).reply ≡ reply.Closing
    → b ≡ false
shut_open true ds y is = absurd (cc is)
shut_open false ds y is = refl

not_some : {A : Type 0} (o : Option A) (b : Bool) → (is_some o ≡ true → b ≡ true) → b ≡ false → o ≡ None
not_some None b so is = refl
not_some (Some x) b so is = absurd (both_ways b is (so refl))

abbrev no_one : Option CallerNo
no_one = None

module _ (l : Limits) (past : List Event) (now : Progress) (me : CallerNo) (fit : IsFit l) (by : IsCaller l me)
    (between : IsBetween l (state_after past) now) (no_pipes : now.pipes ≡ []) where
  abbrev st : State
  st = state_after past

  abbrev ds : ScriptState
  ds = documented (state_after past) now

  abbrev Here : Ongoing → List Act → Made → Type 0
  Here ongoing acts call = Ends l past now me ongoing acts call

  -- a selection begins where there is none
  begin-free : (s : SelNo) (mode : Mode) (left : ScriptState) (x : Selection) → IsMadeSelector st s
      → call_of Now l ds me (call.Begin s (waiting_of mode)) ≡ record { reply = begin_reply (Ok x); left = left }
      → now.selection s.0 ≡ None
  unfolding call_of begin_call
  begin-free s mode left x made is =
      none_from (now.selection s.0)
      (ap is_some (sym (between.shown s.0).turn)
      ∙ begun_free (st.gate s.0).shut (is_some (st.turn s.0)) ds _ (shown x).looked
      (sym (ap (λ (a : Replied). a.reply) (selector-through ds s made _
      ∙ ap (λ o. begun_with Now ds me s.0 o) (mode_through mode))) ∙ ap (λ (a : Replied). a.reply) is))

  -- and a closing too
  shut-free : (s : SelNo) (left : ScriptState) → IsMadeSelector st s
      → call_of Now l ds me (call.Close s) ≡ record { reply = reply.Closing; left = left } → now.closing s.0 ≡ None
  unfolding call_of close_call
  shut-free s left made is =
      let open_gate : (st.gate s.0).shut ≡ false =
      shut_open (st.gate s.0).shut ds _ (sym (ap (λ (a : Replied). a.reply) (selector-through ds s made _))
      ∙ ap (λ (a : Replied). a.reply) is) in
      let none : st.closer s.0 ≡ None =
      not_some (st.closer s.0) (st.gate s.0).shut ((sound l st now between).closings s.0).closer_shut open_gate in
      (between.shown s.0).closing ∙ (ap (λ o. if st.entered s.0 then None else o) none ∙ either (st.entered s.0))
    where
      either : (b : Bool) → (if b then None else no_one) ≡ no_one
      either true = refl
      either false = refl

  -- ---- lines

  -- a run of the call's line
  line-amounts : (word : Call) (acts : List Act) (said : Said) → IsNamed l st word → IsLegal l (after past me acts)
      → Completes (call_plan l now me word) acts said → Amounts l (call_of Now l ds me word) (after past me acts) said
  line-amounts word acts said named legal run =
      call-runs-amount l now me word past acts said fit by between named legal run

  -- that the documented system answers so too
  seq-of : (word : Call) (acts : List Act) (said : Said)
      → Amounts l (call_of Now l ds me word) (after past me acts) said
      → seq Now l ds me word ≡ record {
        reply = said.reply;
        left =
            documented (state_after (after past me acts)) said.left;
      }
  seq-of word acts said amounts = seq-through l ds me word by ∙ amounts.replied

  -- a call that begins and ends nothing
  quiet-line : (o : Ongoing) (word : Call) (r : Reply) (acts : List Act) → IsNamed l st word
      → IsLegal l (after past me acts) → Completes (call_plan l now me word) acts (record { reply = r; left = now })
      → IsOngoing me now o
      → EndsAs l past now me acts now o false (as_call word r)
  quiet-line o word r acts named legal run at =
      let amounts = line-amounts word acts (record { reply = r; left = now }) named legal run in
      record {
        between = amounts.between;
        own = at;
        others = λ n o' other at'. at';
        is =
            seq-of word acts (record { reply = r; left = now }) amounts;
      }

  -- one that leaves the state as it was
  same-state : {R : Type 0} (plan : Plan R) (acts : List Act) (a : R) → (perform me plan st).state ≡ st
      → IsLegal l (after past me acts) → Completes plan acts a → state_after (after past me acts) ≡ st
  same-state plan acts a leaves legal run =
      sym (ap (λ p. p.state) (perform_ran l me plan past acts a legal run)) ∙ leaves

  stays-between : (acts : List Act) → state_after (after past me acts) ≡ st
      → IsBetween l (state_after (after past me acts)) now
  stays-between acts same = subst (λ x. IsBetween l x now) (sym same) between

  unseen-ends : (o : Ongoing) (acts : List Act) → state_after (after past me acts) ≡ st → IsOngoing me now o
      → EndsAs l past now me acts now o false unseen
  unseen-ends o acts same at =
      record {
        between = stays-between acts same;
        own = at;
        others = λ n o' other at'. at';
        is = ap
            (λ x. documented x now) same;
      }

  -- one without memory
  lacking-ends : (o : Ongoing) (acts : List Act) (scripted : Scripted) → state_after (after past me acts) ≡ st
      → IsOngoing me now o → EndsAs l past now me acts now o true scripted
  lacking-ends o acts _ same at =
      record { between = stays-between acts same; own = at; others = λ n o' other at'. at'; is = tt }

  -- a draw
  draw-ends : (o : Ongoing) (n : CallerNo) (acts : List Act) → acts ≡ DrawBit n false ∷ [] → IsOngoing me now o
      → EndsAs l past now me acts now o false unseen
  draw-ends o n acts is at =
      let same : state_after (after past me acts) ≡ with_drawn st n.0 true =
      ap (λ xs. state_after (after past me xs)) is ∙ state_after-more past (event_of me (DrawBit n false)) in
      record {
        between = subst (λ x. IsBetween l x now) (sym same) (draws-stay l st now n between);
        own = at;
        others = λ n' o' other at'. at';
        is = ap (λ x. documented x now) same;
      }

  -- ---- selections

  -- a selection that goes by the list takes that on
  begun-ongoing : (now' : Progress) (o : Ongoing) (s : SelNo) (x : Selection) → IsOngoing me now' (selecting o s (Some x))
      → IsOngoing me now' (begun_by o s x)
  begun-ongoing now' o s x at = record { selection = at.selection; closes = at.closes }

  begin-ends : (o : Ongoing) (s : SelNo) (mode : Mode) (answer : Result Selection BeginError) (acts : List Act)
      → IsRun l (table_call (try_begin s mode None) answer) acts → IsLegal l (after past me acts)
      → IsMadeSelector st s → IsOngoing me now o → Here o acts (table_call (try_begin s mode None) answer)
  unfolding call_plan
  begin-ends o s mode (Ok x) acts run legal made at =
      let said : Said = record { reply = begin_reply (Ok x); left = after_begin now me s (Ok x) } in
      let word = call.Begin s (waiting_of mode) in
      let amounts = line-amounts word acts said made legal
      (subst (λ m. Completes (begin_line now me s m) acts said) (sym (mode_through mode))
      (made-run (try_begin_plan s mode None false) begin_reply (after_begin now me s) acts (Ok x) run)) in
      record {
        between = amounts.between;
        own = begun-ongoing (after_begin now me s (Ok x)) o s x
            (put_selection me now o s.0 (Some x) (Some (record { caller = me; selection = x }))
            (own_of_caller me x) at);
        others =
            λ n o' other at'. others_begun me n other now o' s.0 x
            (begin-free s mode
            (documented (state_after (after past me acts)) said.left) x made amounts.replied) at';
        is = seq-of word acts said amounts;
      }
  begin-ends o s mode (Err BeginError.ClosedSelector) acts run legal made at =
      quiet-line o (call.Begin s (waiting_of mode)) reply.ClosedSelector acts made legal
      (subst (λ m. Completes (begin_line now me s m) acts (record { reply = reply.ClosedSelector; left = now }))
      (sym (mode_through mode))
      (made-run (try_begin_plan s mode None false) begin_reply (after_begin now me s) acts
      (Err BeginError.ClosedSelector) run)) at
  begin-ends o s mode (Err BeginError.Busy) acts run legal made at =
      quiet-line o (call.Begin s (waiting_of mode)) reply.Busy acts made legal
      (subst (λ m. Completes (begin_line now me s m) acts (record { reply = reply.Busy; left = now }))
      (sym (mode_through mode))
      (made-run (try_begin_plan s mode None false) begin_reply (after_begin now me s) acts (Err BeginError.Busy) run)) at
  begin-ends o s mode (Err BeginError.Memory) acts run legal made at =
      lacking-ends o acts (script_call (table_call (try_begin s mode None) (Err BeginError.Memory)))
      (same-state (try_begin_plan s mode None true) acts (Err BeginError.Memory)
      (lacking-leaves l st now me s mode None between).begins legal run) at

  -- with the list, which the caller knows
  pub listed-ends : (o : Ongoing) (s : SelNo) (mode : Mode) (known : List LookedKey) (answer : Result Selection BeginError)
      (acts : List Act) → KnowsList l me past s known
      → IsRun l (table_call (try_begin s mode (Some known)) answer) acts → IsLegal l (after past me acts)
      → IsMadeSelector st s → IsOngoing me now o → Here o acts (table_call (try_begin s mode (Some known)) answer)
  listed-ends o s mode known (Ok x) acts knows run legal made at =
      let said : Said = record { reply = begin_reply (Ok x); left = after_begin now me s (Ok x) } in
      let amounts =
      listed-runs-amount l past now me fit between s mode known knows acts (Ok x) legal run by made in
      record {
        between = amounts.between;
        own = begun-ongoing (after_begin now me s (Ok x)) o s x
            (put_selection me now o s.0 (Some x) (Some (record { caller = me; selection = x }))
            (own_of_caller me x) at);
        others =
            λ n o' other at'. others_begun me n other now o' s.0 x
            (begin-free s mode
            (documented (state_after (after past me acts)) said.left) x made amounts.replied) at';
        is = seq-of (call.Begin s (waiting_of mode)) acts said amounts;
      }
  listed-ends o s mode known (Err BeginError.ClosedSelector) acts knows run legal made at =
      let said : Said = record { reply = reply.ClosedSelector; left = now } in
      let amounts = listed-runs-amount l past now me fit between s mode known knows acts
      (Err BeginError.ClosedSelector) legal run by made in
      record {
        between = amounts.between;
        own = at;
        others = λ n o' other at'. at';
        is = seq-of (call.Begin s (waiting_of mode)) acts said amounts;
      }
  listed-ends o s mode known (Err BeginError.Busy) acts knows run legal made at =
      let said : Said = record { reply = reply.Busy; left = now } in
      let amounts = listed-runs-amount l past now me fit between s mode known knows acts
      (Err BeginError.Busy) legal run by made in
      record {
        between = amounts.between;
        own = at;
        others = λ n o' other at'. at';
        is = seq-of (call.Begin s (waiting_of mode)) acts said amounts;
      }
  listed-ends o s mode known (Err BeginError.Memory) acts knows run legal made at =
      lacking-ends o acts (script_call (table_call (try_begin s mode (Some known)) (Err BeginError.Memory)))
      (same-state (try_begin_plan s mode (Some known) true) acts (Err BeginError.Memory)
      (lacking-leaves l st now me s mode (Some known) between).begins legal run) at

  -- taking the list
  take_list-ends : (o : Ongoing) (s : SelNo) (answer : Bool) (acts : List Act)
      → IsRun l (table_call (take_list s) answer) acts → IsLegal l (after past me acts) → IsOngoing me now o
      → Here o acts (table_call (take_list s) answer)
  unfolding take_list_plan
  take_list-ends o s answer acts run legal at = by_answer answer
    where
      taken : State
      taken = with_lister st s.0 (taken_by me (st.lister s.0))

      is : taken ≡ state_after (after past me acts)
      is = ap (λ p. p.state) (perform_ran l me (take_list_plan s) past acts answer legal run)

      there : IsBetween l (state_after (after past me acts)) now
      there = subst (λ x. IsBetween l x now) is
          (lists-stay l st now s.0 (taken_by me (st.lister s.0)) between)

      by_answer : (a : Bool) → Here o acts (table_call (take_list s) a)
      by_answer true = record {
        between = there;
        own = record { selection = at.selection; closes = at.closes };
        others = λ n o' other at'. at';
        is = ap (λ x. documented x now) (sym is);
      }
      by_answer false = record {
        between = there;
        own = at;
        others = λ n o' other at'. at';
        is = ap (λ x. documented x now) (sym is);
      }

  -- the caller's own selection, by what the caller has in progress
  own-selection : (o : Ongoing) (x : Selection) → IsOngoing me now o → o.selection x.selector.0 ≡ Some x
      → own_selection now me x.selector ≡ Some x
  own-selection o x at may = sym (at.selection x.selector.0) ∙ may

  told-ends : (o : Ongoing) (x : Selection) (poll : Poll) (answer : ToldReply) (acts : List Act)
      → IsRun l (table_call (told x poll) answer) acts → IsLegal l (after past me acts)
      → IsMadeSelector st x.selector → IsOngoing me now o → o.selection x.selector.0 ≡ Some x
      → Here o acts (table_call (told x poll) answer)
  told-ends o x poll answer acts run legal made at may = by_answer answer run
    where
      its_own : own_selection now me x.selector ≡ Some x
      its_own = own-selection o x at may

      word : Call
      word = call.Told x.selector poll.elapsed (by_key x poll.pairs)

      by_answer : (a : ToldReply) → IsRun l (table_call (told x poll) a) acts → Here o acts (table_call (told x poll) a)
      by_answer (done a) run' =
          let amounts =
          told-runs-amount l now me x.selector x poll.pairs poll.elapsed past acts
          (done a) by between made its_own legal run' in
          let own' = own-is me (now.selection x.selector.0) x its_own in
          record {
            between = amounts.between;
            own = put_selection me now o x.selector.0 None None refl at;
            others = λ n o' other at'. others_ended me n other now o' x.selector.0 own'.its own'.is own'.by at';
            is = seq-of word acts (record {
              reply = told_reply (done a);
              left =
                  after_told now x.selector (done a);
            }) amounts;
          }
      by_answer (again next) run' =
          let amounts =
          told-runs-amount l now me x.selector x poll.pairs poll.elapsed past acts
          (again next) by between made its_own legal run' in
          record {
            between = amounts.between;
            own = put_same me now o x.selector.0 (Some next) (ap (λ (y : Selection). Some y)
                (again-same x next poll.pairs poll.elapsed acts run') ∙ sym may) at;
            others = λ n o' other at'. at';
            is = seq-of word acts (record {
              reply = told_reply (again next);
              left =
                  after_told now x.selector (again next);
            }) amounts;
          }

  leave-ends : (o : Ongoing) (x : Selection) (acts : List Act) → IsRun l (table_call (leave x) tt) acts
      → IsLegal l (after past me acts)
      → IsMadeSelector st x.selector → IsOngoing me now o → o.selection x.selector.0 ≡ Some x
      → Here o acts (table_call (leave x) tt)
  unfolding call_plan
  leave-ends o x acts run legal made at may =
      let left = with_selection now x.selector None in
      let said : Said = record { reply = reply.Left; left = left } in
      let mine = own-selection o x at may in
      let own' = own-is me (now.selection x.selector.0) x mine in
      let amounts = line-amounts (call.Failed x.selector) acts said made legal
      (subst (λ m. Completes (failed_line now x.selector m) acts said) (sym mine)
      (made-run (leave_plan x) (λ _. reply.Left) (λ _. left) acts tt run)) in
      record {
        between = amounts.between;
        own = put_selection me now o x.selector.0 None None refl at;
        others = λ n o' other at'. others_ended me n other now o' x.selector.0 own'.its own'.is own'.by at';
        is = seq-of (call.Failed x.selector) acts said amounts;
      }

  -- ---- closings

  shut-ends : (o : Ongoing) (s : SelNo) (answer : ShutReply) (acts : List Act)
      → IsRun l (table_call (shut s) answer) acts
      → IsLegal l (after past me acts) → IsMadeSelector st s → IsOngoing me now o
      → Here o acts (table_call (shut s) answer)
  unfolding call_plan
  shut-ends o s closing acts run legal made at =
      let said : Said = record { reply = reply.Closing; left = after_shut now me s closing } in
      let amounts =
      line-amounts (call.Close s) acts said made legal (made-run (shut_plan s) shut_reply
      (after_shut now me s) acts closing run) in
      record {
        between = amounts.between;
        own = put_closing me now o s.0 true (Some me) (closing_of_caller me) at;
        others =
            λ n o' other at'. others_shut me n other now o' s.0
            (shut-free s (documented (state_after (after past me acts)) said.left) made amounts.replied) at';
        is = seq-of (call.Close s) acts said amounts;
      }
  shut-ends o s already_closed acts run legal made at =
      quiet-line o (call.Close s) reply.Already acts made legal
      (made-run (shut_plan s) shut_reply (after_shut now me s) acts already_closed run) at

  finish-ends : (o : Ongoing) (s : SelNo) (answer : FinishReply) (acts : List Act)
      → IsRun l (table_call (try_finish s) answer) acts
      → IsLegal l (after past me acts) → IsMadeSelector st s → IsOngoing me now o → o.closes s.0 ≡ true
      → Here o acts (table_call (try_finish s) answer)
  unfolding call_plan
  finish-ends o s answer acts run legal made at may = by_answer answer run
    where
      mine : is_caller me (now.closing s.0) ≡ true
      mine = sym (at.closes s.0) ∙ may

      along : (a : FinishReply) → Completes (try_finish_plan s) acts a
          → Completes (close_end_line now me s) acts (record { reply = finish_reply a; left = after_finish now s a })
      along a run' =
          subst (λ b. Completes (if b then makes (try_finish_plan s) finish_reply (after_finish now s)
          else refused now reply.NotClosing) acts (record { reply = finish_reply a; left = after_finish now s a }))
          (sym mine)
          (made-run (try_finish_plan s) finish_reply (after_finish now s) acts a run')

      by_answer : (a : FinishReply) → Completes (try_finish_plan s) acts a → Here o acts (table_call (try_finish s) a)
      by_answer closed run' =
          let said : Said = record { reply = reply.Closed; left = after_finish now s closed } in
          let amounts = line-amounts (call.CloseEnd s) acts said made legal (along closed run') in
          record {
            between = amounts.between;
            own = put_closing me now o s.0 false None refl at;
            others = λ n o' other at'. others_closed me n other now o' s.0 mine at';
            is = seq-of (call.CloseEnd s) acts said amounts;
          }
      by_answer busy run' = quiet-line o (call.CloseEnd s) reply.Busy acts made legal (along busy run') at

  -- ---- listings

  keys-ends : (o : Ongoing) (s : SelNo) (answer : Result (List KeyNo) ListError) (acts : List Act)
      → IsRun l (table_call (keys s) answer) acts → IsLegal l (after past me acts) → IsMadeSelector st s
      → IsOngoing me now o
      → Here o acts (table_call (keys s) answer)
  unfolding call_plan
  keys-ends o s (Ok found) acts run legal made at =
      quiet-line o (call.Keys s) (list_reply (Ok found)) acts made legal
      (made-run (keys_plan s false) list_reply (λ _. now) acts (Ok found) run) at
  keys-ends o s (Err ListError.ClosedSelector) acts run legal made at =
      quiet-line o (call.Keys s) reply.ClosedSelector acts made legal
      (made-run (keys_plan s false) list_reply (λ _. now) acts (Err ListError.ClosedSelector) run) at
  keys-ends o s (Err ListError.Memory) acts run legal made at =
      lacking-ends o acts (script_call (table_call (keys s) (Err ListError.Memory)))
      (same-state (keys_plan s true) acts (Err ListError.Memory)
      (lacking-leaves l st now me s Mode.Now None between).keys legal run) at

  selected-ends : (o : Ongoing) (s : SelNo) (answer : Result (List KeyNo) ListError) (acts : List Act)
      → IsRun l (table_call (selected_keys s) answer) acts → IsLegal l (after past me acts) → IsMadeSelector st s
      → IsOngoing me now o → Here o acts (table_call (selected_keys s) answer)
  unfolding call_plan
  selected-ends o s (Ok found) acts run legal made at =
      quiet-line o (call.Selected s) (list_reply (Ok found)) acts made legal
      (made-run (selected_keys_plan s false) list_reply (λ _. now) acts (Ok found) run) at
  selected-ends o s (Err ListError.ClosedSelector) acts run legal made at =
      quiet-line o (call.Selected s) reply.ClosedSelector acts made legal
      (made-run (selected_keys_plan s false) list_reply (λ _. now) acts (Err ListError.ClosedSelector) run) at
  selected-ends o s (Err ListError.Memory) acts run legal made at =
      lacking-ends o acts (script_call (table_call (selected_keys s) (Err ListError.Memory)))
      (same-state (selected_keys_plan s true) acts (Err ListError.Memory)
      (lacking-leaves l st now me s Mode.Now None between).selected legal run) at

  -- ---- look-ups

  selector-ends : (o : Ongoing) (n : ℕ) (answer : Option SelNo) (acts : List Act)
      → Completes (find_selector_plan l n) acts answer → IsLegal l (after past me acts) → IsOngoing me now o
      → Here o acts (table_call (find_selector n) answer)
  selector-ends o n answer acts run legal at =
      unseen-ends o acts (same-state (find_selector_plan l n) acts answer
      (ap (λ p. p.state) (selector-found l st now me fit between n)) legal run) at

  channel-ends : (o : Ongoing) (n q : ℕ) (answer : Option ChanId) (acts : List Act)
      → Completes (find_channel_plan l n q) acts answer → IsLegal l (after past me acts) → IsOngoing me now o
      → Here o acts (table_call (find_channel n q) answer)
  channel-ends o n q answer acts run legal at =
      unseen-ends o acts (same-state (find_channel_plan l n q) acts answer
      (ap (λ p. p.state) (channel-found l st now me fit between n q)) legal run) at

  key-ends : (o : Ongoing) (s : SelNo) (i q : ℕ) (answer : Option KeyNo) (acts : List Act)
      → Completes (find_plan l s i q) acts answer → IsLegal l (after past me acts) → IsOngoing me now o
      → Here o acts (table_call (find s i q) answer)
  key-ends o s i q answer acts run legal at =
      unseen-ends o acts (same-state (find_plan l s i q) acts answer
      (ap (λ p. p.state) (key-found l st now me fit between s i q)) legal run) at

  -- who is interrupted is one of the table's callers
  interrupt-below : (n : CallerNo) (acts : List Act) → Completes (interrupt_plan n) acts tt
      → IsLegal l (after past me acts) → IsCaller l n
  unfolding interrupt_plan
  interrupt-below n [] run legal = absurd (cc run)
  interrupt-below n (act ∷ rest) run legal =
      by_act act run.0 (legal_next l past (event_of me act) (map (event_of me) rest) legal).condition
    where
      by_act : (a : Act) → question_of a ≡ Question.set_interrupt n → Condition l (mine me past) st me a → IsCaller l n
      by_act (SetInterrupt n' found) asks holds = subst (IsCaller l) (cc asks) holds
      by_act _ asks holds = absurd (cc asks)

  -- ---- every call that has a word in a script, or that a script doesn't see

  pub ends : (o : Ongoing) (made : Made) (acts : List Act) → IsPlain made → IsRun l made acts
      → IsLegal l (after past me acts) → HasNames st made → IsOngoing me now o → MayCome o made → Here o acts made
  unfolding call_plan
  ends o (draw n) acts plain run legal names at may = draw-ends o n acts run at
  ends o (table_call (find_selector n) answer) acts plain run legal names at may =
      selector-ends o n answer acts run legal at
  ends o (table_call (find_channel n serial) answer) acts plain run legal names at may =
      channel-ends o n serial answer acts run legal at
  ends o (table_call (find s i serial) answer) acts plain run legal names at may =
      key-ends o s i serial answer acts run legal at
  ends o (table_call (is_valid k) answer) acts plain run legal names at may =
      quiet-line o (call.Valid k.sel (key_id k)) (yes_or_no answer) acts names legal
      (made-run (is_valid_plan k) yes_or_no (λ _. now) acts answer run) at
  ends o (table_call (interest k) answer) acts plain run legal names at may =
      quiet-line o (call.Interest k.sel (key_id k)) (set_reply answer) acts names legal
      (made-run (interest_plan k) set_reply (λ _. now) acts answer run) at
  ends o (table_call (set_interest k ops) answer) acts plain run legal names at may =
      quiet-line o (call.Iset k.sel (key_id k) ops) (put_reply answer) acts names legal
      (made-run (set_interest_plan k ops) put_reply (λ _. now) acts answer run) at
  ends o (table_call (interest_or k ops) answer) acts plain run legal names at may =
      quiet-line o (call.Ior k.sel (key_id k) ops) (set_reply answer) acts names legal
      (made-run (interest_or_plan k ops) set_reply (λ _. now) acts answer run) at
  ends o (table_call (interest_and k ops) answer) acts plain run legal names at may =
      quiet-line o (call.Iand k.sel (key_id k) ops) (set_reply answer) acts names legal
      (made-run (interest_and_plan k ops) set_reply (λ _. now) acts answer run) at
  ends o (table_call (ready k) answer) acts plain run legal names at may =
      quiet-line o (call.Ready k.sel (key_id k)) (set_reply answer) acts names legal
      (made-run (ready_plan k) set_reply (λ _. now) acts answer run) at
  ends o (table_call (cancel k) answer) acts plain run legal names at may =
      quiet-line o (call.Cancel k.sel (key_id k)) reply.«Ok» acts names legal
      (made-run (cancel_plan k) (λ _. reply.«Ok») (λ _. now) acts tt run) at
  ends o (table_call (unselect k) answer) acts plain run legal names at may =
      quiet-line o (call.Unselect k.sel (key_id k)) (yes_or_no answer) acts names legal
      (made-run (unselect_plan k) yes_or_no (λ _. now) acts answer run) at
  ends o (table_call (attach k att) answer) acts plain run legal names at may =
      quiet-line o (call.Attach k.sel (key_id k) att) (reply.Number answer) acts names legal
      (made-run (attach_plan k att) (λ before. reply.Number before) (λ _. now) acts answer run) at
  ends o (table_call (attachment k) answer) acts plain run legal names at may =
      quiet-line o (call.Attachment k.sel (key_id k)) (reply.Number answer) acts names legal
      (made-run (attachment_plan k) (λ att. reply.Number att) (λ _. now) acts answer run) at
  ends o (table_call (open_channel kind) answer) acts plain run legal names at may =
      quiet-line o (call.Channel kind) (channel_reply answer) acts names legal
      (made-run (open_channel_plan l kind) channel_reply (λ _. now) acts answer run) at
  ends o (table_call (reopen_channel c) answer) acts plain run legal names at may = absurd (cc plain)
  ends o (table_call (is_open c) answer) acts plain run legal names at may =
      quiet-line o (call.IsOpen c) (yes_or_no answer) acts names legal
      (made-run (is_open_plan c) yes_or_no (λ _. now) acts answer run) at
  ends o (table_call (is_blocking c) answer) acts plain run legal names at may =
      quiet-line o (call.IsBlocking c) (yes_or_no answer) acts names legal
      (made-run (is_blocking_plan c) yes_or_no (λ _. now) acts answer run) at
  ends o (table_call (is_registered c) answer) acts plain run legal names at may =
      quiet-line o (call.IsRegistered c) (yes_or_no answer) acts names legal
      (made-run (is_registered_plan l c) yes_or_no (λ _. now) acts answer run) at
  ends o (table_call (key_for c s) answer) acts plain run legal names at may =
      quiet-line o (call.KeyFor c s) (find_reply answer) acts names legal
      (made-run (key_for_plan c s) find_reply (λ _. now) acts answer run) at
  ends o (table_call (try_set_blocking c on) answer) acts plain run legal names at may =
      quiet-line o (call.Blocking c on) (mode_reply answer) acts names legal
      (made-run (try_set_blocking_plan l c on) mode_reply (λ _. now) acts answer run) at
  ends o (table_call (try_register s c ops att) answer) acts plain run legal names at may =
      quiet-line o (call.Register s c ops (Some att)) (register_reply answer) acts names legal
      (made-run (try_register_plan l s c ops att) register_reply (λ _. now) acts answer run) at
  ends o (table_call (close_channel c) answer) acts plain run legal names at may =
      quiet-line o (call.Closec c) (closed_reply answer) acts names legal
      (subst (λ (x : Progress). Completes (call_plan l now me (call.Closec c)) acts
      (record { reply = closed_reply answer; left = x }))
      (unsealed now me c no_pipes)
      (made-run (close_channel_plan l c) closed_reply (λ _. with_seal now (own_sink now.pipes me c))
      acts answer run)) at
  ends o (table_call open_selector answer) acts plain run legal names at may =
      quiet-line o call.Selector (selector_reply answer) acts names legal
      (made-run (open_selector_plan l) selector_reply (λ _. now) acts answer run) at
  ends o (table_call (take_list s) answer) acts plain run legal names at may =
      take_list-ends o s answer acts run legal at
  ends o (table_call (try_begin s mode None) answer) acts plain run legal names at may =
      begin-ends o s mode answer acts run legal names at
  ends o (table_call (try_begin s mode (Some known)) answer) acts plain run legal names at may = absurd (cc plain)
  ends o (table_call (told x poll) answer) acts plain run legal names at may =
      told-ends o x poll answer acts run legal names at may
  ends o (table_call (leave x) answer) acts plain run legal names at may = leave-ends o x acts run legal names at may
  ends o (table_call (shut s) answer) acts plain run legal names at may = shut-ends o s answer acts run legal names at
  ends o (table_call (try_finish s) answer) acts plain run legal names at may =
      finish-ends o s answer acts run legal names at may
  ends o (table_call (keys s) answer) acts plain run legal names at may = keys-ends o s answer acts run legal names at
  ends o (table_call (selected_keys s) answer) acts plain run legal names at may =
      selected-ends o s answer acts run legal names at
  ends o (table_call (wakeup s) answer) acts plain run legal names at may =
      quiet-line o (call.Wakeup s) reply.«Ok» acts names legal
      (made-run (wakeup_plan s) (λ _. reply.«Ok») (λ _. now) acts answer run) at
  ends o (table_call (interrupt n) answer) acts plain run legal names at may =
      quiet-line o (call.Interrupt n) reply.«Ok» acts (interrupt-below n acts run legal) legal
      (made-run (interrupt_plan n) (λ _. reply.«Ok») (λ _. now) acts tt run) at
  ends o (table_call interrupted answer) acts plain run legal names at may =
      quiet-line o call.Interrupted (yes_or_no answer) acts names legal
      (made-run interrupted_plan yes_or_no (λ _. now) acts answer run) at
  ends o (table_call pipe answer) acts plain run legal names at may = absurd (cc plain)
  ends o (table_call (try_read source) answer) acts plain run legal names at may = absurd (cc plain)
  ends o (table_call (try_write source sink) answer) acts plain run legal names at may = absurd (cc plain)
  ends o (waiting_call (set_blocking c on) answer) acts plain run legal names at may = absurd (cc plain)
  ends o (waiting_call (register s c ops att) answer) acts plain run legal names at may = absurd (cc plain)
  ends o (waiting_call (select s mode known polls) outcome) acts plain run legal names at may = absurd (cc plain)
  ends o (waiting_call (close s) answer) acts plain run legal names at may = absurd (cc plain)
  ends o (waiting_call (read source none) answer) acts plain run legal names at may = absurd (cc plain)
  ends o (waiting_call (write source sink none) answer) acts plain run legal names at may = absurd (cc plain)
