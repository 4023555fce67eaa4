-- A line of a script is whole calls of its caller, and leaves what other callers have in progress.
use Rattle.std.proofs.Common.{◌≡◌, ℕ, ◌==◌, nat_lt, Bool, true, false, ◌||◌, if◌then◌else◌, Option, Some, None, Result}
use Rattle.std.proofs.Common.{Ok, Err, List, [], ◌∷◌, ◌++◌, refl, ap, sym, ◌∙◌, subst, append_assoc, eqb-true, eq-eqb}
use Rattle.std.proofs.Common.{◌⊎◌, inl, inr}
use Rattle.std.specs.Prelude.{◌≢◌, is_some, is_ok}
use Rattle.std.proofs.lemmas.List.{append-nil}
use Rattle.nio_base.specs.declared.kind.Kind.TheVariants.{Source, Sink}
use Rattle.nio_base.specs.declared.limits.Limits.{Limits}
use Rattle.nio_base.specs.declared.numbers.CallerNo.{CallerNo}
use Rattle.nio_base.specs.declared.numbers.ChanId.{ChanId}
use Rattle.nio_base.specs.declared.numbers.KeyId.{KeyId}
use Rattle.nio_base.specs.declared.numbers.KeyNo.{KeyNo}
use Rattle.nio_base.specs.declared.numbers.SelNo.{SelNo}
use Rattle.nio_history.proofs.Put.{put_keeps}
use Rattle.nio_history.specs.OwnEvents.{has}
use Rattle.nio_history.specs.Questions.{Question, question_of, answer_of}
use Rattle.nio_history.specs.State.{State, put}
use Rattle.nio_history.specs.declared.act.Act.{Act}
use Rattle.nio_history.specs.declared.act.Act.TheVariants.{TakeTurn, ShutBit}
use Rattle.nio_history.specs.declared.found.Mode.{Mode}
use Rattle.nio_language.proofs.KeptNames.{kept_by_names}
use Rattle.nio_language.specs.WordRows.{word_row}
use Rattle.nio_language.specs.declared.call.Call.{Call}
use Rattle.nio_language.specs.declared.call.Call.TheVariants as call
use Rattle.nio_language.specs.declared.reply.Reply.{Reply}
use Rattle.nio_language.specs.declared.reply.Reply.TheVariants as reply
use Rattle.nio_language.specs.declared.word_row.LineName.{LineName}
use Rattle.nio_language.specs.declared.word_row.LineName.TheVariants.{Caller, Selector, Channel, Key}
use Rattle.nio_orderly.proofs.CallLists.{one_call_more}
use Rattle.nio_orderly.proofs.ListWords.{has-first, has-second}
use Rattle.nio_orderly.proofs.WaitedCalls.{after_calls-append}
use Rattle.nio_orderly.specs.Made.{Made, IsRun, after_call, after_calls, MayCome, table_call}
use Rattle.nio_plain.specs.Seq.Grouping.{group_reply, group_left}
use Rattle.nio_plain.specs.Seq.Pipes.{own_source, own_sink, pipe_at}
use Rattle.nio_plain.specs.Seq.Registering.{given_or_none}
use Rattle.nio_plain.specs.Seq.Replies.{yes_or_no}
use Rattle.nio_plain.specs.Seq.Selections.{mode_of, is_caller}
use Rattle.nio_serial.proofs.Progress.{put_selection, put_closing}
use Rattle.nio_serial.proofs.SequenceCalls.{again-same}
use Rattle.nio_serial.proofs.Showing.{ShowsAsBefore, Own, own-is}
use Rattle.nio_serial.proofs.Staying.{pipe-quiet}
use Rattle.nio_serial.specs.Between.{IsBetween}
use Rattle.nio_serial.specs.Documented.{Progress, Selecting}
use Rattle.nio_serial.specs.Left.{IsOngoing}
use Rattle.nio_serial.specs.Lines.{Said, makes, asks, refused, with_selection, with_closing, if_own, own_selection}
use Rattle.nio_serial.specs.Lines.{after_begin, after_told, after_shut, after_finish, begin_line, by_index, told_line}
use Rattle.nio_serial.specs.Lines.{failed_line, close_end_line, read_line, write_line, call_plan, if_caller, if_found}
use Rattle.nio_serial.specs.Lines.{if_selector, if_channel, if_key, if_named, line_plan}
use Rattle.nio_serial.specs.PipeLines.{with_seal, with_pipe, after_pipe, read_gives, write_gives}
use Rattle.nio_serial.specs.Lines.{if_name}
use Rattle.nio_serial.specs.Replies.{ends_reply, find_reply, set_reply, put_reply, channel_reply, mode_reply}
use Rattle.nio_serial.specs.Replies.{register_reply, closed_reply, selector_reply, begin_reply, told_reply, shut_reply}
use Rattle.nio_serial.specs.Replies.{finish_reply, list_reply}
use Rattle.nio_sole.specs.Made.{HasMade}
use Rattle.nio_sole.specs.MadeLaws.{LinesAreCalls}
use Rattle.nio_steps.proofs.Walks.{Always, always_weaker, always_bind, always_if, always_any, always_itself, always_run}
use Rattle.nio_steps.specs.ChannelCalls.{open_channel_plan, is_open_plan, is_blocking_plan, is_registered_plan}
use Rattle.nio_steps.specs.ChannelCalls.{key_for_plan, try_set_blocking_plan, try_register_plan, close_channel_plan}
use Rattle.nio_steps.specs.KeyCalls.{find_selector_plan, find_channel_plan, find_plan, is_valid_plan, interest_plan}
use Rattle.nio_steps.specs.KeyCalls.{set_interest_plan, interest_or_plan, interest_and_plan, ready_plan, cancel_plan}
use Rattle.nio_steps.specs.KeyCalls.{unselect_plan, attach_plan, attachment_plan}
use Rattle.nio_steps.specs.Names.{selector, key}
use Rattle.nio_steps.specs.Ongoing.{Ongoing, nothing_ongoing}
use Rattle.nio_steps.specs.PipeCalls.{PipeEnds, pipe_lacks_memory, pipe_plan, try_read_plan, try_write_plan, with_sink}
use Rattle.nio_steps.specs.PipeCalls.{with_source, without_sink}
use Rattle.nio_steps.specs.Plan.{Plan, ◌>>=◌}
use Rattle.nio_steps.specs.Runs.{Follows, Completes}
use Rattle.nio_steps.specs.SelectCalls.{Selection, open_selector_plan, try_begin_plan, begin_lacks_memory, begin_open}
use Rattle.nio_steps.specs.SelectCalls.{begin_with_turn, given_back, told_plan}
use Rattle.nio_steps.specs.Looking.{over_not_free, look_over}
use Rattle.nio_steps.specs.SelectCalls.{Poll, ToldReply, done, again, leave_plan, shut_plan, ShutReply}
use Rattle.nio_steps.specs.SelectCalls.{closing, already_closed, try_finish_plan, FinishReply, closed, busy, keys_plan}
use Rattle.nio_steps.specs.SelectCalls.{selected_keys_plan, list_lacks_memory, list_plan, list_open, list_key}
use Rattle.nio_steps.specs.SelectCalls.{list_selected, wakeup_plan, interrupt_plan, interrupted_plan}
use Rattle.nio_steps.specs.Steps.{flag_in, gate_in, holder_in, number_in}
use Rattle.nio_steps.specs.Sweeps.{sweep_to}
use Rattle.nio_steps.specs.TableCalls.{find_selector, find_channel, find, is_valid, interest, set_interest, interest_or}
use Rattle.nio_steps.specs.TableCalls.{interest_and, ready, cancel, unselect, attach, attachment, open_channel, is_open}
use Rattle.nio_steps.specs.TableCalls.{is_blocking, is_registered, key_for, try_set_blocking, try_register}
use Rattle.nio_steps.specs.TableCalls.{close_channel, open_selector, try_begin, told, leave, shut, try_finish, keys}
use Rattle.nio_steps.specs.TableCalls.{selected_keys, wakeup, interrupt, interrupted, pipe, try_read, try_write}
use Rattle.nio_steps.specs.declared.refusal.BeginError.{BeginError}
use Rattle.nio_steps.specs.declared.refusal.ChannelError.{ChannelError}
use Rattle.nio_steps.specs.declared.refusal.ListError.{ListError}
use Rattle.nio_steps.specs.declared.refusal.PipeMakeError.{PipeMakeError}

-- ---- what another caller has in progress

-- it took the turn of selector s, which was free
abbrev pub takes_turn : ℕ → Act → Bool
takes_turn s (TakeTurn s' None) = s'.0 == s
takes_turn s _ = false

-- it shut selector s, which wasn't shut
abbrev pub shuts : ℕ → Act → Bool
shuts s (ShutBit s' false) = s'.0 == s
shuts s _ = false

-- the turn of the selector was taken, and caller n has no selection there
pub record IsTakenFrom (n : CallerNo) (s : ℕ) (acts : List Act) (left : Progress) : Type 0 where
  pub taken : has (takes_turn s) acts ≡ true
  pub none : own_selection left n (selector s) ≡ None

-- the selector was shut, and caller n doesn't close it
pub record IsShutFrom (n : CallerNo) (s : ℕ) (acts : List Act) (left : Progress) : Type 0 where
  pub shut_so : has (shuts s) acts ≡ true
  pub none : is_caller n (left.closing s) ≡ false

-- what caller n has in progress is left as it was, unless the acts took the turn or shut the selector
pub record LeavesTo (n : CallerNo) (now : Progress) (acts : List Act) (left : Progress) : Type 0 where
  pub selection : (s : ℕ) → (own_selection left n (selector s) ≡ own_selection now n (selector s))
      ⊎ IsTakenFrom n s acts left
  pub closes : (s : ℕ) → (is_caller n (left.closing s) ≡ is_caller n (now.closing s)) ⊎ IsShutFrom n s acts left

leaves_same : (n : CallerNo) (now : Progress) (acts : List Act) → LeavesTo n now acts now
leaves_same n now acts = record { selection = λ s. inl refl; closes = λ s. inl refl }

leaves_then : (n : CallerNo) (now middle left : Progress) (xs ys : List Act) → LeavesTo n now xs middle
    → LeavesTo n middle ys left → LeavesTo n now (xs ++ ys) left
leaves_then n now middle left xs ys first second = record {
  selection = λ s. selects s (first.selection s) (second.selection s);
  closes = λ s. closings s (first.closes s) (second.closes s);
}
  where
    selects : (s : ℕ) → (own_selection middle n (selector s) ≡ own_selection now n (selector s))
        ⊎ IsTakenFrom n s xs middle
        → (own_selection left n (selector s) ≡ own_selection middle n (selector s)) ⊎ IsTakenFrom n s ys left
        → (own_selection left n (selector s) ≡ own_selection now n (selector s)) ⊎ IsTakenFrom n s (xs ++ ys) left
    selects s (inl same) (inl same') = inl (same' ∙ same)
    selects s (inr from) (inl same') =
        inr (record { taken = has-first (takes_turn s) xs ys from.taken; none = same' ∙ from.none })
    selects s _ (inr from) = inr (record { taken = has-second (takes_turn s) xs ys from.taken; none = from.none })

    closings : (s : ℕ) → (is_caller n (middle.closing s) ≡ is_caller n (now.closing s)) ⊎ IsShutFrom n s xs middle
        → (is_caller n (left.closing s) ≡ is_caller n (middle.closing s)) ⊎ IsShutFrom n s ys left
        → (is_caller n (left.closing s) ≡ is_caller n (now.closing s)) ⊎ IsShutFrom n s (xs ++ ys) left
    closings s (inl same) (inl same') = inl (same' ∙ same)
    closings s (inr from) (inl same') =
        inr (record { shut_so = has-first (shuts s) xs ys from.shut_so; none = same' ∙ from.none })
    closings s _ (inr from) = inr (record { shut_so = has-second (shuts s) xs ys from.shut_so; none = from.none })

-- ---- what stands beside the table

ongoing_beside : (n : CallerNo) (now left : Progress) (ongoing : Ongoing) → ShowsAsBefore now left
    → IsOngoing n now ongoing → IsOngoing n left ongoing
ongoing_beside n now left ongoing beside at = record {
  selection = λ s. at.selection s ∙ ap (λ (f : ℕ → Option Selecting). if_own n (f s)) (sym beside.selection);
  closes = λ s. at.closes s ∙ ap (λ (f : ℕ → Option CallerNo). is_caller n (f s)) (sym beside.closing);
}

pub made_beside : (l : Limits) (own : List Act) (n : CallerNo) (now left : Progress) → ShowsAsBefore now left
    → HasMade l own n now → HasMade l own n left
made_beside l own n now left beside made = record {
  calls = made.calls;
  are = made.are;
  ongoing = ongoing_beside n now left (after_calls nothing_ongoing made.calls) beside made.ongoing;
}

leaves_beside : (n : CallerNo) (now left : Progress) (acts : List Act) → ShowsAsBefore now left
    → LeavesTo n now acts left
leaves_beside n now left acts beside = record {
  selection = λ s. inl (ap (λ (f : ℕ → Option Selecting). if_own n (f s)) beside.selection);
  closes = λ s. inl (ap (λ (f : ℕ → Option CallerNo). is_caller n (f s)) beside.closing);
}

-- ---- one call more

pub made_more : (l : Limits) (own acts : List Act) (n : CallerNo) (now left : Progress) (call : Made)
    (made : HasMade l own n now)
    → IsRun l call acts → MayCome (after_calls nothing_ongoing made.calls) call
    → IsOngoing n left (after_call (after_calls nothing_ongoing made.calls) call)
    → HasMade l (own ++ acts) n left
made_more l own acts n now left call made run may after = record {
  calls = made.calls ++ call ∷ [];
  are = one_call_more l own acts made.calls call made.are may run;
  ongoing = subst (IsOngoing n left) (sym (after_calls-append nothing_ongoing made.calls (call ∷ []))) after;
}

-- ---- lines

-- the caller did this along a line, and this is in progress after it
record Line (l : Limits) (me : CallerNo) (now : Progress) (own acts : List Act) (left : Progress) : Type 0 where
  made : HasMade l (own ++ acts) me left
  others : (n : CallerNo) → n ≢ me → LeavesTo n now acts left

-- each run of the plan is so
pub record Leads (l : Limits) (me : CallerNo) (now : Progress) (plan : Plan Said) : Type 0 where
  always : (own : List Act) → HasMade l own me now → Always (λ acts said. Line l me now own acts said.left) plan

-- a run of the call may come next, and leaves this
record Comes (l : Limits) (me : CallerNo) (now : Progress) (ongoing : Ongoing) (call : Made) (acts : List Act)
    (left : Progress) : Type 0 where
  run : IsRun l call acts
  may : MayCome ongoing call
  after : IsOngoing me left (after_call ongoing call)
  others : (n : CallerNo) → n ≢ me → LeavesTo n now acts left

module _ (l : Limits) (me : CallerNo) (now : Progress) where
  pub leads_refused : (r : Reply) → Leads l me now (refused now r)
  leads_refused r = record {
    always = λ own made. record {
      made = subst (λ acts. HasMade l acts me now) (sym (append-nil own)) made;
      others = λ n _. leaves_same n now [];
    };
  }

  pub leads_if : (b : Bool) (x y : Plan Said) → (b ≡ true → Leads l me now x) → (b ≡ false → Leads l me now y)
      → Leads l me now (if b then x else y)
  leads_if true x y this that = this refl
  leads_if false x y this that = that refl

  -- a call, and then how the line goes on with its answer
  leads_call : {R : Type 0} (plan : Plan R) (call : R → Made) (left : R → Progress) (f : R → Plan Said)
      → ((ongoing : Ongoing) (acts : List Act) (a : R) → Completes plan acts a → IsOngoing me now ongoing
      → Comes l me now ongoing (call a) acts (left a))
      → ((a : R) → Leads l me (left a) (f a)) → Leads l me now (plan >>= f)
  leads_call plan call left f comes later = record {
    always = λ own made.
        always_bind (λ acts a. Line l me now own acts (left a)) (λ acts said. Line l me now own acts said.left) plan f
        (always_weaker (Completes plan) (λ acts a. Line l me now own acts (left a)) plan
        (λ acts a run.
        let here = comes (after_calls nothing_ongoing made.calls) acts a run made.ongoing in
        record {
          made = made_more l own acts me now (left a) (call a) made here.run here.may here.after;
          others = here.others;
        })
        (always_itself plan))
        (λ xs a line. always_weaker (λ ys said. Line l me (left a) (own ++ xs) ys said.left)
        (λ ys said. Line l me now own (xs ++ ys) said.left) (f a)
        (λ ys said line'. record {
          made = subst (λ acts. HasMade l acts me said.left) (append_assoc own xs ys) line'.made;
          others = λ n other. leaves_then n now (left a) said.left xs ys (line.others n other) (line'.others n other);
        })
        ((later a).always (own ++ xs) line.made));
  }

  -- a call that may always come, and leaves what is in progress
  quiet : (ongoing : Ongoing) (call : Made) (acts : List Act) → IsRun l call acts → MayCome ongoing call
      → IsOngoing me now (after_call ongoing call) → Comes l me now ongoing call acts now
  quiet ongoing call acts run may after =
      record { run = run; may = may; after = after; others = λ n _. leaves_same n now acts }

-- the line's answer
leads_answer : (l : Limits) (me : CallerNo) (left : Progress) (r : Reply)
    → Leads l me left (Plan.reply (record { reply = r; left = left }))
leads_answer l me left r = leads_refused l me left r

-- ---- other callers

other_number : (me n : CallerNo) → n ≢ me → (k : ℕ) → (k == me.0) ≡ true → (k == n.0) ≡ false
other_number me n other k is = by_test (k == n.0) refl
  where
    by_test : (b : Bool) → (k == n.0) ≡ b → b ≡ false
    by_test true same =
        absurd (other (ap (λ (j : ℕ). record { 0 = j }) (sym (eqb-true k n.0 same) ∙ eqb-true k me.0 is)))
    by_test false same = refl

-- a selection of this caller, whether it goes on or not, is none of another
none_of_other : (me n : CallerNo) → n ≢ me → (x : Selecting) → (x.caller.0 == me.0) ≡ true → if_own n (Some x) ≡ None
none_of_other me n other x is = ap (λ b. if b then Some x.selection else None) (other_number me n other x.caller.0 is)

-- who begins a selection takes the turn, and the others have none there
leaves_begun : (me n : CallerNo) (now : Progress) (s : SelNo) (x : Selection) (acts : List Act) → n ≢ me
    → has (takes_turn s.0) acts ≡ true
    → LeavesTo n now acts (with_selection now s (Some (record { caller = me; selection = x })))
leaves_begun me n now s x acts other taken = record { selection = at; closes = λ t. inl refl }
  where
    y : Option Selecting
    y = Some (record { caller = me; selection = x })

    left : Progress
    left = with_selection now s y

    by_test : (t : ℕ) (b : Bool) → (t == s.0) ≡ b
        → (if_own n (if b then y else now.selection t) ≡ if_own n (now.selection t)) ⊎ IsTakenFrom n t acts left
    by_test t true is =
        let same : t ≡ s.0 = eqb-true t s.0 is in
        inr (record {
          taken = ap (λ (k : ℕ). has (takes_turn k) acts) same ∙ taken;
          none = ap (λ b. if_own n (if b then y else now.selection t)) is
              ∙ none_of_other me n other (record { caller = me; selection = x }) (eq-eqb me.0 me.0 refl);
        })
    by_test t false is = inl refl

    at : (t : ℕ) → (own_selection left n (selector t) ≡ own_selection now n (selector t)) ⊎ IsTakenFrom n t acts left
    at t = by_equal (t == s.0) refl
      where
        by_equal : (b : Bool) → (t == s.0) ≡ b
            → (if_own n (if (t == s.0) then y else now.selection t) ≡ if_own n (now.selection t))
            ⊎ IsTakenFrom n t acts left
        by_equal b is =
            subst (λ (c : Bool). (if_own n (if c then y else now.selection t) ≡ if_own n (now.selection t))
            ⊎ IsTakenFrom n t acts left) (sym is) (by_test t b is)

-- the end of a selection of this caller leaves those of the others
leaves_ended : (me n : CallerNo) (now : Progress) (s : SelNo) (x : Selecting) (acts : List Act) → n ≢ me
    → now.selection s.0 ≡ Some x → (x.caller.0 == me.0) ≡ true
    → LeavesTo n now acts (with_selection now s None)
leaves_ended me n now s x acts other was by = record {
  selection = λ t. inl
      (put_keeps (λ k y. if_own n y ≡ if_own n (now.selection k)) now.selection s.0 None
      (λ _. sym (ap (if_own n) was ∙ none_of_other me n other x by)) t refl);
  closes = λ t. inl refl;
}

-- who shuts a selector
leaves_shut : (me n : CallerNo) (now : Progress) (s : SelNo) (acts : List Act) → n ≢ me → has (shuts s.0) acts ≡ true
    → LeavesTo n now acts (with_closing now s (Some me))
leaves_shut me n now s acts other shut_so =
    record { selection = λ t. inl refl; closes = λ t. by_equal t (t == s.0) refl }
  where
    left : Progress
    left = with_closing now s (Some me)

    by_test : (t : ℕ) (b : Bool) → (t == s.0) ≡ b
        → (is_caller n (if b then Some me else now.closing t) ≡ is_caller n (now.closing t)) ⊎ IsShutFrom n t acts left
    by_test t true is =
        let same : t ≡ s.0 = eqb-true t s.0 is in
        inr (record {
          shut_so = ap (λ (k : ℕ). has (shuts k) acts) same ∙ shut_so;
          none = ap (λ b. is_caller n (if b then Some me else now.closing t)) is
              ∙ other_number me n other me.0 (eq-eqb me.0 me.0 refl);
        })
    by_test t false is = inl refl

    by_equal : (t : ℕ) (b : Bool) → (t == s.0) ≡ b
        → (is_caller n (if (t == s.0) then Some me else now.closing t) ≡ is_caller n (now.closing t))
        ⊎ IsShutFrom n t acts left
    by_equal t b is =
        subst (λ (c : Bool). (is_caller n (if c then Some me else now.closing t) ≡ is_caller n (now.closing t))
        ⊎ IsShutFrom n t acts left) (sym is) (by_test t b is)

none_closing : (me n : CallerNo) → n ≢ me → (o : Option CallerNo) → is_caller me o ≡ true → is_caller n o ≡ false
none_closing me n other None is = refl
none_closing me n other (Some m) is = other_number me n other m.0 is

-- the end of its closing
leaves_closed : (me n : CallerNo) (now : Progress) (s : SelNo) (acts : List Act) → n ≢ me
    → is_caller me (now.closing s.0) ≡ true → LeavesTo n now acts (with_closing now s None)
leaves_closed me n now s acts other by = record {
  selection = λ t. inl refl;
  closes = λ t. inl
      (put_keeps (λ k y. is_caller n y ≡ is_caller n (now.closing k)) now.closing s.0 None
      (λ _. sym (none_closing me n other (now.closing s.0) by)) t refl);
}

-- ---- beginning a selection

abbrev anything : {R : Type 0} → List Act → R → Type 0
anything acts r = Unit {0}

-- a `try_begin` that has memory doesn't answer that it lacks it
begin_has_memory : (s : SelNo) (mode : Mode)
    → Always (λ _ r. begin_lacks_memory r ≡ false) (try_begin_plan s mode None false)
unfolding try_begin_plan
begin_has_memory s mode =
    λ gate asks. always_if (λ _ r. begin_lacks_memory r ≡ false) (gate_in (answer_of gate)).shut
    (Plan.reply (Err BeginError.ClosedSelector)) _ (λ _. refl)
    (λ _ take asks'. always_if (λ _ r. begin_lacks_memory r ≡ false) (is_some (holder_in (answer_of take)))
    (Plan.reply (Err BeginError.Busy)) (begin_with_turn s mode None false) (λ _. refl)
    (λ _ look asks''. always_if (λ _ r. begin_lacks_memory r ≡ false) (gate_in (answer_of look)).shut
    (given_back s (Err BeginError.ClosedSelector)) _ (λ _ give _. refl)
    (λ _ looked asks'''. let bound = number_in (answer_of looked) in
    always_bind anything (λ _ r. begin_lacks_memory r ≡ false) (over_not_free s bound (look_over s) []) _
    (always_any (over_not_free s bound (look_over s) [])) (λ _ _ _. refl))))

-- a `try_begin` that answers Ok found the turn free
begin_takes : (s : SelNo) (mode : Mode) (lacks : Bool)
    → Always (λ acts r. is_ok r ≡ true → has (takes_turn s.0) acts ≡ true) (try_begin_plan s mode None lacks)
unfolding try_begin_plan
begin_takes s mode lacks =
    λ gate asks. always_if (λ acts r. is_ok r ≡ true → has (takes_turn s.0) (gate ∷ acts) ≡ true)
    (gate_in (answer_of gate)).shut (Plan.reply (Err BeginError.ClosedSelector)) _ (λ _ ok. absurd (cc ok))
    (λ _ take asks'. by_take gate take asks')
  where
    by_take : (gate take : Act) → question_of take ≡ Question.take_turn s
        → Always (λ acts r. is_ok r ≡ true → has (takes_turn s.0) (gate ∷ take ∷ acts) ≡ true)
        (if is_some (holder_in (answer_of take)) then Plan.reply (Err BeginError.Busy)
        else begin_with_turn s mode None lacks)
    by_take gate (TakeTurn s' (Some n)) asks = λ ok. absurd (cc ok)
    by_take gate (TakeTurn s' None) asks =
        let same : s'.0 ≡ s.0 = ap (λ (x : SelNo). x.0) (cc asks) in
        always_weaker anything (λ acts r. is_ok r ≡ true → has (takes_turn s.0) (gate ∷ TakeTurn s' None ∷ acts) ≡ true)
        (begin_with_turn s mode None lacks)
        (λ acts r _ _. has-second (takes_turn s.0) (gate ∷ []) (TakeTurn s' None ∷ acts)
        (ap (λ b. b || has (takes_turn s.0) acts) (eq-eqb s'.0 s.0 same)))
        (always_any (begin_with_turn s mode None lacks))
    by_take gate _ asks = absurd (cc asks)

-- ---- shutting

-- a `shut` that answers Closing found the selector not shut
shut_shuts : (s : SelNo) → Always (λ acts r. r ≡ closing → has (shuts s.0) acts ≡ true) (shut_plan s)
unfolding shut_plan
shut_shuts s = λ act asks. by_act act asks
  where
    by_act : (act : Act) → question_of act ≡ Question.shut_bit s
        → Always (λ acts r. r ≡ closing → has (shuts s.0) (act ∷ acts) ≡ true)
        (Plan.reply (if flag_in (answer_of act) then already_closed else closing))
    by_act (ShutBit s' true) asks = λ is. absurd (cc is)
    by_act (ShutBit s' false) asks = λ _. let same : s'.0 ≡ s.0 =
        ap (λ (x : SelNo). x.0) (cc asks) in ap (λ b. b || false) (eq-eqb s'.0 s.0 same)
    by_act _ asks = absurd (cc asks)

-- ---- listing

-- a listing that has memory doesn't answer that it lacks it
list_has_memory : (list_one : SelNo → ℕ → List KeyNo → Plan (List KeyNo)) (s : SelNo)
    → Always (λ _ r. list_lacks_memory r ≡ false) (list_plan list_one s false)
list_has_memory list_one s =
    λ gate asks. always_if (λ _ r. list_lacks_memory r ≡ false) (gate_in (answer_of gate)).shut
    (Plan.reply (Err ListError.ClosedSelector)) (list_open list_one s false) (λ _. refl)
    (λ _ looked asks'. let bound = number_in (answer_of looked) in
    always_bind anything (λ _ r. list_lacks_memory r ≡ false) (sweep_to bound 0 (list_one s) []) _ (always_any _)
    (λ _ _ _. refl))

-- ---- making a pipe

abbrev has_memory : {R : Type 0} → List Act → Result R PipeMakeError → Type 0
has_memory acts answer = pipe_lacks_memory answer ≡ false

without_sink_memory : (l : Limits) (source : ChanId) → Always has_memory (without_sink l source)
without_sink_memory l source =
    always_bind anything has_memory (close_channel_plan l source) _ (always_any (close_channel_plan l source))
    (λ _ _ _. refl)

sink_memory : (l : Limits) (source : ChanId) (answer : Result ChanId ChannelError)
    → Always has_memory (with_sink l source answer)
sink_memory l source (Ok sink) = refl
sink_memory l source (Err ChannelError.ChannelsSpent) = without_sink_memory l source
sink_memory l source (Err ChannelError.IllegalOps) = without_sink_memory l source
sink_memory l source (Err ChannelError.ClosedChannel) = without_sink_memory l source
sink_memory l source (Err ChannelError.Busy) = without_sink_memory l source
sink_memory l source (Err ChannelError.IllegalBlockingMode) = without_sink_memory l source
sink_memory l source (Err ChannelError.CancelledKey) = without_sink_memory l source
sink_memory l source (Err ChannelError.ClosedSelector) = without_sink_memory l source
sink_memory l source (Err ChannelError.Full) = without_sink_memory l source

source_memory : (l : Limits) (answer : Result ChanId ChannelError) → Always has_memory (with_source l answer)
source_memory l (Ok source) =
    always_bind anything has_memory (open_channel_plan l Sink) (with_sink l source)
    (always_any (open_channel_plan l Sink)) (λ _ answer _. sink_memory l source answer)
source_memory l (Err ChannelError.ChannelsSpent) = refl
source_memory l (Err ChannelError.IllegalOps) = refl
source_memory l (Err ChannelError.ClosedChannel) = refl
source_memory l (Err ChannelError.Busy) = refl
source_memory l (Err ChannelError.IllegalBlockingMode) = refl
source_memory l (Err ChannelError.CancelledKey) = refl
source_memory l (Err ChannelError.ClosedSelector) = refl
source_memory l (Err ChannelError.Full) = refl

-- the making of a pipe that has memory doesn't answer that it lacks it
pipe_has_memory : (l : Limits) → Always has_memory (pipe_plan l false)
unfolding pipe_plan
pipe_has_memory l =
    always_bind anything has_memory (open_channel_plan l Source) (with_source l)
    (always_any (open_channel_plan l Source)) (λ _ answer _. source_memory l answer)

-- ---- want of memory

-- a branch of a plan that was taken
taken-follows : {R : Type 0} (b : Bool) (x y : Plan R) (acts : List Act) (rest : Plan R) → b ≡ true
    → Follows x acts rest → Follows (if b then x else y) acts rest
taken-follows b x y acts rest is here = subst (λ c. Follows (if c then x else y) acts rest) (sym is) here

else-follows : {R : Type 0} (b : Bool) (x y : Plan R) (acts : List Act) (rest : Plan R) → b ≡ false
    → Follows y acts rest → Follows (if b then x else y) acts rest
else-follows b x y acts rest is here = subst (λ c. Follows (if c then x else y) acts rest) (sym is) here

-- a `try_begin` without memory is the call with its answer, and begins nothing
begin_without_memory : (s : SelNo) (mode : Mode)
    → Always (λ acts r. Completes (try_begin_plan s mode None (begin_lacks_memory r)) acts r × (is_ok r ≡ false))
    (try_begin_plan s mode None true)
unfolding try_begin_plan
begin_without_memory s mode = λ gate asks_gate.
    always_if (λ acts r. Completes (try_begin_plan s mode None (begin_lacks_memory r)) (gate ∷ acts) r × (is_ok r ≡ false))
    (gate_in (answer_of gate)).shut (Plan.reply (Err BeginError.ClosedSelector)) (begin_open s mode None true)
    (λ is. ((asks_gate, taken-follows (gate_in (answer_of gate)).shut _ _ [] _ is refl), refl))
    (λ opens take asks_take.
    always_if (λ acts r. Completes (try_begin_plan s mode None (begin_lacks_memory r)) (gate ∷ take ∷ acts) r
    × (is_ok r ≡ false))
    (is_some (holder_in (answer_of take))) (Plan.reply (Err BeginError.Busy)) (begin_with_turn s mode None true)
    (λ is. (
      (
        asks_gate,
        else-follows (gate_in (answer_of gate)).shut _ _ (take ∷ []) _ opens
            (asks_take, taken-follows (is_some (holder_in (answer_of take))) _ _ [] _ is refl),
      ),
      refl,
    ))
    (λ takes look asks_look.
    always_if (λ acts r. Completes (try_begin_plan s mode None (begin_lacks_memory r)) (gate ∷ take ∷ look ∷ acts) r
    × (is_ok r ≡ false))
    (gate_in (answer_of look)).shut (given_back s (Err BeginError.ClosedSelector)) _
    (λ is give asks_give. (
      (
        asks_gate,
        else-follows (gate_in (answer_of gate)).shut _ _ (take ∷ look ∷ give ∷ []) _ opens (
          asks_take,
          else-follows (is_some (holder_in (answer_of take))) _ _ (look ∷ give ∷ []) _ takes
              (asks_look, taken-follows (gate_in (answer_of look)).shut _ _ (give ∷ []) _ is (asks_give, refl)),
        ),
      ),
      refl,
    ))
    (λ still looked asks_keys give asks_give. (
      (
        asks_gate,
        else-follows (gate_in (answer_of gate)).shut _ _ (take ∷ look ∷ looked ∷ give ∷ []) _ opens (
          asks_take,
          else-follows (is_some (holder_in (answer_of take))) _ _ (look ∷ looked ∷ give ∷ []) _ takes (
            asks_look,
            else-follows (gate_in (answer_of look)).shut _ _ (looked ∷ give ∷ []) _ still
                (asks_keys, (asks_give, refl)),
          ),
        ),
      ),
      refl,
    ))))

-- a listing without memory is the call with its answer
list_without_memory : (list_one : SelNo → ℕ → List KeyNo → Plan (List KeyNo)) (s : SelNo)
    → Always (λ acts r. Completes (list_plan list_one s (list_lacks_memory r)) acts r) (list_plan list_one s true)
list_without_memory list_one s = λ gate asks_gate.
    always_if (λ acts r. Completes (list_plan list_one s (list_lacks_memory r)) (gate ∷ acts) r)
    (gate_in (answer_of gate)).shut (Plan.reply (Err ListError.ClosedSelector)) (list_open list_one s true)
    (λ is. (asks_gate, taken-follows (gate_in (answer_of gate)).shut _ _ [] _ is refl))
    (λ opens looked asks_keys.
    (asks_gate, else-follows (gate_in (answer_of gate)).shut _ _ (looked ∷ []) _ opens (asks_keys, refl)))

-- ---- each call

-- the selections in progress are on their selectors
abbrev pub AreOn : Progress → Type 0
AreOn now = (s : ℕ) (x : Selecting) → now.selection s ≡ Some x → x.selection.selector.0 ≡ s

module _ (l : Limits) (me : CallerNo) (now : Progress) where
  -- a call that leaves what is in progress
  leads_ask : {R : Type 0} (plan : Plan R) (call : R → Made) (said : R → Reply)
      → ((ongoing : Ongoing) (acts : List Act) (a : R) → Completes plan acts a → IsOngoing me now ongoing
      → Comes l me now ongoing (call a) acts now) → Leads l me now (asks now plan said)
  leads_ask plan call said comes =
      leads_call l me now plan call (λ _. now) _ comes (λ a. leads_answer l me now (said a))

  leads_begin : (s : SelNo) (mode : Option Mode) → Leads l me now (begin_line now me s mode)
  leads_begin s None = leads_refused l me now _
  leads_begin s (Some mode) =
      leads_call l me now (try_begin_plan s mode None false) (λ a. table_call (try_begin s mode None) a) (after_begin now me s) _
      comes
      (λ a. leads_answer l me (after_begin now me s a) (begin_reply a))
    where
      comes : (ongoing : Ongoing) (acts : List Act) (a : Result Selection BeginError)
          → Completes (try_begin_plan s mode None false) acts a → IsOngoing me now ongoing
          → Comes l me now ongoing (table_call (try_begin s mode None) a) acts (after_begin now me s a)
      comes ongoing acts (Ok x) run at = record {
        run = run;
        may = tt;
        after = let its = put_selection me now ongoing s.0 (Some x) (Some (record { caller = me; selection = x }))
            (ap (λ b. if b then Some x else None) (sym (eq-eqb me.0 me.0 refl))) at in
            record { selection = its.selection; closes = its.closes };
        others = λ n other. leaves_begun me n now s x acts other
            (always_run (λ acts' r. is_ok r ≡ true → has (takes_turn s.0) acts' ≡ true)
            (try_begin_plan s mode None false) acts (Ok x) (begin_takes s mode false) run refl);
      }
      comes ongoing acts (Err refusal) run at =
          quiet l me now ongoing (table_call (try_begin s mode None) (Err refusal)) acts
          (subst (λ b. Completes (try_begin_plan s mode None b) acts (Err refusal))
          (sym (always_run (λ _ r. begin_lacks_memory r ≡ false) (try_begin_plan s mode None false) acts (Err refusal)
          (begin_has_memory s mode) run)) run) tt at

  leads_told : (s : SelNo) (elapsed : Bool) (pairs : List (KeyId × ℕ)) (o : Option Selection) → AreOn now
      → own_selection now me s ≡ o → Leads l me now (told_line now s elapsed pairs o)
  leads_told s elapsed pairs None on own = leads_refused l me now _
  leads_told s elapsed pairs (Some x) on own =
      leads_call l me now (told_plan x (by_index x pairs) elapsed) (λ a. table_call (told x poll) a) (after_told now s)
      _ comes
      (λ a. leads_answer l me (after_told now s a) (told_reply a))
    where
      poll : Poll
      poll = record { pairs = by_index x pairs; elapsed = elapsed }

      its : Own me (now.selection s.0) x
      its = own-is me (now.selection s.0) x own

      on_it : x.selector.0 ≡ s.0
      on_it = ap (λ (y : Selection). y.selector.0) (sym its.same) ∙ on s.0 its.its its.is

      may_come : (ongoing : Ongoing) → IsOngoing me now ongoing → ongoing.selection x.selector.0 ≡ Some x
      may_come ongoing at = ap ongoing.selection on_it ∙ (at.selection s.0 ∙ own)

      comes : (ongoing : Ongoing) (acts : List Act) (a : ToldReply)
          → Completes (told_plan x (by_index x pairs) elapsed) acts a → IsOngoing me now ongoing
          → Comes l me now ongoing (table_call (told x poll) a) acts (after_told now s a)
      comes ongoing acts (done answer) run at = record {
        run = run;
        may = may_come ongoing at;
        after = subst
            (λ (k : ℕ). IsOngoing me (with_selection now s None)
            (record ongoing { selection = put ongoing.selection k None })) (sym on_it)
            (put_selection me now ongoing s.0 None None refl at);
        others = λ n other. leaves_ended me n now s its.its acts other its.is its.by;
      }
      comes ongoing acts (again next) run at =
          quiet l me now ongoing (table_call (told x poll) (again next)) acts run (may_come ongoing at)
          (record {
            selection =
                λ t. put_keeps (λ k y. y ≡ if_own me (now.selection k)) ongoing.selection x.selector.0 (Some next)
                (λ here. ap Some (again-same x next (by_index x pairs) elapsed acts run)
                ∙ (sym (may_come ongoing at) ∙ here)) t (at.selection t);
            closes = at.closes;
          })

  leads_failed : (s : SelNo) (o : Option Selection) → AreOn now → own_selection now me s ≡ o
      → Leads l me now (failed_line now s o)
  leads_failed s None on own = leads_refused l me now _
  leads_failed s (Some x) on own =
      leads_call l me now (leave_plan x) (λ _. table_call (leave x) tt) (λ _. with_selection now s None) _
      (λ ongoing acts a run at. record {
        run = run;
        may = ap ongoing.selection on_it ∙ (at.selection s.0 ∙ own);
        after = subst
            (λ (k : ℕ). IsOngoing me (with_selection now s None)
            (record ongoing { selection = put ongoing.selection k None })) (sym on_it)
            (put_selection me now ongoing s.0 None None refl at);
        others = λ n other. leaves_ended me n now s its.its acts other its.is its.by;
      })
      (λ a. leads_answer l me (with_selection now s None) reply.Left)
    where
      its : Own me (now.selection s.0) x
      its = own-is me (now.selection s.0) x own

      on_it : x.selector.0 ≡ s.0
      on_it = ap (λ (y : Selection). y.selector.0) (sym its.same) ∙ on s.0 its.its its.is

  leads_close : (s : SelNo) → Leads l me now (makes (shut_plan s) shut_reply (after_shut now me s))
  leads_close s =
      leads_call l me now (shut_plan s) (λ a. table_call (shut s) a) (after_shut now me s) _ comes
      (λ a. leads_answer l me (after_shut now me s a) (shut_reply a))
    where
      comes : (ongoing : Ongoing) (acts : List Act) (a : ShutReply) → Completes (shut_plan s) acts a
          → IsOngoing me now ongoing → Comes l me now ongoing (table_call (shut s) a) acts (after_shut now me s a)
      comes ongoing acts closing run at = record {
        run = run;
        may = tt;
        after = put_closing me now ongoing s.0 true (Some me) (sym (eq-eqb me.0 me.0 refl)) at;
        others = λ n other. leaves_shut me n now s acts other
            (always_run (λ acts' r. r ≡ closing → has (shuts s.0) acts' ≡ true) (shut_plan s) acts closing
            (shut_shuts s) run refl);
      }
      comes ongoing acts already_closed run at =
          quiet l me now ongoing (table_call (shut s) already_closed) acts run tt at

  leads_close_end : (s : SelNo) → Leads l me now (close_end_line now me s)
  leads_close_end s = leads_if l me now (is_caller me (now.closing s.0)) _ _ finishes (λ _. leads_refused l me now _)
    where
      finishes : is_caller me (now.closing s.0) ≡ true
          → Leads l me now (makes (try_finish_plan s) finish_reply (after_finish now s))
      finishes by =
          leads_call l me now (try_finish_plan s) (λ a. table_call (try_finish s) a) (after_finish now s) _ comes
          (λ a. leads_answer l me (after_finish now s a) (finish_reply a))
        where
          comes : (ongoing : Ongoing) (acts : List Act) (a : FinishReply) → Completes (try_finish_plan s) acts a
              → IsOngoing me now ongoing
              → Comes l me now ongoing (table_call (try_finish s) a) acts (after_finish now s a)
          comes ongoing acts closed run at = record {
            run = run;
            may = at.closes s.0 ∙ by;
            after = put_closing me now ongoing s.0 false None refl at;
            others = λ n other. leaves_closed me n now s acts other by;
          }
          comes ongoing acts busy run at =
              quiet l me now ongoing (table_call (try_finish s) busy) acts run (at.closes s.0 ∙ by) at

  -- want of memory

  pub leads_begin_memory : (s : SelNo) (mode : Mode) (said : Result Selection BeginError → Reply)
      → Leads l me now (asks now (try_begin_plan s mode None true) said)
  leads_begin_memory s mode said =
      leads_ask (try_begin_plan s mode None true) (λ a. table_call (try_begin s mode None) a) said comes
    where
      comes : (ongoing : Ongoing) (acts : List Act) (a : Result Selection BeginError)
          → Completes (try_begin_plan s mode None true) acts a → IsOngoing me now ongoing
          → Comes l me now ongoing (table_call (try_begin s mode None) a) acts now
      comes ongoing acts a run at =
          by_answer a
          (always_run (λ acts' r. Completes (try_begin_plan s mode None (begin_lacks_memory r)) acts' r
          × (is_ok r ≡ false)) (try_begin_plan s mode None true) acts a (begin_without_memory s mode) run)
        where
          by_answer : (r : Result Selection BeginError)
              → Completes (try_begin_plan s mode None (begin_lacks_memory r)) acts r × (is_ok r ≡ false)
              → Comes l me now ongoing (table_call (try_begin s mode None) r) acts now
          by_answer (Ok x) without = absurd (cc without.1)
          by_answer (Err refusal) without =
              quiet l me now ongoing (table_call (try_begin s mode None) (Err refusal)) acts without.0 tt at

  pub leads_keys_memory : (s : SelNo) (said : Result (List KeyNo) ListError → Reply)
      → Leads l me now (asks now (keys_plan s true) said)
  unfolding keys_plan
  leads_keys_memory s said =
      leads_ask (keys_plan s true) (λ a. table_call (keys s) a) said
      (λ ongoing acts a run at. quiet l me now ongoing (table_call (keys s) a) acts
      (always_run (λ acts' r. Completes (list_plan list_key s (list_lacks_memory r)) acts' r)
      (list_plan list_key s true) acts a (list_without_memory list_key s) run) tt at)

  pub leads_selected_memory : (s : SelNo) (said : Result (List KeyNo) ListError → Reply)
      → Leads l me now (asks now (selected_keys_plan s true) said)
  unfolding selected_keys_plan
  leads_selected_memory s said =
      leads_ask (selected_keys_plan s true) (λ a. table_call (selected_keys s) a) said
      (λ ongoing acts a run at.
      quiet l me now ongoing (table_call (selected_keys s) a) acts
      (always_run (λ acts' r. Completes (list_plan list_selected s (list_lacks_memory r)) acts' r)
      (list_plan list_selected s true) acts a (list_without_memory list_selected s) run) tt at)

  leads_keys : (s : SelNo) → Leads l me now (asks now (keys_plan s false) list_reply)
  unfolding keys_plan
  leads_keys s =
      leads_ask (keys_plan s false) (λ a. table_call (keys s) a) list_reply
      (λ ongoing acts a run at.
      quiet l me now ongoing (table_call (keys s) a) acts
      (subst (λ b. Completes (list_plan list_key s b) acts a)
      (sym (always_run (λ _ r. list_lacks_memory r ≡ false) (list_plan list_key s false) acts a
      (list_has_memory list_key s) run)) run) tt at)

  leads_selected : (s : SelNo) → Leads l me now (asks now (selected_keys_plan s false) list_reply)
  unfolding selected_keys_plan
  leads_selected s =
      leads_ask (selected_keys_plan s false) (λ a. table_call (selected_keys s) a) list_reply
      (λ ongoing acts a run at.
      quiet l me now ongoing (table_call (selected_keys s) a) acts
      (subst (λ b. Completes (list_plan list_selected s b) acts a)
      (sym (always_run (λ _ r. list_lacks_memory r ≡ false) (list_plan list_selected s false) acts a
      (list_has_memory list_selected s) run)) run) tt at)

  -- ---- what stands beside the table

  -- what is left shows the same selections and closings in progress
  leads_beside : (r : Reply) (left : Progress) → ShowsAsBefore now left
      → Leads l me now (Plan.reply (record { reply = r; left = left }))
  leads_beside r left beside = record {
    always = λ own made. record {
      made = subst (λ acts. HasMade l acts me left) (sym (append-nil own)) (made_beside l own me now left beside made);
      others = λ n _. leaves_beside n now left [] beside;
    };
  }

  -- a call that leaves so what is in progress
  leads_leaving : {R : Type 0} (plan : Plan R) (call : R → Made) (said : R → Reply) (left : R → Progress)
      → ((a : R) → ShowsAsBefore now (left a))
      → ((ongoing : Ongoing) (acts : List Act) (a : R) → Completes plan acts a → IsOngoing me now ongoing
      → Comes l me now ongoing (call a) acts now)
      → Leads l me now (makes plan said left)
  leads_leaving plan call said left beside comes =
      leads_call l me now plan call left _
      (λ ongoing acts a run at.
      let here = comes ongoing acts a run at in
      record {
        run = here.run;
        may = here.may;
        after = ongoing_beside me now (left a) (after_call ongoing (call a)) (beside a) here.after;
        others = λ n _. leaves_beside n now (left a) acts (beside a);
      })
      (λ a. leads_answer l me (left a) (said a))

  leads_pipe : (target : CallerNo) → Leads l me now (makes (pipe_plan l false) ends_reply (after_pipe now me target))
  leads_pipe target =
      leads_leaving (pipe_plan l false) (λ a. table_call pipe a) ends_reply (after_pipe now me target)
      (pipe-quiet now me target)
      (λ o acts a run at. quiet l me now o (table_call pipe a) acts (makes_pipe acts a run) tt at)
    where
      makes_pipe : (acts : List Act) (a : Result PipeEnds PipeMakeError) → Completes (pipe_plan l false) acts a
          → IsRun l (table_call pipe a) acts
      makes_pipe acts a run =
          subst (λ b. Completes (pipe_plan l b) acts a)
          (sym (always_run (λ _ r. pipe_lacks_memory r ≡ false) (pipe_plan l false) acts a (pipe_has_memory l) run)) run

  leads_read : (c : ChanId) (n : ℕ) (place : Option ℕ) → Leads l me now (read_line l now c n place)
  leads_read c n None = leads_refused l me now _
  leads_read c n (Some i) =
      leads_leaving (try_read_plan l c) (λ a. table_call (try_read c) a)
      (λ a. (read_gives n (pipe_at now.pipes i) a).reply)
      (λ a. with_pipe now i (read_gives n (pipe_at now.pipes i) a).left)
      (λ _. record { selection = refl; closing = refl })
      (λ o acts a run at. quiet l me now o (table_call (try_read c) a) acts run tt at)

  leads_write : (c : ChanId) (bytes : List ℕ) (place : Option ℕ) → Leads l me now (write_line l now c bytes place)
  leads_write c bytes None = leads_refused l me now _
  leads_write c bytes (Some i) =
      let source = (pipe_at now.pipes i).source in
      leads_leaving (try_write_plan l source c) (λ a. table_call (try_write source c) a)
      (λ a. (write_gives bytes (pipe_at now.pipes i) a).reply)
      (λ a. with_pipe now i (write_gives bytes (pipe_at now.pipes i) a).left)
      (λ _. record { selection = refl; closing = refl })
      (λ o acts a run at. quiet l me now o (table_call (try_write source c) a) acts run tt at)

  -- the call of a line
  leads_plan : (word : Call) → AreOn now → Leads l me now (call_plan l now me word)
  unfolding call_plan
  leads_plan call.Selector on =
      leads_ask (open_selector_plan l) (λ a. table_call open_selector a) selector_reply
      (λ o acts a run at. quiet l me now o (table_call open_selector a) acts run tt at)
  leads_plan (call.Channel kind) on =
      leads_ask (open_channel_plan l kind) (λ a. table_call (open_channel kind) a) channel_reply
      (λ o acts a run at. quiet l me now o (table_call (open_channel kind) a) acts run tt at)
  leads_plan (call.Blocking c on') on =
      leads_ask (try_set_blocking_plan l c on') (λ a. table_call (try_set_blocking c on') a) mode_reply
      (λ o acts a run at. quiet l me now o (table_call (try_set_blocking c on') a) acts run tt at)
  leads_plan (call.IsBlocking c) on =
      leads_ask (is_blocking_plan c) (λ a. table_call (is_blocking c) a) yes_or_no
      (λ o acts a run at. quiet l me now o (table_call (is_blocking c) a) acts run tt at)
  leads_plan (call.IsOpen c) on =
      leads_ask (is_open_plan c) (λ a. table_call (is_open c) a) yes_or_no
      (λ o acts a run at. quiet l me now o (table_call (is_open c) a) acts run tt at)
  leads_plan (call.IsRegistered c) on =
      leads_ask (is_registered_plan l c) (λ a. table_call (is_registered c) a) yes_or_no
      (λ o acts a run at. quiet l me now o (table_call (is_registered c) a) acts run tt at)
  leads_plan (call.KeyFor c s) on =
      leads_ask (key_for_plan c s) (λ a. table_call (key_for c s) a) find_reply
      (λ o acts a run at. quiet l me now o (table_call (key_for c s) a) acts run tt at)
  leads_plan (call.Register s c ops att) on =
      leads_ask (try_register_plan l s c ops (given_or_none att)) (λ a. table_call
      (try_register s c ops (given_or_none att)) a)
      register_reply
      (λ o acts a run at. quiet l me now o (table_call (try_register s c ops (given_or_none att)) a) acts run tt at)
  leads_plan (call.Closec c) on =
      leads_leaving (close_channel_plan l c) (λ a. table_call (close_channel c) a) closed_reply
      (λ _. with_seal now (own_sink now.pipes me c)) (λ _. record { selection = refl; closing = refl })
      (λ o acts a run at. quiet l me now o (table_call (close_channel c) a) acts run tt at)
  leads_plan (call.Valid s k) on =
      leads_ask (is_valid_plan (key s k)) (λ a. table_call (is_valid (key s k)) a) yes_or_no
      (λ o acts a run at. quiet l me now o (table_call (is_valid (key s k)) a) acts run tt at)
  leads_plan (call.Interest s k) on =
      leads_ask (interest_plan (key s k)) (λ a. table_call (interest (key s k)) a) set_reply
      (λ o acts a run at. quiet l me now o (table_call (interest (key s k)) a) acts run tt at)
  leads_plan (call.Ready s k) on =
      leads_ask (ready_plan (key s k)) (λ a. table_call (ready (key s k)) a) set_reply
      (λ o acts a run at. quiet l me now o (table_call (ready (key s k)) a) acts run tt at)
  leads_plan (call.Iset s k ops) on =
      leads_ask (set_interest_plan (key s k) ops) (λ a. table_call (set_interest (key s k) ops) a) put_reply
      (λ o acts a run at. quiet l me now o (table_call (set_interest (key s k) ops) a) acts run tt at)
  leads_plan (call.Ior s k ops) on =
      leads_ask (interest_or_plan (key s k) ops) (λ a. table_call (interest_or (key s k) ops) a) set_reply
      (λ o acts a run at. quiet l me now o (table_call (interest_or (key s k) ops) a) acts run tt at)
  leads_plan (call.Iand s k ops) on =
      leads_ask (interest_and_plan (key s k) ops) (λ a. table_call (interest_and (key s k) ops) a) set_reply
      (λ o acts a run at. quiet l me now o (table_call (interest_and (key s k) ops) a) acts run tt at)
  leads_plan (call.Cancel s k) on =
      leads_ask (cancel_plan (key s k)) (λ _. table_call (cancel (key s k)) tt) (λ _. reply.«Ok»)
      (λ o acts a run at. quiet l me now o (table_call (cancel (key s k)) tt) acts run tt at)
  leads_plan (call.Unselect s k) on =
      leads_ask (unselect_plan (key s k)) (λ a. table_call (unselect (key s k)) a) yes_or_no
      (λ o acts a run at. quiet l me now o (table_call (unselect (key s k)) a) acts run tt at)
  leads_plan (call.Attach s k att) on =
      leads_ask (attach_plan (key s k) att) (λ a. table_call (attach (key s k) att) a) (λ before. reply.Number before)
      (λ o acts a run at. quiet l me now o (table_call (attach (key s k) att) a) acts run tt at)
  leads_plan (call.Attachment s k) on =
      leads_ask (attachment_plan (key s k)) (λ a. table_call (attachment (key s k)) a) (λ att. reply.Number att)
      (λ o acts a run at. quiet l me now o (table_call (attachment (key s k)) a) acts run tt at)
  leads_plan (call.Begin s waiting) on = leads_begin s (mode_of waiting)
  leads_plan (call.Told s elapsed pairs) on = leads_told s elapsed pairs (own_selection now me s) on refl
  leads_plan (call.Failed s) on = leads_failed s (own_selection now me s) on refl
  leads_plan (call.Wakeup s) on =
      leads_ask (wakeup_plan s) (λ a. table_call (wakeup s) a) (λ _. reply.«Ok»)
      (λ o acts a run at. quiet l me now o (table_call (wakeup s) a) acts run tt at)
  leads_plan (call.Close s) on = leads_close s
  leads_plan (call.CloseEnd s) on = leads_close_end s
  leads_plan (call.Keys s) on = leads_keys s
  leads_plan (call.Selected s) on = leads_selected s
  leads_plan (call.Interrupt target) on =
      leads_ask (interrupt_plan target) (λ _. table_call (interrupt target) tt) (λ _. reply.«Ok»)
      (λ o acts a run at. quiet l me now o (table_call (interrupt target) tt) acts run tt at)
  leads_plan call.Interrupted on =
      leads_ask interrupted_plan (λ a. table_call interrupted a) yes_or_no
      (λ o acts a run at. quiet l me now o (table_call interrupted a) acts run tt at)
  leads_plan (call.Pipe target) on = leads_pipe target
  leads_plan (call.Pwrite c bytes) on = leads_write c bytes (own_sink now.pipes me c)
  leads_plan (call.Pread c n) on = leads_read c n (own_source now.pipes me c)
  leads_plan (call.Group g) on =
      leads_beside (group_reply now.group g) (record now { group = group_left now.group g })
      (record { selection = refl; closing = refl })

  -- ---- the look-ups

  leads_caller : (n : CallerNo) (plan : Plan Said) → Leads l me now plan → Leads l me now (if_caller l now n plan)
  leads_caller n plan later =
      leads_if l me now (nat_lt n.0 l.callers) plan _ (λ _. later) (λ _. leads_refused l me now _)

  leads_found : {A : Type 0} (r : Reply) (plan : Plan Said) → Leads l me now plan → (found : Option A)
      → Leads l me now (if_found now r plan found)
  leads_found r plan later found = leads_if l me now (is_some found) plan _ (λ _. later) (λ _. leads_refused l me now _)

  leads_selector : (s : SelNo) (plan : Plan Said) → Leads l me now plan → Leads l me now (if_selector l now s plan)
  leads_selector s plan later =
      leads_call l me now (find_selector_plan l s.0) (λ a. table_call (find_selector s.0) a) (λ _. now)
      (if_found now reply.NoSelector plan)
      (λ o acts a run at. quiet l me now o (table_call (find_selector s.0) a) acts run tt at)
      (leads_found reply.NoSelector plan later)

  leads_channel : (c : ChanId) (plan : Plan Said) → Leads l me now plan → Leads l me now (if_channel l now c plan)
  leads_channel c plan later =
      leads_call l me now (find_channel_plan l c.number.0 c.serial) (λ a. table_call (find_channel c.number.0 c.serial) a) (λ _. now)
      (if_found now reply.NoChannel plan)
      (λ o acts a run at. quiet l me now o (table_call (find_channel c.number.0 c.serial) a) acts run tt at)
      (leads_found reply.NoChannel plan later)

  leads_key : (s : SelNo) (k : KeyId) (plan : Plan Said) → Leads l me now plan → Leads l me now (if_key l now s k plan)
  leads_key s k plan later =
      leads_selector s _
      (leads_call l me now (find_plan l s k.index k.serial) (λ a. table_call (find s k.index k.serial) a) (λ _. now)
      (if_found now reply.NoKey plan)
      (λ o acts a run at. quiet l me now o (table_call (find s k.index k.serial) a) acts run tt at)
      (leads_found reply.NoKey plan later))

  leads_name : (a : LineName) (plan : Plan Said) → Leads l me now plan → Leads l me now (if_name l now a plan)
  leads_name (Caller n) plan later = leads_caller n plan later
  leads_name (Selector s) plan later = leads_selector s plan later
  leads_name (Channel c) plan later = leads_channel c plan later
  leads_name (Key s k) plan later = leads_key s k plan later

  pub leads_named : (word : Call) (plan : Plan Said) → Leads l me now plan → Leads l me now (if_named l now word plan)
  unfolding if_named
  leads_named word plan later =
      kept_by_names (λ p. Leads l me now p) (if_name l now) leads_name (word_row word).names plan later

  -- a whole line
  pub leads_line : (word : Call) → AreOn now → Leads l me now (line_plan l now me word)
  unfolding line_plan
  leads_line word on = leads_caller me _ (leads_named word _ (leads_plan word on))

-- ---- the law

-- what a run along the plan made
pub made_along : (l : Limits) (me : CallerNo) (now : Progress) (plan : Plan Said) (own acts : List Act) (said : Said)
    → Leads l me now plan → HasMade l own me now → Completes plan acts said
    → HasMade l (own ++ acts) me said.left
made_along l me now plan own acts said leads made run =
    (always_run (λ xs r. Line l me now own xs r.left) plan acts said (leads.always own made) run).made

-- and what it leaves to another caller
pub leaves_along : (l : Limits) (me n : CallerNo) (now : Progress) (plan : Plan Said) (own acts : List Act)
    (said : Said) → Leads l me now plan → HasMade l own me now → Completes plan acts said → n ≢ me
    → LeavesTo n now acts said.left
leaves_along l me n now plan own acts said leads made run other =
    (always_run (λ xs r. Line l me now own xs r.left) plan acts said (leads.always own made) run).others n other

pub between_on : (l : Limits) (st : State) (now : Progress) → IsBetween l st now → AreOn now
between_on l st now between s x is = ((between.shown s).on x is).selector

pub lines_are_calls : LinesAreCalls
lines_are_calls l st now me word own acts said between made run =
    made_along l me now (line_plan l now me word) own acts said (leads_line l me now word (between_on l st now between))
    made run
