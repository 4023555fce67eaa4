-- What holds between two calls holds at the beginning and after each line.
use Rattle.std.proofs.Common.{◌≡◌, ℕ, true, false, Option, Some, None, Result, Ok, Err, List, refl, ap}
use Rattle.std.proofs.Common.{sym, ◌∙◌, subst, arith}
use Rattle.std.specs.Prelude.{⊤}
use Rattle.std.proofs.lemmas.Bool.{both_ways, le-ltb}
use Rattle.nio_base.specs.Limits.{IsFit}
use Rattle.nio_base.specs.declared.limits.Limits.{Limits}
use Rattle.nio_base.specs.declared.numbers.CallerNo.{CallerNo}
use Rattle.nio_base.specs.declared.numbers.ChanId.{ChanId}
use Rattle.nio_history.specs.Acts.{effect}
use Rattle.nio_history.specs.Answers.{act_from}
use Rattle.nio_history.specs.Questions.{answer_of}
use Rattle.nio_history.specs.State.{State}
use Rattle.nio_language.specs.declared.call.Call.{Call}
use Rattle.nio_language.specs.declared.call.Call.TheVariants as call
use Rattle.nio_language.specs.declared.reply.Reply.{Reply}
use Rattle.nio_language.specs.declared.word_row.LineName.{LineName}
use Rattle.nio_language.specs.declared.word_row.LineName.TheVariants.{Caller, Selector}
use Rattle.nio_plain.proofs.CallLawsCases.{each_call}
use Rattle.nio_plain.specs.ScriptState.{ScriptState}
use Rattle.nio_plain.specs.Seq.{call_of, seq}
use Rattle.nio_plain.specs.Seq.Replies.{Replied}
use Rattle.nio_plain.specs.Seq.Pipes.{own_source, own_sink, pipe_at}
use Rattle.nio_plain.specs.Seq.Selections.{mode_of}
use Rattle.nio_plain.specs.declared.rules.Rules.TheVariants.{Now}
use Rattle.nio_steps.proofs.Each.{Each}
use Rattle.nio_steps.specs.ChannelCalls.{close_channel_plan}
use Rattle.nio_plain.specs.Seq.Registering.{given_or_none}
use Rattle.nio_steps.specs.Names.{key}
use Rattle.nio_steps.specs.Perform.{perform}
use Rattle.nio_steps.specs.PipeCalls.{PipeEnds, pipe_plan, try_read_plan, try_write_plan}
use Rattle.nio_steps.specs.Plan.{Plan, ask}
use Rattle.nio_steps.specs.declared.refusal.PipeMakeError.{PipeMakeError}
use Rattle.nio_serial.proofs.Facts.{sound}
use Rattle.nio_serial.proofs.Leaving.{Leaves, makes-leaves, asks-leaves, named-leaves}
use Rattle.nio_serial.proofs.Lines.{unless, missing, name-done, named-amounts, line-amounts}
use Rattle.nio_serial.proofs.Resting.{rests-from, rests-is}
use Rattle.nio_serial.proofs.RestingCalls.{rests-seq}
use Rattle.nio_serial.proofs.Showing.{Shows, ShowsAsBefore, shows-on, shows-same, begin-shows, told-shows, failed-shows}
use Rattle.nio_serial.proofs.Showing.{close-shows, close_end-shows}
use Rattle.nio_serial.proofs.Steady.{IsSteady, is_steady, steady}
use Rattle.nio_serial.proofs.Touching.{KeepsTouched, keeps_reply, makes-keeps, named-keeps, open_selector-keeps}
use Rattle.nio_serial.proofs.Touching.{open_channel-keeps, set_blocking-keeps, is_blocking-keeps, is_open-keeps}
use Rattle.nio_serial.proofs.Touching.{is_registered-keeps, key_for-keeps, registers-keeps, close_channel-keeps}
use Rattle.nio_serial.proofs.Touching.{valid-keeps, interest-keeps, ready-keeps, set_interest-keeps, interest_or-keeps}
use Rattle.nio_serial.proofs.Touching.{interest_and-keeps, cancels-keeps, unselect-keeps, attach-keeps}
use Rattle.nio_serial.proofs.Touching.{attachment-keeps, wakeup-keeps, keys-keeps, selected_keys-keeps}
use Rattle.nio_serial.proofs.Touching.{interrupt-keeps, interrupted-keeps, pipe-keeps, try_read-keeps, try_write-keeps}
use Rattle.nio_serial.specs.Between.{IsLeft, no_call, line as line_left, IsAtRest, IsBetween}
use Rattle.nio_serial.specs.Documented.{Progress, documented}
use Rattle.nio_serial.specs.Laws.{BeginsBetween, LinesStayBetween}
use Rattle.nio_serial.specs.Lines.{Said, comes_to, asks, refused, if_name, if_named, read_line, write_line, call_plan}
use Rattle.nio_serial.specs.Lines.{line_plan}
use Rattle.nio_serial.specs.PipeLines.{after_pipe}

-- ---- a line that begins and ends nothing leaves the selections and closings in progress

each-performed : {R : Type 0} (P : R → Type 0) (me : CallerNo) (plan : Plan R) (st : State) → Each (λ _. ⊤) P plan
    → P (perform me plan st).answer
each-performed P me (Plan.reply r) st each = each
each-performed P me (ask q next) st each = let act = act_from st me q in
    each-performed P me (next (answer_of act)) (effect st me act) (each.1 (answer_of act))

-- it shows the same selections and closings
abbrev Quiet : Progress → Plan Said → Type 0
Quiet now plan = Leaves (ShowsAsBefore now) plan

asks-quiet : {R : Type 0} (now : Progress) (plan : Plan R) (said : R → Reply) → Quiet now (asks now plan said)
asks-quiet now plan said = asks-leaves (ShowsAsBefore now) now (record { selection = refl; closing = refl }) plan said

-- lines on pipes
read-quiet : (l : Limits) (now : Progress) (c : ChanId) (n : ℕ) (place : Option ℕ)
    → Quiet now (read_line l now c n place)
read-quiet l now c n None = record { selection = refl; closing = refl }
read-quiet l now c n (Some i) =
    makes-leaves (ShowsAsBefore now) (try_read_plan l c) _ _ (λ _. record { selection = refl; closing = refl })

write-quiet : (l : Limits) (now : Progress) (c : ChanId) (bytes : List ℕ) (place : Option ℕ)
    → Quiet now (write_line l now c bytes place)
write-quiet l now c bytes None = record { selection = refl; closing = refl }
write-quiet l now c bytes (Some i) =
    makes-leaves (ShowsAsBefore now) (try_write_plan l (pipe_at now.pipes i).source c) _ _
    (λ _. record { selection = refl; closing = refl })

read-keeps : {me : CallerNo} (l : Limits) (now : Progress) (c : ChanId) (n : ℕ) (place : Option ℕ)
    → KeepsTouched me (read_line l now c n place)
read-keeps l now c n None = keeps_reply _
read-keeps l now c n (Some i) = makes-keeps _ _ _ (try_read-keeps l c)

write-keeps : {me : CallerNo} (l : Limits) (now : Progress) (c : ChanId) (bytes : List ℕ) (place : Option ℕ)
    → KeepsTouched me (write_line l now c bytes place)
write-keeps l now c bytes None = keeps_reply _
write-keeps l now c bytes (Some i) = makes-keeps _ _ _ (try_write-keeps l (pipe_at now.pipes i).source c)

pub pipe-quiet : (now : Progress) (me target : CallerNo) (answer : Result PipeEnds PipeMakeError)
    → ShowsAsBefore now (after_pipe now me target answer)
pipe-quiet now me target (Ok ends) = record { selection = refl; closing = refl }
pipe-quiet now me target (Err refusal) = record { selection = refl; closing = refl }

-- ---- after each line

module _ (l : Limits) (st : State) (now : Progress) (me : CallerNo) (fit : IsFit l) (between : IsBetween l st now) where
  abbrev ds : ScriptState
  ds = documented st now

  abbrev named : Call → Plan Said
  named word = if_named l now word (call_plan l now me word)

  steady-shows : (word : Call) → is_steady word ≡ true → Quiet now (call_plan l now me word)
      → KeepsTouched me (call_plan l now me word) → Shows (perform me (named word) st)
  steady-shows word is quiet keeps t =
      let unchanged : IsSteady ds (call_of Now l ds me word) = steady (each_call Now l ds me word) is in
      let leaves = named-leaves (ShowsAsBefore now) now (record { selection = refl; closing = refl }) l word _ quiet in
      let done = perform me (named word) st in
      let same = named-amounts l st now me fit between word in
      shows-on done.state now done.answer.left t
      (each-performed (λ (x : Said). ShowsAsBefore now x.left) me (named word) st leaves)
      (shows-same l st now me between done.state
      (sym (ap (λ (a : Replied). a.left.shared.turn) same) ∙ unchanged.turn)
      (sym (ap (λ (a : Replied). a.left.shared.begun) same) ∙ unchanged.begun)
      (sym (ap (λ (a : Replied). a.left.shared.closer) same) ∙ unchanged.closer)
      (sym (ap (λ (a : Replied). a.left.shared.entered) same) ∙ unchanged.entered)
      ((named-keeps l now word (call_plan l now me word) keeps).keeps st) t)

  name-shows : (a : LineName) (plan : Plan Said) → Shows (perform me plan st)
      → Shows (perform me (if_name l now a plan) st)
  name-shows a plan shows = subst Shows (sym (name-done l st now me fit between a plan)) (by_missing (missing l st a))
    where
      by_missing : (o : Option Reply) → Shows (perform me (unless (refused now) plan o) st)
      by_missing None = shows
      by_missing (Some r) = between.shown

  named-shows : (word : Call) → Shows (perform me (named word) st)
  unfolding if_named call_plan
  named-shows call.Selector =
      steady-shows call.Selector refl (asks-quiet now _ _) (makes-keeps _ _ _ (open_selector-keeps l))
  named-shows (call.Channel kind) =
      steady-shows (call.Channel kind) refl (asks-quiet now _ _) (makes-keeps _ _ _ (open_channel-keeps l kind))
  named-shows (call.Blocking c on) =
      steady-shows (call.Blocking c on) refl (asks-quiet now _ _) (makes-keeps _ _ _ (set_blocking-keeps l c on))
  named-shows (call.IsBlocking c) =
      steady-shows (call.IsBlocking c) refl (asks-quiet now _ _) (makes-keeps _ _ _ (is_blocking-keeps c))
  named-shows (call.IsOpen c) =
      steady-shows (call.IsOpen c) refl (asks-quiet now _ _) (makes-keeps _ _ _ (is_open-keeps c))
  named-shows (call.IsRegistered c) =
      steady-shows (call.IsRegistered c) refl (asks-quiet now _ _) (makes-keeps _ _ _ (is_registered-keeps l c))
  named-shows (call.KeyFor c s) =
      steady-shows (call.KeyFor c s) refl (asks-quiet now _ _) (makes-keeps _ _ _ (key_for-keeps c s))
  named-shows (call.Register s c ops att) =
      steady-shows (call.Register s c ops att) refl (asks-quiet now _ _) (makes-keeps _ _ _ (registers-keeps l s c ops (given_or_none att)))
  named-shows (call.Closec c) =
      steady-shows (call.Closec c) refl
      (makes-leaves (ShowsAsBefore now) (close_channel_plan l c) _ _ (λ _. record { selection = refl; closing = refl }))
      (makes-keeps _ _ _ (close_channel-keeps l c))
  named-shows (call.Valid s k) =
      steady-shows (call.Valid s k) refl (asks-quiet now _ _) (makes-keeps _ _ _ (valid-keeps (key s k)))
  named-shows (call.Interest s k) =
      steady-shows (call.Interest s k) refl (asks-quiet now _ _) (makes-keeps _ _ _ (interest-keeps (key s k)))
  named-shows (call.Ready s k) =
      steady-shows (call.Ready s k) refl (asks-quiet now _ _) (makes-keeps _ _ _ (ready-keeps (key s k)))
  named-shows (call.Iset s k ops) =
      steady-shows (call.Iset s k ops) refl (asks-quiet now _ _) (makes-keeps _ _ _ (set_interest-keeps (key s k) ops))
  named-shows (call.Ior s k ops) =
      steady-shows (call.Ior s k ops) refl (asks-quiet now _ _) (makes-keeps _ _ _ (interest_or-keeps (key s k) ops))
  named-shows (call.Iand s k ops) =
      steady-shows (call.Iand s k ops) refl (asks-quiet now _ _) (makes-keeps _ _ _ (interest_and-keeps (key s k) ops))
  named-shows (call.Cancel s k) =
      steady-shows (call.Cancel s k) refl (asks-quiet now _ _) (makes-keeps _ _ _ (cancels-keeps (key s k)))
  named-shows (call.Unselect s k) =
      steady-shows (call.Unselect s k) refl (asks-quiet now _ _) (makes-keeps _ _ _ (unselect-keeps (key s k)))
  named-shows (call.Attach s k att) =
      steady-shows (call.Attach s k att) refl (asks-quiet now _ _) (makes-keeps _ _ _ (attach-keeps (key s k) att))
  named-shows (call.Attachment s k) =
      steady-shows (call.Attachment s k) refl (asks-quiet now _ _) (makes-keeps _ _ _ (attachment-keeps (key s k)))
  named-shows (call.Begin s waiting) = name-shows (Selector s) _ (begin-shows l st now me between s (mode_of waiting))
  named-shows (call.Told s elapsed pairs) =
      name-shows (Selector s) _ (told-shows l st now me between s elapsed pairs (now.selection s.0) refl)
  named-shows (call.Failed s) = name-shows (Selector s) _ (failed-shows l st now me between s (now.selection s.0) refl)
  named-shows (call.Wakeup s) =
      steady-shows (call.Wakeup s) refl (asks-quiet now _ _) (makes-keeps _ _ _ (wakeup-keeps s))
  named-shows (call.Close s) = name-shows (Selector s) _ (close-shows l st now me between s)
  named-shows (call.CloseEnd s) = name-shows (Selector s) _ (close_end-shows l st now me between s)
  named-shows (call.Keys s) =
      steady-shows (call.Keys s) refl (asks-quiet now _ _) (makes-keeps _ _ _ (keys-keeps s false))
  named-shows (call.Selected s) =
      steady-shows (call.Selected s) refl (asks-quiet now _ _) (makes-keeps _ _ _ (selected_keys-keeps s false))
  named-shows (call.Interrupt target) =
      steady-shows (call.Interrupt target) refl (asks-quiet now _ _) (makes-keeps _ _ _ (interrupt-keeps target))
  named-shows call.Interrupted =
      steady-shows call.Interrupted refl (asks-quiet now _ _) (makes-keeps _ _ _ interrupted-keeps)
  named-shows (call.Pipe target) =
      steady-shows (call.Pipe target) refl
      (makes-leaves (ShowsAsBefore now) (pipe_plan l false) _ _ (pipe-quiet now me target))
      (makes-keeps _ _ _ (pipe-keeps l false))
  named-shows (call.Pwrite c bytes) =
      steady-shows (call.Pwrite c bytes) refl (write-quiet l now c bytes (own_sink now.pipes me c))
      (write-keeps l now c bytes (own_sink now.pipes me c))
  named-shows (call.Pread c n) =
      steady-shows (call.Pread c n) refl (read-quiet l now c n (own_source now.pipes me c))
      (read-keeps l now c n (own_source now.pipes me c))
  named-shows (call.Group g) =
      steady-shows (call.Group g) refl (record { selection = refl; closing = refl }) (keeps_reply _)

  line-shows : (word : Call) → Shows (perform me (line_plan l now me word) st)
  unfolding line_plan
  line-shows word = name-shows (Caller me) (named word) (named-shows word)

  pub line-stays : (word : Call) → let done = perform me (line_plan l now me word) st in
      IsBetween l done.state done.answer.left
  line-stays word =
      let done = perform me (line_plan l now me word) st in
      let same : seq Now l ds me word ≡ comes_to done = line-amounts l st now me fit between word in
      record {
        left = subst (λ (a : Replied). IsLeft l a.left) same (line_left ds me word between.left);
        at_rest =
            subst (λ (a : Replied). IsAtRest l a.left.shared) same
            (rests-is l (seq Now l ds me word).left.shared (rests-seq l ds (sound l st now between)
            (rests-from l ds.shared between.at_rest) me word));
        shown = line-shows word;
      }

-- ---- at the beginning

pub begins-between : BeginsBetween
begins-between l = record {
  left = no_call;
  at_rest = record {
    unused = record {
      unheld = λ _. refl;
      unpinned = λ _ _ _. refl;
      unchanging = λ _ _ _. refl;
      untaken = λ _ _. refl;
      none_due = λ _ _. refl;
    };
    high = record {
      channels_within = omega arith;
      keys_within = λ _. omega arith;
      channels = λ c. sym (le-ltb c 0 (omega arith));
      claimed = λ _ i. sym (le-ltb i 0 (omega arith));
      published = λ _ i. sym (le-ltb i 0 (omega arith));
      fresh = λ _ _ _. record { key = refl; mark = refl; free = refl };
    };
    free = record { removed = λ s i h. absurd (both_ways false refl h); exactly = λ _ _ _. refl };
  };
  shown = λ s. record { turn = refl; begun = refl; on = λ x is. absurd cc; finds = λ x is. absurd cc; closing = refl };
}

pub lines-stay : LinesStayBetween
lines-stay l st now me word fit between = line-stays l st now me fit between word
