-- A line behind `go` makes no pipe, so that what is in progress stays without one.
use Rattle.std.proofs.Common.{◌≡◌, ℕ, Bool, false, Option, Some, None, List, [], Result, Ok, Err, refl, sym, ap, ◌∙◌}
use Rattle.std.proofs.Common.{subst}
use Rattle.nio_base.specs.declared.limits.Limits.{Limits}
use Rattle.nio_base.specs.declared.numbers.CallerNo.{CallerNo}
use Rattle.nio_base.specs.declared.numbers.KeyId.{KeyId}
use Rattle.nio_base.specs.declared.numbers.SelNo.{SelNo}
use Rattle.nio_history.specs.declared.act.Act.{Act}
use Rattle.nio_history.specs.declared.found.Mode.{Mode}
use Rattle.nio_language.specs.declared.call.Call.{Call}
use Rattle.nio_language.specs.declared.call.Call.TheVariants as call
use Rattle.nio_language.specs.declared.reply.Reply.TheVariants as reply
use Rattle.nio_plain.specs.ScriptState.{Pipe}
use Rattle.nio_plain.specs.Seq.Pipes.{sealed_pipes, own_sink, own_source}
use Rattle.nio_plain.specs.Seq.Selections.{is_caller, mode_of}
use Rattle.nio_race_text.specs.RaceLines.{MayRace}
use Rattle.nio_serial.proofs.Leaving.{Leaves, asks-leaves, if-leaves, line-leaves, makes-leaves, run-leaves}
use Rattle.nio_serial.specs.Documented.{Progress}
use Rattle.nio_serial.specs.Lines.{Said, after_begin, after_finish, after_shut, after_told, begin_line, by_index}
use Rattle.nio_serial.specs.Lines.{call_plan, close_end_line, failed_line, line_plan, makes, own_selection, read_line}
use Rattle.nio_serial.specs.Lines.{told_line, with_selection, write_line}
use Rattle.nio_serial.specs.Replies.{begin_reply, finish_reply, shut_reply, told_reply}
use Rattle.nio_steps.specs.Runs.{Completes}
use Rattle.nio_steps.specs.SelectCalls.{FinishReply, Selection, SelectReply, ShutReply, ToldReply, again}
use Rattle.nio_steps.specs.SelectCalls.{already_closed, busy, closed, closing, done, leave_plan, left, not_begun}
use Rattle.nio_steps.specs.SelectCalls.{selected, shut_plan, told_plan, try_begin_plan, try_finish_plan}
use Rattle.nio_steps.specs.declared.refusal.BeginError.{BeginError}
use Rattle.nio_steps.specs.declared.refusal.BeginError.TheVariants as begin_error
use Rattle.nio_race.specs.Runs.{BlockSays, BlocksOnFound, LooksAndBlocks, MakesScriptLine}

module _ (l : Limits) (now : Progress) (none : now.pipes ≡ []) where
  abbrev Pipeless : Progress → Type 0
  Pipeless kept = kept.pipes ≡ []

  -- ---- the calls

  begin-pipeless : (me : CallerNo) (s : SelNo) (mode : Option Mode) → Leaves Pipeless (begin_line now me s mode)
  begin-pipeless me s None = none
  begin-pipeless me s (Some mode) =
      makes-leaves Pipeless (try_begin_plan s mode None false) begin_reply (after_begin now me s) by_answer
    where
      by_answer : (answer : Result Selection BeginError) → (after_begin now me s answer).pipes ≡ []
      by_answer (Ok x) = none
      by_answer (Err e) = none

  told-pipeless : (s : SelNo) (elapsed : Bool) (pairs : List (KeyId × ℕ)) (own : Option Selection)
      → Leaves Pipeless (told_line now s elapsed pairs own)
  told-pipeless s elapsed pairs None = none
  told-pipeless s elapsed pairs (Some x) =
      makes-leaves Pipeless (told_plan x (by_index x pairs) elapsed) told_reply (after_told now s) by_answer
    where
      by_answer : (answer : ToldReply) → (after_told now s answer).pipes ≡ []
      by_answer (done answer) = none
      by_answer (again next) = none

  failed-pipeless : (s : SelNo) (own : Option Selection) → Leaves Pipeless (failed_line now s own)
  failed-pipeless s None = none
  failed-pipeless s (Some x) =
      makes-leaves Pipeless (leave_plan x) (λ _. reply.Left) (λ _. with_selection now s None) (λ _. none)

  close-pipeless : (me : CallerNo) (s : SelNo)
      → Leaves Pipeless (makes (shut_plan s) shut_reply (after_shut now me s))
  close-pipeless me s = makes-leaves Pipeless (shut_plan s) shut_reply (after_shut now me s) by_answer
    where
      by_answer : (answer : ShutReply) → (after_shut now me s answer).pipes ≡ []
      by_answer closing = none
      by_answer already_closed = none

  close-end-pipeless : (me : CallerNo) (s : SelNo) → Leaves Pipeless (close_end_line now me s)
  close-end-pipeless me s =
      if-leaves Pipeless now none (is_caller me (now.closing s.0)) reply.NotClosing _
      (makes-leaves Pipeless (try_finish_plan s) finish_reply (after_finish now s) by_answer)
    where
      by_answer : (answer : FinishReply) → (after_finish now s answer).pipes ≡ []
      by_answer closed = none
      by_answer busy = none

  call-pipeless : (me : CallerNo) (word : Call) → MayRace word → Leaves Pipeless (call_plan l now me word)
  unfolding call_plan
  call-pipeless me call.Selector may = absurd (cc may)
  call-pipeless me (call.Channel kind) may = absurd (cc may)
  call-pipeless me (call.Pipe target) may = absurd (cc may)
  call-pipeless me (call.Group g) may = absurd (cc may)
  call-pipeless me (call.Closec c) may =
      makes-leaves Pipeless _ _ _
      (λ _. subst (λ (pipes : List Pipe). sealed_pipes (own_sink pipes me c) pipes ≡ []) (sym none) refl)
  call-pipeless me (call.Begin s waiting) may = begin-pipeless me s (mode_of waiting)
  call-pipeless me (call.Told s elapsed pairs) may = told-pipeless s elapsed pairs (own_selection now me s)
  call-pipeless me (call.Failed s) may = failed-pipeless s (own_selection now me s)
  call-pipeless me (call.Close s) may = close-pipeless me s
  call-pipeless me (call.CloseEnd s) may = close-end-pipeless me s
  call-pipeless me (call.Pwrite c bytes) may =
      subst (λ (pipes : List Pipe). Leaves Pipeless (write_line l now c bytes (own_sink pipes me c))) (sym none) none
  call-pipeless me (call.Pread c n) may =
      subst (λ (pipes : List Pipe). Leaves Pipeless (read_line l now c n (own_source pipes me c))) (sym none) none
  call-pipeless me _ may = asks-leaves Pipeless now none _ _

  -- ---- the lines

  pub line_pipeless : (me : CallerNo) (word : Call) (acts : List Act) (said : Said) → MayRace word
      → Completes (line_plan l now me word) acts said → said.left.pipes ≡ []
  line_pipeless me word acts said may run =
      run-leaves Pipeless (line_plan l now me word) acts said
      (line-leaves Pipeless now none l me word (call-pipeless me word may)) run

  pub script_line_pipeless : (me : CallerNo) (word : Call) (acts : List Act) (said : Said) → MayRace word
      → MakesScriptLine l now me word acts said → said.left.pipes ≡ []
  script_line_pipeless me word acts said may runs =
      ap (λ (x : Said). x.left.pipes) (sym runs.answers)
      ∙ line_pipeless me word runs.last.acts runs.last.answer may runs.made

  says-pipeless : (s : SelNo) (answer : SelectReply) (said : Said) → BlockSays now s answer said
      → said.left.pipes ≡ []
  says-pipeless s (selected answer) said says = ap (λ (x : Said). x.left.pipes) says ∙ none
  says-pipeless s (not_begun begin_error.ClosedSelector) said says = ap (λ (x : Said). x.left.pipes) says ∙ none
  says-pipeless s (not_begun begin_error.Busy) said says = absurd says
  says-pipeless s (not_begun begin_error.Memory) said says = absurd says
  says-pipeless s left said says = absurd says

  found_block-pipeless : (s : SelNo) (found : Option SelNo) (acts : List Act) (said : Said)
      → BlocksOnFound now s found acts said → said.left.pipes ≡ []
  found_block-pipeless s None acts said run = ap (λ (x : Said). x.left.pipes) run.1 ∙ none
  found_block-pipeless s (Some found) acts said run = says-pipeless s run.answer said run.says

  pub block_pipeless : (s : SelNo) (acts : List Act) (said : Said) → LooksAndBlocks l now s acts said
      → said.left.pipes ≡ []
  block_pipeless s acts said run = found_block-pipeless s run.middle run.second said run.runs_second
