-- The calls of lines on a desk.
use Rattle.std.specs.Prelude.{◌≡◌, ◌⊎◌, Option, Some, None, List, [], ◌++◌, Result, Ok, Err}
use Rattle.std.specs.declared.alloc.AllocError.{AllocError}
use Rattle.nio_base.specs.declared.numbers.CallerNo.{CallerNo}
use Rattle.nio_base.specs.declared.numbers.KeyNo.{KeyNo}
use Rattle.nio_base.specs.declared.numbers.SelNo.{SelNo}
use Rattle.nio_history.specs.declared.act.Act.{Act}
use Rattle.nio_history.specs.declared.found.Mode.{Mode}
use Rattle.nio_language.specs.declared.call.Call.{Call}
use Rattle.nio_language.specs.declared.call.Call.TheVariants as call
use Rattle.nio_language.specs.declared.reply.Reply.{Reply}
use Rattle.nio_plain.specs.Seq.Selections.{mode_of}
use Rattle.nio_serial.specs.Lines.{Said, call_plan}
use Rattle.nio_sole.specs.Asked.{MayAsk}
use Rattle.nio_sole.specs.Made.{HasMade}
use Rattle.nio_sole.specs.Stands.{progress_of, HasPlaces}
use Rattle.nio_sole.specs.declared.desk.Desk.{Desk}
use Rattle.nio_steps.specs.Calls.{CallClause}
use Rattle.nio_steps.specs.Plan.{Plan}
use Rattle.nio_steps.specs.Runs.{Completes, Follows}
use Rattle.nio_steps.specs.SelectCalls.{Begins, ListsKeys, ListsSelected}
use Rattle.nio_steps.specs.declared.refusal.BeginError.{BeginError}
use Rattle.nio_steps.specs.declared.refusal.ListError.{ListError}
use Rattle.nio_words.specs.Passes.{IsReady, limits_of, acts_seen}
use Rattle.nio_words.specs.Views.{view}
use Rattle.nio_words.specs.declared.words.Words.{Words}

-- the caller may make this call with the desk, once its names are found
pub record MayMake (w : Words) (d : Desk) (me : CallerNo) (word : Call) : Type 0 where
  pub ask : MayAsk w d.pass me word
  pub places : HasPlaces w d
  pub made : ∥ HasMade (limits_of w) (acts_seen d.pass me) me (progress_of d) ∥₁

-- it made a whole run of the plan, to this reply
pub record Makes (w : Words) (old new : Desk) (me : CallerNo) (plan : Plan Said) (r : Reply) : Type 0 where
  pub call : CallClause me (Completes plan) (view w old.pass) (view w new.pass)
      (record { reply = r; left = progress_of new })
  pub ready : IsReady w new.pass me
  pub places : HasPlaces w new

-- ---- want of memory

-- What was done of a beginning that lacks memory: nothing, or the table's call was made, and was refused for want of
-- memory. With a negative time it takes no memory.
abbrev pub BeginLacks : SelNo → Option Mode → List Act → Type 0
BeginLacks s None acts = ⊥
BeginLacks s (Some mode) acts = (acts ≡ []) ⊎ Begins s mode None acts (Err BeginError.Memory)

-- What was done of a listing that lacks memory: it was refused for want of memory, or was made and has no reply.
abbrev pub ListLacks : (List Act → Result (List KeyNo) ListError → Type 0) → List Act → Type 0
ListLacks Lists acts = Lists acts (Err ListError.Memory) ⊎ ((keys : List KeyNo) × Lists acts (Ok keys))

-- what was done of a call that lacks memory; a call that takes none has memory
abbrev pub CallLacks : Call → List Act → Type 0
CallLacks call.Selector acts = ⊥
CallLacks (call.Channel kind) acts = ⊥
CallLacks (call.Blocking c on) acts = ⊥
CallLacks (call.IsBlocking c) acts = ⊥
CallLacks (call.IsOpen c) acts = ⊥
CallLacks (call.IsRegistered c) acts = ⊥
CallLacks (call.KeyFor c s) acts = ⊥
CallLacks (call.Register s c ops att) acts = ⊥
CallLacks (call.Closec c) acts = ⊥
CallLacks (call.Valid s k) acts = ⊥
CallLacks (call.Interest s k) acts = ⊥
CallLacks (call.Ready s k) acts = ⊥
CallLacks (call.Iset s k ops) acts = ⊥
CallLacks (call.Ior s k ops) acts = ⊥
CallLacks (call.Iand s k ops) acts = ⊥
CallLacks (call.Cancel s k) acts = ⊥
CallLacks (call.Unselect s k) acts = ⊥
CallLacks (call.Attach s k att) acts = ⊥
CallLacks (call.Attachment s k) acts = ⊥
CallLacks (call.Begin s waiting) acts = BeginLacks s (mode_of waiting) acts
CallLacks (call.Told s elapsed pairs) acts = acts ≡ []
CallLacks (call.Failed s) acts = ⊥
CallLacks (call.Wakeup s) acts = ⊥
CallLacks (call.Close s) acts = ⊥
CallLacks (call.CloseEnd s) acts = ⊥
CallLacks (call.Keys s) acts = ListLacks (ListsKeys s) acts
CallLacks (call.Selected s) acts = ListLacks (ListsSelected s) acts
CallLacks (call.Interrupt target) acts = ⊥
CallLacks call.Interrupted acts = ⊥
CallLacks (call.Pipe target) acts = acts ≡ []
CallLacks (call.Pwrite c bytes) acts = ⊥
CallLacks (call.Pread c n) acts = acts ≡ []
CallLacks (call.Group g) acts = acts ≡ []

-- The acts are the look-ups `around` a call, which found every name, so that any plan behind them would be left; and
-- then what was done of the call, which lacks memory.
pub record LooksAndLacks (around : Plan Said → Plan Said) (word : Call) (acts : List Act) : Type 0 where
  pub looked : List Act
  pub found : (plan : Plan Said) → Follows (around plan) looked plan
  pub tried : List Act
  pub lacks : CallLacks word tried
  pub parts : acts ≡ looked ++ tried

-- the same, as the shape of a call without an answer
abbrev pub LacksMemory : (Plan Said → Plan Said) → Call → List Act → Unit {0} → Type 0
LacksMemory around word acts _ = LooksAndLacks around word acts

-- the line lacks memory, and leaves what is in progress as it was
pub record Lacks (around : Plan Said → Plan Said) (w : Words) (old new : Desk) (me : CallerNo)
    (word : Call) : Type 0 where
  pub call : CallClause me (LacksMemory around word) (view w old.pass) (view w new.pass) tt
  pub ready : IsReady w new.pass me
  pub places : HasPlaces w new
  pub same : progress_of new ≡ progress_of old

-- the call was made, or lacks memory
abbrev pub MakesCall : (Plan Said → Plan Said) → Words → Desk → Desk → CallerNo → Call → Result Reply AllocError
    → Type 0
MakesCall around w old new me word (Ok r) =
    Makes w old new me (around (call_plan (limits_of w) (progress_of old) me word)) r
MakesCall around w old new me word (Err _) = Lacks around w old new me word
