-- The calls of lines, once their names are found.
use Rattle.nio_base.specs.declared.numbers.CallerNo.{CallerNo}
use Rattle.nio_history.specs.PassViews.{HasNoPin}
use Rattle.nio_language.specs.declared.call.Call.{Call}
use Rattle.nio_language.specs.declared.reply.Reply.{Reply}
use Rattle.nio_serial.specs.Documented.{Progress}
use Rattle.nio_serial.specs.Lines.{call_plan}
use Rattle.nio_sole.specs.Named.{HasNames}
use Rattle.nio_steps.specs.Calls.{CallClause}
use Rattle.nio_steps.specs.Runs.{Completes}
use Rattle.nio_words.specs.Passes.{IsReady, limits_of}
use Rattle.nio_words.specs.Views.{view}
use Rattle.nio_words.specs.declared.words.Pass.{Pass}
use Rattle.nio_words.specs.declared.words.Words.{Words}

-- the caller may make this call with the pass
pub record MayAsk (w : Words) (p : Pass) (me : CallerNo) (word : Call) : Type 0 where
  pub ready : IsReady w p me
  pub unpinned : HasNoPin (view w p) me
  pub named : HasNames (view w p) word

-- it made the call, which leaves whatever is in progress as it is, and had this reply
pub record Asks (w : Words) (p q : Pass) (me : CallerNo) (word : Call) (r : Reply) : Type 0 where
  pub call : (now : Progress)
      → CallClause me (Completes (call_plan (limits_of w) now me word)) (view w p) (view w q)
      (record { reply = r; left = now })
  pub ready : IsReady w q me
