-- The names of a line: what has to be made before its call, and the look-ups that find it.
use Rattle.std.specs.Prelude.{Option, Some, None, IfNone}
use Rattle.nio_base.specs.declared.limits.Limits.{Limits}
use Rattle.nio_base.specs.declared.numbers.CallerNo.{CallerNo}
use Rattle.nio_base.specs.declared.numbers.KeyId.{KeyId}
use Rattle.nio_base.specs.declared.numbers.SelNo.{SelNo}
use Rattle.nio_history.specs.Conditions.{IsCaller}
use Rattle.nio_history.specs.PassViews.{PassView, HasSelector, HasChannel, HasKey, HasNoPin}
use Rattle.nio_language.specs.WordRows.{EachName, word_row}
use Rattle.nio_language.specs.declared.call.Call.{Call}
use Rattle.nio_language.specs.declared.reply.Reply.{Reply}
use Rattle.nio_language.specs.declared.reply.Reply.TheVariants as reply
use Rattle.nio_language.specs.declared.word_row.LineName.{LineName}
use Rattle.nio_language.specs.declared.word_row.LineName.TheVariants.{Caller, Selector, Channel, Key}
use Rattle.nio_serial.specs.Documented.{Progress}
use Rattle.nio_serial.specs.Lines.{Said, refused, if_found}
use Rattle.nio_steps.specs.Calls.{PartClause}
use Rattle.nio_steps.specs.Names.{key}
use Rattle.nio_steps.specs.KeyCalls.{find_plan}
use Rattle.nio_steps.specs.Plan.{Plan, ◌>>=◌}
use Rattle.nio_words.specs.Passes.{IsReady}
use Rattle.nio_words.specs.Views.{view}
use Rattle.nio_words.specs.declared.words.Pass.{Pass}
use Rattle.nio_words.specs.declared.words.Words.{Words}

-- what is named is there: a selector or a channel is made, a key was published, a caller may be drawn
abbrev pub HasName : PassView → LineName → Type 0
HasName pass (Caller n) = IsCaller pass.limits n
HasName pass (Selector s) = HasSelector pass s
HasName pass (Channel c) = HasChannel pass c
HasName pass (Key s k) = HasKey pass (key s k)

abbrev pub HasNames : PassView → Call → Type 0
HasNames pass word = EachName (HasName pass) (word_row word).names

-- how a line goes on after its look-ups: with the plan of its call where nothing is missing, else with the refusal
abbrev pub after_names : Progress → Plan Said → Option Reply → Plan Said
after_names now plan None = plan
after_names now plan (Some r) = refused now r

-- the look-up of a key in a selector that is made
abbrev pub if_present : Limits → Progress → SelNo → KeyId → Plan Said → Plan Said
if_present l now s k plan = find_plan l s k.index k.serial >>= if_found now reply.NoKey plan

-- These look-ups were made, before whatever plan, and said what is missing. Where nothing is, what they look for is
-- there.
pub record Finds (look_ups : Progress → Plan Said → Plan Said) (Named : PassView → Type 0) (w : Words) (p q : Pass)
    (me : CallerNo) (missing : Option Reply) : Type 0 where
  pub call : (now : Progress) (plan : Plan Said)
      → PartClause me (look_ups now plan) (view w p) (view w q) (after_names now plan missing)
  pub ready : IsReady w q me
  pub unpinned : HasNoPin (view w q) me
  pub named : IfNone missing (Named (view w q))
