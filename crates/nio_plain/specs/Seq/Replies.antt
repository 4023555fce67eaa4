-- What comes of a call: its reply, and the state that it leaves.
use Rattle.std.specs.Prelude.{Bool, true, false}
use Rattle.nio_history.specs.State.{State}
use Rattle.nio_language.specs.declared.reply.Reply.{Reply}
use Rattle.nio_language.specs.declared.reply.Reply.TheVariants as reply
use Rattle.nio_plain.specs.ScriptState.{ScriptState, with_shared}

-- a reply, and the state that the call leaves
pub record Replied : Type 0 where
  pub reply : Reply
  pub left : ScriptState

-- a call that changes nothing: it is refused, or it only tells something
abbrev pub unchanged : ScriptState → Reply → Replied
unchanged st reply = record { reply = reply; left = st }

-- a call that changes the shared state alone
abbrev pub replied : ScriptState → Reply → State → Replied
replied st reply shared = record { reply = reply; left = with_shared st shared }

-- the reply to a question
abbrev pub yes_or_no : Bool → Reply
yes_or_no true = reply.Yes
yes_or_no false = reply.No
