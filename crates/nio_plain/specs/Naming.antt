-- What a test of the names of a line comes to, over the calls that are made with these names.
use Rattle.std.specs.Prelude.{◌≡◌}
use Rattle.nio_language.specs.declared.reply.Reply.{Reply}
use Rattle.nio_plain.specs.ScriptState.{ScriptState}
use Rattle.nio_plain.specs.Seq.Replies.{Replied, unchanged}

-- the test lets each call through
abbrev pub LetsThrough : (Replied → Replied) → Type 0
LetsThrough test = (call : Replied) → test call ≡ call

-- the test refuses each call with this reply
abbrev pub Refuses : ScriptState → (Replied → Replied) → Reply → Type 0
Refuses st test r = (call : Replied) → test call ≡ unchanged st r
