-- What the calls of a plain system reply and leave.
use Rattle.std.specs.Prelude.{◌≡◌, Result, IfOk, OnErr}
use Rattle.std.specs.declared.alloc.AllocError.{AllocError}
use Rattle.nio_language.specs.declared.reply.Reply.{Reply}
use Rattle.nio_plain.specs.PlainState.{limits_of, rules_of, state_of}
use Rattle.nio_plain.specs.Seq.Replies.{Replied}
use Rattle.nio_plain.specs.declared.plain.Plain.{Plain}

-- what stays the same whatever is called: the limits and the rules
pub record Kept (before after : Plain) : Type 0 where
  pub limits : limits_of after ≡ limits_of before
  pub rules : rules_of after ≡ rules_of before

-- the reply and the state are those of the documented system
pub record Replies (before after : Plain) (r : Reply) (a : Replied) : Type 0 where
  pub reply : r ≡ a.reply
  pub left : state_of after ≡ a.left
  pub kept : Kept before after

-- the same of a call that may lack memory. Want of memory leaves the state as it was
pub record RepliesAs (before after : Plain) (result : Result Reply AllocError) (a : Replied) : Type 0 where
  pub reply : IfOk result (λ r. r ≡ a.reply)
  pub left : IfOk result (λ _. state_of after ≡ a.left)
  pub memory : OnErr result (state_of after ≡ state_of before)
  pub kept : Kept before after
