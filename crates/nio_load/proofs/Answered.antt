-- The answer to calls has the replies to them.
use Rattle.std.proofs.Common.{◌≡◌, ℕ, ◌+◌, List, [], ◌∷◌, ◌++◌, refl, ap}
use Rattle.nio_base.specs.declared.limits.Limits.{Limits}
use Rattle.nio_language.specs.Replies.{history_line}
use Rattle.nio_language.specs.declared.call.ScriptCall.{ScriptCall}
use Rattle.nio_plain.specs.Answer.{answer_from}
use Rattle.nio_plain.specs.ScriptState.{ScriptState}
use Rattle.nio_plain.specs.Seq.{seq}
use Rattle.nio_plain.specs.declared.rules.Rules.{Rules}
use Rattle.nio_load.specs.Summary.{history_of, replies_from}

pub answer_replies : (rules : Rules) (l : Limits) (st : ScriptState) (n : ℕ) (calls : List ScriptCall)
    → answer_from rules l st n calls ≡ history_of n calls (replies_from rules l st calls)
answer_replies rules l st n [] = refl
answer_replies rules l st n (c ∷ calls) =
    let done = seq rules l st c.caller c.call in
    ap (λ text. history_line n c.caller c.call done.reply ++ text) (answer_replies rules l done.left (n + 1) calls)
