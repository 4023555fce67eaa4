-- The answer to a script by one of the rules: the history that is written for it, and the state that it
-- leaves.
use Rattle.std.specs.Prelude.{ℕ, ◌+◌, List, [], ◌∷◌, ◌++◌}
use Rattle.nio_base.specs.declared.limits.Limits.{Limits}
use Rattle.nio_language.specs.Replies.{history_line}
use Rattle.nio_language.specs.declared.call.ScriptCall.{ScriptCall}
use Rattle.nio_plain.specs.ScriptState.{ScriptState, script_opening}
use Rattle.nio_plain.specs.Seq.{seq}
use Rattle.nio_plain.specs.declared.rules.Rules.{Rules}

-- the history of calls from a state on, numbered from n on
abbrev pub answer_from : Rules → Limits → ScriptState → ℕ → List ScriptCall → List ℕ
answer_from rules l st n [] = []
answer_from rules l st n (c ∷ calls) =
    let done = seq rules l st c.caller c.call in
    history_line n c.caller c.call done.reply ++ answer_from rules l done.left (n + 1) calls

abbrev pub left_from : Rules → Limits → ScriptState → List ScriptCall → ScriptState
left_from rules l st [] = st
left_from rules l st (c ∷ calls) = left_from rules l (seq rules l st c.caller c.call).left calls

-- the history of a script, from the opening state, its calls numbered from 1
abbrev pub answer_to : Rules → Limits → List ScriptCall → List ℕ
answer_to rules l calls = answer_from rules l script_opening 1 calls

-- the state that a script leaves
abbrev pub left_by_script : Rules → Limits → List ScriptCall → ScriptState
left_by_script rules l calls = left_from rules l script_opening calls
