use Rattle.std.proofs.Common.{◌≡◌, ℕ, ltb, false, sym, ap, arith}
use Rattle.std.proofs.lemmas.Bool.{cond-false}
use Rattle.std.proofs.lemmas.Bool.Decides.{nat_tests}
use Rattle.nio_base.specs.declared.numbers.CallerNo.{CallerNo}
use Rattle.nio_language.specs.declared.call.Call.{Call}
use Rattle.nio_language.specs.declared.reply.Reply.TheVariants.{NoCaller}
use Rattle.nio_plain.specs.ScriptState.{ScriptState}
use Rattle.nio_plain.specs.Seq.{seq}
use Rattle.nio_plain.specs.Seq.Replies.{unchanged}
use Rattle.nio_plain.specs.declared.rules.Rules.TheVariants.{Now}
use Rattle.nio_text_tests.proofs.script.DeafSystem.call.Goals as goal

none_below_zero : (n : ℕ) → ltb n 0 ≡ false
none_below_zero n = grind (arith, nat_tests)

-- a system of no callers knows none
knows_none : (st : ScriptState) (me : CallerNo) (call : Call)
    → seq Now (record { callers = 0; selectors = 0; channels = 0; keys = 0 }) st me call ≡ unchanged st NoCaller
unfolding seq
knows_none st me call = cond-false _ _ _ (none_below_zero me.0)

pub returns-clause-reply : goal.returns-clause-reply
returns-clause-reply c = sym (ap (λ done. done.reply) (knows_none _ c.args._caller c.args._call.now))

pub returns-clause-left : goal.returns-clause-left
returns-clause-left c = sym (ap (λ done. done.left) (knows_none _ c.args._caller c.args._call.now))
