-- The caller's test of a call.
use Rattle.std.proofs.Common.{◌≡◌, ◌<◌, ◌≤◌, ltb}
use Rattle.std.proofs.lemmas.Bool.{cond-true, cond-false, lt-ltb, le-ltb}
use Rattle.nio_base.specs.declared.limits.Limits.{Limits}
use Rattle.nio_base.specs.declared.numbers.CallerNo.{CallerNo}
use Rattle.nio_language.specs.declared.call.Call.{Call}
use Rattle.nio_language.specs.declared.reply.Reply.TheVariants as reply
use Rattle.nio_plain.specs.ScriptState.{ScriptState}
use Rattle.nio_plain.specs.Seq.{seq, call_of}
use Rattle.nio_plain.specs.Seq.Replies.{unchanged}
use Rattle.nio_plain.specs.declared.rules.Rules.{Rules}

module _ (rules : Rules) (l : Limits) (st : ScriptState) (me : CallerNo) (call : Call) where
  pub seq-no_caller : l.callers ≤ me.0 → seq rules l st me call ≡ unchanged st reply.NoCaller
  unfolding seq
  seq-no_caller h =
      cond-false (ltb me.0 l.callers) (call_of rules l st me call) (unchanged st reply.NoCaller)
      (le-ltb me.0 l.callers h)

  pub seq-call : me.0 < l.callers → seq rules l st me call ≡ call_of rules l st me call
  unfolding seq
  seq-call h =
      cond-true (ltb me.0 l.callers) (call_of rules l st me call) (unchanged st reply.NoCaller)
      (lt-ltb me.0 l.callers h)
