use Rattle.nio_caller.specs.Piping.{HasRead}
use Rattle.nio_caller.proofs.Calls.{acting_unpinned}
use Rattle.nio_caller.proofs.GoingOn.{tries_read}
use Rattle.nio_caller.proofs.NamedCalls.{if_called, met_by, missed, refuses_call, was_called}
use Rattle.nio_caller.proofs.callers.Caller.try_read.Goals as goal

pub invariant_of-self : goal.invariant_of-self
invariant_of-self g c =
    acting_unpinned c.words.ensures (tries_read _ _) c.try_read.ensures.call c.try_read.ensures.unpinned c.try_read.ensures.ready c.self.invariant

pub returns-then-not-has_channel-clause-call : goal.returns-then-not-has_channel-clause-call
returns-then-not-has_channel-clause-call g c =
    missed _ _ (rw c.chan.ensures at c.if-not-has_channel.ensures.call)

pub returns-clause-call : goal.returns-clause-call
returns-clause-call g c =
    rw c.called.ensures (met_by c.words.ensures _ _ _ (rw c.chan.ensures at c.if-not-has_channel.ensures.call) c.self.view_is (refuses_call _ _ c.try_read.ensures.call))

pub returns-clause-untouched : goal.returns-clause-untouched
returns-clause-untouched g c =
    rw c.called.ensures (was_called _ c.try_read.result)

pub returns-clause-read : goal.returns-clause-read
returns-clause-read g c =
    let its = c.try_read.ensures in rw c.called.ensures (if_called (HasRead c.args.source.now c.try_read.new.self c.args.into.now c.try_read.new.into) c.try_read.result (record { same = its.same; bytes = its.bytes; answers = its.answer; most = its.most; not_yet = its.not_yet; end = its.end; stays = its.stays }))

pub returns-clause-closed : goal.returns-clause-closed
returns-clause-closed g c =
    rw c.called.ensures (if_called _ c.try_read.result c.try_read.ensures.closed)
