use Rattle.nio_caller.specs.Piping.{HasWritten}
use Rattle.nio_caller.proofs.Calls.{acting_unpinned}
use Rattle.nio_caller.proofs.GoingOn.{tries_write}
use Rattle.nio_caller.proofs.NamedCalls.{err_called, if_called, met, met_by, missed, refuses_call, was_called}
use Rattle.nio_caller.proofs.callers.Caller.try_write.Goals as goal

pub invariant_of-self : goal.invariant_of-self
invariant_of-self g c =
    acting_unpinned c.words.ensures (tries_write _ _ _) c.try_write.ensures.call c.try_write.ensures.unpinned c.try_write.ensures.ready c.self.invariant

pub returns-then-not-has_channel-clause-call : goal.returns-then-not-has_channel-clause-call
returns-then-not-has_channel-clause-call g c =
    missed _ _ (rw c.other_chan.ensures at c.if-not-has_channel.ensures.call)

pub returns-then-not-has_channel-2-clause-call : goal.returns-then-not-has_channel-2-clause-call
returns-then-not-has_channel-2-clause-call g c =
    met _ _ _ (rw c.other_chan.ensures at c.if-not-has_channel.ensures.call) (missed _ _ (rw c.chan.ensures at c.if-not-has_channel-2.ensures.call))

pub returns-clause-call : goal.returns-clause-call
returns-clause-call g c =
    rw c.called.ensures (met _ _ _ (rw c.other_chan.ensures at c.if-not-has_channel.ensures.call) (met_by c.words.ensures _ _ _ (rw c.chan.ensures at c.if-not-has_channel-2.ensures.call) c.self.view_is (refuses_call _ _ c.try_write.ensures.call)))

pub returns-clause-untouched : goal.returns-clause-untouched
returns-clause-untouched g c =
    rw c.called.ensures (was_called _ c.try_write.result)

pub returns-clause-written : goal.returns-clause-written
returns-clause-written g c =
    let its = c.try_write.ensures in rw c.called.ensures (if_called (HasWritten c.args.sink.now c.try_write.new.self c.args.from.now) c.try_write.result (record { same = its.same; bytes = its.bytes; seal = its.seal; answers = its.answer; least = its.least; most = its.most; places = its.places; not_yet = its.not_yet }))

pub returns-clause-closed : goal.returns-clause-closed
returns-clause-closed g c =
    rw c.called.ensures (if_called _ c.try_write.result c.try_write.ensures.closed)

pub returns-clause-broken : goal.returns-clause-broken
returns-clause-broken g c =
    rw c.called.ensures (if_called _ c.try_write.result c.try_write.ensures.broken)

pub returns-clause-refused : goal.returns-clause-refused
returns-clause-refused g c =
    rw c.called.ensures (err_called _ c.try_write.result c.try_write.ensures.refused)
