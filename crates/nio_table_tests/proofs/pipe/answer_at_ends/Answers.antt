use Rattle.std.proofs.Common.{refl, sym, ap, subst}
use Rattle.nio_pipe.specs.Ends.{AreEnds}
use Rattle.nio_pipe.proofs.Idle.{may_after, may_same, may_write, both_read, both_written}
use Rattle.nio_table_tests.proofs.pipe.answer_at_ends.Goals as goal

pub returns-in-Read : goal.returns-in-Read
returns-in-Read c =
    both_read {sink = c.args.sink.now} c.reads.ensures.same (may_same refl (sym c.chan.ensures) c.reads.ensures.may)
    c.requires

pub writes-requires : goal.writes-requires
writes-requires c = may_write c.requires

pub returns-in-Write : goal.returns-in-Write
returns-in-Write c = both_written c.writes.ensures.same c.writes.ensures.may c.requires

pub closes-requires : goal.closes-requires
closes-requires c = may_write c.requires

pub returns-in-CloseSink : goal.returns-in-CloseSink
returns-in-CloseSink c = both_written c.closes.ensures.same c.closes.ensures.may c.requires

pub returns-in-CloseSource : goal.returns-in-CloseSource
returns-in-CloseSource c =
    let e = c.close.ensures in
    record {
      may = may_same (ap (λ source. source.chan) e.same) refl (may_after e.call.acts e.ready e.unpinned c.requires.may);
      pair = subst (λ source. AreEnds source c.args.sink.now) (sym e.same) c.requires.pair;
    }
