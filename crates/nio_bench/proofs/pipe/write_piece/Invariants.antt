use Rattle.nio_channel.specs.Idle.{one}
use Rattle.nio_pipe.specs.Ends.{other_chan, sink_chan}
use Rattle.nio_pipe.specs.Idle.{MayUse}
use Rattle.nio_bench.proofs.pipe.write_piece.Given as goal

abbrev pub invariant-loop : goal.invariant-loop
invariant-loop g l = MayUse l.w l.q one (other_chan l.sink) (sink_chan l.sink)
