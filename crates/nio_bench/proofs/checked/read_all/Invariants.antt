use Rattle.nio_channel.specs.Idle.{zero}
use Rattle.nio_pipe.specs.Ends.{source_chan}
use Rattle.nio_pipe.specs.Idle.{MayUse}
use Rattle.nio_bench.proofs.checked.read_all.Given as goal

abbrev pub invariant-loop : goal.invariant-loop
invariant-loop g l = MayUse l.w l.p zero (source_chan l.source) l.other
