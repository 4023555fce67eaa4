use Rattle.std.proofs.Common.{[], arith}
use Rattle.std.proofs.lemmas.List.{length-replicate}
use Rattle.nio_group.proofs.RestLemmas.{lawful-empty}
use Rattle.nio_deadline.specs.Timed.{no_kinds, no_number}
use Rattle.nio_deadline.proofs.timed.TimedCore.make.Goals as goal

pub invariant_of-result : goal.invariant_of-result
invariant_of-result c =
    rw (c.in_ok-core.ensures, c.new.ensures, c.new-2.ensures.items, c.in_ok-kinds.ensures)
    (record {
      lawful = record {
        group = lawful-empty c.args.limits;
        pending = tt;
        in_order = tt;
        queued = no_number [];
        each_channel = length-replicate c.args.limits.channels no_kinds;
      };
      counted = c.new-2.ensures.len;
      has_room = omega arith;
      few_in_flight = c.requires.few_flight;
    })
