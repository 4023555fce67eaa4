-- A connection of which no link has carried anything.
use Rattle.std.proofs.Common.{lit≤, refl, []}
use Rattle.nio_link.specs.Links.{Link, IsUnused}
use Rattle.nio_relay.specs.Connection.{IsRelayed}
use Rattle.nio_relay.specs.Flow.{fresh}
use Rattle.nio_serve.specs.Relaying.{carried}
use Rattle.nio_serve.specs.Serving.{HasCarried, HaveCarried, AreRelayed}

unused_carried : (l : Link) → IsUnused l → HasCarried l (carried fresh fresh)
unused_carried l unused = record { got = unused.got; ended = unused.ended; put = unused.put; shut = unused.shut }

nothing_relayed : IsRelayed (carried fresh fresh) (carried fresh fresh)
nothing_relayed = record { in_order = ([], refl); few_missing = lit≤ tt; whole_at_shut = λ is. absurd (cc) }

pub unused_relayed : (client target : Link) → IsUnused client → IsUnused target → HaveCarried AreRelayed client target
unused_relayed client target c t = record {
  of_client = carried fresh fresh;
  of_target = carried fresh fresh;
  by_client = unused_carried client c;
  by_target = unused_carried target t;
  related = (nothing_relayed, nothing_relayed);
}
