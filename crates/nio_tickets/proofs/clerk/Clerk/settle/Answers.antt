use Rattle.std.proofs.Common.{rules, refl, length, ap, ◌∙◌, arith}
use Rattle.nio_tickets.specs.Office.{OfficeState}
use Rattle.nio_tickets.specs.Rest.{IsAtRest}
use Rattle.nio_tickets.proofs.Counting.{has-round}
use Rattle.nio_tickets.proofs.clerk.Clerk.settle.Goals as goal

pub poll_and_start-rest-requires : goal.poll_and_start-rest-requires
poll_and_start-rest-requires c =
    let rest = c.unwrap-rest.result in
    let were : IsAtRest rest = search rules in
    let same = ap (λ (o : OfficeState). length o.seats) c.report_all.ensures.after
    ∙ has-round (length rest.office.seats) rest.office c.deref.result.now refl in
    record {
      rest = record {
        none_taken = were.none_taken;
        none_still = were.none_still;
        none_ready = were.none_ready;
        room = omega (arith, same, were.room);
        still_room = omega (arith, same, were.still_room);
        ready_room = omega (arith, same, were.ready_room);
      };
    }
