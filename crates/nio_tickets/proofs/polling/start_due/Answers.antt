use Rattle.std.proofs.Common.{◌≡◌, List, [], ◌∷◌, ◌++◌, length, reverse, refl, ap, ◌∙◌}
use Rattle.nio_future.specs.declared.round.TicketResult.{TicketResult}
use Rattle.nio_future.proofs.RoundLemmas.{reverse-push}
use Rattle.nio_tickets.specs.Handling.{ClerkState, after_results, after_ticket_result}
use Rattle.nio_tickets.specs.Office.{OfficeState}
use Rattle.nio_tickets.proofs.Counting.{has-result}
use Rattle.nio_tickets.proofs.polling.start_due.Goals as goal

-- the last result is gone on from, and then the others
next-result : (c now : ClerkState) (all init : List TicketResult) (one : TicketResult) → all ≡ init ++ one ∷ []
    → now ≡ after_ticket_result c one → after_results now (reverse init) ≡ after_results c (reverse all)
next-result c now all init one is goes = rw (is, reverse-push init one, goes) refl

pub loop-one-preserved : goal.loop-one-preserved
loop-one-preserved c =
    let before = c.loop-one.invariant in
    let one = c.in-Some.one in
    let was : ClerkState = record { office = c.loop-one.office; held = c.loop-one.streams.held } in
    let now : ClerkState = record { office = c.go_on.new.at; held = c.go_on.new.self.held } in
    let goes : now ≡ after_ticket_result was one = rw (c.go_on.ensures.after, c.go_on.ensures.held) refl in
    record {
      after = next-result was now c.loop-one.ready.items c.pop.new.self.items one c.in-Some.ensures.items goes
          ∙ before.after;
      count = ap (λ (o : OfficeState). length o.seats) c.go_on.ensures.after
          ∙ has-result (length c.args.office.now.seats) c.loop-one.streams.held c.loop-one.office one.chan one.kind
          one.finished before.count;
      capacity = c.in-Some.ensures.capacity ∙ before.capacity;
    }
