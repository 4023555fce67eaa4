-- No call takes a seat away.
use Rattle.std.proofs.Common.{◌≡◌, ℕ, Bool, true, false, cond, eqb, List, [], ◌∷◌, Option, Some, Result, Ok, Err}
use Rattle.std.proofs.Common.{length, refl, ◌∙◌}
use Rattle.std.proofs.lemmas.List.{length-set}
use Rattle.nio_base.specs.declared.numbers.GChan.{GChan}
use Rattle.nio_base.specs.declared.group.Finished.{Finished}
use Rattle.nio_base.specs.declared.group.GKind.TheVariants.{Stream}
use Rattle.nio_base.specs.declared.group.OpKind.{OpKind}
use Rattle.nio_base.specs.declared.group.OpKind.TheVariants.{Accept, Connect}
use Rattle.nio_group.specs.Group.{is_made}
use Rattle.nio_group.specs.Run as run
use Rattle.nio_group.specs.Steps.{answer_to_open}
use Rattle.nio_group.specs.declared.refusal.StartError.{StartError}
use Rattle.nio_future.specs.Desk.{place_of}
use Rattle.nio_future.specs.Steps.{answer_to_start}
use Rattle.nio_future.specs.Ticket.{Ticket}
use Rattle.nio_link.specs.Jobs.{of_net}
use Rattle.nio_jobs.specs.Handling.{after_accepted_as, after_done, after_next}
use Rattle.nio_jobs.specs.Handling.{after_result, after_round, starting, starting_some}
use Rattle.nio_jobs.specs.Next.{listener, next_after, start_of}
use Rattle.nio_jobs.specs.declared.exchange.Done.{Done}
use Rattle.nio_jobs.specs.declared.exchange.Done.TheVariants as done
use Rattle.nio_jobs.specs.declared.next.Next.{Next}
use Rattle.nio_jobs.specs.declared.next.Next.TheVariants as next
use Rattle.nio_jobs.specs.declared.next.Start.{Start}
use Rattle.nio_tickets.specs.Office.{OfficeState, after_call, of_office, with_ticket}

-- there are so many seats
abbrev pub Has : ℕ → OfficeState → Type 0
Has count o = length o.seats ≡ count

has-either : (count : ℕ) (b : Bool) (o p : OfficeState) → Has count o → Has count p → Has count (cond b o p)
has-either count true o p first second = first
has-either count false o p first second = second

with-count : (r : Result Ticket StartError) (seats : List (Option Ticket)) (chan : GChan) (kind : OpKind)
    → length (with_ticket r seats chan kind) ≡ length seats
with-count (Ok t) seats chan kind = length-set seats (place_of chan kind) (Some t)
with-count (Err refused) seats chan kind = refl

has-call : (count : ℕ) (o : OfficeState) (call : run.Call) → Has count o → Has count (after_call o call)
has-call count o (run.open_channel kind) has = has
has-call count o (run.bind chan) has = has
has-call count o (run.start chan kind len) has = with-count (answer_to_start o.desk chan kind) o.seats chan kind ∙ has
has-call count o (run.report op outcome) has = has
has-call count o run.take has = has
has-call count o (run.finish op) has = has
has-call count o (run.close_channel chan) has = has
has-call count o run.shutdown has = has
has-call count o run.shutdown_now has = has

has-starting : (count : ℕ) (o : OfficeState) (start : Start) → Has count o → Has count (starting of_office o start)
has-starting count o start has =
    has-either count (is_made o.desk.group start.chan)
    (after_call o (run.start start.chan start.kind start.len)) o
    (has-call count o (run.start start.chan start.kind start.len) has) has

has-starting_some : (count : ℕ) (o : OfficeState) (start : Start) → Has count o
    → Has count (starting_some of_office o start)
has-starting_some count o start has =
    has-either count (eqb start.len 0) o (starting of_office o start) has (has-starting count o start has)

has-accepted : (count : ℕ) (o : OfficeState) (answer : Result GChan StartError) → Has count o
    → Has count (after_accepted_as of_office o answer)
has-accepted count o (Ok target) has =
    let opened = after_call o (run.open_channel Stream) in
    has-starting count (starting of_office opened (start_of target Connect 0)) (start_of listener Accept 0)
    (has-starting count opened (start_of target Connect 0) has)
has-accepted count o (Err refused) has = has

has-next : (count : ℕ) (o : OfficeState) (due : Next) → Has count o → Has count (after_next of_office o due)
has-next count o next.Nothing has = has
has-next count o next.Accepted has = has-accepted count o (answer_to_open o.desk.group Stream) has
has-next count o (next.Both first second) has =
    has-starting_some count (starting_some of_office o first) second (has-starting_some count o first has)

pub has-result : (count : ℕ) (held : List ℕ) (o : OfficeState) (chan : GChan) (kind : OpKind) (finished : Finished)
    → Has count o → Has count (after_result of_office held o chan kind finished)
has-result count held o chan kind finished has =
    let due = next_after held chan kind finished in
    has-either count (is_made o.desk.group chan) (after_next of_office o due) o (has-next count o due has) has

has-done : (count : ℕ) (o : OfficeState) (one : Done) → Has count o → Has count (after_done of_office o one)
has-done count o (done.Outcome op outcome) has = has
has-done count o (done.Again chan kind) has = has
has-done count o (done.Closed chan) has =
    has-either count (is_made o.desk.group (of_net chan)) (after_call o (run.close_channel (of_net chan))) o has has

pub has-round : (count : ℕ) (o : OfficeState) (reports : List Done) → Has count o
    → Has count (after_round of_office o reports)
has-round count o [] has = has
has-round count o (one ∷ reports) has =
    has-round count (after_done of_office o one) reports (has-done count o one has)
