-- Tickets in their seats.
use Rattle.std.proofs.Common.{◌≡◌, ℕ, ◌+◌, ◌≤◌, zero, suc, Bool, true, false, cond, eqb, List, [], ◌∷◌, ◌++◌}
use Rattle.std.proofs.Common.{Option, Some, None, is_some, get_or, set, length, replicate, reverse, refl, sym, ap, ◌∙◌}
use Rattle.std.proofs.Common.{subst, arith}
use Rattle.std.proofs.lemmas.Bool.{false≢true, eqb-true}
use Rattle.std.proofs.lemmas.List.{length_push, length-set}
use Rattle.nio_group.proofs.IndexLemmas.{count_by-cons}
use Rattle.nio_group.proofs.TableLemmas.{by_test}
use Rattle.nio_group.specs.declared.operation.Operation.{Operation}
use Rattle.nio_future.specs.Desk.{DeskState, held_at, is_out}
use Rattle.nio_future.specs.Round.{Polls, results_of}
use Rattle.nio_future.specs.Ticket.{Ticket}
use Rattle.nio_future.specs.Tickets.{AreMadeHere, AreTicketsOf, tickets_of}
use Rattle.nio_future.specs.declared.round.Hand.{Hand}
use Rattle.nio_future.proofs.RoundLemmas.{reverse-push}
use Rattle.nio_future.proofs.TicketLemmas.{bit}
use Rattle.nio_tickets.specs.Seats.{Taken, TakesOut, seated, seating_all, seating_held, AreSeated}

-- empty seats are any desk's
pub empty_seats : (d : DeskState) (seats : List (Option Ticket)) → seated seats ≡ [] → AreSeated d seats
empty_seats d seats none =
    subst (λ (ts : List Ticket). AreTicketsOf d ts) (sym none) (record { made_here = tt; each = λ n. omega arith })

pub none_seated : (k : ℕ) → seated (replicate k None) ≡ []
none_seated zero = refl
none_seated (suc k) = none_seated k

tickets-cons : (n : ℕ) (t : Ticket) (ts : List Ticket)
    → tickets_of n (t ∷ ts) ≡ cond (eqb t.op.0 n) 1 0 + tickets_of n ts
tickets-cons n t ts = count_by-cons {X = Ticket} (λ (u : Ticket). eqb u.op.0 n) t ts

-- ---- how many tickets of an operation are seated

count-put : (n : ℕ) (seats : List (Option Ticket)) (i : ℕ) (t : Ticket)
    → tickets_of n (seated (set seats i (Some t))) ≤ tickets_of n (t ∷ seated seats)
count-put n [] i t = omega arith
count-put n (None ∷ seats) zero t = omega arith
count-put n (Some u ∷ seats) zero t =
    omega (arith, tickets-cons n t (seated seats), tickets-cons n t (u ∷ seated seats), tickets-cons n u (seated seats))
count-put n (None ∷ seats) (suc i) t = count-put n seats i t
count-put n (Some u ∷ seats) (suc i) t =
    let rest = count-put n seats i t in
    omega (
      arith,
      rest,
      tickets-cons n u (seated (set seats i (Some t))),
      tickets-cons n t (u ∷ seated seats),
      tickets-cons n t (seated seats),
      tickets-cons n u (seated seats),
    )

count-taken : (n : ℕ) (seats : List (Option Ticket)) (i : ℕ) (t : Ticket) → get_or seats i None ≡ Some t
    → tickets_of n (t ∷ seated (set seats i None)) ≡ tickets_of n (seated seats)
count-taken n [] i t is = absurd (let none_there : ⊥ = cc in none_there)
count-taken n (None ∷ seats) zero t is = absurd (let none_there : ⊥ = cc in none_there)
count-taken n (Some u ∷ seats) zero t is =
    let same : u ≡ t = cc in
    ap (λ (v : Ticket). tickets_of n (v ∷ seated seats)) (sym same)
count-taken n (None ∷ seats) (suc i) t is = count-taken n seats i t is
count-taken n (Some u ∷ seats) (suc i) t is =
    let rest = count-taken n seats i t is in
    omega (
      arith,
      rest,
      tickets-cons n t (u ∷ seated (set seats i None)),
      tickets-cons n u (seated (set seats i None)),
      tickets-cons n t (seated (set seats i None)),
      tickets-cons n u (seated seats),
    )

-- ---- where they were made

made-put : (source : ℕ) (seats : List (Option Ticket)) (i : ℕ) (t : Ticket) → t.desk ≡ source ∷ []
    → AreMadeHere source (seated seats) → AreMadeHere source (seated (set seats i (Some t)))
made-put source [] i t here made = tt
made-put source (None ∷ seats) zero t here made = (here, made)
made-put source (Some u ∷ seats) zero t here made = (here, made.1)
made-put source (None ∷ seats) (suc i) t here made = made-put source seats i t here made
made-put source (Some u ∷ seats) (suc i) t here made = (made.0, made-put source seats i t here made.1)

made-left : (source : ℕ) (seats : List (Option Ticket)) (i : ℕ) → AreMadeHere source (seated seats)
    → AreMadeHere source (seated (set seats i None))
made-left source [] i made = tt
made-left source (None ∷ seats) zero made = made
made-left source (Some u ∷ seats) zero made = made.1
made-left source (None ∷ seats) (suc i) made = made-left source seats i made
made-left source (Some u ∷ seats) (suc i) made = (made.0, made-left source seats i made.1)

made-at : (source : ℕ) (seats : List (Option Ticket)) (i : ℕ) (t : Ticket) → get_or seats i None ≡ Some t
    → AreMadeHere source (seated seats) → t.desk ≡ source ∷ []
made-at source [] i t is made = absurd (let none_there : ⊥ = cc in none_there)
made-at source (None ∷ seats) zero t is made = absurd (let none_there : ⊥ = cc in none_there)
made-at source (Some u ∷ seats) zero t is made =
    let same : u ≡ t = cc in
    subst (λ (v : Ticket). v.desk ≡ source ∷ []) same made.0
made-at source (None ∷ seats) (suc i) t is made = made-at source seats i t is made
made-at source (Some u ∷ seats) (suc i) t is made = made-at source seats i t is made.1

-- ---- the seats of a desk

-- a ticket takes a seat; one that was there is left out
pub put : (d : DeskState) (seats : List (Option Ticket)) (i : ℕ) (t : Ticket) → AreTicketsOf d (t ∷ seated seats)
    → AreSeated d (set seats i (Some t))
put d seats i t tickets =
    record {
      made_here = made-put d.source seats i t tickets.made_here.0 tickets.made_here.1;
      each = λ n.
          let few = tickets.each n in
          omega (arith, few, count-put n seats i t);
    }

-- ---- tickets beside those in their seats

tickets-append : (n : ℕ) (xs ys : List Ticket) → tickets_of n (xs ++ ys) ≡ tickets_of n xs + tickets_of n ys
tickets-append n [] ys = omega arith
tickets-append n (x ∷ xs) ys =
    omega (arith, tickets-append n xs ys, tickets-cons n x (xs ++ ys), tickets-cons n x xs)

made-append : (source : ℕ) (xs ys : List Ticket) → AreMadeHere source xs → AreMadeHere source ys
    → AreMadeHere source (xs ++ ys)
made-append source [] ys first second = second
made-append source (x ∷ xs) ys first second = (first.0, made-append source xs ys first.1 second)

made-front : (source : ℕ) (xs ys : List Ticket) → AreMadeHere source (xs ++ ys) → AreMadeHere source xs
made-front source [] ys made = tt
made-front source (x ∷ xs) ys made = (made.0, made-front source xs ys made.1)

made-back : (source : ℕ) (xs ys : List Ticket) → AreMadeHere source (xs ++ ys) → AreMadeHere source ys
made-back source [] ys made = made
made-back source (x ∷ xs) ys made = made-back source xs ys made.1

-- those beside alone
pub beside : (d : DeskState) (ts : List Ticket) (seats : List (Option Ticket)) → AreTicketsOf d (ts ++ seated seats)
    → AreTicketsOf d ts
beside d ts seats are =
    record {
      made_here = made-front d.source ts (seated seats) are.made_here;
      each = λ n.
          let few = are.each n in
          omega (arith, few, tickets-append n ts (seated seats));
    }

-- no more tickets than seats
pub seated-le : (seats : List (Option Ticket)) → length (seated seats) ≤ length seats
seated-le [] = omega arith
seated-le (None ∷ seats) = omega (arith, seated-le seats)
seated-le (Some t ∷ seats) = omega (arith, seated-le seats)

-- ---- tickets that are moved out of their seats

seated-none : (seats : List (Option Ticket)) (i : ℕ) → get_or seats i None ≡ None
    → seated (set seats i None) ≡ seated seats
seated-none [] i is = refl
seated-none (None ∷ seats) zero is = refl
seated-none (Some u ∷ seats) zero is = absurd (let one_there : ⊥ = cc in one_there)
seated-none (None ∷ seats) (suc i) is = seated-none seats i is
seated-none (Some u ∷ seats) (suc i) is = ap (λ (ts : List Ticket). u ∷ ts) (seated-none seats i is)

pub length-taken : (seats : List (Option Ticket)) (i : ℕ) (t : Ticket) → get_or seats i None ≡ Some t
    → length (seated (set seats i None)) + 1 ≡ length (seated seats)
length-taken [] i t is = absurd (let none_there : ⊥ = cc in none_there)
length-taken (None ∷ seats) zero t is = absurd (let none_there : ⊥ = cc in none_there)
length-taken (Some u ∷ seats) zero t is = omega arith
length-taken (None ∷ seats) (suc i) t is = length-taken seats i t is
length-taken (Some u ∷ seats) (suc i) t is = omega (arith, length-taken seats i t is)

pub moves_some : (seats : List (Option Ticket)) (ts : List Ticket) (i : ℕ) (t : Ticket) → get_or seats i None ≡ Some t
    → TakesOut (record { seats = seats; tickets = ts }) (record { seats = set seats i None; tickets = ts ++ t ∷ [] })
moves_some seats ts i t is =
    record {
      tickets = λ d were.
          let in_seats = made-back d.source ts (seated seats) were.made_here in
          record {
            made_here = made-append d.source (ts ++ t ∷ []) (seated (set seats i None))
                (made-append d.source ts (t ∷ []) (made-front d.source ts (seated seats) were.made_here)
                (made-at d.source seats i t is in_seats, tt))
                (made-left d.source seats i in_seats);
            each = λ n.
                let few = were.each n in
                omega (
                  arith,
                  few,
                  tickets-append n ts (seated seats),
                  tickets-append n (ts ++ t ∷ []) (seated (set seats i None)),
                  tickets-append n ts (t ∷ []),
                  count-taken n seats i t is,
                  tickets-cons n t (seated (set seats i None)),
                  tickets-cons n t [],
                );
          };
      count = omega (arith, length_push ts t, length-taken seats i t is);
      seats = length-set seats i None;
    }

pub takes_more : (a b c : Taken) → TakesOut a b → TakesOut b c → TakesOut a c
takes_more a b c first second =
    record {
      tickets = λ d were. second.tickets d (first.tickets d were);
      count = second.count ∙ first.count;
      seats = second.seats ∙ first.seats;
    }

-- ---- tickets that came back

pub puts_back : (d : DeskState) (ts : List Ticket) (seats : List (Option Ticket)) (i : ℕ) (t : Ticket)
    → AreTicketsOf d ((ts ++ t ∷ []) ++ seated seats) → AreTicketsOf d (ts ++ seated (set seats i (Some t)))
puts_back d ts seats i t were =
    let beside = made-front d.source (ts ++ t ∷ []) (seated seats) were.made_here in
    record {
      made_here = made-append d.source ts (seated (set seats i (Some t))) (made-front d.source ts (t ∷ []) beside)
          (made-put d.source seats i t (made-back d.source ts (t ∷ []) beside).0
          (made-back d.source (ts ++ t ∷ []) (seated seats) were.made_here));
      each = λ n.
          let few = were.each n in
          omega (
            arith,
            few,
            tickets-append n (ts ++ t ∷ []) (seated seats),
            tickets-append n ts (t ∷ []),
            tickets-append n ts (seated (set seats i (Some t))),
            count-put n seats i t,
            tickets-cons n t (seated seats),
            tickets-cons n t [],
          );
    }

-- the last ticket takes its seat, and then the others
pub next_seated : (d : DeskState) (seats now : List (Option Ticket)) (all init : List Ticket) (t : Ticket)
    → all ≡ init ++ t ∷ [] → now ≡ seating_held seats (held_at d t.op.0) t
    → seating_all d now (reverse init) ≡ seating_all d seats (reverse all)
next_seated d seats now all init t is takes = rw (is, reverse-push init t, takes) refl

-- ---- a round

bit-le : (b : Bool) → bit b ≤ 1
bit-le true = omega arith
bit-le false = omega arith

some-where : (k : ℕ) → eqb k 0 ≡ false → 1 ≤ k
some-where zero f = absurd (false≢true (sym f))
some-where (suc k) f = omega arith

-- the tickets that came back, and those that stayed in their seats, are the desk's after a round
pub polled_seated : (before after : Hand) (seats : List (Option Ticket)) → Polls before after
    → AreTicketsOf before.desk (before.tickets.items ++ seated seats)
    → AreTicketsOf after.desk (after.still.items ++ seated seats)
polled_seated before after seats polls were =
    let still = after.still.items in
    let ready = after.ready.items in
    let first = before.tickets.items in
    record {
      made_here = made-append after.desk.source still (seated seats) polls.tickets.made_here
          (subst (λ (s : ℕ). AreMadeHere s (seated seats)) (sym polls.same_source)
          (made-back before.desk.source first (seated seats) were.made_here));
      each = λ n.
          let few = were.each n in
          let sums = polls.each n in
          let held = polls.held n in
          by_test (eqb (results_of n ready) 0)
          (λ t.
          let same : bit (is_out after.desk n) ≡ bit (is_out before.desk n) =
          ap (λ (o : Option Operation). bit (is_some o))
          (held ∙ ap (λ (b : Bool). cond b (held_at before.desk n) None) t) in
          omega (
            arith,
            few,
            sums,
            same,
            eqb-true (results_of n ready) 0 t,
            tickets-append n first (seated seats),
            tickets-append n still (seated seats),
          ))
          (λ f.
          omega (
            arith,
            few,
            sums,
            bit-le (is_out before.desk n),
            some-where (results_of n ready) f,
            tickets-append n first (seated seats),
            tickets-append n still (seated seats),
          ));
    }
