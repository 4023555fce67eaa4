-- What a channel stays ready for.
use Rattle.std.proofs.Common.{ℕ, Bool, true, false, Result, Ok, Err, IsTrue, bit_and, sym, ap, ◌∙◌, eq-eqb, eqb-true}
use Rattle.std.proofs.lemmas.Nat.{and_assoc, and_comm}
use Rattle.nio_link.specs.Readiness.{without}
use Rattle.nio_link.specs.declared.net.Failed.{Failed}
use Rattle.nio_base.specs.Ops.{is_within}
use Rattle.nio_datagram.specs.Readiness.{ready_after_receive, ready_after_send}
use Rattle.nio_datagram.specs.declared.net.Came.{Came}
use Rattle.nio_datagram.specs.declared.net.Came.TheVariants as came

-- WRITE stays where READ is taken away
keeps_write : (r : ℕ) → IsTrue (is_within 4 r) → IsTrue (is_within 4 (without 1 r))
keeps_write r within =
    eq-eqb (bit_and 4 (bit_and r 254)) 4
    (ap (bit_and 4) (and_comm r 254) ∙ sym (and_assoc r 4 254) ∙ eqb-true (bit_and 4 r) 4 within)

-- READ stays where WRITE is taken away
keeps_read : (r : ℕ) → IsTrue (is_within 1 r) → IsTrue (is_within 1 (without 4 r))
keeps_read r within =
    eq-eqb (bit_and 1 (bit_and r 251)) 1
    (ap (bit_and 1) (and_comm r 251) ∙ sym (and_assoc r 1 251) ∙ eqb-true (bit_and 1 r) 1 within)

-- WRITE stays at a receive
pub receive_keeps_write : (result : Result Came Failed) (r : ℕ) → IsTrue (is_within 4 r)
    → IsTrue (is_within 4 (ready_after_receive result r))
receive_keeps_write (Ok (came.Packet len from)) r within = within
receive_keeps_write (Ok came.NotYet) r within = keeps_write r within
receive_keeps_write (Err failed) r within = within

-- READ stays at a send
pub send_keeps_read : (result : Result Bool Failed) (r : ℕ) → IsTrue (is_within 1 r)
    → IsTrue (is_within 1 (ready_after_send result r))
send_keeps_read (Ok true) r within = within
send_keeps_read (Ok false) r within = keeps_read r within
send_keeps_read (Err failed) r within = within
