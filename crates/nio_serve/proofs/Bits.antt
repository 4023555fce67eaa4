-- Operations that are within others.
use Rattle.std.proofs.Common.{◌≡◌, ℕ, Result, Ok, Err, IsTrue, bit_and, sym, ap, subst, ◌∙◌, eq-eqb, eqb-true}
use Rattle.std.proofs.lemmas.Nat.{and_assoc, and_comm}
use Rattle.nio_base.specs.Ops.{is_within}
use Rattle.nio_link.specs.Readiness.{without, ready_after_read, ready_after_write}
use Rattle.nio_link.specs.declared.net.Failed.{Failed}
use Rattle.nio_link.specs.declared.net.Got.{Got}
use Rattle.nio_link.specs.declared.net.Got.TheVariants as got
use Rattle.nio_link.specs.declared.net.Put.{Put}
use Rattle.nio_link.specs.declared.net.Put.TheVariants as put

-- WRITE stays where READ is taken away
pub keeps_write : (r : ℕ) → IsTrue (is_within 4 r) → IsTrue (is_within 4 (without 1 r))
keeps_write r within = eq-eqb (bit_and 4 (bit_and r 254)) 4
    (ap (bit_and 4) (and_comm r 254) ∙ sym (and_assoc r 4 254) ∙ eqb-true (bit_and 4 r) 4 within)

-- READ stays where WRITE is taken away
pub keeps_read : (r : ℕ) → IsTrue (is_within 1 r) → IsTrue (is_within 1 (without 4 r))
keeps_read r within = eq-eqb (bit_and 1 (bit_and r 251)) 1
    (ap (bit_and 1) (and_comm r 251) ∙ sym (and_assoc r 1 251) ∙ eqb-true (bit_and 1 r) 1 within)

pub same_within : (a before now : ℕ) → now ≡ before → IsTrue (is_within a before) → IsTrue (is_within a now)
same_within a before now same within = subst (λ x. IsTrue (is_within a x)) (sym same) within

-- WRITE stays at a read
pub read_keeps_write : (result : Result Got Failed) (before now : ℕ) → now ≡ ready_after_read result before
    → IsTrue (is_within 4 before) → IsTrue (is_within 4 now)
read_keeps_write (Ok (got.Bytes n)) before now ready within = same_within 4 before now ready within
read_keeps_write (Ok got.End) before now ready within = same_within 4 before now ready within
read_keeps_write (Ok got.NotYet) before now ready within =
    same_within 4 (without 1 before) now ready (keeps_write before within)
read_keeps_write (Err failed) before now ready within = same_within 4 before now ready within

-- READ stays at a write
pub write_keeps_read : (result : Result Put Failed) (before now : ℕ) → now ≡ ready_after_write result before
    → IsTrue (is_within 1 before) → IsTrue (is_within 1 now)
write_keeps_read (Ok (put.Bytes n)) before now ready within = same_within 1 before now ready within
write_keeps_read (Ok put.NotYet) before now ready within =
    same_within 1 (without 4 before) now ready (keeps_read before within)
write_keeps_read (Err failed) before now ready within = same_within 1 before now ready within
