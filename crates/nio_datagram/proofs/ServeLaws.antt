-- What the rounds of a relay come to.
use Rattle.std.proofs.Common.{ℕ, ◌≤◌, inl, inr}
use Rattle.std.proofs.Common.{refl, ◌∙◌, arith}
use Rattle.nio_base.specs.declared.numbers.ChanId.{ChanId}
use Rattle.nio_datagram.proofs.Counting.{rose_from}
use Rattle.nio_datagram.specs.Nets.{PacketView}
use Rattle.nio_datagram.specs.Relaying.{Moves}
use Rattle.nio_datagram.specs.Serving.{client_chan, target_chan, OneRose}

-- ---- counts

pub one_rose_from : (f g h : ChanId → ℕ) (p q r : ℕ) → ((c : ChanId) → f c ≤ g c) → p ≤ q → OneRose g h q r
    → OneRose f h p r
one_rose_from f g h p q r later polls (inl rose) = inl (rose_from p q r polls rose)
one_rose_from f g h p q r later polls (inr (inl rose)) =
    inr (inl (rose_from (f client_chan) (g client_chan) (h client_chan) (later client_chan) rose))
one_rose_from f g h p q r later polls (inr (inr rose)) =
    inr (inr (rose_from (f target_chan) (g target_chan) (h target_chan) (later target_chan) rose))

-- ---- moves

pub moves_none : (x : PacketView) → Moves x x
moves_none x = record {
  traffic = λ c not_client not_target. refl;
  faults = λ c not_client not_target. refl;
  later = λ c. omega arith;
  places = λ c. refl;
  polls = omega arith;
}

pub moves_then : (x y z : PacketView) → Moves x y → Moves y z → Moves x z
moves_then x y z one two = record {
  traffic = λ c not_client not_target. two.traffic c not_client not_target ∙ one.traffic c not_client not_target;
  faults = λ c not_client not_target. two.faults c not_client not_target ∙ one.faults c not_client not_target;
  later = λ c. let first = one.later c in let second = two.later c in omega arith;
  places = λ c. two.places c ∙ one.places c;
  polls = let first = one.polls in let second = two.polls in omega arith;
}
