-- What an accept of a net in memory leaves of its links.
use Rattle.std.proofs.Common.{◌≡◌, true, List, [], ◌∷◌, Result, Ok, Err, Bool, IfOk, OnErr, refl}
use Rattle.std.proofs.lemmas.Bool.{and_parts}
use Rattle.nio_base.specs.declared.numbers.ChanId.{ChanId}
use Rattle.nio_bytes.specs.Calls.{after_success}
use Rattle.nio_link.proofs.MemoryLaws.{free_parts, put_carried}
use Rattle.nio_link.specs.MemoryLinks.{LinkState}
use Rattle.nio_link.specs.MemoryNet.{AreFresh, NetState, after_accept, after_failed_accept, can_accept, is_free, with_client}
use Rattle.nio_link.specs.Places.{is_listening, places_after}
use Rattle.nio_link.specs.Slots.{ArePast, carried_at}
use Rattle.nio_link.specs.declared.net.Failed.{Failed}

module _ (s : NetState) (listener c : ChanId) where
  carried_with : (clients : List LinkState) → AreFresh clients → ArePast s.slots s.past → can_accept s listener c ≡ true
      → (k : ChanId) → let now = with_client clients listener c (record s { accepts = after_success s.accepts }) in
      carried_at now.slots now.past k ≡ carried_at s.slots s.past k
  carried_with [] fresh spent able k = refl
  carried_with (l ∷ later) fresh spent able k =
      let can = (and_parts (is_listening (places_after s.changes listener).standing) (is_free s c) able).1 in
      let parts = free_parts s c can in
      put_carried s.slots s.past c l parts.0 parts.1 spent fresh.0 k

  -- nothing is carried by it
  pub accept_carries : (now : NetState) (result : Result Bool Failed) → AreFresh s.clients → ArePast s.slots s.past
      → IfOk result (λ _. can_accept s listener c ≡ true) → IfOk result (λ _. now ≡ after_accept s listener c)
      → OnErr result (now ≡ after_failed_accept s listener)
      → (k : ChanId) → carried_at now.slots now.past k ≡ carried_at s.slots s.past k
  accept_carries now (Ok made) fresh spent able ok err k = rw ok (carried_with s.clients fresh spent able k)
  accept_carries now (Err failed) fresh spent able ok err k = rw err refl
