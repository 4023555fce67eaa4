-- Links that are handed over, and the targets of their peers.
use Rattle.std.proofs.Common.{◌≡◌, ℕ, zero, suc, ◌+◌, ◌<◌, ◌≤◌, ◌⊎◌, inl, inr, Bool, true, false, not, Option, Some}
use Rattle.std.proofs.Common.{None, option_map}
use Rattle.std.proofs.Common.{IfSome, List, [], ◌∷◌, ◌++◌, length, get_or, ap, sym}
use Rattle.std.proofs.Common.{◌∙◌, arith, true≢false}
use Rattle.std.proofs.lemmas.List.Sums.{prefix_len-le-length, prefix_len_passes, prefix_len_stops}
use Rattle.std.specs.List.{slice_get, remove}
use Rattle.std.specs.Option.{option_to_list}
use Rattle.nio_base.specs.declared.numbers.ChanId.{ChanId}
use Rattle.nio_link.specs.MemoryLinks.{LinkState, IsFresh, is_same_peer}
use Rattle.nio_link.specs.Links.{IsUnused}
use Rattle.nio_link.specs.MemoryNet.{AreFresh, target_place, target_beside, other_targets, end_under}
use Rattle.nio_link.specs.Slots.{carried_at, carried_before, carried_by, link_at}
use Rattle.nio_link.specs.declared.memory.slot.PastLink.{PastLink}
use Rattle.nio_link.specs.declared.memory.peer_no.PeerNo.{PeerNo}
use Rattle.nio_link.specs.declared.memory.slot.Slot.{Slot}

-- ---- finding a target

module _ (targets : List LinkState) (peer : PeerNo) where
  abbrev is_other : LinkState → Bool
  is_other l = not (is_same_peer l.peer peer)

  in_order : (m n : ℕ) → (m < n) ⊎ (m ≡ n) ⊎ (n < m)
  in_order m n = grind arith

  pub place_within : target_place targets peer ≤ length targets
  place_within = prefix_len-le-length is_other targets

  module _ (i : ℕ) (x : LinkState) (so_far : i ≤ target_place targets peer) (is : x ≡ get_or targets i x) where
    pub found : is_same_peer x.peer peer ≡ true → i ≡ target_place targets peer
    found same = by_order (in_order i (target_place targets peer))
      where
        by_order : (i < target_place targets peer) ⊎ (i ≡ target_place targets peer) ⊎ (target_place targets peer < i)
            → i ≡ target_place targets peer
        by_order (inl before) =
            let passes : is_other (get_or targets i x) ≡ true = prefix_len_passes is_other targets i x before in
            absurd (true≢false (sym passes ∙ ap is_other (sym is) ∙ ap not same))
        by_order (inr (inl there)) = there
        by_order (inr (inr beyond)) = absurd (omega arith)

    pub not_found : i < length targets → is_same_peer x.peer peer ≡ false → i + 1 ≤ target_place targets peer
    not_found within other = by_order (in_order i (target_place targets peer))
      where
        by_order : (i < target_place targets peer) ⊎ (i ≡ target_place targets peer) ⊎ (target_place targets peer < i)
            → i + 1 ≤ target_place targets peer
        by_order (inl before) = omega arith
        by_order (inr (inl there)) =
            let stops : is_other (get_or targets (target_place targets peer) x) ≡ false =
            prefix_len_stops is_other targets x (omega arith) in
            let same : is_other (get_or targets i x) ≡ false =
            ap (λ n. is_other (get_or targets n x)) there ∙ stops in
            absurd (true≢false (sym (ap not other) ∙ ap is_other is ∙ same))
        by_order (inr (inr beyond)) = absurd (omega arith)

-- ---- fresh targets

pub fresh_at : (targets : List LinkState) (i : ℕ) → AreFresh targets → IfSome (slice_get targets i) IsFresh
fresh_at [] i all = tt
fresh_at (l ∷ later) zero all = all.0
fresh_at (l ∷ later) (suc i) all = fresh_at later i all.1

pub fresh_without : (targets : List LinkState) (i : ℕ) → AreFresh targets → AreFresh (remove targets i)
fresh_without [] zero all = tt
fresh_without [] (suc i) all = tt
fresh_without (l ∷ later) zero all = all.1
fresh_without (l ∷ later) (suc i) all = (all.0, fresh_without later i all.1)

pub beside : (targets : List LinkState) (peer : PeerNo) → AreFresh targets
    → IfSome (target_beside targets peer) IsFresh
beside targets peer all = fresh_at targets (target_place targets peer) all

pub others : (targets : List LinkState) (peer : PeerNo) → AreFresh targets → AreFresh (other_targets targets peer)
others targets peer all = fresh_without targets (target_place targets peer) all

pub taken : (slots : List Slot) (past : List PastLink) (c : ChanId) → IsUnused (carried_at slots past c)
    → IfSome (link_at slots c) IsFresh
taken slots past c = by_link (link_at slots c)
  where
    by_link : (o : Option LinkState) → IsUnused (carried_by o (carried_before past c)) → IfSome o IsFresh
    by_link None unused = tt
    by_link (Some l) unused =
        record { got = unused.got; ended = unused.ended; put = unused.put; shut = unused.shut }

pub fresh_first : (c : ChanId) (target : Option LinkState) (targets : List LinkState) → IfSome target IsFresh
    → AreFresh targets → AreFresh (option_to_list (option_map (end_under c) target) ++ targets)
fresh_first c None targets fresh all = all
fresh_first c (Some l) targets fresh all =
    (record { got = fresh.got; ended = fresh.ended; put = fresh.put; shut = fresh.shut }, all)
