-- What a selection told, while it is served: the channels from some number on aren't served yet.
use Rattle.std.proofs.Common.{◌≡◌, ℕ, ◌<◌, ◌≤◌, List, length, slice_index_or, IsTrue, sym, subst, arith}
use Rattle.std.proofs.lemmas.List.{get_or_default}
use Rattle.std.proofs.lemmas.List.Elements.{All-get_or}
use Rattle.nio_base.specs.declared.numbers.ChanNo.{ChanNo}
use Rattle.nio_base.specs.Ops.{is_within}
use Rattle.nio_board.specs.Board.{AreOrdered, AreReady}

-- the number at a later index isn't less
rises : (told : List (ChanNo × ℕ)) (i j : ℕ) (d e : ChanNo × ℕ) → AreOrdered told → i ≤ j → j < length told
    → (slice_index_or told i d).0.0 ≤ (slice_index_or told j e).0.0
rises told i j d e ordered from within =
    subst (λ (x : ChanNo × ℕ). (slice_index_or told i d).0.0 ≤ x.0.0) (get_or_default told j d e within)
    (ordered i j d from within)

-- what stands at a later index is still ready, where the channel at the index i isn't served yet
pub still_ready : (before now : ChanNo → ℕ) (told : List (ChanNo × ℕ)) (unserved i j : ℕ) (one next : ChanNo × ℕ)
    → AreReady before told → AreOrdered told → ((c : ChanNo) → unserved ≤ c.0 → now c ≡ before c)
    → one ≡ slice_index_or told i one → unserved ≤ one.0.0 → i ≤ j → j < length told
    → next ≡ slice_index_or told j next → IsTrue (is_within next.1 (now next.0))
still_ready before now told unserved i j one next ready ordered same is unserved_one from within next_is =
    let first : unserved ≤ (slice_index_or told i one).0.0
    = subst (λ (x : ChanNo × ℕ). unserved ≤ x.0.0) is unserved_one in
    let second : unserved ≤ (slice_index_or told j next).0.0
    = omega (arith, first, rises told i j one next ordered from within) in
    let unserved_next : unserved ≤ next.0.0 = subst (λ (x : ChanNo × ℕ). unserved ≤ x.0.0) (sym next_is) second in
    let was : IsTrue (is_within next.1 (before next.0))
    = subst (λ (x : ChanNo × ℕ). IsTrue (is_within x.1 (before x.0))) (sym next_is)
    (All-get_or (λ (x : ChanNo × ℕ). IsTrue (is_within x.1 (before x.0))) told j next within ready) in
    subst (λ ops. IsTrue (is_within next.1 ops)) (sym (same next.0 unserved_next)) was
