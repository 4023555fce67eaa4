-- What a poll told of a key, its channel is ready for.
use Rattle.std.proofs.Common.{◌≡◌, ℕ, suc, ◌+◌, ◌<◌, ◌≤◌, IsTrue, List, [], ◌∷◌, ◌++◌, length}
use Rattle.std.proofs.Common.{refl, ap, sym, subst, append_assoc, arith}
use Rattle.std.proofs.lemmas.List.Elements.{All-cons, All-nil}
use Rattle.nio_base.specs.declared.numbers.ChanNo.{ChanNo}
use Rattle.nio_select.proofs.KeysTo.{fewer_below}
use Rattle.nio_poller.proofs.Marks.{bits_in_channel}
use Rattle.nio_poller.specs.Polls.{told_of_channel}
use Rattle.nio_select.specs.Asked.{keys_to}
use Rattle.nio_steps.proofs.Lists.{contains-middle}
use Rattle.nio_base.specs.Ops.{is_within}
use Rattle.nio_steps.specs.SelectCalls.{told_bits}
use Rattle.nio_steps.specs.declared.looked.LookedKey.{LookedKey}
use Rattle.nio_checked.proofs.Keeping.{ready_same}
use Rattle.nio_checked.specs.Listed.{AreReady, listed}

-- ---- of one key more

pub listed_more : (pairs : List (ℕ × ℕ)) (key : LookedKey) (before : List LookedKey)
    → listed pairs (before ++ key ∷ []) ≡ listed pairs before ++ (key.channel, told_bits pairs key) ∷ []
listed_more pairs key [] = refl
listed_more pairs key (first ∷ before) =
    ap (λ told. (first.channel, told_bits pairs first) ∷ told) (listed_more pairs key before)

listed_length : (pairs : List (ℕ × ℕ)) (asked : List LookedKey) → length (listed pairs asked) ≡ length asked
listed_length pairs [] = refl
listed_length pairs (key ∷ later) = ap suc (listed_length pairs later)

-- while the keys are walked, there is room for that of the next
pub room_for_next : (pairs : List (ℕ × ℕ)) (index : ℕ) (key : LookedKey) (keys : List LookedKey)
    (told : List (ChanNo × ℕ)) (room : ℕ) → told ≡ listed pairs (keys_to index keys)
    → keys_to (index + 1) keys ≡ keys_to index keys ++ key ∷ [] → length keys ≤ room → length told < room
room_for_next pairs index key keys told room is next enough =
    omega (arith, ap length is, listed_length pairs (keys_to index keys), fewer_below index key keys next, enough)

-- ---- readiness

listed_later : (pairs : List (ℕ × ℕ)) (past later : List LookedKey)
    → AreReady (told_of_channel (past ++ later) pairs) (listed pairs later)
listed_later pairs past [] = All-nil (λ x. IsTrue (is_within x.1 (told_of_channel (past ++ []) pairs x.0)))
listed_later pairs past (key ∷ later) =
    All-cons (λ x. IsTrue (is_within x.1 (told_of_channel (past ++ key ∷ later) pairs x.0)))
    (key.channel, told_bits pairs key) (listed pairs later)
    (bits_in_channel (past ++ key ∷ later) pairs key (contains-middle past key later))
    (subst (λ (keys : List LookedKey). AreReady (told_of_channel keys pairs) (listed pairs later))
    (append_assoc past (key ∷ []) later) (listed_later pairs (past ++ key ∷ []) later))

-- each listed channel is ready for what is listed
pub listed_ready : (pairs : List (ℕ × ℕ)) (asked : List LookedKey)
    → AreReady (told_of_channel asked pairs) (listed pairs asked)
listed_ready pairs asked = listed_later pairs [] asked

pub polled_ready : (ready : ChanNo → ℕ) (pairs : List (ℕ × ℕ)) (asked : List LookedKey) (told : List (ChanNo × ℕ))
    → told ≡ listed pairs asked → ((c : ChanNo) → ready c ≡ told_of_channel asked pairs c) → AreReady ready told
polled_ready ready pairs asked told is same =
    ready_same (told_of_channel asked pairs) ready told same
    (subst (AreReady (told_of_channel asked pairs)) (sym is) (listed_ready pairs asked))
