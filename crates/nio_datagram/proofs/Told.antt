-- What was told of a channel, while the keys that were asked for are walked.
use Rattle.std.proofs.Common.{◌≡◌, ℕ, ◌+◌, ◌<◌, ◌==◌, if◌then◌else◌, List, [], ◌∷◌, ◌++◌, length, get_or, take, bit_or, ap, ◌∙◌}
use Rattle.std.proofs.lemmas.List.{take_more}
use Rattle.std.proofs.lemmas.List.Sums.{fold-append}
use Rattle.nio_base.specs.declared.numbers.ChanNo.{ChanNo}
use Rattle.nio_poller.specs.Polls.{told_of_channel}
use Rattle.nio_steps.specs.SelectCalls.{told_at}
use Rattle.nio_steps.specs.declared.looked.LookedKey.{LookedKey}

-- of one pair more
pub pair_more : (pairs : List (ℕ × ℕ)) (at i : ℕ) (none : ℕ × ℕ) → at < length pairs
    → told_at (take (at + 1) pairs) i
    ≡ (if (get_or pairs at none).0 == i then bit_or (told_at (take at pairs) i) (get_or pairs at none).1
    else told_at (take at pairs) i)
pair_more pairs at i none within =
    ap (λ (xs : List (ℕ × ℕ)). told_at xs i) (take_more pairs at none within)
    ∙ fold-append (λ bits pair. if pair.0 == i then bit_or bits pair.1 else bits) 0 (take at pairs) (get_or pairs at none ∷ [])

-- of one key more
pub key_more : (before : List LookedKey) (key : LookedKey) (pairs : List (ℕ × ℕ)) (c : ChanNo)
    → told_of_channel (before ++ key ∷ []) pairs c
    ≡ (if key.channel.0 == c.0 then bit_or (told_of_channel before pairs c) (told_at pairs key.index)
    else told_of_channel before pairs c)
key_more before key pairs c =
    fold-append (λ bits entry. if entry.channel.0 == c.0 then bit_or bits (told_at pairs entry.index) else bits) 0
    before (key ∷ [])
