-- A poller that tells nothing.
use Rattle.std.proofs.Common.{◌≡◌, ℕ, ◌==◌, Bool, true, false, if◌then◌else◌, List, [], ◌∷◌, fold, bit_or, refl, ◌∙◌}
use Rattle.std.proofs.Common.{ap, sym}
use Rattle.nio_base.specs.declared.numbers.ChanNo.{ChanNo}
use Rattle.nio_steps.specs.SelectCalls.{told_at}
use Rattle.nio_steps.specs.declared.looked.LookedKey.{LookedKey}
use Rattle.nio_poller.specs.Polls.{told_of_channel}

by_test : (b : Bool) (entry : LookedKey) (asked : List LookedKey) (c : ChanNo) → told_of_channel asked [] c ≡ 0
    → fold (λ bits e. if e.channel.0 == c.0 then bit_or bits (told_at [] e.index) else bits)
    (if b then bit_or 0 (told_at [] entry.index) else 0) asked ≡ 0
by_test true entry asked c rest = rest
by_test false entry asked c rest = rest

nothing_told : (asked : List LookedKey) (c : ChanNo) → told_of_channel asked [] c ≡ 0
nothing_told [] c = refl
nothing_told (entry ∷ asked) c = by_test (entry.channel.0 == c.0) entry asked c (nothing_told asked c)

-- where no pair is told nothing is told of any channel
pub quiet : (asked : List LookedKey) (pairs : List (ℕ × ℕ)) (c : ChanNo) → pairs ≡ []
    → 0 ≡ told_of_channel asked pairs c
quiet asked pairs c none = sym (ap (λ (ps : List (ℕ × ℕ)). told_of_channel asked ps c) none ∙ nothing_told asked c)
