-- What a script told last.
use Rattle.std.proofs.Common.{◌≡◌, List, [], ◌∷◌, ◌++◌, refl, ap, ◌∙◌}
use Rattle.nio_base.specs.declared.numbers.ChanNo.{ChanNo}
use Rattle.nio_poller.specs.Polled.{Polled}
use Rattle.nio_poller.specs.Polls.{told_of_channel}
use Rattle.nio_poller.specs.Scripts.{last_told}

pub last_told-more : (polls : List Polled) (polled : Polled) (c : ChanNo)
    → last_told (polls ++ polled ∷ []) c ≡ told_of_channel polled.asked polled.answer.pairs c
last_told-more [] polled c = refl
last_told-more (x ∷ []) polled c = refl
last_told-more (x ∷ (y ∷ later)) polled c = last_told-more (y ∷ later) polled c

-- where one poll was added, a script is ready for what that told
pub last_told-added : (before now : List Polled) (polled : Polled) (c : ChanNo) → now ≡ before ++ polled ∷ []
    → last_told now c ≡ told_of_channel polled.asked polled.answer.pairs c
last_told-added before now polled c added =
    ap (λ (polls : List Polled). last_told polls c) added ∙ last_told-more before polled c
