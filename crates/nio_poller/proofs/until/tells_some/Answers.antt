use Rattle.std.proofs.Common.{◌≡◌, ℕ, ◌∙◌, rules, tests}
use Rattle.std.specs.List.{list_any}
use Rattle.std.proofs.lemmas.Iterator.{YieldsList-from_slice}
use Rattle.std.proofs.lemmas.Iterator.Search.{any_from_yields_List}
use Rattle.nio_poller.proofs.LookedFor.{tells_some-pairs}
use Rattle.nio_poller.specs.Until.{looked_for}
use Rattle.nio_poller.proofs.until.tells_some.Goals as goal

pub returns : goal.returns
returns c =
    let looked = c.args.asked.now.keys in
    let pairs = c.args.pairs.now in
    let found : c.any.result ≡ list_any (λ (pair : ℕ × ℕ). looked_for looked pair.0 pair.1) pairs =
    any_from_yields_List (λ (pair : ℕ × ℕ). looked_for looked pair.0 pair.1) _ _ c.any.result c.any.ensures.ran
    (YieldsList-from_slice pairs cc) (λ x b q k. search (rules, tests)) in
    found ∙ tells_some-pairs looked pairs
