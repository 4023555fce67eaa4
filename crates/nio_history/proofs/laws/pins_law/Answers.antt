use Rattle.nio_history.proofs.PinLaws.{pinned_keys_stay, claims_again_where_unpinned, claims_again_the_removed}
use Rattle.nio_history.proofs.PinLaws.{own_claims_stand, enrolled_keys_are_claimed}
use Rattle.nio_history.proofs.Unpublished.{unpublished_keys_stay}
use Rattle.nio_history.proofs.laws.pins_law.Goals as goal

pub returns-clause-stays : goal.returns-clause-stays
returns-clause-stays c = pinned_keys_stay

pub returns-clause-where_unpinned : goal.returns-clause-where_unpinned
returns-clause-where_unpinned c = claims_again_where_unpinned

pub returns-clause-removed_before : goal.returns-clause-removed_before
returns-clause-removed_before c = claims_again_the_removed

pub returns-clause-own_claim : goal.returns-clause-own_claim
returns-clause-own_claim c = own_claims_stand

pub returns-clause-unpublished : goal.returns-clause-unpublished
returns-clause-unpublished c = unpublished_keys_stay

pub returns-clause-enrolled : goal.returns-clause-enrolled
returns-clause-enrolled c = enrolled_keys_are_claimed
