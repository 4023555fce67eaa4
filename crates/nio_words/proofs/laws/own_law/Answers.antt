use Rattle.nio_words.proofs.GoingOn.{own_stands, pinned_keys_stand}
use Rattle.nio_words.proofs.laws.own_law.Goals as goal

pub returns-clause-stands : goal.returns-clause-stands
returns-clause-stands c = own_stands

pub returns-clause-pinned : goal.returns-clause-pinned
returns-clause-pinned c = pinned_keys_stand
