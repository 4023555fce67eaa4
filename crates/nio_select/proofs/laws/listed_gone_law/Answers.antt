use Rattle.nio_select.proofs.ListedSteps.{listed_keys_are_gone, listed_keys_are_asked, listed_keys_are_gone_at_end}
use Rattle.nio_select.proofs.laws.listed_gone_law.Goals as goal

pub returns-clause-begun : goal.returns-clause-begun
returns-clause-begun c = listed_keys_are_gone c.listed_law.ensures.cancelled

pub returns-clause-looked : goal.returns-clause-looked
returns-clause-looked c = listed_keys_are_asked c.listed_law.ensures.looked

pub returns-clause-ended : goal.returns-clause-ended
returns-clause-ended c = listed_keys_are_gone_at_end c.listed_law.ensures.at_end
