use Rattle.nio_select.proofs.Steps.{keys_are_gone, keys_are_asked, keys_are_gone_at_end, ends_find_high}
use Rattle.nio_select.proofs.laws.gone_law.Goals as goal

pub returns-clause-begun : goal.returns-clause-begun
returns-clause-begun c = keys_are_gone c.begin_law.ensures.cancelled

pub returns-clause-looked : goal.returns-clause-looked
returns-clause-looked c = keys_are_asked c.begin_law.ensures.looked

pub returns-clause-ended : goal.returns-clause-ended
returns-clause-ended c = keys_are_gone_at_end c.told_law.ensures.cancelled

pub returns-clause-finds : goal.returns-clause-finds
returns-clause-finds c = ends_find_high
