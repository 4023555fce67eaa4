use Rattle.nio_orderly.proofs.AfterClosing.{only_publishers_owe, closed_selectors_have_no_key}
use Rattle.nio_orderly.proofs.laws.after_closing_law.Goals as goal

pub returns-clause-channel : goal.returns-clause-channel
returns-clause-channel c = only_publishers_owe

pub returns-clause-selector : goal.returns-clause-selector
returns-clause-selector c = closed_selectors_have_no_key
