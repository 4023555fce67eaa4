use Rattle.nio_history.proofs.PassViews.{selector_after}
use Rattle.nio_table_tests.proofs.select.selects_twice.Goals as goal

pub ends-requires-clause-selector : goal.ends-requires-clause-selector
ends-requires-clause-selector c =
    selector_after c.told.ensures.call.acts (selector_after c.try_begin.ensures.call.acts c.requires.selector)

pub returns-in-Done-clause-selector : goal.returns-in-Done-clause-selector
returns-in-Done-clause-selector c =
    selector_after c.told.ensures.call.acts (selector_after c.try_begin.ensures.call.acts c.requires.selector)

pub returns-in_default-clause-selector : goal.returns-in_default-clause-selector
returns-in_default-clause-selector c = selector_after c.try_begin.ensures.call.acts c.requires.selector
