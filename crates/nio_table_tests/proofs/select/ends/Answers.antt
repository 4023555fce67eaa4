use Rattle.nio_history.proofs.PassViews.{selector_after}
use Rattle.nio_table_tests.proofs.select.ends.Goals as goal

pub returns-in-Done-clause-selector : goal.returns-in-Done-clause-selector
returns-in-Done-clause-selector c = selector_after c.told.ensures.call.acts c.requires.selector

pub returns-in-Again-clause-selector : goal.returns-in-Again-clause-selector
returns-in-Again-clause-selector c =
    selector_after c.leave.ensures.call.acts (selector_after c.told.ensures.call.acts c.requires.selector)
