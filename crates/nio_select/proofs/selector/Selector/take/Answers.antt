use Rattle.nio_history.proofs.PassViews.{selector_after}
use Rattle.nio_select.proofs.Progress.{taken_list}
use Rattle.nio_select.proofs.selector.Selector.take.Goals as goal

pub returns-clause-may : goal.returns-clause-may
returns-clause-may c = record {
  made = selector_after c.take_list.ensures.call.acts c.requires.selector;
  had = taken_list _ _ _ c.take_list.result c.take_list.ensures.list;
}
