use Rattle.nio_channel.specs.Idle.{zero, first_selector}
use Rattle.nio_history.proofs.PassViews.{selector_after}
use Rattle.nio_poller.proofs.Ready.{selector_timed, selector_told_timed}
use Rattle.nio_words.specs.Views.{view}
use Rattle.nio_table_tests.proofs.poller.answer.Goals as goal

pub returns-in-Select-clause-selector : goal.returns-in-Select-clause-selector
returns-in-Select-clause-selector g c = selector_after c.select.ensures.call.call.acts c.requires.selector

pub returns-in-SelectNow-clause-selector : goal.returns-in-SelectNow-clause-selector
returns-in-SelectNow-clause-selector g c = selector_after c.select_now.ensures.call.call.acts c.requires.selector

pub returns-in-SelectFor-clause-selector : goal.returns-in-SelectFor-clause-selector
returns-in-SelectFor-clause-selector g c =
    let w = c.args.w.now in
    let poller = c.select_for.new.poller in
    selector_timed zero c.without_list-on.result c.select_for.new.selector (view w c.args.p.now)
    (view w c.select_for.new.p) (g.P.Poller.polls c.args.poller.now) (g.P.Poller.polls poller)
    (g.P.Poller.ready poller) c.select_for.result first_selector _ c.select_for.ensures.call c.requires.selector

pub returns-in-SelectTold-clause-selector : goal.returns-in-SelectTold-clause-selector
returns-in-SelectTold-clause-selector g c = selector_after c.select_told.ensures.call.call.acts c.requires.selector

pub returns-in-SelectToldFor-clause-selector : goal.returns-in-SelectToldFor-clause-selector
returns-in-SelectToldFor-clause-selector g c =
    let w = c.args.w.now in
    let poller = c.select_told_for.new.poller in
    selector_told_timed zero c.without_list-on.result c.select_told_for.new.selector (view w c.args.p.now)
    (view w c.select_told_for.new.p) (g.P.Poller.polls c.args.poller.now) (g.P.Poller.polls poller)
    (g.P.Poller.ready poller) c.select_told_for.result first_selector _ c.select_told_for.ensures.call
    c.requires.selector

pub returns-in-Wakeup-clause-selector : goal.returns-in-Wakeup-clause-selector
returns-in-Wakeup-clause-selector g c = selector_after c.wakeup.ensures.call.acts c.requires.selector

pub returns-in-Interrupt-clause-selector : goal.returns-in-Interrupt-clause-selector
returns-in-Interrupt-clause-selector g c = selector_after c.interrupt.ensures.call.acts c.requires.selector

pub returns-in-Interrupted-clause-selector : goal.returns-in-Interrupted-clause-selector
returns-in-Interrupted-clause-selector g c = selector_after c.interrupted.ensures.call.acts c.requires.selector

pub returns-clause-selector : goal.returns-clause-selector
returns-clause-selector g c = selector_after c.close.ensures.call.acts c.requires.selector
