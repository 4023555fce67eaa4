use Rattle.std.proofs.Common.{sym, subst}
use Rattle.nio_history.proofs.PassViews.{selector_after}
use Rattle.nio_history.specs.PassViews.{HasSelector}
use Rattle.nio_poller.proofs.Trying.{begin_gives}
use Rattle.nio_select.specs.InHand.{HeldSelector}
use Rattle.nio_select.specs.InProgress.{MaySelect}
use Rattle.nio_steps.proofs.PinLaws.{pins_are_given_back}
use Rattle.nio_words.specs.Views.{view}
use Rattle.nio_bench.specs.SetUp.{caller}
use Rattle.nio_bench.proofs.SetUp.{idle_call}
use Rattle.nio_bench.proofs.select.select_by_list.Goals as goal

pub returns-clause-idle : goal.returns-clause-idle
returns-clause-idle g c =
    idle_call (pins_are_given_back.told _ _ _) c.told.ensures.call c.told.ensures.ready
    (idle_call (begin_gives _ _ _) c.begin.ensures.call c.begin.ensures.ready c.requires.idle)

pub returns-clause-may : goal.returns-clause-may
returns-clause-may g c =
    let begun = c.in_ok-selection.ensures in
    subst (MaySelect (view c.args.words.now c.told.new.p) caller) (sym c.give_back.ensures) (record {
      made = subst (λ (held : HeldSelector). HasSelector (view c.args.words.now c.told.new.p) held.number)
          (sym begun.lent.0)
          (selector_after c.told.ensures.call.acts (selector_after begun.call.acts c.requires.may.made));
      had = c.in-Done.ensures.done.had;
    })
