use Rattle.nio_reactor.proofs.Seating.{after_open_selector}
use Rattle.nio_reactor.specs.Placing.{caller}
use Rattle.nio_reactor.proofs.table.open_selectors.Goals as goal

pub open_selector-requires : goal.open_selector-requires
open_selector-requires c = record { ready = (c.loop.invariant (caller 0) c.requires.some).ready }

pub returns-then-is_err : goal.returns-then-is_err
returns-then-is_err c =
    after_open_selector c.args.words.now c.loop.pass c.open_selector.new.p _ c.open_selector.result c.requires.some
    c.loop.invariant c.open_selector.ensures.call c.open_selector.ensures.ready

pub loop-preserved : goal.loop-preserved
loop-preserved c =
    after_open_selector c.args.words.now c.loop.pass c.open_selector.new.p _ c.open_selector.result c.requires.some
    c.loop.invariant c.open_selector.ensures.call c.open_selector.ensures.ready
