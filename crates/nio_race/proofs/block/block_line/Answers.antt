use Rattle.std.proofs.Common.{None, Some, refl, subst}
use Rattle.nio_base.specs.declared.numbers.SelNo.{SelNo}
use Rattle.nio_history.specs.PassViews.{HasSelector}
use Rattle.nio_sole.proofs.Desks.{places_same}
use Rattle.nio_sole.proofs.Finding.{selector_found}
use Rattle.nio_sole.specs.declared.desk.Desk.{Desk}
use Rattle.nio_words.specs.Passes.{limits_of}
use Rattle.nio_words.specs.Views.{view}
use Rattle.nio_race.proofs.Blocking.{blocks_nowhere, line_of_found, stands_looked}
use Rattle.nio_race.proofs.block.block_line.Goals as goal

pub block_on-requires-clause-stands : goal.block_on-requires-clause-stands
block_on-requires-clause-stands g c =
    let d' : Desk = record c.args.d.now { pass = c.find_selector.new.p } in
    stands_looked c.args.w.now c.args.d.now d' c.args.me c.requires c.args.sel.0
    (Some c.in-Some.field-0) c.in-Some.ensures.ready
    (places_same c.find_selector.new.p c.in-Some.ensures.call c.requires.places) refl c.in-Some.ensures.call

pub block_on-requires-clause-selector : goal.block_on-requires-clause-selector
block_on-requires-clause-selector g c =
    subst (λ (s : SelNo). HasSelector (view c.args.w.now c.find_selector.new.p) s)
    (selector_found (limits_of c.args.w.now) c.args.sel.0 _ c.in-Some.field-0 c.in-Some.ensures.call.shape)
    c.in-Some.ensures.found

pub returns-in-Some-clause-line : goal.returns-in-Some-clause-line
returns-in-Some-clause-line g c =
    let d1 : Desk = record c.args.d.now { pass = c.find_selector.new.p } in
    line_of_found c.args.w.now c.args.d.now c.block_on.new.d c.args.me c.args.sel d1 c.in-Some.field-0 c.block_on.result
    refl c.in-Some.ensures.call c.block_on.ensures.line

pub returns-in-None-clause-line : goal.returns-in-None-clause-line
returns-in-None-clause-line g c =
    let d' : Desk = record c.args.d.now { pass = c.find_selector.new.p } in
    blocks_nowhere c.args.w.now c.args.d.now d' c.args.me c.args.sel refl c.in-None.ensures.call

pub returns-in-None-clause-stands : goal.returns-in-None-clause-stands
returns-in-None-clause-stands g c =
    let d' : Desk = record c.args.d.now { pass = c.find_selector.new.p } in
    stands_looked c.args.w.now c.args.d.now d' c.args.me c.requires c.args.sel.0 None c.in-None.ensures.ready
    (places_same c.find_selector.new.p c.in-None.ensures.call c.requires.places) refl c.in-None.ensures.call
