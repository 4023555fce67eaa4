use Rattle.std.proofs.Common.{None, Err, refl, sym, ap, subst}
use Rattle.nio_select.specs.InProgress.{MaySelect}
use Rattle.nio_sole.proofs.Desks.{still_made, places_same, places_selection, progress_selection}
use Rattle.nio_sole.specs.declared.desk.Desk.{Desk}
use Rattle.nio_words.specs.Views.{view}
use Rattle.nio_race.proofs.Blocking.{blocks_closed, blocks_selected, stands_closed, stands_selected}
use Rattle.nio_race.proofs.Blocking.{without_its_list}
use Rattle.nio_race.proofs.block.block_on.Goals as goal

pub select-requires-clause-may : goal.select-requires-clause-may
select-requires-clause-may g c =
    subst (MaySelect (view c.args.w.now c.args.d.now.pass) c.args.me) (sym c.without_list-selector.ensures)
    (record { made = c.requires.selector; had = tt })

pub returns-in-Ok-clause-line : goal.returns-in-Ok-clause-line
returns-in-Ok-clause-line g c =
    let d = c.args.d.now in
    let d' : Desk = record d { pass = c.select.new.p; selections = c.drop_selection.new.selections } in
    blocks_selected c.args.w.now d d' c.args.me c.args.sel c.over-poller.ensures c.in-Ok.ensures.kept c.in-Ok.selected
    (without_its_list c.without_list-selector.ensures refl c.in-Ok.ensures.call)
    (progress_selection c.args.w.now d c.select.new.p c.args.sel c.drop_selection.new.selections None
    c.requires.stands.places c.requires.selector.inside c.drop_selection.ensures.items)

pub returns-in-Ok-clause-stands : goal.returns-in-Ok-clause-stands
returns-in-Ok-clause-stands g c =
    let d = c.args.d.now in
    let d' : Desk = record d { pass = c.select.new.p; selections = c.drop_selection.new.selections } in
    stands_selected c.args.w.now d d' c.args.me c.requires.stands c.args.sel c.in-Ok.selected c.in-Ok.ensures.ready
    (places_selection c.args.w.now d c.select.new.p c.args.sel c.drop_selection.new.selections None
    c.requires.stands.places c.requires.selector.inside c.drop_selection.ensures.items c.drop_selection.ensures.len
    (λ x is. absurd (cc is))
    (still_made c.select.new.p c.requires.stands.places c.in-Ok.ensures.call.call))
    (progress_selection c.args.w.now d c.select.new.p c.args.sel c.drop_selection.new.selections None
    c.requires.stands.places c.requires.selector.inside c.drop_selection.ensures.items)
    (without_its_list c.without_list-selector.ensures refl c.in-Ok.ensures.call)

pub returns-in-Err-ClosedSelector-clause-line : goal.returns-in-Err-ClosedSelector-clause-line
returns-in-Err-ClosedSelector-clause-line g c =
    let d = c.args.d.now in
    let d' : Desk = record d { pass = c.select.new.p } in
    blocks_closed c.args.w.now d d' c.args.me c.args.sel c.over-poller.ensures c.in-Err-ClosedSelector.ensures.kept
    (without_its_list c.without_list-selector.ensures (ap Err c.in-Err-ClosedSelector.field-0-is)
    c.in-Err-ClosedSelector.ensures.call)
    refl

pub returns-in-Err-ClosedSelector-clause-stands : goal.returns-in-Err-ClosedSelector-clause-stands
returns-in-Err-ClosedSelector-clause-stands g c =
    let d = c.args.d.now in
    let d' : Desk = record d { pass = c.select.new.p } in
    stands_closed c.args.w.now d d' c.args.me c.requires.stands c.args.sel c.in-Err-ClosedSelector.ensures.ready
    (places_same c.select.new.p c.in-Err-ClosedSelector.ensures.call.call c.requires.stands.places) refl
    (without_its_list c.without_list-selector.ensures (ap Err c.in-Err-ClosedSelector.field-0-is)
    c.in-Err-ClosedSelector.ensures.call)
