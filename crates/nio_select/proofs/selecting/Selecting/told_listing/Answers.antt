use Rattle.std.proofs.Common.{List, ap, sym, ◌∙◌, subst}
use Rattle.nio_steps.specs.declared.looked.LookedKey.{LookedKey}
use Rattle.nio_words.specs.Passes.{limits_of}
use Rattle.nio_words.specs.Views.{view}
use Rattle.nio_select.specs.Asked.{Looked, AreBelow}
use Rattle.nio_select.specs.Begun.{HasBegun}
use Rattle.nio_select.specs.contracts.selecting.Selecting.{the_view}
use Rattle.nio_select.specs.InHand.{InHand, selection_of}
use Rattle.nio_select.specs.InProgress.{poll_of}
use Rattle.nio_select.specs.KeyChanges.{TakesNote}
use Rattle.nio_select.proofs.Again.{tells, goes_on, again_as, again_lists, list_given}
use Rattle.nio_select.proofs.Ended.{selecting_begun}
use Rattle.nio_select.proofs.KeyChanges.{takes_then}
use Rattle.nio_select.proofs.selecting.Selecting.told_listing.Goals as goal

pub mark_asked-count-requires-clause-begun : goal.mark_asked-count-requires-clause-begun
mark_asked-count-requires-clause-begun g c =
    subst (HasBegun c.args.w.now c.args.p.now c.args.me) (ap (λ x. x.selector) (sym c.selecting.view_is))
    (selecting_begun c.requires.ready c.requires.begun)

pub mark_asked-count-requires-clause-keys : goal.mark_asked-count-requires-clause-keys
mark_asked-count-requires-clause-keys g c =
    subst (λ (s : InHand). AreBelow (limits_of c.args.w.now).keys s.asked.keys) (sym c.selecting.view_is)
    c.requires.begun.below

pub returns-clause-call : goal.returns-clause-call
returns-clause-call g c =
    tells (selection_of c.args.self) (poll_of c.args.told.now) (ap (λ x. x.selector) c.selecting.view_is)
    (ap (λ x. x.asked.keys) c.selecting.view_is) c.as_slice-pairs.ensures.value
    (ap (λ (asked : Looked). selection_of (record (the_view c.selecting.inside) { asked = asked }))
    c.mark_asked-count.ensures.same ∙ ap selection_of c.selecting.view_is)
    c.mark_asked-count.ensures.call c.after_marks.ensures.call

pub returns-clause-goes_on : goal.returns-clause-goes_on
returns-clause-goes_on g c =
    goes_on c.args.self (poll_of c.args.told.now) c.after_marks.result c.requires.begun
    (again_as c.after_marks.result c.args.self (record (the_view c.selecting.inside) { asked = c.mark_asked-count.new.asked })
    (ap (λ (asked : Looked). record (the_view c.selecting.inside) { asked = asked }) c.mark_asked-count.ensures.same
    ∙ c.selecting.view_is) c.after_marks.ensures.same)
    (returns-clause-call g c)

pub returns-clause-nothing : goal.returns-clause-nothing
returns-clause-nothing g c =
    again_lists c.mark_asked-count.result c.after_marks.result c.args.lister.now c.mark_asked-count.new.lister
    c.after_marks.new.lister c.after_marks.ensures.nothing c.mark_asked-count.ensures.none

pub returns-clause-done : goal.returns-clause-done
returns-clause-done g c =
    list_given c.args.self (record (the_view c.selecting.inside) { asked = c.mark_asked-count.new.asked })
    c.after_marks.result
    (ap (λ (asked : Looked). record (the_view c.selecting.inside) { asked = asked }) c.mark_asked-count.ensures.same
    ∙ c.selecting.view_is) c.requires.begun (returns-clause-call g c).acts c.after_marks.ensures.list

pub returns-clause-listed : goal.returns-clause-listed
returns-clause-listed g c =
    let asked = c.args.self.asked.keys in
    takes_then asked c.mark_asked-count.ensures.call.acts c.after_marks.ensures.call.acts
    (subst (λ (keys : List LookedKey). TakesNote g.L.Lister.noted keys c.args.me (view c.args.w.now c.args.p.now)
    (view c.args.w.now c.mark_asked-count.new.p) c.args.lister.now c.mark_asked-count.new.lister)
    (ap (λ x. x.asked.keys) c.selecting.view_is) c.mark_asked-count.ensures.listed) (c.after_marks.ensures.listed asked)
