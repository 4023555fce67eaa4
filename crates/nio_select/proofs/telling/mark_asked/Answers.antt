use Rattle.std.proofs.Common.{◌≡◌, ℕ, ◌*◌, ◌≤◌, Option, List, length, ap, ◌∙◌, subst, arith}
use Rattle.nio_steps.specs.Calls.{CallClause}
use Rattle.nio_steps.specs.Plan.{Plan}
use Rattle.nio_steps.specs.Runs.{Completes}
use Rattle.nio_steps.specs.SelectCalls.{mark_entry}
use Rattle.nio_steps.specs.Sweeps.{sweep_over, sweep_to}
use Rattle.nio_steps.specs.declared.looked.LookedKey.{LookedKey}
use Rattle.nio_words.specs.Views.{view}
use Rattle.nio_select.specs.KeyChanges.{TakesNote}
use Rattle.nio_select.specs.KeyKept.{keys_from}
use Rattle.nio_select.specs.ToldSlots.{mark_at}
use Rattle.nio_select.specs.declared.slot.Slot.{Slot}
use Rattle.nio_select.proofs.ToldMarks.{over_all}
use Rattle.nio_select.proofs.telling.mark_asked.Goals as goal

pub returns-clause-call : goal.returns-clause-call
returns-clause-call g c =
    let slots = c.asked.inside.slots.items in
    let noted = c.put_told.new.noted in
    let n = 64 * length noted.words.items in
    let long : length slots ≤ n = omega (arith, c.asked.invariant.noted_room, c.put_told.ensures.room.words) in
    let seen : c.len.result ≡ length slots = omega (arith, c.len.ensures, c.asked.inside.slots.ok.0) in
    subst (λ (keys : List LookedKey). CallClause c.args.me (Completes (sweep_over keys (mark_entry c.args.sel c.args.pairs.now) 0))
    (view c.args.w.now c.args.p.now) (view c.args.w.now c.mark_noted.new.p) c.mark_noted.result)
    (ap (λ v. v.keys) c.asked.view_is)
    (subst (λ (plan : Plan ℕ). CallClause c.args.me (Completes plan)
    (view c.args.w.now c.args.p.now) (view c.args.w.now c.mark_noted.new.p) c.mark_noted.result)
    (ap (λ (xs : List (Option Slot)). sweep_to n 0 (mark_at c.args.sel xs noted) 0) c.as_slice.ensures.value
    ∙ over_all c.args.sel c.args.pairs.now slots noted n 0 long
    (λ i below. c.put_told.ensures.told.below i (omega (arith, seen, below))))
    c.mark_noted.ensures.call)

pub returns-clause-none : goal.returns-clause-none
returns-clause-none g c = c.mark_noted.ensures.none

pub returns-clause-listed : goal.returns-clause-listed
returns-clause-listed g c =
    subst (λ (keys : List LookedKey). TakesNote g.L.Lister.noted keys c.args.me
    (view c.args.w.now c.args.p.now) (view c.args.w.now c.mark_noted.new.p) c.args.lister.now c.mark_noted.new.lister)
    (ap (keys_from 0) c.as_slice.ensures.value ∙ ap (λ v. v.keys) c.asked.view_is) c.mark_noted.ensures.listed
