use Rattle.std.proofs.Common.{refl, sym, ap, ◌∙◌, vec_capacity}
use Rattle.std.specs.Prelude.{⊤}
use Rattle.nio_c.specs.Holding.{Holding}
use Rattle.nio_c.specs.Selections.{LeavesOn}
use Rattle.nio_c.specs.Statuses.{code, selecting_refusal, status_of}
use Rattle.nio_c.specs.Values.{sel_no}
use Rattle.nio_c.proofs.Exported.{exported}
use Rattle.nio_c.proofs.selections.nio_leave.Goals as goal

pub returns : goal.returns
returns c =
    let room = vec_capacity c.behind-kept.inside.told.pairs in
    let before : Holding = record { caller = c.behind-kept.inside.caller; room = room; visitor = c.behind-kept.inside.visitor } in
    let after : Holding = record { caller = c.leave-answer.new.self; room = room; visitor = c.behind-kept.inside.visitor } in
    exported (LeavesOn (sel_no c.args.selector)) (status_of selecting_refusal) (λ answer. ⊤) ⊤ c.args.caller.now
    c.put.new.self c.code-2.result before after c.leave-answer.result c.in-Some.ensures.0.full
    (c.in-Some.ensures.0.its ∙ (sym c.deref_mut.ensures.value ∙ sym c.behind-kept.view_is)) c.put.ensures.full
    c.put.ensures.its
    (record {
      call = record {
        none = c.leave-answer.ensures.none;
        nothing = c.leave-answer.ensures.nothing;
        call = c.leave-answer.ensures.call;
        back = c.leave-answer.ensures.back;
        over = c.leave-answer.ensures.over;
        closings = c.leave-answer.ensures.closings;
      };
      room = refl;
      visitor = refl;
    }) tt (c.code-2.ensures ∙ ap code c.done_or.ensures)
