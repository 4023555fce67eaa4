use Rattle.std.proofs.Common.{refl, sym, ap, ◌∙◌, vec_capacity}
use Rattle.std.specs.Prelude.{⊤}
use Rattle.nio_c.specs.Holding.{Holding}
use Rattle.nio_c.specs.Selections.{BeginsOn}
use Rattle.nio_c.specs.Statuses.{begin_refusal, call_refusal, code, status_of}
use Rattle.nio_c.proofs.Exported.{exported}
use Rattle.nio_c.proofs.selections.begin_in.Goals as goal

pub returns : goal.returns
returns c =
    let kept = c.behind-kept.inside in
    let room = vec_capacity kept.told.pairs in
    let before : Holding = record { caller = kept.caller; room = room; visitor = kept.visitor } in
    let after : Holding = record { caller = c.begin-answer.new.self; room = room; visitor = kept.visitor } in
    exported (BeginsOn c.args.sel c.args.mode) (status_of (call_refusal begin_refusal)) (λ answer. ⊤) ⊤
    c.args.caller.now c.put.new.self c.code-2.result before after c.begin-answer.result c.in-Some.ensures.0.full
    (c.in-Some.ensures.0.its ∙ (sym c.deref_mut.ensures.value ∙ sym c.behind-kept.view_is)) c.put.ensures.full
    c.put.ensures.its
    (record {
      call = record {
        call = c.begin-answer.ensures.call;
        lent = c.begin-answer.ensures.lent;
        refused = c.begin-answer.ensures.refused;
        closings = c.begin-answer.ensures.closings;
      };
      room = refl;
      visitor = refl;
    }) tt (c.code-2.ensures ∙ ap code c.done_or.ensures)
