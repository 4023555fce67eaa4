use Rattle.std.proofs.Common.{◌≡◌, Option, refl, sym, ap, ◌∙◌, subst, vec_capacity}
use Rattle.std.specs.Prelude.{is_some, option_map, unwrap_or}
use Rattle.nio_base.specs.declared.numbers.ChanId.{ChanId}
use Rattle.nio_base.specs.declared.numbers.KeyNo.{KeyNo}
use Rattle.nio_base.specs.declared.numbers.SelNo.{SelNo}
use Rattle.nio_caller.specs.Callers.{Acting}
use Rattle.nio_caller.specs.NamedCalls.{Calls}
use Rattle.nio_caller.specs.Several.{TakesSelected}
use Rattle.nio_c.specs.Holding.{Holding}
use Rattle.nio_c.specs.Statuses.{code, status_found}
use Rattle.nio_c.specs.Values.{channel_id, key_of, sel_no}
use Rattle.nio_c.specs.declared.status.Status.TheVariants as status
use Rattle.nio_c.proofs.Exported.{exported}
use Rattle.nio_c.proofs.keys.nio_take_selected.Goals as goal

-- what the caller's own call does
abbrev Takes : SelNo → ChanId → Acting → Acting → Option KeyNo → Type 0
Takes s c = Calls (λ l. TakesSelected l c s)

pub returns : goal.returns
returns c =
    let room = vec_capacity c.behind-kept.inside.told.pairs in
    let before : Holding = record { caller = c.behind-kept.inside.caller; room = room; visitor = c.behind-kept.inside.visitor } in
    let after : Holding = record { caller = c.take_selected-answer.new.self; room = room; visitor = c.behind-kept.inside.visitor } in
    exported (Takes (sel_no c.args.selector) (channel_id c.args.channel))
    (λ answer. status_found status.NoSuchKey (is_some answer))
    (λ answer. c.write_found.new.key ≡ unwrap_or (option_map key_of answer) c.args.key.now)
    (c.write_found.new.key ≡ c.args.key.now) c.args.caller.now c.put.new.self c.code-2.result before after
    c.take_selected-answer.result c.in-Some.ensures.0.full
    (c.in-Some.ensures.0.its ∙ (sym c.deref_mut.ensures.value ∙ sym c.behind-kept.view_is)) c.put.ensures.full
    c.put.ensures.its
    (record {
      call = subst
          (λ (h : ChanId). Takes (sel_no c.args.selector) h c.behind-kept.inside.caller c.take_selected-answer.new.self
          c.take_selected-answer.result) c.id.ensures c.take_selected-answer.ensures.call;
      room = refl;
      visitor = refl;
    })
    c.write_found.ensures.key (c.code-2.ensures ∙ ap code c.write_found.ensures.status)
