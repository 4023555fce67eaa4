use Rattle.std.proofs.Common.{◌≡◌, ℕ, Result, Err, refl, sym, ap, ◌∙◌, subst, vec_capacity}
use Rattle.std.specs.Result.{result_unwrap_or}
use Rattle.nio_base.specs.declared.numbers.ChanId.{ChanId}
use Rattle.nio_base.specs.declared.numbers.KeyNo.{KeyNo}
use Rattle.nio_base.specs.declared.numbers.SelNo.{SelNo}
use Rattle.nio_caller.specs.Callers.{Acting}
use Rattle.nio_caller.specs.NamedCalls.{Calls, MayRefuse, OnChannel, OnSelector}
use Rattle.nio_caller.specs.declared.refusal.CallError.{CallError}
use Rattle.nio_caller.specs.declared.refusal.CallError.TheVariants.{NoSuchChannel, NoSuchSelector}
use Rattle.nio_select.specs.Listed.{ok_seen}
use Rattle.nio_steps.specs.ChannelCalls.{try_register_plan}
use Rattle.nio_steps.specs.Runs.{Completes}
use Rattle.nio_steps.specs.declared.refusal.ChannelError.{ChannelError}
use Rattle.nio_c.specs.Holding.{Holding}
use Rattle.nio_c.specs.Statuses.{call_refusal, channel_refusal, code, status_of}
use Rattle.nio_c.specs.Values.{channel_id, key_of, sel_no}
use Rattle.nio_c.specs.declared.values.Key.{Key}
use Rattle.nio_c.proofs.Exported.{exported}
use Rattle.nio_c.proofs.channels.nio_register.Goals as goal

-- what the caller's own call does
abbrev Registers : SelNo → ChanId → ℕ → ℕ → Acting → Acting → Result KeyNo (CallError ChannelError) → Type 0
Registers s c ops attachment =
    Calls (λ l. OnSelector l s (Err NoSuchSelector) (OnChannel l c (Err NoSuchChannel)
    (MayRefuse (Completes (try_register_plan l s c ops attachment)))))

-- what is written
abbrev Wrote : Key → Key → Result KeyNo (CallError ChannelError) → Type 0
Wrote old new answer = new ≡ result_unwrap_or (ok_seen key_of answer) old

pub returns : goal.returns
returns c =
    let room = vec_capacity c.behind-kept.inside.told.pairs in
    let before : Holding = record { caller = c.behind-kept.inside.caller; room = room; visitor = c.behind-kept.inside.visitor } in
    let after : Holding = record { caller = c.try_register-answer.new.self; room = room; visitor = c.behind-kept.inside.visitor } in
    exported (Registers (sel_no c.args.selector) (channel_id c.args.channel) c.args.ops c.args.attachment)
    (status_of (call_refusal channel_refusal)) (Wrote c.args.key.now c.write_key.new.key)
    (c.write_key.new.key ≡ c.args.key.now) c.args.caller.now c.put.new.self c.code-2.result before after
    c.try_register-answer.result c.in-Some.ensures.0.full
    (c.in-Some.ensures.0.its ∙ (sym c.deref_mut.ensures.value ∙ sym c.behind-kept.view_is)) c.put.ensures.full
    c.put.ensures.its
    (record {
      call = subst
          (λ (h : ChanId). Registers (sel_no c.args.selector) h c.args.ops c.args.attachment before.caller after.caller
          c.try_register-answer.result) c.id.ensures
          (subst
          (λ (o : ℕ). Registers (sel_no c.args.selector) c.id.result o c.args.attachment before.caller after.caller
          c.try_register-answer.result) c.of.ensures c.try_register-answer.ensures.call);
      room = refl;
      visitor = refl;
    })
    c.write_key.ensures.key (c.code-2.ensures ∙ ap code c.write_key.ensures.status)
