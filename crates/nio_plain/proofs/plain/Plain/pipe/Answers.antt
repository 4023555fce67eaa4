use Rattle.std.proofs.Common.{◌≡◌, ◌<◌, false, Some, None, [], ◌∷◌, ◌++◌, refl, sym, ap, ◌∙◌, arith}
use Rattle.std.proofs.lemmas.Bool.{le-ltb, lt-ltb}
use Rattle.nio_base.specs.declared.kind.Kind.TheVariants.{Source, Sink}
use Rattle.nio_plain.proofs.Replying.{replied_as, unchanged_as}
use Rattle.nio_plain.proofs.Piping.{pipe_call-is, pipe_made, with_ends}
use Rattle.nio_plain.specs.PlainState.{pipe_of, state_of}
use Rattle.nio_plain.specs.ScriptState.{ScriptState, with_pipes, with_shared}
use Rattle.nio_plain.specs.Seq.Cancelling.{channel_closed}
use Rattle.nio_plain.specs.Seq.Opening.{next_channel, with_new_channel}
use Rattle.nio_plain.specs.Seq.Piping.{new_pipe, pipe_call, with_source}
use Rattle.nio_plain.specs.declared.plain.pipe.Pipe.{Pipe as PlainPipe}
use Rattle.nio_plain.proofs.plain.Plain.pipe.Goals as goal

pub returns-then-target-self : goal.returns-then-target-self
unfolding pipe_call
returns-then-target-self c =
    let p = c.args.self.now in
    unchanged_as p _ _
    (rw (le-ltb c.args.target.0 p.limits.callers c.if-target-self.true) refl)

pub returns-in_default : goal.returns-in_default
unfolding pipe_call
returns-in_default c =
    let p = c.args.self.now in
    let within : c.args.target.0 < p.limits.callers = omega arith in
    unchanged_as p _ _
    (rw (lt-ltb c.args.target.0 p.limits.callers within)
    (ap (with_source p.rules p.limits (state_of p) c.args.me c.args.target) (sym c.in_default.ensures.next)))

pub returns-in_default-next_channel : goal.returns-in_default-next_channel
returns-in_default-next_channel c =
    let p = c.args.self.now in
    let st = state_of p in
    let source = c.in-Some.source in
    let within : c.args.target.0 < p.limits.callers = omega arith in
    let kept = c.put_channel.ensures.kept in
    let reserved : with_ends p c.reserve-2.new.self.items c.reserve.new.self.items ≡ st =
    λ i. with_ends p (c.reserve-2.ensures.items i) (c.reserve.ensures.items i) in
    let made = c.put_channel.ensures.left
    ∙ ap (λ (m : ScriptState). with_shared m (with_new_channel m.shared Source source)) reserved in
    let none = sym (c.in_default-next_channel.ensures.next
    ∙ (λ i. next_channel (kept.rules i) (kept.limits i) (made i).shared Sink)) in
    replied_as p _ _ _ _
    (pipe_call-is p.rules p.limits st c.args.me c.args.target source None within (sym c.in-Some.ensures.next) none)
    refl
    (c.shut_channel.ensures.left
    ∙ ap (λ (m : ScriptState). with_shared m (channel_closed m.shared source.number.0)) made)
    (record {
      limits = c.shut_channel.ensures.kept.limits ∙ kept.limits;
      rules = c.shut_channel.ensures.kept.rules ∙ kept.rules;
    })

pub returns : goal.returns
returns c =
    let p = c.args.self.now in
    let st = state_of p in
    let source = c.in-Some.source in
    let sink = c.in-Some-next_channel.sink in
    let within : c.args.target.0 < p.limits.callers = omega arith in
    let kept = c.put_channel.ensures.kept in
    let reserved : with_ends p c.reserve-2.new.self.items c.reserve.new.self.items ≡ st =
    λ i. with_ends p (c.reserve-2.ensures.items i) (c.reserve.ensures.items i) in
    let made = c.put_channel.ensures.left
    ∙ ap (λ (m : ScriptState). with_shared m (with_new_channel m.shared Source source)) reserved in
    let further = sym (c.in-Some-next_channel.ensures.next
    ∙ (λ i. next_channel (kept.rules i) (kept.limits i) (made i).shared Sink)) in
    let q = c.put_channel-2.new.self in
    let both = c.put_channel-2.ensures.left
    ∙ ap (λ (m : ScriptState). with_shared m (with_new_channel m.shared Sink sink)) made in
    let pipe = new_pipe c.args.me c.args.target source sink in
    let one : PlainPipe = record {
      source = source;
      sink = sink;
      reader = c.args.me;
      writer = c.args.target;
      waiting = c.new.result;
      sealed = false;
    } in
    let is : pipe_of one ≡ pipe = λ i. record {
      source = source;
      sink = sink;
      reader = c.args.me;
      writer = c.args.target;
      waiting = c.new.ensures.items i;
      sealed = false;
    } in
    replied_as p _ _ _ _
    (pipe_call-is p.rules p.limits st c.args.me c.args.target source (Some sink) within (sym c.in-Some.ensures.next)
    further)
    refl
    (pipe_made q q.pipes.items c.push_reserved.new.self.items q.channels.items one pipe c.push_reserved.ensures.items is
    ∙ ap (λ (m : ScriptState). with_pipes m (m.pipes ++ pipe ∷ [])) both)
    (record {
      limits = c.put_channel-2.ensures.kept.limits ∙ kept.limits;
      rules = c.put_channel-2.ensures.kept.rules ∙ kept.rules;
    })
