use Rattle.std.proofs.Common.{◌≡◌, ℕ, ◌+◌, List, take, ap, ◌∙◌, arith}
use Rattle.std.proofs.Math.Seq.{take-append_seam}
use Rattle.std.proofs.lemmas.Grind.{common_steps}
use Rattle.nio_datagram.specs.Sides.{SideState, cut, packet_of}
use Rattle.nio_datagram.specs.Sockets.{after_came}
use Rattle.nio_datagram.proofs.SideLaws.{look_some, next_is}
use Rattle.nio_datagram.proofs.memory.side.Side.take_next.Goals as goal

pub returns-clause-answer : goal.returns-clause-answer
returns-clause-answer c =
    let next = next_is c.self.inside.coming.items c.args.self.now c.index.result.now
    (ap (λ (s : SideState). s.coming) c.self.view_is) (grind (arith, common_steps)) (grind (arith, common_steps)) in
    rw (next, c.give-len.ensures.count, c.deref.ensures.value)

pub returns-clause-buffer : goal.returns-clause-buffer
returns-clause-buffer c =
    let next = next_is c.self.inside.coming.items c.args.self.now c.index.result.now
    (ap (λ (s : SideState). s.coming) c.self.view_is) (grind (arith, common_steps)) (grind (arith, common_steps)) in
    rw (next, c.give-len.ensures.buffer, c.deref.ensures.value)

pub returns-clause-after : goal.returns-clause-after
returns-clause-after c =
    let next = next_is c.self.inside.coming.items c.args.self.now c.index.result.now
    (ap (λ (s : SideState). s.coming) c.self.view_is) (grind (arith, common_steps)) (grind (arith, common_steps)) in
    let whole : take c.give-len.result c.give-len.new.into ≡ cut c.index.result.now.1.items =
    rw (c.give-len.ensures.buffer, c.give-len.ensures.count, c.deref.ensures.value) (take-append_seam _ _) in
    let piece : List ℕ = take c.give-len.result c.give-len.new.into in
    look_some c.args.self.now _ (packet_of c.index.result.now) piece next
    (c.log_came.ensures ∙ ap (λ (s : SideState). let later : SideState = record s {
      at = s.at + 1;
      sockets = after_came s.sockets (record { addr = c.index.result.now.0; bytes = piece });
    } in later) c.self.view_is) whole
