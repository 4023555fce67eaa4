use Rattle.std.proofs.Common.{true, false, refl, sym, ◌∙◌}
use Rattle.nio_kept.specs.Readiness.{ready_of}
use Rattle.nio_packet_tests.proofs.Over.{closes_over}
use Rattle.nio_packet_tests.proofs.reluctant.ReluctantPacketNet.close_packets.Goals as goal

pub returns-then-was_bound : goal.returns-then-was_bound
returns-then-was_bound c =
    closes_over c.args.self.now.net c.close_packets.new.self c.args.chan (ready_of c.args.self.now.readiness)
    (ready_of c.forget.new.self) c.forget.ensures.others true (sym c.if-was_bound.true ∙ c.is_bound-was_bound.ensures) c.forget.ensures.unready
    c.close_packets.ensures.call

pub returns-else-was_bound : goal.returns-else-was_bound
returns-else-was_bound c =
    closes_over c.args.self.now.net c.close_packets.new.self c.args.chan (ready_of c.args.self.now.readiness)
    (ready_of c.args.self.now.readiness) (λ n differ. refl) false
    (sym c.if-was_bound.false ∙ c.is_bound-was_bound.ensures) refl
    c.close_packets.ensures.call
