use Rattle.std.proofs.Common.{◌<◌, ◌∙◌, length, refl, rules}
use Rattle.std.proofs.lemmas.Option.{slice_get_read}
use Rattle.nio_serve.proofs.Promise.{closed_next}
use Rattle.nio_serve.proofs.Working.{quiet_then}
use Rattle.nio_serve.proofs.Ways.{members}
use Rattle.nio_serve.proofs.connections.Connections.close_all.Goals as goal

pub loop-number-preserved : goal.loop-number-preserved
loop-number-preserved g c =
    let n = members g.W.Polls g.W.Way in
    let within : c.loop-number.number < length c.args.self.now.slots.items = search rules in
    let closes = c.close_relayed.ensures in
    record {
      quiet = quiet_then n _ _ _ c.loop-number.invariant.quiet closes.quiet;
      closed = closed_next n c.args.net.now c.loop-number.net c.close_relayed.new.net c.args.self.now
          c.loop-number.number c.index.result.now c.requires.served
          (slice_get_read c.args.self.now.slots.items _ c.loop-number.number c.index.result.now refl within
          c.index.ensures)
          c.loop-number.invariant.quiet closes.quiet c.loop-number.invariant.closed closes.closed;
      listens = closes.listens ∙ c.loop-number.invariant.listens;
    }
