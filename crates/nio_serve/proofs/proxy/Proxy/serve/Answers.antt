use Rattle.std.proofs.Common.{refl, ap, sym, ◌∙◌}
use Rattle.nio_link.specs.declared.place.Place.{Place}
use Rattle.nio_serve.specs.declared.connections.Connections.{Connections}
use Rattle.nio_serve.specs.Serving.{listener}
use Rattle.nio_serve.proofs.Slotting.{serving_none, serving_then, serving_quiet, cause_on, listens_on}
use Rattle.nio_serve.proofs.Watching.{seat_none, seat_then, watched_on, watching_then, where_done}
use Rattle.nio_serve.proofs.Working.{role_stays}
use Rattle.nio_serve.proofs.Ways.{members}
use Rattle.nio_serve.proofs.proxy.Proxy.serve.Goals as goal

pub loop-init : goal.loop-init
loop-init g c = record {
  serving = serving_none (members g.W.Polls g.W.Way) c.args.net.now c.args.self.now.connections c.requires.served;
  listens = c.requires.listens;
  role = refl;
  seat = seat_none _;
  watched = c.requires.watched;
}

pub returns-then-is_err-clause-watching : goal.returns-then-is_err-clause-watching
returns-then-is_err-clause-watching g c = watching_then c.loop.invariant.seat c.round-served.ensures.watching

pub returns-then-is_err-clause-serving : goal.returns-then-is_err-clause-serving
returns-then-is_err-clause-serving g c =
    serving_then (members g.W.Polls g.W.Way) _ _ _ _ _ _ c.loop.invariant.serving c.round-served.ensures.serving

pub returns-then-is_err-clause-listens : goal.returns-then-is_err-clause-listens
returns-then-is_err-clause-listens g c =
    listens_on _ _ _ _ c.round-served.ensures.port c.round-served.ensures.listens c.loop.invariant.listens

pub returns-then-is_err-clause-role : goal.returns-then-is_err-clause-role
returns-then-is_err-clause-role g c = ap (λ (p : Place). p.role) c.round-served.ensures.listens ∙ c.loop.invariant.role

pub returns-then-is_err-clause-cause : goal.returns-then-is_err-clause-cause
returns-then-is_err-clause-cause g c failed =
    cause_on (members g.W.Polls g.W.Way) _ _ _ _ _ c.loop.invariant.serving (c.round-served.ensures.cause failed)

pub loop-preserved : goal.loop-preserved
loop-preserved g c = record {
  serving =
      serving_quiet (members g.W.Polls g.W.Way) _ _ _ _ _ _
      (serving_then (members g.W.Polls g.W.Way) _ _ _ _ _ _ c.loop.invariant.serving c.round-served.ensures.serving)
      c.stop_listening.ensures.quiet c.stop_listening.ensures.places c.stop_listening.ensures.connections;
  listens = c.stop_listening.ensures.listens;
  role = role_stays _ _ (c.stop_listening.ensures.quiet.places listener)
      ∙ (ap (λ (p : Place). p.role) c.round-served.ensures.listens ∙ c.loop.invariant.role);
  seat = seat_then (seat_then c.loop.invariant.seat c.round-served.ensures.watching.seat)
      c.stop_listening.ensures.board.seat;
  watched = watched_on c.round-served.new.self.connections c.stop_listening.new.self.connections
      c.stop_listening.ensures.board (ap (λ (x : Connections). x.clients) c.stop_listening.ensures.connections)
      (where_done c.round-served.result (sym c.is_err.ensures.value ∙ c.if-is_err.false)
      c.round-served.ensures.watching.all);
}

pub stop_listening-requires : goal.stop_listening-requires
stop_listening-requires g c =
    record {
      listens = listens_on _ _ _ _ c.round-served.ensures.port c.round-served.ensures.listens
          c.loop.invariant.listens;
    }
