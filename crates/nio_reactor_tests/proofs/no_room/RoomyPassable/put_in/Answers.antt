use Rattle.std.proofs.Common.{refl, sym}
use Rattle.nio_link.proofs.Making.{free_ready}
use Rattle.nio_reactor_tests.proofs.no_room.RoomyPassable.put_in.Goals as goal

-- a net without room is as it was
pub returns-else-self : goal.returns-else-self
returns-else-self g c = record {
  back = refl;
  faults = λ k. refl;
  links = λ k. refl;
  ready = sym (free_ready (g.N.Net.place c.args.self.now.net) c.args.chan _ c.requires);
  ready_else = λ n other. refl;
  place = refl;
  places = λ k other. refl;
  accepted = refl;
  polls = refl;
  shown = refl;
}
