use Rattle.std.proofs.Common.{◌≡◌, ◌∷◌, Some, slice_get, refl, arith, rules}
use Rattle.std.proofs.lemmas.Option.{slice_get_read}
use Rattle.nio_serve.specs.Changes.{begun}
use Rattle.nio_serve.proofs.Idle.{first_idle}
use Rattle.nio_serve.proofs.Writing.{written_else, written_slot}
use Rattle.nio_serve.proofs.connections.Connections.occupy.Goals as goal

pub returns : goal.returns
returns c =
    let slots = c.args.self.now.slots.items in
    let j = c.in-Some.slot in
    let was = c.index_mut.result.now in
    let idle : c.args.self.now.idle.items ≡ j ∷ c.pop_front.new.self.items = search rules in
    let first = first_idle c.args.self.now j c.pop_front.new.self.items c.requires.slots idle in
    let at : slice_get slots j ≡ Some was = slice_get_read slots _ j was refl first.within c.index_mut.ensures.value in
    record {
      j = j;
      idle = idle;
      free = omega (arith, c.requires.free);
      slot = written_slot (begun c.args.relay) slots j was c.begin.new.self at c.begin.ensures;
      others = written_else slots j c.begin.new.self;
      plan = record { conns = refl; target = refl };
      more = refl;
      clients = c.push.ensures;
      ended = refl;
      faulted = refl;
    }
