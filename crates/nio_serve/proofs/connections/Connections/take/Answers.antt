use Rattle.std.proofs.Common.{◌≡◌, ◌<◌, ◌∙◌, Some, IsSome, is_some, length, slice_get, refl, ap, sym, rules}
use Rattle.std.proofs.Math.ListN.{set}
use Rattle.std.proofs.lemmas.Option.{slice_get_read}
use Rattle.nio_serve.specs.declared.slot.Slot.{Slot}
use Rattle.nio_serve.proofs.Writing.{takes_written}
use Rattle.nio_serve.proofs.connections.Connections.take.Goals as goal

pub returns-then-is_some : goal.returns-then-is_some
returns-then-is_some c =
    let slots = c.args.self.now.slots.items in
    let j = c.args.slot in
    let within : j < length slots = search rules in
    let was = c.index_mut.result.now in
    let at : slice_get slots j ≡ Some was = slice_get_read slots _ j was refl within c.index_mut.ensures.value in
    let read : slice_get slots j ≡ Some c.index.result.now =
    slice_get_read slots _ j c.index.result.now refl within c.index.ensures in
    let same : was ≡ c.index.result.now = cc in
    let taken = c.take.ensures.taken in
    let some : IsSome c.take.result =
    ap is_some (taken ∙ ap (λ (s : Slot). s.relay) same) ∙ (sym c.is_some.ensures ∙ c.if-is_some.true) in
    takes_written j c.take.result c.args.self.now _ was at taken some
    (ap (λ (s : Slot). set slots j s) c.take.ensures.left)
    (record {
      none = record { plan = record { conns = refl; target = refl }; begun = refl; clients = refl };
      ended = refl;
      faulted = refl;
    }) refl refl
