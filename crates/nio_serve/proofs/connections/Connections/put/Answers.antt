use Rattle.std.proofs.Common.{◌≡◌, ◌+◌, Some, None, slice_get, refl, ap, inl, inr, arith, rules}
use Rattle.std.proofs.lemmas.Option.{slice_get_read}
use Rattle.nio_serve.specs.Statuses.{Over, has_ended, has_faulted}
use Rattle.nio_serve.proofs.Counts.{one_if}
use Rattle.nio_serve.proofs.Writing.{puts_written}
use Rattle.nio_serve.proofs.connections.Connections.put.Goals as goal

pub returns-in_default : goal.returns-in_default
returns-in_default c =
    let was = c.index_mut.result.now in
    let at : slice_get c.args.self.now.slots.items c.args.slot ≡ Some was =
    slice_get_read c.args.self.now.slots.items _ c.args.slot was refl c.requires.within c.index_mut.ensures.value in
    puts_written c.args.slot c.args.relay c.args.ended None c.args.self.now _ was c.put.new.self c.in_default.is at
    c.put.ensures refl
    (record { plan = record { conns = refl; target = refl }; begun = refl; clients = refl }) (omega arith) (omega arith)
    refl refl

pub returns-in-Ok : goal.returns-in-Ok
returns-in-Ok c =
    let was = c.index_mut-2.result.now in
    let at : slice_get c.args.self.now.slots.items c.args.slot ≡ Some was =
    slice_get_read c.args.self.now.slots.items _ c.args.slot was refl c.requires.within c.index_mut-2.ensures.value in
    let over = Some (Over c.in-Some.ended) in
    let ended : c.from.result ≡ one_if (has_ended over) = search rules in
    let faulted : c.from-2.result ≡ one_if (has_faulted over) = search rules in
    puts_written c.args.slot c.args.relay c.args.ended (Some c.in-Some.ended) c.args.self.now _ was c.end.new.self
    c.in-Some.is at c.end.ensures refl
    (record { plan = record { conns = refl; target = refl }; begun = refl; clients = refl })
    (ap (λ m. c.args.self.now.ended + m) ended) (ap (λ m. c.args.self.now.faulted + m) faulted)
    (inr c.in-Ok.ensures.items) refl

pub returns-in-Err : goal.returns-in-Err
returns-in-Err c =
    let was = c.index_mut-2.result.now in
    let at : slice_get c.args.self.now.slots.items c.args.slot ≡ Some was =
    slice_get_read c.args.self.now.slots.items _ c.args.slot was refl c.requires.within c.index_mut-2.ensures.value in
    let over = Some (Over c.in-Some.ended) in
    let ended : c.from.result ≡ one_if (has_ended over) = search rules in
    let faulted : c.from-2.result ≡ one_if (has_faulted over) = search rules in
    puts_written c.args.slot c.args.relay c.args.ended (Some c.in-Some.ended) c.args.self.now _ was c.end.new.self
    c.in-Some.is at c.end.ensures refl
    (record { plan = record { conns = refl; target = refl }; begun = refl; clients = refl })
    (ap (λ m. c.args.self.now.ended + m) ended) (ap (λ m. c.args.self.now.faulted + m) faulted)
    (inl c.in-Err.ensures.items) refl
