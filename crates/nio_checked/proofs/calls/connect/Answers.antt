use Rattle.std.proofs.Common.{◌≡◌, Bool, true, false, Ok, ap, sym, subst}
use Rattle.nio_base.specs.declared.numbers.Addr.{Addr}
use Rattle.nio_link.specs.Places.{is_there, place_after_connect}
use Rattle.nio_link.specs.declared.place.Place.{Place}
use Rattle.nio_link.specs.declared.place.Role.TheVariants as role
use Rattle.nio_link.specs.declared.place.Standing.TheVariants as standing
use Rattle.nio_checked.proofs.Allowing.{not_allowed, serves_never}
use Rattle.nio_checked.proofs.Changing.{kept_made}
use Rattle.nio_checked.proofs.Keeping.{ready_none, ready_unmade, told_made, told_unmade}
use Rattle.nio_checked.proofs.calls.connect.Goals as goal

pub returns-then-not-is_free-clause-allowed : goal.returns-then-not-is_free-clause-allowed
returns-then-not-is_free-clause-allowed g c =
    not_allowed _ _ (serves_never (g.N.Net.place c.args.net.now) c.args.kept.now c.requires.kept c.args.chan
    (sym c.if-not-is_free.ensures))

-- it is connected
connected_place : (b : Bool) (to : Addr) (p : Place) → b ≡ true → p ≡ place_after_connect (Ok b) to
    → p ≡ record { role = role.Connected to; standing = standing.Linked }
connected_place b to p is after = subst (λ (x : Bool). p ≡ place_after_connect (Ok x) to) is after

pub returns-in-Ok-true-clause-checked : goal.returns-in-Ok-true-clause-checked
returns-in-Ok-true-clause-checked g c = record {
  kept = kept_made (g.N.Net.place c.args.net.now) (g.N.Net.place c.connect.new.self) c.args.kept.now c.keep.new.kept
      c.args.chan c.connect.ensures.places (record { role = role.Connected c.args.to; standing = standing.Linked })
      (connected_place c.in-Ok-true.field-0 c.args.to (g.N.Net.place c.connect.new.self c.args.chan)
      c.in-Ok-true.field-0-test c.in-Ok-true.ensures.place)
      (λ none. cc none) (sym c.if-not-is_free.ensures) c.keep.ensures c.requires.kept;
  ready = rw c.tell_nothing.ensures (ready_none (g.N.Poller.ready c.args.net.now)
      (g.N.Poller.ready c.connect.new.self) c.args.told.now c.args.chan.number c.connect.ensures.ready_else
      c.requires.ready);
}

pub returns-in-Ok-true-clause-told : goal.returns-in-Ok-true-clause-told
returns-in-Ok-true-clause-told g c = λ _.
    told_made c.args.chan.number c.args.told.now c.tell_nothing.new.told
    (g.N.Net.place c.connect.new.self c.args.chan).standing
    (ap (λ (p : Place). is_there p.standing) (connected_place c.in-Ok-true.field-0 c.args.to
    (g.N.Net.place c.connect.new.self c.args.chan) c.in-Ok-true.field-0-test c.in-Ok-true.ensures.place))
    c.tell_nothing.ensures

-- that isn't done yet
connecting_place : (b : Bool) (to : Addr) (p : Place) → b ≡ false → p ≡ place_after_connect (Ok b) to
    → p ≡ record { role = role.Connected to; standing = standing.Connecting }
connecting_place b to p is after = subst (λ (x : Bool). p ≡ place_after_connect (Ok x) to) is after

pub returns-in-Ok-false-clause-checked : goal.returns-in-Ok-false-clause-checked
returns-in-Ok-false-clause-checked g c = record {
  kept = kept_made (g.N.Net.place c.args.net.now) (g.N.Net.place c.connect.new.self) c.args.kept.now
      c.keep-in-Ok-false.new.kept c.args.chan c.connect.ensures.places
      (record { role = role.Connected c.args.to; standing = standing.Connecting })
      (connecting_place c.in-Ok-false.field-0 c.args.to (g.N.Net.place c.connect.new.self c.args.chan)
      c.in-Ok-false.field-0-test c.in-Ok-false.ensures.place)
      (λ none. cc none) (sym c.if-not-is_free.ensures) c.keep-in-Ok-false.ensures c.requires.kept;
  ready = rw c.tell_nothing-in-Ok-false.ensures (ready_none (g.N.Poller.ready c.args.net.now)
      (g.N.Poller.ready c.connect.new.self) c.args.told.now c.args.chan.number c.connect.ensures.ready_else
      c.requires.ready);
}

pub returns-in-Ok-false-clause-told : goal.returns-in-Ok-false-clause-told
returns-in-Ok-false-clause-told g c = λ _.
    told_made c.args.chan.number c.args.told.now c.tell_nothing-in-Ok-false.new.told
    (g.N.Net.place c.connect.new.self c.args.chan).standing
    (ap (λ (p : Place). is_there p.standing) (connecting_place c.in-Ok-false.field-0 c.args.to
    (g.N.Net.place c.connect.new.self c.args.chan) c.in-Ok-false.field-0-test c.in-Ok-false.ensures.place))
    c.tell_nothing-in-Ok-false.ensures

pub returns-in-Err-clause-checked : goal.returns-in-Err-clause-checked
returns-in-Err-clause-checked g c = record {
  kept = kept_made (g.N.Net.place c.args.net.now) (g.N.Net.place c.connect.new.self) c.args.kept.now
      c.keep-in-Err.new.kept c.args.chan c.connect.ensures.places
      (record { role = role.Connected c.args.to; standing = standing.Gone }) c.in-Err.ensures.place
      (λ none. cc none) (sym c.if-not-is_free.ensures) c.keep-in-Err.ensures c.requires.kept;
  ready = ready_unmade (g.N.Poller.ready c.args.net.now) (g.N.Poller.ready c.connect.new.self) c.args.told.now
      c.args.chan.number (g.N.Net.place c.connect.new.self c.args.chan).standing
      (ap (λ (p : Place). is_there p.standing) c.in-Err.ensures.place) c.connect.ensures.ready
      c.connect.ensures.ready_else c.requires.ready;
}

pub returns-in-Err-clause-told : goal.returns-in-Err-clause-told
returns-in-Err-clause-told g c = λ _.
    told_unmade c.args.chan.number c.args.told.now (g.N.Net.place c.connect.new.self c.args.chan).standing
    (ap (λ (p : Place). is_there p.standing) c.in-Err.ensures.place)
