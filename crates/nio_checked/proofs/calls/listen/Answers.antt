use Rattle.std.proofs.Common.{ap, sym}
use Rattle.nio_link.specs.Places.{is_there}
use Rattle.nio_link.specs.declared.place.Place.{Place}
use Rattle.nio_link.specs.declared.place.Role.TheVariants as role
use Rattle.nio_link.specs.declared.place.Standing.TheVariants as standing
use Rattle.nio_checked.proofs.Allowing.{not_allowed, serves_never}
use Rattle.nio_checked.proofs.Changing.{kept_made, kept_still, none_made}
use Rattle.nio_checked.proofs.Keeping.{ready_none, ready_unmade, told_made, told_unmade}
use Rattle.nio_checked.proofs.calls.listen.Goals as goal

pub returns-then-not-is_free-clause-allowed : goal.returns-then-not-is_free-clause-allowed
returns-then-not-is_free-clause-allowed g c =
    not_allowed _ _ (serves_never (g.N.Net.place c.args.net.now) c.args.kept.now c.requires.kept c.args.chan
    (sym c.if-not-is_free.ensures))

pub returns-in-Ok-clause-checked : goal.returns-in-Ok-clause-checked
returns-in-Ok-clause-checked g c = record {
  kept = kept_made (g.N.Net.place c.args.net.now) (g.N.Net.place c.listen.new.self) c.args.kept.now c.keep.new.kept
      c.args.chan c.listen.ensures.places (record { role = role.Listener c.args.at; standing = standing.Listening })
      c.in-Ok.ensures.place (λ none. cc none) (sym c.if-not-is_free.ensures) c.keep.ensures c.requires.kept;
  ready = rw c.tell_nothing.ensures (ready_none (g.N.Poller.ready c.args.net.now) (g.N.Poller.ready c.listen.new.self)
      c.args.told.now c.args.chan.number c.listen.ensures.ready_else c.requires.ready);
}

pub returns-in-Ok-clause-told : goal.returns-in-Ok-clause-told
returns-in-Ok-clause-told g c = λ _.
    told_made c.args.chan.number c.args.told.now c.tell_nothing.new.told
    (g.N.Net.place c.listen.new.self c.args.chan).standing
    (ap (λ (p : Place). is_there p.standing) c.in-Ok.ensures.place) c.tell_nothing.ensures

pub returns-in-Err-clause-checked : goal.returns-in-Err-clause-checked
returns-in-Err-clause-checked g c = record {
  kept = kept_still (g.N.Net.place c.args.net.now) (g.N.Net.place c.listen.new.self) c.args.kept.now c.args.kept.now
      c.args.chan c.listen.ensures.places c.in-Err.ensures.place c.requires.kept;
  ready = ready_unmade (g.N.Poller.ready c.args.net.now) (g.N.Poller.ready c.listen.new.self) c.args.told.now
      c.args.chan.number (g.N.Net.place c.listen.new.self c.args.chan).standing
      (none_made (g.N.Net.place c.args.net.now) (g.N.Net.place c.listen.new.self) c.args.kept.now c.args.chan
      c.requires.kept (sym c.if-not-is_free.ensures) c.in-Err.ensures.place) c.listen.ensures.ready
      c.listen.ensures.ready_else c.requires.ready;
}

pub returns-in-Err-clause-told : goal.returns-in-Err-clause-told
returns-in-Err-clause-told g c = λ _.
    told_unmade c.args.chan.number c.args.told.now (g.N.Net.place c.listen.new.self c.args.chan).standing
    (none_made (g.N.Net.place c.args.net.now) (g.N.Net.place c.listen.new.self) c.args.kept.now c.args.chan
    c.requires.kept (sym c.if-not-is_free.ensures) c.in-Err.ensures.place)
