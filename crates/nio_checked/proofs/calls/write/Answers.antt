use Rattle.std.proofs.Common.{◌≡◌, ℕ, Ok, refl, sym, ◌∙◌, subst}
use Rattle.nio_link.specs.Readiness.{ready_after_write, without}
use Rattle.nio_link.specs.declared.net.Put.{Put}
use Rattle.nio_link.specs.declared.net.Put.TheVariants.{NotYet}
use Rattle.nio_link.specs.declared.place.Standing.TheVariants as standing
use Rattle.nio_checked.proofs.Allowing.{stands_from}
use Rattle.nio_checked.proofs.Keeping.{kept_same, ready_after, told_ready, told_still}
use Rattle.nio_checked.proofs.calls.write.Goals as goal

pub write-requires-clause-may : goal.write-requires-clause-may
write-requires-clause-may g c = record {
  ready = told_ready (g.N.Poller.ready c.args.net.now) c.args.told.now c.args.chan.number 4 c.requires.checked.ready
      (c.if-not-is_told.ensures.0 refl);
  linked = stands_from (g.N.Net.place c.args.net.now) c.args.kept.now c.requires.checked.kept c.args.chan
      standing.Linked refl (sym c.standing_of.ensures ∙ c.if-not-is_whole.ensures.0 refl);
}

-- there is no room yet
no_room : (answer : Put) (ops ops' : ℕ) → answer ≡ NotYet → ops' ≡ ready_after_write (Ok answer) ops
    → ops' ≡ without 4 ops
no_room answer ops ops' is after = subst (λ (x : Put). ops' ≡ ready_after_write (Ok x) ops) is after

pub returns-in-Ok-NotYet-clause-checked : goal.returns-in-Ok-NotYet-clause-checked
returns-in-Ok-NotYet-clause-checked g c = record {
  kept = kept_same (g.N.Net.place c.args.net.now) (g.N.Net.place c.write.new.self) c.args.kept.now
      c.write.ensures.places c.requires.checked.kept;
  ready = rw c.untell.ensures (ready_after (g.N.Poller.ready c.args.net.now) (g.N.Poller.ready c.write.new.self)
      c.args.told.now c.args.chan.number 4
      (no_room c.in-Ok-NotYet.field-0 (g.N.Poller.ready c.args.net.now c.args.chan.number)
      (g.N.Poller.ready c.write.new.self c.args.chan.number) c.in-Ok-NotYet.field-0-is c.in-Ok-NotYet.ensures.ready)
      c.write.ensures.ready_else c.requires.checked.ready);
}

pub returns-in-Ok-Bytes-clause-told : goal.returns-in-Ok-Bytes-clause-told
returns-in-Ok-Bytes-clause-told g c = λ _ _. told_still c.args.chan.number c.args.told.now

pub returns-in-Err-clause-told : goal.returns-in-Err-clause-told
returns-in-Err-clause-told g c = λ _ _. told_still c.args.chan.number c.args.told.now
