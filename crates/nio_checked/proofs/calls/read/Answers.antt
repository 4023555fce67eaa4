use Rattle.std.proofs.Common.{◌≡◌, ℕ, Ok, refl, subst}
use Rattle.nio_link.specs.Places.{IsLinked}
use Rattle.nio_link.specs.Readiness.{ready_after_read, without}
use Rattle.nio_link.specs.declared.net.Got.{Got}
use Rattle.nio_link.specs.declared.net.Got.TheVariants.{NotYet}
use Rattle.nio_checked.proofs.Allowing.{linked_from}
use Rattle.nio_checked.proofs.Keeping.{kept_same, ready_after, told_ready, told_still}
use Rattle.nio_checked.proofs.calls.read.Goals as goal

pub read-requires-clause-may : goal.read-requires-clause-may
read-requires-clause-may g c = record {
  ready = told_ready (g.N.Poller.ready c.args.net.now) c.args.told.now c.args.chan.number 1 c.requires.checked.ready
      (c.if-not-is_told.ensures.0 refl);
  linked = linked_from (g.N.Net.place c.args.net.now) c.args.kept.now c.requires.checked.kept c.args.chan
      (subst IsLinked c.standing_of.ensures (c.if-not-is_linked.ensures.0 refl));
}

-- nothing has come yet
none_yet : (answer : Got) (ops ops' : ℕ) → answer ≡ NotYet → ops' ≡ ready_after_read (Ok answer) ops
    → ops' ≡ without 1 ops
none_yet answer ops ops' is after = subst (λ (x : Got). ops' ≡ ready_after_read (Ok x) ops) is after

pub returns-in-Ok-NotYet-clause-checked : goal.returns-in-Ok-NotYet-clause-checked
returns-in-Ok-NotYet-clause-checked g c = record {
  kept = kept_same (g.N.Net.place c.args.net.now) (g.N.Net.place c.read.new.self) c.args.kept.now
      c.read.ensures.places c.requires.checked.kept;
  ready = rw c.untell.ensures (ready_after (g.N.Poller.ready c.args.net.now) (g.N.Poller.ready c.read.new.self)
      c.args.told.now c.args.chan.number 1
      (none_yet c.in-Ok-NotYet.field-0 (g.N.Poller.ready c.args.net.now c.args.chan.number)
      (g.N.Poller.ready c.read.new.self c.args.chan.number) c.in-Ok-NotYet.field-0-is c.in-Ok-NotYet.ensures.ready)
      c.read.ensures.ready_else c.requires.checked.ready);
}

pub returns-in-Ok-Bytes-clause-told : goal.returns-in-Ok-Bytes-clause-told
returns-in-Ok-Bytes-clause-told g c = λ _ _. told_still c.args.chan.number c.args.told.now

pub returns-in-Ok-End-clause-told : goal.returns-in-Ok-End-clause-told
returns-in-Ok-End-clause-told g c = λ _ _. told_still c.args.chan.number c.args.told.now

pub returns-in-Err-clause-told : goal.returns-in-Err-clause-told
returns-in-Err-clause-told g c = λ _ _. told_still c.args.chan.number c.args.told.now
