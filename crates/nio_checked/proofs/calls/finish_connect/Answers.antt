use Rattle.std.proofs.Common.{◌≡◌, ℕ, Bool, true, false, Ok, refl, sym, ◌∙◌, subst}
use Rattle.nio_link.proofs.Channels.{all_same, is_or_not}
use Rattle.nio_link.specs.Places.{place_after_finish}
use Rattle.nio_link.specs.Readiness.{ready_after_connect, without}
use Rattle.nio_link.specs.declared.place.Place.{Place}
use Rattle.nio_link.specs.declared.place.Standing.TheVariants as standing
use Rattle.nio_checked.proofs.Allowing.{stands_from}
use Rattle.nio_checked.proofs.Changing.{kept_moved, kept_still}
use Rattle.nio_checked.proofs.Keeping.{ready_after, ready_none, ready_same, told_ready, told_still}
use Rattle.nio_checked.proofs.calls.finish_connect.Goals as goal

pub finish_connect-requires : goal.finish_connect-requires
finish_connect-requires g c = record {
  ready = told_ready (g.N.Poller.ready c.args.net.now) c.args.told.now c.args.chan.number 8 c.requires.ready
      (c.if-not-is_told.ensures.0 refl);
  connecting = stands_from (g.N.Net.place c.args.net.now) c.args.kept.now c.requires.kept c.args.chan
      standing.Connecting refl (sym c.standing_of.ensures ∙ c.if-not-is_connecting.ensures.0 refl);
}

-- it is connected
connected_place : (b : Bool) (p p' : Place) → b ≡ true → p' ≡ place_after_finish (Ok b) p
    → p' ≡ record p { standing = standing.Linked }
connected_place b p p' is after = subst (λ (x : Bool). p' ≡ place_after_finish (Ok x) p) is after

connected_ready : (b : Bool) (ops ops' : ℕ) → b ≡ true → ops' ≡ ready_after_connect (Ok b) ops → ops' ≡ ops
connected_ready b ops ops' is after = subst (λ (x : Bool). ops' ≡ ready_after_connect (Ok x) ops) is after

pub returns-in-Ok-true-clause-checked : goal.returns-in-Ok-true-clause-checked
returns-in-Ok-true-clause-checked g c = record {
  kept = kept_moved (g.N.Net.place c.args.net.now) (g.N.Net.place c.finish_connect.new.self) c.args.kept.now
      c.keep.new.kept c.args.chan c.finish_connect.ensures.places standing.Connecting standing.Linked
      (sym c.standing_of.ensures ∙ c.if-not-is_connecting.ensures.0 refl) refl
      (connected_place c.in-Ok-true.field-0 (g.N.Net.place c.args.net.now c.args.chan)
      (g.N.Net.place c.finish_connect.new.self c.args.chan) c.in-Ok-true.field-0-test c.in-Ok-true.ensures.place)
      c.keep.ensures c.requires.kept;
  ready = ready_same (g.N.Poller.ready c.args.net.now) (g.N.Poller.ready c.finish_connect.new.self) c.args.told.now
      (all_same is_or_not c.args.chan.number (g.N.Poller.ready c.args.net.now)
      (g.N.Poller.ready c.finish_connect.new.self)
      (connected_ready c.in-Ok-true.field-0 (g.N.Poller.ready c.args.net.now c.args.chan.number)
      (g.N.Poller.ready c.finish_connect.new.self c.args.chan.number) c.in-Ok-true.field-0-test
      c.in-Ok-true.ensures.ready) c.finish_connect.ensures.ready_else) c.requires.ready;
}

-- that isn't done yet
still_connecting : (b : Bool) (p p' : Place) → b ≡ false → p' ≡ place_after_finish (Ok b) p → p' ≡ p
still_connecting b p p' is after = subst (λ (x : Bool). p' ≡ place_after_finish (Ok x) p) is after

not_ready : (b : Bool) (ops ops' : ℕ) → b ≡ false → ops' ≡ ready_after_connect (Ok b) ops → ops' ≡ without 8 ops
not_ready b ops ops' is after = subst (λ (x : Bool). ops' ≡ ready_after_connect (Ok x) ops) is after

pub returns-in-Ok-false-clause-checked : goal.returns-in-Ok-false-clause-checked
returns-in-Ok-false-clause-checked g c = record {
  kept = kept_still (g.N.Net.place c.args.net.now) (g.N.Net.place c.finish_connect.new.self) c.args.kept.now
      c.args.kept.now c.args.chan c.finish_connect.ensures.places
      (still_connecting c.in-Ok-false.field-0 (g.N.Net.place c.args.net.now c.args.chan)
      (g.N.Net.place c.finish_connect.new.self c.args.chan) c.in-Ok-false.field-0-test c.in-Ok-false.ensures.place)
      c.requires.kept;
  ready = rw c.untell.ensures (ready_after (g.N.Poller.ready c.args.net.now)
      (g.N.Poller.ready c.finish_connect.new.self) c.args.told.now c.args.chan.number 8
      (not_ready c.in-Ok-false.field-0 (g.N.Poller.ready c.args.net.now c.args.chan.number)
      (g.N.Poller.ready c.finish_connect.new.self c.args.chan.number) c.in-Ok-false.field-0-test
      c.in-Ok-false.ensures.ready) c.finish_connect.ensures.ready_else c.requires.ready);
}

pub returns-in-Err-clause-checked : goal.returns-in-Err-clause-checked
returns-in-Err-clause-checked g c = record {
  kept = kept_moved (g.N.Net.place c.args.net.now) (g.N.Net.place c.finish_connect.new.self) c.args.kept.now
      c.keep-in-Err.new.kept c.args.chan c.finish_connect.ensures.places standing.Connecting standing.Gone
      (sym c.standing_of.ensures ∙ c.if-not-is_connecting.ensures.0 refl) refl c.in-Err.ensures.place
      c.keep-in-Err.ensures c.requires.kept;
  ready = rw c.tell_nothing.ensures (ready_none (g.N.Poller.ready c.args.net.now)
      (g.N.Poller.ready c.finish_connect.new.self) c.args.told.now c.args.chan.number
      c.finish_connect.ensures.ready_else c.requires.ready);
}

pub returns-in-Ok-true-clause-told : goal.returns-in-Ok-true-clause-told
returns-in-Ok-true-clause-told g c = λ _ _. told_still c.args.chan.number c.args.told.now
