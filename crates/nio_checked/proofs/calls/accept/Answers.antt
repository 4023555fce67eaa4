use Rattle.std.proofs.Common.{◌≡◌, ℕ, ◌<◌, Bool, true, false, IsTrue, Ok, length, refl, ap, sym, ◌∙◌, subst}
use Rattle.nio_base.specs.declared.numbers.ChanId.{ChanId}
use Rattle.nio_link.specs.Places.{is_there, IsFree, place_after_accept}
use Rattle.nio_link.specs.Readiness.{ready_after_accept, ready_after_making, without}
use Rattle.nio_link.specs.declared.place.Place.{Place}
use Rattle.nio_link.specs.declared.place.Role.TheVariants as role
use Rattle.nio_link.specs.declared.place.Standing.TheVariants as standing
use Rattle.nio_checked.proofs.Allowing.{not_allowed, serves_from, serves_never, stands_from, stands_to}
use Rattle.nio_checked.proofs.Changing.{kept_made, kept_still, none_made}
use Rattle.nio_checked.proofs.Keeping.{ready_after, ready_none, ready_unmade, same_but_one, told_made, told_ready}
use Rattle.nio_checked.proofs.Keeping.{told_still, told_unmade}
use Rattle.nio_checked.specs.Listed.{told_after}
use Rattle.nio_checked.proofs.calls.accept.Goals as goal
use Rattle.nio_checked.proofs.calls.accept.Goals.{then-not-is_listening-via-then-not-is_listening, then-not-is_listening-via-else-not-is_listening+then-not-is_free}

pub returns-then-not-is_listening-clause-allowed : goal.returns-then-not-is_listening-clause-allowed
returns-then-not-is_listening-clause-allowed g c =
    let never : ((g.N.Net.place c.args.net.now c.args.listener).standing ≡ standing.Listening)
    × ((c.args.chan.number.0 < length c.args.kept.now) × IsFree (g.N.Net.place c.args.net.now) c.args.chan) → ⊥ =
    elim c.then-not-is_listening.branch [
      | then-not-is_listening-via-then-not-is_listening w ↦ λ both.
          let listens : IsTrue false = w.if-not-is_listening.ensures.1 (c.standing_of.ensures
          ∙ stands_to (g.N.Net.place c.args.net.now) c.args.kept.now c.requires.kept c.args.listener standing.Listening
          refl both.0) in absurd (cc listens)
      | then-not-is_listening-via-else-not-is_listening+then-not-is_free w ↦ λ both.
          serves_never (g.N.Net.place c.args.net.now) c.args.kept.now c.requires.kept c.args.chan
          (sym w.if-not-is_free.ensures) both.1
    ] in not_allowed _ _ never

pub accept-requires : goal.accept-requires
accept-requires g c = record {
  ready = told_ready (g.N.Poller.ready c.args.net.now) c.args.told.now c.args.listener.number 16 c.requires.ready
      (c.if-not-is_told.ensures.0 refl);
  listens = stands_from (g.N.Net.place c.args.net.now) c.args.kept.now c.requires.kept c.args.listener
      standing.Listening refl (sym c.standing_of.ensures ∙ c.if-not-is_listening.ensures.0 refl);
  free = (serves_from (g.N.Net.place c.args.net.now) c.args.kept.now c.requires.kept c.args.chan
      (sym c.if-not-is_free.ensures)).1;
}

-- one was accepted
accepted_place : (b : Bool) (listener : ChanId) (p p' : Place) → b ≡ true → p' ≡ place_after_accept (Ok b) listener p
    → p' ≡ record { role = role.Accepted listener; standing = standing.Linked }
accepted_place b listener p p' is after = subst (λ (x : Bool). p' ≡ place_after_accept (Ok x) listener p) is after

accepted_ready : (b : Bool) (ops ops' : ℕ) → b ≡ true → ops' ≡ ready_after_accept (Ok b) ops → ops' ≡ ops
accepted_ready b ops ops' is after = subst (λ (x : Bool). ops' ≡ ready_after_accept (Ok x) ops) is after

pub returns-in-Ok-true-clause-checked : goal.returns-in-Ok-true-clause-checked
returns-in-Ok-true-clause-checked g c = record {
  kept = kept_made (g.N.Net.place c.args.net.now) (g.N.Net.place c.accept.new.self) c.args.kept.now c.keep.new.kept
      c.args.chan c.accept.ensures.places (record { role = role.Accepted c.args.listener; standing = standing.Linked })
      (accepted_place c.in-Ok-true.field-0 c.args.listener (g.N.Net.place c.args.net.now c.args.chan)
      (g.N.Net.place c.accept.new.self c.args.chan) c.in-Ok-true.field-0-test c.in-Ok-true.ensures.place)
      (λ none. cc none) (sym c.if-not-is_free.ensures) c.keep.ensures c.requires.kept;
  ready = rw c.tell_nothing.ensures (ready_none (g.N.Poller.ready c.args.net.now) (g.N.Poller.ready c.accept.new.self)
      c.args.told.now c.args.chan.number (same_but_one (g.N.Poller.ready c.args.net.now)
      (g.N.Poller.ready c.accept.new.self) c.args.chan.number c.args.listener.number
      (accepted_ready c.in-Ok-true.field-0 (g.N.Poller.ready c.args.net.now c.args.listener.number)
      (g.N.Poller.ready c.accept.new.self c.args.listener.number) c.in-Ok-true.field-0-test
      c.in-Ok-true.ensures.ready) c.accept.ensures.ready_else) c.requires.ready);
}

pub returns-in-Ok-true-clause-told : goal.returns-in-Ok-true-clause-told
returns-in-Ok-true-clause-told g c = λ _ _.
    told_made c.args.chan.number (told_after c.args.listener.number (λ ops. ops) c.args.told.now)
    c.tell_nothing.new.told (g.N.Net.place c.accept.new.self c.args.chan).standing
    (ap (λ (p : Place). is_there p.standing)
    (accepted_place c.in-Ok-true.field-0 c.args.listener (g.N.Net.place c.args.net.now c.args.chan)
    (g.N.Net.place c.accept.new.self c.args.chan) c.in-Ok-true.field-0-test c.in-Ok-true.ensures.place))
    (c.tell_nothing.ensures ∙ ap (told_after c.args.chan.number (λ _. 0))
    (told_still c.args.listener.number c.args.told.now))

-- none has come
none_came : (b : Bool) (listener : ChanId) (p p' : Place) → b ≡ false → p' ≡ place_after_accept (Ok b) listener p
    → p' ≡ p
none_came b listener p p' is after = subst (λ (x : Bool). p' ≡ place_after_accept (Ok x) listener p) is after

not_ready : (b : Bool) (ops ops' : ℕ) → b ≡ false → ops' ≡ ready_after_accept (Ok b) ops → ops' ≡ without 16 ops
not_ready b ops ops' is after = subst (λ (x : Bool). ops' ≡ ready_after_accept (Ok x) ops) is after

-- what the number of the channel that wasn't made is ready for
unmade_ready : (b : Bool) (ops ops' : ℕ) → b ≡ false → ops' ≡ ready_after_making b ops → ops' ≡ ops
unmade_ready b ops ops' none after = subst (λ (x : Bool). ops' ≡ ready_after_making x ops) none after

pub returns-in-Ok-false-clause-checked : goal.returns-in-Ok-false-clause-checked
returns-in-Ok-false-clause-checked g c =
    let still : g.N.Net.place c.accept.new.self c.args.chan ≡ g.N.Net.place c.args.net.now c.args.chan =
    none_came c.in-Ok-false.field-0 c.args.listener (g.N.Net.place c.args.net.now c.args.chan)
    (g.N.Net.place c.accept.new.self c.args.chan) c.in-Ok-false.field-0-test c.in-Ok-false.ensures.place in record {
      kept = kept_still (g.N.Net.place c.args.net.now) (g.N.Net.place c.accept.new.self) c.args.kept.now c.args.kept.now
          c.args.chan c.accept.ensures.places still c.requires.kept;
      ready = rw c.untell.ensures (ready_after (g.N.Poller.ready c.args.net.now) (g.N.Poller.ready c.accept.new.self)
          c.args.told.now c.args.listener.number 16
          (not_ready c.in-Ok-false.field-0 (g.N.Poller.ready c.args.net.now c.args.listener.number)
          (g.N.Poller.ready c.accept.new.self c.args.listener.number) c.in-Ok-false.field-0-test
          c.in-Ok-false.ensures.ready)
          (same_but_one (g.N.Poller.ready c.args.net.now) (g.N.Poller.ready c.accept.new.self) c.args.listener.number
          c.args.chan.number
          (unmade_ready (is_there (g.N.Net.place c.accept.new.self c.args.chan).standing)
          (g.N.Poller.ready c.args.net.now c.args.chan.number) (g.N.Poller.ready c.accept.new.self c.args.chan.number)
          (none_made (g.N.Net.place c.args.net.now) (g.N.Net.place c.accept.new.self) c.args.kept.now c.args.chan
          c.requires.kept (sym c.if-not-is_free.ensures) still) c.accept.ensures.ready_made)
          (λ n unmade other. c.accept.ensures.ready_else n other unmade)) c.requires.ready);
    }

pub returns-in-Ok-false-clause-told : goal.returns-in-Ok-false-clause-told
returns-in-Ok-false-clause-told g c = λ _ _.
    c.untell.ensures ∙ told_unmade c.args.chan.number (told_after c.args.listener.number (without 16) c.args.told.now)
    (g.N.Net.place c.accept.new.self c.args.chan).standing
    (none_made (g.N.Net.place c.args.net.now) (g.N.Net.place c.accept.new.self) c.args.kept.now c.args.chan
    c.requires.kept (sym c.if-not-is_free.ensures)
    (none_came c.in-Ok-false.field-0 c.args.listener (g.N.Net.place c.args.net.now c.args.chan)
    (g.N.Net.place c.accept.new.self c.args.chan) c.in-Ok-false.field-0-test c.in-Ok-false.ensures.place))

pub returns-in-Err-clause-checked : goal.returns-in-Err-clause-checked
returns-in-Err-clause-checked g c =
    let none : is_there (g.N.Net.place c.accept.new.self c.args.chan).standing ≡ false =
    none_made (g.N.Net.place c.args.net.now) (g.N.Net.place c.accept.new.self) c.args.kept.now c.args.chan
    c.requires.kept (sym c.if-not-is_free.ensures) c.in-Err.ensures.place in record {
      kept = kept_still (g.N.Net.place c.args.net.now) (g.N.Net.place c.accept.new.self) c.args.kept.now c.args.kept.now
          c.args.chan c.accept.ensures.places c.in-Err.ensures.place c.requires.kept;
      ready = ready_unmade (g.N.Poller.ready c.args.net.now) (g.N.Poller.ready c.accept.new.self) c.args.told.now
          c.args.chan.number (g.N.Net.place c.accept.new.self c.args.chan).standing none c.accept.ensures.ready_made
          (same_but_one (g.N.Poller.ready c.args.net.now) (g.N.Poller.ready c.accept.new.self) c.args.chan.number
          c.args.listener.number c.in-Err.ensures.ready c.accept.ensures.ready_else) c.requires.ready;
    }

pub returns-in-Err-clause-told : goal.returns-in-Err-clause-told
returns-in-Err-clause-told g c = λ _ _.
    told_still c.args.listener.number c.args.told.now
    ∙ told_unmade c.args.chan.number (told_after c.args.listener.number (λ ops. ops) c.args.told.now)
    (g.N.Net.place c.accept.new.self c.args.chan).standing
    (none_made (g.N.Net.place c.args.net.now) (g.N.Net.place c.accept.new.self) c.args.kept.now c.args.chan
    c.requires.kept (sym c.if-not-is_free.ensures) c.in-Err.ensures.place)
