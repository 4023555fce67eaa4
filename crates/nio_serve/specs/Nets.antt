-- What a piece of the proxy's work does to a net.
use Rattle.std.specs.Prelude.{◌≡◌, ◌≢◌, ◌≤◌, ◌⊎◌, [], ◌∷◌, ◌++◌}
use Rattle.nio_base.specs.declared.numbers.ChanId.{ChanId}
use Rattle.nio_base.specs.declared.numbers.ChanNo.{ChanNo}
use Rattle.nio_link.specs.Nets.{Members}
use Rattle.nio_link.specs.Places.{place_after_close}
use Rattle.nio_link.specs.declared.place.Place.{Place}
use Rattle.nio_serve.specs.Serving.{listener}

-- two channels, of two numbers
abbrev pub AreApart : ChanId → ChanId → Type 0
AreApart a b = (a ≢ b) × (a.number ≢ b.number)

-- From a net x to a net y only the links a and b have carried more, have failed, stand in another way or may be ready
-- for less. No channel was asked to be anything. No poll was made, and nothing accepted.
pub record Works {N : Type 0} (n : Members N) (a b : ChanId) (x y : N) : Type 0 where
  pub links : (c : ChanId) → c ≢ a → c ≢ b → n.link y c ≡ n.link x c
  pub places : (c : ChanId) → c ≢ a → c ≢ b → n.place y c ≡ n.place x c
  pub faults : (c : ChanId) → c ≢ a → c ≢ b → n.faults y c ≡ n.faults x c
  pub ready : (c : ChanNo) → c ≢ a.number → c ≢ b.number → n.ready y c ≡ n.ready x c
  pub later : (c : ChanId) → n.faults x c ≤ n.faults y c
  pub roles : (c : ChanId) → (n.place y c).role ≡ (n.place x c).role
  pub polls : n.poll_faults y ≡ n.poll_faults x
  pub accepted : n.accepted y ≡ n.accepted x

-- A link was accepted: no link has carried more, no call failed, and only this one stands in another way or may be ready
-- for less.
pub record Accepts {N : Type 0} (n : Members N) (client : ChanId) (x y : N) : Type 0 where
  pub links : (c : ChanId) → n.link y c ≡ n.link x c
  pub places : (c : ChanId) → c ≢ client → n.place y c ≡ n.place x c
  pub faults : (c : ChanId) → n.faults y c ≡ n.faults x c
  pub ready : (c : ChanNo) → c ≢ client.number → n.ready y c ≡ n.ready x c
  pub polls : n.poll_faults y ≡ n.poll_faults x
  pub accepted : n.accepted y ≡ n.accepted x ++ client ∷ []

-- A connection was begun: no link has carried more, only the target may have failed, and only the two links may stand
-- in another way or may be ready for less.
pub record Begins {N : Type 0} (n : Members N) (client target : ChanId) (x y : N) : Type 0 where
  pub links : (c : ChanId) → n.link y c ≡ n.link x c
  pub places : (c : ChanId) → c ≢ client → c ≢ target → n.place y c ≡ n.place x c
  pub faults : (c : ChanId) → c ≢ target → n.faults y c ≡ n.faults x c
  pub ready : (c : ChanNo) → c ≢ client.number → c ≢ target.number → n.ready y c ≡ n.ready x c
  pub later : (c : ChanId) → n.faults x c ≤ n.faults y c
  pub polls : n.poll_faults y ≡ n.poll_faults x

-- A link couldn't be accepted: no link has carried more, only the listener has failed, and no channel's place has changed.
pub record FailsToAccept {N : Type 0} (n : Members N) (x y : N) : Type 0 where
  pub links : (c : ChanId) → n.link y c ≡ n.link x c
  pub places : (c : ChanId) → n.place y c ≡ n.place x c
  pub faults : (c : ChanId) → c ≢ listener → n.faults y c ≡ n.faults x c
  pub later : (c : ChanId) → n.faults x c ≤ n.faults y c
  pub polls : n.poll_faults y ≡ n.poll_faults x
  pub accepted : n.accepted y ≡ n.accepted x

-- No link has carried more, no call failed, and no channel's place has changed.
pub record IsStill {N : Type 0} (n : Members N) (x y : N) : Type 0 where
  pub links : (c : ChanId) → n.link y c ≡ n.link x c
  pub places : (c : ChanId) → n.place y c ≡ n.place x c
  pub faults : (c : ChanId) → n.faults y c ≡ n.faults x c
  pub polls : n.poll_faults y ≡ n.poll_faults x
  pub accepted : n.accepted y ≡ n.accepted x

-- the place is the same, or what stood there was closed
abbrev pub OnlyCloses : Place → Place → Type 0
OnlyCloses before now = (now ≡ before) ⊎ (now ≡ place_after_close before)

-- Links were closed, and nothing else was done: only their numbers may be ready for less.
pub record IsQuiet {N : Type 0} (n : Members N) (x y : N) : Type 0 where
  pub links : (c : ChanId) → n.link y c ≡ n.link x c
  pub places : (c : ChanId) → OnlyCloses (n.place x c) (n.place y c)
  pub faults : (c : ChanId) → n.faults y c ≡ n.faults x c
  pub polls : n.poll_faults y ≡ n.poll_faults x
  pub accepted : n.accepted y ≡ n.accepted x
