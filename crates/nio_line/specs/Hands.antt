-- What the two passes of a line know, and the rule that ties them to the messages in it.
use Rattle.std.specs.Prelude.{◌≡◌, ◌≤◌, ℕ, Bool, true, false, Option, Some, None, List, [], ◌∷◌, ◌++◌, length}
use mathlib.Core.List.{IsPrefix}
use Rattle.nio_line.specs.declared.hand.Hand.{Hand}
use Rattle.nio_line.specs.declared.hand.Part.{Part}
use Rattle.nio_line.specs.declared.hand.Part.TheVariants as part

-- a pass that can send, and one that can receive
abbrev pub sends : Part → Bool
sends part.Whole = false
sends part.Sends = true
sends part.Receives = false
sends part.Both = false
sends part.Spent = false

abbrev pub receives : Part → Bool
receives part.Whole = false
receives part.Sends = false
receives part.Receives = true
receives part.Both = true
receives part.Spent = false

module _ {T : Type 0} where
  -- a pass that has sent and received nothing
  abbrev pub new_hand : Part → ℕ → Hand T
  new_hand p room = record { part = p; room = room; sent = []; received = [] }

  -- What was sent is what was received and what is in the line, in this order. The line has room for that.
  pub record Carries (room : ℕ) (sent received items : List T) : Type 0 where
    pub order : sent ≡ received ++ items
    pub fits : length items ≤ room

  -- what ties the passes of these parts to the messages in the line
  abbrev pub AreEnds : Part → Part → Hand T → Hand T → List T → Type 0
  AreEnds part.Sends part.Receives x y items = Carries x.room x.sent y.received items × (x.room ≡ y.room)
  -- the first was joined into the second
  AreEnds part.Spent part.Both x y items = Carries y.room y.sent y.received items
  AreEnds part.Whole q x y items = ⊥
  AreEnds part.Sends part.Whole x y items = ⊥
  AreEnds part.Sends part.Sends x y items = ⊥
  AreEnds part.Sends part.Both x y items = ⊥
  AreEnds part.Sends part.Spent x y items = ⊥
  AreEnds part.Receives q x y items = ⊥
  AreEnds part.Both q x y items = ⊥
  AreEnds part.Spent part.Whole x y items = ⊥
  AreEnds part.Spent part.Sends x y items = ⊥
  AreEnds part.Spent part.Receives x y items = ⊥
  AreEnds part.Spent part.Spent x y items = ⊥

  -- The rule, at every moment: `items` are in the line, the next to be received first. There is one pass, which is
  -- still to be parted, or there are two.
  abbrev pub IsOrdered : List T → List (Hand T) → Type 0
  IsOrdered items [] = ⊥
  IsOrdered items (x ∷ []) = (x.part ≡ part.Whole) × (items ≡ [])
  IsOrdered items (x ∷ y ∷ []) = AreEnds x.part y.part x y items
  IsOrdered items (x ∷ y ∷ z ∷ later) = ⊥

  -- the pass x that receives, with what the pass y has sent
  abbrev pub joined : Hand T → Hand T → Hand T
  joined x y = record { part = part.Both; room = x.room; sent = y.sent; received = x.received }

  -- what was sent in all, where the pass knows it
  abbrev pub all_known : Part → List T → Option (List T)
  all_known part.Whole sent = None
  all_known part.Sends sent = None
  all_known part.Receives sent = None
  all_known part.Both sent = Some sent
  all_known part.Spent sent = None

  -- The message x is received. It is the next of what was sent, where the pass knows that.
  pub record Receives (v : Hand T) (x : T) (w : Hand T) : Type 0 where
    pub after : w ≡ record v { received = v.received ++ x ∷ [] }
    pub next : v.part ≡ part.Both → IsPrefix (v.received ++ x ∷ []) v.sent

  -- what a pass that knows what was sent learns of the messages in the line
  abbrev pub Knows : Hand T → List T → Type 0
  Knows v items = v.part ≡ part.Both → Carries v.room v.sent v.received items
