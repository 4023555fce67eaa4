-- What contracts see of a queue of completions and of its passes.
use Rattle.std.specs.Prelude.{◌≡◌, ℕ, ◌+◌, ◌<◌, [], length}
use mathlib.Core.List.{IsPrefix}
use Rattle.atomic_table.specs.Seated.{TableId}
use Rattle.crossbeam_queue.specs.Fifo.{Held}
use Rattle.nio_group.specs.Completion.{CompletionFields}
use Rattle.nio_pool.specs.declared.hand.Hand.{Hand}
use Rattle.nio_pool.specs.Hands.{number, times, hand, after_put, after_take, SameNumbers, Moment}

-- which queue it is, into how many parts it is cut, and for how many completions it has room
pub record QueueFields : Type 0 where
  pub id : TableId
  pub parts : ℕ
  pub room : ℕ

-- which queue it is a pass of, and what it knows
pub record PassFields : Type 0 where
  pub queue : TableId
  pub hand : Hand

-- it is a pass of this queue
pub record IsPassOf (q : QueueFields) (p : PassFields) : Type 0 where
  pub queue : p.queue ≡ q.id
  pub parts : p.hand.all ≡ q.parts

-- a pass as it is made, with one part
abbrev pub new_pass : QueueFields → PassFields
new_pass q = record { queue = q.id; hand = hand 1 q.parts [] [] }

-- the number is added at the end of the pass's list
abbrev pub with_put : PassFields → CompletionFields → PassFields
with_put p done = record p { hand = after_put p.hand done }

abbrev pub with_taken : PassFields → CompletionFields → PassFields
with_taken p done = record p { hand = after_take p.hand done }

-- at a moment of the call the queue held as many completions as it has room for, or none
abbrev pub WasFull : QueueFields → PassFields → Type 0
WasFull q p = Held q.room (Moment p.hand)

abbrev pub WasEmpty : PassFields → Type 0
WasEmpty p = Held 0 (Moment p.hand)

-- the pass has all parts, so it is the only one
abbrev pub HasAllParts : QueueFields → PassFields → Type 0
HasAllParts q p = p.hand.parts ≡ q.parts

-- of a pass with all parts: its queue has room for one more, nothing waits there, this completion waits there
abbrev pub HasRoom : QueueFields → PassFields → Type 0
HasRoom q p = length p.hand.put < length p.hand.taken + q.room

abbrev pub HasTakenAll : PassFields → Type 0
HasTakenAll p = SameNumbers p.hand.put p.hand.taken

abbrev pub Waits : PassFields → CompletionFields → Type 0
Waits p done = times (number done) p.hand.taken < times (number done) p.hand.put

-- where the pass has all parts, what was put has been taken
abbrev pub IsDrained : QueueFields → PassFields → Type 0
IsDrained q p = HasAllParts q p → HasTakenAll p

-- the pass is the same, and it may have put and taken more
pub record GoesOn (q : QueueFields) (old new : PassFields) : Type 0 where
  pub pass : IsPassOf q new
  pub parts : new.hand.parts ≡ old.hand.parts
  pub put : IsPrefix old.hand.put new.hand.put
  pub taken : IsPrefix old.hand.taken new.hand.taken
