-- What stands while a caller works under the hold of a number of channels.
use Rattle.std.specs.Prelude.{◌≡◌, ℕ, ◌<◌, IsTrue, IsFalse, Some}
use Rattle.nio_base.specs.declared.numbers.CallerNo.{CallerNo}
use Rattle.nio_base.specs.declared.numbers.ChanId.{ChanId}
use Rattle.nio_base.specs.declared.numbers.ChanNo.{ChanNo}
use Rattle.nio_base.specs.declared.numbers.KeyId.{KeyId}
use Rattle.nio_base.specs.declared.numbers.KeyNo.{KeyNo}
use Rattle.nio_base.specs.declared.numbers.SelNo.{SelNo}
use Rattle.nio_history.specs.Conditions.{IsChannel, holds, is_amid}
use Rattle.nio_history.specs.OwnEvents.{has, last, under, finds_unblocked, enrolled_found, own_claim, is_unpublished}
use Rattle.nio_history.specs.OwnEvents.{is_clear}
use Rattle.nio_history.specs.PassViews.{HasKey}
use Rattle.nio_steps.specs.Names.{key}
use Rattle.nio_words.specs.Passes.{IsReady, acts_seen, limits_of, state_seen}
use Rattle.nio_words.specs.Views.{view, IsPinned}
use Rattle.nio_words.specs.declared.words.Pass.{Pass}
use Rattle.nio_words.specs.declared.words.Words.{Words}
use Rattle.nio_channel.specs.Registered.{found_closed, IsCancelledWhereClosed}

-- the caller may step with the pass, and holds the number
pub record HoldsChannel (w : Words) (p : Pass) (me : CallerNo) (c : ChanNo) : Type 0 where
  pub ready : IsReady w p me
  pub channel : IsChannel (limits_of w) c
  pub holding : IsTrue (holds (state_seen p) me c)

-- under this hold it found the channel non-blocking, and not closed
pub record HoldsUnblocked (w : Words) (p : Pass) (me : CallerNo) (c : ChanId) : Type 0 where
  pub held : HoldsChannel w p me c.number
  pub unblocked : IsTrue (has (finds_unblocked c.number.0) (under c.number.0 (acts_seen p me)))
  pub unclosed : IsFalse (found_closed (view w p) me c)

-- the key that it found enrolled for the channel in the selector, if any, it found outside the key set
pub record MayEnrol (w : Words) (p : Pass) (me : CallerNo) (c : ChanId) (s : SelNo) : Type 0 where
  pub unblocked : HoldsUnblocked w p me c
  pub clear : IsTrue (is_clear c.number.0 s.0 (acts_seen p me))

-- this key is the last that it found enrolled there, or enrolled itself
abbrev pub KnowsEnrolled : Pass → CallerNo → ChanNo → SelNo → KeyId → Type 0
KnowsEnrolled p me c s k = last (enrolled_found c.0 s.0) (under c.0 (acts_seen p me)) ≡ Some (Some k)

-- that key was published, and the caller has a pin on the key's index, and no other
pub record KnowsKey (w : Words) (p : Pass) (me : CallerNo) (c : ChanId) (s : SelNo) (k : KeyId) : Type 0 where
  pub unblocked : HoldsUnblocked w p me c
  pub pinned : IsPinned w p me s k.index
  pub enrolled : KnowsEnrolled p me c.number s k
  pub has : HasKey (view w p) (key s k)

-- it claimed the index of this key for the channel, has the pin of the claim, and no other, and hasn't
-- published the key
pub record HasClaimed (w : Words) (p : Pass) (me : CallerNo) (c : ChanNo) (s : SelNo) (k : KeyId) : Type 0 where
  pub pinned : IsPinned w p me s k.index
  pub claim : own_claim s.0 k.index (acts_seen p me) ≡ Some (record { channel = c; serial = k.serial })
  pub unpublished : IsTrue (is_unpublished s.0 k.index (acts_seen p me))

-- it published that key after it enrolled it for the channel, and it is still amid the change of its index
pub record HasPublished (w : Words) (p : Pass) (me : CallerNo) (c : ChanId) (s : SelNo) (k : KeyId) : Type 0 where
  pub known : KnowsKey w p me c s k
  pub claim : own_claim s.0 k.index (acts_seen p me) ≡ Some (record { channel = c.number; serial = k.serial })
  pub amid : IsTrue (is_amid (state_seen p) me s k.index)

-- the key was published, it is enrolled for the channel, and where the channel was found closed it is cancelled
pub record HasRegistered (w : Words) (p : Pass) (me : CallerNo) (c : ChanId) (s : SelNo) (k : KeyNo) : Type 0 where
  pub in_selector : k.sel ≡ s
  pub has : HasKey (view w p) k
  pub enrolled : KnowsEnrolled p me c.number s (record { index = k.index; serial = k.serial })
  pub cancelled : IsCancelledWhereClosed (view w p) me c k

-- in each of the first n selectors it found no key in the key set that is enrolled for the channel
abbrev pub IsClearBelow : Pass → CallerNo → ChanNo → ℕ → Type 0
IsClearBelow p me c n = (s : ℕ) → s < n → IsTrue (is_clear c.0 s (acts_seen p me))
