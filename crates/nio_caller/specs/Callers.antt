-- What contracts see of a caller; how a caller is parted in two, and how two become one.
use Rattle.std.specs.Prelude.{◌≡◌, ◌≢◌, ◌↔◌, ◌⊎◌, ℕ, zero, suc, ◌<◌, ◌++◌, false, Option, None, IfSome, List, [], ◌∷◌, get_or, unwrap_or}
use mathlib.Core.List.{IsPrefix}
use Rattle.nio_base.specs.declared.numbers.CallerNo.{CallerNo}
use Rattle.nio_base.specs.declared.numbers.ChanId.{ChanId}
use Rattle.nio_base.specs.declared.numbers.KeyNo.{KeyNo}
use Rattle.nio_base.specs.declared.numbers.SelNo.{SelNo}
use Rattle.nio_history.specs.Histories.{event_of, mine}
use Rattle.nio_history.specs.PassViews.{PassView, Holds, HasNoPin, HasSelector, HasChannel, HasKey}
use Rattle.nio_history.specs.declared.act.Act.TheVariants.{DrawBit}
use Rattle.nio_history.specs.declared.event.Event.{Event}
use Rattle.nio_select.specs.InHand.{HeldSelector, InHand, selection_of}
use Rattle.nio_select.specs.InProgress.{HasList, HasShut, MaySelect, Selects}
use Rattle.nio_words.specs.Passes.{IsOnly, IsPassOf, IsReady, Holds as HoldsNumber, seen}
use Rattle.nio_words.specs.Rule.{longer}
use Rattle.nio_words.specs.Views.{view}
use Rattle.nio_words.specs.declared.words.Pass.{Pass}
use Rattle.nio_words.specs.declared.words.Words.{Words}

-- the selector as these have it, at the place of its number: with its list where that was taken
abbrev pub held_in : List (Option HeldSelector) → SelNo → HeldSelector
held_in selectors s = unwrap_or (get_or selectors s.0 None) (record { number = s; list = None })

-- what a caller has in progress: selections, and closings of selectors, each at the place of its selector's number
pub record Progress : Type 0 where
  pub selections : List (Option InHand)
  pub closings : List (Option SelNo)

-- the selection in progress on the selector, and the closing
abbrev pub selection_in : Progress → SelNo → Option InHand
selection_in progress s = get_or progress.selections s.0 None

abbrev pub closing_in : Progress → SelNo → Option SelNo
closing_in progress s = get_or progress.closings s.0 None

pub record Acting : Type 0 where
  -- the table at which it makes its calls
  pub table : Words
  -- what it steps with
  pub pass : Pass
  -- its number
  pub number : CallerNo
  -- the selectors whose lists it took, each at the place of its number
  pub selectors : List (Option HeldSelector)
  pub progress : Progress

-- what it has seen of the table's history, and the numbers that it holds: its own, and those that it can give away
abbrev pub sees : Acting → PassView
sees caller = view caller.table caller.pass

-- a selector, with its list where the caller has that
abbrev pub held : Acting → SelNo → HeldSelector
held caller s = held_in caller.selectors s

-- the caller's selection in progress on a selector, and its closing
abbrev pub selection : Acting → SelNo → Option InHand
selection caller s = selection_in caller.progress s

abbrev pub closing : Acting → SelNo → Option SelNo
closing caller s = closing_in caller.progress s

-- there is nothing in progress
pub record IsIdle (progress : Progress) : Type 0 where
  pub selections : (s : SelNo) → selection_in progress s ≡ None
  pub closings : (s : SelNo) → closing_in progress s ≡ None

-- it has the list of no selector, and nothing in progress
pub record HasNothing (caller : Acting) : Type 0 where
  pub lists : (s : SelNo) → held caller s ≡ record { number = s; list = None }
  pub idle : IsIdle caller.progress

-- none of the numbers that the pass holds has a pin
abbrev pub HasNoPins : PassView → Type 0
HasNoPins pass = (n : CallerNo) → Holds pass n → HasNoPin pass n

-- A caller may make calls: its pass is one of the table and holds its number, and no number that the pass holds has
-- a pin.
pub record MayCall (w : Words) (p : Pass) (me : CallerNo) : Type 0 where
  pub ready : IsReady w p me
  pub unpinned : HasNoPins (view w p)

-- the caller has these lists, each at the place of its selector's number
pub record KeepsLists (pass : PassView) (me : CallerNo) (selectors : List (Option HeldSelector)) : Type 0 where
  pub numbers : (s : SelNo) → (held_in selectors s).number ≡ s
  pub had : (s : SelNo) → IfSome (held_in selectors s).list (HasList pass me)

-- the caller began these selections, and may tell them; it shut these selectors, and may finish closing them
pub record KeepsProgress (pass : PassView) (me : CallerNo) (progress : Progress) : Type 0 where
  pub selects : (s : SelNo)
      → IfSome (selection_in progress s) (λ x. (x.selector ≡ s) × Selects pass me (selection_of x))
  pub closes : (s : SelNo) → IfSome (closing_in progress s) (λ t. (t ≡ s) × HasShut pass me t)

-- A caller may make calls, has its lists, and may go on with what it has in progress.
pub record IsActing (w : Words) (p : Pass) (me : CallerNo) (selectors : List (Option HeldSelector)) (progress : Progress)
    : Type 0 where
  pub may : MayCall w p me
  pub lists : KeepsLists (view w p) me selectors
  pub goes_on : KeepsProgress (view w p) me progress

-- it makes its calls at the same table, with the same number
pub record IsSameCaller (old new : Acting) : Type 0 where
  pub table : new.table ≡ old.table
  pub number : new.number ≡ old.number

-- Each selector, channel and key that may be passed to a call may be passed to a later one. Who may select on a selector,
-- with its list or without, may do so still.
pub record StillHas (old new : PassView) : Type 0 where
  pub selectors : (s : SelNo) → HasSelector old s → HasSelector new s
  pub channels : (c : ChanId) → HasChannel old c → HasChannel new c
  pub keys : (k : KeyNo) → HasKey old k → HasKey new k
  pub selects : (n : CallerNo) (s : HeldSelector) → MaySelect old n s → MaySelect new n s

-- ---- the first caller

-- the draws of so many numbers, from 0 up
abbrev pub draws : ℕ → List Event
draws zero = []
draws (suc k) = draws k ++ event_of (record { 0 = k }) (DrawBit (record { 0 = k }) false) ∷ []

-- the table's only pass has drawn each number below k, and nothing else was done
pub record HasDrawn (w : Words) (p : Pass) (k : ℕ) : Type 0 where
  pub pass : IsPassOf w p
  pub only : IsOnly p
  pub holds : (n : CallerNo) → n.0 < k → HoldsNumber p n
  pub sight : seen p ≡ draws k

-- ---- two callers

-- the number leaves the caller for a new one, which makes its calls at the same table; both have seen what the
-- caller had seen
pub record GivesNumber (n : CallerNo) (old new given : Acting) : Type 0 where
  pub table : given.table ≡ old.table
  pub number : given.number ≡ n
  pub sight : (sees new).seen ≡ (sees old).seen
  pub given_sight : (sees given).seen ≡ (sees old).seen
  pub holds : (m : CallerNo) → Holds (sees new) m ↔ (Holds (sees old) m × (m ≢ n))
  pub given_holds : (m : CallerNo) → Holds (sees given) m ↔ (m ≡ n)

-- what was seen begins what is seen now, and each number that was held has done no more
pub record StandsIn (old new : PassView) : Type 0 where
  pub begins : IsPrefix old.seen new.seen
  pub own : (n : CallerNo) → Holds old n → mine n new.seen ≡ mine n old.seen

-- the caller has seen the longer of what both had seen, and holds the numbers of both
pub record Joins (old other new : PassView) : Type 0 where
  pub sight : new.seen ≡ longer old.seen other.seen
  pub stands : StandsIn old new
  pub other_stands : StandsIn other new
  pub holds : (n : CallerNo) → Holds new n ↔ (Holds old n ⊎ Holds other n)
