-- What a board holds between two calls, and what a selection lists.
use Rattle.std.specs.Prelude.{◌≡◌, ℕ, IfSome, IsTrue, Option, None, Some, List, [], ◌∷◌, ◌++◌, bit_and}
use Rattle.std.specs.List.{All, flat_map}
use Rattle.std.specs.List.Sorted.{IsNonDecreasingBy, IsPermutation}
use Rattle.nio_base.specs.declared.numbers.CallerNo.{CallerNo}
use Rattle.nio_base.specs.declared.numbers.ChanId.{ChanId}
use Rattle.nio_base.specs.declared.numbers.ChanNo.{ChanNo}
use Rattle.nio_base.specs.declared.numbers.SelNo.{SelNo}
use Rattle.nio_history.specs.PassViews.{HasNoPin, HasSelector}
use Rattle.nio_orderly.specs.Made.{Made, after_calls}
use Rattle.nio_select.specs.Asked.{key_at}
use Rattle.nio_select.specs.InHand.{HeldList, HeldSelector}
use Rattle.nio_select.specs.InProgress.{HasList, Selects}
use Rattle.nio_board.specs.Called.{HasCalled}
use Rattle.nio_board.specs.declared.board.Station.{Station}
use Rattle.nio_board.specs.declared.deal.Deal.{Deal}
use Rattle.nio_base.specs.Ops.{is_within}
use Rattle.nio_steps.specs.Ongoing.{nothing_ongoing}
use Rattle.nio_steps.specs.SelectCalls.{Selection}
use Rattle.nio_steps.specs.declared.looked.LookedKey.{LookedKey}
use Rattle.nio_words.specs.Passes.{IsReady, acts_seen, limits_of}
use Rattle.nio_words.specs.Views.{view}
use Rattle.nio_words.specs.declared.words.Pass.{Pass}
use Rattle.nio_words.specs.declared.words.Words.{Words}

-- what contracts see of a board. These channels were registered, in this order; the deal says which channels of the table
-- they are
pub record BoardView : Type 0 where
  pub words : Words
  pub pass : Pass
  pub caller : CallerNo
  pub selector : SelNo
  -- the selector's list, where the board has it, and no selection does
  pub list : Option HeldList
  pub deal : Option Deal
  pub registered : List ChanId

abbrev pub board_of : Words → Pass → Station → BoardView
board_of w p station = record {
  words = w;
  pass = p;
  caller = station.caller;
  selector = station.selector.number;
  list = station.selector.list;
  deal = station.deal;
  registered = station.registered;
}

-- the board's selector, with its list where the board has that
abbrev pub selector_of : BoardView → HeldSelector
selector_of board = record { number = board.selector; list = board.list }

-- once this channel is registered too
abbrev pub one_more : Station → ChanId → Station
one_more station c = record station { registered = station.registered ++ c ∷ [] }

-- the caller may step with the pass and has no pin, and the selector is made
pub record IsIdle (w : Words) (p : Pass) (me : CallerNo) (s : SelNo) : Type 0 where
  pub ready : IsReady w p me
  pub unpinned : HasNoPin (view w p) me
  pub selector : HasSelector (view w p) s

-- the caller made whole calls, and registered these channels of the board with its selector, and nothing else
abbrev pub HasWatched : BoardView → Type 0
HasWatched board =
    HasCalled (limits_of board.words) (acts_seen board.pass board.caller) board.deal board.selector board.registered

-- The caller has this list of the board's selector, and it is the one that its calls left.
pub record HoldsList (board : BoardView) (calls : List Made) (list : HeldList) : Type 0 where
  pub its : list.selector ≡ board.selector
  pub had : HasList (view board.words board.pass) board.caller list
  pub left : (after_calls nothing_ongoing calls).list board.selector.0 ≡ Some list.keys

-- what stands between two calls
pub record IsAtRest (board : BoardView) : Type 0 where
  pub idle : IsIdle board.words board.pass board.caller board.selector
  pub watched : HasWatched board
  pub list : IfSome board.list (HoldsList board watched.calls)

-- The caller began this selection on the board's selector, and it is the one that it has in progress there. The
-- selector's list is lent to it: where it goes by that, its looked keys are the list that the calls left.
pub record IsSelecting (board : BoardView) (selection : Selection) : Type 0 where
  pub begun : Selects (view board.words board.pass) board.caller selection
  pub on : selection.selector ≡ board.selector
  pub lent : board.list ≡ None
  pub watched : HasWatched board
  pub ongoing : (after_calls nothing_ongoing watched.calls).selection selection.selector.0 ≡ Some selection
  pub left : IsTrue selection.listed
      → (after_calls nothing_ongoing watched.calls).list selection.selector.0 ≡ Some selection.looked

-- the same table, caller, selector and deal: only the pass may have seen more, the selector's list may have become
-- another one, and more channels may be registered
pub record IsSameSeat (before now : BoardView) : Type 0 where
  pub words : now.words ≡ before.words
  pub caller : now.caller ≡ before.caller
  pub selector : now.selector ≡ before.selector
  pub deal : now.deal ≡ before.deal

-- and no more channels are registered
pub record IsSameBoard (before now : BoardView) : Type 0 where
  pub seat : IsSameSeat before now
  pub registered : now.registered ≡ before.registered

-- the key's channel, with what was told of the key and it is interested in; nothing of a key that isn't there
abbrev pub told_of_key : Option LookedKey → ℕ → List (ChanNo × ℕ)
told_of_key None bits = []
told_of_key (Some key) bits = (key.channel, bit_and bits key.interest) ∷ []

-- that of each pair of an index and bits which were told of its key
abbrev pub told_of_keys : List LookedKey → List (ℕ × ℕ) → List (ChanNo × ℕ)
told_of_keys keys pairs = flat_map (λ pair. told_of_key (key_at pair.0 keys) pair.1) pairs

-- what is listed is what was told of these keys, each as often as told, in some order
abbrev pub ListsTold : List LookedKey → List (ℕ × ℕ) → List (ChanNo × ℕ) → Type 0
ListsTold keys pairs told = IsPermutation (told_of_keys keys pairs) told

-- each listed channel is ready for all that is listed with it
abbrev pub AreReady : (ChanNo → ℕ) → List (ChanNo × ℕ) → Type 0
AreReady ready told = All (λ x. IsTrue (is_within x.1 (ready x.0))) told

-- the numbers of the listed channels don't fall; a channel can stand there twice
abbrev pub AreOrdered : List (ChanNo × ℕ) → Type 0
AreOrdered told = IsNonDecreasingBy (λ x. x.0.0) told
