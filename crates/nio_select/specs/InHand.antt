-- What contracts see of a selection in progress, and of a selector's list.
use Rattle.std.specs.Prelude.{◌≡◌, ⊤, ℕ, ◌+◌, ◌%◌, ◌^◌, Option, Some, None, Result, Ok, Err, is_some, option_map, List, []}
use Rattle.nio_base.specs.declared.numbers.SelNo.{SelNo}
use Rattle.nio_history.specs.declared.found.Mode.{Mode}
use Rattle.nio_steps.specs.SelectCalls.{Selection}
use Rattle.nio_steps.specs.declared.looked.LookedKey.{LookedKey}
use Rattle.nio_select.specs.Asked.{Looked, Changes}
use Rattle.nio_steps.specs.declared.refusal.BeginError.{BeginError}
use Rattle.nio_select.specs.declared.stamp.Stamp.{Stamp}

-- A selection in progress. It goes by the selector's list where its looked list has a stamp.
pub record InHand : Type 0 where
  pub selector : SelNo
  pub mode : Mode
  pub bound : ℕ
  pub asked : Looked

-- as its steps see it
abbrev pub selection_of : InHand → Selection
selection_of s = record {
  selector = s.selector;
  mode = s.mode;
  bound = s.bound;
  looked = s.asked.keys;
  listed = is_some s.asked.stamp;
}

-- A selector's list between two selections: the keys that it has, and how many beginnings took it on.
pub record HeldList : Type 0 where
  pub selector : SelNo
  pub number : ℕ
  pub keys : List LookedKey

-- the number of the next beginning
abbrev pub next_number : ℕ → ℕ
next_number number = (number + 1) % 2 ^ 64

-- the list that a selection gives back: that which it went by
abbrev pub list_of : InHand → Option HeldList
list_of s =
    option_map (λ (stamp : Stamp). record { selector = s.selector; number = stamp.number; keys = s.asked.keys })
    s.asked.stamp

-- the list that nobody had before
abbrev pub empty_list : SelNo → HeldList
empty_list s = record { selector = s; number = 0; keys = [] }

-- ---- a selector, as one caller selects on it

-- The selector, and its list where the caller has that.
pub record HeldSelector : Type 0 where
  pub number : SelNo
  pub list : Option HeldList

-- the keys of the list, where the caller has it
abbrev pub known_by : HeldSelector → Option (List LookedKey)
known_by selector = option_map (λ (list : HeldList). list.keys) selector.list

-- what becomes of the list by a selection whose beginning answered this, once it is given back
abbrev pub list_after : Option HeldList → Result Selection BeginError → Option HeldList
list_after None begun = None
list_after (Some list) (Ok selection) =
    Some (record { selector = list.selector; number = next_number list.number; keys = selection.looked })
list_after (Some list) (Err refusal) = Some list

-- which beginning of the list makes the looked list, where the caller has the list
abbrev pub stamp_after : Option HeldList → Option Stamp
stamp_after None = None
stamp_after (Some list) = Some (record { selector = list.selector; number = next_number list.number })

-- The selection goes by the list, where the caller has it, and will give back what becomes of that. Outside the indexes
-- that changed it has what the list had.
abbrev pub ChangesList : Option HeldList → InHand → Type 0
ChangesList None s = ⊤
ChangesList (Some list) s = Changes list.keys s.asked.keys s.asked.changed

pub record TakesOnList (selector : HeldSelector) (s : InHand) : Type 0 where
  pub on : s.selector ≡ selector.number
  pub stamped : s.asked.stamp ≡ stamp_after selector.list
  pub back : list_of s ≡ list_after selector.list (Ok (selection_of s))
  pub changes : ChangesList selector.list s
