-- The state that a plain system holds, read from its vectors.
use Rattle.std.specs.Prelude.{ℕ, suc, max, Bool, true, false, not, ◌&&◌, ◌||◌, Option, Some, None, is_some}
use Rattle.std.specs.Prelude.{if◌then◌else◌, nat_lt, List, map, filter, find, length, get_or, bit_and}
use Rattle.std.specs.BTreeMap.{get}
use Rattle.std.specs.Ordering.{nat_cmp}
use Rattle.nio_base.specs.declared.limits.Limits.{Limits}
use Rattle.nio_base.specs.declared.numbers.CallerNo.{CallerNo}
use Rattle.nio_base.specs.declared.numbers.KeyId.{KeyId}
use Rattle.nio_group.specs.Group.{Group}
use Rattle.nio_base.specs.Numbers.{last_serial}
use Rattle.nio_history.specs.State.{unmade_channel, open_gate, unclaimed, unmarked, put, with_key}
use Rattle.nio_history.specs.State.{with_interest, with_mark, with_note, with_free}
use Rattle.nio_history.specs.Sets.{in_key_set, in_cancelled_set, is_in_key_set, is_valid}
use Rattle.nio_history.specs.declared.found.Mode.{Mode}
use Rattle.nio_history.specs.declared.found.Chan.{Chan}
use Rattle.nio_history.specs.declared.found.GateWord.{GateWord}
use Rattle.nio_history.specs.declared.found.Mark.{Mark}
use Rattle.nio_history.specs.declared.found.Stage.{Stage}
use Rattle.nio_plain.specs.ScriptState.{Pipe, ScriptState, Selection, with_shared}
use Rattle.nio_plain.specs.Seq.Cancelling.{cancelled_key, has_index}
use Rattle.nio_plain.specs.Seq.Names.{below}
use Rattle.nio_plain.specs.Seq.Registering.{new_stage}
use Rattle.nio_plain.specs.Seq.Removing.{removed_key, unselected, comes_back}
use Rattle.nio_plain.specs.Seq.Selections.{is_looked, looked_interest, marked}
use Rattle.nio_plain.specs.declared.plain.Plain.{Plain}
use Rattle.nio_plain.specs.declared.plain.channel.Channel.{Channel}
use Rattle.nio_plain.specs.declared.plain.pipe.Pipe.{Pipe as PlainPipe}
use Rattle.nio_plain.specs.declared.plain.selector.Closing.{Closing}
use Rattle.nio_plain.specs.declared.plain.selector.Key.{Key}
use Rattle.nio_plain.specs.declared.plain.selector.Selecting.{Selecting}
use Rattle.nio_plain.specs.declared.plain.selector.Selector.{Selector}
use Rattle.nio_plain.specs.declared.rules.Rules.{Rules}
use Rattle.nio_plain.specs.declared.rules.Rules.TheVariants.{First, Now}

-- what a vector holds, by the place: past its end the value of what isn't there
unfoldable pub places : {X A : Type 0} → (X → A) → A → List X → ℕ → A
places f none xs = λ n. get_or (map f xs) n none

-- a channel
abbrev pub channel_row : Channel → Chan
channel_row c = record {
  made = true;
  kind = c.kind;
  closed = c.closed;
  blocking = c.blocking;
  serial = c.serial;
}

-- an index: the stage of its key, the key's interest set, mark and attachment, and whether it is free
pub record KeyRow : Type 0 where
  pub stage : Stage
  pub interest : ℕ
  pub mark : Mark
  pub note : ℕ
  pub free : Bool

abbrev pub no_key : KeyRow
no_key = record { stage = unclaimed; interest = 0; mark = unmarked; note = 0; free = false }

abbrev pub key_row : Key → KeyRow
key_row k = record {
  stage = record {
    claimed = true;
    published = true;
    cancelled = k.cancelled;
    removed = k.removed;
    chan = k.chan;
    serial = k.serial;
  };
  interest = k.interest;
  mark = k.mark;
  note = k.note;
  free = k.released && nat_lt k.serial last_serial;
}

-- the present key of an index
abbrev pub key_id : (ℕ → KeyRow) → ℕ → KeyId
key_id keys i = record { index = i; serial = (keys i).stage.serial }

-- a selector. The caller that selects has its turn, and the selection has begun
pub record SelectorRow : Type 0 where
  pub made : Bool
  pub gate : GateWord
  pub turn : Option CallerNo
  pub selection : Option Selection
  pub closer : Option CallerNo
  pub entered : Bool
  pub keys_high : ℕ
  pub keys : ℕ → KeyRow
  pub enrolled : ℕ → Option KeyId

abbrev pub no_selector : SelectorRow
no_selector = record {
  made = false;
  gate = open_gate;
  turn = None;
  selection = None;
  closer = None;
  entered = false;
  keys_high = 0;
  keys = λ _. no_key;
  enrolled = λ _. None;
}

abbrev pub new_selector : SelectorRow
new_selector = record no_selector { made = true }

-- the channel's key in a selector: the one that is enrolled for it, where it is in the key set
abbrev pub if_in_set : (ℕ → KeyRow) → Option KeyId → Option KeyId
if_in_set keys None = None
if_in_set keys (Some k) = if is_in_key_set (keys k.index).stage k.serial then Some k else None

abbrev pub key_in : SelectorRow → ℕ → Option KeyId
key_in r c = if_in_set r.keys (r.enrolled c)

-- the key that a selector with so many indexes gives next
abbrev pub free_in : SelectorRow → Option ℕ
free_in r = find (λ i. (r.keys i).free) (below r.keys_high)

abbrev pub next_by_row : ℕ → SelectorRow → Option ℕ → Option KeyId
next_by_row limit r (Some i) = Some (record { index = i; serial = suc (r.keys i).stage.serial })
next_by_row limit r None =
    if nat_lt r.keys_high limit then Some (record { index = r.keys_high; serial = 0 }) else None

abbrev pub next_in : ℕ → SelectorRow → Option KeyId
next_in limit r = next_by_row limit r (free_in r)

-- a selector with a new key, and with another key in the place of one
abbrev pub with_key_added : SelectorRow → ℕ → KeyId → KeyRow → SelectorRow
with_key_added r c k key = record r {
  keys_high = max r.keys_high (suc k.index);
  keys = put r.keys k.index key;
  enrolled = put r.enrolled c (Some k);
}

abbrev pub with_key_at : SelectorRow → ℕ → KeyRow → SelectorRow
with_key_at r i key = record r { keys = put r.keys i key }

-- a selector in which the channel's key is cancelled, where it has one
abbrev pub cancelled_row : KeyRow → KeyRow
cancelled_row k = record k { stage = cancelled_key k.stage }

abbrev pub with_cancelled_key : SelectorRow → ℕ → SelectorRow
with_cancelled_key r c = record r {
  keys = λ i. if has_index (key_in r c) i then cancelled_row (r.keys i) else r.keys i;
}

-- what stands below the bound is changed
abbrev pub changed : {A : Type 0} → (A → A) → (ℕ → A) → ℕ → ℕ → A
changed change f bound = λ i. if nat_lt i bound then change (f i) else f i

-- a key that is removed, and its index, which becomes free where it frees
abbrev pub removed_row : (Stage → Bool) → KeyRow → KeyRow
removed_row frees k = record k {
  stage = removed_key k.stage;
  mark = unselected k.mark;
  free = frees k.stage || k.free;
}

-- a key after a selection, which removes it where it is cancelled; the keys after that was done with all of
-- them, with those alone that the selection looks at, and at the end of a selection
abbrev pub swept_key : Rules → KeyRow → KeyRow
swept_key rules k = if in_cancelled_set k.stage then removed_row (comes_back rules) k else k

abbrev pub swept : Rules → (ℕ → KeyRow) → ℕ → KeyRow
swept rules keys = λ i. swept_key rules (keys i)

abbrev pub swept_looked : Rules → (ℕ → KeyRow) → List (KeyId × ℕ) → ℕ → KeyRow
swept_looked rules keys looked = λ i. if is_looked looked (key_id keys i) then swept_key rules (keys i) else keys i

abbrev pub swept_at_end : Rules → (ℕ → KeyRow) → List (KeyId × ℕ) → ℕ → KeyRow
swept_at_end First keys looked = swept_looked First keys looked
swept_at_end Now keys looked = swept Now keys

-- the keys after each was removed where it is claimed
abbrev pub emptied : (ℕ → KeyRow) → ℕ → KeyRow
emptied keys = λ i. if (keys i).stage.claimed then removed_row (λ _. false) (keys i) else keys i

-- a selector whose closing has ended
abbrev pub with_closing_ended : SelectorRow → CallerNo → SelectorRow
with_closing_ended r closer = record r {
  gate = record r.gate { shut = true };
  closer = Some closer;
  entered = true;
  keys = emptied r.keys;
}

-- the valid keys below the bound with their interests, in rising order of the indexes
abbrev pub looked_below : (ℕ → KeyRow) → ℕ → List (KeyId × ℕ)
looked_below keys bound =
    map (λ i. (key_id keys i, (keys i).interest)) (filter (λ i. is_valid (keys i).stage) (below bound))

-- the keys below the bound that aren't removed, or those among them that are selected
abbrev pub is_listed : KeyRow → Bool → Bool
is_listed k selected = in_key_set k.stage && (not selected || k.mark.selected)

abbrev pub listed_below : (ℕ → KeyRow) → Bool → ℕ → List KeyId
listed_below keys selected bound = map (key_id keys) (filter (λ i. is_listed (keys i) selected) (below bound))

-- the keys of the key set, or those among them that are selected
abbrev pub in_set_of : ScriptState → ℕ → Bool → ℕ → Bool
in_set_of st s selected = λ i. in_key_set (st.shared.key s i) && (not selected || (st.shared.mark s i).selected)

-- a selector on which a selection has begun
abbrev pub with_selection_begun : Rules → SelectorRow → CallerNo → Mode → SelectorRow
with_selection_begun rules r me mode = record r {
  turn = Some me;
  selection =
      Some (record { mode = mode; bound = r.keys_high; looked = looked_below r.keys r.keys_high });
  keys = swept rules r.keys;
}

-- the keys after each looked key was marked with what was told of its index and its interest
abbrev pub marked_keys : (ℕ → KeyRow) → List (KeyId × ℕ) → (ℕ → ℕ) → ℕ → KeyRow
marked_keys keys looked told =
    λ i. record (keys i) { mark = marked (keys i).mark (bit_and (told i) (looked_interest looked (key_id keys i))) }

-- a selector on which a selection is over
abbrev pub with_selection_ended : Rules → SelectorRow → List (KeyId × ℕ) → (ℕ → ℕ) → SelectorRow
with_selection_ended rules r looked told = record r {
  gate = record r.gate { woken = false };
  turn = None;
  selection = None;
  keys = swept_at_end rules (marked_keys r.keys looked told) looked;
}

-- a key that was just registered
abbrev pub new_key_row : ℕ → ℕ → ℕ → ℕ → KeyRow
new_key_row c serial ops note = record {
  stage = new_stage c serial;
  interest = ops;
  mark = unmarked;
  note = note;
  free = false;
}

abbrev pub caller_of : Option Selecting → Option CallerNo
caller_of None = None
caller_of (Some x) = Some x.caller

abbrev pub selection_of : Option Selecting → Option Selection
selection_of None = None
selection_of (Some x) = Some (record { mode = x.mode; bound = x.bound; looked = x.looked.items })

abbrev pub closer_of : Option Closing → Option CallerNo
closer_of None = None
closer_of (Some x) = Some x.closer

abbrev pub has_finished : Option Closing → Bool
has_finished None = false
has_finished (Some x) = x.finished

abbrev pub selector_row : Selector → SelectorRow
selector_row s = record {
  made = true;
  gate = record { woken = s.woken; shut = is_some s.closing };
  turn = caller_of s.selecting;
  selection = selection_of s.selecting;
  closer = closer_of s.closing;
  entered = has_finished s.closing;
  keys_high = length s.keys.items;
  keys = places key_row no_key s.keys.items;
  enrolled = λ c. get nat_cmp s.enrolled c;
}

-- the state whose parts are these: the group, the pipes, and the rest by the caller, the channel and the selector
abbrev pub state_from : Group → List Pipe → (ℕ → Bool) → ℕ → (ℕ → Chan) → (ℕ → SelectorRow) → ScriptState
state_from group pipes interrupted channels_high chan selector = record {
  shared = record {
    drawn = λ _. false;
    interrupted = interrupted;
    selector = λ s. (selector s).made;
    channels_high = channels_high;
    chan = chan;
    hold = λ _. None;
    enrolled = λ c s. (selector s).enrolled c;
    gate = λ s. (selector s).gate;
    turn = λ s. (selector s).turn;
    keys_high = λ s. (selector s).keys_high;
    key = λ s i. ((selector s).keys i).stage;
    interest = λ s i. ((selector s).keys i).interest;
    mark = λ s i. ((selector s).keys i).mark;
    note = λ s i. ((selector s).keys i).note;
    pinned = λ _ _ _. false;
    free = λ s i. ((selector s).keys i).free;
    touched = λ _ _. false;
    lister = λ _. None;
    begun = λ s. is_some (selector s).turn;
    closer = λ s. (selector s).closer;
    entered = λ s. (selector s).entered;
    taker = λ _ _. None;
    put_due = λ _ _. false;
    amid = λ _ _ _. false;
  };
  selection = λ s. (selector s).selection;
  group = group;
  pipes = pipes;
}

-- a pipe
abbrev pub pipe_of : PlainPipe → Pipe
pipe_of p = record {
  source = p.source;
  sink = p.sink;
  reader = p.reader;
  writer = p.writer;
  waiting = p.waiting.items;
  sealed = p.sealed;
}

-- the state that a plain system holds
abbrev pub state_of : Plain → ScriptState
state_of p =
    state_from
    p.group
    (map pipe_of p.pipes.items)
    (places (λ b. b) false p.interrupted.items)
    (length p.channels.items)
    (places channel_row unmade_channel p.channels.items)
    (places selector_row no_selector p.selectors.items)

abbrev pub limits_of : Plain → Limits
limits_of p = p.limits

abbrev pub rules_of : Plain → Rules
rules_of p = p.rules

-- the state with another key in the place of one
abbrev pub with_key_row : ScriptState → ℕ → ℕ → KeyRow → ScriptState
with_key_row st s i k =
    with_shared st
    (with_free
    (with_note (with_mark (with_interest (with_key st.shared s i k.stage) s i k.interest) s i k.mark) s i k.note) s
    i k.free)
