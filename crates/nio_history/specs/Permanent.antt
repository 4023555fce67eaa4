-- Facts of the state that last: those that are permanent, and those of a caller that only its own acts
-- end.
use Rattle.std.specs.Prelude.{ℕ, nat_lt, Bool}
use Rattle.nio_base.specs.declared.numbers.CallerNo.{CallerNo}
use Rattle.nio_base.specs.declared.numbers.ChanNo.{ChanNo}
use Rattle.nio_base.specs.declared.numbers.SelNo.{SelNo}
use Rattle.nio_history.specs.Conditions.{holds, has_turn, has_begun, is_closer, has_pin, has_taken, has_list, is_amid}
use Rattle.nio_history.specs.OwnEvents.{gives_turn, releases, unpins, gives_index}
use Rattle.nio_history.specs.Sets.{was_claimed, was_published, was_cancelled, was_removed}
use Rattle.nio_history.specs.State.{State}
use Rattle.nio_history.specs.declared.act.Act.{Act}
use Rattle.nio_base.specs.declared.kind.Kind.{Kind}
use Rattle.nio_base.specs.Kind.{is_same_kind}
use Rattle.nio_history.specs.Sets.{was_opened, was_closed}
use Rattle.std.specs.Prelude.{◌&&◌}

-- What is permanent. A key is named by its selector, its index and its serial, a channel by its number and its
-- serial; that a number has a channel, and of which kind, is permanent too.
pub data PermanentFact : Type 0 where
  caller_drawn : ℕ → PermanentFact
  selector_made : ℕ → PermanentFact
  selector_shut : ℕ → PermanentFact
  selector_closed_by : SelNo → CallerNo → PermanentFact
  selector_entered : ℕ → PermanentFact
  channel_made : ℕ → PermanentFact
  channel_of_kind : ℕ → Kind → PermanentFact
  channel_opened : ℕ → ℕ → PermanentFact
  channel_closed : ℕ → ℕ → PermanentFact
  index_claimed : ℕ → ℕ → PermanentFact
  key_claimed : ℕ → ℕ → ℕ → PermanentFact
  key_published : ℕ → ℕ → ℕ → PermanentFact
  key_cancelled : ℕ → ℕ → ℕ → PermanentFact
  key_removed : ℕ → ℕ → ℕ → PermanentFact
  below_keys_high : ℕ → ℕ → PermanentFact
  below_channels_high : ℕ → PermanentFact
  list_had_by : SelNo → CallerNo → PermanentFact

abbrev pub stands : PermanentFact → State → Bool
stands (caller_drawn n) st = st.drawn n
stands (selector_made s) st = st.selector s
stands (selector_shut s) st = (st.gate s).shut
stands (selector_closed_by s n) st = is_closer st n s
stands (selector_entered s) st = st.entered s
stands (channel_made c) st = (st.chan c).made
stands (channel_of_kind c kind) st = (st.chan c).made && is_same_kind (st.chan c).kind kind
stands (channel_opened c serial) st = was_opened (st.chan c) serial
stands (channel_closed c serial) st = was_closed (st.chan c) serial
stands (index_claimed s i) st = (st.key s i).claimed
stands (key_claimed s i serial) st = was_claimed (st.key s i) serial
stands (key_published s i serial) st = was_published (st.key s i) serial
stands (key_cancelled s i serial) st = was_cancelled (st.key s i) serial
stands (key_removed s i serial) st = was_removed (st.key s i) serial
stands (below_keys_high s i) st = nat_lt i (st.keys_high s)
stands (below_channels_high c) st = nat_lt c st.channels_high
stands (list_had_by s n) st = has_list st n s

-- what a caller has until it gives it back itself
pub data OwnFact : Type 0 where
  the_turn : SelNo → OwnFact
  a_selection : SelNo → OwnFact
  the_hold : ChanNo → OwnFact
  a_pin : SelNo → ℕ → OwnFact
  a_taken_index : SelNo → ℕ → OwnFact
  a_change : SelNo → ℕ → OwnFact

abbrev pub is_had_by : CallerNo → OwnFact → State → Bool
is_had_by n (the_turn s) st = has_turn st n s
is_had_by n (a_selection s) st = has_begun st n s
is_had_by n (the_hold c) st = holds st n c
is_had_by n (a_pin s i) st = has_pin st n s i
is_had_by n (a_taken_index s i) st = has_taken st n s i
is_had_by n (a_change s i) st = is_amid st n s i

-- the act by which it gives that back
abbrev pub gives_back : OwnFact → Act → Bool
gives_back (the_turn s) act = gives_turn s.0 act
gives_back (a_selection s) act = gives_turn s.0 act
gives_back (the_hold c) act = releases c.0 act
gives_back (a_pin s i) act = unpins s.0 i act
gives_back (a_taken_index s i) act = gives_index s.0 i act
gives_back (a_change s i) act = unpins s.0 i act
