-- Opening. A selector and a channel get the least number that isn't made. Where all are made, a channel gets the least
-- number that comes back, with the next serial. A new channel is open, in blocking mode and not registered.
use Rattle.std.specs.Prelude.{ℕ, suc, max, Bool, true, false, not, ◌&&◌, Option, Some, None, find}
use Rattle.nio_base.specs.Kind.{is_same_kind}
use Rattle.nio_base.specs.declared.kind.Kind.{Kind}
use Rattle.nio_base.specs.declared.limits.Limits.{Limits}
use Rattle.nio_base.specs.declared.numbers.ChanId.{ChanId}
use Rattle.nio_history.specs.Acts.{new_channel}
use Rattle.nio_history.specs.Sets.{can_reopen}
use Rattle.nio_history.specs.State.{State, with_selector, with_chan, with_channels_high}
use Rattle.nio_language.specs.declared.reply.Reply.TheVariants as reply
use Rattle.nio_plain.specs.ScriptState.{ScriptState}
use Rattle.nio_plain.specs.Seq.Replies.{Replied, unchanged, replied}
use Rattle.nio_plain.specs.Seq.Modes.{has_key}
use Rattle.nio_plain.specs.Seq.Names.{below}
use Rattle.nio_plain.specs.declared.rules.Rules.{Rules}
use Rattle.nio_plain.specs.declared.rules.Rules.TheVariants.{First, Now}

abbrev pub selector_made : ScriptState → Option ℕ → Replied
selector_made st None = unchanged st reply.SelectorsSpent
selector_made st (Some s) =
    replied st (reply.Selector (record { 0 = s })) (with_selector st.shared s true)

unfoldable pub selector_call : Limits → ScriptState → Replied
selector_call l st =
    selector_made st (find (λ s. not (st.shared.selector s)) (below l.selectors))

-- ---- channels

-- the least number that isn't made
abbrev pub unmade_number : Limits → State → Option ℕ
unmade_number l st = find (λ c. not (st.chan c).made) (below l.channels)

-- THE TWO RULES DIFFER HERE: under the rules of now the number of a closed channel that isn't registered comes back
-- for a channel of the same kind, unless its serial is the last; under the first rules no number ever comes back.
abbrev pub number_comes_back : Rules → Limits → State → Kind → ℕ → Bool
number_comes_back First l st kind c = false
number_comes_back Now l st kind c =
    can_reopen (st.chan c) && is_same_kind (st.chan c).kind kind && not (has_key l st c)

abbrev pub returning_number : Rules → Limits → State → Kind → Option ℕ
returning_number rules l st kind = find (number_comes_back rules l st kind) (below l.channels)

-- the next channel of a number that had one
abbrev pub channel_after : State → Option ℕ → Option ChanId
channel_after st None = None
channel_after st (Some c) = Some (record { number = record { 0 = c }; serial = suc (st.chan c).serial })

-- the channel that is opened next, by the least number that isn't made; none where every number is made and none
-- comes back
abbrev pub next_by : Rules → Limits → State → Kind → Option ℕ → Option ChanId
next_by rules l st kind (Some c) = Some (record { number = record { 0 = c }; serial = 0 })
next_by rules l st kind None = channel_after st (returning_number rules l st kind)

abbrev pub next_channel : Rules → Limits → State → Kind → Option ChanId
next_channel rules l st kind = next_by rules l st kind (unmade_number l st)

abbrev pub with_new_channel : State → Kind → ChanId → State
with_new_channel st kind c =
    with_channels_high (with_chan st c.number.0 (new_channel kind c.serial)) (max st.channels_high (suc c.number.0))

abbrev pub channel_made : ScriptState → Kind → Option ChanId → Replied
channel_made st kind None = unchanged st reply.ChannelsSpent
channel_made st kind (Some c) = replied st (reply.Channel c) (with_new_channel st.shared kind c)

unfoldable pub channel_call : Rules → Limits → ScriptState → Kind → Replied
channel_call rules l st kind = channel_made st kind (next_channel rules l st.shared kind)
