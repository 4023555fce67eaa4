-- The structs that C passes, as what they stand for.
use Rattle.std.specs.Prelude.{ℕ, ◌==◌, if◌then◌else◌, Option, Some, None}
use Rattle.nio_base.specs.declared.kind.Kind.{Kind}
use Rattle.nio_base.specs.declared.kind.Kind.TheVariants.{Stream, Listener, Source, Sink, Datagram}
use Rattle.nio_base.specs.declared.limits.Limits.{Limits}
use Rattle.nio_base.specs.declared.numbers.CallerNo.{CallerNo}
use Rattle.nio_base.specs.declared.numbers.ChanId.{ChanId}
use Rattle.nio_base.specs.declared.numbers.KeyNo.{KeyNo}
use Rattle.nio_base.specs.declared.numbers.SelNo.{SelNo}
use Rattle.nio_history.specs.declared.why.Why.{Why}
use Rattle.nio_history.specs.declared.why.Why.TheVariants as why
use Rattle.nio_select.specs.declared.changes.KeyChange.{KeyChange}
use Rattle.nio_steps.specs.declared.looked.LookedKey.{LookedKey}
use Rattle.nio_steps.specs.declared.selected.Selected.{Selected}
use Rattle.nio_c.specs.declared.values.Changed.{Changed}
use Rattle.nio_c.specs.declared.values.Channel.{Channel}
use Rattle.nio_c.specs.declared.values.Key.{Key}
use Rattle.nio_c.specs.declared.values.Looked.{Looked}
use Rattle.nio_c.specs.declared.values.Pair.{Pair}
use Rattle.nio_c.specs.declared.values.Selection.{Selection}
use Rattle.nio_c.specs.declared.values.TableLimits.{TableLimits}

abbrev pub as_limits : TableLimits → Limits
as_limits l = record { callers = l.callers; selectors = l.selectors; channels = l.channels; keys = l.keys }

-- ---- numbers

abbrev pub caller_no : ℕ → CallerNo
caller_no number = record { 0 = number }

abbrev pub sel_no : ℕ → SelNo
sel_no number = record { 0 = number }

abbrev pub channel_of : ChanId → Channel
channel_of id = record { number = id.number.0; serial = id.serial }

abbrev pub channel_id : Channel → ChanId
channel_id channel = record { number = record { 0 = channel.number }; serial = channel.serial }

abbrev pub key_of : KeyNo → Key
key_of key = record { selector = key.sel.0; index = key.index; serial = key.serial }

abbrev pub key_no : Key → KeyNo
key_no key = record { sel = record { 0 = key.selector }; index = key.index; serial = key.serial }

abbrev pub as_looked : LookedKey → Looked
as_looked key = record { index = key.index; serial = key.serial; channel = key.channel.0; interest = key.interest }

abbrev pub as_changed : KeyChange → Changed
as_changed key = record {
  index = key.index;
  serial = key.serial;
  channel = key.channel.0;
  ready = key.ready;
  removed = key.removed;
}

abbrev pub as_told : Pair → ℕ × ℕ
as_told pair = (pair.index, pair.ready)

-- the kind with this number
abbrev pub kind_numbered : ℕ → Option Kind
kind_numbered n =
    if n == 0 then Some Stream
    else (if n == 1 then Some Listener
    else (if n == 2 then Some Source
    else (if n == 3 then Some Sink
    else (if n == 4 then Some Datagram else None))))

-- why a selection is over, as a number
abbrev pub why_code : Why → ℕ
why_code why.Ready = 0
why_code why.Now = 1
why_code why.Woken = 2
why_code why.Closed = 3
why_code why.Interrupted = 4
why_code why.Elapsed = 5

abbrev pub selection_of : Selected → Selection
selection_of selected = record { count = selected.count; why = why_code selected.why }
