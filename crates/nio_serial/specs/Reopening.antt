-- What the documented system has for a reopening: the number of a closed channel that isn't registered is given to a
-- new channel of the same kind, with the next serial, unless its serial is the last. No word of a script is one.
use Rattle.std.specs.Prelude.{suc, not, if◌then◌else◌, Result, Ok, Err}
use Rattle.nio_base.specs.declared.limits.Limits.{Limits}
use Rattle.nio_base.specs.declared.numbers.ChanId.{ChanId}
use Rattle.nio_history.specs.Sets.{fits_channel, can_reopen}
use Rattle.nio_history.specs.State.{State}
use Rattle.nio_plain.specs.ScriptState.{ScriptState, with_shared}
use Rattle.nio_plain.specs.Seq.Modes.{has_key}
use Rattle.nio_plain.specs.Seq.Opening.{with_new_channel}
use Rattle.nio_steps.specs.declared.refusal.ReopenError.{ReopenError}
use Rattle.nio_steps.specs.declared.refusal.ReopenError.TheVariants.{Lost, Open, SerialsSpent, Registered}

-- what a reopening answers and leaves
pub record Reopened : Type 0 where
  pub answer : Result ChanId ReopenError
  pub left : ScriptState

-- a refusal changes nothing
abbrev pub refuses : ScriptState → ReopenError → Reopened
refuses st refusal = record { answer = Err refusal; left = st }

-- the next channel of the number
abbrev pub next_of_number : State → ChanId → ChanId
next_of_number st c = record c { serial = suc (st.chan c.number.0).serial }

-- It never answers `Busy`: between two calls nobody holds a channel. The new channel is as any that is opened.
abbrev pub reopen_call : Limits → ScriptState → ChanId → Reopened
reopen_call l st c =
    let chan = st.shared.chan c.number.0 in
    if not (fits_channel chan c.serial) then refuses st Lost
    else if not chan.closed then refuses st Open
    else if not (can_reopen chan) then refuses st SerialsSpent
    else if has_key l st.shared c.number.0 then refuses st Registered
    else record {
      answer = Ok (next_of_number st.shared c);
      left = with_shared st (with_new_channel st.shared chan.kind (next_of_number st.shared c));
    }
