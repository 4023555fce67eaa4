-- A reopening, made between two calls: what it answers and leaves.
use Rattle.std.proofs.Common.{◌≡◌, Result, List, refl, ap, sym, ◌∙◌, subst}
use Rattle.nio_base.specs.declared.limits.Limits.{Limits}
use Rattle.nio_base.specs.declared.numbers.CallerNo.{CallerNo}
use Rattle.nio_base.specs.declared.numbers.ChanId.{ChanId}
use Rattle.nio_history.specs.Histories.{state_after, IsLegal}
use Rattle.nio_history.specs.State.{State}
use Rattle.nio_history.specs.declared.act.Act.{Act}
use Rattle.nio_history.specs.declared.event.Event.{Event}
use Rattle.nio_orderly.specs.Made.{table_call}
use Rattle.nio_plain.specs.ScriptState.{ScriptState}
use Rattle.nio_steps.proofs.PerformLaws.{perform_ran}
use Rattle.nio_steps.specs.ChannelCalls.{reopen_channel_plan}
use Rattle.nio_steps.specs.Ongoing.{Ongoing}
use Rattle.nio_steps.specs.Perform.{Performed, perform}
use Rattle.nio_steps.specs.Runs.{Completes}
use Rattle.nio_steps.specs.TableCalls.{reopen_channel}
use Rattle.nio_steps.specs.declared.refusal.ReopenError.{ReopenError}
use Rattle.nio_serial.proofs.Facts.{unheld, channels}
use Rattle.nio_serial.proofs.Opening.{gives, reopen-amounts}
use Rattle.nio_serial.proofs.ReopeningKept.{reopen-cases, rests-reopened}
use Rattle.nio_serial.proofs.Resting.{rests-from, rests-is}
use Rattle.nio_serial.proofs.SequenceCalls.{after, Ends}
use Rattle.nio_serial.proofs.Showing.{shows-same}
use Rattle.nio_serial.proofs.Touching.{reopen_channel-keeps}
use Rattle.nio_serial.specs.Between.{IsAtRest, IsBetween, IsLeft, reopening}
use Rattle.nio_serial.specs.Documented.{Progress, documented}
use Rattle.nio_serial.specs.Left.{IsOngoing}
use Rattle.nio_serial.specs.Reopening.{Reopened, reopen_call}

-- turns and closings are as before
record IsQuiet (st : ScriptState) (done : Reopened) : Type 0 where
  turn : done.left.shared.turn ≡ st.shared.turn
  begun : done.left.shared.begun ≡ st.shared.begun
  closer : done.left.shared.closer ≡ st.shared.closer
  entered : done.left.shared.entered ≡ st.shared.entered

reopens-quietly : (l : Limits) (st : ScriptState) (c : ChanId) → IsQuiet st (reopen_call l st c)
reopens-quietly l st c =
    reopen-cases l st c (IsQuiet st)
    (λ _. record { turn = refl; begun = refl; closer = refl; entered = refl })
    (λ _ _. record { turn = refl; begun = refl; closer = refl; entered = refl })

module _ (l : Limits) (past : List Event) (now : Progress) (me : CallerNo)
    (between : IsBetween l (state_after past) now) (c : ChanId) where
  abbrev st : State
  st = state_after past

  abbrev ds : ScriptState
  ds = documented st now

  abbrev done : Performed (Result ChanId ReopenError)
  done = perform me (reopen_channel_plan l c) st

  amounts : reopen_call l ds c ≡ gives now done
  amounts = reopen-amounts l st now me c (channels l st now between) (unheld l st now between c.number.0)

  reopened-between : IsBetween l done.state now
  reopened-between =
      let quiet = reopens-quietly l ds c in
      record {
        left = subst (λ (x : Reopened). IsLeft l x.left) amounts (reopening ds c between.left);
        at_rest = subst (λ (x : Reopened). IsAtRest l x.left.shared) amounts
            (rests-is l (reopen_call l ds c).left.shared
            (rests-reopened l ds c (rests-from l ds.shared between.at_rest)));
        shown = shows-same l st now me between done.state
            (sym (ap (λ (x : Reopened). x.left.shared.turn) amounts) ∙ quiet.turn)
            (sym (ap (λ (x : Reopened). x.left.shared.begun) amounts) ∙ quiet.begun)
            (sym (ap (λ (x : Reopened). x.left.shared.closer) amounts) ∙ quiet.closer)
            (sym (ap (λ (x : Reopened). x.left.shared.entered) amounts) ∙ quiet.entered)
            ((reopen_channel-keeps l c).keeps st);
      }

  module _ (acts : List Act) (answer : Result ChanId ReopenError) (legal : IsLegal l (after past me acts))
      (run : Completes (reopen_channel_plan l c) acts answer) where
    ran : done ≡ record { answer = answer; state = state_after (after past me acts) }
    ran = perform_ran l me (reopen_channel_plan l c) past acts answer legal run

    -- it answers and leaves what the documented one does
    pub reopened-is : reopen_call l ds c
        ≡ record { answer = answer; left = documented (state_after (after past me acts)) now }
    reopened-is = amounts ∙ ap (gives now) ran

    pub reopen-ends : (o : Ongoing) → IsOngoing me now o
        → Ends l past now me o acts (table_call (reopen_channel c) answer)
    reopen-ends o at = record {
      between = subst (λ (p : Performed (Result ChanId ReopenError)). IsBetween l p.state now) ran reopened-between;
      own = at;
      others = λ n o' other at'. at';
      is = tt;
    }
