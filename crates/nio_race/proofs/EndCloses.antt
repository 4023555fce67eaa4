-- A line that closes a channel.
use Rattle.std.proofs.Common.{◌≡◌, ℕ, ◌<◌, true, Bool, Some, None, Result, Ok, Err, IfOk, List}
use Rattle.std.proofs.Common.{get_or, set, length, refl, sym, ap, subst}
use Rattle.std.proofs.lemmas.Bool.{lt-ltb}
use Rattle.std.specs.Prelude.{Vec}
use Rattle.std.specs.declared.alloc.AllocError.{AllocError}
use Rattle.std.specs.declared.alloc.Global.{Global}
use Rattle.nio_base.specs.declared.numbers.CallerNo.{CallerNo}
use Rattle.nio_base.specs.declared.numbers.ChanId.{ChanId}
use Rattle.nio_language.specs.declared.call.Call.{Call}
use Rattle.nio_language.specs.declared.call.Call.TheVariants as call
use Rattle.nio_language.specs.declared.reply.Reply.{Reply}
use Rattle.nio_language.specs.declared.reply.Reply.TheVariants as reply
use Rattle.nio_orderly.specs.Made.{table_call}
use Rattle.nio_pipe.specs.Ends.{IsSameSink, is_sealed, sent, sink_chan}
use Rattle.nio_pipe.specs.declared.sink.PipeSink.{PipeSink}
use Rattle.nio_plain.specs.Seq.Pipes.{own_sink}
use Rattle.nio_race.proofs.EndLines.{close_elsewhere, close_goes_on, close_stays, sink_closed}
use Rattle.nio_race.proofs.EndLooks.{IsSinkPlace, LooksUp, made_sinks, sink_inside, sink_its, stands_called}
use Rattle.nio_race.proofs.EndLooks.{stands_looked, with_pass}
use Rattle.nio_race.proofs.LineEnds.{ends_still_made, stands_with}
use Rattle.nio_race.proofs.LinePipes.{script_line_pipeless}
use Rattle.nio_race.specs.Racers.{CalledOn, MakesAsScript, MakesOnce, StandsFor, StandsWith}
use Rattle.nio_race.specs.Runs.{MakesScriptLine, is_made_again}
use Rattle.nio_race.specs.declared.ends.OwnEnds.{OwnEnds}
use Rattle.nio_serial.specs.Lines.{Said, call_plan, if_found, if_named, line_plan, makes, refused}
use Rattle.nio_serial.specs.PipeLines.{with_seal}
use Rattle.nio_serial.specs.Replies.{closed_reply}
use Rattle.nio_sole.proofs.Asking.{makes_ran}
use Rattle.nio_sole.proofs.Desks.{left_as}
use Rattle.nio_sole.proofs.Lines.{line_of_named}
use Rattle.nio_sole.specs.Stands.{pipes_of, progress_of}
use Rattle.nio_sole.specs.declared.desk.Desk.{Desk}
use Rattle.nio_sole.specs.declared.desk.OwnedPipe.{OwnedPipe}
use Rattle.nio_steps.proofs.CallLaws.{call_as, left_after_call, left_of_call, ran_then, returned}
use Rattle.nio_steps.proofs.WaitingLaws.{repeats_last, tries_none}
use Rattle.nio_steps.specs.Calls.{CallClause}
use Rattle.nio_steps.specs.ChannelCalls.{close_channel_plan}
use Rattle.nio_steps.specs.Plan.{Plan}
use Rattle.nio_steps.specs.Runs.{Completes}
use Rattle.nio_steps.specs.TableCalls.{close_channel}
use Rattle.nio_words.specs.Passes.{IsReady, limits_of}
use Rattle.nio_words.specs.Views.{view}
use Rattle.nio_words.specs.declared.words.Pass.{Pass}
use Rattle.nio_words.specs.declared.words.Words.{Words}

module _ (w : Words) (d : Desk) (ends : OwnEnds) (me : CallerNo) (c : ChanId) (stands : StandsWith w d ends me) where
  abbrev Closing : Call
  Closing = call.Closec c

  abbrev closing_plan : Plan Said
  closing_plan =
      makes (close_channel_plan (limits_of w) c) closed_reply
      (λ _. with_seal (progress_of d) (own_sink (progress_of d).pipes me c))

  -- a line that was made once is not made again
  once : (q : Pass) (r : Reply) → MakesOnce w d (with_pass d q) me Closing r
      → MakesAsScript w d (with_pass d q) me Closing r
  once q r makes =
      let said : Said = record { reply = r; left = progress_of d } in
      let shape = λ (_ : Unit {0}). Completes (line_plan (limits_of w) (progress_of d) me Closing) in
      call_as (MakesScriptLine (limits_of w) (progress_of d) me Closing) said
      (λ xs run. repeats_last tt xs said (tries_none shape (λ _. is_made_again Closing)) run refl) makes

  nowhere : (q : Pass) → LooksUp w me c d.pass q None → MakesOnce w d (with_pass d q) me Closing reply.NoChannel
  unfolding if_named call_plan
  nowhere q looks =
      line_of_named me (progress_of d) Closing (limits_of w) (view w d.pass) (view w q)
      (record { reply = reply.NoChannel; left = progress_of d })
      (lt-ltb me.0 (limits_of w).callers stands.stands.caller)
      (returned (ran_then (if_found (progress_of d) reply.NoChannel closing_plan) looks
      (left_after_call {plan = refused (progress_of d) reply.NoChannel} looks)))

  -- the caller has no pipe of its own on its desk
  unsealed : with_seal (progress_of d) (own_sink (progress_of d).pipes me c) ≡ progress_of d
  unsealed =
      ap (with_seal (progress_of d)) (ap (λ (pipes : List OwnedPipe). own_sink (pipes_of pipes) me c) stands.pipeless)

  closed : (q q' : Pass) (found : ChanId) (closes : Bool) → LooksUp w me c d.pass q (Some found)
      → CallClause me (Completes (close_channel_plan (limits_of w) c)) (view w q) (view w q') closes
      → MakesOnce w d (with_pass d q') me Closing (closed_reply closes)
  unfolding if_named call_plan
  closed q q' found closes looks call =
      line_of_named me (progress_of d) Closing (limits_of w) (view w d.pass) (view w q')
      (record { reply = closed_reply closes; left = progress_of d })
      (lt-ltb me.0 (limits_of w).callers stands.stands.caller)
      (left_as
      (returned (ran_then (if_found (progress_of d) reply.NoChannel closing_plan) looks
      (left_of_call (makes_ran closed_reply
      (λ _. with_seal (progress_of d) (own_sink (progress_of d).pipes me c)) call)))) unsealed)

  -- the channel wasn't found
  pub closes_nowhere : (q : Pass) → LooksUp w me c d.pass q None
      → CalledOn w d (with_pass d q) ends ends me Closing reply.NoChannel
  closes_nowhere q looks = record {
    made = once q reply.NoChannel (nowhere q looks);
    went_on = close_stays c reply.NoChannel ends refl;
  }

  -- none of the sinks has it
  pub closes_unowned : (d' : Desk) (result : Result Reply AllocError) → IsSinkPlace ends c None
      → IfOk result (MakesAsScript w d d' me Closing) → IfOk result (CalledOn w d d' ends ends me Closing)
  closes_unowned d' (Ok r) at makes = record { made = makes; went_on = close_elsewhere c r ends at }
  closes_unowned d' (Err e) at makes = tt

  pub stands_unowned : (d' : Desk) (result : Result Reply AllocError) → StandsFor w d' me
      → IfOk result (MakesAsScript w d d' me Closing) → IfOk result (λ _. StandsWith w d' ends me)
  stands_unowned d' (Ok r) stands' makes =
      stands_with w d d' ends me stands stands' makes
      (script_line_pipeless (limits_of w) (progress_of d) (ap pipes_of stands.pipeless) me Closing _ _ refl makes.shape)
  stands_unowned d' (Err e) stands' makes = tt

  module _ (q q' : Pass) (found : ChanId) (place : ℕ) (old new : PipeSink) (sinks : Vec PipeSink Global) (closes : Bool)
      (looks : LooksUp w me c d.pass q (Some found)) (ready : IsReady w q me) (at : IsSinkPlace ends c (Some place))
      (here : old ≡ get_or ends.sinks.items place old)
      (call : CallClause me (Completes (close_channel_plan (limits_of w) (sink_chan old))) (view w q) (view w q')
      closes)
      (same : IsSameSink old new) (items : sinks.items ≡ set ends.sinks.items place new) where
    inside : place < length ends.sinks.items
    inside = sink_inside ends c place at old

    its : sink_chan old ≡ c
    its = sink_its ends c place old at here

    its_call : CallClause me (Completes (close_channel_plan (limits_of w) c)) (view w q) (view w q') closes
    its_call =
        subst
        (λ (x : ChanId). CallClause me (Completes (close_channel_plan (limits_of w) x)) (view w q) (view w q') closes)
        its call

    pub closes_own : (r : Reply) → r ≡ closed_reply closes → sent new ≡ sent old → is_sealed new ≡ true
        → CalledOn w d (with_pass d q') ends (record ends { sinks = sinks }) me Closing r
    closes_own r said keeps seals =
        subst
        (λ (x : Reply). CalledOn w d (with_pass d q') ends (record ends { sinks = sinks }) me Closing x) (sym said)
        (record {
          made = once q' (closed_reply closes) (closed q q' found closes looks its_call);
          went_on =
              close_goes_on c (closed_reply closes) ends place old new sinks inside here its
              stands.made_ends.sinks_differ items (sink_closed c old new closes its same keeps seals);
        })

    pub stands_shut : IsReady w q' me → StandsWith w (with_pass d q') (record ends { sinks = sinks }) me
    stands_shut ready' =
        let d1 = with_pass d q in
        let looked : StandsWith w d1 ends me = stands_looked w d q ends me c (Some found) stands ready looks in
        record {
          stands = stands_called w d1 q' me (table_call (close_channel c) closes) looked.stands ready' its_call
              its_call.shape
              (λ o. tt) (λ o. refl);
          made_ends = made_sinks w (with_pass d q') ends place old new sinks inside here same items
              (ends_still_made w d1 (with_pass d q') ends its_call looked.made_ends);
          pipeless = stands.pipeless;
        }
