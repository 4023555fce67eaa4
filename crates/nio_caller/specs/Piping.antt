-- What a read gave and a write took.
use Rattle.std.specs.Prelude.{◌≡◌, ◌+◌, ◌<◌, ◌≤◌, ◌==◌, ◌||◌, ◌&&◌, ℕ, Bool, true, false, min, length, List, [], Result, Ok, Err, IfOk, OnOk}
use Rattle.nio_base.specs.declared.limits.Limits.{Limits}
use Rattle.nio_base.specs.declared.numbers.ChanId.{ChanId}
use Rattle.nio_history.specs.Sets.{was_opened}
use Rattle.nio_history.specs.declared.act.Act.{Act}
use Rattle.nio_history.specs.declared.act.Act.TheVariants.{LookChannel}
use Rattle.nio_pipe.specs.Answers.{bytes_read, bytes_written, leaves_seal, read_answer, write_answer}
use Rattle.nio_pipe.specs.Ends.{GivesBytes, IsAtEnd, IsSameSink, IsSameSource, KnowsNothing, TakesBytes, free}
use Rattle.nio_pipe.specs.Ends.{is_sealed, known, knows_end}
use Rattle.nio_pipe.specs.declared.answers.PipeRead.{PipeRead}
use Rattle.nio_pipe.specs.declared.answers.PipeRead.TheVariants as read
use Rattle.nio_pipe.specs.declared.answers.PipeWrite.{PipeWrite}
use Rattle.nio_pipe.specs.declared.answers.PipeWrite.TheVariants as write
use Rattle.nio_pipe.specs.declared.sink.PipeSink.{PipeSink}
use Rattle.nio_pipe.specs.declared.source.PipeSource.{PipeSource}
use Rattle.nio_steps.specs.declared.refusal.PipeError.{PipeError}
use Rattle.nio_caller.specs.NamedCalls.{OnChannel, MayRefuse}
use Rattle.nio_caller.specs.declared.refusal.CallError.{CallError}
use Rattle.nio_caller.specs.declared.refusal.CallError.TheVariants.{NoSuchChannel}

-- A read from the source into the slice, each before and after, was answered so.
pub record HasRead (source source' : PipeSource) (into into' : List ℕ) (answer : Result PipeRead PipeError) : Type 0 where
  pub same : IsSameSource source source'
  pub bytes : GivesBytes source source' into into' (bytes_read answer)
  pub answers : IfOk answer (λ given. given ≡ read_answer (length into) (bytes_read answer) (knows_end source'))
  pub most : OnOk answer (bytes_read answer < length into → known source' ≡ [])
  pub not_yet : answer ≡ Ok read.NotYet → KnowsNothing source × KnowsNothing source'
  pub end : answer ≡ Ok read.End → IsAtEnd source'
  pub stays : IsAtEnd source → IfOk answer (λ given. given ≡ read_answer (length into) 0 true)

-- A write of the slice to the sink, before and after, was answered so.
pub record HasWritten (sink sink' : PipeSink) (from : List ℕ) (answer : Result PipeWrite PipeError) : Type 0 where
  pub same : IsSameSink sink sink'
  pub bytes : TakesBytes sink sink' from (bytes_written answer)
  pub seal : is_sealed sink' ≡ (is_sealed sink || leaves_seal answer)
  pub answers : IfOk answer (λ taken. taken ≡ write_answer (length from) (bytes_written answer))
  pub least : OnOk answer (min (length from) (free sink) ≤ bytes_written answer)
  pub most : OnOk answer (bytes_written answer < length from → free sink' ≡ 0)
  pub places : OnOk answer (free sink ≤ free sink' + bytes_written answer)
  pub not_yet : answer ≡ Ok write.NotYet → (free sink ≡ 0) × (free sink' ≡ 0)

-- a call on a sink: the channels of both ends are looked up, the source's first
abbrev pub OnEnds : {T : Type 0} → Limits → ChanId → ChanId → (List Act → Result T PipeError → Type 0) → List Act
    → Result T (CallError PipeError) → Type 0
OnEnds l source sink Shape = OnChannel l source (Err NoSuchChannel) (OnChannel l sink (Err NoSuchChannel) (MayRefuse Shape))

-- it looked at the channel, and found that this was opened
abbrev pub finds_opened : ChanId → Act → Bool
finds_opened c (LookChannel n found) = (n.0 == c.number.0) && was_opened found c.serial
finds_opened c _ = false
