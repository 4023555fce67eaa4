-- The making of a pipe with two ends, and the parting of one that is in one hand.
use Rattle.std.specs.Prelude.{◌≡◌, [], IsFalse, Result, Ok, Err}
use mathlib.Core.List.{IsPrefix}
use Rattle.rtrb.specs.Ring.{known_free, known_items, producer_capacity, consumer_capacity, IsPair}
use Rattle.rtrb.specs.Ring.{sent as pushed, received as popped}
use Rattle.nio_steps.specs.PipeCalls.{PipeEnds}
use Rattle.nio_steps.specs.declared.refusal.PipeMakeError.{PipeMakeError}
use Rattle.nio_pipe.specs.Ends.{received, known, knows_end, sent, free, is_sealed, AreEnds}
use Rattle.nio_pipe.specs.Pipe.{Pipe, waiting, room_of}
use Rattle.nio_pipe.specs.declared.making.Rings.{Rings}
use Rattle.nio_pipe.specs.declared.sink.PipeSink.{PipeSink}
use Rattle.nio_pipe.specs.declared.source.PipeSource.{PipeSource}

-- the channels of the pipe that was made, or the refusal
abbrev pub ends_made : Result (PipeSource × PipeSink) PipeMakeError → Result PipeEnds PipeMakeError
ends_made (Ok ends) = Ok (record { source = ends.0.chan; sink = ends.1.chan })
ends_made (Err refusal) = Err refusal

-- both rings are empty, and have room for 65,536 bytes and for a seal
pub record AreEmpty (rings : Rings) : Type 0 where
  pub bytes : IsPair rings.bytes_in rings.bytes_out
  pub seals : IsPair rings.seals_in rings.seals_out
  pub none_pushed : pushed rings.bytes_in ≡ []
  pub none_popped : popped rings.bytes_out ≡ []
  pub none_known : known_items rings.bytes_out ≡ []
  pub no_seal_pushed : pushed rings.seals_in ≡ []
  pub no_seal_popped : popped rings.seals_out ≡ []
  pub free : known_free rings.bytes_in ≡ 65536
  pub place : known_free rings.seals_in ≡ 1
  pub size_in : producer_capacity rings.bytes_in ≡ 65536
  pub size_out : consumer_capacity rings.bytes_out ≡ 65536

-- the two ends of a pipe into which nothing was written
pub record AreNew (source : PipeSource) (sink : PipeSink) : Type 0 where
  pub ends : AreEnds source sink
  pub none_sent : sent sink ≡ []
  pub none_received : received source ≡ []
  pub none_known : known source ≡ []
  pub all_free : free sink ≡ 65536
  pub unsealed : IsFalse (is_sealed sink)
  pub end_unknown : IsFalse (knows_end source)

-- the two ends of a pipe that was in one hand: the sink counts the waiting bytes as sent, and the source has
-- received none of them; each knows what it can
pub record AreParts (pipe : Pipe) (source : PipeSource) (sink : PipeSink) : Type 0 where
  pub ends : AreEnds source sink
  pub source_channel : source.chan ≡ pipe.source
  pub sink_channel : sink.chan ≡ pipe.sink
  pub all_sent : sent sink ≡ waiting pipe
  pub none_received : received source ≡ []
  pub all_known : IsPrefix (waiting pipe) (known source)
  pub seal_left : is_sealed sink ≡ pipe.sealed
  pub seal_known : knows_end source ≡ pipe.sealed
  pub room : IsFalse pipe.sealed → free sink ≡ room_of pipe
