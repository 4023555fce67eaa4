-- For the tests: a caller between its calls on a pipe.
use Rattle.nio_base.specs.declared.numbers.CallerNo.{CallerNo}
use Rattle.nio_base.specs.declared.numbers.ChanId.{ChanId}
use Rattle.nio_channel.specs.Idle.{zero}
use Rattle.nio_history.specs.PassViews.{HasNoPin}
use Rattle.nio_words.specs.Passes.{IsReady}
use Rattle.nio_words.specs.Views.{view}
use Rattle.nio_words.specs.declared.words.Pass.{Pass}
use Rattle.nio_words.specs.declared.words.Words.{Words}
use Rattle.nio_pipe.specs.Calls.{HasEnds}
use Rattle.nio_pipe.specs.Ends.{AreEnds}
use Rattle.nio_pipe.specs.declared.sink.PipeSink.{PipeSink}
use Rattle.nio_pipe.specs.declared.source.PipeSource.{PipeSource}

-- the caller may step with the pass, has no pin, and may call a pipe with these channels
pub record MayUse (w : Words) (p : Pass) (me : CallerNo) (a b : ChanId) : Type 0 where
  pub ready : IsReady w p me
  pub unpinned : HasNoPin (view w p) me
  pub ends : HasEnds (view w p) a b

-- the first caller has both ends in its hand
pub record HasBoth (w : Words) (p : Pass) (source : PipeSource) (sink : PipeSink) : Type 0 where
  pub may : MayUse w p zero source.chan sink.chan
  pub pair : AreEnds source sink
