-- For the tests: what a caller has between its calls on a pipe stays.
use Rattle.std.proofs.Common.{◌≡◌, List, refl, sym, ◌∙◌, subst}
use Rattle.nio_base.specs.declared.numbers.CallerNo.{CallerNo}
use Rattle.nio_base.specs.declared.numbers.ChanId.{ChanId}
use Rattle.nio_channel.proofs.Idle.{unpinned_same, channel_same, zero_other}
use Rattle.nio_channel.specs.Idle.{AreIdle, zero, one}
use Rattle.nio_history.proofs.PassViews.{channel_after}
use Rattle.nio_history.specs.PassViews.{ActsClause, HasNoPin}
use Rattle.nio_history.specs.declared.act.Act.{Act}
use Rattle.nio_words.specs.Passes.{IsReady, seen}
use Rattle.nio_words.specs.Sharing.{HandsOver}
use Rattle.nio_words.specs.Views.{view}
use Rattle.nio_words.specs.declared.words.Pass.{Pass}
use Rattle.nio_words.specs.declared.words.Words.{Words}
use Rattle.nio_pipe.proofs.Rings.{ring_back, ring_then}
use Rattle.nio_pipe.specs.Calls.{HasEnds}
use Rattle.nio_pipe.specs.Ends.{AreEnds, IsSameSource, IsSameSink}
use Rattle.nio_pipe.specs.Idle.{HasBoth, MayUse}
use Rattle.nio_pipe.specs.declared.sink.PipeSink.{PipeSink}
use Rattle.nio_pipe.specs.declared.source.PipeSource.{PipeSource}

-- after a call of the caller
pub may_after : {w : Words} {p q : Pass} {me : CallerNo} {acts : List Act} {a b : ChanId}
    → ActsClause me acts (view w p) (view w q) → IsReady w q me → HasNoPin (view w q) me
    → MayUse w p me a b → MayUse w q me a b
may_after clause ready unpinned may = record {
  ready = ready;
  unpinned = unpinned;
  ends = record { source = channel_after clause may.ends.source; sink = channel_after clause may.ends.sink };
}

-- the ends are those of the same pipe
pub may_same : {w : Words} {p : Pass} {me : CallerNo} {a b c d : ChanId} → c ≡ a → d ≡ b → MayUse w p me a b
    → MayUse w p me c d
may_same {w = w} {p = p} {me = me} {b = b} {c = c} first second may =
    subst (MayUse w p me c) (sym second) (subst (λ x. MayUse w p me x b) (sym first) may)

-- the first of two idle callers
pub may_idle : {w : Words} {p : Pass} {a b : ChanId} → AreIdle w p → HasEnds (view w p) a b → MayUse w p zero a b
may_idle idle ends = record { ready = idle.zero_ready; unpinned = idle.zero_unpinned; ends = ends }

ends_same : (w : Words) (p q : Pass) {a b : ChanId} → seen q ≡ seen p → HasEnds (view w p) a b → HasEnds (view w q) a b
ends_same w p q same ends =
    record { source = channel_same w p q same ends.source; sink = channel_same w p q same ends.sink }

-- the other caller's number was handed over: the first may use the pipe still, and so may the other
pub may_stay : {w : Words} {before after given : Pass} {a b : ChanId} → HandsOver w one before after given
    → MayUse w before zero a b → MayUse w after zero a b
may_stay {w = w} {before = before} {after = after} over may = record {
  ready = record { pass = over.sees.pass; number = (over.numbers zero).1 (may.ready.number, zero_other) };
  unpinned = unpinned_same w before after zero over.sees.sight may.unpinned;
  ends = ends_same w before after over.sees.sight may.ends;
}

pub may_go : {w : Words} {before after given : Pass} {a b : ChanId} → HandsOver w one before after given
    → AreIdle w before → HasEnds (view w before) a b → MayUse w given one a b
may_go {w = w} {before = before} {given = given} over idle ends = record {
  ready = record { pass = over.sees.given_pass; number = (over.given_number one).1 refl };
  unpinned = unpinned_same w before given one over.sees.given_sight idle.one_unpinned;
  ends = ends_same w before given over.sees.given_sight ends;
}

-- ---- both ends in one hand

pub pair_read : {a b : PipeSource} {sink : PipeSink} → IsSameSource a b → AreEnds a sink → AreEnds b sink
pair_read {a} {b} {sink} same pair = record {
  bytes = ring_then sink.bytes.end a.bytes.end b.bytes.end pair.bytes same.bytes.0;
  seals = ring_then sink.seals.end a.seals.end b.seals.end pair.seals same.seals.0;
  channel = pair.channel ∙ sym same.channel;
}

pub pair_written : {source : PipeSource} {a b : PipeSink} → IsSameSink a b → AreEnds source a → AreEnds source b
pair_written {source} {a} {b} same pair = record {
  bytes = ring_then b.bytes.end a.bytes.end source.bytes.end (ring_back a.bytes.end b.bytes.end same.bytes.0)
      pair.bytes;
  seals = ring_then b.seals.end a.seals.end source.seals.end (ring_back a.seals.end b.seals.end same.seals.0)
      pair.seals;
  channel = same.other ∙ pair.channel;
}

-- the sink's own call is one of the pipe
pub may_write : {w : Words} {p : Pass} {source : PipeSource} {sink : PipeSink} → HasBoth w p source sink
    → MayUse w p zero sink.source sink.chan
may_write both = may_same both.pair.channel refl both.may

pub both_read : {w : Words} {p q : Pass} {a b : PipeSource} {sink : PipeSink} → IsSameSource a b
    → MayUse w q zero b.chan sink.chan → HasBoth w p a sink → HasBoth w q b sink
both_read same may both = record { may = may; pair = pair_read same both.pair }

pub both_written : {w : Words} {p q : Pass} {source : PipeSource} {a b : PipeSink} → IsSameSink a b
    → MayUse w q zero b.source b.chan → HasBoth w p source a → HasBoth w q source b
both_written same may both = let pair =
    pair_written same both.pair in record { may = may_same (sym pair.channel) refl may; pair = pair }
