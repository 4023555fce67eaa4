use Rattle.std.proofs.Common.{◌≡◌, ◌<◌, true, length}
use Rattle.nio_history.specs.PassViews.{HasChannel, HasNoPin}
use Rattle.nio_steps.specs.PipeCalls.{try_read_plan}
use Rattle.nio_words.specs.Passes.{IsReady, limits_of}
use Rattle.nio_words.specs.Views.{view}
use Rattle.nio_pipe.specs.Ends.{KnowsNothing, SourceLooks, tries_to_read}
use Rattle.nio_pipe.proofs.Waits.{HasTried}
use Rattle.nio_pipe.proofs.source.PipeSource.read.Given as goal

abbrev pub invariant-loop : goal.invariant-loop
invariant-loop g l = record {
  ready : IsReady l.w l.p l.me;
  channel : HasChannel (view l.w l.p) l.fn.self.chan;
  unpinned : HasNoPin (view l.w l.p) l.me;
  tried : HasTried l.me (try_read_plan (limits_of l.w) l.fn.self.chan) l.waited (tries_to_read l.fn.self)
      (tries_to_read l.self) (view l.w l.fn.p) (view l.w l.p);
  looks : SourceLooks l.fn.self l.self;
  into : l.into ≡ l.fn.into;
  room : l.waited ≡ true → 0 < length l.fn.into;
  nothing : l.waited ≡ true → KnowsNothing l.self;
}
