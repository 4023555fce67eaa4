use Rattle.std.proofs.Common.{◌≡◌, ◌<◌, true, length}
use Rattle.nio_history.specs.PassViews.{HasNoPin}
use Rattle.nio_steps.specs.PipeCalls.{try_write_plan}
use Rattle.nio_words.specs.Passes.{IsReady, limits_of}
use Rattle.nio_words.specs.Views.{view}
use Rattle.nio_pipe.specs.Calls.{HasEnds}
use Rattle.nio_pipe.specs.Ends.{SinkLooks, free, tries_to_write}
use Rattle.nio_pipe.proofs.Waits.{HasTried}
use Rattle.nio_pipe.proofs.sink.PipeSink.write.Given as goal

abbrev pub invariant-loop : goal.invariant-loop
invariant-loop g l = record {
  ready : IsReady l.w l.p l.me;
  ends : HasEnds (view l.w l.p) l.fn.self.source l.fn.self.chan;
  unpinned : HasNoPin (view l.w l.p) l.me;
  tried : HasTried l.me (try_write_plan (limits_of l.w) l.fn.self.source l.fn.self.chan) l.waited
      (tries_to_write l.fn.self) (tries_to_write l.self) (view l.w l.fn.p) (view l.w l.p);
  looks : SinkLooks l.fn.self l.self;
  room : l.waited ≡ true → 0 < length l.from;
  nothing : l.waited ≡ true → free l.self ≡ 0;
}
