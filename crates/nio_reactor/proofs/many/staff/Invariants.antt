use Rattle.std.proofs.Common.{◌≡◌, ◌+◌, ◌++◌, [], false, All, length, map, vec_capacity}
use Rattle.nio_link.specs.Places.{never_asked}
use Rattle.nio_serve.specs.Serving.{listener}
use Rattle.nio_reactor.specs.Receiving.{is_early}
use Rattle.nio_reactor.specs.declared.door.Door.TheVariants.{Unasked}
use Rattle.nio_reactor.proofs.many.staff.Given as goal

abbrev pub invariant-loop-worker : goal.invariant-loop-worker
invariant-loop-worker g l = record {
  nets : map (λ x. x.lane.net) l.workers.items ++ l.more.items ≡ l.fn.more.items;
  count : length l.workers.items ≡ l.worker;
  rest : length l.more.items + l.worker ≡ length l.fn.more.items;
  lines : map (λ x. x.lane.line) l.workers.items ++ l.lines.items ≡ l.fn.lines.items;
  exits : length l.lines.items ≡ length l.more.items;
  new : All (λ e. e.carried ≡ []) l.lines.items;
  passes : map (λ x. x.pass) l.workers.items ++ l.passes.items ≡ l.fn.passes.items;
  left : length l.passes.items ≡ length l.more.items;
  unasked : All (λ net. g.N.Net.place net listener ≡ never_asked) l.more.items;
  doors : All (λ x. x.lane.door ≡ Unasked) l.workers.items;
  on_time : All (λ x. is_early x.lane.heard ≡ false) l.workers.items;
  room : vec_capacity l.more ≡ vec_capacity l.fn.more;
  spare : vec_capacity l.workers ≡ vec_capacity l.initial.workers;
}
