use Rattle.std.proofs.Common.{◌≡◌, ◌<◌, ◌++◌, [], false, All, length, map, ◌∙◌, ap, sym, arith, refl, subst}
use Rattle.std.proofs.lemmas.List.{length-map}
use Rattle.std.proofs.lemmas.List.Elements.{All-tail}
use Rattle.nio_link.specs.Places.{never_asked}
use Rattle.nio_serve.proofs.Watching.{longer}
use Rattle.nio_serve.specs.Serving.{listener}
use Rattle.nio_reactor.proofs.Lists.{all_more, at_end, first_has, first_taken, moved, nets_end, rest_has}
use Rattle.nio_reactor.specs.Dealing.{share, slots_of}
use Rattle.nio_reactor.specs.Receiving.{is_early}
use Rattle.nio_reactor.specs.declared.door.Door.TheVariants.{Unasked}
use Rattle.nio_reactor.specs.declared.lane.Worker.{Worker}
use Rattle.nio_reactor.proofs.many.staff.Goals as goal

pub over-lane-requires-clause-its : goal.over-lane-requires-clause-its
over-lane-requires-clause-its g c κs within =
    let some : 0 < length c.loop-worker.more.items
    = grind (arith, c.loop-worker.invariant.rest, c.loop-worker-test.true, c.len-count.ensures) in
    let some_lines : 0 < length c.loop-worker.lines.items = omega (arith, some, c.loop-worker.invariant.exits) in
    let first_line = first_taken c.loop-worker.lines.items c.remove-in-loop-worker.new.self.items c.remove-in-loop-worker.result
    some_lines c.remove-in-loop-worker.ensures.value c.remove-in-loop-worker.ensures.by_index.2 in
    at_end (λ e. e.line) (map (λ x. x.lane.line) c.loop-worker.workers.items) c.remove-in-loop-worker.new.self.items
    c.args.lines.items g.K.Lines.lines c.remove-in-loop-worker.result c.loop-worker.worker
    (ap (λ l. map (λ x. x.lane.line) c.loop-worker.workers.items ++ l) (sym first_line)
    ∙ c.loop-worker.invariant.lines)
    (length-map c.loop-worker.workers.items (λ x. x.lane.line) ∙ c.loop-worker.invariant.count) c.requires.lines

pub over-lane-requires-clause-new : goal.over-lane-requires-clause-new
over-lane-requires-clause-new g c κs within =
    let some : 0 < length c.loop-worker.more.items
    = grind (arith, c.loop-worker.invariant.rest, c.loop-worker-test.true, c.len-count.ensures) in
    let some_lines : 0 < length c.loop-worker.lines.items = omega (arith, some, c.loop-worker.invariant.exits) in
    let first_line = first_taken c.loop-worker.lines.items c.remove-in-loop-worker.new.self.items c.remove-in-loop-worker.result
    some_lines c.remove-in-loop-worker.ensures.value c.remove-in-loop-worker.ensures.by_index.2 in
    first_has (λ e. e.carried ≡ []) c.loop-worker.lines.items c.remove-in-loop-worker.new.self.items c.remove-in-loop-worker.result
    first_line c.loop-worker.invariant.new

pub over-lane-requires-clause-all : goal.over-lane-requires-clause-all
over-lane-requires-clause-all g c κs within =
    let more : c.len-count.result ≡ length c.args.more.now.items = grind (arith, c.len-count.ensures) in
    let all : c.len-count.result ≡ length g.K.Lines.lines
    = more ∙ sym c.requires.exits ∙ sym (length-map c.args.lines.items (λ e. e.line)) ∙ ap length c.requires.lines in
    c.share_of.ensures.exact
    ∙ ap (λ k. share k c.loop-worker.worker c.args.plan.conns) all
    ∙ ap (share (length g.K.Lines.lines) c.loop-worker.worker) c.requires.conns

pub over-lane-requires-clause-slots : goal.over-lane-requires-clause-slots
over-lane-requires-clause-slots g c κs within =
    let more : c.len-count.result ≡ length c.args.more.now.items = grind (arith, c.len-count.ensures) in
    let all : c.len-count.result ≡ length g.K.Lines.lines
    = more ∙ sym c.requires.exits ∙ sym (length-map c.args.lines.items (λ e. e.line)) ∙ ap length c.requires.lines in
    c.share_of-in-loop-worker.ensures.exact
    ∙ ap (λ k. share k c.loop-worker.worker c.slots_for-slots.result) all
    ∙ ap (share (length g.K.Lines.lines) c.loop-worker.worker)
    (c.slots_for-slots.ensures.all ∙ ap (λ k. slots_of k c.args.plan) more ∙ c.requires.slots)

pub loop-worker-preserved : goal.loop-worker-preserved
loop-worker-preserved g c =
    let worker : Worker _ _ _ _ _ _ = record { lane = c.over-lane.result; pass = c.remove-in-loop-worker-2.result } in
    let some : 0 < length c.loop-worker.more.items
    = grind (arith, c.loop-worker.invariant.rest, c.loop-worker-test.true, c.len-count.ensures) in
    let some_lines : 0 < length c.loop-worker.lines.items = omega (arith, some, c.loop-worker.invariant.exits) in
    let some_passes : 0 < length c.loop-worker.passes.items = omega (arith, some, c.loop-worker.invariant.left) in
    let first = first_taken c.loop-worker.more.items c.remove.new.self.items c.remove.result some c.remove.ensures.value
    c.remove.ensures.by_index.2 in
    let first_line = first_taken c.loop-worker.lines.items c.remove-in-loop-worker.new.self.items c.remove-in-loop-worker.result
    some_lines c.remove-in-loop-worker.ensures.value c.remove-in-loop-worker.ensures.by_index.2 in
    let first_pass = first_taken c.loop-worker.passes.items c.remove-in-loop-worker-2.new.self.items c.remove-in-loop-worker-2.result
    some_passes c.remove-in-loop-worker-2.ensures.value c.remove-in-loop-worker-2.ensures.by_index.2 in
    let more = longer c.loop-worker.workers.items c.push_reserved.new.self.items worker c.push_reserved.ensures.items in
    record {
      nets = moved _ c.loop-worker.workers.items c.push_reserved.new.self.items c.loop-worker.more.items
          c.remove.new.self.items
          c.args.more.now.items worker c.remove.result c.loop-worker.invariant.nets first c.over-lane.ensures.net
          c.push_reserved.ensures.items;
      count = omega (arith, more, c.loop-worker.invariant.count);
      rest = omega (arith, ap length first, c.loop-worker.invariant.rest);
      lines = moved _ c.loop-worker.workers.items c.push_reserved.new.self.items c.loop-worker.lines.items
          c.remove-in-loop-worker.new.self.items c.args.lines.items worker c.remove-in-loop-worker.result
          c.loop-worker.invariant.lines first_line c.over-lane.ensures.line c.push_reserved.ensures.items;
      exits = omega (arith, ap length first, ap length first_line, c.loop-worker.invariant.exits);
      new = rest_has (λ e. e.carried ≡ []) c.loop-worker.lines.items c.remove-in-loop-worker.new.self.items
          c.remove-in-loop-worker.result first_line c.loop-worker.invariant.new;
      passes = moved _ c.loop-worker.workers.items c.push_reserved.new.self.items c.loop-worker.passes.items
          c.remove-in-loop-worker-2.new.self.items c.args.passes.items worker c.remove-in-loop-worker-2.result
          c.loop-worker.invariant.passes first_pass refl c.push_reserved.ensures.items;
      left = omega (arith, ap length first, ap length first_pass, c.loop-worker.invariant.left);
      unasked = All-tail (λ net. g.N.Net.place net listener ≡ never_asked) c.remove.result c.remove.new.self.items
          (subst (All (λ net. g.N.Net.place net listener ≡ never_asked)) first c.loop-worker.invariant.unasked);
      doors = all_more (λ x. x.lane.door ≡ Unasked) c.loop-worker.workers.items c.push_reserved.new.self.items worker
          c.push_reserved.ensures.items c.loop-worker.invariant.doors c.over-lane.ensures.door;
      on_time = all_more (λ x. is_early x.lane.heard ≡ false) c.loop-worker.workers.items
          c.push_reserved.new.self.items worker
          c.push_reserved.ensures.items c.loop-worker.invariant.on_time c.over-lane.ensures.on_time;
      room = c.remove.ensures.capacity ∙ c.loop-worker.invariant.room;
      spare = c.push_reserved.ensures.capacity ∙ c.loop-worker.invariant.spare;
    }

pub returns-clause-nets : goal.returns-clause-nets
returns-clause-nets g c =
    nets_end _ c.loop-worker.more.items c.args.more.now.items c.loop-worker.invariant.nets
    (grind (
      arith,
      c.loop-worker.invariant.rest,
      c.loop-worker-test.false,
      c.len-count.ensures,
      c.loop-worker.auto.worker-end,
    ))

pub returns-clause-passes : goal.returns-clause-passes
returns-clause-passes g c =
    nets_end _ c.loop-worker.passes.items c.args.passes.items c.loop-worker.invariant.passes
    (grind (
      arith,
      c.loop-worker.invariant.rest,
      c.loop-worker.invariant.left,
      c.loop-worker-test.false,
      c.len-count.ensures,
      c.loop-worker.auto.worker-end,
    ))
