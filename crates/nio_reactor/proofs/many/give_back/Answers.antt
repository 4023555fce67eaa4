use Rattle.std.proofs.Common.{◌<◌, ◌++◌, [], ◌∷◌, length, map, refl, sym, ap, ◌∙◌, arith}
use Rattle.std.proofs.lemmas.List.{length-map}
use Rattle.nio_serve.proofs.Watching.{longer}
use Rattle.nio_reactor.proofs.Gathered.{all_gathered, begins_gathering, first_pass, goes_on_gathering}
use Rattle.nio_reactor.proofs.Lists.{drop_first, first_taken, mapped_at, moved_back, nets_end}
use Rattle.nio_reactor.proofs.Received.{settled_all, settled_one}
use Rattle.nio_reactor.proofs.many.give_back.Goals as goal

pub join-requires-clause-pass : goal.join-requires-clause-pass
join-requires-clause-pass g c = c.loop-number.invariant.gathering.pass_is

pub join-requires-clause-other : goal.join-requires-clause-other
join-requires-clause-other g c =
    let some : 0 < length c.loop-number.workers.items
    = grind (arith, c.loop-number.invariant.rest, c.loop-number-test.true, c.len-number-end.ensures) in
    first_pass (λ x. x.pass) c.args.words.now c.args.pass.now c.loop-number.pass c.args.workers.items
    c.loop-number.workers.items c.remove-lane.new.self.items c.remove-lane.result c.loop-number.invariant.gathering
    (first_taken c.loop-number.workers.items c.remove-lane.new.self.items c.remove-lane.result some
    c.remove-lane.ensures.value c.remove-lane.ensures.by_index.2)

pub settle-requires-clause-entry : goal.settle-requires-clause-entry
settle-requires-clause-entry g c κs within =
    let some : 0 < length c.loop-number.entries.items
    = grind (
      arith,
      c.loop-number.invariant.rest,
      c.loop-number.invariant.lines,
      c.loop-number-test.true,
      c.len-number-end.ensures,
    ) in
    let first = first_taken c.loop-number.entries.items c.remove.new.self.items c.remove.result some
    c.remove.ensures.value c.remove.ensures.by_index.2 in
    mapped_at (λ e. e.line) c.args.entries.items g.K.Lines.lines c.loop-number.number c.remove.result
    (drop_first c.args.entries.items c.remove.new.self.items c.loop-number.number c.remove.result
    (sym c.loop-number.invariant.entries_are ∙ first)).0 c.requires.lines

pub settle-requires-clause-own : goal.settle-requires-clause-own
settle-requires-clause-own g c κs within =
    let some : 0 < length c.loop-number.workers.items
    = grind (arith, c.loop-number.invariant.rest, c.loop-number-test.true, c.len-number-end.ensures) in
    let first = first_taken c.loop-number.workers.items c.remove-lane.new.self.items c.remove-lane.result some
    c.remove-lane.ensures.value c.remove-lane.ensures.by_index.2 in
    c.requires.own c.loop-number.number c.remove-lane.result
    (drop_first c.args.workers.items c.remove-lane.new.self.items c.loop-number.number c.remove-lane.result
    (sym c.loop-number.invariant.workers_are ∙ first)).0

pub loop-number-init : goal.loop-number-init
loop-number-init g c = record {
  nets = ap (λ l. l ++ map (λ x. x.lane.net) c.args.workers.items) c.requires.none;
  count = ap length c.requires.none;
  rest = omega arith;
  lines = c.requires.entries;
  room = refl;
  gathering = begins_gathering (λ x. x.pass) c.args.words.now c.args.pass.now c.args.workers.items c.requires.pass
      c.requires.passes;
  workers_are = refl;
  entries_are = refl;
  settled = λ v x entry less at_x at_entry. absurd (omega (arith, less));
}

pub loop-number-preserved : goal.loop-number-preserved
loop-number-preserved g c =
    let some : 0 < length c.loop-number.workers.items
    = grind (arith, c.loop-number.invariant.rest, c.loop-number-test.true, c.len-number-end.ensures) in
    let some_lines : 0 < length c.loop-number.entries.items = omega (arith, some, c.loop-number.invariant.lines) in
    let first = first_taken c.loop-number.workers.items c.remove-lane.new.self.items c.remove-lane.result some
    c.remove-lane.ensures.value c.remove-lane.ensures.by_index.2 in
    let first_line = first_taken c.loop-number.entries.items c.remove.new.self.items c.remove.result some_lines
    c.remove.ensures.value c.remove.ensures.by_index.2 in
    let its = drop_first c.args.workers.items c.remove-lane.new.self.items c.loop-number.number c.remove-lane.result
    (sym c.loop-number.invariant.workers_are ∙ first) in
    let its_line = drop_first c.args.entries.items c.remove.new.self.items c.loop-number.number c.remove.result
    (sym c.loop-number.invariant.entries_are ∙ first_line) in
    let more = longer c.loop-number.more.items c.push_reserved.new.self.items c.settle.result
    c.push_reserved.ensures.items in
    record {
      nets = moved_back (λ x. x.lane.net) c.loop-number.more.items c.push_reserved.new.self.items
          c.loop-number.workers.items
          c.remove-lane.new.self.items _ c.remove-lane.result c.loop-number.invariant.nets first
          (c.push_reserved.ensures.items ∙ ap (λ n. c.loop-number.more.items ++ n ∷ []) c.settle.ensures.net);
      count = omega (arith, more, c.loop-number.invariant.count);
      rest = omega (arith, ap length first, c.loop-number.invariant.rest);
      lines = omega (arith, ap length first, ap length first_line, c.loop-number.invariant.lines);
      room = c.push_reserved.ensures.capacity ∙ c.loop-number.invariant.room;
      gathering = goes_on_gathering (λ x. x.pass) c.args.words.now c.args.pass.now c.loop-number.pass c.join.new.p
          c.args.workers.items c.loop-number.workers.items c.remove-lane.new.self.items c.remove-lane.result
          c.loop-number.invariant.gathering first c.join.ensures;
      workers_are = its.1;
      entries_are = its_line.1;
      settled = settled_one (λ x. x.lane.line) c.loop-number.number c.args.workers.items c.args.entries.items
          c.remove-lane.result c.remove.result c.loop-number.invariant.settled its.0 its_line.0 c.settle.ensures.prefix;
    }

pub returns-clause-nets : goal.returns-clause-nets
returns-clause-nets g c =
    nets_end c.loop-number.more.items (map (λ x. x.lane.net) c.loop-number.workers.items) _
    c.loop-number.invariant.nets
    (length-map c.loop-number.workers.items (λ x. x.lane.net)
    ∙ grind (
      arith,
      c.loop-number.invariant.rest,
      c.loop-number-test.false,
      c.len-number-end.ensures,
      c.loop-number.auto.number-end,
    ))

pub returns-clause-pass : goal.returns-clause-pass
returns-clause-pass g c = c.loop-number.invariant.gathering.pass_is

pub returns-clause-own : goal.returns-clause-own
returns-clause-own g c = c.loop-number.invariant.gathering.own

pub returns-clause-each : goal.returns-clause-each
returns-clause-each g c =
    all_gathered (λ x. x.pass) c.args.words.now c.args.pass.now c.loop-number.pass c.args.workers.items
    c.loop-number.workers.items c.loop-number.invariant.gathering
    (grind (
      arith,
      c.loop-number.invariant.rest,
      c.loop-number-test.false,
      c.len-number-end.ensures,
      c.loop-number.auto.number-end,
    ))

pub returns-clause-settled : goal.returns-clause-settled
returns-clause-settled g c =
    settled_all (λ x. x.lane.line) c.loop-number.number c.args.workers.items c.args.entries.items
    c.loop-number.invariant.settled
    (grind (
      arith,
      c.loop-number.invariant.rest,
      c.loop-number-test.false,
      c.len-number-end.ensures,
      c.loop-number.auto.number-end,
    ))
