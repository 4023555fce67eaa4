use Rattle.std.proofs.Common.{All, IsFalse, List, rules, subst}
use Rattle.nio_sole.specs.Stands.{progress_of}
use Rattle.nio_words.specs.Passes.{limits_of, seen}
use Rattle.nio_race.proofs.PairsKnown.{parted_after}
use Rattle.nio_race.proofs.PartOff.{passes_stay}
use Rattle.nio_race.proofs.Running.{have_run, still_racers}
use Rattle.nio_race.specs.declared.racer.Racer.{Racer}
use Rattle.nio_race.proofs.run.run_callers.Goals as goal

pub returns-then-not-had_memory-clause-racers : goal.returns-then-not-had_memory-clause-racers
returns-then-not-had_memory-clause-racers g c =
    still_racers c.args.w.now c.args.lines.now c.set_off.new.racers.items c.run_threads.new.racers.items
    c.run_threads.ensures

pub join_ends-requires : goal.join_ends-requires
join_ends-requires g c =
    let w = c.args.w.now in
    let d = c.args.d.now in
    parted_after w c.args.lines.now (seen d.pass) (progress_of d) (limits_of w).callers c.set_off.new.racers.items
    c.run_threads.new.racers.items c.in_ok-owners.ensures.set_off c.run_threads.ensures
    (subst (λ (racers : List Racer). All (λ r. IsFalse r.lacks_memory) racers) c.deref-2.ensures.value
    (c.had_memory.ensures.0 (search rules)))
    c.in_ok-owners.owners.items c.in_ok-owners.ensures.parted.among

pub returns-clause-run : goal.returns-clause-run
returns-clause-run g c =
    have_run c.args.w.now c.args.d.now c.args.lines.now c.set_off.new.racers.items c.run_threads.new.racers.items
    c.join_ends.new.racers.items c.in_ok-owners.owners.items
    c.add_callers.result c.in_ok-owners.ensures.set_off c.in_ok-owners.ensures.parted c.run_threads.ensures
    (subst (λ (racers : List Racer). All (λ r. IsFalse r.lacks_memory) racers) c.deref-2.ensures.value
    (c.had_memory.ensures.0 (search rules))) c.join_ends.ensures.met c.join_ends.ensures.rest

pub returns-clause-racers : goal.returns-clause-racers
returns-clause-racers g c =
    passes_stay c.args.w.now c.run_threads.new.racers.items c.join_ends.new.racers.items c.join_ends.ensures.rest
    (still_racers c.args.w.now c.args.lines.now c.set_off.new.racers.items c.run_threads.new.racers.items
    c.run_threads.ensures)
