use Rattle.std.proofs.Common.{All, sym, ◌∙◌, subst}
use Rattle.std.specs.Prelude.{Vec, IfOk}
use Rattle.std.specs.declared.alloc.Global.{Global}
use Rattle.std.proofs.lemmas.Result.{IfOk-weaker}
use Rattle.nio_sole.specs.Stands.{pipes_of, progress_of}
use Rattle.nio_sole.specs.declared.desk.OwnedPipe.{OwnedPipe}
use Rattle.nio_words.specs.Passes.{limits_of, seen}
use Rattle.nio_race.proofs.PartOff.{all_endless, all_have_racers, all_set_off_with, passes_stay}
use Rattle.nio_race.specs.Ends.{HasRacers, HaveParted}
use Rattle.nio_race.specs.SetOff.{AreSetOff}
use Rattle.nio_race.specs.declared.ends.Owners.{Owners}
use Rattle.nio_race.proofs.set_off.set_off.Goals as goal

pub part_pipes-requires-clause-endless : goal.part_pipes-requires-clause-endless
part_pipes-requires-clause-endless c =
    all_endless c.args.w.now (seen c.args.d.now.pass) (progress_of c.args.d.now) (limits_of c.args.w.now).callers
    c.set_off_all.new.racers.items c.in_ok-set_off_all.ensures.set_off

pub part_pipes-requires-clause-racers : goal.part_pipes-requires-clause-racers
part_pipes-requires-clause-racers c =
    subst (λ (pipes : Vec OwnedPipe Global). All (HasRacers c.set_off_all.new.racers.items) pipes.items)
    (sym (c.replace-pipes.ensures.value ∙ c.set_off_all.ensures.pipes))
    (all_have_racers c.args.w.now (seen c.args.d.now.pass) (progress_of c.args.d.now) c.set_off_all.new.racers.items
    c.args.d.now.pipes.items c.in_ok-set_off_all.ensures.set_off c.requires.pipes)

pub returns-clause-parted : goal.returns-clause-parted
returns-clause-parted c =
    subst (λ (pipes : Vec OwnedPipe Global). IfOk c.part_pipes.result
    (λ owners. HaveParted c.part_pipes.new.racers.items owners.items (pipes_of pipes.items)))
    (c.replace-pipes.ensures.value ∙ c.set_off_all.ensures.pipes) c.part_pipes.ensures.parted

pub returns-clause-set_off : goal.returns-clause-set_off
returns-clause-set_off c =
    IfOk-weaker c.part_pipes.result
    (λ (owners : Vec Owners Global).
    HaveParted c.part_pipes.new.racers.items owners.items (pipes_of c.args.d.now.pipes.items))
    (λ (owners : Vec Owners Global). AreSetOff c.args.w.now (seen c.args.d.now.pass) (progress_of c.args.d.now)
    (limits_of c.args.w.now).callers c.part_pipes.new.racers.items)
    (λ owners parted. all_set_off_with c.args.w.now c.args.d.now c.set_off_all.new.racers.items
    c.part_pipes.new.racers.items owners.items c.requires.stands c.requires.pipes
    c.in_ok-set_off_all.ensures.set_off c.part_pipes.ensures.rest parted)
    (subst (λ (pipes : Vec OwnedPipe Global). IfOk c.part_pipes.result
    (λ owners. HaveParted c.part_pipes.new.racers.items owners.items (pipes_of pipes.items)))
    (c.replace-pipes.ensures.value ∙ c.set_off_all.ensures.pipes) c.part_pipes.ensures.parted)

pub returns-clause-racers : goal.returns-clause-racers
returns-clause-racers c =
    passes_stay c.args.w.now c.set_off_all.new.racers.items c.part_pipes.new.racers.items c.part_pipes.ensures.rest
    c.set_off_all.ensures.racers
