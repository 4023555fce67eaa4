use Rattle.std.proofs.Common.{sym, subst, arith}
use Rattle.nio_words.specs.Passes.{IsPassOf}
use Rattle.nio_words.specs.declared.words.Pass.{Pass}
use Rattle.nio_race.proofs.SetupKeeps.{setup-kept}
use Rattle.nio_race.proofs.setup.set_up.Goals as goal

pub make_lines-requires-clause-set_up : goal.make_lines-requires-clause-set_up
make_lines-requires-clause-set_up c =
    record { stands = c.in_ok-desk.ensures.stands; set_up = c.in_ok-desk.ensures.none }

pub join-requires-clause-other : goal.join-requires-clause-other
join-requires-clause-other c =
    let stands = c.in-Err.ensures.stands in
    subst (λ (p : Pass). IsPassOf c.args.w.now p) (sym c.into_pass.ensures)
    (stands.ready (record { 0 = 0 }) (omega (arith, stands.fit.some_callers))).pass

pub returns-in-Ok-clause-pipes : goal.returns-in-Ok-clause-pipes
returns-in-Ok-clause-pipes c =
    setup-kept c.args.w.now c.make_lines.new.d c.args.setup.now c.in-Ok.ensures.set_up
