use Rattle.std.proofs.Common.{rules, tests}
use Rattle.std.proofs.lemmas.Iterator.{IsFirst-from_position, YieldsList-from_slice}
use Rattle.nio_race_text.proofs.GoCut.{IsGo, IsOther, all_other, cut_here}
use Rattle.nio_race_text.proofs.lines.cut_at_go.Goals as goal

pub returns-in_err-place : goal.returns-in_err-place
returns-in_err-place c =
    let first =
    IsFirst-from_position _ _ _ IsGo IsOther c.in_err-place.ensures.ran (YieldsList-from_slice c.args.lines.now cc)
    (λ x q k. search (rules, tests)) (λ x q k. search (rules, tests)) in
    rw c.from_residual.ensures (all_other c.args.lines.now first)

pub returns : goal.returns
returns c =
    let first =
    IsFirst-from_position _ _ _ IsGo IsOther c.in_ok-place.ensures.ran (YieldsList-from_slice c.args.lines.now cc)
    (λ x q k. search (rules, tests)) (λ x q k. search (rules, tests)) in
    cut_here c.args.lines.now c.in_ok-place.place first.0 first.1 first.2
