use Rattle.std.proofs.Common.{◌≡◌, ◌++◌, length, take, drop, refl, ap, ◌∙◌, sym, subst, arith, length-take}
use Rattle.std.proofs.lemmas.List.{take-append-le}
use Rattle.nio_script.specs.declared.input.TheConstants.{LONGEST_INPUT}
use Rattle.nio_script.proofs.Reading.{HasRead, stops_past, stops_within, has_read_more, lacks_memory}
use Rattle.nio_script.proofs.input.read_input.Goals as goal

pub returns-then-count-len-clause-too_long : goal.returns-then-count-len-clause-too_long
returns-then-count-len-clause-too_long g c =
    let piece = take c.in-Ok.count c.read.new.into in
    let counted : length piece ≡ c.in-Ok.count = omega
    (arith, length-take c.in-Ok.count c.read.new.into, c.in-Ok.ensures.within) in
    let held = c.loop-count.input.ok.0 in
    let limit : LONGEST_INPUT ≡ 16777216 = refl in
    let room = c.read.auto.into ∙ length-take c.min-room.result c.loop-count.piece in
    stops_past g.S.Source _ _ _ c.loop-count.input.items piece c.loop-count.invariant c.in-Ok.ensures.next _ refl
    (omega (arith, c.in-Ok.ensures.within)) (omega arith)

pub loop-count-preserved : goal.loop-count-preserved
loop-count-preserved g c =
    let piece = take c.in-Ok.count c.read.new.into in
    let counted : length piece ≡ c.in-Ok.count = omega
    (arith, length-take c.in-Ok.count c.read.new.into, c.in-Ok.ensures.within) in
    let held = c.loop-count.input.ok.0 in
    let limit : LONGEST_INPUT ≡ 16777216 = refl in
    let more = has_read_more g.S.Source _ _ _ c.loop-count.input.items piece c.loop-count.invariant c.in-Ok.ensures.next
    (omega arith) c.in-Ok.ensures.cause.still in
    let taken = take-append-le c.in-Ok.count c.read.new.into (drop c.min-room.result c.loop-count.piece)
    c.in-Ok.ensures.within in
    subst (HasRead g.S.Source _ _)
    (sym (c.in_ok-extend_from_slice.ensures.items ∙ ap (λ xs. c.loop-count.input.items ++ xs) taken)) more

pub returns-in_err-extend_from_slice-clause-too_long : goal.returns-in_err-extend_from_slice-clause-too_long
returns-in_err-extend_from_slice-clause-too_long g c =
    let piece = take c.in-Ok.count c.read.new.into in
    let counted : length piece ≡ c.in-Ok.count = omega
    (arith, length-take c.in-Ok.count c.read.new.into, c.in-Ok.ensures.within) in
    let held = c.loop-count.input.ok.0 in
    let limit : LONGEST_INPUT ≡ 16777216 = refl in
    stops_within g.S.Source _ _ _ c.loop-count.input.items piece c.loop-count.invariant c.in-Ok.ensures.next _
    (lacks_memory _ c.from_residual-in_err-extend_from_slice.ensures.1) (omega arith)
