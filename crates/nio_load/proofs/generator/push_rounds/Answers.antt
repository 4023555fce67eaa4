use Rattle.std.proofs.Common.{◌+◌, ◌*◌, ◌/◌, ◌%◌, ◌++◌, ◌∙◌, ap, arith}
use Rattle.nio_load.specs.Generator.{round_lines, selection_lines, text_of, wakeup_lines}
use Rattle.nio_load.proofs.Numbers.{number_first, number_next, number_small}
use Rattle.nio_load.proofs.Pushing.{pushed_both, pushed_more, pushed_none}
use Rattle.nio_load.proofs.generator.push_rounds.Goals as goal

pub loop-round-init : goal.loop-round-init
loop-round-init c = (number_first, pushed_none round_lines c.args.text.now.items)

pub overflow_mul-number : goal.overflow_mul-number
overflow_mul-number c = let small = number_small c.loop-round.round in let is =
    c.loop-round.invariant.0 in omega (arith, small, is)

pub overflow_add-number : goal.overflow_add-number
overflow_add-number c = let small = number_small c.loop-round.round in let is =
    c.loop-round.invariant.0 in omega (arith, small, is)

pub loop-round-preserved : goal.loop-round-preserved
loop-round-preserved c =
    let r = c.loop-round.round in
    let next = ap (λ n. (n * 1103515245 + 12345) % 2147483648) c.loop-round.invariant.0 ∙ number_next r in (
      next,
      pushed_more round_lines c.args.text.now.items c.loop-round.text.items c.push_selection.new.text.items r
          c.loop-round.invariant.1
          (pushed_both c.loop-round.text.items c.push_wakeup.new.text.items c.push_selection.new.text.items
          (wakeup_lines r) _
          c.in_ok-push_wakeup.ensures
          (c.in_ok-push_selection.ensures
          ∙ ap (λ n. c.push_wakeup.new.text.items ++ text_of (selection_lines (n / 65536 % 64))) next)),
    )
