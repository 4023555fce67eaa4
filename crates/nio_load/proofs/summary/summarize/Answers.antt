use Rattle.std.proofs.Common.{◌∙◌, List, ap, inl, inr, length, sym}
use Rattle.std.specs.Fmt.{decimal}
use Rattle.nio_language.specs.declared.call.ScriptCall.{ScriptCall}
use Rattle.nio_plain.proofs.Replying.{on_err}
use Rattle.nio_plain.specs.Answer.{left_from}
use Rattle.nio_script.proofs.Made.{makes_all}
use Rattle.nio_script.specs.Run.{StopsWithin}
use Rattle.nio_load.proofs.Summing.{if_ok_map, summary_pieces}
use Rattle.nio_load.proofs.summary.summarize.Goals as goal

pub returns-clause-summary : goal.returns-clause-summary
returns-clause-summary g c =
    let its = c.in_ok-tally.ensures in
    let tally = c.in_ok-tally.tally in
    let selections = sym its.selections in
    let updates = sym its.updates in
    rw (selections, updates)
    (if_ok_map c.format.result _ _
    (λ text is. is
    ∙ summary_pieces (decimal (length c.args.calls.now)) (decimal tally.selections) (decimal tally.updates))
    c.format.ensures.ok)

pub returns-clause-memory : goal.returns-clause-memory
returns-clause-memory g c =
    let y = g.Y.System in
    let before = c.args.system.now in
    let calls = c.args.calls.now in
    on_err c.format.result (
      calls,
      inl (makes_all y before c.tally_calls.new.system calls c.in_ok-tally.ensures.makes
          (c.in_ok-tally.ensures.left ∙ ap (λ st. left_from (y.rules before) (y.limits before) st calls)
          (sym c.requires.opening))),
    )

pub returns-in_err-tally-clause-memory : goal.returns-in_err-tally-clause-memory
returns-in_err-tally-clause-memory g c =
    let lacks = c.in_err-tally.ensures.memory in
    let stops : (made : List ScriptCall)
    × StopsWithin g.Y.System c.args.system.now c.tally_calls.new.system c.args.calls.now made
    = (lacks.0, inr lacks.1) in
    on_err c.from_residual.result stops
