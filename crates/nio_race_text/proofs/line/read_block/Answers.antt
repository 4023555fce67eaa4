use Rattle.std.proofs.Common.{None, Some, codes}
use Rattle.std.proofs.lemmas.Bool.Decides.{Decides-eqb}
use Rattle.std.proofs.lemmas.Slice.Eq.{strip_prefix_is}
use Rattle.nio_script.proofs.EntryTexts.{finds_none}
use Rattle.nio_race_text.proofs.Blocks.{uncut, no_block_behind, no_caller, no_selector, finds_block}
use Rattle.nio_race_text.proofs.line.read_block.Goals as goal

pub returns-in_err-caller : goal.returns-in_err-caller
returns-in_err-caller c =
    finds_none _ _ c.from_residual.ensures (uncut c.args.line.now c.in_err-caller.ensures.only)

pub returns-in_err-selector : goal.returns-in_err-selector
returns-in_err-selector c =
    let cut = c.in_ok-caller in
    finds_none _ _ c.from_residual-in_err-selector.ensures
    (no_block_behind c.args.line.now cut.caller.now cut.rest.now cut.ensures.only
    (strip_prefix_is Decides-eqb cut.rest.now (codes "block ") None c.in_err-selector.ensures.cases))

pub returns-in_err-caller-2 : goal.returns-in_err-caller-2
returns-in_err-caller-2 c =
    let cut = c.in_ok-caller in
    finds_none _ _ c.from_residual-in_err-caller-2.ensures
    (no_caller c.args.line.now cut.caller.now cut.rest.now cut.ensures.only c.in_err-caller-2.ensures)

pub returns-in_err-selector-2 : goal.returns-in_err-selector-2
returns-in_err-selector-2 c =
    let cut = c.in_ok-caller in
    let word = c.in_ok-selector.selector in
    finds_none _ _ c.from_residual-in_err-selector-2.ensures
    (no_selector c.args.line.now cut.caller.now cut.rest.now cut.ensures.only word.now
    (strip_prefix_is Decides-eqb cut.rest.now (codes "block ") (Some word) c.in_ok-selector.ensures.cases)
    c.in_err-selector-2.ensures)

pub returns : goal.returns
returns c =
    let cut = c.in_ok-caller in
    let word = c.in_ok-selector.selector in
    finds_block c.args.line.now cut.caller.now cut.rest.now cut.ensures.only word.now
    (strip_prefix_is Decides-eqb cut.rest.now (codes "block ") (Some word) c.in_ok-selector.ensures.cases)
    c.in_ok-caller-2.caller c.in_ok-selector-2.selector cut.ensures.found
    c.in_ok-caller-2.ensures c.in_ok-selector-2.ensures
