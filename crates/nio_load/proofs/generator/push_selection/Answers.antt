use Rattle.std.proofs.Common.{◌++◌, ◌∙◌, codes}
use Rattle.std.specs.Fmt.{decimal}
use Rattle.nio_load.proofs.Pushing.{pushed_three}
use Rattle.nio_load.proofs.generator.push_selection.Goals as goal
use Rattle.std.proofs.lemmas.Result.{on_ok_weaker}

pub returns : goal.returns
returns c =
    on_ok_weaker c.push_line-3.result (λ third.
    pushed_three c.args.text.now.items c.push_line.new.text.items c.push_line-2.new.text.items
    c.push_line-3.new.text.items
    (codes "t1 begin s0 now") (codes "t1 told s0 k" ++ decimal c.args.key ++ codes ":1") c.deref.result.now
    (codes "t1 unselect s0 k" ++ decimal c.args.key) c.deref-2.result.now
    c.in_ok-push_line.ensures c.in_ok-push_line-2.ensures (c.deref.ensures ∙ c.in_ok-format.ensures.ok) third
    (c.deref-2.ensures ∙ c.in_ok-format-2.ensures.ok))
    c.push_line-3.ensures
