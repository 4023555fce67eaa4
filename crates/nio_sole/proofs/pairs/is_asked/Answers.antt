use Rattle.std.proofs.Common.{ap, sym, ◌∙◌}
use Rattle.nio_sole.proofs.Looked.{has_serial, looked_by_index}
use Rattle.nio_sole.proofs.pairs.is_asked.Goals as goal

pub returns-in-Some : goal.returns-in-Some
returns-in-Some c =
    ap (has_serial c.args.id.serial) c.in-Some.ensures.is
    ∙ sym (looked_by_index c.args.asked.now.keys c.args.id c.requires)

pub returns-in-None : goal.returns-in-None
returns-in-None c =
    ap (has_serial c.args.id.serial) c.in-None.ensures.is
    ∙ sym (looked_by_index c.args.asked.now.keys c.args.id c.requires)
