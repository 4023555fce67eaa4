use Rattle.std.proofs.Common.{◌∙◌}
use Rattle.nio_script.proofs.Writing.{writes_whole}
use Rattle.nio_script.proofs.output.write_out.Goals as goal

pub returns-in_default-clause-err : goal.returns-in_default-clause-err
returns-in_default-clause-err g c =
    writes_whole g.K.Sink _ _ c.args.bytes.now (c.flush.ensures.kept ∙ c.in_ok-write_all.ensures.ok)
