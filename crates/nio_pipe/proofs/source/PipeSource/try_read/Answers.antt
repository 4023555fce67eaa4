use Rattle.std.proofs.lemmas.Result.{err_from_is_err_and}
use Rattle.nio_pipe.proofs.EndLemmas.{gives_nothing}
use Rattle.nio_pipe.proofs.source.PipeSource.try_read.Goals as goal

pub returns-in_err-check_open-clause-bytes : goal.returns-in_err-check_open-clause-bytes
returns-in_err-check_open-clause-bytes c =
    let p = err_from_is_err_and c.from_residual.result c.from_residual.ensures.1 in
    rw p.1 (gives_nothing c.args.self.now c.args.into.now)
