use Rattle.std.proofs.Common.{[], Err, refl}
use Rattle.std.proofs.lemmas.Result.{err_from_is_err_and}
use Rattle.nio_history.proofs.PassViews.{acts_nothing}
use Rattle.nio_steps.proofs.CallLaws.{call_of_acts}
use Rattle.nio_steps.specs.PipeCalls.{MakesPipe, pipe_plan}
use Rattle.nio_steps.specs.declared.refusal.PipeMakeError.TheVariants.{Memory}
use Rattle.nio_words.specs.Passes.{limits_of}
use Rattle.nio_words.specs.Views.{view}
use Rattle.nio_pipe.proofs.making.pipe.Goals as goal

pub returns-in_err-rings-clause-call : goal.returns-in_err-rings-clause-call
unfolding pipe_plan
returns-in_err-rings-clause-call c =
    let p = err_from_is_err_and c.from_residual.result c.from_residual.ensures.1 in
    rw (p.1, p.2)
    (call_of_acts (MakesPipe (limits_of c.args.w.now)) [] (Err Memory)
    (acts_nothing c.args.me (view c.args.w.now c.args.p.now) c.requires.ready.pass.legal) refl)
