use Rattle.std.proofs.Common.{[], inl, refl}
use Rattle.nio_script.proofs.Made.{makes_none}
use Rattle.nio_load.proofs.Calls.{generated_calls, generated_script}
use Rattle.nio_load.proofs.run.run_load.Goals as goal

pub returns-in_default-clause-memory : goal.returns-in_default-clause-memory
returns-in_default-clause-memory g c = λ is. record {
  calls = generated_calls c.args.rounds;
  script = generated_script c.args.rounds;
  made = [];
  stops = inl (makes_none g.Y.System c.args.system.now (generated_calls c.args.rounds));
  unwritten = refl;
}
