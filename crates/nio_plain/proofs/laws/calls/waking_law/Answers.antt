use Rattle.nio_plain.proofs.CallLawsWaking.{only_waking_calls_wake}
use Rattle.nio_plain.proofs.laws.calls.waking_law.Goals as goal

pub returns : goal.returns
returns c = only_waking_calls_wake
