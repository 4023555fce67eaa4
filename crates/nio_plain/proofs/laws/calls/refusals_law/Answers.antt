use Rattle.nio_plain.proofs.CallLawsRefusals.{refusals_change_nothing}
use Rattle.nio_plain.proofs.laws.calls.refusals_law.Goals as goal

pub returns : goal.returns
returns c = refusals_change_nothing
