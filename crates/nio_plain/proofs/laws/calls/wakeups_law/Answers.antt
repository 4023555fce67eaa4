use Rattle.nio_plain.proofs.CallLawsWakeups.{wakeups_are_pending, further_wakeups_change_nothing, wakeups_have_replies}
use Rattle.nio_plain.proofs.CallLawsWakeups.{wakeups_act_as_one}
use Rattle.nio_plain.proofs.laws.calls.wakeups_law.Goals as goal

pub returns-clause-pending : goal.returns-clause-pending
returns-clause-pending c = wakeups_are_pending

pub returns-clause-further : goal.returns-clause-further
returns-clause-further c = further_wakeups_change_nothing

pub returns-clause-replied : goal.returns-clause-replied
returns-clause-replied c = wakeups_have_replies

pub returns-clause-one : goal.returns-clause-one
returns-clause-one c = wakeups_act_as_one
