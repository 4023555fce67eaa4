use Rattle.nio_audit.proofs.Owing.{due_of-new}
use Rattle.nio_audit.proofs.dues.Dues.new.Goals as goal

pub returns-clause-due : goal.returns-clause-due
returns-clause-due c = due_of-new _ c.new.ensures c.new-2.ensures
