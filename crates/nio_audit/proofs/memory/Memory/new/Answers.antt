use Rattle.nio_audit.proofs.Knowing.{same_knowledge}
use Rattle.nio_audit.proofs.memory.Memory.new.Goals as goal

pub returns : goal.returns
returns c = same_knowledge c.new.ensures c.new-2.ensures c.new-3.ensures c.new-4.ensures
