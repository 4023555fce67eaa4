use Rattle.std.proofs.Common.{ℕ, ◌<◌, IsTrue}
use Rattle.nio_audit.specs.Found.{is_clear_for}
use Rattle.nio_audit.specs.Remembering.{knowledge_of}
use Rattle.nio_audit.proofs.judge.Judge.is_clear_everywhere.Given as goal

abbrev pub invariant-loop-sel : goal.invariant-loop-sel
invariant-loop-sel l = (s : ℕ) → s < l.sel → IsTrue (is_clear_for (knowledge_of l.self.memory) l.me l.chan.0 s)
