use Rattle.nio_plain.specs.declared.rules.Rules.TheVariants.{First, Now}
use Rattle.nio_script.proofs.LegalHistory.{history_is_legal}
use Rattle.nio_script.proofs.laws.history_law.Goals as goal

pub returns-clause-now : goal.returns-clause-now
returns-clause-now c = λ l text calls script. history_is_legal Now l text calls script (λ i default within. tt)

pub returns-clause-first : goal.returns-clause-first
returns-clause-first c = history_is_legal First
