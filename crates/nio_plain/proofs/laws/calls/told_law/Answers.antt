use Rattle.nio_plain.proofs.CallLawsMarks.{only_told_bits_are_selected, bits_are_told_and_looked_for}
use Rattle.nio_plain.proofs.laws.calls.told_law.Goals as goal

pub returns-clause-only : goal.returns-clause-only
returns-clause-only c = only_told_bits_are_selected

pub returns-clause-bits : goal.returns-clause-bits
returns-clause-bits c = bits_are_told_and_looked_for
