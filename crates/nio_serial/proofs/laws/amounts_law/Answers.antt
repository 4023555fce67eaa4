use Rattle.nio_serial.proofs.Histories.{calls-amount, told-amounts-by-index, lines-amount, lacking-leaves}
use Rattle.nio_serial.proofs.laws.amounts_law.Goals as goal

pub returns : goal.returns
returns c =
    record { calls = calls-amount; told = told-amounts-by-index; lines = lines-amount; lacking = lacking-leaves }
