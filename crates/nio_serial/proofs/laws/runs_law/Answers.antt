use Rattle.nio_serial.proofs.Histories.{call-runs-amount, line-runs-amount, pass-lines-amount, told-runs-amount}
use Rattle.nio_serial.proofs.laws.runs_law.Goals as goal

pub returns : goal.returns
returns c =
    record { calls = call-runs-amount; told = told-runs-amount; lines = line-runs-amount; only = pass-lines-amount }
