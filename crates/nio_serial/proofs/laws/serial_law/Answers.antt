use Rattle.nio_serial.proofs.Serial.{serial-lines-amount}
use Rattle.nio_serial.proofs.laws.serial_law.Goals as goal

pub returns : goal.returns
returns c = serial-lines-amount
