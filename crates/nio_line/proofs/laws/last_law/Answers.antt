use Rattle.nio_line.proofs.Last.{last_is_all}
use Rattle.nio_line.proofs.laws.last_law.Goals as goal

pub returns : goal.returns
returns g c = λ received sent last once prefix. last_is_all last received sent once prefix
