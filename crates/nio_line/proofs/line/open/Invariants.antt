use Rattle.crossbeam_channel.specs.Ends.{sends_on, ruled_capacity}
use Rattle.nio_line.specs.Hands.{new_hand}
use Rattle.nio_line.specs.declared.hand.Part.TheVariants as part
use Rattle.nio_line.proofs.line.open.Given as goal

abbrev pub ghosts-another : goal.ghosts-another
ghosts-another g a = record {
  left = λ v. new_hand part.Sends (ruled_capacity (sends_on a.self.now));
  right = λ v. new_hand part.Receives (ruled_capacity (sends_on a.self.now));
}
