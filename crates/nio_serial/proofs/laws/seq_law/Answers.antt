use Rattle.nio_serial.proofs.Sequences.{sequences_stand, next_call_is_documented, sequences_grow, nothing_is_sequence}
use Rattle.nio_serial.proofs.Sequences.{reopening_is_documented, sequences_are_scripts}
use Rattle.nio_serial.proofs.laws.seq_law.Goals as goal

pub returns : goal.returns
returns c =
    record {
      stands = sequences_stand;
      next = next_call_is_documented;
      reopening = reopening_is_documented;
      grows = sequences_grow;
      nothing = nothing_is_sequence;
      scripts = sequences_are_scripts;
    }
