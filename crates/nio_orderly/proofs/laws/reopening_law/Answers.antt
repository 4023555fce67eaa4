use Rattle.nio_orderly.proofs.ClosersKeys.{closers_cancel_their_own}
use Rattle.nio_orderly.proofs.Reopening.{keys_keep_their_channel, selections_keep_channels}
use Rattle.nio_orderly.proofs.Reopening.{enrolled_keys_are_of_the_channel}
use Rattle.nio_orderly.proofs.laws.reopening_law.Goals as goal

pub returns : goal.returns
returns c = record {
  keys = keys_keep_their_channel;
  selections = selections_keep_channels;
  enrolled = enrolled_keys_are_of_the_channel;
  closers = closers_cancel_their_own;
}
