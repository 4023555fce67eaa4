use Rattle.nio_plain.specs.Seq.Listing.{selected_call}
use Rattle.nio_plain.proofs.plain.Plain.selected.Goals as goal

pub returns : goal.returns
unfolding selected_call
returns c = c.set_of.ensures
