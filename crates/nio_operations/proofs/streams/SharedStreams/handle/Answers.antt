use Rattle.nio_operations.proofs.HandlingLemmas.{handles_counts, handles_goes_on}
use Rattle.nio_operations.proofs.streams.SharedStreams.handle.Goals as goal

pub returns-clause-pass : goal.returns-clause-pass
returns-clause-pass g c =
    handles_goes_on _ _ _ _ _ _ _ c.handle_batch-count.ensures.handles c.handle_batch-count.ensures.pass

pub returns-clause-counted : goal.returns-clause-counted
returns-clause-counted g c = handles_counts _ _ _ _ _ _ c.handle_batch-count.ensures.handles
