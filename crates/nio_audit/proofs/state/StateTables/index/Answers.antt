use Rattle.std.proofs.Common.{◌≡◌, Bool}
use Rattle.nio_audit.proofs.state.StateTables.index.Goals as goal
use Rattle.nio_history.specs.declared.found.IndexWord.{IndexWord}
use Rattle.nio_history.specs.declared.found.Stage.{Stage}

same_index : {k k' : Stage} {b b' : Bool} → k ≡ k' → b ≡ b'
    → ◌≡◌ {A = IndexWord} (record { stage = k; pinned = b }) (record { stage = k'; pinned = b' })
same_index p q = cc

pub returns : goal.returns
returns c = λ due. same_index c.get.ensures (c.is_pinned.ensures due)
