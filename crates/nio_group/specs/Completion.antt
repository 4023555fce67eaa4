-- What contracts see of a job and of a completion.
use Rattle.std.specs.Prelude.{ℕ}
use Rattle.nio_base.specs.declared.numbers.OpNo.{OpNo}
use Rattle.nio_base.specs.declared.numbers.GChan.{GChan}
use Rattle.nio_base.specs.declared.group.OpKind.{OpKind}
use Rattle.nio_base.specs.declared.group.Finished.{Finished}

-- a pending operation: its number, its channel, its kind and its length
pub record JobFields : Type 0 where
  pub op : OpNo
  pub chan : GChan
  pub kind : OpKind
  pub len : ℕ

-- a completion: its operation's number, channel and kind, and its result
pub record CompletionFields : Type 0 where
  pub op : OpNo
  pub chan : GChan
  pub kind : OpKind
  pub finished : Finished
