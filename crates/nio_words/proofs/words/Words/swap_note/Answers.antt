use Rattle.std.proofs.Common.{arith}
use Rattle.nio_words.proofs.Notes.{swap_note_moves}
use Rattle.nio_words.proofs.words.Words.swap_note.Goals as goal

pub step-requires : goal.step-requires
step-requires c = (
  c.requires.ready,
  (
    swap_note_moves _ c.args.me c.args.s c.args.i c.args.att c.requires.key (omega arith),
    λ _. (c.requires.key, c.requires.pinned),
  ),
)
