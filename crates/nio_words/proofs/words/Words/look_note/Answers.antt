use Rattle.nio_words.proofs.Notes.{look_note_moves}
use Rattle.nio_words.proofs.words.Words.look_note.Goals as goal

pub step-requires : goal.step-requires
step-requires c = (
  c.requires.ready,
  (look_note_moves _ c.args.me c.args.s c.args.i c.requires.key, λ _. (c.requires.key, c.requires.pinned)),
)
