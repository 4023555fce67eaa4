use Rattle.nio_c.proofs.Visiting.{may_enter}
use Rattle.nio_c.proofs.places.enter.Goals as goal

pub load_new_seat-word-requires : goal.load_new_seat-word-requires
load_new_seat-word-requires c =
    (c.requires, may_enter c.args.places.now.shared.key c.args.places.now.shared.table_id.slots)
