use Rattle.std.proofs.Common.{sym, ap, ◌∙◌}
use Rattle.nio_link.specs.Places.{is_there}
use Rattle.nio_checked.proofs.Changing.{kept_closed, told_kept_away}
use Rattle.nio_checked.proofs.Keeping.{ready_none}
use Rattle.nio_checked.proofs.calls.close.Goals as goal

pub returns-then-is_there-clause-checked : goal.returns-then-is_there-clause-checked
returns-then-is_there-clause-checked g c = record {
  kept = kept_closed (g.N.Net.place c.args.net.now) (g.N.Net.place c.close.new.self) c.args.kept.now c.keep.new.kept
      c.args.chan c.requires.kept (ap is_there (sym c.standing_of.ensures) ∙ sym c.if-is_there.ensures)
      c.close.ensures.places c.close.ensures.place c.keep.ensures;
  ready = rw c.tell_nothing.ensures (ready_none (g.N.Poller.ready c.args.net.now) (g.N.Poller.ready c.close.new.self)
      c.args.told.now c.args.chan.number c.close.ensures.ready_else c.requires.ready);
}

pub returns-else-is_there-clause-told : goal.returns-else-is_there-clause-told
returns-else-is_there-clause-told g c =
    told_kept_away (g.N.Net.place c.args.net.now) c.args.kept.now c.args.told.now c.args.chan c.requires.kept
    (ap is_there (sym c.standing_of.ensures) ∙ sym c.if-is_there.ensures)
