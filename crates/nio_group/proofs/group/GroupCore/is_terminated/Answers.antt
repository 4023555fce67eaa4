use Rattle.std.proofs.Common.{◌∙◌, sym}
use Rattle.std.proofs.lemmas.Bool.{false≢true, eqb-true}
use Rattle.nio_group.proofs.TerminatedLemmas.{terminated-when}
use Rattle.nio_group.proofs.group.GroupCore.is_terminated.Goals as goal
use Rattle.nio_group.proofs.group.GroupCore.is_terminated.Goals.{then-self, else-self}

pub returns-then-self-eq0 : goal.returns-then-self-eq0
returns-then-self-eq0 c =
    let i = c.self.inside in
    elim c.if-self.branch [
      | then-self w ↦
          rw (c.in_flight.ensures, ← c.self.view_is)
          (terminated-when {f = i.flight} {cs = i.channels.items} {ps = i.pending.items} {o = i.open_channels}
          {r = i.channels.cap} {r' = i.pending.cap} {sh = i.shut} {l = i.limits} c.self.invariant w.if-self.true
          (eqb-true c.self.inside.open_channels 0 (sym w.value-is ∙ c.if-self-eq0.true)))
      | else-self w ↦ absurd (false≢true (sym w.if-self.false ∙ sym w.value-is ∙ c.if-self-eq0.true))
    ]
