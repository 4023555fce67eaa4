use Rattle.std.proofs.Common.{◌≡◌, ℕ, ◌+◌, ◌*◌, ◌≤◌, length, get_or}
use Rattle.nio_steps.specs.Calls.{PartClause}
use Rattle.nio_steps.specs.Plan.{reply, ◌>>=◌}
use Rattle.nio_steps.specs.Sweeps.{sweep_to}
use Rattle.nio_words.specs.Views.{view}
use Rattle.nio_select.specs.Begun.{HasBegun}
use Rattle.nio_select.specs.KeyChanges.{TakesNote}
use Rattle.nio_select.specs.KeyKept.{keys_from}
use Rattle.nio_select.specs.ToldSlots.{mark_at}
use Rattle.nio_select.proofs.NotedWords.{IsMarkedTo}
use Rattle.nio_select.proofs.SetBits.{AreLeft}
use Rattle.nio_select.proofs.telling.mark_noted.Given as goal

abbrev pub invariant-loop-j : goal.invariant-loop-j
invariant-loop-j g l = record {
  begun : HasBegun l.w l.p l.me l.sel;
  listed : TakesNote g.L.Lister.noted (keys_from 0 l.slots) l.me (view l.w l.fn.p) (view l.w l.p) l.fn.lister l.lister;
  none : l.count ≡ 0 → l.lister ≡ l.fn.lister;
  few : l.count ≤ 64 * l.j;
  marked : IsMarkedTo (64 * l.j) l.j l.fn.noted l.noted;
  steps : PartClause l.me (sweep_to (64 * length l.fn.noted.words.items) 0 (mark_at l.sel l.slots l.fn.noted) 0)
      (view l.w l.fn.p) (view l.w l.p)
      (sweep_to (64 * length l.fn.noted.words.items) (64 * l.j) (mark_at l.sel l.slots l.fn.noted) l.count >>= reply);
}

abbrev pub invariant-loop-rest : goal.invariant-loop-rest
invariant-loop-rest g l = record {
  passed : ℕ;
  left : AreLeft (get_or l.fn.noted.words.items l.j 0) passed l.rest;
  begun : HasBegun l.w l.p l.me l.sel;
  listed : TakesNote g.L.Lister.noted (keys_from 0 l.slots) l.me (view l.w l.fn.p) (view l.w l.p) l.fn.lister l.lister;
  none : l.count ≡ 0 → l.lister ≡ l.fn.lister;
  few : l.count ≤ 64 * l.j + passed;
  marked : IsMarkedTo (64 * l.j + passed) l.j l.fn.noted l.noted;
  steps : PartClause l.me (sweep_to (64 * length l.fn.noted.words.items) 0 (mark_at l.sel l.slots l.fn.noted) 0)
      (view l.w l.fn.p) (view l.w l.p)
      (sweep_to (64 * length l.fn.noted.words.items) (64 * l.j + passed) (mark_at l.sel l.slots l.fn.noted) l.count
      >>= reply);
}

abbrev pub decreases-loop-rest : goal.decreases-loop-rest
decreases-loop-rest g l = l.rest
