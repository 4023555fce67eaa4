use Rattle.std.proofs.Common.{refl}
use Rattle.nio_audit.proofs.Owing.{due_of-ended, due_of-put}
use Rattle.std.proofs.lemmas.Result.{on_ok_weaker}
use Rattle.nio_audit.proofs.dues.Dues.learn.Goals as goal

pub returns-in-GiveTurn-clause-due : goal.returns-in-GiveTurn-clause-due
returns-in-GiveTurn-clause-due c = λ me.
    rw c.in-GiveTurn.is (on_ok_weaker _ (due_of-ended _ _ _ _ c.requires refl) c.set.ensures)

pub returns-in-PutFree-clause-due : goal.returns-in-PutFree-clause-due
returns-in-PutFree-clause-due c = λ me.
    rw c.in-PutFree.is (on_ok_weaker _ (due_of-put _ _ _ _ refl) c.set-in-PutFree.ensures)
