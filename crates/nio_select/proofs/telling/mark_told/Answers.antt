use Rattle.nio_words.specs.Views.{view}
use Rattle.nio_select.proofs.KeyChanges.{nothing_changed}
use Rattle.nio_select.proofs.telling.mark_told.Goals as goal

pub returns-then-eq-clause-marked : goal.returns-then-eq-clause-marked
returns-then-eq-clause-marked c = λ asked.
    nothing_changed asked c.args.me (view c.args.w.now c.args.p.now) c.requires.begun.ready.pass.legal
