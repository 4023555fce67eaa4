use Rattle.std.proofs.Common.{◌+◌, ◌*◌, refl, ne_eqb, eq-eqb, arith}
use Rattle.nio_steps.proofs.CallLaws.{returned, left_ask, left_then, left_else, left_after, left_of_call}
use Rattle.nio_words.proofs.Views.{step_acts}
use Rattle.nio_words.specs.Passes.{limits_of}
use Rattle.nio_select.proofs.BegunListed.{listed_stays}
use Rattle.nio_select.proofs.TakenBits.{adds_after, adds_none}
use Rattle.nio_select.proofs.TakenOn.{takes_none, takes_later}
use Rattle.nio_select.proofs.touched.list_word.Goals as goal

pub list_taken-requires-clause-begun : goal.list_taken-requires-clause-begun
list_taken-requires-clause-begun c = listed_stays c.look_touched.ensures refl refl c.requires.begun

pub returns-then-look_touched-ne0-clause-call : goal.returns-then-look_touched-ne0-clause-call
returns-then-look_touched-ne0-clause-call c =
    returned (left_ask _ (step_acts c.look_touched.ensures refl)
    (left_else _ _ _ (ne_eqb c.look_touched.result 0 c.if-look_touched-ne0.true) (left_of_call c.list_taken.ensures.call)))

pub returns-else-look_touched-ne0-clause-call : goal.returns-else-look_touched-ne0-clause-call
returns-else-look_touched-ne0-clause-call c =
    returned (left_ask _ (step_acts c.look_touched.ensures refl)
    (left_then _ _ _ (eq-eqb c.look_touched.result 0 c.if-look_touched-ne0.false)
    (left_after (step_acts c.look_touched.ensures refl))))

pub returns-else-look_touched-ne0-clause-begun : goal.returns-else-look_touched-ne0-clause-begun
returns-else-look_touched-ne0-clause-begun c = listed_stays c.look_touched.ensures refl refl c.requires.begun

pub returns-else-look_touched-ne0-clause-on : goal.returns-else-look_touched-ne0-clause-on
returns-else-look_touched-ne0-clause-on c =
    takes_later (64 * c.args.j) (64 * c.args.j + 64) (limits_of c.args.w.now).keys c.args.asked.now c.args.asked.now
    (omega arith) (takes_none (64 * c.args.j) (limits_of c.args.w.now).keys c.args.asked.now c.requires.before)

pub returns-then-look_touched-ne0-clause-taken : goal.returns-then-look_touched-ne0-clause-taken
returns-then-look_touched-ne0-clause-taken c =
    adds_after c.args.sel c.args.me c.args.asked.now.changed c.list_taken.new.asked.changed
    (step_acts c.look_touched.ensures refl) c.list_taken.ensures.call.acts (λ i. refl) c.list_taken.ensures.taken

pub returns-else-look_touched-ne0-clause-taken : goal.returns-else-look_touched-ne0-clause-taken
returns-else-look_touched-ne0-clause-taken c =
    adds_none c.args.sel c.args.me _ c.args.asked.now.changed (step_acts c.look_touched.ensures refl) (λ i. refl)
