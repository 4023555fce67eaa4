use Rattle.std.proofs.Common.{ℕ, ◌+◌, ◌*◌, ◌||◌, List, refl, ap, ◌∙◌, arith}
use Rattle.nio_history.specs.Lists.{takes_bit}
use Rattle.nio_history.specs.OwnEvents.{has}
use Rattle.nio_history.specs.PassViews.{done_between}
use Rattle.nio_select.specs.Asked.{has_changed}
use Rattle.nio_steps.proofs.CallLaws.{returned, left_reply, left_start}
use Rattle.nio_steps.proofs.SweepLaws.{sweep_turn, sweep_done}
use Rattle.nio_steps.specs.Plan.{reply}
use Rattle.nio_words.specs.Passes.{limits_of}
use Rattle.nio_words.specs.Views.{view}
use Rattle.nio_select.proofs.TakenBits.{adds_first, adds_then}
use Rattle.nio_select.proofs.TakenOn.{taken_first, takes_none, takes_then, takes_later, changes}
use Rattle.nio_select.proofs.touched.list_words.Goals as goal

pub loop-j-init : goal.loop-j-init
loop-j-init c =
    record {
      begun = c.requires.begun;
      beside = record { bound = refl; room = refl; stamp = refl };
      on = takes_none 0 (limits_of c.args.w.now).keys c.args.asked.now
          (taken_first (limits_of c.args.w.now).keys c.args.asked.now c.requires.unchanged c.requires.below);
      taken = adds_first c.args.sel c.args.me (view c.args.w.now c.args.p.now) c.args.asked.now.changed
          c.requires.begun.begun.ready.pass.legal;
      steps = left_reply (left_start _ _ _ c.requires.begun.begun.ready.pass.legal);
    }

pub list_word-requires-clause-indexes : goal.list_word-requires-clause-indexes
list_word-requires-clause-indexes c =
    omega (arith, c.loop-j-test.true, c.words_below-j-end.ensures, c.requires.bound)

pub list_word-requires-clause-places : goal.list_word-requires-clause-places
list_word-requires-clause-places c =
    omega (arith, c.loop-j-test.true, c.words_below-j-end.ensures, c.requires.places, c.loop-j.invariant.beside.bound)

pub list_word-requires-clause-room : goal.list_word-requires-clause-room
list_word-requires-clause-room c =
    omega (arith, c.loop-j-test.true, c.words_below-j-end.ensures, c.requires.room, c.loop-j.invariant.beside.room)

pub list_word-requires-clause-before : goal.list_word-requires-clause-before
list_word-requires-clause-before c = c.loop-j.invariant.on.on

pub loop-j-preserved : goal.loop-j-preserved
loop-j-preserved c =
    let so_far = c.loop-j.invariant in
    let limit = (limits_of c.args.w.now).keys in
    record {
      begun = c.list_word.ensures.begun;
      beside = record {
        bound = c.list_word.ensures.beside.bound ∙ so_far.beside.bound;
        room = c.list_word.ensures.beside.room ∙ so_far.beside.room;
        stamp = c.list_word.ensures.beside.stamp ∙ so_far.beside.stamp;
      };
      on = takes_later (64 * c.loop-j.j + 64) (64 * (c.loop-j.j + 1)) limit c.args.asked.now c.list_word.new.asked
          (omega arith)
          (takes_then (64 * c.loop-j.j) (64 * c.loop-j.j + 64) limit c.args.asked.now c.loop-j.asked
          c.list_word.new.asked so_far.on c.list_word.ensures.on);
      taken = adds_then c.args.sel c.args.me c.args.asked.now.changed c.loop-j.asked.changed
          c.list_word.new.asked.changed so_far.steps.acts c.list_word.ensures.call.acts so_far.taken c.list_word.ensures.taken;
      steps = sweep_turn _ _ _ _ _ reply (omega (arith, c.loop-j-test.true, c.words_below-j-end.ensures)) so_far.steps
          c.list_word.ensures.call;
    }

pub returns-clause-call : goal.returns-clause-call
returns-clause-call c =
    returned (sweep_done _ _ _ _ reply (omega (arith, c.loop-j-test.false, c.words_below-j-end.ensures))
    c.loop-j.invariant.steps)

pub returns-clause-below : goal.returns-clause-below
returns-clause-below c = c.loop-j.invariant.on.on.below

pub returns-clause-changed : goal.returns-clause-changed
returns-clause-changed c =
    changes (64 * c.loop-j.j) (limits_of c.args.w.now).keys c.args.asked.now c.loop-j.asked c.loop-j.invariant.on

pub returns-clause-taken : goal.returns-clause-taken
returns-clause-taken c = λ i.
    c.loop-j.invariant.taken i
    ∙ ap (λ (xs : List ℕ). has_changed xs i
    || has (takes_bit c.args.sel.0 i)
    (done_between c.args.me (view c.args.w.now c.args.p.now) (view c.args.w.now c.loop-j.p)))
    c.requires.unchanged
