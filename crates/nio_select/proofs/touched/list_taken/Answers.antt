use Rattle.std.proofs.Common.{◌+◌, ◌*◌, [], ◌∷◌, ◌++◌, refl, ap, sym, ◌∙◌, append_assoc, arith}
use Rattle.std.proofs.lemmas.List.{append-nil}
use Rattle.std.specs.Int.{trailing_zeros, w64}
use Rattle.nio_history.specs.PassViews.{done_between}
use Rattle.nio_steps.proofs.CallLaws.{left_reply, left_ask, left_after}
use Rattle.nio_steps.specs.Looking.{list_over}
use Rattle.nio_steps.specs.Plan.{reply}
use Rattle.nio_words.proofs.Views.{step_acts}
use Rattle.nio_words.specs.Passes.{limits_of}
use Rattle.nio_words.specs.Views.{view}
use Rattle.nio_select.proofs.BegunListed.{listed_stays}
use Rattle.nio_select.proofs.OverWord.{word_first, word_turn, word_done}
use Rattle.nio_select.proofs.SetBits.{NextFound, all_left, found_next, left_first, left_next, left_none, left_from}
use Rattle.nio_select.proofs.TakenBits.{took_first, took_still, adds_shown}
use Rattle.nio_select.proofs.TakenOn.{taken_later, takes_none, takes_then, takes_later}
use Rattle.nio_select.proofs.TouchedIndexes.{take_within}
use Rattle.nio_select.proofs.touched.list_taken.Goals as goal

pub loop-rest-init : goal.loop-rest-init
loop-rest-init c =
    let takes = step_acts c.take_touched-word.ensures refl in
    record {
      passed = 0;
      left = all_left c.take_touched-word.result;
      begun = listed_stays c.take_touched-word.ensures refl refl c.requires.begun;
      beside = record { bound = refl; room = refl; stamp = refl };
      on = takes_none (64 * c.args.j + 0) (limits_of c.args.w.now).keys c.args.asked.now
          (taken_later (64 * c.args.j) (64 * c.args.j + 0) (limits_of c.args.w.now).keys c.args.asked.now (omega arith)
          c.requires.before);
      shows = ap (λ xs. c.args.asked.now.changed ++ xs) (left_first c.take_touched-word.result c.args.j);
      took = took_first c.args.sel c.args.me c.args.j c.take_touched-word.result takes;
      steps = word_first c.take_touched-word.result c.args.j (list_over c.args.sel) c.args.asked.now.keys reply
          (left_reply (left_ask _ takes (left_after takes)));
    }

pub list_over-requires-clause-key : goal.list_over-requires-clause-key
list_over-requires-clause-key c =
    let so_far = c.loop-rest.invariant in
    let next = (found_next c.take_touched-word.result so_far.passed c.loop-rest.rest
    c.loop-rest.auto.rest-fits.fits c.loop-rest-test.true so_far.left).next in (
      so_far.begun.begun.inside,
      take_within c.args.sel c.args.j c.take_touched-word.result
          (step_acts c.take_touched-word.ensures refl) (trailing_zeros w64 c.loop-rest.rest) next.inside next.set,
    )

pub list_over-requires-clause-place : goal.list_over-requires-clause-place
list_over-requires-clause-place c =
    let so_far = c.loop-rest.invariant in
    let next = (found_next c.take_touched-word.result so_far.passed c.loop-rest.rest
    c.loop-rest.auto.rest-fits.fits c.loop-rest-test.true so_far.left).next in
    omega (arith, c.requires.places, so_far.beside.bound, next.inside)

pub list_over-requires-clause-room : goal.list_over-requires-clause-room
list_over-requires-clause-room c =
    let so_far = c.loop-rest.invariant in
    let next = (found_next c.take_touched-word.result so_far.passed c.loop-rest.rest
    c.loop-rest.auto.rest-fits.fits c.loop-rest-test.true so_far.left).next in
    omega (arith, c.requires.room, so_far.beside.room, next.inside)

pub list_over-requires-clause-before : goal.list_over-requires-clause-before
list_over-requires-clause-before c =
    let so_far = c.loop-rest.invariant in
    let next = (found_next c.take_touched-word.result so_far.passed c.loop-rest.rest
    c.loop-rest.auto.rest-fits.fits c.loop-rest-test.true so_far.left).next in
    taken_later (64 * c.args.j + so_far.passed) (64 * c.args.j + trailing_zeros w64 c.loop-rest.rest)
    (limits_of c.args.w.now).keys c.loop-rest.asked (omega (arith, next.after)) so_far.on.on

pub loop-rest-smaller : goal.loop-rest-smaller
loop-rest-smaller c =
    (found_next c.take_touched-word.result c.loop-rest.invariant.passed c.loop-rest.rest
    c.loop-rest.auto.rest-fits.fits c.loop-rest-test.true c.loop-rest.invariant.left).fewer

pub loop-rest-preserved : goal.loop-rest-preserved
loop-rest-preserved c =
    let so_far = c.loop-rest.invariant in
    let word = c.take_touched-word.result in
    let limit = (limits_of c.args.w.now).keys in
    let t = trailing_zeros w64 c.loop-rest.rest in
    let found : NextFound word so_far.passed c.loop-rest.rest = found_next word so_far.passed c.loop-rest.rest
    c.loop-rest.auto.rest-fits.fits c.loop-rest-test.true so_far.left in
    record {
      passed = t + 1;
      left = found.left;
      begun = c.list_over.ensures.begun;
      beside = record {
        bound = c.list_over.ensures.beside.bound ∙ so_far.beside.bound;
        room = c.list_over.ensures.beside.room ∙ so_far.beside.room;
        stamp = c.list_over.ensures.beside.stamp ∙ so_far.beside.stamp;
      };
      on = takes_later (64 * c.args.j + t + 1) (64 * c.args.j + (t + 1)) limit c.args.asked.now c.list_over.new.asked
          (omega arith)
          (takes_then (64 * c.args.j + so_far.passed) (64 * c.args.j + t + 1) limit c.args.asked.now c.loop-rest.asked
          c.list_over.new.asked so_far.on c.list_over.ensures.on);
      shows = ap (λ xs. xs ++ left_from word c.args.j (t + 1)) c.list_over.ensures.noted
          ∙ (append_assoc c.loop-rest.asked.changed ((64 * c.args.j + t) ∷ []) (left_from word c.args.j (t + 1))
          ∙ (ap (λ xs. c.loop-rest.asked.changed ++ xs) (sym (left_next word c.args.j so_far.passed t found.next))
          ∙ so_far.shows));
      took = took_still c.args.sel c.args.me c.args.j word (64 * c.args.j + t) c.loop-rest.asked.keys
          c.list_over.new.asked.keys so_far.took so_far.steps.acts c.list_over.ensures.call;
      steps = word_turn word c.args.j (list_over c.args.sel) c.loop-rest.asked.keys reply so_far.passed t
          c.list_over.new.asked.keys found.next so_far.steps c.list_over.ensures.call;
    }

pub returns-clause-call : goal.returns-clause-call
returns-clause-call c =
    let so_far = c.loop-rest.invariant in
    word_done c.take_touched-word.result c.args.j so_far.passed c.loop-rest.rest (list_over c.args.sel)
    c.loop-rest.asked.keys so_far.left c.loop-rest-test.false so_far.steps

pub returns-clause-on : goal.returns-clause-on
returns-clause-on c =
    let so_far = c.loop-rest.invariant in
    takes_later (64 * c.args.j + so_far.passed) (64 * c.args.j + 64) (limits_of c.args.w.now).keys c.args.asked.now
    c.loop-rest.asked (omega (arith, so_far.left.inside)) so_far.on

pub returns-clause-taken : goal.returns-clause-taken
returns-clause-taken c =
    let so_far = c.loop-rest.invariant in
    let word = c.take_touched-word.result in
    adds_shown c.args.sel c.args.j word
    (done_between c.args.me (view c.args.w.now c.args.p.now) (view c.args.w.now c.loop-rest.p))
    c.args.asked.now.changed c.loop-rest.asked.changed
    (sym (append-nil c.loop-rest.asked.changed)
    ∙ (ap (λ xs. c.loop-rest.asked.changed ++ xs)
    (sym (left_none word c.args.j so_far.passed c.loop-rest.rest so_far.left c.loop-rest-test.false))
    ∙ so_far.shows))
    so_far.took
