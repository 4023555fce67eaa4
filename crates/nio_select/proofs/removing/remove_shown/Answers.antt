use Rattle.std.proofs.Common.{◌+◌, refl}
use Rattle.std.specs.Int.{trailing_zeros, w64}
use Rattle.nio_steps.proofs.CallLaws.{left_reply, left_ask, left_after}
use Rattle.nio_steps.specs.Plan.{reply}
use Rattle.nio_words.proofs.Views.{step_acts}
use Rattle.nio_select.specs.Removing.{removes_at}
use Rattle.nio_select.proofs.Begun.{begun_stays}
use Rattle.nio_select.proofs.KeyChanges.{takes_step, takes_then}
use Rattle.nio_select.proofs.OverWord.{word_first, word_turn, word_done}
use Rattle.nio_select.proofs.SetBits.{NextFound, all_left, found_next}
use Rattle.nio_select.proofs.TouchedIndexes.{look_within}
use Rattle.nio_select.proofs.removing.remove_shown.Goals as goal

pub loop-rest-init : goal.loop-rest-init
loop-rest-init g c =
    let looks = step_acts c.look_touched-word.ensures refl in
    record {
      passed = 0;
      left = all_left c.look_touched-word.result;
      begun = begun_stays c.look_touched-word.ensures refl refl c.requires.begun;
      listed = λ asked. takes_step asked c.args.lister.now (step_acts c.look_touched-word.ensures refl) refl;
      steps = word_first c.look_touched-word.result c.args.j (removes_at c.args.sel) tt reply
          (left_reply (left_ask _ looks (left_after looks)));
    }

pub remove_if_cancelled-requires-clause-key : goal.remove_if_cancelled-requires-clause-key
remove_if_cancelled-requires-clause-key g c =
    let so_far = c.loop-rest.invariant in
    let next = (found_next c.look_touched-word.result so_far.passed c.loop-rest.rest
    c.loop-rest.auto.rest-fits.fits c.loop-rest-test.true so_far.left).next in (
      so_far.begun.inside,
      look_within c.args.sel c.args.j c.look_touched-word.result
          (step_acts c.look_touched-word.ensures refl) (trailing_zeros w64 c.loop-rest.rest) next.inside next.set,
    )

pub loop-rest-smaller : goal.loop-rest-smaller
loop-rest-smaller g c =
    (found_next c.look_touched-word.result c.loop-rest.invariant.passed c.loop-rest.rest
    c.loop-rest.auto.rest-fits.fits c.loop-rest-test.true c.loop-rest.invariant.left).fewer

pub loop-rest-preserved : goal.loop-rest-preserved
loop-rest-preserved g c =
    let so_far = c.loop-rest.invariant in
    let word = c.look_touched-word.result in
    let t = trailing_zeros w64 c.loop-rest.rest in
    let found : NextFound word so_far.passed c.loop-rest.rest = found_next word so_far.passed c.loop-rest.rest
    c.loop-rest.auto.rest-fits.fits c.loop-rest-test.true so_far.left in
    record {
      passed = t + 1;
      left = found.left;
      begun = c.remove_if_cancelled.ensures.begun;
      listed = λ asked. takes_then asked so_far.steps.acts c.remove_if_cancelled.ensures.call.acts (so_far.listed asked)
          (c.remove_if_cancelled.ensures.listed asked);
      steps = word_turn word c.args.j (removes_at c.args.sel) tt reply so_far.passed t tt found.next so_far.steps
          c.remove_if_cancelled.ensures.call;
    }

pub returns-clause-call : goal.returns-clause-call
returns-clause-call g c =
    let so_far = c.loop-rest.invariant in
    word_done c.look_touched-word.result c.args.j so_far.passed c.loop-rest.rest (removes_at c.args.sel) tt
    so_far.left c.loop-rest-test.false so_far.steps

pub returns-clause-listed : goal.returns-clause-listed
returns-clause-listed g c = c.loop-rest.invariant.listed
