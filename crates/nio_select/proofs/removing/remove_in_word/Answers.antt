use Rattle.std.proofs.Common.{◌≡◌, ◌+◌, ◌*◌, List, refl, sym, subst, arith}
use Rattle.std.specs.Int.{trailing_zeros, bit_not, w64}
use Rattle.nio_base.specs.declared.numbers.CallerNo.{CallerNo}
use Rattle.nio_history.specs.PassViews.{PassView}
use Rattle.nio_steps.specs.Calls.{PartClause}
use Rattle.nio_steps.specs.Plan.{reply, ◌>>=◌}
use Rattle.nio_steps.specs.Looking.{over_word}
use Rattle.nio_steps.specs.Sweeps.{sweep_over}
use Rattle.nio_words.proofs.Views.{step_acts}
use Rattle.nio_words.specs.Views.{view}
use Rattle.nio_steps.specs.declared.looked.LookedKey.{LookedKey}
use Rattle.nio_words.specs.declared.words.Pass.{Pass}
use Rattle.nio_words.specs.declared.words.Words.{Words}
use Rattle.nio_select.specs.Begun.{HasBegun}
use Rattle.nio_select.specs.KeyChanges.{TakesNote}
use Rattle.nio_select.specs.Removing.{removes_at}
use Rattle.nio_select.specs.declared.changes.KeyChange.{KeyChange}
use Rattle.nio_select.proofs.Begun.{begun_stays}
use Rattle.nio_select.proofs.KeyChanges.{takes_step, takes_then}
use Rattle.nio_select.proofs.OverWord.{if_below, free_found, below_called, word_turn, word_past, word_done}
use Rattle.nio_select.proofs.SetBits.{NextFound, left_from, all_left, found_next}
use Rattle.nio_select.proofs.removing.remove_in_word.Goals as goal
use Rattle.nio_select.proofs.removing.remove_in_word.Goals.{then-i-mark, else-i-mark}

-- at the pass and the lister that a branch left
at_step : {L : Type 0} {noted : L → KeyChange → L} {me : CallerNo} {v : PassView} {p q : Pass} {x y z : L}
    (asked : List LookedKey) (w : Words) → p ≡ q → z ≡ y → TakesNote noted asked me v (view w q) x y
    → TakesNote noted asked me v (view w p) x z
at_step {noted = noted} {me = me} {v = v} {p = p} {q = q} {x = x} {y = y} {z = z} asked w pass lister here =
    subst (λ (p' : Pass). TakesNote noted asked me v (view w p') x z) (sym pass)
    (subst (TakesNote noted asked me v (view w q) x) (sym lister) here)

pub loop-rest-init : goal.loop-rest-init
loop-rest-init g c =
    record {
      passed = 0;
      left = all_left (bit_not w64 c.look_free-word.result);
      begun = begun_stays c.look_free-word.ensures refl refl c.requires.begun;
      listed = λ asked. takes_step asked c.args.lister.now (step_acts c.look_free-word.ensures refl) refl;
      steps = free_found c.args.j c.args.mark (removes_at c.args.sel) tt c.look_free-word.type_inv
          (step_acts c.look_free-word.ensures refl);
    }

pub remove_if_cancelled-requires-clause-key : goal.remove_if_cancelled-requires-clause-key
remove_if_cancelled-requires-clause-key g c =
    (c.loop-rest.invariant.begun.inside, omega (arith, c.if-i-mark.true, c.requires.mark))

pub loop-rest-smaller : goal.loop-rest-smaller
loop-rest-smaller g c =
    (found_next (bit_not w64 c.look_free-word.result) c.loop-rest.invariant.passed c.loop-rest.rest
    c.loop-rest.auto.rest-fits.fits c.loop-rest-test.true c.loop-rest.invariant.left).fewer

pub loop-rest-preserved : goal.loop-rest-preserved
loop-rest-preserved g c =
    let so_far = c.loop-rest.invariant in
    let word = bit_not w64 c.look_free-word.result in
    let t = trailing_zeros w64 c.loop-rest.rest in
    let at = removes_at c.args.sel in
    let found : NextFound word so_far.passed c.loop-rest.rest = found_next word so_far.passed c.loop-rest.rest
    c.loop-rest.auto.rest-fits.fits c.loop-rest-test.true so_far.left in
    elim c.if-i-mark.branch [
      | then-i-mark w ↦
          record {
            passed = t + 1;
            left = found.left;
            begun = subst (λ (p : Pass). HasBegun c.args.w.now p c.args.me c.args.sel) (sym w.p-is)
                w.remove_if_cancelled.ensures.begun;
            listed = λ asked. at_step asked c.args.w.now w.p-is w.lister-is (takes_then asked so_far.steps.acts
                w.remove_if_cancelled.ensures.call.acts (so_far.listed asked) (w.remove_if_cancelled.ensures.listed asked));
            steps = subst
                (λ (p : Pass). PartClause c.args.me (over_word c.args.sel c.args.mark at c.args.j tt)
                (view c.args.w.now c.args.p.now) (view c.args.w.now p)
                (sweep_over (left_from word c.args.j (t + 1)) (if_below c.args.mark at) tt >>= reply))
                (sym w.p-is)
                (word_turn word c.args.j (if_below c.args.mark at) tt reply so_far.passed t tt found.next so_far.steps
                (below_called c.args.mark (64 * c.args.j + t) at tt tt w.if-i-mark.true
                w.remove_if_cancelled.ensures.call));
          }
      | else-i-mark w ↦
          record {
            passed = t + 1;
            left = found.left;
            begun = subst (λ (p : Pass). HasBegun c.args.w.now p c.args.me c.args.sel) (sym w.p-is) so_far.begun;
            listed = λ asked. at_step asked c.args.w.now w.p-is w.lister-is (so_far.listed asked);
            steps = subst
                (λ (p : Pass). PartClause c.args.me (over_word c.args.sel c.args.mark at c.args.j tt)
                (view c.args.w.now c.args.p.now) (view c.args.w.now p)
                (sweep_over (left_from word c.args.j (t + 1)) (if_below c.args.mark at) tt >>= reply))
                (sym w.p-is)
                (word_past word c.args.j c.args.mark so_far.passed t at tt reply found.next w.if-i-mark.false
                so_far.steps);
          }
    ]

pub returns-clause-call : goal.returns-clause-call
returns-clause-call g c =
    let so_far = c.loop-rest.invariant in
    word_done (bit_not w64 c.look_free-word.result) c.args.j so_far.passed c.loop-rest.rest
    (if_below c.args.mark (removes_at c.args.sel)) tt so_far.left c.loop-rest-test.false so_far.steps

pub returns-clause-listed : goal.returns-clause-listed
returns-clause-listed g c = c.loop-rest.invariant.listed
