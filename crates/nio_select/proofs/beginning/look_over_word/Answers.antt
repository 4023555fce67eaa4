use Rattle.std.proofs.Common.{◌+◌, ◌*◌, refl, sym, ◌∙◌, subst, arith}
use Rattle.std.specs.Int.{trailing_zeros, bit_not, w64}
use Rattle.nio_steps.specs.Calls.{PartClause}
use Rattle.nio_steps.specs.Plan.{reply, ◌>>=◌}
use Rattle.nio_steps.specs.Looking.{over_word, look_over}
use Rattle.nio_steps.specs.Sweeps.{sweep_over}
use Rattle.nio_words.proofs.Views.{step_acts}
use Rattle.nio_words.specs.Views.{view}
use Rattle.nio_words.specs.declared.words.Pass.{Pass}
use Rattle.nio_select.specs.Asked.{Looked, AreBelow, IsBeside}
use Rattle.nio_select.specs.Begun.{HasBegun}
use Rattle.nio_select.proofs.Begun.{begun_stays}
use Rattle.nio_select.proofs.LastKeys.{below_longer}
use Rattle.nio_select.proofs.OverWord.{if_below, free_found, below_called, word_turn, word_past, word_done}
use Rattle.nio_select.proofs.SetBits.{NextFound, left_from, all_left, found_next}
use Rattle.nio_select.proofs.beginning.look_over_word.Goals as goal
use Rattle.nio_select.proofs.beginning.look_over_word.Goals.{then-i-bound, else-i-bound}

pub loop-rest-init : goal.loop-rest-init
loop-rest-init c =
    record {
      passed = 0;
      left = all_left (bit_not w64 c.look_free-word.result);
      begun = begun_stays c.look_free-word.ensures refl refl c.requires.begun;
      steps = free_found c.args.j c.args.bound (look_over c.args.sel) c.args.asked.now.keys c.look_free-word.type_inv
          (step_acts c.look_free-word.ensures refl);
      beside = record { bound = refl; room = refl; stamp = refl };
      below = below_longer (64 * c.args.j) (64 * c.args.j + 0) c.args.asked.now.keys (omega arith) c.requires.below;
      within = λ low. low;
    }

pub look_over-requires-clause-key : goal.look_over-requires-clause-key
look_over-requires-clause-key c =
    (c.loop-rest.invariant.begun.inside, omega (arith, c.if-i-bound.true, c.requires.bound))

pub look_over-requires-clause-place : goal.look_over-requires-clause-place
look_over-requires-clause-place c =
    let so_far = c.loop-rest.invariant in
    let next = (found_next (bit_not w64 c.look_free-word.result) so_far.passed c.loop-rest.rest
    c.loop-rest.auto.rest-fits.fits c.loop-rest-test.true so_far.left).next in
    omega (arith, c.requires.places, so_far.beside.bound, next.inside)

pub look_over-requires-clause-below : goal.look_over-requires-clause-below
look_over-requires-clause-below c =
    let so_far = c.loop-rest.invariant in
    let next = (found_next (bit_not w64 c.look_free-word.result) so_far.passed c.loop-rest.rest
    c.loop-rest.auto.rest-fits.fits c.loop-rest-test.true so_far.left).next in
    below_longer (64 * c.args.j + so_far.passed) _ c.loop-rest.asked.keys (omega (arith, next.after)) so_far.below

pub loop-rest-smaller : goal.loop-rest-smaller
loop-rest-smaller c =
    (found_next (bit_not w64 c.look_free-word.result) c.loop-rest.invariant.passed c.loop-rest.rest
    c.loop-rest.auto.rest-fits.fits c.loop-rest-test.true c.loop-rest.invariant.left).fewer

pub loop-rest-preserved : goal.loop-rest-preserved
loop-rest-preserved c =
    let so_far = c.loop-rest.invariant in
    let word = bit_not w64 c.look_free-word.result in
    let t = trailing_zeros w64 c.loop-rest.rest in
    let at = look_over c.args.sel in
    let before = c.args.asked.now.keys in
    let found : NextFound word so_far.passed c.loop-rest.rest = found_next word so_far.passed c.loop-rest.rest
    c.loop-rest.auto.rest-fits.fits c.loop-rest-test.true so_far.left in
    elim c.if-i-bound.branch [
      | then-i-bound w ↦
          record {
            passed = t + 1;
            left = found.left;
            begun = subst (λ (p : Pass). HasBegun c.args.w.now p c.args.me c.args.sel) (sym w.p-is) w.look_over.ensures.begun;
            steps = subst
                (λ (p : Pass). PartClause c.args.me (over_word c.args.sel c.args.bound at c.args.j before)
                (view c.args.w.now c.args.p.now) (view c.args.w.now p)
                (sweep_over (left_from word c.args.j (t + 1)) (if_below c.args.bound at) c.if-i-bound.asked.keys
                >>= reply))
                (sym w.p-is)
                (subst
                (λ (asked : Looked). PartClause c.args.me (over_word c.args.sel c.args.bound at c.args.j before)
                (view c.args.w.now c.args.p.now) (view c.args.w.now w.look_over.new.p)
                (sweep_over (left_from word c.args.j (t + 1)) (if_below c.args.bound at) asked.keys >>= reply))
                (sym w.asked-is)
                (word_turn word c.args.j (if_below c.args.bound at) c.loop-rest.asked.keys reply so_far.passed t
                w.look_over.new.asked.keys found.next so_far.steps
                (below_called c.args.bound (64 * c.args.j + t) at c.loop-rest.asked.keys w.look_over.new.asked.keys
                w.if-i-bound.true w.look_over.ensures.call)));
            beside = subst (IsBeside c.args.asked.now) (sym w.asked-is) (record {
              bound = w.look_over.ensures.beside.bound ∙ so_far.beside.bound;
              room = w.look_over.ensures.beside.room ∙ so_far.beside.room;
              stamp = w.look_over.ensures.beside.stamp ∙ so_far.beside.stamp;
            });
            below = subst (λ (asked : Looked). AreBelow (64 * c.args.j + (t + 1)) asked.keys) (sym w.asked-is)
                (below_longer (64 * c.args.j + t + 1) (64 * c.args.j + (t + 1)) w.look_over.new.asked.keys (omega arith)
                w.look_over.ensures.below);
            within = λ low. subst (λ (asked : Looked). AreBelow c.args.bound asked.keys) (sym w.asked-is)
                (below_longer (64 * c.args.j + t + 1) c.args.bound w.look_over.new.asked.keys (omega (arith, w.if-i-bound.true))
                w.look_over.ensures.below);
          }
      | else-i-bound w ↦
          record {
            passed = t + 1;
            left = found.left;
            begun = subst (λ (p : Pass). HasBegun c.args.w.now p c.args.me c.args.sel) (sym w.p-is) so_far.begun;
            steps = subst
                (λ (p : Pass). PartClause c.args.me (over_word c.args.sel c.args.bound at c.args.j before)
                (view c.args.w.now c.args.p.now) (view c.args.w.now p)
                (sweep_over (left_from word c.args.j (t + 1)) (if_below c.args.bound at) c.if-i-bound.asked.keys
                >>= reply))
                (sym w.p-is)
                (subst
                (λ (asked : Looked). PartClause c.args.me (over_word c.args.sel c.args.bound at c.args.j before)
                (view c.args.w.now c.args.p.now) (view c.args.w.now c.loop-rest.p)
                (sweep_over (left_from word c.args.j (t + 1)) (if_below c.args.bound at) asked.keys >>= reply))
                (sym w.asked-is)
                (word_past word c.args.j c.args.bound so_far.passed t at c.loop-rest.asked.keys reply found.next
                w.if-i-bound.false so_far.steps));
            beside = subst (IsBeside c.args.asked.now) (sym w.asked-is) so_far.beside;
            below = subst (λ (asked : Looked). AreBelow (64 * c.args.j + (t + 1)) asked.keys) (sym w.asked-is)
                (below_longer (64 * c.args.j + so_far.passed) (64 * c.args.j + (t + 1)) c.loop-rest.asked.keys
                (omega (arith, found.next.after)) so_far.below);
            within = λ low. subst (λ (asked : Looked). AreBelow c.args.bound asked.keys) (sym w.asked-is)
                (so_far.within low);
          }
    ]

pub returns-clause-call : goal.returns-clause-call
returns-clause-call c =
    let so_far = c.loop-rest.invariant in
    word_done (bit_not w64 c.look_free-word.result) c.args.j so_far.passed c.loop-rest.rest
    (if_below c.args.bound (look_over c.args.sel)) c.loop-rest.asked.keys so_far.left c.loop-rest-test.false so_far.steps

pub returns-clause-below : goal.returns-clause-below
returns-clause-below c =
    let so_far = c.loop-rest.invariant in
    below_longer (64 * c.args.j + so_far.passed) (64 * c.args.j + 64) c.loop-rest.asked.keys
    (omega (arith, so_far.left.inside)) so_far.below
