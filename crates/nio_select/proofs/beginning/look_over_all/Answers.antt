use Rattle.std.proofs.Common.{◌+◌, ◌*◌, ◌<◌, List, [], sym, ◌∙◌, refl, subst, arith}
use Rattle.std.proofs.lemmas.List.Elements.{All-nil}
use Rattle.nio_steps.proofs.CallLaws.{returned, left_reply, left_start}
use Rattle.nio_steps.proofs.SweepLaws.{sweep_turn, sweep_done}
use Rattle.nio_steps.specs.Calls.{PartClause}
use Rattle.nio_steps.specs.ChannelCalls.{words_below}
use Rattle.nio_steps.specs.Plan.{reply, ◌>>=◌}
use Rattle.nio_steps.specs.Looking.{over_not_free, over_word, look_over}
use Rattle.nio_steps.specs.Sweeps.{sweep_to}
use Rattle.nio_steps.specs.declared.looked.LookedKey.{LookedKey}
use Rattle.nio_words.specs.Views.{view}
use Rattle.nio_select.specs.Asked.{AreBelow}
use Rattle.nio_select.proofs.LastKeys.{below_longer}
use Rattle.nio_select.proofs.beginning.look_over_all.Goals as goal

pub loop-j-init : goal.loop-j-init
loop-j-init c =
    let start = view c.args.w.now c.args.p.now in
    record {
      begun = c.requires.begun;
      beside = record { bound = refl; room = refl; stamp = refl };
      below = subst (AreBelow (64 * 0)) (sym c.requires.empty) (All-nil (λ e. e.index < 64 * 0));
      within = subst (AreBelow c.args.bound) (sym c.requires.empty) (All-nil (λ e. e.index < c.args.bound));
      steps = subst
          (λ (keys : List LookedKey). PartClause c.args.me (over_not_free c.args.sel c.args.bound (look_over c.args.sel) [])
          start start
          (sweep_to (words_below c.args.bound) 0 (over_word c.args.sel c.args.bound (look_over c.args.sel)) keys
          >>= reply))
          (sym c.requires.empty) (left_reply (left_start _ _ _ c.requires.begun.ready.pass.legal));
    }

pub look_over_word-requires-clause-places : goal.look_over_word-requires-clause-places
look_over_word-requires-clause-places c =
    omega (arith, c.loop-j-test.true, c.words_below-j-end.ensures, c.requires.places, c.loop-j.invariant.beside.bound)

pub loop-j-preserved : goal.loop-j-preserved
loop-j-preserved c =
    let so_far = c.loop-j.invariant in
    record {
      begun = c.look_over_word.ensures.begun;
      beside = record {
        bound = c.look_over_word.ensures.beside.bound ∙ so_far.beside.bound;
        room = c.look_over_word.ensures.beside.room ∙ so_far.beside.room;
        stamp = c.look_over_word.ensures.beside.stamp ∙ so_far.beside.stamp;
      };
      below = below_longer (64 * c.loop-j.j + 64) (64 * (c.loop-j.j + 1)) c.look_over_word.new.asked.keys (omega arith)
          c.look_over_word.ensures.below;
      within = c.look_over_word.ensures.within so_far.within;
      steps = sweep_turn _ _ _ _ _ reply (omega (arith, c.loop-j-test.true, c.words_below-j-end.ensures)) so_far.steps
          c.look_over_word.ensures.call;
    }

pub returns-clause-call : goal.returns-clause-call
returns-clause-call c =
    returned (sweep_done _ _ _ _ reply (omega (arith, c.loop-j-test.false, c.words_below-j-end.ensures))
    c.loop-j.invariant.steps)

pub returns-clause-below : goal.returns-clause-below
returns-clause-below c = below_longer c.args.bound _ c.loop-j.asked.keys c.requires.bound c.loop-j.invariant.within
