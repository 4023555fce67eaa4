use Rattle.std.proofs.Common.{List, refl, ap, sym, ◌∙◌, subst}
use Rattle.nio_steps.proofs.CallLaws.{returned, left_ask, left_after}
use Rattle.nio_steps.specs.Calls.{CallClause}
use Rattle.nio_steps.specs.Looking.{look_valid, looked_key}
use Rattle.nio_steps.specs.Runs.{Completes}
use Rattle.nio_steps.specs.declared.looked.LookedKey.{LookedKey}
use Rattle.nio_words.proofs.Views.{step_acts}
use Rattle.nio_words.specs.Views.{view}
use Rattle.nio_select.specs.Asked.{AreBelow}
use Rattle.nio_select.proofs.Begun.{begun_stays}
use Rattle.nio_select.proofs.LastKeys.{put_last, below_push}
use Rattle.nio_select.proofs.beginning.look_valid.Goals as goal

pub returns-clause-call : goal.returns-clause-call
returns-clause-call c =
    let key = looked_key c.args.i c.args.stage c.look_interest-interest.result in
    subst (λ (keys : List LookedKey). CallClause c.args.me (Completes (look_valid c.args.sel c.args.i c.args.stage c.args.asked.now.keys))
    (view c.args.w.now c.args.p.now) (view c.args.w.now c.look_interest-interest.new.p) keys)
    (sym (ap (λ v. v.keys) c.put.ensures ∙ put_last key c.args.asked.now.keys c.requires.below))
    (returned (left_ask _ (step_acts c.look_interest-interest.ensures refl) (left_after (step_acts c.look_interest-interest.ensures refl))))

pub returns-clause-begun : goal.returns-clause-begun
returns-clause-begun c = begun_stays c.look_interest-interest.ensures refl refl c.requires.begun

pub returns-clause-beside : goal.returns-clause-beside
returns-clause-beside c =
    record {
      bound = ap (λ v. v.bound) c.put.ensures;
      room = ap (λ v. v.room) c.put.ensures;
      stamp = ap (λ v. v.stamp) c.put.ensures;
    }

pub returns-clause-below : goal.returns-clause-below
returns-clause-below c =
    let key = looked_key c.args.i c.args.stage c.look_interest-interest.result in
    subst (AreBelow _) (sym (ap (λ v. v.keys) c.put.ensures ∙ put_last key c.args.asked.now.keys c.requires.below))
    (below_push key c.args.asked.now.keys c.requires.below)
