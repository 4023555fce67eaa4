use Rattle.std.proofs.Common.{map, sym, ◌∙◌, ap}
use Rattle.std.proofs.Math.ListN.{get_or-map}
use Rattle.std.proofs.lemmas.List.{length-map}
use Rattle.nio_script.specs.HistoryCall.{entry_of}
use Rattle.nio_script.proofs.Checking.{followed_more, followed_wrong}
use Rattle.nio_script.proofs.Lines.{IsNext}
use Rattle.nio_script.proofs.check.follow_calls.Goals as goal
use Rattle.nio_script.proofs.check.follow_calls.Goals.{After-correction}

-- the entry of the next call
next : (g : _) (c : After-correction g)
    → IsNext (map entry_of c.args.calls.now) c.loop-index.index (entry_of c.index-calls-index.result)
next g c = record {
  within = simp length-map c.loop-index-test.true;
  at = get_or-map entry_of c.args.calls.now c.loop-index.index c.index-calls-index.result
      ∙ ap entry_of (sym c.index-calls-index.is);
}

pub returns-in-Some-clause-illegal : goal.returns-in-Some-clause-illegal
returns-in-Some-clause-illegal g c =
    let after = (goal.at.returns-in-Some-clause-illegal g c).After-correction in
    let laws = g.met.Y.System in
    let kept = c.loop-index.invariant.kept in
    let is = rw c.in-Some.is at c.in_ok-right.ensures.right in
    let wrong = rw c.in-Some.is at c.in_ok-right.ensures.wrong in
    followed_wrong _ _ _ _ (laws.kept_rules _ _ kept) (laws.kept_limits _ _ kept)
    (map entry_of c.args.calls.now) c.loop-index.index (g.Y.System.state c.loop-index.system)
    (entry_of c.index-calls-index.result) (next g after) c.loop-index.invariant.followed c.in-Some.right is wrong

pub loop-index-preserved : goal.loop-index-preserved
loop-index-preserved g c =
    let after = (goal.at.loop-index-preserved g c).After-correction in
    let laws = g.met.Y.System in
    let kept = c.loop-index.invariant.kept in
    let right = rw c.in_default.is at c.in_ok-right.ensures.same in
    record {
      followed =
          followed_more _ _ _ _ (laws.kept_rules _ _ kept) (laws.kept_limits _ _ kept)
          (map entry_of c.args.calls.now) c.loop-index.index (g.Y.System.state c.loop-index.system)
          (entry_of c.index-calls-index.result) (next g after) c.loop-index.invariant.followed
          (g.Y.System.state c.correction.new.system) right c.in_ok-right.ensures.left;
      kept = laws.kept_on _ _ _ kept c.correction.ensures.kept;
    }
