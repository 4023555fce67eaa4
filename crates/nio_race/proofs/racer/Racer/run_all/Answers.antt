use Rattle.std.proofs.Common.{◌≡◌, ◌==◌, true, false, List, [], ◌∷◌, ◌++◌, take, sym, ap, ◌∙◌, subst}
use Rattle.std.proofs.lemmas.List.{take_more}
use Rattle.nio_base.specs.declared.numbers.CallerNo.{CallerNo}
use Rattle.nio_race_text.specs.declared.call.RaceLine.{RaceLine}
use Rattle.nio_race.specs.Racers.{RepliesLine, StandsWith}
use Rattle.nio_race.proofs.Racing.{IsRacing, one_more}
use Rattle.nio_race.proofs.racer.Racer.run_all.Goals as goal

pub loop-line-preserved : goal.loop-line-preserved
loop-line-preserved g c =
    let w = c.args.w.now in
    let race = c.args.race.now in
    let i = c.loop-line.line-index in
    let line = c.line-item.result in
    let before = c.args.self.now in
    let mid = c.loop-line.self in
    let after = c.run_if_own.new.self in
    let did = c.in_ok-run_if_own.ensures in
    let same = c.loop-line.invariant.number in
    record {
      racing =
          subst (λ (lines : List RaceLine). IsRacing w lines before.number before.desk after.desk before.ends
          after.ends after.replies.items)
          (sym (take_more race i line c.loop-line-test.true ∙ ap (λ x. take i race ++ x ∷ []) (sym c.line-item.is)))
          (one_more w (take i race) line before.number before.desk mid.desk after.desk before.ends mid.ends after.ends
          mid.replies.items after.replies.items c.loop-line.invariant.racing
          (subst (λ (n : CallerNo). (line.caller.0 == n.0) ≡ true
          → RepliesLine w mid.desk after.desk mid.ends after.ends n line.call mid.replies.items after.replies.items)
          same did.own)
          (subst (λ (n : CallerNo). (line.caller.0 == n.0) ≡ false → (after.desk ≡ mid.desk) × (after.ends ≡ mid.ends)
          × (after.replies.items ≡ mid.replies.items)) same did.other)
          (subst (λ (n : CallerNo). StandsWith w after.desk after.ends n) (c.run_if_own.ensures.number ∙ same) did.stands)
          c.run_if_own.ensures.later);
      number = c.run_if_own.ensures.number ∙ same;
    }
