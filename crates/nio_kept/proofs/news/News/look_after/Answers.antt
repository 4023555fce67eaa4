use Rattle.std.proofs.Common.{IsTrue, IsFalse, ap, sym, ◌∙◌, subst}
use Rattle.std.proofs.lemmas.Bool.{or_left, or_right}
use Rattle.std.proofs.lemmas.Result.{IfOk-weaker}
use Rattle.nio_select.specs.Asked.{has_changed}
use Rattle.nio_kept.specs.Looks.{KnowsAt}
use Rattle.nio_kept.specs.News.{Heard, Knows, is_next, is_same}
use Rattle.nio_kept.proofs.Looks.{AreReady, left_next, left_ready, left_same}
use Rattle.nio_kept.proofs.news.News.look_after.Goals as goal

pub returns-then-is_same-clause-ready : goal.returns-then-is_same-clause-ready
returns-then-is_same-clause-ready c =
    subst (λ (n : Heard). AreReady n.kept c.args.asked.now.keys n.candidates) (sym c.leave_ready.ensures)
    (left_ready c.args.self.now c.args.asked.now.keys)

pub returns-then-is_same-clause-knows : goal.returns-then-is_same-clause-knows
returns-then-is_same-clause-knows c =
    λ before follows known apart.
    let same : IsTrue (is_same c.args.seen c.args.asked.now.stamp)
    = ap (is_same c.args.seen) (sym c.stamp.ensures) ∙ (sym c.is_same.ensures ∙ c.if-is_same.true) in
    subst (λ (n : Heard). Knows n c.args.asked.now.keys) (sym c.leave_ready.ensures)
    (left_same c.args.seen c.args.self.now before c.args.asked.now same follows
    (known (or_left _ _ same)))

pub look_at_changed-requires : goal.look_at_changed-requires
look_at_changed-requires c =
    subst (λ (n : Heard). AreReady n.kept c.args.asked.now.keys n.candidates) (sym c.leave_ready-then-is_next.ensures)
    (left_ready c.args.self.now c.args.asked.now.keys)

pub returns-then-is_next-clause-knows : goal.returns-then-is_next-clause-knows
returns-then-is_next-clause-knows c =
    IfOk-weaker c.look_at_changed.result _ _
    (λ x knows before follows known apart.
    let next : IsTrue (is_next c.args.seen c.args.asked.now.stamp)
    = ap (is_next c.args.seen) (sym c.stamp-2.ensures) ∙ (sym c.is_next.ensures ∙ c.if-is_next.true) in
    knows apart
    (subst (λ (n : Heard). KnowsAt (λ i. IsFalse (has_changed c.args.asked.now.changed i)) n c.args.asked.now.keys)
    (sym c.leave_ready-then-is_next.ensures)
    (left_next c.args.seen c.args.self.now before c.args.asked.now next follows
    (known (or_right _ _ next)))))
    c.look_at_changed.ensures.knows
