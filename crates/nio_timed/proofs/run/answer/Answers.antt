use Rattle.std.proofs.Common.{◌≡◌, ◌+◌, ◌∷◌, ◌++◌, drop, get_or, refl, sym, ap, ◌∙◌, drop-cons, add-one}
use Rattle.nio_base.specs.declared.group.GKind.TheVariants.{Stream}
use Rattle.nio_language.specs.declared.group_call.GroupCall.TheVariants.{Gopen}
use Rattle.nio_timed.specs.Called.{timed_answer_from}
use Rattle.nio_timed.specs.declared.call.TimedCall.TheVariants.{Group}
use Rattle.nio_timed.specs.declared.call.TimedLine.{TimedLine}
use Rattle.nio_timed.proofs.Answering.{one_more}
use Rattle.nio_timed.proofs.run.answer.Goals as goal

-- what stands at an index past the end
abbrev any_line : TimedLine
any_line = record { caller = record { 0 = 0 }; call = Group (Gopen Stream) }

pub loop-index-init : goal.loop-index-init
loop-index-init c =
    let calls = c.args.calls.now in
    ap (λ xs. xs ++ timed_answer_from c.in_ok-timed.timed 1 calls) c.new-history.ensures.items
    ∙ ap (λ t. timed_answer_from t 1 calls) c.in_ok-timed.ensures

pub loop-index-preserved : goal.loop-index-preserved
loop-index-preserved c =
    let calls = c.args.calls.now in
    let i = c.loop-index.index in
    let line = get_or calls i any_line in
    let next : drop i calls ≡ line ∷ drop (i + 1) calls =
    rw (add-one, drop-cons calls i any_line c.loop-index-test.true) refl in
    one_more _ c.loop-index.history.items c.answer_call.new.history.items c.loop-index.timed c.answer_call.new.timed
    (i + 1) line (drop (i + 1) calls)
    (sym (ap (λ ls. c.loop-index.history.items ++ timed_answer_from c.loop-index.timed (i + 1) ls) next)
    ∙ c.loop-index.invariant)
    c.in_ok-answer_call.ensures.line c.in_ok-answer_call.ensures.left
