use Rattle.nio_plain.proofs.Replying.{state-opening}
use Rattle.nio_plain.proofs.plain.Plain.make_by.Goals as goal

pub returns-clause-opening : goal.returns-clause-opening
returns-clause-opening c =
    state-opening c.args.limits.callers _ _ _ _ _ c.in_ok-make.ensures c.new-3.ensures.items
    (c.in_ok-from_elem.ensures.items_if_clones_equal (λ y h. h)) c.new.ensures.items c.new-2.ensures.items
