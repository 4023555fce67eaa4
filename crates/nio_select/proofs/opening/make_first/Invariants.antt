use Rattle.nio_steps.specs.Calls.{PartClause}
use Rattle.nio_steps.specs.Names.{selector}
use Rattle.nio_steps.specs.Plan.{reply, ◌>>=◌}
use Rattle.nio_steps.specs.SelectCalls.{makes_selector}
use Rattle.nio_steps.specs.Sweeps.{seek_to}
use Rattle.nio_words.specs.Passes.{IsReady, limits_of}
use Rattle.nio_words.specs.Views.{view}
use Rattle.nio_select.proofs.opening.make_first.Given as goal

abbrev pub invariant-loop-number : goal.invariant-loop-number
invariant-loop-number l =
    IsReady l.w l.p l.me
    × PartClause l.me (seek_to (limits_of l.w).selectors 0 (λ n. makes_selector (selector n))) (view l.w l.fn.p)
    (view l.w l.p)
    (seek_to (limits_of l.w).selectors l.number (λ n. makes_selector (selector n)) >>= reply)
