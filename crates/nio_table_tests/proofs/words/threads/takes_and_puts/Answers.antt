use Rattle.std.proofs.Common.{◌≡◌, ℕ, ◌++◌, true, Some, ◌||◌, refl, ap, ◌∙◌, eq-eqb}
use Rattle.nio_base.specs.declared.numbers.CallerNo.{CallerNo}
use Rattle.nio_base.specs.declared.numbers.SelNo.{SelNo}
use Rattle.nio_channel.specs.Idle.{first_selector}
use Rattle.nio_history.proofs.Finds.{step_leaves}
use Rattle.nio_history.proofs.Put.{put_at-same}
use Rattle.nio_history.specs.Conditions.{is_held_by, has_taken, may_put_due}
use Rattle.nio_history.specs.Histories.{state_after}
use Rattle.nio_history.specs.declared.act.Act.TheVariants.{TakeFree}
use Rattle.nio_words.specs.Passes.{seen, state_seen}
use Rattle.nio_words.specs.Steps.{Steps}
use Rattle.nio_words.specs.declared.words.Pass.{Pass}
use Rattle.nio_words.specs.declared.words.Words.{Words}
use Rattle.nio_table_tests.proofs.words.threads.takes_and_puts.Goals as goal

-- who just took an index that was free has it
taken_just_now : (w : Words) (p q : Pass) (me : CallerNo) (s : SelNo) (i : ℕ) → Steps w p q me (TakeFree s i true)
    → has_taken (state_seen q) me s i ≡ true
taken_just_now w p q me s i steps =
    let leaves = step_leaves _ _ me (TakeFree s i true) (seen p) (seen q) steps.clause in
    ap (λ st. has_taken st me s i) leaves.state
    ∙ (ap (is_held_by me) (put_at-same (state_after (seen p ++ leaves.between)).taker s.0 i (Some me))
    ∙ eq-eqb me.0 me.0 refl)

pub put_free-requires-clause-may : goal.put_free-requires-clause-may
put_free-requires-clause-may c =
    let taken : Steps c.args.words.now c.args.p c.take_free-free.new.p c.args.me (TakeFree first_selector 0 true) =
    rw c.if-free.true at c.take_free-free.ensures in
    ap (λ b. b || may_put_due (state_seen c.take_free-free.new.p) c.args.me first_selector 0)
    (taken_just_now _ _ _ c.args.me first_selector 0 taken)
