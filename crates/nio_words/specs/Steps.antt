-- What a step on the table does.
use Rattle.std.specs.Prelude.{◌≡◌, [], ◌∷◌, ◌++◌}
use Rattle.nio_base.specs.declared.numbers.CallerNo.{CallerNo}
use Rattle.nio_history.specs.Histories.{event_of, StepClause}
use Rattle.nio_history.specs.declared.act.Act.{Act}
use Rattle.nio_words.specs.Passes.{seen, Holds, HoldSame, IsOnly, IsPassOf, limits_of}
use Rattle.nio_words.specs.declared.words.Pass.{Pass}
use Rattle.nio_words.specs.declared.words.Words.{Words}

-- one step of `me` on the table with this pass, before and after: the history clause holds, and the
-- pass holds the same numbers. The table's only pass stays so, and its history grows by this event
-- alone
pub record Steps (w : Words) (p q : Pass) (me : CallerNo) (act : Act) : Type 0 where
  pub pass : IsPassOf w q
  pub clause : StepClause (limits_of w) (Holds p) me act (seen p) (seen q)
  pub numbers : HoldSame p q
  pub only : IsOnly p → IsOnly q × (seen q ≡ seen p ++ event_of me act ∷ [])
