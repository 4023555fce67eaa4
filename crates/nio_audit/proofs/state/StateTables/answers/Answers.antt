use Rattle.nio_audit.proofs.Answering.{flag_iff, word_iff, index_iff}
use Rattle.nio_audit.proofs.state.StateTables.answers.Goals as goal

pub returns-in-ClaimAgain : goal.returns-in-ClaimAgain
returns-in-ClaimAgain c = λ due. rw c.in-ClaimAgain.is (flag_iff _ _ _ (c.is_pinned.ensures due))

pub returns-in-LookFree : goal.returns-in-LookFree
returns-in-LookFree c = λ due. rw c.in-LookFree.is (word_iff _ _ _ c.free_word.ensures)

pub returns-in-Reopen : goal.returns-in-Reopen
returns-in-Reopen c = λ due. rw c.in-Reopen.is (flag_iff _ _ _ c.has_another.ensures)

pub returns-in-LookTouched : goal.returns-in-LookTouched
returns-in-LookTouched c = λ due. rw c.in-LookTouched.is (word_iff _ _ _ c.touched_word.ensures)

pub returns-in-TakeTouched : goal.returns-in-TakeTouched
returns-in-TakeTouched c = λ due. rw c.in-TakeTouched.is (word_iff _ _ _ c.touched_word-in-TakeTouched.ensures)

pub returns-in-LookIndex : goal.returns-in-LookIndex
returns-in-LookIndex c = λ due. rw c.in-LookIndex.is (index_iff _ _ _ _ c.eq-in-LookIndex.ensures (c.index.ensures due))
