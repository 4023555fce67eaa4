-- What is kept while the calls of a timed script are made.
use Rattle.std.proofs.Common.{◌≡◌, ℕ, ◌+◌, List, ◌∷◌, ◌++◌, ap, ◌∙◌, append_assoc}
use Rattle.nio_deadline.specs.Timed.{Timed}
use Rattle.nio_timed.specs.Called.{timed_answer_from, timed_left, timed_reply}
use Rattle.nio_timed.specs.Replies.{timed_history_line}
use Rattle.nio_timed.specs.declared.call.TimedLine.{TimedLine}

-- one more line
pub one_more : (whole before after : List ℕ) (t t' : Timed) (n : ℕ) (l : TimedLine) (rest : List TimedLine)
    → before ++ timed_answer_from t n (l ∷ rest) ≡ whole
    → after ≡ before ++ timed_history_line n l (timed_reply t l.call) → t' ≡ timed_left t l.call
    → after ++ timed_answer_from t' (n + 1) rest ≡ whole
one_more whole before after t t' n l rest held more left =
    ap (λ u. after ++ timed_answer_from u (n + 1) rest) left
    ∙ ap (λ xs. xs ++ timed_answer_from (timed_left t l.call) (n + 1) rest) more
    ∙ append_assoc before (timed_history_line n l (timed_reply t l.call))
    (timed_answer_from (timed_left t l.call) (n + 1) rest)
    ∙ held
