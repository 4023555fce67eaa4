-- Plans: what a call may do. A plan is a reply, or one question to the state and how the call goes on
-- with each answer. So it is the table of a call's steps, in their order, with each refusal where it
-- comes.
use Rattle.std.specs.Prelude.{Bool, if◌then◌else◌}
use Rattle.nio_history.specs.Questions.{Question, Answer}

pub data Plan (R : Type 0) : Type 0 where
  reply : R → Plan R
  ask : Question → (Answer → Plan R) → Plan R

-- one plan and then another, which takes the reply of the first
abbrev pub ◌>>=◌ : {A B : Type 0} → Plan A → (A → Plan B) → Plan B
◌>>=◌ (reply a) f = f a
◌>>=◌ (ask question next) f = ask question (λ answer. next answer >>= f)

abbrev pub ◌>>◌ : {A B : Type 0} → Plan A → Plan B → Plan B
◌>>◌ first second = first >>= λ _. second

infixl 1 ◌>>=◌
infixl 1 ◌>>◌
-- a plan that is followed only where the test is true, whatever it replies
abbrev pub when : {A : Type 0} → Bool → Plan A → Plan (Unit {0})
when test plan = if test then (plan >> reply tt) else reply tt
