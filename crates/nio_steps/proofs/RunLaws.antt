-- Plans after one another, and what follows them.
use Rattle.std.proofs.Common.{◌≡◌, List, [], ◌∷◌, ◌++◌, refl, ap, sym, subst}
use Rattle.nio_history.specs.Questions.{answer_of}
use Rattle.nio_history.specs.declared.act.Act.{Act}
use Rattle.nio_steps.specs.Plan.{Plan, reply, ask, ◌>>=◌}
use Rattle.nio_steps.specs.Runs.{Follows}

-- ---- plans after one another

pub bind-reply : {A : Type 0} (plan : Plan A) → (plan >>= reply) ≡ plan
bind-reply (reply r) = refl
bind-reply (ask q next) = λ i. ask q (λ a. bind-reply (next a) i)

pub bind-bind : {A B C : Type 0} (plan : Plan A) (f : A → Plan B) (g : B → Plan C)
    → ((plan >>= f) >>= g) ≡ (plan >>= (λ x. f x >>= g))
bind-bind (reply r) f g = refl
bind-bind (ask q next) f g = λ i. ask q (λ a. bind-bind (next a) f g i)

-- ---- what follows a plan

-- acts along a plan, and then more along what they left
pub follows_more : {R : Type 0} (plan : Plan R) (acts : List Act) (middle : Plan R) (later : List Act) (rest : Plan R)
    → Follows plan acts middle → Follows middle later rest → Follows plan (acts ++ later) rest
follows_more plan [] middle later rest first second = subst (λ p. Follows p later rest) (sym first) second
follows_more (reply r) (act ∷ acts) middle later rest first second = absurd first
follows_more (ask q next) (act ∷ acts) middle later rest first second =
    (first.0, follows_more (next (answer_of act)) acts middle later rest first.1 second)

-- acts along a plan are acts along that plan and then another
pub follows_bind : {A B : Type 0} (plan : Plan A) (f : A → Plan B) (acts : List Act) (rest : Plan A)
    → Follows plan acts rest → Follows (plan >>= f) acts (rest >>= f)
follows_bind plan f [] rest here = ap (λ p. p >>= f) here
follows_bind (reply r) f (act ∷ acts) rest here = absurd here
follows_bind (ask q next) f (act ∷ acts) rest here = (here.0, follows_bind (next (answer_of act)) f acts rest here.1)
