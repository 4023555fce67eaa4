-- What holds of each question and each reply of a plan holds of what follows it.
use Rattle.std.proofs.Common.{◌≡◌, ℕ, zero, suc, ◌+◌, ◌-◌, ◌<◌, ◌≤◌, Bool, true, false, if◌then◌else◌, List, [], ◌∷◌}
use Rattle.std.proofs.Common.{refl, ap, sym, subst, arith}
use Rattle.std.specs.Prelude.{⊤}
use Rattle.std.specs.List.{All}
use Rattle.std.proofs.lemmas.List.Elements.{All-nil, All-cons, All-head, All-tail}
use Rattle.nio_history.specs.Questions.{Question, question_of, answer_of}
use Rattle.nio_history.specs.declared.act.Act.{Act}
use Rattle.nio_steps.proofs.Each.{Each}
use Rattle.nio_steps.specs.Plan.{Plan, reply, ask, ◌>>=◌, when}
use Rattle.nio_steps.specs.Runs.{Follows, Completes}
use Rattle.nio_steps.specs.Sweeps.{sweep, sweep_to, sweep_over}
use Rattle.nio_steps.specs.Waiting.{Then}

-- ---- of plans after one another

pub each_bind : {A B : Type 0} (Asks : Question → Type 0) (First : A → Type 0) (Second : B → Type 0) (plan : Plan A)
    (f : A → Plan B)
    → Each Asks First plan → ((a : A) → First a → Each Asks Second (f a)) → Each Asks Second (plan >>= f)
each_bind Asks First Second (reply a) f here later = later a here
each_bind Asks First Second (ask q next) f here later =
    (here.0, λ answer. each_bind Asks First Second (next answer) f (here.1 answer) later)

pub each_if : {R : Type 0} (Asks : Question → Type 0) (Replies : R → Type 0) (b : Bool) (x y : Plan R)
    → (b ≡ true → Each Asks Replies x) → (b ≡ false → Each Asks Replies y) → Each Asks Replies (if b then x else y)
each_if Asks Replies true x y this that = this refl
each_if Asks Replies false x y this that = that refl

pub each_when : {A : Type 0} (Asks : Question → Type 0) (test : Bool) (plan : Plan A) → Each Asks (λ _. ⊤) plan
    → Each Asks (λ _. ⊤) (when test plan)
each_when Asks true plan here = each_bind Asks (λ _. ⊤) (λ _. ⊤) plan (λ _. reply tt) here (λ _ _. tt)
each_when Asks false plan here = tt

-- ---- of sweeps

by_count : {A : Type 0} (Asks : Question → Type 0) (Left : A → Type 0) (n i : ℕ) (f : ℕ → A → Plan A) (x : A)
    → Left x → ((k : ℕ) (y : A) → i ≤ k → k < i + n → Left y → Each Asks Left (f k y))
    → Each Asks Left (sweep n i f x)
unfolding sweep
by_count Asks Left zero i f x here each = here
by_count Asks Left (suc n) i f x here each =
    each_bind Asks Left Left (f i x) (λ y. sweep n (i + 1) f y) (each i x (omega arith) (omega arith) here)
    (λ y left. by_count Asks Left n (i + 1) f y left (λ k z low high. each k z (omega arith) (omega arith)))

pub each_sweep : {A : Type 0} (Asks : Question → Type 0) (Left : A → Type 0) (b i : ℕ) (f : ℕ → A → Plan A) (x : A)
    → Left x → ((k : ℕ) (y : A) → i ≤ k → k < b → Left y → Each Asks Left (f k y)) → Each Asks Left (sweep_to b i f x)
each_sweep Asks Left b i f x here each =
    by_count Asks Left (b - i) i f x here (λ k y low high. each k y low (omega arith))

-- at each element of a list that passes `Fits`
pub each_over : {X A : Type 0} (Asks : Question → Type 0) (Fits : X → Type 0) (Left : A → Type 0) (xs : List X)
    (f : X → A → Plan A) (x : A)
    → All Fits xs → Left x → ((e : X) (y : A) → Fits e → Left y → Each Asks Left (f e y))
    → Each Asks Left (sweep_over xs f x)
unfolding sweep_over
each_over Asks Fits Left [] f x fit here each = here
each_over Asks Fits Left (e ∷ later) f x fit here each =
    each_bind Asks Left Left (f e x) (λ y. sweep_over later f y) (each e x (All-head Fits e later fit) here)
    (λ y left. each_over Asks Fits Left later f y (All-tail Fits e later fit) left each)

-- ---- of what follows them

-- what is left of the plan is such a one again
pub each_part : {R : Type 0} (Asks : Question → Type 0) (Replies : R → Type 0) (plan : Plan R) (acts : List Act)
    (rest : Plan R)
    → Each Asks Replies plan → Follows plan acts rest → All (λ act. Asks (question_of act)) acts
    × Each Asks Replies rest
each_part Asks Replies plan [] rest here follows =
    (All-nil (λ act. Asks (question_of act)), subst (Each Asks Replies) follows here)
each_part Asks Replies (reply r) (act ∷ acts) rest here follows = absurd follows
each_part Asks Replies (ask q next) (act ∷ acts) rest here follows =
    let later = each_part Asks Replies (next (answer_of act)) acts rest (here.1 (answer_of act)) follows.1 in
    (All-cons (λ a. Asks (question_of a)) act acts (subst Asks (sym follows.0) here.0) later.0, later.1)

pub each_run : {R : Type 0} (Asks : Question → Type 0) (Replies : R → Type 0) (plan : Plan R) (acts : List Act) (r : R)
    → Each Asks Replies plan → Completes plan acts r → All (λ act. Asks (question_of act)) acts × Replies r
each_run Asks Replies plan acts r here run = each_part Asks Replies plan acts (reply r) here run

-- ---- a run of one plan and then another

pub split : {A B : Type 0} (plan : Plan A) (f : A → Plan B) (acts : List Act) (r : B) → Completes (plan >>= f) acts r
    → Then (Completes plan) (λ a. Completes (f a)) acts r
split (reply a) f acts r run =
    record { first = []; middle = a; second = acts; parts = refl; runs_first = refl; runs_second = run }
split (ask q next) f [] r run = absurd (cc run)
split (ask q next) f (act ∷ acts) r run =
    let later = split (next (answer_of act)) f acts r run.1 in
    record {
      first = act ∷ later.first;
      middle = later.middle;
      second = later.second;
      parts = ap (λ xs. act ∷ xs) later.parts;
      runs_first = (run.0, later.runs_first);
      runs_second = later.runs_second;
    }
