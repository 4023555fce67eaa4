-- What holds of every whole run of a plan: of what the caller does in it, and of its reply.
use Rattle.std.proofs.Common.{◌≡◌, ℕ, zero, suc, ◌+◌, ◌-◌, ◌<◌, ◌≤◌, Bool, true, false, if◌then◌else◌, List, [], ◌∷◌}
use Rattle.std.proofs.Common.{◌++◌, refl, sym, ◌∙◌, subst, append_assoc, arith}
use Rattle.std.proofs.lemmas.List.{append-nil}
use Rattle.nio_history.specs.Questions.{question_of, answer_of}
use Rattle.nio_history.specs.declared.act.Act.{Act}
use Rattle.nio_steps.specs.Plan.{Plan, reply, ask, ◌>>=◌}
use Rattle.nio_steps.specs.Runs.{Completes}
use Rattle.nio_steps.specs.Sweeps.{sweep, sweep_to, sweep_over}

-- `P` holds of the acts and the reply of each run of the plan
abbrev pub Always : {R : Type 0} → (List Act → R → Type 0) → Plan R → Type 0
Always P (reply r) = P [] r
Always P (ask question next) = (act : Act) → question_of act ≡ question
    → Always (λ acts r. P (act ∷ acts) r) (next (answer_of act))

pub always_run : {R : Type 0} (P : List Act → R → Type 0) (plan : Plan R) (acts : List Act) (r : R) → Always P plan
    → Completes plan acts r → P acts r
always_run P (reply a) [] r here run = let same : a ≡ r = cc run in subst (P []) same here
always_run P (reply a) (act ∷ acts) r here run = absurd run
always_run P (ask q next) [] r here run = absurd (cc run)
always_run P (ask q next) (act ∷ acts) r here run =
    always_run (λ xs b. P (act ∷ xs) b) (next (answer_of act)) acts r (here act run.0) run.1

pub always_weaker : {R : Type 0} (P Q : List Act → R → Type 0) (plan : Plan R)
    → ((acts : List Act) (r : R) → P acts r → Q acts r) → Always P plan → Always Q plan
always_weaker P Q (reply r) weaker here = weaker [] r here
always_weaker P Q (ask q next) weaker here =
    λ act asks. always_weaker (λ xs b. P (act ∷ xs) b) (λ xs b. Q (act ∷ xs) b) (next (answer_of act))
    (λ acts r. weaker (act ∷ acts) r) (here act asks)

pub always_bind : {A B : Type 0} (First : List Act → A → Type 0) (P : List Act → B → Type 0) (plan : Plan A)
    (f : A → Plan B)
    → Always First plan → ((xs : List Act) (a : A) → First xs a → Always (λ ys r. P (xs ++ ys) r) (f a))
    → Always P (plan >>= f)
always_bind First P (reply a) f here later = later [] a here
always_bind First P (ask q next) f here later =
    λ act asks. always_bind (λ xs a. First (act ∷ xs) a) (λ xs b. P (act ∷ xs) b) (next (answer_of act)) f
    (here act asks) (λ xs a. later (act ∷ xs) a)

-- what holds of each run of one plan and then another holds of the first with each run of the second
pub always_unbind : {A B : Type 0} (P : List Act → B → Type 0) (plan : Plan A) (f : A → Plan B)
    → Always P (plan >>= f) → Always (λ xs a. Always (λ ys r. P (xs ++ ys) r) (f a)) plan
always_unbind P (reply a) f here = here
always_unbind P (ask q next) f here =
    λ act asks. always_unbind (λ xs b. P (act ∷ xs) b) (next (answer_of act)) f (here act asks)

pub always_if : {R : Type 0} (P : List Act → R → Type 0) (b : Bool) (x y : Plan R)
    → (b ≡ true → Always P x) → (b ≡ false → Always P y) → Always P (if b then x else y)
always_if P true x y this that = this refl
always_if P false x y this that = that refl

-- where nothing is asked of them
pub always_any : {R : Type 0} (plan : Plan R) → Always (λ _ _. Unit {0}) plan
always_any (reply r) = tt
always_any (ask q next) = λ act _. always_any (next (answer_of act))

-- each run is a run
pub always_itself : {R : Type 0} (plan : Plan R) → Always (Completes plan) plan
always_itself (reply r) = refl
always_itself (ask q next) =
    λ act asks. always_weaker (Completes (next (answer_of act))) (λ acts r. Completes (ask q next) (act ∷ acts) r)
    (next (answer_of act)) (λ acts r run. (asks, run)) (always_itself (next (answer_of act)))

-- after the acts that were done before
abbrev After : {R : Type 0} → (List Act → R → Type 0) → List Act → List Act → R → Type 0
After P xs ys r = P (xs ++ ys) r

-- the acts before, and those of a part, are one list
join : {R : Type 0} (P : List Act → R → Type 0) (xs ys : List Act) (plan : Plan R) → Always (After P (xs ++ ys)) plan
    → Always (λ zs r. After P xs (ys ++ zs) r) plan
join P xs ys plan here =
    always_weaker (After P (xs ++ ys)) (λ zs r. After P xs (ys ++ zs) r) plan
    (λ zs r holds. subst (λ acts. P acts r) (append_assoc xs ys zs) holds) here

none_before : {R : Type 0} (P : List Act → R → Type 0) (xs : List Act) (r : R) → P xs r → After P xs [] r
none_before P xs r here = subst (λ acts. P acts r) (sym (append-nil xs)) here

-- ---- sweeps: `Left k` is what holds of the acts and of what is left before the turn of index k

by_count : {A : Type 0} (Left : ℕ → List Act → A → Type 0) (b n i : ℕ) (f : ℕ → A → Plan A) (xs : List Act) (x : A)
    → i + n ≡ b → Left i xs x
    → ((k : ℕ) (ys : List Act) (y : A) → i ≤ k → k < b → Left k ys y → Always (After (Left (k + 1)) ys) (f k y))
    → Always (After (Left b) xs) (sweep n i f x)
unfolding sweep
by_count Left b zero i f xs x total here each =
    let end : i ≡ b = omega arith in
    none_before (Left b) xs x (subst (λ (m : ℕ). Left m xs x) end here)
by_count Left b (suc n) i f xs x total here each =
    always_bind (After (Left (i + 1)) xs) (After (Left b) xs) (f i x) (λ y. sweep n (i + 1) f y)
    (each i xs x (omega arith) (omega arith) here)
    (λ ys y left. join (Left b) xs ys (sweep n (i + 1) f y)
    (by_count Left b n (i + 1) f (xs ++ ys) y (omega arith) left (λ k zs z low high. each k zs z (omega arith) high)))

pub always_sweep : {A : Type 0} (Left : ℕ → List Act → A → Type 0) (b i : ℕ) (f : ℕ → A → Plan A) (x : A) → i ≤ b
    → Left i [] x
    → ((k : ℕ) (ys : List Act) (y : A) → i ≤ k → k < b → Left k ys y
    → Always (λ zs z. Left (k + 1) (ys ++ zs) z) (f k y)) → Always (Left b) (sweep_to b i f x)
always_sweep Left b i f x within here each = by_count Left b (b - i) i f [] x (omega arith) here each

-- over a list: `Left past` is what holds after the turns of these elements
pub always_over : {X A : Type 0} (Left : List X → List Act → A → Type 0) (xs : List X) (f : X → A → Plan A) (x : A)
    → Left [] [] x
    → ((past : List X) (e : X) (later : List X) (ys : List Act) (y : A) → xs ≡ past ++ e ∷ later → Left past ys y
    → Always (λ zs z. Left (past ++ e ∷ []) (ys ++ zs) z) (f e y))
    → Always (Left xs) (sweep_over xs f x)
unfolding sweep_over
always_over {X = X} {A = A} Left xs f x here each = from_here [] xs [] x refl here
  where
    from_here : (past later : List X) (acts : List Act) (y : A) → xs ≡ past ++ later → Left past acts y
        → Always (After (Left xs) acts) (sweep_over later f y)
    from_here past [] acts y parts left =
        let same : past ≡ xs = sym (append-nil past) ∙ sym parts in
        none_before (Left xs) acts y (subst (λ done. Left done acts y) same left)
    from_here past (e ∷ later) acts y parts left =
        always_bind (After (Left (past ++ e ∷ [])) acts) (After (Left xs) acts) (f e y) (λ z. sweep_over later f z)
        (each past e later acts y parts left)
        (λ zs z left'. join (Left xs) acts zs (sweep_over later f z)
        (from_here (past ++ e ∷ []) later (acts ++ zs) z (parts ∙ sym (append_assoc past (e ∷ []) later)) left'))
