-- Sweeps and seeks, turn by turn.
use Rattle.std.proofs.Common.{◌≡◌, ℕ, suc, ◌+◌, ◌-◌, ◌<◌, ◌≤◌, Option, Some, None, List, [], ◌∷◌, refl, ap, ◌∙◌, subst}
use Rattle.std.proofs.Common.{arith, get_or, drop, length}
use Rattle.std.proofs.lemmas.List.{drop_more, drop_all}
use Rattle.nio_base.specs.declared.numbers.CallerNo.{CallerNo}
use Rattle.nio_history.specs.PassViews.{PassView}
use Rattle.nio_steps.proofs.CallLaws.{left_of_call, left_more, left_bind}
use Rattle.nio_steps.proofs.RunLaws.{bind-bind}
use Rattle.nio_steps.specs.Calls.{CallClause, PartClause}
use Rattle.nio_steps.specs.Plan.{Plan, reply, ◌>>=◌}
use Rattle.nio_steps.specs.Runs.{Completes}
use Rattle.nio_steps.specs.Sweeps.{sweep, sweep_to, found_or, seek, seek_to, sweep_over}

-- ---- the plans

pub sweep_to-turn : {A : Type 0} (b i : ℕ) (f : ℕ → A → Plan A) (x : A) → i < b
    → sweep_to b i f x ≡ (f i x >>= λ y. sweep_to b (i + 1) f y)
unfolding sweep
sweep_to-turn b i f x below =
    let more : b - i ≡ suc (b - (i + 1)) = omega arith in
    ap (λ (n : ℕ). sweep n i f x) more

pub sweep_to-done : {A : Type 0} (b i : ℕ) (f : ℕ → A → Plan A) (x : A) → b ≤ i → sweep_to b i f x ≡ reply x
unfolding sweep
sweep_to-done b i f x past =
    let none : b - i ≡ 0 = omega arith in
    ap (λ (n : ℕ). sweep n i f x) none

pub seek_to-turn : {A : Type 0} (b i : ℕ) (f : ℕ → Plan (Option A)) → i < b
    → seek_to b i f ≡ (f i >>= found_or (seek_to b (i + 1) f))
unfolding seek
seek_to-turn b i f below =
    let more : b - i ≡ suc (b - (i + 1)) = omega arith in
    ap (λ (n : ℕ). seek n i f) more

pub seek_to-done : {A : Type 0} (b i : ℕ) (f : ℕ → Plan (Option A)) → b ≤ i → seek_to b i f ≡ reply None
unfolding seek
seek_to-done b i f past =
    let none : b - i ≡ 0 = omega arith in
    ap (λ (n : ℕ). seek n i f) none

pub sweep_over-turn : {X A : Type 0} (e : X) (later : List X) (f : X → A → Plan A) (x : A)
    → sweep_over (e ∷ later) f x ≡ (f e x >>= λ y. sweep_over later f y)
unfolding sweep_over
sweep_over-turn e later f x = refl

pub sweep_over-done : {X A : Type 0} (f : X → A → Plan A) (x : A) → sweep_over [] f x ≡ reply x
unfolding sweep_over
sweep_over-done f x = refl

-- ---- loops
--
-- `whole` is the plan of the call that has the loop, and `rest` how it goes on after the loop. The
-- loop's invariant says that of `whole` the sweep from the index on is left, and then `rest`.

-- one turn more of what is left
turn : {A B R : Type 0} {me : CallerNo} {whole : Plan R} {v0 v1 v2 : PassView} (left : Plan B) (step : Plan A)
    (go_on : A → Plan B) (rest : B → Plan R) (y : A)
    → left ≡ (step >>= go_on) → PartClause me whole v0 v1 (left >>= rest) → CallClause me (Completes step) v1 v2 y
    → PartClause me whole v0 v2 (go_on y >>= rest)
turn {me = me} {whole = whole} {v0 = v0} {v1 = v1} left step go_on rest y is so_far call =
    let same : (left >>= rest) ≡ (step >>= (λ z. go_on z >>= rest)) = ap (λ p. p >>= rest) is
    ∙ bind-bind step go_on rest in
    left_more (subst (PartClause me whole v0 v1) same so_far) (left_bind (λ z. go_on z >>= rest) (left_of_call call))

pub sweep_turn : {A R : Type 0} {me : CallerNo} {whole : Plan R} {v0 v1 v2 : PassView} (b i : ℕ) (f : ℕ → A → Plan A)
    (x y : A) (rest : A → Plan R)
    → i < b → PartClause me whole v0 v1 (sweep_to b i f x >>= rest) → CallClause me (Completes (f i x)) v1 v2 y
    → PartClause me whole v0 v2 (sweep_to b (i + 1) f y >>= rest)
sweep_turn b i f x y rest below =
    turn (sweep_to b i f x) (f i x) (λ z. sweep_to b (i + 1) f z) rest y (sweep_to-turn b i f x below)

pub sweep_done : {A R : Type 0} {me : CallerNo} {whole : Plan R} {v0 v1 : PassView} (b i : ℕ) (f : ℕ → A → Plan A)
    (x : A) (rest : A → Plan R)
    → b ≤ i → PartClause me whole v0 v1 (sweep_to b i f x >>= rest) → PartClause me whole v0 v1 (rest x)
sweep_done {me = me} {whole = whole} {v0 = v0} {v1 = v1} b i f x rest past =
    subst (PartClause me whole v0 v1) (ap (λ p. p >>= rest) (sweep_to-done b i f x past))

-- the steps at an index give nothing: the search goes on
pub seek_no : {A R : Type 0} {me : CallerNo} {whole : Plan R} {v0 v1 v2 : PassView} (b i : ℕ) (f : ℕ → Plan (Option A))
    (rest : Option A → Plan R)
    → i < b → PartClause me whole v0 v1 (seek_to b i f >>= rest) → CallClause me (Completes (f i)) v1 v2 None
    → PartClause me whole v0 v2 (seek_to b (i + 1) f >>= rest)
seek_no b i f rest below =
    turn (seek_to b i f) (f i) (found_or (seek_to b (i + 1) f)) rest None (seek_to-turn b i f below)

-- they give something: the search is over
pub seek_yes : {A R : Type 0} {me : CallerNo} {whole : Plan R} {v0 v1 v2 : PassView} (b i : ℕ) (f : ℕ → Plan (Option A))
    (rest : Option A → Plan R) (x : A)
    → i < b → PartClause me whole v0 v1 (seek_to b i f >>= rest) → CallClause me (Completes (f i)) v1 v2 (Some x)
    → PartClause me whole v0 v2 (rest (Some x))
seek_yes b i f rest x below =
    turn (seek_to b i f) (f i) (found_or (seek_to b (i + 1) f)) rest (Some x) (seek_to-turn b i f below)

pub seek_done : {A R : Type 0} {me : CallerNo} {whole : Plan R} {v0 v1 : PassView} (b i : ℕ) (f : ℕ → Plan (Option A))
    (rest : Option A → Plan R)
    → b ≤ i → PartClause me whole v0 v1 (seek_to b i f >>= rest) → PartClause me whole v0 v1 (rest None)
seek_done {me = me} {whole = whole} {v0 = v0} {v1 = v1} b i f rest past =
    subst (PartClause me whole v0 v1) (ap (λ p. p >>= rest) (seek_to-done b i f past))

pub over_turn : {X A R : Type 0} {me : CallerNo} {whole : Plan R} {v0 v1 v2 : PassView} (e : X) (later : List X)
    (f : X → A → Plan A) (x y : A) (rest : A → Plan R)
    → PartClause me whole v0 v1 (sweep_over (e ∷ later) f x >>= rest) → CallClause me (Completes (f e x)) v1 v2 y
    → PartClause me whole v0 v2 (sweep_over later f y >>= rest)
over_turn e later f x y rest =
    turn (sweep_over (e ∷ later) f x) (f e x) (λ z. sweep_over later f z) rest y (sweep_over-turn e later f x)

pub over_done : {X A R : Type 0} {me : CallerNo} {whole : Plan R} {v0 v1 : PassView} (f : X → A → Plan A) (x : A)
    (rest : A → Plan R)
    → PartClause me whole v0 v1 (sweep_over [] f x >>= rest) → PartClause me whole v0 v1 (rest x)
over_done {me = me} {whole = whole} {v0 = v0} {v1 = v1} f x rest =
    subst (PartClause me whole v0 v1) (ap (λ p. p >>= rest) (sweep_over-done f x))

-- the same for a loop over a list by its index
pub over_turn_at : {X A R : Type 0} {me : CallerNo} {whole : Plan R} {v0 v1 v2 : PassView} (xs : List X) (k : ℕ) (d : X)
    (f : X → A → Plan A) (x y : A) (rest : A → Plan R)
    → k < length xs → PartClause me whole v0 v1 (sweep_over (drop k xs) f x >>= rest)
    → CallClause me (Completes (f (get_or xs k d) x)) v1 v2 y
    → PartClause me whole v0 v2 (sweep_over (drop (k + 1) xs) f y >>= rest)
over_turn_at {me = me} {whole = whole} {v0 = v0} {v1 = v1} xs k d f x y rest below so_far call =
    over_turn (get_or xs k d) (drop (k + 1) xs) f x y rest
    (subst (λ elements. PartClause me whole v0 v1 (sweep_over elements f x >>= rest)) (drop_more xs k d below) so_far)
    call

pub over_done_at : {X A R : Type 0} {me : CallerNo} {whole : Plan R} {v0 v1 : PassView} (xs : List X) (k : ℕ)
    (f : X → A → Plan A) (x : A) (rest : A → Plan R)
    → length xs ≤ k → PartClause me whole v0 v1 (sweep_over (drop k xs) f x >>= rest)
    → PartClause me whole v0 v1 (rest x)
over_done_at {me = me} {whole = whole} {v0 = v0} {v1 = v1} xs k f x rest past so_far =
    over_done f x rest
    (subst (λ elements. PartClause me whole v0 v1 (sweep_over elements f x >>= rest)) (drop_all k xs past) so_far)
