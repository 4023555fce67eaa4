-- One walk over plans for many laws. What holds of no acts, of one that asks a calm question, and of acts one after the
-- other, holds of each run of a plan that asks calm questions alone.
use Rattle.std.proofs.Common.{◌≡◌, ℕ, zero, suc, ◌+◌, ◌-◌, Bool, true, false, if◌then◌else◌, Option, Some, None, List}
use Rattle.std.proofs.Common.{[], ◌∷◌, ◌++◌, sym, subst}
use Rattle.std.specs.Prelude.{⊤}
use Rattle.nio_base.specs.declared.numbers.SelNo.{SelNo}
use Rattle.nio_history.specs.Questions.{Question, Answer, question_of, answer_of}
use Rattle.nio_history.specs.declared.act.Act.{Act}
use Rattle.nio_history.specs.declared.found.Mark.{Mark as KeyMark}
use Rattle.nio_history.specs.declared.found.Stage.{Stage}
use Rattle.nio_steps.proofs.Walks.{Always, always_weaker, always_bind, always_if, always_run}
use Rattle.nio_steps.specs.KeyCalls.{under_pin}
use Rattle.nio_steps.specs.Plan.{Plan, reply, ask, ◌>>=◌, ◌>>◌}
use Rattle.nio_steps.specs.Runs.{Completes}
use Rattle.nio_steps.specs.Steps.{unpin, stage_in}
use Rattle.nio_steps.specs.Sweeps.{sweep, sweep_to, found_or, seek, seek_to, sweep_over}

-- no law minds the question: it neither pins nor claims an index, nor publishes, marks or removes a key, nor closes a
-- channel, enters a selector or gives a turn back, nor takes bits of touched indexes or looks at one as a selection with
-- the list does
abbrev pub is_plain : Question → Bool
is_plain (Question.claim s i c) = false
is_plain (Question.publish s i) = false
is_plain (Question.give_turn s) = false
is_plain (Question.remove s i) = false
is_plain (Question.mark s i from told) = false
is_plain (Question.close_bit c from) = false
is_plain (Question.enter s) = false
is_plain (Question.pin s i) = false
is_plain (Question.unpin s i) = false
is_plain (Question.claim_again s i c from) = false
is_plain (Question.take_touched s j) = false
is_plain (Question.look_index s i) = false
is_plain _ = true

pub record Walk : Type 1 where
  -- what holds of the acts of a run
  pub Holds : List Act → Type 0
  -- a question that may be asked at any time
  pub Calm : Question → Type 0
  pub none : Holds []
  pub append : (xs ys : List Act) → Holds xs → Holds ys → Holds (xs ++ ys)
  pub one : (act : Act) → Calm (question_of act) → Holds (act ∷ [])
  pub plain : (question : Question) → is_plain question ≡ true → Calm question
  -- what is done under a pin
  pub pinned : {A : Type 0} (s : SelNo) (i : ℕ) (steps : Stage → Plan A)
      → ((stage : Stage) → Always (λ acts _. Holds acts) (steps stage))
      → Always (λ acts _. Holds acts) (under_pin s i steps)

-- it holds of each run of the plan
pub record Walks (w : Walk) {R : Type 0} (plan : Plan R) : Type 0 where
  pub always : Always (λ acts _. w.Holds acts) plan

pub walks_run : {R : Type 0} {w : Walk} (plan : Plan R) (acts : List Act) (answer : R) → Walks w plan
    → Completes plan acts answer → w.Holds acts
walks_run {w = w} plan acts answer here run = always_run (λ xs _. w.Holds xs) plan acts answer here.always run

-- after acts of which it holds
pub walks_after : {R : Type 0} {w : Walk} (xs : List Act) (plan : Plan R) → w.Holds xs → Walks w plan
    → Always (λ acts _. w.Holds (xs ++ acts)) plan
walks_after {w = w} xs plan before here =
    always_weaker (λ acts _. w.Holds acts) (λ acts _. w.Holds (xs ++ acts)) plan
    (λ acts _ more. w.append xs acts before more) here.always

-- ---- the parts of plans

pub walks_reply : {R : Type 0} {w : Walk} (r : R) → Walks w (reply r)
walks_reply {w = w} r = record { always = w.none }

pub walks_calm : {R : Type 0} {w : Walk} (question : Question) (next : Answer → Plan R) → w.Calm question
    → ((answer : Answer) → Walks w (next answer)) → Walks w (ask question next)
walks_calm {w = w} question next calm later = record {
  always = λ act asks. walks_after (act ∷ []) (next (answer_of act)) (w.one act (subst w.Calm (sym asks) calm))
      (later (answer_of act));
}

pub walks_ask : {R : Type 0} {w : Walk} (question : Question) (next : Answer → Plan R) → is_plain question ≡ true
    → ((answer : Answer) → Walks w (next answer)) → Walks w (ask question next)
walks_ask {w = w} question next is later = walks_calm question next (w.plain question is) later

pub walks_bind : {A B : Type 0} {w : Walk} (plan : Plan A) (f : A → Plan B) → Walks w plan → ((a : A) → Walks w (f a))
    → Walks w (plan >>= f)
walks_bind {w = w} plan f here later = record {
  always = always_bind (λ acts _. w.Holds acts) (λ acts _. w.Holds acts) plan f here.always
      (λ xs a before. walks_after xs (f a) before (later a));
}

pub walks_if : {R : Type 0} {w : Walk} (b : Bool) (x y : Plan R) → Walks w x → Walks w y
    → Walks w (if b then x else y)
walks_if {w = w} b x y this that =
    record { always = always_if (λ acts _. w.Holds acts) b x y (λ _. this.always) (λ _. that.always) }

walks_turns : {A : Type 0} {w : Walk} (n i : ℕ) (f : ℕ → A → Plan A) (x : A) → ((k : ℕ) (y : A) → Walks w (f k y))
    → Walks w (sweep n i f x)
unfolding sweep
walks_turns zero i f x each = walks_reply x
walks_turns (suc n) i f x each =
    walks_bind (f i x) (λ y. sweep n (i + 1) f y) (each i x) (λ y. walks_turns n (i + 1) f y each)

pub walks_sweep : {A : Type 0} {w : Walk} (b i : ℕ) (f : ℕ → A → Plan A) (x : A) → ((k : ℕ) (y : A) → Walks w (f k y))
    → Walks w (sweep_to b i f x)
walks_sweep b i f x each = walks_turns (b - i) i f x each

pub walks_over : {X A : Type 0} {w : Walk} (xs : List X) (f : X → A → Plan A) (x : A)
    → ((e : X) (y : A) → Walks w (f e y)) → Walks w (sweep_over xs f x)
unfolding sweep_over
walks_over [] f x each = walks_reply x
walks_over (e ∷ later) f x each =
    walks_bind (f e x) (λ y. sweep_over later f y) (each e x) (λ y. walks_over later f y each)

walks_tries : {A : Type 0} {w : Walk} (n i : ℕ) (f : ℕ → Plan (Option A)) → ((k : ℕ) → Walks w (f k))
    → Walks w (seek n i f)
unfolding seek
walks_tries zero i f each = walks_reply None
walks_tries {A = A} {w = w} (suc n) i f each =
    walks_bind (f i) (found_or (seek n (i + 1) f)) (each i) (by_found (walks_tries n (i + 1) f each))
  where
    by_found : Walks w (seek n (i + 1) f) → (here : Option A) → Walks w (found_or (seek n (i + 1) f) here)
    by_found later (Some x) = walks_reply (Some x)
    by_found later None = later

pub walks_seek : {A : Type 0} {w : Walk} (b i : ℕ) (f : ℕ → Plan (Option A)) → ((k : ℕ) → Walks w (f k))
    → Walks w (seek_to b i f)
walks_seek b i f each = walks_tries (b - i) i f each

pub walks_under_pin : {A : Type 0} {w : Walk} (s : SelNo) (i : ℕ) (steps : Stage → Plan A)
    → ((stage : Stage) → Walks w (steps stage)) → Walks w (under_pin s i steps)
walks_under_pin {w = w} s i steps each =
    record { always = w.pinned s i steps (λ stage. (each stage).always) }

pub ruleset walking = (walks_reply, walks_ask, walks_bind, walks_if, walks_sweep, walks_over, walks_seek)

-- a turn of this selector may be given back at any time, and its keys marked and removed
pub record IsCalmOn (w : Walk) (s : SelNo) : Type 0 where
  pub gives : w.Calm (Question.give_turn s)
  pub marks : (i : ℕ) (from : KeyMark) (told : ℕ) → w.Calm (Question.mark s i from told)
  pub removes : (i : ℕ) → w.Calm (Question.remove s i)

-- bits of this selector may be taken at any time, and its indexes looked at as a selection with the list does
pub record IsCalmListing (w : Walk) (s : SelNo) : Type 0 where
  pub takes : (j : ℕ) → w.Calm (Question.take_touched s j)
  pub looks : (i : ℕ) → w.Calm (Question.look_index s i)

-- where there is a list
abbrev pub MayList : {A : Type 0} → Walk → SelNo → Option A → Type 0
MayList w s None = ⊤
MayList w s (Some known) = IsCalmListing w s

-- ---- where a pin is calm too

pub pinned_calm : {A : Type 0} (Holds : List Act → Type 0)
    → ((xs ys : List Act) → Holds xs → Holds ys → Holds (xs ++ ys))
    → (s : SelNo) (i : ℕ)
    → ((act : Act) → question_of act ≡ Question.pin s i → Holds (act ∷ []))
    → ((act : Act) → question_of act ≡ Question.unpin s i → Holds (act ∷ []))
    → (steps : Stage → Plan A)
    → ((stage : Stage) → Always (λ acts _. Holds acts) (steps stage))
    → Always (λ acts _. Holds acts) (under_pin s i steps)
pinned_calm Holds append s i pins unpins steps each = λ act asks.
    always_bind (λ acts _. Holds acts) (λ acts _. Holds (act ∷ acts)) (steps (stage_in (answer_of act)))
    (λ answer. (unpin s i >> reply answer)) (each (stage_in (answer_of act)))
    (λ xs answer here act' asks'. append (act ∷ []) (xs ++ act' ∷ []) (pins act asks)
    (append xs (act' ∷ []) here (unpins act' asks')))
