-- Plans performed on a state: one after another, sweeps by a closed form of the state after so many
-- turns, and that a run in a legal history is what is performed.
use Rattle.std.proofs.Common.{◌≡◌, ℕ, zero, suc, ◌+◌, ◌-◌, ◌<◌, ◌≤◌, Bool, true, false, if◌then◌else◌, Option, Some}
use Rattle.std.proofs.Common.{None, List, [], ◌∷◌, ◌++◌, map, refl, ap, sym, ◌∙◌, subst, append_assoc, add-zero, arith}
use Rattle.std.specs.List.{find}
use Rattle.std.proofs.lemmas.List.{append-nil}
use Rattle.nio_base.specs.declared.limits.Limits.{Limits}
use Rattle.nio_base.specs.declared.numbers.CallerNo.{CallerNo}
use Rattle.nio_history.proofs.Asked.{act_from-question_of}
use Rattle.nio_history.proofs.Legal.{legal_next}
use Rattle.nio_history.proofs.OneMore.{state_after-more}
use Rattle.nio_history.specs.Acts.{effect}
use Rattle.nio_history.specs.Answers.{act_from}
use Rattle.nio_history.specs.Histories.{state_after, event_of, IsStep, IsLegal}
use Rattle.nio_history.specs.PassViews.{PassView, known, done_between}
use Rattle.nio_history.specs.Questions.{Question, Answer, question_of, answer_of}
use Rattle.nio_history.specs.State.{State}
use Rattle.nio_history.specs.declared.act.Act.{Act}
use Rattle.nio_history.specs.declared.event.Event.{Event}
use Rattle.nio_steps.proofs.SweepLaws.{sweep_to-turn, sweep_to-done, seek_to-turn, seek_to-done, sweep_over-turn}
use Rattle.nio_steps.proofs.SweepLaws.{sweep_over-done}
use Rattle.nio_steps.specs.Calls.{CallClause}
use Rattle.nio_steps.specs.Perform.{Performed, perform}
use Rattle.nio_steps.specs.Plan.{Plan, reply, ask, ◌>>=◌}
use Rattle.nio_steps.specs.Runs.{Completes}
use Rattle.nio_steps.specs.Sweeps.{sweep_to, found_or, seek_to, sweep_over}

-- ---- plans after one another

pub perform-bind : {A B : Type 0} (me : CallerNo) (plan : Plan A) (f : A → Plan B) (st : State)
    → perform me (plan >>= f) st ≡ perform me (f (perform me plan st).answer) (perform me plan st).state
perform-bind me (reply a) f st = refl
perform-bind me (ask q next) f st = let act =
    act_from st me q in perform-bind me (next (answer_of act)) f (effect st me act)

-- a plan that is performed so, and then another
pub perform_then_on : {A B : Type 0} (me : CallerNo) (plan : Plan A) (f : A → Plan B) (st : State) (a : A) (st' : State)
    → perform me plan st ≡ record { answer = a; state = st' } → perform me (plan >>= f) st ≡ perform me (f a) st'
perform_then_on me plan f st a st' is = perform-bind me plan f st ∙ ap (λ p. perform me (f p.answer) p.state) is

pub perform_then : {R : Type 0} (me : CallerNo) (b : Bool) (x y : Plan R) (st : State) → b ≡ true
    → perform me (if b then x else y) st ≡ perform me x st
perform_then me b x y st is = ap (λ (c : Bool). perform me (if c then x else y) st) is

pub perform_else : {R : Type 0} (me : CallerNo) (b : Bool) (x y : Plan R) (st : State) → b ≡ false
    → perform me (if b then x else y) st ≡ perform me y st
perform_else me b x y st is = ap (λ (c : Bool). perform me (if c then x else y) st) is

-- ---- sweeps
--
-- `stands k` is the state before the turn of index k, and `left k` what the turns before it left.

from_closed : {A : Type 0} (me : CallerNo) (b i n : ℕ) (f : ℕ → A → Plan A) (left : ℕ → A) (stands : ℕ → State)
    → i + n ≡ b
    → ((k : ℕ) → i ≤ k → k < b
    → perform me (f k (left k)) (stands k) ≡ record { answer = left (k + 1); state = stands (k + 1) })
    → perform me (sweep_to b i f (left i)) (stands i) ≡ record { answer = left b; state = stands b }
from_closed me b i zero f left stands total each =
    let here : i ≡ b = omega arith in
    ap (λ p. perform me p (stands i)) (sweep_to-done b i f (left i) (omega arith))
    ∙ ap (λ (k : ℕ). record { answer = left k; state = stands k }) here
from_closed me b i (suc n) f left stands total each =
    ap (λ p. perform me p (stands i)) (sweep_to-turn b i f (left i) (omega arith))
    ∙ (perform_then_on me (f i (left i)) (λ y. sweep_to b (i + 1) f y) (stands i) (left (i + 1)) (stands (i + 1))
    (each i (omega arith) (omega arith))
    ∙ from_closed me b (i + 1) n f left stands (omega arith) (λ k low high. each k (omega arith) high))

pub perform_sweep : {A : Type 0} (me : CallerNo) (b i : ℕ) (f : ℕ → A → Plan A) (left : ℕ → A) (stands : ℕ → State)
    → i ≤ b
    → ((k : ℕ) → i ≤ k → k < b
    → perform me (f k (left k)) (stands k) ≡ record { answer = left (k + 1); state = stands (k + 1) })
    → perform me (sweep_to b i f (left i)) (stands i) ≡ record { answer = left b; state = stands b }
perform_sweep me b i f left stands within each = from_closed me b i (b - i) f left stands (omega arith) each

-- n numbers from i on, in rising order
unfoldable pub indexes : ℕ → ℕ → List ℕ
indexes i zero = []
indexes i (suc n) = i ∷ indexes (i + 1) n

pub indexes-push : (i n : ℕ) → indexes i (suc n) ≡ indexes i n ++ (i + n) ∷ []
unfolding indexes
indexes-push i zero = ap (λ (k : ℕ). k ∷ []) (sym (add-zero i))
indexes-push i (suc n) =
    let same : (i + 1) + n ≡ i + suc n = omega arith in
    ap (λ ks. i ∷ ks) (indexes-push (i + 1) n ∙ ap (λ (k : ℕ). indexes (i + 1) n ++ k ∷ []) same)

find_head : {X : Type 0} (p : X → Bool) (x : X) (xs : List X) (b : Bool) → p x ≡ b
    → find p (x ∷ xs) ≡ (if b then Some x else find p xs)
find_head p x xs b is = ap (λ (c : Bool). if c then Some x else find p xs) is

-- what a search leaves that changes nothing until it finds, by the index that it finds
abbrev pub found_at : {A : Type 0} → State → (ℕ → A) → (ℕ → State) → Option ℕ → Performed (Option A)
found_at st x after None = record { answer = None; state = st }
found_at st x after (Some k) = record { answer = Some (x k); state = after k }

-- The steps give something at the indexes that pass the test, and change nothing at the others: the search
-- finds the first index that passes.
seek_turns : {A : Type 0} (me : CallerNo) (b n i : ℕ) (f : ℕ → Plan (Option A)) (p : ℕ → Bool) (x : ℕ → A) (st : State)
    (after : ℕ → State) → i + n ≡ b
    → ((k : ℕ) → i ≤ k → k < b → p k ≡ false → perform me (f k) st ≡ record { answer = None; state = st })
    → ((k : ℕ) → i ≤ k → k < b → p k ≡ true → perform me (f k) st ≡ record { answer = Some (x k); state = after k })
    → perform me (seek_to b i f) st ≡ found_at st x after (find p (indexes i n))
unfolding indexes
seek_turns me b zero i f p x st after total others passes =
    ap (λ plan. perform me plan st) (seek_to-done b i f (omega arith))
seek_turns {A = A} me b (suc n) i f p x st after total others passes =
    ap (λ plan. perform me plan st) (seek_to-turn b i f (omega arith))
    ∙ by_test (p i) refl
    (seek_turns me b n (i + 1) f p x st after (omega arith) (λ k low high. others k (omega arith) high)
    (λ k low high. passes k (omega arith) high))
  where
    by_test : (c : Bool) → p i ≡ c
        → perform me (seek_to b (i + 1) f) st ≡ found_at st x after (find p (indexes (i + 1) n))
        → perform me (f i >>= found_or (seek_to b (i + 1) f)) st ≡ found_at st x after (find p (i ∷ indexes (i + 1) n))
    by_test true is rest =
        perform_then_on me (f i) (found_or (seek_to b (i + 1) f)) st (Some (x i)) (after i)
        (passes i (omega arith) (omega arith) is)
        ∙ ap (found_at st x after) (sym (find_head p i (indexes (i + 1) n) true is))
    by_test false is rest =
        perform_then_on me (f i) (found_or (seek_to b (i + 1) f)) st None st (others i (omega arith) (omega arith) is)
        ∙ (rest ∙ ap (found_at st x after) (sym (find_head p i (indexes (i + 1) n) false is)))

pub perform_seek : {A : Type 0} (me : CallerNo) (b i : ℕ) (f : ℕ → Plan (Option A)) (p : ℕ → Bool) (x : ℕ → A)
    (st : State) (after : ℕ → State) → i ≤ b
    → ((k : ℕ) → i ≤ k → k < b → p k ≡ false → perform me (f k) st ≡ record { answer = None; state = st })
    → ((k : ℕ) → i ≤ k → k < b → p k ≡ true → perform me (f k) st ≡ record { answer = Some (x k); state = after k })
    → perform me (seek_to b i f) st ≡ found_at st x after (find p (indexes i (b - i)))
perform_seek me b i f p x st after within others passes =
    seek_turns me b (b - i) i f p x st after (omega arith) others passes

-- over a list: `stands` and `left` by the elements that are done
pub perform_over : {X A : Type 0} (me : CallerNo) (xs : List X) (f : X → A → Plan A) (left : List X → A)
    (stands : List X → State)
    → ((past : List X) (e : X) (later : List X) → xs ≡ past ++ e ∷ later
    → perform me (f e (left past)) (stands past) ≡ record {
      answer = left (past ++ e ∷ []);
      state = stands (past ++ e ∷ []);
    })
    → perform me (sweep_over xs f (left [])) (stands []) ≡ record { answer = left xs; state = stands xs }
perform_over {X = X} me xs f left stands each = from_here [] xs refl
  where
    from_here : (past later : List X) → xs ≡ past ++ later
        → perform me (sweep_over later f (left past)) (stands past) ≡ record { answer = left xs; state = stands xs }
    from_here past [] parts =
        let same : past ≡ xs = sym (append-nil past) ∙ sym parts in
        ap (λ p. perform me p (stands past)) (sweep_over-done f (left past))
        ∙ ap (λ (ys : List X). record { answer = left ys; state = stands ys }) same
    from_here past (e ∷ later) parts =
        let past' = past ++ e ∷ [] in
        ap (λ p. perform me p (stands past)) (sweep_over-turn e later f (left past))
        ∙ (perform_then_on me (f e (left past)) (λ y. sweep_over later f y) (stands past) (left past') (stands past')
        (each past e later parts)
        ∙ from_here past' later (parts ∙ sym (append_assoc past (e ∷ []) later)))

-- ---- runs in a legal history

-- a step along a plan is performed
perform_ask : {R : Type 0} (l : Limits) (me : CallerNo) (q : Question) (next : Answer → Plan R) (past : List Event)
    (act : Act)
    → IsStep l past (event_of me act) → question_of act ≡ q
    → perform me (ask q next) (state_after past) ≡ perform me (next (answer_of act))
    (state_after (past ++ event_of me act ∷ []))
perform_ask l me q next past act step asks =
    let st = state_after past in
    let made : act_from st me q ≡ act = ap (act_from st me) (sym asks)
    ∙ sym (act_from-question_of st me act step.answers) in
    ap (λ x. perform me (next (answer_of x)) (effect st me x)) made
    ∙ ap (λ x. perform me (next (answer_of act)) x) (sym (state_after-more past (event_of me act)))

-- a whole run of a plan that is legal after a history, with no event of another caller between, has
-- the reply and leaves the state of the plan performed on the state that the history left
pub perform_ran : {R : Type 0} (l : Limits) (me : CallerNo) (plan : Plan R) (past : List Event) (acts : List Act)
    (r : R)
    → IsLegal l (past ++ map (event_of me) acts) → Completes plan acts r
    → perform me plan (state_after past) ≡ record { answer = r; state = state_after (past ++ map (event_of me) acts) }
perform_ran l me plan past [] r legal whole =
    ap (λ p. perform me p (state_after past)) whole
    ∙ ap (λ x. record { answer = r; state = state_after x }) (sym (append-nil past))
perform_ran l me (reply a) past (act ∷ acts) r legal whole = absurd whole
perform_ran l me (ask q next) past (act ∷ acts) r legal whole =
    let e = event_of me act in
    let joined : (past ++ e ∷ []) ++ map (event_of me) acts ≡ past ++ e ∷ map (event_of me) acts = append_assoc past
    (e ∷ []) (map (event_of me) acts) in
    perform_ask l me q next past act (legal_next l past e (map (event_of me) acts) legal) whole.0
    ∙ (perform_ran l me (next (answer_of act)) (past ++ e ∷ []) acts r (subst (IsLegal l) (sym joined) legal) whole.1
    ∙ ap (λ x. record { answer = r; state = state_after x }) joined)

-- so a call on a table's only pass
pub perform_call : {R : Type 0} (me : CallerNo) (plan : Plan R) (old new : PassView) (answer : R)
    → CallClause me (Completes plan) old new answer → old.only ≡ true
    → perform me plan (known old) ≡ record { answer = answer; state = known new }
perform_call me plan old new answer call only =
    let grown = (call.acts.only only).1 in
    perform_ran old.limits me plan old.seen (done_between me old new) answer
    (subst (IsLegal old.limits) grown call.acts.history.legal) call.shape
    ∙ ap (λ x. record { answer = answer; state = state_after x }) (sym grown)
