-- Reading and writing that wait: a run that went before tells how a closed channel is refused.
use Rattle.std.proofs.Common.{◌≡◌, ◌≢◌, ℕ, zero, suc, length, replicate, append_assoc, subst, ◌<◌, ◌==◌, Bool, true}
use Rattle.std.proofs.Common.{false, if◌then◌else◌, IsTrue, Result, Ok, Err, List}
use Rattle.std.proofs.Common.{[], ◌∷◌, ◌++◌, refl, ap, sym, ◌∙◌, arith, eq-eqb}
use Rattle.std.proofs.lemmas.Bool.{cond-true}
use Rattle.std.proofs.lemmas.List.{append-nil}
use Rattle.std.proofs.lemmas.List.Elements.{All-nil, All-push}
use Rattle.nio_base.specs.declared.limits.Limits.{Limits}
use Rattle.nio_base.specs.declared.numbers.ChanId.{ChanId}
use Rattle.nio_base.specs.declared.numbers.CallerNo.{CallerNo}
use Rattle.nio_history.proofs.PassViews.{acts_nothing}
use Rattle.nio_history.specs.Histories.{IsLegal}
use Rattle.nio_history.specs.PassViews.{PassView}
use Rattle.nio_history.specs.declared.act.Act.{Act}
use Rattle.nio_steps.proofs.CallLaws.{call_of_acts, calls_then, call_as}
use Rattle.nio_steps.proofs.WaitingLaws.{acts_of-push}
use Rattle.nio_steps.specs.Calls.{CallClause}
use Rattle.nio_steps.specs.PipeCalls.{waits_for_bytes, as_waited, try_read_plan, try_write_plan}
use Rattle.nio_steps.specs.Plan.{Plan}
use Rattle.nio_steps.specs.Runs.{Completes}
use Rattle.nio_steps.specs.Waiting.{Run, Tries}
use Rattle.nio_steps.specs.declared.refusal.PipeError.{PipeError}
use Rattle.nio_steps.specs.declared.refusal.PipeError.TheVariants.{ClosedChannel, ClosedByInterrupt, AsynchronousClose}
use Rattle.nio_steps.specs.declared.refusal.PipeError.TheVariants.{BrokenPipe}
use Rattle.nio_pipe.specs.Answers.{refusal_after, read_answer, read_waits, write_answer, write_waits}
use Rattle.nio_pipe.specs.Calls.{WaitsToRead, WaitsToWrite, WaitsWhere}
use Rattle.nio_pipe.specs.declared.answers.PipeRead.{PipeRead}
use Rattle.nio_pipe.specs.declared.answers.PipeWrite.{PipeWrite}

abbrev has_some : {X : Type 0} → List X → Bool
has_some [] = false
has_some (x ∷ xs) = true

-- there was one
abbrev pub is_some_run : ℕ → Bool
is_some_run zero = false
is_some_run (suc n) = true

pub some_run : (n : ℕ) → n ≢ 0 → is_some_run n ≡ true
some_run zero other = absurd (other refl)
some_run (suc n) other = refl

some-length : {X : Type 0} (xs : List X) → has_some xs ≡ is_some_run (length xs)
some-length [] = refl
some-length (x ∷ xs) = refl

length-more : {X : Type 0} (xs : List X) (x : X) → length (xs ++ x ∷ []) ≡ suc (length xs)
length-more [] x = refl
length-more (y ∷ ys) x = ap (λ (n : ℕ). suc n) (length-more ys x)

replicate-more : (x n : ℕ) → replicate n x ++ x ∷ [] ≡ replicate (suc n) x
replicate-more x zero = refl
replicate-more x (suc n) = ap (λ xs. x ∷ xs) (replicate-more x n)

-- these acts are so many runs that found nothing
pub record Tried (plan : Plan (Result Bool PipeError)) (count : ℕ) (acts : List Act) : Type 0 where
  pub tries : Tries (λ (_ : Bool). Completes plan) waits_for_bytes acts
  pub count_is : length tries.runs ≡ count

abbrev TriedClause : CallerNo → Plan (Result Bool PipeError) → ℕ → PassView → PassView → Type 0
TriedClause me plan count old new = CallClause me (λ acts (_ : Unit {0}). Tried plan count acts) old new tt

-- A call has made some runs that found nothing, or none. What its end was told by each is `told`, after what it was
-- told before.
pub record HasTried (me : CallerNo) (plan : Plan (Result Bool PipeError)) (waited : Bool) (before told : List ℕ)
    (old new : PassView) : Type 0 where
  pub count : ℕ
  pub tried : TriedClause me plan count old new
  pub counted : waited ≡ is_some_run count
  pub told_is : told ≡ before ++ replicate count 0

-- how a call is answered, where there was such a run or not
abbrev pub answer_after : Bool → Result Bool PipeError → Result Bool PipeError
answer_after waited (Ok blocking) = Ok blocking
answer_after waited (Err refusal) = Err (refusal_after waited refusal)

waited-is : {X : Type 0} (runs : List X) (found : Result Bool PipeError)
    → answer_after (has_some runs) found ≡ as_waited runs found
waited-is [] (Ok blocking) = refl
waited-is [] (Err refusal) = refl
waited-is (run ∷ later) (Ok blocking) = refl
waited-is (run ∷ later) (Err ClosedChannel) = refl
waited-is (run ∷ later) (Err ClosedByInterrupt) = refl
waited-is (run ∷ later) (Err AsynchronousClose) = refl
waited-is (run ∷ later) (Err BrokenPipe) = refl

-- a refusal ends the call
pub refused_ends : (none : Bool) (refusal : PipeError) → waits_for_bytes none (Err refusal) ≡ false
refused_ends none ClosedChannel = refl
refused_ends none ClosedByInterrupt = refl
refused_ends none AsynchronousClose = refl
refused_ends none BrokenPipe = refl

pub tried_none : (me : CallerNo) (plan : Plan (Result Bool PipeError)) (told : List ℕ) (pass : PassView)
    → IsLegal pass.limits pass.seen → HasTried me plan false told told pass pass
tried_none me plan told pass legal = record {
  count = 0;
  tried = call_of_acts (λ acts (_ : Unit {0}). Tried plan 0 acts) [] tt (acts_nothing me pass legal) (record {
    tries = record { runs = []; parts = refl; made = All-nil _; again = All-nil _ };
    count_is = refl;
  });
  counted = refl;
  told_is = sym (append-nil told);
}

pub tried_more : {me : CallerNo} {plan : Plan (Result Bool PipeError)} {waited : Bool} {before told : List ℕ}
    {v0 v1 v2 : PassView} (found : Result Bool PipeError) (more : List ℕ)
    → HasTried me plan waited before told v0 v1 → CallClause me (Completes plan) v1 v2 found
    → waits_for_bytes true found ≡ true → more ≡ told ++ 0 ∷ []
    → HasTried me plan true before more v0 v2
tried_more {plan = plan} {before = before} found more so_far run again tells = record {
  count = suc so_far.count;
  tried = calls_then (λ acts (_ : Unit {0}). Tried plan (suc so_far.count) acts) tt
      (λ xs ys here made.
      let run : Run Bool (Result Bool PipeError) = record { given = true; acts = ys; answer = found } in
      record {
        tries = record {
          runs = here.tries.runs ++ run ∷ [];
          parts = ap (λ acts. acts ++ ys) here.tries.parts ∙ sym (acts_of-push here.tries.runs run);
          made = All-push (λ r. Completes plan r.acts r.answer) here.tries.runs run here.tries.made made;
          again = All-push (λ r. IsTrue (waits_for_bytes r.given r.answer)) here.tries.runs run here.tries.again again;
        };
        count_is = length-more here.tries.runs run ∙ ap (λ (n : ℕ). suc n) here.count_is;
      }) so_far.tried run;
  counted = refl;
  told_is = tells
      ∙ (ap (λ xs. xs ++ 0 ∷ []) so_far.told_is
      ∙ (append_assoc before (replicate so_far.count 0) (0 ∷ [])
      ∙ ap (λ xs. before ++ xs) (replicate-more 0 so_far.count)));
}

pub tried_last : {me : CallerNo} {plan : Plan (Result Bool PipeError)} {waited : Bool} {before told : List ℕ}
    {v0 v1 v2 : PassView} (HadToWait : ℕ → Type 0) (none : Bool) (found : Result Bool PipeError)
    (so_far : HasTried me plan waited before told v0 v1) → HadToWait so_far.count
    → CallClause me (Completes plan) v1 v2 found → waits_for_bytes none found ≡ false
    → CallClause me (WaitsWhere HadToWait plan none) v0 v2 (answer_after waited found)
tried_last {plan = plan} {waited = waited} HadToWait none found so_far had run over =
    calls_then (WaitsWhere HadToWait plan none) (answer_after waited found)
    (λ xs ys here made. record {
      waits = record {
        found = found;
        runs = record {
          before = xs;
          tries = here.tries;
          last = record { given = none; acts = ys; answer = found };
          parts = refl;
          made = made;
          over = over;
          answers = refl;
        };
        found_none = refl;
        answer_is = ap (λ b. answer_after b found)
            (so_far.counted ∙ (ap is_some_run (sym here.count_is) ∙ sym (some-length here.tries.runs)))
            ∙ waited-is here.tries.runs found;
      };
      had = subst HadToWait (sym here.count_is) had;
    }) so_far.tried run

-- what was told till now and then the last, or nothing more
pub told_then : (before told more last : List ℕ) (count : ℕ) → told ≡ before ++ replicate count 0
    → more ≡ told ++ last → more ≡ before ++ (replicate count 0 ++ last)
told_then before told more last count is tells =
    tells ∙ (ap (λ xs. xs ++ last) is ∙ append_assoc before (replicate count 0) last)

-- ---- what the calls answer

pub found_nothing : (answer : PipeRead) → read_waits (Ok answer) ≡ true → answer ≡ PipeRead.NotYet
found_nothing (PipeRead.Bytes n) is = absurd (cc is)
found_nothing PipeRead.End is = absurd (cc is)
found_nothing PipeRead.NotYet is = refl

-- it had a place for a byte
pub read_some : (room : ℕ) (sealed : Bool) (answer : PipeRead) → (answer ≡ PipeRead.Bytes 0 → ⊥)
    → answer ≡ read_answer room 0 sealed → 0 < room
read_some room sealed answer other is = by_test (room == 0) refl
  where
    by_test : (b : Bool) → (room == 0) ≡ b → 0 < room
    by_test true none =
        absurd
        (other (is ∙ cond-true (room == 0) (PipeRead.Bytes 0) (if sealed then PipeRead.End else PipeRead.NotYet) none))
    by_test false some =
        let apart : room ≡ 0 → ⊥ =
        λ same. let clash : true ≡ false = sym (eq-eqb room 0 same) ∙ some in absurd (cc clash) in
        omega (arith, apart)

pub read_done : {me : CallerNo} {v0 v1 : PassView} (l : Limits) (source : ChanId)
    (HadToWait : Result PipeRead PipeError → ℕ → Type 0) (answer : PipeRead) (blocking : Bool)
    → CallClause me (WaitsWhere (HadToWait (Ok answer)) (try_read_plan l source) (read_waits (Ok answer))) v0 v1
    (Ok blocking)
    → CallClause me (WaitsToRead l source HadToWait) v0 v1 (Ok answer)
read_done l source HadToWait answer blocking call =
    call_as (WaitsToRead l source HadToWait) (Ok answer) (λ acts waits. (blocking, waits)) call

pub read_refused : {me : CallerNo} {v0 v1 : PassView} (l : Limits) (source : ChanId)
    (HadToWait : Result PipeRead PipeError → ℕ → Type 0) (waited : Bool) (refusal : PipeError)
    → CallClause me (WaitsWhere (HadToWait (Err (refusal_after waited refusal))) (try_read_plan l source) false) v0 v1
    (answer_after waited (Err refusal))
    → CallClause me (WaitsToRead l source HadToWait) v0 v1 (Err (refusal_after waited refusal))
read_refused l source HadToWait waited refusal call =
    call_as (WaitsToRead l source HadToWait) (Err (refusal_after waited refusal)) (λ acts waits. waits) call

pub found_no_place : (answer : PipeWrite) → write_waits (Ok answer) ≡ true → answer ≡ PipeWrite.NotYet
found_no_place (PipeWrite.Bytes n) is = absurd (cc is)
found_no_place PipeWrite.NotYet is = refl

-- it had a byte to write
pub write_some : (size : ℕ) → PipeWrite.NotYet ≡ write_answer size 0 → 0 < size
write_some size is = by_test (size == 0) refl
  where
    by_test : (b : Bool) → (size == 0) ≡ b → 0 < size
    by_test true none =
        let clash : PipeWrite.NotYet ≡ PipeWrite.Bytes 0 = is
        ∙ cond-true (size == 0) (PipeWrite.Bytes 0) PipeWrite.NotYet none in
        absurd (cc clash)
    by_test false some =
        let apart : size ≡ 0 → ⊥ =
        λ same. let clash : true ≡ false = sym (eq-eqb size 0 same) ∙ some in absurd (cc clash) in
        omega (arith, apart)

pub write_done : {me : CallerNo} {v0 v1 : PassView} (l : Limits) (source sink : ChanId)
    (HadToWait : Result PipeWrite PipeError → ℕ → Type 0) (answer : PipeWrite) (blocking : Bool)
    → CallClause me (WaitsWhere (HadToWait (Ok answer)) (try_write_plan l source sink) (write_waits (Ok answer))) v0 v1
    (Ok blocking)
    → CallClause me (WaitsToWrite l source sink HadToWait) v0 v1 (Ok answer)
write_done l source sink HadToWait answer blocking call =
    call_as (WaitsToWrite l source sink HadToWait) (Ok answer) (λ acts waits. (blocking, waits)) call

pub write_refused : {me : CallerNo} {v0 v1 : PassView} (l : Limits) (source sink : ChanId)
    (HadToWait : Result PipeWrite PipeError → ℕ → Type 0) (waited : Bool) (refusal : PipeError)
    → CallClause me (WaitsWhere (HadToWait (Err (refusal_after waited refusal))) (try_write_plan l source sink) false)
    v0 v1 (answer_after waited (Err refusal))
    → CallClause me (WaitsToWrite l source sink HadToWait) v0 v1 (Err (refusal_after waited refusal))
write_refused l source sink HadToWait waited refusal call =
    call_as (WaitsToWrite l source sink HadToWait) (Err (refusal_after waited refusal)) (λ acts waits. waits) call

-- ---- a call that was refused at once

pub waited_before : (waited : Bool) (refusal : PipeError) → (refusal ≡ AsynchronousClose → ⊥)
    → refusal_after waited refusal ≡ AsynchronousClose → waited ≡ true
waited_before true refusal other is = refl
waited_before false refusal other is = absurd (other is)
