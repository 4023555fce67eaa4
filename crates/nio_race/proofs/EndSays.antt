-- What a read or a write that waits says, by what it answers.
use Rattle.std.proofs.Common.{◌≡◌, ◌≢◌, ℕ, zero, suc, ◌<◌, ◌≤◌, ◌==◌, Bool, true, false, if◌then◌else◌}
use Rattle.std.proofs.Common.{IsFalse, Result, Ok, Err, IfOk, List, [], ◌∷◌, length, min, take, arith, refl, sym, ◌∙◌}
use Rattle.std.proofs.Common.{eqb-true, subst}
use Rattle.std.proofs.lemmas.Bool.{cond-false, ne_eqb}
use Rattle.std.proofs.lemmas.List.{length-take-le, nil_from_length}
use Rattle.nio_base.specs.declared.limits.Limits.{Limits}
use Rattle.nio_base.specs.declared.numbers.ChanId.{ChanId}
use Rattle.nio_history.specs.declared.act.Act.{Act}
use Rattle.nio_language.specs.declared.reply.Reply.{Reply}
use Rattle.nio_language.specs.declared.reply.Reply.TheVariants as reply
use Rattle.nio_pipe.proofs.Waits.{read_some, write_some}
use Rattle.nio_pipe.specs.Answers.{bytes_read, bytes_written, read_answer, write_answer}
use Rattle.nio_pipe.specs.Calls.{WaitsToRead, WaitsToWrite, WaitsWhere}
use Rattle.nio_pipe.specs.declared.answers.PipeRead.{PipeRead}
use Rattle.nio_pipe.specs.declared.answers.PipeWrite.{PipeWrite}
use Rattle.nio_steps.specs.PipeCalls.{PipeEnds, Waits, as_waited, try_read_plan, try_write_plan, waits_for_bytes}
use Rattle.nio_steps.specs.Plan.{Plan}
use Rattle.nio_steps.specs.declared.refusal.PipeError.{PipeError}
use Rattle.nio_steps.specs.declared.refusal.PipeError.TheVariants.{AsynchronousClose}
use Rattle.nio_race.proofs.EndLines.{read_said, write_said}
use Rattle.nio_race.specs.Piping.{ReadSays, ReadsTo, WriteSays, WritesTo, asks_for_nothing, finds_no_place}
use Rattle.nio_race.specs.Piping.{finds_nothing, gives, offers_nothing, takes, tells_end}

-- ---- the mode of a call that found nothing

mode_waited : {X : Type 0} (runs : List X) (found : Result Bool PipeError) (blocking : Bool)
    → Ok blocking ≡ as_waited runs found → found ≡ Ok blocking
mode_waited [] found blocking is = sym is
mode_waited (run ∷ runs) (Ok mode) blocking is = sym is
mode_waited (run ∷ runs) (Err PipeError.ClosedChannel) blocking is = absurd (cc is)
mode_waited (run ∷ runs) (Err PipeError.ClosedByInterrupt) blocking is = absurd (cc is)
mode_waited (run ∷ runs) (Err PipeError.AsynchronousClose) blocking is = absurd (cc is)
mode_waited (run ∷ runs) (Err PipeError.BrokenPipe) blocking is = absurd (cc is)

-- a call that found nothing and didn't wait found its channel in non-blocking mode
mode_is : (plan : Plan (Result Bool PipeError)) (acts : List Act) (blocking : Bool) → Waits plan true acts (Ok blocking)
    → blocking ≡ false
mode_is plan acts blocking waits =
    let found : waits.runs.last.answer ≡ Ok blocking = waits.runs.answers
    ∙ mode_waited waits.runs.tries.runs waits.found blocking waits.answer_is in
    let over : IsFalse (waits_for_bytes waits.runs.last.given waits.runs.last.answer) = waits.runs.over in
    subst (λ (o : Result Bool PipeError). waits_for_bytes true o ≡ false) found
    (subst (λ (b : Bool). waits_for_bytes b waits.runs.last.answer ≡ false) waits.found_none over)

-- why a call had to wait, in other words
as_said : {Had Had' : ℕ → Type 0} {plan : Plan (Result Bool PipeError)} {none : Bool} {acts : List Act}
    {answer : Result Bool PipeError} → ((before : ℕ) → Had before → Had' before)
    → WaitsWhere Had plan none acts answer
    → WaitsWhere Had' plan none acts answer
as_said had waits = record { waits = waits.waits; had = had (length waits.waits.runs.tries.runs) waits.had }

-- ---- a read

abbrev IsReadAnswer : ℕ → Bool → ℕ → PipeRead → Type 0
IsReadAnswer room sealed given answer = answer ≡ read_answer room given sealed

pub read_zero : (room : ℕ) (sealed : Bool) → IsReadAnswer room sealed 0 (PipeRead.Bytes 0) → room ≡ 0
read_zero room sealed is = by_test (room == 0) refl
  where
    by_seal : (m : Bool) → PipeRead.Bytes 0 ≡ (if m then PipeRead.End else PipeRead.NotYet) → room ≡ 0
    by_seal true same = absurd (cc same)
    by_seal false same = absurd (cc same)

    by_test : (b : Bool) → (room == 0) ≡ b → room ≡ 0
    by_test true none = eqb-true room 0 none
    by_test false some =
        by_seal sealed
        (is ∙ cond-false (room == 0) (PipeRead.Bytes 0) (if sealed then PipeRead.End else PipeRead.NotYet) some)

module _ (l : Limits) (c : ChanId) (n room : ℕ) (acts : List Act) (sealed : Bool) (after : List ℕ)
    (Had : Result PipeRead PipeError → ℕ → Type 0) (room_is : room ≡ min 65536 n) (size : length after ≡ room)
    (had_room : (answer : Result PipeRead PipeError) (before : ℕ) → Had answer before → before ≢ 0 → 0 < room) where
  asks : (answer : Result PipeRead PipeError) (before : ℕ) → Had answer before → before ≢ 0 → 0 < n
  asks answer before had some = omega (arith, had_room answer before had some, room_is)

  reads_count : (k : ℕ) → k ≤ room → IsReadAnswer room sealed k (PipeRead.Bytes k)
      → WaitsToRead l c Had acts (Ok (PipeRead.Bytes k))
      → ReadsTo l c n acts (read_said (Ok (PipeRead.Bytes k)) after)
  reads_count zero few is waits =
      let none : room ≡ 0 = read_zero room sealed is in
      record {
        none = false;
        answer = Ok waits.0;
        waits = as_said (asks (Ok (PipeRead.Bytes 0))) waits.1;
        says = asks_for_nothing (omega arith);
      }
  reads_count (suc k) few is waits =
      let long : length (take (suc k) after) ≡ suc k = length-take-le (suc k) after (omega arith) in
      let some : (suc k == 0) ≡ false = ne_eqb (suc k) 0 (λ same. omega (arith, same)) in
      let says : reply.Bytes (take (suc k) after) ≡ read_said (Ok (PipeRead.Bytes (suc k))) after =
      sym (cond-false (suc k == 0) (reply.Number 0) (reply.Bytes (take (suc k) after)) some) in
      record {
        none = false;
        answer = Ok waits.0;
        waits = as_said (asks (Ok (PipeRead.Bytes (suc k)))) waits.1;
        says = subst (λ (r : Reply). ReadSays n false (Ok waits.0) r) says
            (gives (take (suc k) after) (omega arith) (omega arith));
      }

  pub reads_to : (answer : Result PipeRead PipeError) → bytes_read answer ≤ room
      → IfOk answer (λ a. IsReadAnswer room sealed (bytes_read answer) a)
      → (answer ≡ Err AsynchronousClose → 0 < n)
      → WaitsToRead l c Had acts answer → ReadsTo l c n acts (read_said answer after)
  reads_to (Ok (PipeRead.Bytes k)) few is closed waits = reads_count k few is waits
  reads_to (Ok PipeRead.End) few is closed waits =
      let some : 0 < room = read_some room sealed PipeRead.End (λ same. absurd (cc same)) is in
      record {
        none = false;
        answer = Ok waits.0;
        waits = as_said (asks (Ok PipeRead.End)) waits.1;
        says = tells_end (omega arith);
      }
  reads_to (Ok PipeRead.NotYet) few is closed waits =
      let some : 0 < room = read_some room sealed PipeRead.NotYet (λ same. absurd (cc same)) is in
      let mode : waits.0 ≡ false = mode_is _ acts waits.0 waits.1.waits in
      record {
        none = true;
        answer = Ok false;
        waits = subst (λ (b : Bool). WaitsWhere (λ before. before ≢ 0 → 0 < n) (try_read_plan l c) true acts (Ok b))
            mode
            (as_said (asks (Ok PipeRead.NotYet)) waits.1);
        says = finds_nothing (omega arith);
      }
  reads_to (Err refusal) few is closed waits = record {
    none = false;
    answer = Err refusal;
    waits = as_said (asks (Err refusal)) waits;
    says = ReadSays.is_refused refusal (λ same. closed (λ i. Err (same i)));
  }

-- ---- a write

abbrev IsWriteAnswer : ℕ → ℕ → PipeWrite → Type 0
IsWriteAnswer size taken answer = answer ≡ write_answer size taken

write_zero : (size : ℕ) → IsWriteAnswer size 0 (PipeWrite.Bytes 0) → size ≡ 0
write_zero size is = by_test (size == 0) refl
  where
    by_test : (b : Bool) → (size == 0) ≡ b → size ≡ 0
    by_test true none = eqb-true size 0 none
    by_test false some =
        let clash : PipeWrite.Bytes 0 ≡ PipeWrite.NotYet = is
        ∙ cond-false (size == 0) (PipeWrite.Bytes 0) PipeWrite.NotYet some in
        absurd (cc clash)

module _ (l : Limits) (ends : PipeEnds) (bytes : List ℕ) (acts : List Act)
    (Had : Result PipeWrite PipeError → ℕ → Type 0)
    (offers : (answer : Result PipeWrite PipeError) (before : ℕ) → Had answer before → before ≢ 0 → 0 < length bytes)
  where
    writes_count : (k : ℕ) → k ≤ length bytes → IsWriteAnswer (length bytes) k (PipeWrite.Bytes k)
        → WaitsToWrite l ends.source ends.sink Had acts (Ok (PipeWrite.Bytes k))
        → WritesTo l ends bytes acts (write_said (Ok (PipeWrite.Bytes k)))
    writes_count zero few is waits =
        let none : bytes ≡ [] = nil_from_length bytes (write_zero (length bytes) is) in
        record {
          none = false;
          answer = Ok waits.0;
          waits = as_said (offers (Ok (PipeWrite.Bytes 0))) waits.1;
          says = offers_nothing none;
        }
    writes_count (suc k) few is waits = record {
      none = false;
      answer = Ok waits.0;
      waits = as_said (offers (Ok (PipeWrite.Bytes (suc k)))) waits.1;
      says = takes (suc k) (omega arith) few;
    }

    pub writes_to : (answer : Result PipeWrite PipeError) → bytes_written answer ≤ length bytes
        → IfOk answer (λ a. IsWriteAnswer (length bytes) (bytes_written answer) a)
        → (answer ≡ Err AsynchronousClose → 0 < length bytes)
        → WaitsToWrite l ends.source ends.sink Had acts answer → WritesTo l ends bytes acts (write_said answer)
    writes_to (Ok (PipeWrite.Bytes k)) few is closed waits = writes_count k few is waits
    writes_to (Ok PipeWrite.NotYet) few is closed waits =
        let some : 0 < length bytes = write_some (length bytes) is in
        let mode : waits.0 ≡ false = mode_is _ acts waits.0 waits.1.waits in
        record {
          none = true;
          answer = Ok false;
          waits =
              subst
              (λ (b : Bool). WaitsWhere (λ before. before ≢ 0 → 0 < length bytes)
              (try_write_plan l ends.source ends.sink) true acts (Ok b))
              mode (as_said (offers (Ok PipeWrite.NotYet)) waits.1);
          says = finds_no_place some;
        }
    writes_to (Err refusal) few is closed waits = record {
      none = false;
      answer = Err refusal;
      waits = as_said (offers (Err refusal)) waits;
      says = WriteSays.is_refused refusal (λ same. closed (λ i. Err (same i)));
    }
