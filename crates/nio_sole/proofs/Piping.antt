-- The pipes that a desk shows, and what a read or a write leaves of them.
use Rattle.std.proofs.Common.{◌≡◌, ℕ, zero, suc, ◌+◌, ◌-◌, ◌<◌, ◌≤◌, ◌==◌, nat_lt, Bool, true, false, ◌||◌, cond, min}
use Rattle.std.proofs.Common.{List, [], ◌∷◌, ◌++◌, length, get_or, set, take, drop, Result, Ok, Err, refl, sym, ap}
use Rattle.std.proofs.Common.{◌∙◌, subst, arith}
use Rattle.std.proofs.Math.Bool.{or-false, or-true}
use Rattle.std.proofs.lemmas.Bool.{cond-false, cond-true, eq-eqb, eqb-true, le-ltb, lt-ltb, ne_eqb}
use Rattle.std.proofs.lemmas.List.{append-nil, drop-append-le, drop_min, get_or-map, length-append, length-take}
use Rattle.std.proofs.lemmas.List.{length-take-le, map-set, take_min}
use Rattle.std.proofs.Math.Seq.{drop-append-add, drop-append_seam, take-append_seam}
use Rattle.nio_language.specs.declared.reply.Reply.{Reply}
use Rattle.nio_language.specs.declared.reply.Reply.TheVariants as reply
use Rattle.nio_pipe.specs.Answers.{bytes_read, bytes_written, read_answer, write_answer}
use Rattle.nio_pipe.specs.Pipe.{Pipe as Held, IsLawful, after_read, after_write, waiting}
use Rattle.nio_pipe.specs.declared.answers.PipeRead.{PipeRead}
use Rattle.nio_pipe.specs.declared.answers.PipeWrite.{PipeWrite}
use Rattle.nio_plain.specs.ScriptState.{Pipe}
use Rattle.nio_plain.specs.Seq.Pipes.{no_pipe}
use Rattle.nio_plain.specs.Seq.Piping.{not_now}
use Rattle.nio_serial.specs.PipeLines.{Piped, only_says, puts, read_gives, takes, write_gives}
use Rattle.nio_serial.specs.Replies.{pipe_refusal}
use Rattle.nio_sole.specs.PipeReplies.{read_says, write_says}
use Rattle.nio_sole.specs.Stands.{pipe_of, pipes_of}
use Rattle.nio_sole.specs.declared.desk.OwnedPipe.{OwnedPipe}
use Rattle.nio_steps.specs.declared.refusal.PipeError.{PipeError}

-- ---- a place

pub shown_at : (items : List OwnedPipe) (i : ℕ) (x : OwnedPipe) → i < length items → x ≡ get_or items i x
    → get_or (pipes_of items) i no_pipe ≡ pipe_of x
shown_at items i x within is = get_or-map pipe_of items i x no_pipe within ∙ ap pipe_of (sym is)

pub shown_set : (items : List OwnedPipe) (i : ℕ) (x : OwnedPipe)
    → pipes_of (set items i x) ≡ set (pipes_of items) i (pipe_of x)
shown_set items i x = map-set pipe_of items i x

-- ---- what waits

abbrev pub with_held : OwnedPipe → Held → OwnedPipe
with_held x pipe = record x { pipe = pipe }

sent_is : (p : Held) → IsLawful p → p.sent ≡ p.received ++ waiting p
sent_is p lawful =
    let rest = lawful.in_order.0 in
    let whole : p.received ++ rest ≡ p.sent = lawful.in_order.1 in
    let left : waiting p ≡ rest = ap (drop (length p.received)) (sym whole) ∙ drop-append_seam p.received rest in
    sym whole ∙ ap (λ xs. p.received ++ xs) (sym left)

-- after k of the bytes were read
left_waiting : (p : Held) (k : ℕ) → IsLawful p
    → drop (length (p.received ++ take k (waiting p))) p.sent ≡ drop k (waiting p)
left_waiting p k lawful =
    let w = waiting p in
    ap (λ (n : ℕ). drop n p.sent) (length-append p.received (take k w))
    ∙ (ap (drop (length p.received + length (take k w))) (sent_is p lawful)
    ∙ (drop-append-add p.received w (length (take k w))
    ∙ (ap (λ (n : ℕ). drop n w) (length-take k w) ∙ drop_min k w)))

-- after more was written
more_waiting : (p : Held) (more : List ℕ) → IsLawful p → drop (length p.received) (p.sent ++ more) ≡ waiting p ++ more
more_waiting p more lawful =
    let size = ap length (sent_is p lawful) ∙ length-append p.received (waiting p) in
    drop-append-le (length p.received) p.sent more (omega (arith, size))

-- ---- reading

-- what a vector holds after a whole slice of it was written
pub written_back : (size : ℕ) (slice items : List ℕ) → size ≡ length slice
    → take size (slice ++ drop (length slice) items) ≡ slice
written_back size slice items same =
    ap (λ (n : ℕ). take n (slice ++ drop (length slice) items)) same
    ∙ take-append_seam slice (drop (length slice) items)

-- a read gives no more than there is to give
few_read : (room given : ℕ) (sealed : Bool) → bytes_read (Ok (read_answer room given sealed)) ≤ given
few_read room given sealed = by_tests (room == 0) (nat_lt 0 given) sealed
  where
    by_tests : (a b c : Bool)
        → bytes_read
        (Ok (cond a (PipeRead.Bytes 0) (cond b (PipeRead.Bytes given) (cond c PipeRead.End PipeRead.NotYet))))
        ≤ given
    by_tests true b c = omega arith
    by_tests false true c = omega arith
    by_tests false false true = omega arith
    by_tests false false false = omega arith

-- what was read stands at the front of the slice
pub front_says : (answer : PipeRead) (blocking : Bool) (bytes into rest : List ℕ)
    → bytes_read (Ok answer) ≤ length bytes
    → into ≡ take (bytes_read (Ok answer)) bytes ++ rest
    → read_says answer into blocking ≡ read_says answer bytes blocking
front_says (PipeRead.Bytes n) blocking bytes into rest few is =
    ap (λ (xs : List ℕ). cond (n == 0) (reply.Number 0) (reply.Bytes xs))
    (ap (take n) is
    ∙ (ap (λ (m : ℕ). take m (take n bytes ++ rest)) (sym (length-take-le n bytes few))
    ∙ take-append_seam (take n bytes) rest))
front_says PipeRead.End blocking bytes into rest few is = refl
front_says PipeRead.NotYet blocking bytes into rest few is = refl

module _ (x : OwnedPipe) (lawful : IsLawful x.pipe) where
  abbrev pub shown : Pipe
  shown = pipe_of x

  -- how many bytes a read of so many places gives
  abbrev pub given_of : ℕ → ℕ
  given_of room = min room (length (waiting x.pipe))

  -- how many of the bytes a write takes
  abbrev pub taken_of : List ℕ → ℕ
  taken_of bytes = min (length bytes) (65536 - length (waiting x.pipe))

  read_leaves : (answer : Result PipeRead PipeError)
      → pipe_of (with_held x (after_read x.pipe answer)) ≡ record shown {
        waiting = drop (bytes_read answer) (waiting x.pipe);
      }
  read_leaves answer =
      ap {B = Pipe} (λ (ws : List ℕ). record shown { waiting = ws }) (left_waiting x.pipe (bytes_read answer) lawful)

  abbrev pub read_comes_to : PipeRead → Bool → Piped
  read_comes_to answer blocking = record {
    reply = read_says answer (waiting x.pipe) blocking;
    left = pipe_of (with_held x (after_read x.pipe (Ok answer)));
  }

  -- where no byte is read
  reads_none : (answer : PipeRead) (blocking : Bool) → bytes_read (Ok answer) ≡ 0
      → only_says shown (read_says answer (waiting x.pipe) blocking) ≡ read_comes_to answer blocking
  reads_none answer blocking none =
      ap {B = Piped} (λ (p : Pipe). record { reply = read_says answer (waiting x.pipe) blocking; left = p })
      (sym (read_leaves (Ok answer)
      ∙ ap {B = Pipe} (λ (k : ℕ). record shown { waiting = drop k (waiting x.pipe) }) none))

  -- the read of a slice of so many places, of up to n bytes
  pub read_gave : (n room : ℕ) (blocking : Bool) (answer : PipeRead) → room ≡ min 65536 n
      → answer ≡ read_answer room (min room (length (waiting x.pipe))) x.pipe.sealed
      → read_gives n shown (Ok blocking) ≡ read_comes_to answer blocking
  read_gave n room blocking answer room_is is = by_number (n == 0) refl
    where
      by_sealed : (b : Bool) → x.pipe.sealed ≡ b → waiting x.pipe ≡ [] → (room == 0) ≡ false
          → takes shown blocking n (waiting x.pipe) x.pipe.sealed ≡ read_comes_to answer blocking
      by_sealed b sealed none some =
          ap (λ ws. takes shown blocking n ws x.pipe.sealed) none
          ∙ (ap (takes shown blocking n []) sealed ∙ (by_seal b sealed))
        where
          nothing : nat_lt 0 (given_of room) ≡ false
          nothing = le-ltb 0 (given_of room) (let size = ap length none in omega (arith, size))

          told : answer ≡ cond x.pipe.sealed PipeRead.End PipeRead.NotYet
          told = is
              ∙ (cond-false (room == 0) (PipeRead.Bytes 0) _ some
              ∙ cond-false (nat_lt 0 (given_of room)) (PipeRead.Bytes (given_of room)) _ nothing)

          by_seal : (c : Bool) → x.pipe.sealed ≡ c → takes shown blocking n [] c ≡ read_comes_to answer blocking
          by_seal true at =
              let end : answer ≡ PipeRead.End = told ∙ cond-true x.pipe.sealed PipeRead.End PipeRead.NotYet at in
              reads_none PipeRead.End blocking refl ∙ ap (λ a. read_comes_to a blocking) (sym end)
          by_seal false at =
              let not_yet : answer ≡ PipeRead.NotYet = told
              ∙ cond-false x.pipe.sealed PipeRead.End PipeRead.NotYet at in
              reads_none PipeRead.NotYet blocking refl ∙ ap (λ a. read_comes_to a blocking) (sym not_yet)

      by_given : (g : ℕ) → given_of room ≡ g → (y : ℕ) (ys : List ℕ) → waiting x.pipe ≡ y ∷ ys → (room == 0) ≡ false
          → (n == 0) ≡ false
          → takes shown blocking n (waiting x.pipe) x.pipe.sealed ≡ read_comes_to answer blocking
      by_given zero given_is y ys some places number =
          let size = ap length some in
          let room_some : room ≡ 0 → ⊥ = λ none. let clash : true ≡ false = sym (eq-eqb room 0 none) ∙ places in
          absurd cc in
          absurd (room_some (omega (arith, size, given_is)))
      by_given (suc k) given_is y ys some places number =
          let w = waiting x.pipe in
          let size = ap length some in
          let few = lawful.few_waiting in
          let count : min n (length w) ≡ suc k = omega (arith, room_is, given_is, few) in
          let told : answer ≡ PipeRead.Bytes (suc k) =
          is ∙ (cond-false (room == 0) (PipeRead.Bytes 0) _ places
          ∙ (cond-true (nat_lt 0 (given_of room)) (PipeRead.Bytes (given_of room)) _
          (lt-ltb 0 (given_of room) (omega (arith, given_is)))
          ∙ ap PipeRead.Bytes given_is)) in
          let says : read_says (PipeRead.Bytes (suc k)) w blocking ≡ reply.Bytes (take (suc k) w) =
          cond-false (suc k == 0) (reply.Number 0) (reply.Bytes (take (suc k) w))
          (ne_eqb (suc k) 0 (λ e. omega (arith, e))) in
          ap (λ ws. takes shown blocking n ws x.pipe.sealed) some
          ∙ (ap {B = Piped}
          (λ (ws : List ℕ). record { reply = reply.Bytes (take n ws); left = record shown { waiting = drop n ws } })
          (sym some)
          ∙ (ap {B = Piped}
          (λ (p : List ℕ × List ℕ). record { reply = reply.Bytes p.0; left = record shown { waiting = p.1 } })
          (λ j. (
            (sym (take_min n w) ∙ ap (λ m. take m w) count) j,
            (sym (drop_min n w) ∙ ap (λ m. drop m w) count) j,
          ))
          ∙ (ap {B = Piped} (λ (p : Pipe). record { reply = reply.Bytes (take (suc k) w); left = p })
          (sym (read_leaves (Ok (PipeRead.Bytes (suc k)))))
          ∙ (ap {B = Piped}
          (λ (r : Reply). record {
            reply = r;
            left = pipe_of (with_held x (after_read x.pipe (Ok (PipeRead.Bytes (suc k)))));
          })
          (sym says)
          ∙ ap (λ a. read_comes_to a blocking) (sym told)))))

      by_waiting : (ws : List ℕ) → waiting x.pipe ≡ ws → (n == 0) ≡ false
          → takes shown blocking n (waiting x.pipe) x.pipe.sealed ≡ read_comes_to answer blocking
      by_waiting ws waits number = by_list ws waits
        where
          places : (room == 0) ≡ false
          places = by_room (room == 0) refl
            where
              by_room : (b : Bool) → (room == 0) ≡ b → b ≡ false
              by_room true none =
                  let room_none = eqb-true room 0 none in
                  let n_none : n ≡ 0 = omega (arith, room_is, room_none) in
                  sym (eq-eqb n 0 n_none) ∙ number
              by_room false some = refl

          by_list : (us : List ℕ) → waiting x.pipe ≡ us
              → takes shown blocking n (waiting x.pipe) x.pipe.sealed ≡ read_comes_to answer blocking
          by_list [] none = by_sealed x.pipe.sealed refl none places
          by_list (y ∷ ys) some = by_given (given_of room) refl y ys some places number

      by_number : (b : Bool) → (n == 0) ≡ b → read_gives n shown (Ok blocking) ≡ read_comes_to answer blocking
      by_number true none =
          let n_none = eqb-true n 0 none in
          let room_none : room ≡ 0 = omega (arith, room_is, n_none) in
          let told : answer ≡ PipeRead.Bytes 0 = is
          ∙ cond-true (room == 0) (PipeRead.Bytes 0) _ (eq-eqb room 0 room_none) in
          cond-true (n == 0) (only_says shown (reply.Number 0)) _ none
          ∙ (reads_none (PipeRead.Bytes 0) blocking refl ∙ ap (λ a. read_comes_to a blocking) (sym told))
      by_number false some =
          cond-false (n == 0) (only_says shown (reply.Number 0)) _ some ∙ by_waiting (waiting x.pipe) refl some

  -- what a slice with so many places has after the read
  pub slice_says : (room : ℕ) (blocking : Bool) (answer : PipeRead) (into rest : List ℕ)
      → answer ≡ read_answer room (min room (length (waiting x.pipe))) x.pipe.sealed
      → into ≡ take (bytes_read (Ok answer)) (waiting x.pipe) ++ rest
      → read_says answer into blocking ≡ read_says answer (waiting x.pipe) blocking
  slice_says room blocking answer into rest is front =
      let few : bytes_read (Ok answer) ≤ min room (length (waiting x.pipe)) =
      subst (λ (a : PipeRead). bytes_read (Ok a) ≤ min room (length (waiting x.pipe))) (sym is)
      (few_read room (min room (length (waiting x.pipe))) x.pipe.sealed) in
      front_says answer blocking (waiting x.pipe) into rest (omega (arith, few)) front

  -- a read that is refused
  pub read_refused : (n : ℕ) (refusal : PipeError)
      → read_gives n shown (Err refusal) ≡ record {
        reply = pipe_refusal refusal;
        left = pipe_of (with_held x (after_read x.pipe (Err refusal)));
      }
  read_refused n refusal =
      ap {B = Piped} (λ (p : Pipe). record { reply = pipe_refusal refusal; left = p }) (sym (read_leaves (Err refusal)))

  -- ---- writing

  write_leaves : (bytes : List ℕ) (answer : PipeWrite)
      → pipe_of (with_held x (after_write x.pipe bytes (Ok answer))) ≡ record shown {
        waiting = waiting x.pipe ++ take (bytes_written (Ok answer)) bytes;
      }
  write_leaves bytes (PipeWrite.Bytes n) =
      λ j. record shown { waiting = more_waiting x.pipe (take n bytes) lawful j; sealed = or-false x.pipe.sealed j }
  write_leaves bytes PipeWrite.NotYet =
      λ j. record shown { waiting = more_waiting x.pipe [] lawful j; sealed = or-false x.pipe.sealed j }

  abbrev pub write_comes_to : List ℕ → PipeWrite → Bool → Piped
  write_comes_to bytes answer blocking = record {
    reply = write_says answer blocking;
    left = pipe_of (with_held x (after_write x.pipe bytes (Ok answer)));
  }

  -- where no byte is written
  writes_none : (bytes : List ℕ) (answer : PipeWrite) (blocking : Bool) → bytes_written (Ok answer) ≡ 0
      → only_says shown (write_says answer blocking) ≡ write_comes_to bytes answer blocking
  writes_none bytes answer blocking none =
      ap {B = Piped} (λ (p : Pipe). record { reply = write_says answer blocking; left = p })
      (sym (write_leaves bytes answer
      ∙ (ap {B = Pipe} (λ (k : ℕ). record shown { waiting = waiting x.pipe ++ take k bytes }) none
      ∙ ap {B = Pipe} (λ (ws : List ℕ). record shown { waiting = ws }) (append-nil (waiting x.pipe)))))

  pub write_gave : (bytes : List ℕ) (blocking : Bool) (answer : PipeWrite)
      → answer ≡ write_answer (length bytes) (min (length bytes) (65536 - length (waiting x.pipe)))
      → write_gives bytes shown (Ok blocking) ≡ write_comes_to bytes answer blocking
  write_gave bytes blocking answer is = by_length (length bytes == 0) refl
    where
      by_room : (b : Bool) → ((taken_of bytes) == 0) ≡ b → (length bytes == 0) ≡ false
          → puts shown blocking bytes (taken_of bytes) ≡ write_comes_to bytes answer blocking
      by_room true none some =
          let none_taken = eqb-true (taken_of bytes) 0 none in
          let told : answer ≡ PipeWrite.NotYet =
          is ∙ (cond-false (length bytes == 0) (PipeWrite.Bytes 0) _ some
          ∙ cond-false (nat_lt 0 (taken_of bytes)) (PipeWrite.Bytes (taken_of bytes)) PipeWrite.NotYet
          (le-ltb 0 (taken_of bytes) (omega (arith, none_taken)))) in
          cond-true ((taken_of bytes) == 0) (only_says shown (not_now blocking)) _ none
          ∙ (writes_none bytes PipeWrite.NotYet blocking refl ∙ ap (λ a. write_comes_to bytes a blocking) (sym told))
      by_room false more some =
          let some_taken : (taken_of bytes) ≡ 0
          → ⊥ = λ none. let clash : true ≡ false = sym (eq-eqb (taken_of bytes) 0 none) ∙ more in absurd cc in
          let told : answer ≡ PipeWrite.Bytes (taken_of bytes) =
          is ∙ (cond-false (length bytes == 0) (PipeWrite.Bytes 0) _ some
          ∙ cond-true (nat_lt 0 (taken_of bytes)) (PipeWrite.Bytes (taken_of bytes)) PipeWrite.NotYet
          (lt-ltb 0 (taken_of bytes) (omega (arith, some_taken)))) in
          cond-false ((taken_of bytes) == 0) (only_says shown (not_now blocking)) _ more
          ∙ (ap {B = Piped} (λ (p : Pipe). record { reply = reply.Number (taken_of bytes); left = p })
          (sym (write_leaves bytes (PipeWrite.Bytes (taken_of bytes))))
          ∙ ap (λ a. write_comes_to bytes a blocking) (sym told))

      by_length : (b : Bool) → (length bytes == 0) ≡ b
          → write_gives bytes shown (Ok blocking) ≡ write_comes_to bytes answer blocking
      by_length true none =
          let told : answer ≡ PipeWrite.Bytes 0 = is ∙ cond-true (length bytes == 0) (PipeWrite.Bytes 0) _ none in
          cond-true (length bytes == 0) (only_says shown (reply.Number 0)) _ none
          ∙ (writes_none bytes (PipeWrite.Bytes 0) blocking refl ∙ ap (λ a. write_comes_to bytes a blocking) (sym told))
      by_length false some =
          cond-false (length bytes == 0) (only_says shown (reply.Number 0)) _ some
          ∙ by_room ((taken_of bytes) == 0) refl some

  seals : (r : Reply) → ◌≡◌ {A = Piped} (record { reply = r; left = record shown { sealed = true } }) (record {
    reply = r;
    left = record shown { waiting = drop (length x.pipe.received) (x.pipe.sent ++ []); sealed = x.pipe.sealed || true };
  })
  seals r =
      λ j. record {
        reply = r;
        left = record shown {
          waiting = (sym (more_waiting x.pipe [] lawful ∙ append-nil (waiting x.pipe))) j;
          sealed = (sym (or-true x.pipe.sealed)) j;
        };
      }

  -- a write that is refused
  pub write_refused : (bytes : List ℕ) (refusal : PipeError)
      → write_gives bytes shown (Err refusal) ≡ record {
        reply = pipe_refusal refusal;
        left = pipe_of (with_held x (after_write x.pipe bytes (Err refusal)));
      }
  write_refused bytes PipeError.ClosedChannel = seals reply.ClosedChannel
  write_refused bytes PipeError.ClosedByInterrupt = seals reply.ClosedByInterrupt
  write_refused bytes PipeError.AsynchronousClose = seals reply.AsyncClose
  write_refused bytes PipeError.BrokenPipe =
      λ j. record {
        reply = reply.BrokenPipe;
        left = record shown {
          waiting = (sym (more_waiting x.pipe [] lawful ∙ append-nil (waiting x.pipe))) j;
          sealed = (sym (or-false x.pipe.sealed)) j;
        };
      }
