-- A text is a timed script of one list of calls.
use Rattle.std.proofs.Common.{◌≡◌, ℕ, List, ◌∷◌, drop, take, refl, sym, ap, ◌∙◌, arith}
use Rattle.std.proofs.lemmas.Fmt.{decimal_injective}
use Rattle.nio_base.specs.declared.numbers.CallerNo.{CallerNo}
use Rattle.nio_language.specs.declared.group_call.GroupCall.TheVariants as group
use Rattle.nio_language.specs.declared.group_word.GroupWord.TheVariants as word
use Rattle.nio_language.proofs.OneGroupCall.{group_call_one}
use Rattle.nio_language.proofs.OneReading.{line_one}
use Rattle.nio_language.proofs.Ones.{byte_at, numbered_one, word_at}
use Rattle.nio_timed.specs.Lines.{AreTimedLines, no_lines, blank_line, timed_line, IsTimedLine, timed_words}
use Rattle.nio_timed.specs.Reading.{IsOwnCall}
use Rattle.nio_timed.specs.declared.call.TimedCall.{TimedCall}
use Rattle.nio_timed.specs.declared.call.TimedCall.TheVariants.{Group, StartTimed, Expire, Next}
use Rattle.nio_timed.specs.declared.call.TimedLine.{TimedLine}
use Rattle.nio_timed.proofs.Lines.{as_line, line_of}
use Rattle.nio_timed.proofs.Starts.{same_start}
use Rattle.nio_timed.proofs.OwnWords.{apart, own_words_of, timed_full}

own_one : (c d : TimedCall) → IsOwnCall c → IsOwnCall d → timed_words c ≡ timed_words d → c ≡ d
own_one (Group g) d own other e = absurd own
own_one c (Group h) own other e = absurd other
own_one (StartTimed s) (StartTimed r) own other e =
    let first : group.Start s.chan s.kind s.len ≡ group.Start r.chan r.kind r.len =
    group_call_one word.Start (group.Start s.chan s.kind s.len) (group.Start r.chan r.kind r.len)
    ((s.chan, s.kind, s.len), refl) ((r.chan, r.kind, r.len), refl) (own.chan, own.len) (other.chan, other.len)
    (ap (λ (ws : List (List ℕ)). take 3 (drop 1 ws)) e) in
    let now = decimal_injective s.now r.now own.now other.now (word_at 4 e) in
    let limit = decimal_injective s.limit r.limit own.limit other.limit (word_at 5 e) in
    ap StartTimed (same_start s r (cc first) (cc first) (cc first) now limit)
own_one (Expire m) (Expire n) own other e = ap Expire (decimal_injective m n own other (word_at 1 e))
own_one Next Next own other e = refl
own_one _ _ own other e = absurd (omega (arith, byte_at 0 (word_at 0 e)))

same_line : (l m : TimedLine) → l.caller ≡ m.caller → l.call ≡ m.call → l ≡ m
same_line l m callers calls = ap (λ t. line_of t l.call) callers ∙ ap (λ c. line_of m.caller c) calls

pub timed_line_one : {l m : TimedLine} {line : List ℕ} → IsTimedLine l line → IsTimedLine m line → l ≡ m
timed_line_one {l = l} {m = m} {line = line} x y = by_calls l.caller l.call m.caller m.call x y
  where
    own_case : (t u : CallerNo) (c d : TimedCall) → IsOwnCall c → IsOwnCall d
        → IsTimedLine (line_of t c) line → IsTimedLine (line_of u d) line
        → line_of t c ≡ line_of u d
    own_case t u c d own other x y =
        let words = sym (own_words_of x own) ∙ own_words_of y other in
        same_line (line_of t c) (line_of u d)
        (ap (λ n. record { 0 = n })
        (numbered_one 116 t.0 u.0 (omega (arith, x.caller_fits)) (omega (arith, y.caller_fits)) (word_at 0 words)))
        (own_one c d own other (ap (drop 1) words))

    by_calls : (t : CallerNo) (c : TimedCall) (u : CallerNo) (d : TimedCall)
        → IsTimedLine (line_of t c) line → IsTimedLine (line_of u d) line
        → line_of t c ≡ line_of u d
    by_calls t (Group g) u (Group h) x y = let one = line_one (as_line x) (as_line y) in cc (one.0, one.1)
    by_calls t (Group g) u (StartTimed r) x y = absurd (apart (as_line x) y y.call_fits)
    by_calls t (Group g) u (Expire n) x y = absurd (apart (as_line x) y y.call_fits)
    by_calls t (Group g) u Next x y = absurd (apart (as_line x) y y.call_fits)
    by_calls t (StartTimed s) u (Group h) x y = absurd (apart (as_line y) x x.call_fits)
    by_calls t (Expire m) u (Group h) x y = absurd (apart (as_line y) x x.call_fits)
    by_calls t Next u (Group h) x y = absurd (apart (as_line y) x x.call_fits)
    by_calls t (StartTimed s) u (StartTimed r) x y =
        own_case t u (StartTimed s) (StartTimed r) x.call_fits y.call_fits x y
    by_calls t (StartTimed s) u (Expire n) x y = own_case t u (StartTimed s) (Expire n) x.call_fits y.call_fits x y
    by_calls t (StartTimed s) u Next x y = own_case t u (StartTimed s) Next x.call_fits y.call_fits x y
    by_calls t (Expire m) u (StartTimed r) x y = own_case t u (Expire m) (StartTimed r) x.call_fits y.call_fits x y
    by_calls t (Expire m) u (Expire n) x y = own_case t u (Expire m) (Expire n) x.call_fits y.call_fits x y
    by_calls t (Expire m) u Next x y = own_case t u (Expire m) Next x.call_fits y.call_fits x y
    by_calls t Next u (StartTimed r) x y = own_case t u Next (StartTimed r) x.call_fits y.call_fits x y
    by_calls t Next u (Expire n) x y = own_case t u Next (Expire n) x.call_fits y.call_fits x y
    by_calls t Next u Next x y = own_case t u Next Next x.call_fits y.call_fits x y

pub timed_lines_one : {lines : List (List ℕ)} {calls others : List TimedLine} → AreTimedLines lines calls
    → AreTimedLines lines others → calls ≡ others
timed_lines_one no_lines no_lines = refl
timed_lines_one (blank_line b rest) (blank_line c more) = timed_lines_one rest more
timed_lines_one (blank_line b rest) (timed_line is more) = absurd (timed_full is b)
timed_lines_one (timed_line is rest) (blank_line b more) = absurd (timed_full is b)
timed_lines_one (timed_line {l = l} {calls = calls} is rest) (timed_line {l = m} same more) =
    ap (λ x. x ∷ calls) (timed_line_one is same) ∙ ap (λ xs. m ∷ xs) (timed_lines_one rest more)
