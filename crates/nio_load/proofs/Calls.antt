-- The calls that the generated text is a script of.
use Rattle.std.proofs.Common.{◌≡◌, ◌≢◌, ℕ, zero, suc, ◌+◌, ◌*◌, ◌<◌, ◌≤◌, ◌%◌, ◌==◌, false, true, Bool, List, [], ◌∷◌}
use Rattle.std.proofs.Common.{◌++◌, length, codes, None, refl, sym, ap, ◌∙◌, subst, append_assoc, append-nil, inl}
use Rattle.std.proofs.Common.{arith, if◌then◌else◌}
use Rattle.std.specs.Fmt.{decimal}
use Rattle.std.specs.List.{flat_map, range_with_len}
use Rattle.std.proofs.Math.Nat.{mul-suc}
use Rattle.std.proofs.lemmas.Bool.{ne_eqb}
use Rattle.std.proofs.lemmas.Fmt.{decimal_digit, length-decimal-le}
use Rattle.std.proofs.lemmas.List.{length-append}
use Rattle.std.proofs.lemmas.List.Elements.{All-cons, All-nil, All-weaker}
use Rattle.std.proofs.lemmas.List.Splits.{slice_split_at}
use Rattle.nio_base.specs.declared.kind.Kind.TheVariants.{Source}
use Rattle.nio_base.specs.declared.numbers.CallerNo.{CallerNo}
use Rattle.nio_base.specs.declared.numbers.ChanId.{ChanId}
use Rattle.nio_base.specs.declared.numbers.KeyId.{KeyId}
use Rattle.nio_base.specs.declared.numbers.SelNo.{SelNo}
use Rattle.nio_language.specs.Arguments.{IsPair}
use Rattle.nio_language.specs.Calls.{IsLine}
use Rattle.nio_language.specs.Script.{lines_of, AreCalls, IsScript}
use Rattle.nio_language.specs.declared.call.Call.{Call}
use Rattle.nio_language.specs.declared.call.Call.TheVariants as call
use Rattle.nio_language.specs.declared.call.ScriptCall.{ScriptCall}
use Rattle.nio_language.specs.declared.call.Waiting.TheVariants.{Now}
use Rattle.nio_language.proofs.OneReading.{calls_one}
use Rattle.nio_language.proofs.PlainTexts.{line_plain}
use Rattle.nio_load.specs.Generator.{channel_lines, generated, generated_lines, key_of_round, lines_below, round_lines}
use Rattle.nio_load.specs.Generator.{selection_lines, text_of, wakeup_lines}

-- ---- lines that are calls, none of them blank

abbrev AreLines : List (List ℕ) → List ScriptCall → Type 0
AreLines [] [] = Unit {0}
AreLines [] (c ∷ calls) = ⊥
AreLines (line ∷ lines) [] = ⊥
AreLines (line ∷ lines) (c ∷ calls) = IsLine c.caller c.call line × AreLines lines calls

lines_append : (xs : List (List ℕ)) (cs : List ScriptCall) (ys : List (List ℕ)) (ds : List ScriptCall)
    → AreLines xs cs → AreLines ys ds → AreLines (xs ++ ys) (cs ++ ds)
lines_append [] [] ys ds first second = second
lines_append [] (c ∷ cs) ys ds first second = absurd first
lines_append (x ∷ xs) [] ys ds first second = absurd first
lines_append (x ∷ xs) (c ∷ cs) ys ds first second = (first.0, lines_append xs cs ys ds first.1 second)

lines_each : (f : ℕ → List (List ℕ)) (g : ℕ → List ScriptCall) (a n : ℕ) → ((k : ℕ) → k < a + n → AreLines (f k) (g k))
    → AreLines (flat_map f (range_with_len a n)) (flat_map g (range_with_len a n))
lines_each f g a zero all = tt
lines_each f g a (suc n) all =
    lines_append (f a) (g a) (flat_map f (range_with_len (a + 1) n)) (flat_map g (range_with_len (a + 1) n))
    (all a (omega arith)) (lines_each f g (a + 1) n (λ k below. all k (omega (arith, below))))

-- the first line of a text
first_line : {caller : CallerNo} {c : Call} (line rest : List ℕ) → IsLine caller c line
    → lines_of ((line ++ 10 ∷ []) ++ rest) ≡ line ∷ lines_of rest
first_line line rest is =
    ap lines_of (append_assoc line (10 ∷ []) rest)
    ∙ slice_split_at (λ b. b == 10) line 10 rest
    (All-weaker (λ b. (b ≢ 10) × (b ≢ 62)) (λ b. (b == 10) ≡ false) (λ b ne. ne_eqb b 10 ne.0) line (line_plain is))
    refl

-- the text of such lines is a script of their calls
script_of : (lines : List (List ℕ)) (calls : List ScriptCall) → AreLines lines calls → IsScript (text_of lines) calls
script_of [] [] are = AreCalls.blank_line (inl refl) AreCalls.no_lines
script_of [] (c ∷ calls) are = absurd are
script_of (line ∷ lines) [] are = absurd are
script_of (line ∷ lines) (c ∷ calls) are =
    subst (λ (ls : List (List ℕ)). AreCalls ls (c ∷ calls)) (sym (first_line line (text_of lines) are.0))
    (AreCalls.call_line are.0 (script_of lines calls are.1))

-- ---- the calls

abbrev first_caller : CallerNo
first_caller = record { 0 = 1 }

abbrev second_caller : CallerNo
second_caller = record { 0 = 2 }

abbrev selector : SelNo
selector = record { 0 = 0 }

abbrev channel : ℕ → ChanId
channel c = record { number = record { 0 = c }; serial = 0 }

abbrev key : ℕ → KeyId
key k = record { index = k; serial = 0 }

abbrev by_first : Call → ScriptCall
by_first c = record { caller = first_caller; call = c }

abbrev channel_calls : ℕ → List ScriptCall
channel_calls c =
    by_first (call.Channel Source)
    ∷ by_first (call.Blocking (channel c) false)
    ∷ by_first (call.Register selector (channel c) 1 None)
    ∷ []

abbrev wakeup_calls : ℕ → List ScriptCall
wakeup_calls r = if r % 8 == 0 then record { caller = second_caller; call = call.Wakeup selector } ∷ [] else []

abbrev selection_calls : ℕ → List ScriptCall
selection_calls k =
    by_first (call.Begin selector Now)
    ∷ by_first (call.Told selector false ((key k, 1) ∷ []))
    ∷ by_first (call.Unselect selector (key k))
    ∷ []

abbrev round_calls : ℕ → List ScriptCall
round_calls r = wakeup_calls r ++ selection_calls (key_of_round r)

unfoldable pub calls_below : ℕ → (ℕ → List ScriptCall) → List ScriptCall
calls_below n calls = flat_map calls (range_with_len 0 n)

abbrev pub generated_calls : ℕ → List ScriptCall
generated_calls rounds = by_first call.Selector ∷ (calls_below 64 channel_calls ++ calls_below rounds round_calls)

-- ---- their lines

-- a number of at most two digits
record IsShort (n : ℕ) : Type 0 where
  below : n < 64
  digits : length (decimal n) ≤ 2

short : (n : ℕ) → n < 64 → IsShort n
short n below = record { below = below; digits = length-decimal-le 2 n (omega arith) (omega arith) (omega arith) }

-- the length of a line with one number in it
line_length : (n : ℕ) → IsShort n → (before behind : List ℕ) → length before ≤ 100 → length behind ≤ 100
    → length (before ++ decimal n ++ behind) ≤ 4096
line_length n is before behind few less =
    let whole : length (before ++ decimal n ++ behind) ≡ length (before ++ decimal n) + length behind = length-append
    (before ++ decimal n) behind in
    let front : length (before ++ decimal n) ≡ length before + length (decimal n) = length-append before (decimal n) in
    let two = is.digits in
    omega (arith, whole, front, two)

source_line : IsLine first_caller (call.Channel Source) (codes "t1 channel source")
source_line =
    record {
      caller_fits = omega arith;
      call_fits = tt;
      text = rw (decimal_digit 1 (omega arith)) refl;
      short = omega arith;
    }

blocking_line : (c : ℕ) → IsShort c → IsLine first_caller (call.Blocking (channel c) false)
    (codes "t1 blocking c" ++ decimal c ++ codes " off")
blocking_line c is = record {
  caller_fits = omega arith;
  call_fits = record { number_fits = omega (arith, is.below); serial_fits = omega arith };
  text = rw (decimal_digit 1 (omega arith))
      (ap (λ d. codes "t1 blocking c" ++ d ++ codes " off") (sym (append-nil (decimal c))));
  short = line_length c is (codes "t1 blocking c") (codes " off") (omega arith) (omega arith);
}

register_line : (c : ℕ) → IsShort c → IsLine first_caller (call.Register selector (channel c) 1 None)
    (codes "t1 register s0 c" ++ decimal c ++ codes " 1")
register_line c is = record {
  caller_fits = omega arith;
  call_fits = (
    omega arith,
    record { number_fits = omega (arith, is.below); serial_fits = omega arith },
    omega arith,
    tt,
  );
  text = rw (decimal_digit 1 (omega arith), decimal_digit 0 (omega arith))
      (ap (λ d. codes "t1 register s0 c" ++ d ++ codes " 1") (sym (append-nil (decimal c))));
  short = line_length c is (codes "t1 register s0 c") (codes " 1") (omega arith) (omega arith);
}

selector_line : IsLine first_caller call.Selector (codes "t1 selector")
selector_line =
    record {
      caller_fits = omega arith;
      call_fits = tt;
      text = rw (decimal_digit 1 (omega arith)) refl;
      short = omega arith;
    }

wakeup_line : IsLine second_caller (call.Wakeup selector) (codes "t2 wakeup s0")
wakeup_line =
    record {
      caller_fits = omega arith;
      call_fits = omega arith;
      text = rw (decimal_digit 2 (omega arith), decimal_digit 0 (omega arith)) refl;
      short = omega arith;
    }

begin_line : IsLine first_caller (call.Begin selector Now) (codes "t1 begin s0 now")
begin_line =
    record {
      caller_fits = omega arith;
      call_fits = (omega arith, tt);
      text = rw (decimal_digit 1 (omega arith), decimal_digit 0 (omega arith)) refl;
      short = omega arith;
    }

told_line : (k : ℕ) → IsShort k → IsLine first_caller (call.Told selector false ((key k, 1) ∷ []))
    (codes "t1 told s0 k" ++ decimal k ++ codes ":1")
told_line k is = record {
  caller_fits = omega arith;
  call_fits = (
    omega arith,
    (
      All-cons IsPair (key k, 1) []
          (record {
            key_fits = record { number_fits = omega (arith, is.below); serial_fits = omega arith };
            ops_fit = omega arith;
          }) (All-nil IsPair),
      λ i j d less within. absurd (omega (arith, less, within)),
    ),
  );
  text = rw (decimal_digit 1 (omega arith), decimal_digit 0 (omega arith))
      (sym (ap (λ t. codes "t1 told s0 k" ++ t) (append_assoc (decimal k ++ []) (codes ":") (codes "1") ∙ ap
      (λ d. d ++ codes ":1") (append-nil (decimal k)))));
  short = line_length k is (codes "t1 told s0 k") (codes ":1") (omega arith) (omega arith);
}

unselect_line : (k : ℕ) → IsShort k → IsLine first_caller (call.Unselect selector (key k))
    (codes "t1 unselect s0 k" ++ decimal k)
unselect_line k is = record {
  caller_fits = omega arith;
  call_fits = (omega arith, record { number_fits = omega (arith, is.below); serial_fits = omega arith });
  text = rw (decimal_digit 1 (omega arith), decimal_digit 0 (omega arith))
      (ap (λ t. codes "t1 unselect s0 k" ++ t) (sym (append-nil (decimal k))));
  short = subst (λ (t : List ℕ). length (codes "t1 unselect s0 k" ++ t) ≤ 4096) (append-nil (decimal k))
      (line_length k is (codes "t1 unselect s0 k") [] (omega arith) (omega arith));
}

channel_are : (c : ℕ) → c < 64 → AreLines (channel_lines c) (channel_calls c)
channel_are c below = (source_line, (blocking_line c (short c below), (register_line c (short c below), tt)))

wakeup_are : (r : ℕ) → AreLines (wakeup_lines r) (wakeup_calls r)
wakeup_are r = either (r % 8 == 0)
  where
    either : (b : Bool) → AreLines (if b then codes "t2 wakeup s0" ∷ [] else [])
        (if b then record { caller = second_caller; call = call.Wakeup selector } ∷ [] else [])
    either true = (wakeup_line, tt)
    either false = tt

selection_are : (k : ℕ) → k < 64 → AreLines (selection_lines k) (selection_calls k)
selection_are k below = (begin_line, (told_line k (short k below), (unselect_line k (short k below), tt)))

round_are : (r : ℕ) → AreLines (round_lines r) (round_calls r)
round_are r =
    lines_append (wakeup_lines r) (wakeup_calls r) (selection_lines (key_of_round r)) (selection_calls (key_of_round r))
    (wakeup_are r)
    (selection_are (key_of_round r) (omega arith))

below_are : (n : ℕ) (f : ℕ → List (List ℕ)) (g : ℕ → List ScriptCall) → ((k : ℕ) → k < n → AreLines (f k) (g k))
    → AreLines (lines_below n f) (calls_below n g)
unfolding lines_below calls_below
below_are n f g all = lines_each f g 0 n (λ k below. all k (omega (arith, below)))

generated_are : (rounds : ℕ) → AreLines (generated_lines rounds) (generated_calls rounds)
generated_are rounds = (
  selector_line,
  lines_append (lines_below 64 channel_lines) (calls_below 64 channel_calls) (lines_below rounds round_lines)
      (calls_below rounds round_calls)
      (below_are 64 channel_lines channel_calls channel_are)
      (below_are rounds round_lines round_calls (λ r below. round_are r)),
)

pub generated_script : (rounds : ℕ) → IsScript (generated rounds) (generated_calls rounds)
generated_script rounds = script_of (generated_lines rounds) (generated_calls rounds) (generated_are rounds)

-- ---- how many they are

few_each : (g : ℕ → List ScriptCall) (m a n : ℕ) → ((k : ℕ) → length (g k) ≤ m)
    → length (flat_map g (range_with_len a n)) ≤ m * n
few_each g m a zero few = omega arith
few_each g m a (suc n) few =
    let whole : length (g a ++ flat_map g (range_with_len (a + 1) n)) ≡ length (g a)
    + length (flat_map g (range_with_len (a + 1) n)) = length-append (g a)
    (flat_map g (range_with_len (a + 1) n)) in
    let first = few a in
    let rest = few_each g m (a + 1) n few in
    let product : m * suc n ≡ m * n + m = mul-suc m n in
    omega (arith, whole, first, rest, product)

few_below : (m n : ℕ) (g : ℕ → List ScriptCall) → ((k : ℕ) → length (g k) ≤ m) → length (calls_below n g) ≤ m * n
unfolding calls_below
few_below m n g few = few_each g m 0 n few

few_round : (r : ℕ) → length (round_calls r) ≤ 4
few_round r = either (r % 8 == 0)
  where
    either : (b : Bool)
        → length ((if b then record { caller = second_caller; call = call.Wakeup selector } ∷ [] else [])
        ++ selection_calls (key_of_round r)) ≤ 4
    either true = omega arith
    either false = omega arith

few_calls : (rounds : ℕ) → length (generated_calls rounds) ≤ 193 + 4 * rounds
few_calls rounds =
    let whole : length (calls_below 64 channel_calls ++ calls_below rounds round_calls)
    ≡ length (calls_below 64 channel_calls) + length (calls_below rounds round_calls) = length-append
    (calls_below 64 channel_calls) (calls_below rounds round_calls) in
    let first = few_below 3 64 channel_calls (λ c. omega arith) in
    let rest = few_below 4 rounds round_calls few_round in
    omega (arith, whole, first, rest)

-- the generated text is a script of these calls alone
pub only_calls : (rounds : ℕ) (calls : List ScriptCall) → IsScript (generated rounds) calls
    → calls ≡ generated_calls rounds
only_calls rounds calls is = calls_one is (generated_script rounds)

pub few_read : (rounds : ℕ) (calls : List ScriptCall) → IsScript (generated rounds) calls
    → length calls ≤ 193 + 4 * rounds
few_read rounds calls is =
    subst (λ (cs : List ScriptCall). length cs ≤ 193 + 4 * rounds) (sym (only_calls rounds calls is)) (few_calls rounds)
