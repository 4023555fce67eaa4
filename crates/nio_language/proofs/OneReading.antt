-- A line is a call of one caller, and of no other: what has the same text is the same.
use Rattle.std.proofs.Common.{◌≡◌, ◌≢◌, ℕ, suc, ◌<◌, ◌^◌, pos, negsuc, Bool, true, false, Option, Some, None, List, []}
use Rattle.std.proofs.Common.{◌∷◌, ◌++◌, length, drop, map, inl, inr, refl, sym, ap, ◌∙◌, subst, arith, All, nat_eq}
use Rattle.std.proofs.Common.{find}
use Rattle.std.specs.Prelude.{⊤}
use Rattle.std.specs.Fmt.{decimal, signed_decimal}
use Rattle.std.specs.List.{slice_split}
use Rattle.std.specs.Str.{bytes_eq}
use Rattle.std.proofs.lemmas.Fmt.{decimal_injective, decimal_nonempty}
use Rattle.std.proofs.lemmas.List.Elements.{All-head, All-tail}
use Rattle.std.proofs.lemmas.Option.{same_Some}
use Rattle.nio_base.specs.declared.kind.Kind.{Kind}
use Rattle.nio_base.specs.declared.kind.Kind.TheVariants.{Stream, Listener, Source, Sink, Datagram}
use Rattle.nio_base.specs.declared.numbers.CallerNo.{CallerNo}
use Rattle.nio_base.specs.declared.numbers.ChanId.{ChanId}
use Rattle.nio_base.specs.declared.numbers.KeyId.{KeyId}
use Rattle.nio_base.specs.declared.numbers.SelNo.{SelNo}
use Rattle.nio_language.specs.Arguments.{Arguments, nothing, one_caller, one_selector, one_channel, one_kind}
use Rattle.nio_language.specs.Arguments.{channel_mode}
use Rattle.nio_language.specs.Arguments.{channel_selector, channel_bytes, channel_count, registration, selector_key}
use Rattle.nio_language.specs.Arguments.{key_ops, key_number, selector_wait, selector_told, on_group, ArgumentsFit}
use Rattle.nio_language.specs.Arguments.{IsAttachment, IsChannelName, IsKeyName, IsMilliseconds, IsPair, IsTime}
use Rattle.nio_language.specs.Words.{IsName}
use Rattle.nio_language.specs.Arguments.{argument_words}
use Rattle.nio_language.specs.Arguments.{attachment_words, elapsed_words, mode_word, waiting_words}
use Rattle.nio_language.specs.Calls.{IsBlank, IsCall, IsLine, call_words}
use Rattle.nio_language.specs.CallWords.{arguments, call_word, call_word_text}
use Rattle.nio_language.specs.Printing.{spaced}
use Rattle.nio_language.specs.Script.{AreCalls, no_lines, blank_line, call_line}
use Rattle.nio_language.specs.Words.{IsNumber, caller_word, selector_word, channel_word, key_word, name_word, pair_word}
use Rattle.nio_language.specs.Words.{kind_word}
use Rattle.nio_language.specs.declared.call.Call.{Call}
use Rattle.nio_language.specs.declared.call.ScriptCall.{ScriptCall}
use Rattle.nio_language.specs.declared.call.Waiting.{Waiting}
use Rattle.nio_language.specs.declared.call.Waiting.TheVariants.{Now, Wait, For}
use Rattle.nio_language.specs.declared.call_word.CallWord.{CallWord}
use Rattle.nio_language.specs.declared.call_word.CallWord.TheVariants as word
use Rattle.nio_language.specs.declared.call_word.TheConstants.{CALL_WORDS}
use Rattle.nio_language.proofs.CallParts.{AreOf, HaveShape, have_shape, parts_one}
use Rattle.nio_language.proofs.CallWordTable.{reads_call_word}
use Rattle.nio_language.proofs.Cuts.{cut_one}
use Rattle.nio_language.proofs.HexWords.{bytes_one}
use Rattle.nio_language.proofs.JoinedWords.{join_spaced}
use Rattle.nio_language.proofs.NameWords.{NameForm, first, later, decimal_lacks, key_word_lacks_colon, lacks_none}
use Rattle.nio_language.proofs.NameWords.{name_form, number_lacks_point, number_word, pair_word_cut}
use Rattle.nio_language.proofs.OneGroupCall.{group_call_one}
use Rattle.nio_language.proofs.OneName.{name_one}
use Rattle.nio_language.proofs.Ones.{IsOne, all_three, both, byte_at, numbered_one, word_at}
use Rattle.nio_language.proofs.GroupParts.{of_word}
use Rattle.nio_language.proofs.Spaces.{split_join, caller_spaceless, call_spaceless}

-- words

abbrev caller_no : ℕ → CallerNo
caller_no n = record { 0 = n }

abbrev selector_no : ℕ → SelNo
selector_no n = record { 0 = n }

caller_one : IsOne (λ t. t.0 < 64) caller_word
caller_one x y f g e = ap caller_no (numbered_one 116 x.0 y.0 (omega arith) (omega arith) e)

selector_one : IsOne (λ s. IsNumber s.0) selector_word
selector_one x y f g e = ap selector_no (numbered_one 115 x.0 y.0 (omega arith) (omega arith) e)

channel_one : IsOne IsChannelName channel_word
channel_one x y f g e =
    let parts = name_one 99 x.number.0 x.serial y.number.0 y.serial (λ q. omega (arith, q)) f g e in
    ap (λ n. let c : ChanId = record { number = record { 0 = n }; serial = x.serial } in c) parts.0
    ∙ ap (λ m. let c : ChanId = record { number = y.number; serial = m } in c) parts.1

key_one : IsOne IsKeyName key_word
key_one x y f g e =
    let parts = name_one 107 x.index x.serial y.index y.serial (λ q. omega (arith, q)) f g e in
    ap (λ i. let k : KeyId = record { index = i; serial = x.serial } in k) parts.0
    ∙ ap (λ m. let k : KeyId = record { index = y.index; serial = m } in k) parts.1

-- each kind begins with another letter, but for three
kind_one : (x y : Kind) → kind_word x ≡ kind_word y → x ≡ y
kind_one Stream Stream e = refl
kind_one Listener Listener e = refl
kind_one Source Source e = refl
kind_one Sink Sink e = refl
kind_one Datagram Datagram e = refl
kind_one Stream Source e = absurd (omega (arith, byte_at 1 e))
kind_one Stream Sink e = absurd (omega (arith, byte_at 1 e))
kind_one Source Stream e = absurd (omega (arith, byte_at 1 e))
kind_one Source Sink e = absurd (omega (arith, byte_at 1 e))
kind_one Sink Stream e = absurd (omega (arith, byte_at 1 e))
kind_one Sink Source e = absurd (omega (arith, byte_at 1 e))
kind_one _ _ e = absurd (omega (arith, byte_at 0 e))

mode_one : (x y : Bool) → mode_word x ≡ mode_word y → x ≡ y
mode_one true true e = refl
mode_one false false e = refl
mode_one _ _ e = absurd (omega (arith, byte_at 1 e))

attachment_one : IsOne IsAttachment attachment_words
attachment_one None None f g e = refl
attachment_one None (Some y) f g e = absurd (cc e)
attachment_one (Some x) None f g e = absurd (cc e)
attachment_one (Some x) (Some y) f g e = ap Some (decimal_injective x y f g (word_at 0 e))

-- no number begins with a minus
no_minus : (n : ℕ) (digits : List ℕ) → n < 2 ^ 64 → decimal n ≡ 45 ∷ digits → ⊥
no_minus n digits h e = decimal_lacks n 45 h (λ r. omega (arith, r)) 0 0 (decimal_nonempty n h) (byte_at 0 e)

time_one : IsOne IsMilliseconds signed_decimal
time_one (pos m) (pos n) f g e = ap pos (decimal_injective m n (omega arith) (omega arith) e)
time_one (pos m) (negsuc n) f g e = absurd (no_minus m (decimal (suc n)) (omega arith) e)
time_one (negsuc m) (pos n) f g e = absurd (no_minus n (decimal (suc m)) (omega arith) (sym e))
time_one (negsuc m) (negsuc n) f g e =
    let same : suc m ≡ suc n = numbered_one 45 (suc m) (suc n) (omega arith) (omega arith) e in
    let below : m ≡ n = omega arith in
    ap negsuc below

waiting_one : IsOne IsTime waiting_words
waiting_one Now Now f g e = refl
waiting_one Wait Wait f g e = refl
waiting_one (For x) (For y) f g e = ap For (time_one x y f g (word_at 1 e))
waiting_one _ _ f g e = absurd (omega (arith, byte_at 0 (word_at 0 e)))

pair_one : IsOne IsPair pair_word
pair_one x y f g e =
    let parts = cut_one 58 (key_word x.0) (decimal x.1) (key_word y.0) (decimal y.1)
    (key_word_lacks_colon x.0 f.key_fits) (key_word_lacks_colon y.0 g.key_fits)
    (sym (pair_word_cut x) ∙ e ∙ pair_word_cut y) in
    ap (λ (k : KeyId). (k, x.1)) (key_one x.0 y.0 f.key_fits g.key_fits parts.0)
    ∙ ap (λ (o : ℕ). (y.0, o)) (decimal_injective x.1 y.1 (omega (arith, f.ops_fit)) (omega (arith, g.ops_fit)) parts.1)

pairs_one : IsOne (All IsPair) (map pair_word)
pairs_one [] [] f g e = refl
pairs_one [] (y ∷ ys) f g e = absurd (cc e)
pairs_one (x ∷ xs) [] f g e = absurd (cc e)
pairs_one (x ∷ xs) (y ∷ ys) f g e =
    ap (λ p. p ∷ xs) (pair_one x y (All-head IsPair x xs f) (All-head IsPair y ys g) (word_at 0 e))
    ∙ ap (λ ps. y ∷ ps) (pairs_one xs ys (All-tail IsPair x xs f) (All-tail IsPair y ys g) (ap (drop 1) e))

-- the word elapsed isn't a pair
not_elapsed : (pairs others : List (KeyId × ℕ)) → elapsed_words true ++ map pair_word pairs ≡ map pair_word others → ⊥
not_elapsed pairs [] e = cc e
not_elapsed pairs (p ∷ others) e = omega (arith, byte_at 0 (word_at 0 e))

told_one : (a b : Bool) (xs ys : List (KeyId × ℕ)) → All IsPair xs → All IsPair ys
    → elapsed_words a ++ map pair_word xs ≡ elapsed_words b ++ map pair_word ys → (a ≡ b) × (xs ≡ ys)
told_one true true xs ys f g e = (refl, pairs_one xs ys f g (ap (drop 1) e))
told_one false false xs ys f g e = (refl, pairs_one xs ys f g e)
told_one true false xs ys f g e = absurd (not_elapsed xs ys e)
told_one false true xs ys f g e = absurd (not_elapsed ys xs (sym e))

-- arguments

all_four : {A B C D : Type 0} (x y : A × B × C × D) → x.0 ≡ y.0 → x.1 ≡ y.1 → x.2 ≡ y.2 → x.3 ≡ y.3 → x ≡ y
all_four x y p q r s = ap (λ a. (a, x.1, x.2, x.3)) p ∙ ap (λ b. (y.0, b, x.2, x.3)) q ∙ ap (λ c. (y.0, y.1, c, x.3)) r
    ∙ ap (λ d. (y.0, y.1, y.2, d)) s

-- arguments of one shape with the same words are the same
abbrev IsOneShape : {A : Type 0} → (A → Arguments) → Type 0
IsOneShape shape = IsOne (λ x. ArgumentsFit (shape x)) (λ x. argument_words (shape x))

nothing_one : IsOneShape {A = ⊤} (λ _. nothing)
nothing_one x y f g e = refl

one_caller_one : IsOneShape one_caller
one_caller_one x y f g e = caller_one x y f g (word_at 0 e)

one_selector_one : IsOneShape one_selector
one_selector_one x y f g e = selector_one x y f g (word_at 0 e)

one_channel_one : IsOneShape one_channel
one_channel_one x y f g e = channel_one x y f g (word_at 0 e)

one_kind_one : IsOneShape one_kind
one_kind_one x y f g e = kind_one x y (word_at 0 e)

channel_mode_one : IsOneShape (λ (p : ChanId × Bool). channel_mode p.0 p.1)
channel_mode_one x y f g e = both x y (channel_one x.0 y.0 f g (word_at 0 e)) (mode_one x.1 y.1 (word_at 1 e))

channel_selector_one : IsOneShape (λ (p : ChanId × SelNo). channel_selector p.0 p.1)
channel_selector_one x y f g e =
    both x y (channel_one x.0 y.0 f.0 g.0 (word_at 0 e)) (selector_one x.1 y.1 f.1 g.1 (word_at 1 e))

channel_bytes_one : IsOneShape (λ (p : ChanId × List ℕ). channel_bytes p.0 p.1)
channel_bytes_one x y f g e =
    both x y (channel_one x.0 y.0 f.0 g.0 (word_at 0 e)) (bytes_one x.1 y.1 f.1.each g.1.each (word_at 1 e))

channel_count_one : IsOneShape (λ (p : ChanId × ℕ). channel_count p.0 p.1)
channel_count_one x y f g e =
    both x y (channel_one x.0 y.0 f.0 g.0 (word_at 0 e))
    (decimal_injective x.1 y.1 (omega (arith, f.1)) (omega (arith, g.1)) (word_at 1 e))

registration_one : IsOneShape (λ (p : SelNo × ChanId × ℕ × Option ℕ). registration p.0 p.1 p.2 p.3)
registration_one x y f g e =
    all_four x y (selector_one x.0 y.0 f.0 g.0 (word_at 0 e)) (channel_one x.1 y.1 f.1 g.1 (word_at 1 e))
    (decimal_injective x.2 y.2 (omega (arith, f.2)) (omega (arith, g.2)) (word_at 2 e))
    (attachment_one x.3 y.3 f.3 g.3 (ap (drop 3) e))

selector_key_one : IsOneShape (λ (p : SelNo × KeyId). selector_key p.0 p.1)
selector_key_one x y f g e =
    both x y (selector_one x.0 y.0 f.0 g.0 (word_at 0 e)) (key_one x.1 y.1 f.1 g.1 (word_at 1 e))

key_number_one : IsOneShape (λ (p : SelNo × KeyId × ℕ). key_number p.0 p.1 p.2)
key_number_one x y f g e =
    all_three x y (selector_one x.0 y.0 f.0 g.0 (word_at 0 e)) (key_one x.1 y.1 f.1 g.1 (word_at 1 e))
    (decimal_injective x.2 y.2 f.2 g.2 (word_at 2 e))

key_ops_one : IsOneShape (λ (p : SelNo × KeyId × ℕ). key_ops p.0 p.1 p.2)
key_ops_one x y f g e = key_number_one x y (f.0, f.1, omega (arith, f.2)) (g.0, g.1, omega (arith, g.2)) e

selector_wait_one : IsOneShape (λ (p : SelNo × Waiting). selector_wait p.0 p.1)
selector_wait_one x y f g e =
    both x y (selector_one x.0 y.0 f.0 g.0 (word_at 0 e)) (waiting_one x.1 y.1 f.1 g.1 (ap (drop 1) e))

selector_told_one : IsOneShape (λ (p : SelNo × Bool × List (KeyId × ℕ)). selector_told p.0 p.1 p.2)
selector_told_one x y f g e =
    let rest = told_one x.1 y.1 x.2 y.2 f.1.0 g.1.0 (ap (drop 1) e) in
    all_three x y (selector_one x.0 y.0 f.0 g.0 (word_at 0 e)) rest.0 rest.1

shaped_one : {A : Type 0} (shape : A → Arguments) → IsOneShape shape → (a b : Arguments) → HaveShape shape a
    → HaveShape shape b
    → ArgumentsFit a → ArgumentsFit b → argument_words a ≡ argument_words b → a ≡ b
shaped_one shape one a b x y f g e =
    let same = one x.0 y.0 (subst ArgumentsFit x.1 f) (subst ArgumentsFit y.1 g)
    (ap argument_words (sym x.1) ∙ (e ∙ ap argument_words y.1)) in
    x.1 ∙ (ap shape same ∙ sym y.1)

-- the arguments behind one word have one shape
arguments_one : (w : CallWord) (a b : Arguments) → AreOf w a → AreOf w b → ArgumentsFit a → ArgumentsFit b
    → argument_words a ≡ argument_words b → a ≡ b
arguments_one (word.Alone w) a b = shaped_one {A = ⊤} (λ _. nothing) nothing_one a b
arguments_one (word.OnCaller w) a b = shaped_one one_caller one_caller_one a b
arguments_one (word.OnSelector w) a b = shaped_one one_selector one_selector_one a b
arguments_one (word.OnChannel w) a b = shaped_one one_channel one_channel_one a b
arguments_one (word.OnKey w) a b = shaped_one (λ (p : SelNo × KeyId). selector_key p.0 p.1) selector_key_one a b
arguments_one (word.OnKeyOps w) a b = shaped_one (λ (p : SelNo × KeyId × ℕ). key_ops p.0 p.1 p.2) key_ops_one a b
arguments_one word.Channel a b = shaped_one one_kind one_kind_one a b
arguments_one word.Blocking a b = shaped_one (λ (p : ChanId × Bool). channel_mode p.0 p.1) channel_mode_one a b
arguments_one word.KeyFor a b = shaped_one (λ (p : ChanId × SelNo). channel_selector p.0 p.1) channel_selector_one a b
arguments_one word.Register a b =
    shaped_one (λ (p : SelNo × ChanId × ℕ × Option ℕ). registration p.0 p.1 p.2 p.3) registration_one a b
arguments_one word.Attach a b = shaped_one (λ (p : SelNo × KeyId × ℕ). key_number p.0 p.1 p.2) key_number_one a b
arguments_one word.Begin a b = shaped_one (λ (p : SelNo × Waiting). selector_wait p.0 p.1) selector_wait_one a b
arguments_one word.Told a b =
    shaped_one (λ (p : SelNo × Bool × List (KeyId × ℕ)). selector_told p.0 p.1 p.2) selector_told_one a b
arguments_one word.Pwrite a b = shaped_one (λ (p : ChanId × List ℕ). channel_bytes p.0 p.1) channel_bytes_one a b
arguments_one word.Pread a b = shaped_one (λ (p : ChanId × ℕ). channel_count p.0 p.1) channel_count_one a b
arguments_one (word.OnGroup w) a b = λ x y f g e.
    let same = group_call_one w x.0 y.0 (of_word w x.0 x.2) (of_word w y.0 y.2) (subst ArgumentsFit x.1 f)
    (subst ArgumentsFit y.1 g) (ap argument_words (sym x.1) ∙ (e ∙ ap argument_words y.1)) in
    x.1 ∙ (ap on_group same ∙ sym y.1)

-- calls

call_one : IsOne IsCall call_words
call_one x y f g e =
    let text = call_word_text (call_word x) in
    let found = find (λ w. bytes_eq (call_word_text w) text) CALL_WORDS in
    let read = reads_call_word text found refl in
    let same : call_word x ≡ call_word y = same_Some (call_word x) (call_word y)
    (sym (read.only (call_word x) tt refl) ∙ read.only (call_word y) tt (word_at 0 e)) in
    parts_one x y same
    (arguments_one (call_word y) (arguments x) (arguments y) (subst (λ w. AreOf w (arguments x)) same (have_shape x))
    (have_shape y) f g (ap (drop 1) e))

-- lines

line_words_of : {caller : CallerNo} {c : Call} {line : List ℕ} → IsLine caller c line
    → slice_split (λ b. nat_eq b 32) line ≡ caller_word caller ∷ call_words c
line_words_of {caller = caller} {c = c} is =
    ap (slice_split (λ b. nat_eq b 32)) is.text
    ∙ split_join (caller_word caller) (call_words c) (caller_spaceless caller.0 is.caller_fits)
    (call_spaceless c is.call_fits)

-- a line is a call of one caller alone
pub line_one : {caller other : CallerNo} {c d : Call} {line : List ℕ} → IsLine caller c line → IsLine other d line
    → (caller ≡ other) × (c ≡ d)
line_one {caller = caller} {other = other} {c = c} {d = d} x y =
    let words = sym (line_words_of x) ∙ line_words_of y in (
      caller_one caller other x.caller_fits y.caller_fits (word_at 0 words),
      call_one c d x.call_fits y.call_fits (ap (drop 1) words),
    )

-- a call of a caller isn't blank
pub line_full : {caller : CallerNo} {c : Call} {line : List ℕ} → IsLine caller c line → IsBlank line → ⊥
line_full {caller = caller} {c = c} is blank =
    named_full (decimal caller.0 ++ spaced (call_words c))
    (subst IsBlank (is.text ∙ join_spaced (caller_word caller) (call_words c)) blank)
  where
    named_full : (bytes : List ℕ) → IsBlank (116 ∷ bytes) → ⊥
    named_full bytes (inl e) = cc e
    named_full bytes (inr e) = omega (arith, same_Some 116 35 e)

-- lines are one list of calls
pub calls_one : {lines : List (List ℕ)} {calls others : List ScriptCall} → AreCalls lines calls → AreCalls lines others
    → calls ≡ others
calls_one no_lines no_lines = refl
calls_one (blank_line b rest) (blank_line c more) = calls_one rest more
calls_one (blank_line b rest) (call_line is more) = absurd (line_full is b)
calls_one (call_line is rest) (blank_line b more) = absurd (line_full is b)
calls_one (call_line {caller = t} {c = c} {calls = calls} is rest) (call_line {caller = u} {c = d} same more) =
    let one = line_one is same in
    ap (λ x. record { caller = x; call = c } ∷ calls) one.0 ∙ ap (λ x. record { caller = u; call = x } ∷ calls) one.1
    ∙ ap (λ cs. record { caller = u; call = d } ∷ cs) (calls_one rest more)
