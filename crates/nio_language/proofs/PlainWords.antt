-- Plain words, of which lines and replies are made: no byte below `-`, so no space and no newline, and no `>`.
use Rattle.std.proofs.Common.{◌≡◌, ◌≢◌, ℕ, zero, suc, ◌+◌, ℤ, pos, negsuc, Bool, true, false, not, ◌&&◌, if◌then◌else◌}
use Rattle.std.proofs.Common.{Option, None, Some, List, [], ◌∷◌, ◌++◌, ◌<◌, ◌≤◌, ◌/◌, ◌%◌, ◌==◌, nat_le, nat_lt, map}
use Rattle.std.proofs.Common.{codes, refl, sym, subst, ap, ◌∙◌, arith, All}
use Rattle.std.specs.Fmt.{decimal, signed_decimal, digits, digits_onto, digit_glyph}
use Rattle.std.specs.Int.{IsInRange}
use Rattle.std.specs.List.{AllByRecursion, list_all}
use Rattle.std.specs.Str.{bytes_eq}
use Rattle.std.proofs.lemmas.Bool.{and_parts, cond_both, eq-eqb, false≢true, leb-true, lt-ltb, ltb-true}
use Rattle.std.proofs.lemmas.List.Elements.{All-append, All-cons, All-from_recursion, All-nil, All-weaker}
use Rattle.std.proofs.lemmas.List.Elements.{recursion_from_All}
use Rattle.std.proofs.lemmas.List.Sums.{AllPass-from_list_all}
use Rattle.nio_base.specs.declared.group.Finished.{Finished}
use Rattle.nio_base.specs.declared.group.Finished.TheVariants as finished
use Rattle.nio_base.specs.declared.group.GKind.{GKind}
use Rattle.nio_base.specs.declared.group.GKind.TheVariants as group_kind
use Rattle.nio_base.specs.declared.group.OpKind.{OpKind}
use Rattle.nio_base.specs.declared.group.OpKind.TheVariants as op
use Rattle.nio_base.specs.declared.group.Outcome.{Outcome}
use Rattle.nio_base.specs.declared.group.Outcome.TheVariants as outcome
use Rattle.nio_base.specs.declared.group.Why.TheVariants as failed
use Rattle.nio_base.specs.declared.kind.Kind.{Kind}
use Rattle.nio_base.specs.declared.kind.Kind.TheVariants.{Stream}
use Rattle.nio_base.specs.declared.numbers.CallerNo.{CallerNo}
use Rattle.nio_base.specs.declared.numbers.ChanId.{ChanId}
use Rattle.nio_base.specs.declared.numbers.GChan.{GChan}
use Rattle.nio_base.specs.declared.numbers.KeyId.{KeyId}
use Rattle.nio_base.specs.declared.numbers.SelNo.{SelNo}
use Rattle.nio_history.specs.declared.why.Why.{Why}
use Rattle.nio_history.specs.declared.why.Why.TheVariants as why
use Rattle.nio_language.specs.Arguments.{Arguments, nothing, one_caller, one_selector, one_channel, one_kind}
use Rattle.nio_language.specs.Arguments.{channel_mode}
use Rattle.nio_language.specs.Arguments.{channel_selector, channel_bytes, channel_count, registration, selector_key}
use Rattle.nio_language.specs.Arguments.{key_ops, key_number, selector_wait, selector_told, on_group, argument_words}
use Rattle.nio_language.specs.Arguments.{attachment_words, elapsed_words, mode_word, waiting_words}
use Rattle.nio_language.specs.Calls.{call_words}
use Rattle.nio_language.specs.CallWords.{arguments, call_word, call_word_text}
use Rattle.nio_language.specs.GroupCalls.{group_argument_words}
use Rattle.nio_language.specs.GroupReplies.{group_reply_words}
use Rattle.nio_language.specs.GroupWords.{finished_words, group_channel_word, group_kind_word, operation_kind_word}
use Rattle.nio_language.specs.GroupWords.{outcome_words}
use Rattle.nio_language.specs.Replies.{pairs_words, reply_words, why_word}
use Rattle.nio_language.specs.Words.{bytes_word, caller_word, channel_word, hex_digit, hex_digits, key_word, kind_word}
use Rattle.nio_language.specs.Words.{name_word}
use Rattle.nio_language.specs.Words.{pair_word, selector_word}
use Rattle.nio_language.specs.declared.call.Call.{Call}
use Rattle.nio_language.specs.declared.call.Waiting.{Waiting}
use Rattle.nio_language.specs.declared.call.Waiting.TheVariants.{Now, Wait, For}
use Rattle.nio_language.specs.declared.group_call.GroupCall.{GroupCall}
use Rattle.nio_language.specs.declared.group_call.GroupCall.TheVariants as group
use Rattle.nio_language.specs.declared.group_reply.GroupReply.{GroupReply}
use Rattle.nio_language.specs.declared.group_reply.GroupReply.TheVariants as group_reply
use Rattle.nio_language.specs.declared.reply.Reply.{Reply}
use Rattle.nio_language.specs.declared.reply.Reply.TheVariants as reply
use Rattle.nio_language.specs.declared.call_word.CallWord.{CallWord}
use Rattle.nio_language.specs.declared.call_word.TheConstants.{CALL_WORDS}
use Rattle.nio_language.proofs.CallWordTable.{found_has, in_table}
use Rattle.nio_language.proofs.NameWords.{NameForm, first, later, name_form, number_word, pair_word_cut}

-- a digit, a small letter, `-`, `.` and `:` are plain
abbrev pub IsPlainByte : ℕ → Type 0
IsPlainByte b = (45 ≤ b) × (b ≢ 62)

abbrev pub IsPlain : List ℕ → Type 0
IsPlain word = All IsPlainByte word

-- what holds of each plain byte holds of each byte of plain words
pub words_weaker : (P : ℕ → Type 0) → ((b : ℕ) → IsPlainByte b → P b) → (words : List (List ℕ))
    → AllByRecursion IsPlain words
    → AllByRecursion (All P) words
words_weaker P weaker words plain =
    recursion_from_All (All P) words
    (All-weaker IsPlain (All P) (λ word. All-weaker IsPlainByte P weaker word) words
    (All-from_recursion IsPlain words plain))

-- a word that computes

abbrev pub is_plain_byte : ℕ → Bool
is_plain_byte b = nat_le 45 b && not (b == 62)

pub plain_where_so : (b : ℕ) → is_plain_byte b ≡ true → IsPlainByte b
plain_where_so b e =
    let parts = and_parts (nat_le 45 b) (not (b == 62)) e in
    (leb-true 45 b parts.0, λ arrow. false≢true (sym (ap not (eq-eqb b 62 arrow)) ∙ parts.1))

pub literal : (word : List ℕ) → list_all is_plain_byte word ≡ true → IsPlain word
literal word e =
    All-weaker (λ b. is_plain_byte b ≡ true) IsPlainByte plain_where_so word
    (AllPass-from_list_all is_plain_byte word e)

literals : (words : List (List ℕ)) → list_all (list_all is_plain_byte) words ≡ true → AllByRecursion IsPlain words
literals [] e = tt
literals (word ∷ words) e =
    let parts = and_parts (list_all is_plain_byte word) (list_all (list_all is_plain_byte) words) e in
    (literal word parts.0, literals words parts.1)

-- numbers, and letters with a number

digit : (d : ℕ) → d < 10 → IsInRange 48 57 (digit_glyph false d)
digit d h =
    subst (λ (b : Bool). IsInRange 48 57 (if b then 48 + d else 87 + d)) (sym (lt-ltb d 10 h))
    (omega arith, omega arith)

digits_before : (k n : ℕ) (after : List ℕ) → All (IsInRange 48 57) after
    → All (IsInRange 48 57) (digits_onto k 10 false n after)
digits_before zero n after h = h
digits_before (suc k) n after h =
    let last = digit_glyph false (n % 10) in
    let more = All-cons (IsInRange 48 57) last after (digit (n % 10) (omega arith)) h in
    cond_both (n / 10 == 0) (last ∷ after) (digits_onto k 10 false (n / 10) (last ∷ after)) (All (IsInRange 48 57))
    (λ _. more) (λ _. digits_before k (n / 10) (last ∷ after) more)

-- the bytes of a decimal number are digits, however large it is
pub decimal_digits : (n : ℕ) → All (IsInRange 48 57) (decimal n)
unfolding digits
decimal_digits n = digits_before 64 n [] (All-nil (IsInRange 48 57))

decimal_plain : (n : ℕ) → IsPlain (decimal n)
decimal_plain n =
    All-weaker (IsInRange 48 57) IsPlainByte (λ b r. (omega (arith, r), omega (arith, r))) (decimal n)
    (decimal_digits n)

pub numbered_plain : (letter n : ℕ) → IsPlainByte letter → IsPlain (letter ∷ decimal n)
numbered_plain letter n plain = All-cons IsPlainByte letter (decimal n) plain (decimal_plain n)

pub caller_plain : (t : CallerNo) → IsPlain (caller_word t)
caller_plain t = numbered_plain 116 t.0 (omega arith, omega arith)

selector_plain : (s : SelNo) → IsPlain (selector_word s)
selector_plain s = numbered_plain 115 s.0 (omega arith, omega arith)

name_plain : (letter n m : ℕ) → IsPlainByte letter → IsPlain (name_word letter (n, m))
name_plain letter n m plain = by_form (name_form letter n m)
  where
    number : IsPlain (number_word letter n)
    number = numbered_plain letter n plain

    by_form : NameForm letter n m → IsPlain (name_word letter (n, m))
    by_form (first zeroth is) = subst IsPlain (sym is) number
    by_form (later some is) =
        subst IsPlain (sym is)
        (All-append IsPlainByte (number_word letter n) (46 ∷ decimal m) number
        (numbered_plain 46 m (omega arith, omega arith)))

channel_plain : (c : ChanId) → IsPlain (channel_word c)
channel_plain c = name_plain 99 c.number.0 c.serial (omega arith, omega arith)

group_channel_plain : (g : GChan) → IsPlain (group_channel_word g)
group_channel_plain g = name_plain 103 g.number g.serial (omega arith, omega arith)

key_plain : (k : KeyId) → IsPlain (key_word k)
key_plain k = name_plain 107 k.index k.serial (omega arith, omega arith)

pair_plain : (p : KeyId × ℕ) → IsPlain (pair_word p)
pair_plain p =
    subst IsPlain (sym (pair_word_cut p))
    (All-append IsPlainByte (key_word p.0) (58 ∷ decimal p.1) (key_plain p.0)
    (numbered_plain 58 p.1 (omega arith, omega arith)))

time_plain : (ms : ℤ) → IsPlain (signed_decimal ms)
time_plain (pos n) = decimal_plain n
time_plain (negsuc n) = numbered_plain 45 (suc n) (omega arith, omega arith)

-- bytes

hex_digit_plain : (d : ℕ) → IsPlainByte (hex_digit d)
hex_digit_plain d =
    cond_both (nat_lt d 10) (48 + d) (87 + d) IsPlainByte
    (λ e. let small = ltb-true d 10 e in (omega arith, omega arith)) (λ _. (omega arith, omega arith))

hex_digits_plain : (bytes : List ℕ) → IsPlain (hex_digits bytes)
hex_digits_plain [] = All-nil IsPlainByte
hex_digits_plain (b ∷ bytes) =
    All-cons IsPlainByte (hex_digit (b / 16)) (hex_digit (b % 16) ∷ hex_digits bytes) (hex_digit_plain (b / 16))
    (All-cons IsPlainByte (hex_digit (b % 16)) (hex_digits bytes) (hex_digit_plain (b % 16)) (hex_digits_plain bytes))

bytes_plain : (bytes : List ℕ) → IsPlain (bytes_word bytes)
bytes_plain [] = literal (codes "-") refl
bytes_plain (b ∷ bytes) = hex_digits_plain (b ∷ bytes)

-- the words of calls

kind_plain : (kind : Kind) → IsPlain (kind_word kind)
kind_plain Stream = literal (kind_word Stream) refl
kind_plain kind = literal (kind_word kind) refl

mode_plain : (on : Bool) → IsPlain (mode_word on)
mode_plain true = literal (codes "on") refl
mode_plain false = literal (codes "off") refl

waiting_plain : (waiting : Waiting) → AllByRecursion IsPlain (waiting_words waiting)
waiting_plain Now = (literal (codes "now") refl, tt)
waiting_plain Wait = (literal (codes "wait") refl, tt)
waiting_plain (For ms) = (literal (codes "for") refl, (time_plain ms, tt))

attachment_plain : (att : Option ℕ) → AllByRecursion IsPlain (attachment_words att)
attachment_plain None = tt
attachment_plain (Some att) = (decimal_plain att, tt)

pairs_plain : (pairs : List (KeyId × ℕ)) → AllByRecursion IsPlain (map pair_word pairs)
pairs_plain [] = tt
pairs_plain (p ∷ pairs) = (pair_plain p, pairs_plain pairs)

told_plain : (elapsed : Bool) (pairs : List (KeyId × ℕ))
    → AllByRecursion IsPlain (elapsed_words elapsed ++ map pair_word pairs)
told_plain true pairs = (literal (codes "elapsed") refl, pairs_plain pairs)
told_plain false pairs = pairs_plain pairs

-- the words of calls on the group

group_kind_plain : (kind : GKind) → IsPlain (group_kind_word kind)
group_kind_plain group_kind.Stream = literal (group_kind_word group_kind.Stream) refl
group_kind_plain kind = literal (group_kind_word kind) refl

operation_kind_plain : (kind : OpKind) → IsPlain (operation_kind_word kind)
operation_kind_plain op.Accept = literal (operation_kind_word op.Accept) refl
operation_kind_plain kind = literal (operation_kind_word kind) refl

outcome_plain : (o : Outcome) → AllByRecursion IsPlain (outcome_words o)
outcome_plain (outcome.Count k) = (literal (codes "count") refl, (decimal_plain k, tt))
outcome_plain o = literals (outcome_words o) refl

group_arguments_plain : (g : GroupCall) → AllByRecursion IsPlain (group_argument_words g)
group_arguments_plain (group.Gopen kind) = (group_kind_plain kind, tt)
group_arguments_plain (group.Gbind g) = (group_channel_plain g, tt)
group_arguments_plain (group.Start g kind len) =
    (group_channel_plain g, (operation_kind_plain kind, (decimal_plain len, tt)))
group_arguments_plain (group.Report n o) = (decimal_plain n.0, outcome_plain o)
group_arguments_plain group.Take = tt
group_arguments_plain (group.Done n) = (decimal_plain n.0, tt)
group_arguments_plain (group.Gclose g) = (group_channel_plain g, tt)
group_arguments_plain group.Shutdown = tt
group_arguments_plain group.ShutdownNow = tt
group_arguments_plain group.IsShutdown = tt
group_arguments_plain group.Terminated = tt

-- the arguments of calls

arguments_plain : (args : Arguments) → AllByRecursion IsPlain (argument_words args)
arguments_plain nothing = tt
arguments_plain (one_caller t) = (caller_plain t, tt)
arguments_plain (one_selector s) = (selector_plain s, tt)
arguments_plain (one_channel c) = (channel_plain c, tt)
arguments_plain (one_kind kind) = (kind_plain kind, tt)
arguments_plain (channel_mode c on) = (channel_plain c, (mode_plain on, tt))
arguments_plain (channel_bytes c bytes) = (channel_plain c, (bytes_plain bytes, tt))
arguments_plain (channel_count c n) = (channel_plain c, (decimal_plain n, tt))
arguments_plain (channel_selector c s) = (channel_plain c, (selector_plain s, tt))
arguments_plain (registration s c ops att) =
    (selector_plain s, (channel_plain c, (decimal_plain ops, attachment_plain att)))
arguments_plain (selector_key s k) = (selector_plain s, (key_plain k, tt))
arguments_plain (key_ops s k ops) = (selector_plain s, (key_plain k, (decimal_plain ops, tt)))
arguments_plain (key_number s k n) = (selector_plain s, (key_plain k, (decimal_plain n, tt)))
arguments_plain (selector_wait s waiting) = (selector_plain s, waiting_plain waiting)
arguments_plain (selector_told s elapsed pairs) = (selector_plain s, told_plain elapsed pairs)
arguments_plain (on_group g) = group_arguments_plain g

-- each word of the table is plain
word_plain : (w : CallWord) → IsPlain (call_word_text w)
word_plain w =
    literal (call_word_text w)
    (found_has (λ v. list_all is_plain_byte (call_word_text v)) (λ v. bytes_eq (call_word_text v) (call_word_text w))
    CALL_WORDS w refl (in_table w))

pub call_plain : (call : Call) → AllByRecursion IsPlain (call_words call)
call_plain call = (word_plain (call_word call), arguments_plain (arguments call))

-- the words of replies

why_plain : (w : Why) → IsPlain (why_word w)
why_plain why.Ready = literal (why_word why.Ready) refl
why_plain w = literal (why_word w) refl

keys_plain : (keys : List KeyId) → AllByRecursion IsPlain (map key_word keys)
keys_plain [] = tt
keys_plain (k ∷ keys) = (key_plain k, keys_plain keys)

looked_plain : (pairs : List (KeyId × ℕ)) → AllByRecursion IsPlain (pairs_words pairs)
looked_plain [] = (literal (codes "none") refl, tt)
looked_plain (p ∷ pairs) = pairs_plain (p ∷ pairs)

finished_plain : (result : Finished) → AllByRecursion IsPlain (finished_words result)
finished_plain (finished.Count k) = (literal (codes "count") refl, (decimal_plain k, tt))
finished_plain (finished.Accepted g) = (literal (codes "accepted") refl, (group_channel_plain g, tt))
finished_plain (finished.Failed failed.Fault) = literals (finished_words (finished.Failed failed.Fault)) refl
finished_plain result = literals (finished_words result) refl

group_reply_plain : (r : GroupReply) → AllByRecursion IsPlain (group_reply_words r)
group_reply_plain (group_reply.Channel g) = (group_channel_plain g, tt)
group_reply_plain (group_reply.Op n) = (literal (codes "op") refl, (decimal_plain n.0, tt))
group_reply_plain (group_reply.Completed n result) =
    (literal (codes "op") refl, (decimal_plain n.0, finished_plain result))
group_reply_plain r = literals (group_reply_words r) refl

pub reply_words_plain : (r : Reply) → AllByRecursion IsPlain (reply_words r)
reply_words_plain (reply.Selector s) = (selector_plain s, tt)
reply_words_plain (reply.Channel c) = (channel_plain c, tt)
reply_words_plain (reply.Key k) = (key_plain k, tt)
reply_words_plain (reply.Number n) = (decimal_plain n, tt)
reply_words_plain (reply.Names keys) = keys_plain keys
reply_words_plain (reply.Looked pairs) = (literal (codes "looked") refl, looked_plain pairs)
reply_words_plain (reply.Selected count w) = (literal (codes "selected") refl, (decimal_plain count, (why_plain w, tt)))
reply_words_plain (reply.Ends source sink) = (channel_plain source, (channel_plain sink, tt))
reply_words_plain (reply.Bytes bytes) = (bytes_plain bytes, tt)
reply_words_plain (reply.Group r) = group_reply_plain r
reply_words_plain r = literals (reply_words r) refl
