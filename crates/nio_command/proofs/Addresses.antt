-- The text of an address.
use Rattle.std.proofs.Common.{◌≡◌, ◌≢◌, ◌⊎◌, ◌∙◌, ◌<◌, ◌≤◌, ◌==◌, ◌^◌, ◌++◌, ℕ, List, [], ◌∷◌, length, get_or, take}
use Rattle.std.proofs.Common.{All, Option, None, Some, Result, Ok, Err, sym, ap, ap₂, subst, arith, codes, zero, suc}
use Rattle.std.proofs.Common.{inl, inr}
use Rattle.std.specs.Fmt.{decimal}
use Rattle.std.specs.List.{before_first, after_first, position_or_len}
use Rattle.std.specs.Net.Grammar.{IsDotted, IsIpv4Text, Parses}
use Rattle.std.specs.declared.net.ipv4_addr.Ipv4Addr.{Ipv4Addr}
use Rattle.std.specs.Result.{result_ok}
use Rattle.std.specs.Net.Addr.{ipv4_octets}
use Rattle.std.proofs.lemmas.Option.{same_Some}
use Rattle.std.proofs.NetLemmas.Theorems.{IsIpv4Text_unique, Parses_gives}
use Rattle.std.proofs.NetLemmas.Texts.{IsDotted-ipv4_text}
use Rattle.std.proofs.lemmas.List.{append_assoc, get_or_past, length-append, take_all}
use Rattle.std.specs.Net.Text.{dotted_text, ipv4_text}
use Rattle.std.proofs.lemmas.Fmt.{digits_decimal, decimal_nonempty}
use Rattle.std.proofs.lemmas.Str.Parse.{not_in_digits}
use Rattle.std.proofs.lemmas.List.Sums.{split_at_first, passes_at_first}
use Rattle.std.proofs.lemmas.Bool.{cases_lt, eqb-true}
use Rattle.clap.proofs.CutLemmas.{Lacks, after_first-at, before_first-at}
use Rattle.nio_base.specs.declared.numbers.Addr.{Addr}
use Rattle.nio_command.specs.Values.{IsAddress, address_text}
use Rattle.nio_command.proofs.Numbers.{decimal_plain, own}

decimal_lacks : (n : ℕ) → n < 2 ^ 64 → Lacks 58 (decimal n)
decimal_lacks n h i lt = not_in_digits own (decimal n) 58 (digits_decimal own n h) (λ r. omega (arith, r)) i lt

lacks_both : (c : ℕ) (xs ys : List ℕ) → Lacks c xs → Lacks c ys → Lacks c (xs ++ ys)
lacks_both c [] ys h k = k
lacks_both c (x ∷ xs) ys h k =
    let rest = lacks_both c xs ys (λ i lt. h (suc i) (omega arith)) k in
    first_and x xs ys h rest
  where
    first_and : (x : ℕ) (xs ys : List ℕ) → Lacks c (x ∷ xs) → Lacks c (xs ++ ys) → (i : ℕ) → i < length (x ∷ (xs ++ ys))
        → get_or (x ∷ (xs ++ ys)) i 0 ≡ c → ⊥
    first_and x xs ys h rest zero lt e = h 0 (omega arith) e
    first_and x xs ys h rest (suc i) lt e = rest i (omega arith) e

dot_lacks : (i : ℕ) → i < length (codes ".") → get_or (codes ".") i 0 ≡ 58 → ⊥
dot_lacks zero lt e = absurd (omega arith)
dot_lacks (suc i) lt e = omega arith

-- the four numbers of an address hold no colon
dotted_lacks : (a b c d : ℕ) → a < 256 → b < 256 → c < 256 → d < 256 → Lacks 58 (dotted_text a b c d)
dotted_lacks a b c d p q r s =
    lacks_both 58 _ _
    (lacks_both 58 _ _
    (lacks_both 58 _ _
    (lacks_both 58 _ _
    (lacks_both 58 _ _
    (lacks_both 58 _ _ (decimal_lacks a (omega arith)) dot_lacks) (decimal_lacks b (omega arith))) dot_lacks)
    (decimal_lacks c (omega arith))) dot_lacks) (decimal_lacks d (omega arith))

-- ---- the four numbers

part_fits : (a : Addr) → IsAddress a → (k : ℕ) → get_or a.ip k 0 < 256
part_fits a h k = fits (cases_lt k (length a.ip))
  where
    fits : (k < length a.ip) ⊎ (length a.ip ≤ k) → get_or a.ip k 0 < 256
    fits (inl under) = let most = h.parts k 0 under in omega arith
    fits (inr over) = let none = get_or_past a.ip k 0 over in omega arith

pub dotted_of : (a : Addr) → IsAddress a → IsDotted (ipv4_text a.ip) a.ip
dotted_of a h = IsDotted-ipv4_text a.ip h.four (part_fits a h)

pub text_of_dotted : (text o : List ℕ) → IsDotted text o → text ≡ ipv4_text o
text_of_dotted text o h = h.spelled ∙ sym (ap ipv4_text h.value)

four_fit : (a b c d : ℕ) → a < 256 → b < 256 → c < 256 → d < 256 → (k e : ℕ) → k < 4
    → get_or (a ∷ b ∷ c ∷ d ∷ []) k e ≤ 255
four_fit a b c d p q r s zero e lt = omega arith
four_fit a b c d p q r s (suc zero) e lt = omega arith
four_fit a b c d p q r s (suc (suc zero)) e lt = omega arith
four_fit a b c d p q r s (suc (suc (suc zero))) e lt = omega arith
four_fit a b c d p q r s (suc (suc (suc (suc k)))) e lt = absurd (omega arith)

-- what is read is an address
pub address_read : (text o : List ℕ) (port : ℕ) → IsDotted text o → 1 ≤ port → port ≤ 65535
    → IsAddress (record { ip = o; port = port })
address_read text o port h some few = record {
  four = ap length h.value;
  parts = subst (All (λ part. part ≤ 255)) (sym h.value) (four_fit h.a h.b h.c h.d h.fit.0 h.fit.1 h.fit.2 h.fit.3);
  some_port = some;
  port = few;
}

-- the address of four numbers parses as itself
pub parses_ip : {E : Type 0} (text ip : List ℕ) (r : Result Ipv4Addr E) → IsDotted text ip → Parses IsIpv4Text text r
    → r ≡ Ok (record { octets = ip })
parses_ip text ip r h parsed = Parses_gives IsIpv4Text text (record { octets = ip }) r (IsIpv4Text_unique text) h parsed

-- ---- the colon

ipv4_lacks : (a : Addr) → IsAddress a → Lacks 58 (ipv4_text a.ip)
ipv4_lacks a h = dotted_lacks _ _ _ _ (part_fits a h 0) (part_fits a h 1) (part_fits a h 2) (part_fits a h 3)

colon_text : (a : Addr) → address_text a ≡ ipv4_text a.ip ++ 58 ∷ decimal a.port
colon_text a = append_assoc (ipv4_text a.ip) (58 ∷ []) (decimal a.port)

pub before_colon : (text : List ℕ) (a : Addr) → IsAddress a → text ≡ address_text a
    → before_first (λ b. b == 58) text ≡ ipv4_text a.ip
before_colon text a h e =
    ap (before_first (λ b. b == 58)) (e ∙ colon_text a)
    ∙ before_first-at 58 (ipv4_text a.ip) (decimal a.port) (ipv4_lacks a h)

pub after_colon : (text : List ℕ) (a : Addr) → IsAddress a → text ≡ address_text a
    → after_first (λ b. b == 58) text ≡ decimal a.port
after_colon text a h e =
    ap (after_first (λ b. b == 58)) (e ∙ colon_text a)
    ∙ after_first-at 58 (ipv4_text a.ip) (decimal a.port) (ipv4_lacks a h)

-- an address has a colon
pub some_colon : (text : List ℕ) (a : Addr) → IsAddress a → text ≡ address_text a
    → position_or_len (λ b. b == 58) text ≡ length text → ⊥
some_colon text a h e none =
    let whole : before_first (λ b. b == 58) text ≡ text = ap (λ n. take n text) none
    ∙ take_all (length text) text (omega arith) in
    let same : text ≡ ipv4_text a.ip = sym whole ∙ before_colon text a h e in
    let longer : length text ≡ length (ipv4_text a.ip ++ 58 ∷ decimal a.port) = ap length (e ∙ colon_text a) in
    let shorter : length text ≡ length (ipv4_text a.ip) = ap length same in
    omega (arith, length-append (ipv4_text a.ip) (58 ∷ decimal a.port))

-- a text behind a colon stands behind the first one
pub cut_text : (text before after : List ℕ) → before ≡ before_first (λ b. b == 58) text
    → after ≡ after_first (λ b. b == 58) text
    → position_or_len (λ b. b == 58) text < length text → text ≡ before ++ codes ":" ++ after
cut_text text before after front back lt =
    let at : get_or text (position_or_len (λ b. b == 58) text) 0 ≡ 58 =
    eqb-true _ 58 (passes_at_first (λ b. b == 58) text 0 lt) in
    let split = split_at_first (λ b. b == 58) text 0 lt in
    split ∙ ap (λ (c : ℕ). before_first (λ b. b == 58) text ++ c ∷ after_first (λ b. b == 58) text) at
    ∙ ap₂ (λ (x y : List ℕ). x ++ 58 ∷ y) (sym front) (sym back) ∙ sym (append_assoc before (58 ∷ []) after)

-- an address does not begin with a hyphen
record Begins (xs : List ℕ) : Type 0 where
  some : 0 < length xs
  plain : get_or xs 0 0 ≢ 45

begins_append : (xs ys : List ℕ) → Begins xs → Begins (xs ++ ys)
begins_append [] ys h = absurd (let lt = h.some in omega arith)
begins_append (x ∷ xs) ys h = record { some = omega arith; plain = h.plain }

begins_number : (n : ℕ) → n < 256 → Begins (decimal n)
begins_number n h = record { some = decimal_nonempty n (omega arith); plain = decimal_plain n (omega arith) }

begins_dotted : (a b c d : ℕ) → a < 256 → Begins (dotted_text a b c d)
begins_dotted a b c d h =
    begins_append _ _ (begins_append _ _
    (begins_append _ _ (begins_append _ _ (begins_append _ _ (begins_append _ _ (begins_number a h))))))

pub address_plain : (a : Addr) → IsAddress a → get_or (address_text a) 0 0 ≢ 45
address_plain a h = (begins_append _ _ (begins_append _ _ (begins_dotted _ _ _ _ (part_fits a h 0)))).plain

-- ---- what a parse gives

pub some_not_none : {X : Type 0} (o : Option X) (x : X) → o ≡ Some x → o ≡ None → ⊥
some_not_none o x some none = cc

pub ok_not_none : {X E : Type 0} (r : Result X E) (o : Option X) (x : X) → r ≡ Ok x → o ≡ result_ok r → o ≡ None → ⊥
ok_not_none r o x is made none = some_not_none o x (made ∙ ap result_ok is) none

pub value_of_ok : {X E : Type 0} (r : Result X E) (o : Option X) (x v : X) → r ≡ Ok x → o ≡ result_ok r → o ≡ Some v
    → v ≡ x
value_of_ok r o x v is made some = same_Some v x (sym some ∙ made ∙ ap result_ok is)

pub dotted_read : {E : Type 0} (text : List ℕ) (r : Result Ipv4Addr E) (o : Option Ipv4Addr) (v : Ipv4Addr)
    (octets : List ℕ)
    → Parses IsIpv4Text text r → o ≡ result_ok r → o ≡ Some v → octets ≡ ipv4_octets v → IsDotted text octets
dotted_read text (Ok x) o v octets parsed made some same =
    let is : x ≡ v = same_Some x v (sym made ∙ some) in
    subst (IsDotted text) (sym (same ∙ ap ipv4_octets (sym is))) parsed
dotted_read text (Err e) o v octets parsed made some same = absurd (some_not_none o v some made)

abbrev pub address_made : List ℕ → ℕ → Option Addr
address_made ip port = Some (record { ip = ip; port = port })
