-- Words that begin with two hyphens.
use Rattle.std.proofs.Common.{◌≡◌, ◌⊎◌, ◌∙◌, ◌<◌, ◌==◌, ◌++◌, inl, inr, ℕ, Bool, true, false, [], ◌∷◌, Option, Some}
use Rattle.std.proofs.Common.{None, refl, sym, ap, arith, length, get_or, subst, zero, suc}
use Rattle.std.specs.Prelude.{option_and_then}
use Rattle.std.proofs.lemmas.Option.{same_Some}
use Rattle.std.specs.List.{list_any}
use Rattle.std.specs.Str.{bytes_eq}
use Rattle.std.proofs.lemmas.Bool.{eqb-true, eq-eqb}
use Rattle.clap.proofs.CutLemmas.{Lacks}
use Rattle.clap.proofs.LexerLemmas.{name_and_value-at, name_and_value-without}
use Rattle.clap.specs.Lexer.{long_of, long_of_rest, name_and_value, short_of, short_of_rest, strip_byte}
use Rattle.clap.specs.Walk.{Text}

pub stripped : (c : ℕ) (text rest : Text) → strip_byte c text ≡ Some rest → text ≡ c ∷ rest
stripped c [] rest e = absurd (cc)
stripped c (x ∷ xs) rest e = go (x == c) refl
  where
    go : (t : Bool) → (x == c) ≡ t → x ∷ xs ≡ c ∷ rest
    go true t = let same : Some xs ≡ Some rest = rw t at e in let is : x ≡ c = eqb-true x c t in cc
    go false t = let bad : None ≡ Some rest = rw t at e in absurd (cc)

-- the word is its name, behind two hyphens, and its value behind an `=` (61)
abbrev pub joined_word : Text → Text → Text
joined_word name value = 45 ∷ 45 ∷ (name ++ 61 ∷ value)

abbrev pub alone_word : Text → Text
alone_word name = 45 ∷ 45 ∷ name

-- what the parts of a text say of it
abbrev pub MadeOf : Text → Text → Option Text → Type 0
MadeOf text name (Some value) = text ≡ name ++ 61 ∷ value
MadeOf text name None = text ≡ name

Lacks-cons : (c x : ℕ) (xs : Text) → (x == c) ≡ false → Lacks c xs → (i : ℕ) → i < length (x ∷ xs)
    → get_or (x ∷ xs) i 0 ≡ c → ⊥
Lacks-cons c x xs e h zero lt same = let bad : true ≡ false = sym (eq-eqb x c same) ∙ e in absurd (cc)
Lacks-cons c x xs e h (suc i) lt same = h i (omega arith) same

lacks_or_at : (c : ℕ) (text : Text)
    → Lacks c text ⊎ ((before after : Text) × Lacks c before × (text ≡ before ++ c ∷ after))
lacks_or_at c [] = inl (λ i lt. absurd (omega arith))
lacks_or_at c (x ∷ xs) = go (x == c) refl (lacks_or_at c xs)
  where
    go : (t : Bool) → (x == c) ≡ t → Lacks c xs ⊎ ((before after : Text) × Lacks c before × (xs ≡ before ++ c ∷ after))
        → Lacks c (x ∷ xs) ⊎ ((before after : Text) × Lacks c before × (x ∷ xs ≡ before ++ c ∷ after))
    go true e more = inr ([], xs, (λ i lt. absurd (omega arith)), ap (λ (n : ℕ). n ∷ xs) (eqb-true x c e))
    go false e more = elim more [
      | inl none ↦ inl (Lacks-cons c x xs e none)
      | inr p ↦ inr (x ∷ p.0, p.1, Lacks-cons c x p.0 e p.2, ap (λ (t : Text). x ∷ t) p.3)
    ]

parts_made : (text name : Text) (value : Option Text) → name_and_value text ≡ (name, value) → MadeOf text name value
parts_made text name value e = elim (lacks_or_at 61 text) [
  | inl none ↦ subst (λ (p : Text × Option Text). MadeOf text p.0 p.1) (sym (name_and_value-without text none) ∙ e) refl
  | inr p ↦ subst (λ (q : Text × Option Text). MadeOf text q.0 q.1)
      (sym (name_and_value-at p.0 p.1 p.2) ∙ ap name_and_value (sym p.3) ∙ e) p.3
]

from_rest : (word rest name : Text) (value : Option Text) → word ≡ 45 ∷ 45 ∷ rest
    → long_of_rest rest ≡ Some (name, value)
    → (text : Text) × (word ≡ 45 ∷ 45 ∷ text) × MadeOf text name value
from_rest word [] name value is e = absurd (cc)
from_rest word (x ∷ xs) name value is e =
    let parts : name_and_value (x ∷ xs) ≡ (name, value) = same_Some (name_and_value (x ∷ xs)) (name, value) e in
    (x ∷ xs, is, parts_made (x ∷ xs) name value parts)

from_second : (word text name : Text) (value : Option Text) (o : Option Text) → word ≡ 45 ∷ text
    → strip_byte 45 text ≡ o
    → option_and_then long_of_rest o ≡ Some (name, value)
    → (text : Text) × (word ≡ 45 ∷ 45 ∷ text) × MadeOf text name value
from_second word text name value None is strip e = absurd (cc)
from_second word text name value (Some rest) is strip e =
    from_rest word rest name value (is ∙ ap (λ (t : Text). 45 ∷ t) (stripped 45 text rest strip)) e

from_first : (word name : Text) (value : Option Text) (o : Option Text) → strip_byte 45 word ≡ o
    → option_and_then long_of_rest (option_and_then (strip_byte 45) o) ≡ Some (name, value)
    → (text : Text) × (word ≡ 45 ∷ 45 ∷ text) × MadeOf text name value
from_first word name value None strip e = absurd (cc)
from_first word name value (Some text) strip e =
    from_second word text name value (strip_byte 45 text) (stripped 45 word text strip) refl e

-- a long word is two hyphens, and its parts
pub long_made : (word name : Text) (value : Option Text) → long_of word ≡ Some (name, value)
    → (text : Text) × (word ≡ 45 ∷ 45 ∷ text) × MadeOf text name value
long_made word name value e = from_first word name value (strip_byte 45 word) refl e

-- ---- the other way

-- a name that can be told from its value, and from the word `--`
pub record IsPlainName (name : Text) : Type 0 where
  pub no_equals : Lacks 61 name
  pub some : name ≡ [] → ⊥

pub long_joined : (name value : Text) → Lacks 61 name → long_of (joined_word name value) ≡ Some (name, Some value)
long_joined [] value h = ap (λ (p : Text × Option Text). Some p) (name_and_value-at [] value h)
long_joined (x ∷ xs) value h = ap (λ (p : Text × Option Text). Some p) (name_and_value-at (x ∷ xs) value h)

pub long_alone : (name : Text) → IsPlainName name → long_of (alone_word name) ≡ Some (name, None)
long_alone [] h = absurd (h.some refl)
long_alone (x ∷ xs) h = ap (λ (p : Text × Option Text). Some p) (name_and_value-without (x ∷ xs) h.no_equals)

abbrev pub dashes : Text
dashes = 45 ∷ 45 ∷ []

pub joined_no_dashes : (name value : Text) → bytes_eq (joined_word name value) dashes ≡ false
joined_no_dashes [] value = refl
joined_no_dashes (x ∷ xs) value = refl

pub alone_no_dashes : (name : Text) → IsPlainName name → bytes_eq (alone_word name) dashes ≡ false
alone_no_dashes [] h = absurd (h.some refl)
alone_no_dashes (x ∷ xs) h = refl

-- a value that does not begin with a hyphen is no option
pub record IsPlainValue (value : Text) : Type 0 where
  pub no_dashes : bytes_eq value dashes ≡ false
  pub no_long : long_of value ≡ None
  pub no_short : short_of value ≡ None

pub plain_value : (value : Text) → strip_byte 45 value ≡ None → IsPlainValue value
plain_value value h = record {
  no_dashes = no_dashes_of value h;
  no_long = ap (λ (o : Option Text). option_and_then long_of_rest (option_and_then (strip_byte 45) o)) h;
  no_short = ap (λ (o : Option Text). option_and_then short_of_rest o) h;
}
  where
    no_dashes_of : (value : Text) → strip_byte 45 value ≡ None → bytes_eq value dashes ≡ false
    no_dashes_of [] h = refl
    no_dashes_of (x ∷ xs) h = go (x == 45) refl
      where
        go : (t : Bool) → (x == 45) ≡ t → bytes_eq (x ∷ xs) dashes ≡ false
        go true e = let bad : Some xs ≡ None = rw e at h in absurd (cc)
        go false e = rw e refl

-- a text of which each byte differs lacks the byte
pub lacks_test : (c : ℕ) (xs : Text) → list_any (λ x. x == c) xs ≡ false → Lacks c xs
lacks_test c [] h = λ i lt. absurd (omega arith)
lacks_test c (x ∷ xs) h = go (x == c) refl (lacks_test c xs)
  where
    go : (t : Bool) → (x == c) ≡ t → (list_any (λ y. y == c) xs ≡ false → Lacks c xs) → Lacks c (x ∷ xs)
    go true e more = absurd (let bad : true ≡ false = rw e at h in cc)
    go false e more = Lacks-cons c x xs e (more (rw e at h))
