-- The words that name something.
use Rattle.std.proofs.Common.{◌≡◌, ◌≢◌, ℕ, zero, suc, ◌<◌, ◌≤◌, ◌^◌, List, [], ◌∷◌, ◌++◌, if◌then◌else◌, Option, Some}
use Rattle.std.proofs.Common.{None, sym, ap, subst, ◌∙◌, arith, All, append_assoc, refl}
use Rattle.std.specs.Fmt.{decimal}
use Rattle.std.specs.Int.{IsInRange}
use Rattle.std.proofs.lemmas.Bool.{ne_eqb}
use Rattle.std.proofs.lemmas.Fmt.{digits_decimal}
use Rattle.std.proofs.lemmas.List.{append-nil}
use Rattle.std.proofs.lemmas.List.Elements.{All-append, All-from_get_or, All-cons, All-head, All-tail}
use Rattle.std.specs.Option.{option_map}
use Rattle.std.proofs.lemmas.Option.{none-some, same_Some}
use Rattle.std.proofs.lemmas.Str.Parse.{not_in_digits}
use Rattle.nio_base.specs.declared.numbers.KeyId.{KeyId}
use Rattle.nio_language.specs.Arguments.{IsChannelName, IsKeyName, IsPair, IsSerial}
use Rattle.nio_language.specs.Words.{IsName}
use Rattle.nio_language.specs.Reading.{Reads}
use Rattle.nio_language.specs.Words.{IsNumber, channel_word, key_word, name_word, pair_word}
use Rattle.nio_language.proofs.Numbers.{own}
use Rattle.nio_language.proofs.Readers.{reads_none}
use Rattle.nio_language.specs.GroupWords.{IsGroupName}
use Rattle.nio_language.specs.GroupWords.{group_channel_word}

-- a decimal number has no byte but digits
pub decimal_lacks : (n c : ℕ) → n < 2 ^ 64 → (IsInRange 48 57 c → ⊥) → All (λ b. b ≢ c) (decimal n)
decimal_lacks n c h other =
    All-from_get_or (λ b. b ≢ c) (decimal n) 0
    (λ i lt. not_in_digits own (decimal n) c (digits_decimal own n h) other i lt)

-- a text without a byte isn't cut there
pub lacks_none : (byte : ℕ) (front back : List ℕ) → All (λ b. b ≢ byte) (front ++ byte ∷ back) → ⊥
lacks_none byte [] back h = All-head (λ b. b ≢ byte) byte back h refl
lacks_none byte (b ∷ front) back h =
    lacks_none byte front back (All-tail (λ b. b ≢ byte) b (front ++ byte ∷ back) h)

-- the answer of a cut that finds no place: the byte isn't in the text
abbrev pub NoCut : ℕ → List ℕ → Type 0
NoCut byte text =
    (before after : List ℕ) → All (λ b. b ≢ byte) before → text ≡ before ++ byte ∷ after → ⊥

-- the answer of a cut: it finds these parts wherever the text is so cut
abbrev pub OnlyCut : ℕ → List ℕ → List ℕ → List ℕ → Type 0
OnlyCut byte text front back =
    (before after : List ℕ) → All (λ b. b ≢ byte) before → text ≡ before ++ byte ∷ after
    → (front ≡ before) × (back ≡ after)

-- ---- names

-- a name by its letter and number alone
abbrev pub number_word : ℕ → ℕ → List ℕ
number_word letter n = letter ∷ decimal n

pub number_word_lacks : (letter n c : ℕ) → IsNumber n → c ≢ letter → (IsInRange 48 57 c → ⊥)
    → All (λ b. b ≢ c) (number_word letter n)
number_word_lacks letter n c h other not_digit =
    All-cons (λ b. b ≢ c) letter (decimal n) (λ e. other (sym e)) (decimal_lacks n c (omega arith) not_digit)

-- the two forms of a name with this letter, number and serial
pub data NameForm (letter n m : ℕ) : Type 0 where
  first : m ≡ 0 → name_word letter (n, m) ≡ number_word letter n → NameForm letter n m
  later : m ≢ 0 → name_word letter (n, m) ≡ number_word letter n ++ 46 ∷ decimal m → NameForm letter n m

pub name_form : (letter n m : ℕ) → NameForm letter n m
name_form letter n zero = first refl (append-nil (number_word letter n))
name_form letter n (suc m) =
    let some : suc m ≢ 0 = λ e. omega (arith, e) in
    later some (ap (λ b. number_word letter n ++ (if b then [] else 46 ∷ decimal (suc m))) (ne_eqb (suc m) 0 some))

-- a number is without a point
pub number_lacks_point : (letter n : ℕ) → IsNumber n → letter ≢ 46 → All (λ b. b ≢ 46) (number_word letter n)
number_lacks_point letter n h other = number_word_lacks letter n 46 h (λ e. other (sym e)) (λ r. omega (arith, r))

-- two pairs with the same parts
pair_same : (p q : ℕ × ℕ) → p.0 ≡ q.0 → p.1 ≡ q.1 → p ≡ q
pair_same p q number serial = ap (λ i. (i, p.1)) number ∙ ap (λ (m : ℕ). (q.0, m)) serial

-- a number that is at most the last is one that a line can say
pub number_read : (letter : ℕ) (word : List ℕ) (o : Option ℕ)
    → Reads (λ n. n ≤ 4294967295) (number_word letter) word o → Reads IsNumber (number_word letter) word o
number_read letter word None read =
    reads_none IsNumber (number_word letter) word (λ n fits e. none-some n (read.only n (omega (arith, fits)) e))
number_read letter word (Some n) read = record {
  found = (omega (arith, read.found.0), read.found.1);
  only = λ m fits e. read.only m (omega (arith, fits)) e;
}

-- a number and a serial, as a line may name them
abbrev AreName : ℕ × ℕ → Type 0
AreName p = IsName p.0 p.1

module _ (letter : ℕ) (other : letter ≢ 46) (word : List ℕ) where
  -- where there is no point, the text is a name with the first serial
  first_name : (p : ℕ × ℕ) → NoCut 46 word → AreName p → word ≡ name_word letter p
      → (p.1 ≡ 0) × (word ≡ number_word letter p.0)
  first_name p none fits e = by_form (name_form letter p.0 p.1)
    where
      by_form : NameForm letter p.0 p.1 → (p.1 ≡ 0) × (word ≡ number_word letter p.0)
      by_form (first zeroth is) = (zeroth, e ∙ is)
      by_form (later some is) =
          absurd (none (number_word letter p.0) (decimal p.1) (number_lacks_point letter p.0 fits.number_fits other)
          (e ∙ is))

  -- where the text is cut at a point, the parts are the number and the serial
  later_name : (front back : List ℕ) (p : ℕ × ℕ) → word ≡ front ++ 46 ∷ back → OnlyCut 46 word front back
      → AreName p → word ≡ name_word letter p
      → (front ≡ number_word letter p.0) × (back ≡ decimal p.1) × IsSerial p.1
  later_name front back p cut only fits e = by_form (name_form letter p.0 p.1)
    where
      lacks : All (λ b. b ≢ 46) (number_word letter p.0)
      lacks = number_lacks_point letter p.0 fits.number_fits other

      by_form : NameForm letter p.0 p.1 → (front ≡ number_word letter p.0) × (back ≡ decimal p.1) × IsSerial p.1
      by_form (first zeroth is) =
          absurd (lacks_none 46 front back (subst (All (λ b. b ≢ 46)) (sym is ∙ (sym e ∙ cut)) lacks))
      by_form (later some is) =
          let parts = only (number_word letter p.0) (decimal p.1) lacks (e ∙ is) in
          (parts.0, parts.1, record { some = some; fits = fits.serial_fits })

  pub no_number : NoCut 46 word → Reads IsNumber (number_word letter) word None
      → Reads AreName (name_word letter) word None
  no_number none read =
      reads_none AreName (name_word letter) word
      (λ p fits e. cc (read.only p.0 fits.number_fits (first_name p none fits e).1))

  pub name_at_first : (n : ℕ) → NoCut 46 word → Reads IsNumber (number_word letter) word (Some n)
      → Reads AreName (name_word letter) word (Some (n, 0))
  name_at_first n none read = record {
    found = (
      record { number_fits = read.found.0; serial_fits = omega arith },
      read.found.1 ∙ sym (append-nil (number_word letter n)),
    );
    only = λ p fits e.
        let parts = first_name p none fits e in
        ap Some (pair_same (n, 0) p (same_Some n p.0 (read.only p.0 fits.number_fits parts.1)) (sym parts.0));
  }

  pub no_later_number : (front back : List ℕ) → word ≡ front ++ 46 ∷ back → OnlyCut 46 word front back
      → Reads IsNumber (number_word letter) front None → Reads AreName (name_word letter) word None
  no_later_number front back cut only read =
      reads_none AreName (name_word letter) word
      (λ p fits e. cc (read.only p.0 fits.number_fits (later_name front back p cut only fits e).0))

  pub no_serial : (front back : List ℕ) → word ≡ front ++ 46 ∷ back → OnlyCut 46 word front back
      → Reads IsSerial decimal back None → Reads AreName (name_word letter) word None
  no_serial front back cut only read =
      reads_none AreName (name_word letter) word
      (λ p fits e.
      let parts = later_name front back p cut only fits e in
      cc (read.only p.1 parts.2 parts.1))

  pub name_at_serial : (front back : List ℕ) (n m : ℕ) → word ≡ front ++ 46 ∷ back → OnlyCut 46 word front back
      → Reads IsNumber (number_word letter) front (Some n) → Reads IsSerial decimal back (Some m)
      → Reads AreName (name_word letter) word (Some (n, m))
  name_at_serial front back n m cut only number serial = record {
    found = (
      record { number_fits = number.found.0; serial_fits = serial.found.0.fits },
      cut ∙ whole (name_form letter n m),
    );
    only = λ p fits e.
        let parts = later_name front back p cut only fits e in
        ap Some (pair_same (n, m) p
        (same_Some n p.0 (number.only p.0 fits.number_fits parts.0))
        (same_Some m p.1 (serial.only p.1 parts.2 parts.1)));
  }
    where
      whole : NameForm letter n m → front ++ 46 ∷ back ≡ name_word letter (n, m)
      whole (first zeroth is) = absurd (serial.found.0.some zeroth)
      whole (later some is) = rw (number.found.1, serial.found.1) (sym is)

-- what is made of the name that is read, one for one
pub reads_named : {A : Type 0} (Fits : A → Type 0) (print : A → List ℕ) (make : ℕ × ℕ → A) (parts : A → ℕ × ℕ)
    → ((x : A) → make (parts x) ≡ x) → (word : List ℕ) (o : Option (ℕ × ℕ))
    → Reads (λ p. Fits (make p)) (λ p. print (make p)) word o → Reads Fits print word (option_map make o)
reads_named Fits print make parts same word None read =
    reads_none Fits print word
    (λ x fits e.
    none-some (parts x)
    (read.only (parts x) (subst Fits (sym (same x)) fits) (e ∙ ap print (sym (same x)))))
reads_named Fits print make parts same word (Some p) read = record {
  found = read.found;
  only = λ x fits e.
      ap (option_map make)
      (read.only (parts x) (subst Fits (sym (same x)) fits) (e ∙ ap print (sym (same x))))
      ∙ ap Some (same x);
}

pub reads_key : (word : List ℕ) (o : Option (ℕ × ℕ)) → Reads AreName (name_word 107) word o
    → Reads IsKeyName key_word word (option_map (λ p. record { index = p.0; serial = p.1 }) o)
reads_key word o =
    reads_named IsKeyName key_word (λ p. record { index = p.0; serial = p.1 }) (λ k. (k.index, k.serial)) (λ k. refl)
    word o

pub reads_channel : (word : List ℕ) (o : Option (ℕ × ℕ)) → Reads AreName (name_word 99) word o
    → Reads IsChannelName channel_word word
    (option_map (λ p. record { number = record { 0 = p.0 }; serial = p.1 }) o)
reads_channel word o =
    reads_named IsChannelName channel_word (λ p. record { number = record { 0 = p.0 }; serial = p.1 })
    (λ c. (c.number.0, c.serial)) (λ c. refl) word o

pub reads_group_channel : (word : List ℕ) (o : Option (ℕ × ℕ)) → Reads AreName (name_word 103) word o
    → Reads IsGroupName group_channel_word word (option_map (λ p. record { number = p.0; serial = p.1 }) o)
reads_group_channel word o =
    reads_named IsGroupName group_channel_word (λ p. record { number = p.0; serial = p.1 })
    (λ g. (g.number, g.serial)) (λ g. refl) word o

-- ---- pairs

pub key_word_lacks_colon : (k : KeyId) → IsKeyName k → All (λ b. b ≢ 58) (key_word k)
key_word_lacks_colon k fits = by_form (name_form 107 k.index k.serial)
  where
    lacks : All (λ b. b ≢ 58) (number_word 107 k.index)
    lacks = number_word_lacks 107 k.index 58 fits.number_fits (λ q. omega (arith, q)) (λ r. omega (arith, r))

    by_form : NameForm 107 k.index k.serial → All (λ b. b ≢ 58) (key_word k)
    by_form (first zeroth is) = subst (All (λ b. b ≢ 58)) (sym is) lacks
    by_form (later some is) =
        subst (All (λ b. b ≢ 58)) (sym is)
        (All-append (λ b. b ≢ 58) (number_word 107 k.index) (46 ∷ decimal k.serial) lacks
        (All-cons (λ b. b ≢ 58) 46 (decimal k.serial) (omega arith)
        (decimal_lacks k.serial 58 (omega (arith, fits.serial_fits)) (λ r. omega (arith, r)))))

pub pair_word_cut : (p : KeyId × ℕ) → pair_word p ≡ key_word p.0 ++ 58 ∷ decimal p.1
pair_word_cut p = append_assoc (key_word p.0) (58 ∷ []) (decimal p.1)

pub no_cut : (word : List ℕ) → NoCut 58 word → Reads IsPair pair_word word None
no_cut word none =
    reads_none IsPair pair_word word
    (λ p fits e. none (key_word p.0) (decimal p.1) (key_word_lacks_colon p.0 fits.key_fits) (e ∙ pair_word_cut p))

pub no_key : (word key ops : List ℕ) → OnlyCut 58 word key ops → Reads IsKeyName key_word key None
    → Reads IsPair pair_word word None
no_key word key ops only read =
    reads_none IsPair pair_word word
    (λ p fits e.
    let parts = only (key_word p.0) (decimal p.1) (key_word_lacks_colon p.0 fits.key_fits) (e ∙ pair_word_cut p) in
    ((cc (read.only p.0 fits.key_fits parts.0))))

pub no_ops : (word key ops : List ℕ) → OnlyCut 58 word key ops → Reads (λ o. o < 256) decimal ops None
    → Reads IsPair pair_word word None
no_ops word key ops only read =
    reads_none IsPair pair_word word
    (λ p fits e.
    let parts = only (key_word p.0) (decimal p.1) (key_word_lacks_colon p.0 fits.key_fits) (e ∙ pair_word_cut p) in
    ((cc (read.only p.1 fits.ops_fit parts.1))))

pub some_pair : (word key ops : List ℕ) (k : KeyId) (o : ℕ) → OnlyCut 58 word key ops → word ≡ key ++ 58 ∷ ops
    → Reads IsKeyName key_word key (Some k) → Reads (λ o. o < 256) decimal ops (Some o)
    → Reads IsPair pair_word word (Some (k, o))
some_pair word key ops k o only cut key_read ops_read = record {
  found = (
    record { key_fits = key_read.found.0; ops_fit = ops_read.found.0 },
    rw (cut, pair_word_cut (k, o), key_read.found.1, ops_read.found.1) refl,
  );
  only = λ p fits e.
      let parts = only (key_word p.0) (decimal p.1) (key_word_lacks_colon p.0 fits.key_fits) (e ∙ pair_word_cut p) in
      let same : Some (k, o) ≡ Some (p.0, p.1) = cc
      (key_read.only p.0 fits.key_fits parts.0, ops_read.only p.1 fits.ops_fit parts.1) in
      same;
}
