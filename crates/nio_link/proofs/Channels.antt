-- Whether two numbers, or two channels, are the same.
use Rattle.std.proofs.Common.{◌≡◌, ◌≢◌, ◌⊎◌, inl, inr, ℕ, Bool, true, false, ◌==◌, refl, ap, sym, ◌∙◌, eqb-true, eq-eqb}
use Rattle.std.proofs.lemmas.Bool.{cases_eq, and_parts, and_from}
use Rattle.nio_base.specs.declared.numbers.ChanId.{ChanId}
use Rattle.nio_base.specs.declared.numbers.ChanNo.{ChanNo}
use Rattle.nio_link.specs.Links.{IsSameBut}
use Rattle.nio_link.specs.Places.{is_same_channel}

-- ---- numbers

pub chan_as : (a b : ChanNo) → a.0 ≡ b.0 → a ≡ b
chan_as a b same = ap (λ (n : ℕ). let c : ChanNo = record { 0 = n } in c) same

pub number_differs : (k c : ChanNo) → k ≢ c → k.0 ≢ c.0
number_differs k c differ same = differ (chan_as k c same)

pub is_or_not : (a b : ChanNo) → (a ≡ b) ⊎ (a ≢ b)
is_or_not a b = elim (cases_eq a.0 b.0) [
  | inl same ↦ inl (chan_as a b same)
  | inr other ↦ inr (λ at. other (ap (λ (c : ChanNo). c.0) at))
]

-- ---- channels

pub channel_as : (a b : ChanId) → a.number ≡ b.number → a.serial ≡ b.serial → a ≡ b
channel_as a b number serial =
    ap (λ (n : ChanNo). let c : ChanId = record { number = n; serial = a.serial } in c) number
    ∙ ap (λ (s : ℕ). let c : ChanId = record { number = b.number; serial = s } in c) serial

pub same_from : (a b : ChanId) → is_same_channel a b ≡ true → a ≡ b
same_from a b is =
    let both = and_parts (a.number.0 == b.number.0) (a.serial == b.serial) is in
    channel_as a b (chan_as a.number b.number (eqb-true a.number.0 b.number.0 both.0))
    (eqb-true a.serial b.serial both.1)

pub is_itself : (c : ChanId) → is_same_channel c c ≡ true
is_itself c =
    and_from (c.number.0 == c.number.0) (c.serial == c.serial) (eq-eqb c.number.0 c.number.0 refl)
    (eq-eqb c.serial c.serial refl)

pub is_another : (a b : ChanId) → a ≢ b → is_same_channel a b ≡ false
is_another a b differ = by_test (is_same_channel a b) refl
  where
    by_test : (t : Bool) → is_same_channel a b ≡ t → is_same_channel a b ≡ false
    by_test true is = absurd (differ (same_from a b is))
    by_test false is = is

pub channel_is_or_not : (a b : ChanId) → (a ≡ b) ⊎ (a ≢ b)
channel_is_or_not a b = by_test (is_same_channel a b) refl
  where
    by_test : (t : Bool) → is_same_channel a b ≡ t → (a ≡ b) ⊎ (a ≢ b)
    by_test true is = inl (same_from a b is)
    by_test false is = inr (λ same. absurd (cc (sym is ∙ ap (λ (c : ChanId). is_same_channel a c) (sym same) ∙ is_itself a)))

-- where one name has the same, and each other one has
pub all_same : {K A : Type 0} → ((a b : K) → (a ≡ b) ⊎ (a ≢ b)) → (own : K) (before now : K → A)
    → now own ≡ before own → IsSameBut own before now → (c : K) → now c ≡ before c
all_same decide own before now here others c = elim (decide c own) [
  | inl same ↦ ap now same ∙ here ∙ ap before (sym same)
  | inr other ↦ others c other
]
