-- The words over a caller's acts, said with lists before and after.
use Rattle.std.specs.Prelude.{◌≡◌, ◌↔◌, ℕ, Bool, Option, Some, is_some, IsTrue, IsFalse, List, ◌∷◌, ◌++◌}
use Rattle.std.specs.Option.{ForSome}
use Rattle.nio_base.specs.declared.numbers.KeyId.{KeyId}
use Rattle.nio_history.specs.OwnEvents.{has, last, since_from, takes_hold, enrolled_found, finds_outside, enrols_key}
use Rattle.nio_history.specs.OwnEvents.{publishes, is_clear}
use Rattle.nio_history.specs.declared.act.Act.{Act}

-- it did such an act, with these acts before it and after it
pub record HasAct (p : Act → Bool) (own : List Act) : Type 0 where
  pub before : List Act
  pub act : Act
  pub after : List Act
  pub parts : own ≡ before ++ act ∷ after
  pub such : IsTrue (p act)

-- the latest act for which `tells` has an answer has this one
pub record IsLast {A : Type 0} (tells : Act → Option A) (own : List Act) (answer : A) : Type 0 where
  pub before : List Act
  pub act : Act
  pub after : List Act
  pub parts : own ≡ before ++ act ∷ after
  pub told : tells act ≡ Some answer
  pub none_after : IsFalse (has (λ a. is_some (tells a)) after)

-- what it did after the latest act that opens a span, or all that it did where none does
pub data IsSpan (opens : Act → Bool) (own since : List Act) : Type 0 where
  opened : (before : List Act) (act : Act) → own ≡ before ++ act ∷ since → IsTrue (opens act)
      → IsFalse (has opens since) → IsSpan opens own since
  unopened : own ≡ since → IsFalse (has opens since) → IsSpan opens own since

-- A key was found outside the key set, after which no key was enrolled for channel c in selector s, and the key of this
-- index wasn't published.
pub record IsFoundOutside (c s : ℕ) (held : List Act) (k : KeyId) : Type 0 where
  pub before : List Act
  pub act : Act
  pub after : List Act
  pub parts : held ≡ before ++ act ∷ after
  pub outside : IsTrue (finds_outside s k act)
  pub none_enrolled : IsFalse (has (enrols_key c s) after)
  pub unpublished : IsFalse (has (publishes s k.index) after)

-- By what a caller did under its present hold of channel c, no key of the key set is enrolled for the channel in
-- selector s: it last found, or enrolled, none there or one that it found outside the key set.
pub record IsClear (c s : ℕ) (own : List Act) : Type 0 where
  pub held : List Act
  pub span : IsSpan (takes_hold c) own held
  pub enrolled : Option KeyId
  pub found : IsLast (enrolled_found c s) held enrolled
  pub outside : ForSome enrolled (IsFoundOutside c s held)

-- ---- the same

abbrev pub HasIsSaid : Type 0
HasIsSaid = (p : Act → Bool) (own : List Act) → IsTrue (has p own) ↔ HasAct p own

-- of answers of any type
abbrev pub LastIsSaid : Type 0 → Type 0
LastIsSaid A = (tells : Act → Option A) (own : List Act) (answer : A)
    → last tells own ≡ Some answer ↔ IsLast tells own answer

abbrev pub SpanIsSaid : Type 0
SpanIsSaid = (opens : Act → Bool) (own since : List Act) → since_from opens own ≡ since ↔ IsSpan opens own since

abbrev pub ClearIsSaid : Type 0
ClearIsSaid = (c s : ℕ) (own : List Act) → IsTrue (is_clear c s own) ↔ IsClear c s own
