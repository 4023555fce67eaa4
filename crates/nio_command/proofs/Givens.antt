-- Lists of options, as names and values.
use Rattle.std.proofs.Common.{◌≡◌, ◌⊎◌, ◌∙◌, ◌++◌, ℕ, zero, suc, ◌≤◌, Bool, true, false, List, [], ◌∷◌, Some, None}
use Rattle.std.proofs.Common.{cond, map, inl, inr, refl, ap, ap₂, subst, arith}
use Rattle.std.specs.List.{Contains, sum_by}
use Rattle.std.specs.Str.{bytes_eq}
use Rattle.std.proofs.lemmas.List.Sums.{sum_by-append, sum_by-cons, sum_by_push}
use Rattle.std.proofs.lemmas.List.Elements.{Contains-append_right}
use Rattle.std.proofs.lemmas.Option.{same_Some}
use Rattle.std.proofs.lemmas.Slice.Eq.{bytes_eq-Decides}
use Rattle.clap.specs.Walk.{Row, Text, first_of, has_row}
use Rattle.clap.specs.declared.parser.matches.ValueSource.TheVariants.{CommandLine}
use Rattle.clap.specs.declared.builder.value_parser.Reading.TheVariants.{AsWritten}

abbrev pub Given : Type 0
Given = Text × Text

-- what is found of an option
abbrev pub row : Given → Row
row g = record { id = g.0; values = g.1 ∷ []; count = None; source = Some CommandLine; reading = AsWritten }

abbrev pub bears : Text → Given → ℕ
bears n g = cond (bytes_eq g.0 n) 1 0

-- how many options have the name
abbrev pub times : Text → List Given → ℕ
times n gs = sum_by (bears n) gs

-- no two options have one name
abbrev pub Distinct : List Given → Type 0
Distinct gs = (n : Text) → times n gs ≤ 1

pub nothing_distinct : Distinct []
nothing_distinct n = omega arith

pub bears_own : (n v : Text) → bears n (n, v) ≡ 1
bears_own n v = ap (λ (b : Bool). cond b 1 0) ((bytes_eq-Decides n n).1 refl)

pub bears_small : (n : Text) (g : Given) → bears n g ≤ 1
bears_small n g = elim (bytes_eq g.0 n) as (λ b. cond b 1 0 ≤ 1) [ true ↦ omega arith | false ↦ omega arith ]

pub bears_cases : (n : Text) (g : Given) → (g.0 ≡ n) ⊎ (bears n g ≡ 0)
bears_cases n g = go (bytes_eq g.0 n) refl
  where
    go : (t : Bool) → bytes_eq g.0 n ≡ t → (g.0 ≡ n) ⊎ (bears n g ≡ 0)
    go true e = inl ((bytes_eq-Decides g.0 n).0 e)
    go false e = inr (ap (λ (b : Bool). cond b 1 0) e)

-- ---- one option more

pub times_none : (n : Text) (gs : List Given) → has_row n (map row gs) ≡ false → times n gs ≡ 0
times_none n [] h = refl
times_none n (g ∷ gs) h = go (bytes_eq g.0 n) refl (times_none n gs)
  where
    go : (t : Bool) → bytes_eq g.0 n ≡ t → (has_row n (map row gs) ≡ false → times n gs ≡ 0) → times n (g ∷ gs) ≡ 0
    go true e more = let bad : true ≡ false = rw e at h in cc
    go false e more =
        let none : bears n g ≡ 0 = ap (λ (b : Bool). cond b 1 0) e in
        let rest : times n gs ≡ 0 = more (rw e at h) in
        omega (arith, sum_by-cons (bears n) g gs)

pub none_times : (n : Text) (gs : List Given) → times n gs ≡ 0 → has_row n (map row gs) ≡ false
none_times n [] h = refl
none_times n (g ∷ gs) h = go (bytes_eq g.0 n) refl (none_times n gs)
  where
    go : (t : Bool) → bytes_eq g.0 n ≡ t → (times n gs ≡ 0 → has_row n (map row gs) ≡ false)
        → has_row n (map row (g ∷ gs)) ≡ false
    go true e more =
        let one : bears n g ≡ 1 = ap (λ (b : Bool). cond b 1 0) e in
        absurd (omega (arith, sum_by-cons (bears n) g gs))
    go false e more = rw e (more (omega (arith, sum_by-cons (bears n) g gs)))

pub more_distinct : (n v : Text) (gs : List Given) → has_row n (map row gs) ≡ false → Distinct gs
    → Distinct (gs ++ (n, v) ∷ [])
more_distinct n v gs fresh d m = elim (bears_cases m (n, v)) [
  | inl same ↦
      let none : times m gs ≡ 0 = subst (λ (k : Text). times k gs ≡ 0) same (times_none n gs fresh) in
      let one : bears m (n, v) ≤ 1 = bears_small m (n, v) in
      omega (arith, sum_by_push (bears m) gs (n, v))
  | inr none ↦
      let before : times m gs ≤ 1 = d m in
      omega (arith, sum_by_push (bears m) gs (n, v))
]

-- the options before one have another name
pub fresh_before : (n v : Text) (before after : List Given) → Distinct (before ++ (n, v) ∷ after)
    → has_row n (map row before) ≡ false
fresh_before n v before after d =
    let all : times n (before ++ (n, v) ∷ after) ≤ 1 = d n in
    let own = bears_own n v in
    none_times n before
    (omega (arith, sum_by-append (bears n) before ((n, v) ∷ after), sum_by-cons (bears n) (n, v) after))

pub tail_distinct : (g : Given) (gs : List Given) → Distinct (g ∷ gs) → Distinct gs
tail_distinct g gs d n = let all : times n (g ∷ gs) ≤ 1 = d n in omega (arith, sum_by-cons (bears n) g gs)

-- ---- finding

pub contains_cases : (x y : Given) (gs : List Given) → Contains (x ∷ gs) y → (x ≡ y) ⊎ Contains gs y
contains_cases x y gs (zero, lt, at) = inl at
contains_cases x y gs (suc k, lt, at) = inr (k, omega arith, at)

pub times_contained : (n v : Text) (gs : List Given) → Contains gs (n, v) → 1 ≤ times n gs
times_contained n v [] h = absurd (let lt = h.1 in omega arith)
times_contained n v (g ∷ gs) h = go (contains_cases g (n, v) gs h) (times_contained n v gs)
  where
    go : (g ≡ (n, v)) ⊎ Contains gs (n, v) → (Contains gs (n, v) → 1 ≤ times n gs) → 1 ≤ times n (g ∷ gs)
    go (inl same) more =
        let one : bears n g ≡ 1 = ap (bears n) same ∙ bears_own n v in
        omega (arith, sum_by-cons (bears n) g gs)
    go (inr there) more =
        let rest : 1 ≤ times n gs = more there in
        omega (arith, sum_by-cons (bears n) g gs)

-- what is found of a name stands in the list
pub found_in : (n v : Text) (gs : List Given) → first_of n (map row gs) ≡ Some v → Contains gs (n, v)
found_in n v [] e = absurd (cc)
found_in n v (g ∷ gs) e = go (bytes_eq g.0 n) refl (found_in n v gs)
  where
    go : (t : Bool) → bytes_eq g.0 n ≡ t → (first_of n (map row gs) ≡ Some v → Contains gs (n, v))
        → Contains (g ∷ gs) (n, v)
    go true t more =
        let value : Some g.1 ≡ Some v = rw t at e in
        let same : g.1 ≡ v = same_Some g.1 v value in
        let name : g.0 ≡ n = (bytes_eq-Decides g.0 n).0 t in
        (0, omega arith, ap₂ (λ (a b : Text). (a, b)) name same)
    go false t more = Contains-append_right (g ∷ []) gs (n, v) (more (rw t at e))

-- and what stands in a list of different names is found
pub in_found : (n v : Text) (gs : List Given) → Distinct gs → Contains gs (n, v) → first_of n (map row gs) ≡ Some v
in_found n v [] d h = absurd (let lt = h.1 in omega arith)
in_found n v (g ∷ gs) d h =
    go (bytes_eq g.0 n) refl (contains_cases g (n, v) gs h) (in_found n v gs (tail_distinct g gs d))
  where
    go : (t : Bool) → bytes_eq g.0 n ≡ t → (g ≡ (n, v)) ⊎ Contains gs (n, v)
        → (Contains gs (n, v) → first_of n (map row gs) ≡ Some v) → first_of n (map row (g ∷ gs)) ≡ Some v
    go true t (inl same) more = rw t (ap (λ (p : Given). Some p.1) same)
    go true t (inr there) more =
        let one : bears n g ≡ 1 = ap (λ (b : Bool). cond b 1 0) t in
        let two = times_contained n v gs there in
        let most : times n (g ∷ gs) ≤ 1 = d n in
        absurd (omega (arith, sum_by-cons (bears n) g gs))
    go false t (inl same) more =
        let is : bytes_eq g.0 n ≡ true = (bytes_eq-Decides g.0 n).1 (ap (λ (p : Given). p.0) same) in
        absurd (cc)
    go false t (inr there) more = rw t (more there)
