-- The indexes that changed are those whose bits the beginning took.
use Rattle.std.proofs.Common.{◌≡◌, ℕ, zero, suc, ◌+◌, ◌*◌, ◌/◌, ◌%◌, ◌≤◌, ◌==◌, ◌&&◌, ◌||◌, Bool, true, false}
use Rattle.std.proofs.Common.{if◌then◌else◌, Result, Ok, Err, List, [], ◌∷◌, ◌++◌, refl, ap, sym, ◌∙◌, subst, eq-eqb, eqb-true, arith}
use Rattle.std.specs.Prelude.{IfOk, is_some}
use Rattle.std.proofs.lemmas.Bool.{and_parts, and_from, or_parts, or_from}
use Rattle.std.proofs.lemmas.List.Folds.{list_any-append}
use Rattle.nio_base.specs.declared.numbers.CallerNo.{CallerNo}
use Rattle.nio_base.specs.declared.numbers.SelNo.{SelNo}
use Rattle.nio_history.proofs.PassViews.{done-is, acts_nothing, acts_then}
use Rattle.nio_history.specs.Histories.{IsLegal}
use Rattle.nio_history.specs.Lists.{index_found, takes_bit}
use Rattle.nio_history.specs.OwnEvents.{has}
use Rattle.nio_history.specs.PassViews.{PassView, done_between, ActsClause}
use Rattle.nio_history.specs.declared.act.Act.{Act}
use Rattle.nio_history.specs.declared.act.Act.TheVariants.{TakeTouched}
use Rattle.nio_steps.proofs.ListTurns.{ListsIndex, always_lists}
use Rattle.nio_steps.proofs.ListedBy.{shown_there}
use Rattle.nio_steps.proofs.Walks.{always_run}
use Rattle.nio_steps.specs.Calls.{CallClause}
use Rattle.nio_steps.specs.KeyCalls.{has_bit}
use Rattle.nio_steps.specs.ListLaws.{lists_index}
use Rattle.nio_steps.specs.Looking.{list_over, shown}
use Rattle.nio_steps.specs.Runs.{Completes}
use Rattle.nio_steps.specs.declared.looked.LookedKey.{LookedKey}
use Rattle.nio_select.specs.Asked.{AreTaken, has_changed}
use Rattle.nio_select.specs.Touched.{AddsTaken}

-- ---- tests

or-assoc : (a b c : Bool) → ((a || b) || c) ≡ (a || (b || c))
or-assoc true b c = refl
or-assoc false b c = refl

or-none : (b : Bool) → (b || false) ≡ b
or-none true = refl
or-none false = refl

same : (a b : Bool) → (a ≡ true → b ≡ true) → (b ≡ true → a ≡ true) → a ≡ b
same true b there back = sym (there refl)
same false true there back = back refl
same false false there back = refl

-- ---- acts of a pass

module _ (s : SelNo) (me : CallerNo) where
  -- what was done before goes first
  took_then : {v0 v1 v2 : PassView} (xs : List Act) → ActsClause me xs v0 v1
      → ActsClause me (done_between me v1 v2) v1 v2 → (i : ℕ)
      → has (takes_bit s.0 i) (done_between me v0 v2)
      ≡ (has (takes_bit s.0 i) xs || has (takes_bit s.0 i) (done_between me v1 v2))
  took_then {v0 = v0} {v1 = v1} {v2 = v2} xs first second i =
      ap (has (takes_bit s.0 i))
      (done-is me (xs ++ done_between me v1 v2) v0 v2
      (acts_then me xs (done_between me v1 v2) v0 v1 v2 first second))
      ∙ list_any-append (takes_bit s.0 i) xs (done_between me v1 v2)

  -- acts that take no bit add none
  pub adds_none : {v0 v1 : PassView} (acts : List Act) (changed : List ℕ) → ActsClause me acts v0 v1
      → ((i : ℕ) → has (takes_bit s.0 i) acts ≡ false) → AddsTaken s (done_between me v0 v1) changed changed
  adds_none {v0 = v0} {v1 = v1} acts changed clause none = λ i.
      sym (ap (λ (b : Bool). has_changed changed i || b)
      (ap (has (takes_bit s.0 i)) (done-is me acts v0 v1 clause) ∙ none i)
      ∙ or-none (has_changed changed i))

  pub adds_first : (pass : PassView) (changed : List ℕ) → IsLegal pass.limits pass.seen
      → AddsTaken s (done_between me pass pass) changed changed
  adds_first pass changed legal = adds_none [] changed (acts_nothing me pass legal) (λ i. refl)

  pub adds_then : {v0 v1 v2 : PassView} (before middle now : List ℕ) → ActsClause me (done_between me v0 v1) v0 v1
      → ActsClause me (done_between me v1 v2) v1 v2 → AddsTaken s (done_between me v0 v1) before middle
      → AddsTaken s (done_between me v1 v2) middle now → AddsTaken s (done_between me v0 v2) before now
  adds_then {v0 = v0} {v1 = v1} {v2 = v2} before middle now clause clause' first second = λ i.
      let took = λ (acts : List Act). has (takes_bit s.0 i) acts in
      second i
      ∙ (ap (λ (b : Bool). b || took (done_between me v1 v2)) (first i)
      ∙ (or-assoc (has_changed before i) (took (done_between me v0 v1)) (took (done_between me v1 v2))
      ∙ ap (λ (b : Bool). has_changed before i || b) (sym (took_then (done_between me v0 v1) clause clause' i))))

  -- after a step
  pub acts_after : {v0 v1 v2 : PassView} {act : Act} → ActsClause me (act ∷ []) v0 v1
      → ActsClause me (done_between me v1 v2) v1 v2 → ActsClause me (done_between me v0 v2) v0 v2
  acts_after {v0 = v0} {v1 = v1} {v2 = v2} {act = act} step rest =
      let both = acts_then me (act ∷ []) (done_between me v1 v2) v0 v1 v2 step rest in
      subst (λ acts. ActsClause me acts v0 v2) (sym (done-is me (act ∷ done_between me v1 v2) v0 v2 both)) both

  pub adds_after : {v0 v1 v2 : PassView} {act : Act} (before now : List ℕ) → ActsClause me (act ∷ []) v0 v1
      → ActsClause me (done_between me v1 v2) v1 v2 → ((i : ℕ) → takes_bit s.0 i act ≡ false)
      → AddsTaken s (done_between me v1 v2) before now → AddsTaken s (done_between me v0 v2) before now
  adds_after {v1 = v1} {v2 = v2} {act = act} before now step rest none added = λ i.
      added i
      ∙ ap (λ (b : Bool). has_changed before i || b)
      (sym (took_then (act ∷ []) step rest i
      ∙ ap (λ (b : Bool). (b || false) || has (takes_bit s.0 i) (done_between me v1 v2)) (none i)))

  -- a step before that takes no bit
  pub taken_after : {A E : Type 0} (P : Type 0) {v0 v1 v2 : PassView} {act : Act} (changed : List ℕ)
      (result : Result A E) → ActsClause me (act ∷ []) v0 v1 → ActsClause me (done_between me v1 v2) v1 v2
      → ((i : ℕ) → takes_bit s.0 i act ≡ false)
      → IfOk result (λ _. P → AreTaken s (done_between me v1 v2) changed)
      → IfOk result (λ _. P → AreTaken s (done_between me v0 v2) changed)
  taken_after P changed (Err error) step rest none taken = tt
  taken_after P changed (Ok value) step rest none taken = λ p. adds_after [] changed step rest none (taken p)

-- ---- the indexes of a word

-- one of the 64 indexes from 64 times j on, whose bit the word has
abbrev IsOf : ℕ → ℕ → ℕ → Type 0
IsOf word j i = (i / 64 ≡ j) × (has_bit word (i % 64) ≡ true)

-- an index that is shown is one
shown_is : (word j n i : ℕ) → n ≤ 64 → has_changed (shown word j n) i ≡ true → IsOf word j i
unfolding shown
shown_is word j zero i few is = absurd (cc is)
shown_is word j (suc n) i few is =
    by_bit (λ low there. shown_is word j n i low there) (has_bit word n) refl is
  where
    last : has_bit word n ≡ true → 64 * j + n ≡ i → IsOf word j i
    last bit here =
        let word_is : i / 64 ≡ j = omega (arith, here, few) in
        let bit_is : n ≡ i % 64 = omega (arith, here, few) in
        (word_is, ap (has_bit word) (sym bit_is) ∙ bit)

    by_last : (n ≤ 64 → has_changed (shown word j n) i ≡ true → IsOf word j i) → has_bit word n ≡ true
        → (b : Bool) → (64 * j + n == i) ≡ b → (has_changed (shown word j n) i || (b || false)) ≡ true → IsOf word j i
    by_last before bit true here there = last bit (eqb-true (64 * j + n) i here)
    by_last before bit false other there =
        before (omega (arith, few)) (sym (or-none (has_changed (shown word j n) i)) ∙ there)

    by_bit : (n ≤ 64 → has_changed (shown word j n) i ≡ true → IsOf word j i) → (b : Bool) → has_bit word n ≡ b
        → has_changed (if b then shown word j n ++ (64 * j + n) ∷ [] else shown word j n) i ≡ true → IsOf word j i
    by_bit before true bit there =
        by_last before bit (64 * j + n == i) refl
        (sym (list_any-append (λ k. k == i) (shown word j n) ((64 * j + n) ∷ [])) ∙ there)
    by_bit before false bit there = before (omega (arith, few)) there

-- the word shows the indexes whose bits are taken with it
shows_taken : (s : SelNo) (j word i : ℕ) → has_changed (shown word j 64) i ≡ takes_bit s.0 i (TakeTouched s j word)
shows_taken s j word i =
    same (has_changed (shown word j 64) i) (takes_bit s.0 i (TakeTouched s j word))
    (λ there. let is = shown_is word j 64 i (omega arith) there in
    and_from ((s.0 == s.0) && (i / 64 == j)) (has_bit word (i % 64))
    (and_from (s.0 == s.0) (i / 64 == j) (eq-eqb s.0 s.0 refl) (eq-eqb (i / 64) j is.0)) is.1)
    (λ takes. let both = and_parts ((s.0 == s.0) && (i / 64 == j)) (has_bit word (i % 64)) takes in
    let at : i / 64 ≡ j = eqb-true (i / 64) j (and_parts (s.0 == s.0) (i / 64 == j) both.0).1 in
    let whole : 64 * j + i % 64 ≡ i = omega (arith, at) in
    subst (λ (k : ℕ). has_changed (shown word j 64) k ≡ true) whole
    (shown_there word j (i % 64) 64 (omega arith) both.1))

-- so they are added where the acts took no other bit
pub adds_shown : (s : SelNo) (j word : ℕ) (acts : List Act) (before now : List ℕ) → now ≡ before ++ shown word j 64
    → ((i : ℕ) → has (takes_bit s.0 i) acts ≡ takes_bit s.0 i (TakeTouched s j word)) → AddsTaken s acts before now
adds_shown s j word acts before now parts took = λ i.
    ap (λ xs. has_changed xs i) parts
    ∙ (list_any-append (λ k. k == i) before (shown word j 64)
    ∙ ap (λ (b : Bool). has_changed before i || b) (shows_taken s j word i ∙ sym (took i)))

-- ---- one index

-- the look at an index takes no bit
over_takes_none : (s : SelNo) (i : ℕ) (known answer : List LookedKey) (acts : List Act)
    → Completes (list_over s i known) acts answer → (k : ℕ) → has (takes_bit s.0 k) acts ≡ false
over_takes_none s i known answer acts run k =
    let turn = always_run (ListsIndex s i known) (list_over s i known) acts answer (always_lists s i known) run in
    ap (has (takes_bit s.0 k)) turn.parts ∙ none turn.rest (turn.unlisted k)
  where
    none : (xs : List Act) → has (lists_index s.0 k) xs ≡ false → has (takes_bit s.0 k) xs ≡ false
    none [] is = refl
    none (act ∷ xs) is =
        let both = or_parts (lists_index s.0 k act) (has (lists_index s.0 k) xs) is in
        or_from (takes_bit s.0 k act) (has (takes_bit s.0 k) xs)
        (or_parts (takes_bit s.0 k act) (is_some (index_found s.0 k act)) both.0).0 (none xs both.1)

-- after the bits of the word were taken
module _ (s : SelNo) (me : CallerNo) (j word : ℕ) where
  abbrev pub TookWord : PassView → PassView → Type 0
  TookWord v0 v1 =
      (i : ℕ) → has (takes_bit s.0 i) (done_between me v0 v1) ≡ takes_bit s.0 i (TakeTouched s j word)

  pub took_first : {v0 v1 : PassView} → ActsClause me (TakeTouched s j word ∷ []) v0 v1 → TookWord v0 v1
  took_first {v0 = v0} {v1 = v1} clause = λ i.
      ap (has (takes_bit s.0 i)) (done-is me (TakeTouched s j word ∷ []) v0 v1 clause)
      ∙ or-none (takes_bit s.0 i (TakeTouched s j word))

  pub took_still : {v0 v1 v2 : PassView} (k : ℕ) (known answer : List LookedKey) → TookWord v0 v1
      → ActsClause me (done_between me v0 v1) v0 v1 → CallClause me (Completes (list_over s k known)) v1 v2 answer
      → TookWord v0 v2
  took_still {v0 = v0} {v1 = v1} {v2 = v2} k known answer took clause call = λ i.
      let before = has (takes_bit s.0 i) (done_between me v0 v1) in
      took_then s me (done_between me v0 v1) clause call.acts i
      ∙ (ap (λ (b : Bool). before || b) (over_takes_none s k known answer (done_between me v1 v2) call.shape i)
      ∙ (or-none before ∙ took i))
