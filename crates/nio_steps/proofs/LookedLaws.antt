-- What a beginning selection finds of the indexes below its bound, and what an ending one does.
use Rattle.std.proofs.Common.{◌≡◌, ℕ, suc, ◌+◌, ◌*◌, ◌<◌, ◌==◌, nat_lt, Bool, true, false, ◌&&◌, Ok, List, []}
use Rattle.std.proofs.Common.{None}
use Rattle.std.proofs.Common.{◌∷◌, ◌++◌, refl, ap, sym, ◌∙◌, subst, append_assoc, eqb-true, arith}
use Rattle.std.specs.List.{All, Contains}
use Rattle.std.proofs.lemmas.Bool.{or_from, ltb-true, ltb-false}
use Rattle.std.proofs.lemmas.List.{append-nil}
use Rattle.std.proofs.lemmas.List.Elements.{All-nil, All-push, All-weaker, All-contains, All-contains_itself}
use Rattle.std.proofs.lemmas.List.Elements.{Contains-append_left, Contains-append_right}
use Rattle.std.proofs.lemmas.List.Folds.{list_any-append, list_any_none}
use Rattle.nio_base.specs.declared.numbers.SelNo.{SelNo}
use Rattle.nio_history.specs.OwnEvents.{has}
use Rattle.nio_history.specs.Pins.{removes}
use Rattle.nio_history.specs.Questions.{Question, question_of, answer_of}
use Rattle.nio_history.specs.Sets.{in_cancelled_set, is_valid}
use Rattle.nio_history.specs.declared.act.Act.{Act}
use Rattle.nio_history.specs.declared.act.Act.TheVariants.{LookKey, LookInterest, LookFree, Remove}
use Rattle.nio_history.specs.declared.found.Mode.{Mode}
use Rattle.nio_history.specs.declared.found.Stage.{Stage}
use Rattle.nio_steps.proofs.BeginLaws.{begin-parts}
use Rattle.nio_steps.proofs.Listing.{Turns, Removes, Finds, Passes, always_listed, always_look, always_remove, key-look}
use Rattle.nio_steps.proofs.Listing.{removal}
use Rattle.nio_steps.proofs.Lists.{contains-middle}
use Rattle.nio_steps.proofs.Walks.{Always, always_weaker, always_run}
use Rattle.nio_steps.specs.ChannelCalls.{words_below}
use Rattle.nio_steps.specs.KeyCalls.{has_bit}
use Rattle.nio_steps.specs.Laws.{IsLookedAt, LooksAtValidKeys, HasEntry}
use Rattle.nio_steps.specs.Plan.{Plan}
use Rattle.nio_steps.specs.Runs.{Completes}
use Rattle.nio_steps.specs.SelectCalls.{Selection, Begins}
use Rattle.nio_steps.specs.Looking.{over_not_free, look_over, looked_key, remove_if_cancelled}
use Rattle.nio_steps.specs.Steps.{stage_in, operations_in}
use Rattle.nio_steps.specs.declared.looked.LookedKey.{LookedKey}

-- ---- each looked key was found valid

pub interest-look : (s : SelNo) (i : ℕ) (act : Act) → question_of act ≡ Question.look_interest s i
    → act ≡ LookInterest s i (operations_in (answer_of act))
interest-look s i (LookInterest s' i' found) asks = cc asks
interest-look s i _ asks = absurd (cc asks)

-- a question for a removal of the key of an index
abbrev pub asks_removal : ℕ → ℕ → Question → Bool
asks_removal s i (Question.remove s' i') = (s'.0 == s) && (i' == i)
asks_removal s i _ = false

pub not-removes_at : (s i : ℕ) (act : Act) → asks_removal s i (question_of act) ≡ false → removes s i act ≡ false
not-removes_at s i (Remove s' i' found) e = e
not-removes_at s i _ e = refl

-- the key of an entry was found valid, with its interest set, and wasn't removed by these acts since
pub record FoundValid (s : SelNo) (acts : List Act) (entry : LookedKey) : Type 0 where
  pub before : List Act
  pub stage : Stage
  pub later : List Act
  pub parts : acts ≡ before ++ LookKey s entry.index stage ∷ later
  pub valid : is_valid stage ≡ true
  pub serial : stage.serial ≡ entry.serial
  pub channel : stage.chan ≡ entry.channel
  pub interest : Contains later (LookInterest s entry.index entry.interest)
  pub spared : has (removes s.0 entry.index) later ≡ false

pub found_valid-more : (s : SelNo) (acts more : List Act) (entry : LookedKey)
    → has (removes s.0 entry.index) more ≡ false → FoundValid s acts entry → FoundValid s (acts ++ more) entry
found_valid-more s acts more entry spares found = record {
  before = found.before;
  stage = found.stage;
  later = found.later ++ more;
  parts = ap (λ xs. xs ++ more) found.parts
      ∙ append_assoc found.before (LookKey s entry.index found.stage ∷ found.later) more;
  valid = found.valid;
  serial = found.serial;
  channel = found.channel;
  interest = Contains-append_left found.later more (LookInterest s entry.index entry.interest) found.interest;
  spared = list_any-append (removes s.0 entry.index) found.later more ∙ or_from _ _ found.spared spares;
}

pub found_valid-after : (s : SelNo) (earlier acts : List Act) (entry : LookedKey) → FoundValid s acts entry
    → FoundValid s (earlier ++ acts) entry
found_valid-after s earlier acts entry found = record {
  before = earlier ++ found.before;
  stage = found.stage;
  later = found.later;
  parts = ap (λ xs. earlier ++ xs) found.parts
      ∙ sym (append_assoc earlier found.before (LookKey s entry.index found.stage ∷ found.later));
  valid = found.valid;
  serial = found.serial;
  channel = found.channel;
  interest = found.interest;
  spared = found.spared;
}

module _ (s : SelNo) where
  abbrev AreFound : ℕ → ℕ → List Act → List LookedKey → Type 0
  AreFound w k acts looked = All (λ entry. (entry.index < k) × FoundValid s acts entry) looked

  found-later : (k k' : ℕ) (acts more : List Act) (looked : List LookedKey) → k < suc k'
      → ((i : ℕ) → i < k → has (removes s.0 i) more ≡ false)
      → All (λ entry. (entry.index < k) × FoundValid s acts entry) looked
      → All (λ entry. (entry.index < k') × FoundValid s (acts ++ more) entry) looked
  found-later k k' acts more looked order spares each =
      All-weaker (λ entry. (entry.index < k) × FoundValid s acts entry)
      (λ entry. (entry.index < k') × FoundValid s (acts ++ more) entry)
      (λ entry here. (
        omega (arith, here.0),
        found_valid-more s acts more entry (spares entry.index here.0) here.1,
      )) looked each

  -- what is done at an index removes the key of no lower one
  lower : (i k : ℕ) → k < i → (i == k) ≡ false
  lower i k low = by_test (i == k) refl
    where
      by_test : (b : Bool) → (i == k) ≡ b → (i == k) ≡ false
      by_test true is = absurd (omega (arith, eqb-true i k is, low))
      by_test false is = is

  spares-one : (k : ℕ) (q : Question) (act : Act) → question_of act ≡ q → asks_removal s.0 k q ≡ false
      → removes s.0 k act ≡ false
  spares-one k q act asks none = not-removes_at s.0 k act (ap (asks_removal s.0 k) asks ∙ none)

  removes-lower : (i : ℕ) (acts : List Act) → Removes s i acts → (k : ℕ) → k < i → has (removes s.0 k) acts ≡ false
  removes-lower i acts turn k low =
      let other : ((s.0 == s.0) && (i == k)) ≡ false = ap (λ b. (s.0 == s.0) && b) (lower i k low)
      ∙ and_none (s.0 == s.0) in
      ap (has (removes s.0 k)) turn.parts
      ∙ or_from _ _ (spares-one k _ turn.look turn.asks_look refl)
      (or_from _ _ (spares-one k _ turn.remove turn.asks_remove other)
      (list_any_none (removes s.0 k) turn.puts
      (All-weaker (λ act. question_of act ≡ Question.put_free s i) (λ act. removes s.0 k act ≡ false)
      (λ act asks. spares-one k _ act asks refl) turn.puts turn.is_put.each)))
    where
      and_none : (b : Bool) → (b && false) ≡ false
      and_none true = refl
      and_none false = refl

  finds-spares : (i : ℕ) (acts : List Act) → Finds s i acts → (k : ℕ) → has (removes s.0 k) acts ≡ false
  finds-spares i acts turn k =
      ap (has (removes s.0 k)) turn.parts
      ∙ or_from _ _ (spares-one k _ turn.look turn.asks_look refl)
      (or_from _ _ (spares-one k _ turn.interest turn.asks_interest refl) refl)

  passes-spares : (i : ℕ) (acts : List Act) → Passes s i acts → (k : ℕ) → has (removes s.0 k) acts ≡ false
  passes-spares i acts turn k =
      ap (has (removes s.0 k)) turn.parts ∙ or_from _ _ (spares-one k _ turn.look turn.asks_look refl) refl

  found-turns : (bound : ℕ) → Turns s bound (look_over s) AreFound
  found-turns bound = record {
    looks = λ j acts looked act asks each. found-later (64 * j) (64 * j) acts (act ∷ []) looked (omega arith)
        (λ i low. or_from _ _ (spares-one i _ act asks refl) refl) each;
    at = λ w i acts looked within found each. always_look s i (λ xs y. AreFound w (i + 1) (acts ++ xs) y) looked
        (λ xs turn. found-later i (i + 1) acts xs looked (omega arith) (removes-lower i xs turn) each)
        (λ xs turn.
        let stage = stage_in (answer_of turn.look) in
        let entry : LookedKey = looked_key i stage (operations_in (answer_of turn.interest)) in
        All-push (λ x. (x.index < i + 1) × FoundValid s (acts ++ xs) x) looked entry
        (found-later i (i + 1) acts xs looked (omega arith) (λ k _. finds-spares i xs turn k) each) (
          omega arith,
          record {
            before = acts;
            stage = stage;
            later = turn.interest ∷ [];
            parts = ap (λ ys. acts ++ ys) (turn.parts ∙ ap (λ act. act ∷ turn.interest ∷ [])
                (key-look s i turn.look turn.asks_look));
            valid = turn.valid;
            serial = refl;
            channel = refl;
            interest = subst (Contains (turn.interest ∷ [])) (interest-look s i turn.interest turn.asks_interest)
                (contains-middle [] turn.interest []);
            spared = or_from _ _ (spares-one i _ turn.interest turn.asks_interest refl) refl;
          },
        ))
        (λ xs turn _. found-later i (i + 1) acts xs looked (omega arith) (λ k _. passes-spares i xs turn k) each);
    passes = λ w j b word acts looked low there bit each.
        All-weaker (λ entry. (entry.index < 64 * j + b) × FoundValid s acts entry)
        (λ entry. (entry.index < 64 * j + b + 1) × FoundValid s acts entry)
        (λ entry here. (omega (arith, here.0), here.1)) looked each;
  }

  pub found_valid : (bound : ℕ) (over : List Act) (looked : List LookedKey) (entry : LookedKey)
      → Completes (over_not_free s bound (look_over s) []) over looked → Contains looked entry → FoundValid s over entry
  found_valid bound over looked entry run there =
      (All-contains (λ x. (x.index < bound) × FoundValid s over x) looked entry
      (always_run (AreFound (words_below bound) bound) (over_not_free s bound (look_over s) []) over looked
      (always_listed s bound (look_over s) AreFound (found-turns bound) []
      (All-nil (λ entry. (entry.index < 0) × FoundValid s [] entry))) run) there).1

pub looks_at_valid_keys : LooksAtValidKeys
looks_at_valid_keys s mode acts selection run =
    let begun = begin-parts s mode None acts selection run in
    let first = begun.gate ∷ begun.take ∷ begun.look ∷ begun.keys ∷ [] in
    All-weaker (Contains selection.looked) (IsLookedAt s acts)
    (λ entry there.
    let found = found_valid s selection.bound begun.over selection.looked entry begun.runs_over there in
    let parts : acts ≡ (first ++ found.before) ++ LookKey s entry.index found.stage ∷ found.later = begun.parts
    ∙ ap (λ xs. first ++ xs) found.parts in
    record {
      stage = found.stage;
      look = subst (λ xs. Contains xs (LookKey s entry.index found.stage)) (sym parts)
          (contains-middle (first ++ found.before) (LookKey s entry.index found.stage) found.later);
      valid = found.valid;
      serial = found.serial;
      channel = found.channel;
      interest = subst (λ xs. Contains xs (LookInterest s entry.index entry.interest)) (sym parts)
          (Contains-append_right (first ++ found.before) (LookKey s entry.index found.stage ∷ found.later)
          (LookInterest s entry.index entry.interest)
          (Contains-append_right (LookKey s entry.index found.stage ∷ []) found.later
          (LookInterest s entry.index entry.interest) found.interest));
    }) selection.looked (All-contains_itself selection.looked)

-- ---- what is found at each index below the bound

-- an index is found free, or its key is found so, or is removed
pub data Met (s : SelNo) (i : ℕ) (Found : Stage → Type 0) (acts : List Act) : Type 0 where
  is_free : (j b word : ℕ) → i ≡ 64 * j + b → b < 64 → Contains acts (LookFree s j word) → has_bit word b ≡ true
      → Met s i Found acts
  is_found : (stage : Stage) → Contains acts (LookKey s i stage) → Found stage → Met s i Found acts
  is_gone : (found : Stage) → Contains acts (Remove s i found) → Met s i Found acts

pub met-left : {Found : Stage → Type 0} (s : SelNo) (i : ℕ) (acts later : List Act) → Met s i Found acts
    → Met s i Found (acts ++ later)
met-left s i acts later (is_free j b word at low look bit) =
    is_free j b word at low (Contains-append_left acts later (LookFree s j word) look) bit
met-left s i acts later (is_found stage look here) =
    is_found stage (Contains-append_left acts later (LookKey s i stage) look) here
met-left s i acts later (is_gone found there) =
    is_gone found (Contains-append_left acts later (Remove s i found) there)

pub met-right : {Found : Stage → Type 0} (s : SelNo) (i : ℕ) (earlier acts : List Act) → Met s i Found acts
    → Met s i Found (earlier ++ acts)
met-right s i earlier acts (is_free j b word at low look bit) =
    is_free j b word at low (Contains-append_right earlier acts (LookFree s j word) look) bit
met-right s i earlier acts (is_found stage look here) =
    is_found stage (Contains-append_right earlier acts (LookKey s i stage) look) here
met-right s i earlier acts (is_gone found there) =
    is_gone found (Contains-append_right earlier acts (Remove s i found) there)

pub met-weaker : {Found Weaker : Stage → Type 0} (s : SelNo) (i : ℕ) (acts : List Act)
    → ((stage : Stage) → Found stage → Weaker stage) → Met s i Found acts → Met s i Weaker acts
met-weaker s i acts weaker (is_free j b word at low look bit) = is_free j b word at low look bit
met-weaker s i acts weaker (is_found stage look here) = is_found stage look (weaker stage here)
met-weaker s i acts weaker (is_gone found there) = is_gone found there

-- a key that is found here is not in the cancelled set
abbrev pub Settled : SelNo → ℕ → List Act → Type 0
Settled s i acts = Met s i (λ stage. in_cancelled_set stage ≡ false) acts

-- a turn at the index that removes its key, and one that only looks there
pub met-removed : {Found : Stage → Type 0} (s : SelNo) (i : ℕ) (acts : List Act) → Removes s i acts
    → Met s i Found acts
met-removed s i acts turn =
    is_gone (stage_in (answer_of turn.remove))
    (subst (λ xs. Contains xs (Remove s i (stage_in (answer_of turn.remove)))) (sym turn.parts)
    (subst (Contains (turn.look ∷ turn.remove ∷ turn.puts)) (removal s i turn.remove turn.asks_remove)
    (contains-middle (turn.look ∷ []) turn.remove turn.puts)))

met-look : {Found : Stage → Type 0} (s : SelNo) (i : ℕ) (acts : List Act) (look : Act) (later : List Act)
    → acts ≡ look ∷ later → question_of look ≡ Question.look_key s i → Found (stage_in (answer_of look))
    → Met s i Found acts
met-look s i acts look later parts asks here =
    is_found (stage_in (answer_of look))
    (subst (λ xs. Contains xs (LookKey s i (stage_in (answer_of look)))) (sym parts)
    (subst (Contains (look ∷ later)) (key-look s i look asks) (contains-middle [] look later))) here

pub settles-passed : (s : SelNo) (i : ℕ) (acts : List Act) → Passes s i acts → Settled s i acts
settles-passed s i acts turn = met-look s i acts turn.look [] turn.parts turn.asks_look turn.outside

-- `Found i x` is what holds of a stage that is found at index i, where x is left; it holds of what is left later
module _ {A : Type 0} (s : SelNo) (f : ℕ → A → Plan A) (Found : ℕ → A → Stage → Type 0) where
  record Meets (i : ℕ) (x : A) (acts : List Act) (y : A) : Type 0 where
    met : Met s i (Found i y) acts
    keeps : (k : ℕ) (stage : Stage) → Found k x stage → Found k y stage

  -- each index below k is met
  abbrev AreMet : ℕ → ℕ → List Act → A → Type 0
  AreMet w k acts x = (i : ℕ) → i < k → Met s i (Found i x) acts

  by_place : (k : ℕ) (acts more : List Act) (x y : A) → ((i : ℕ) (stage : Stage) → Found i x stage → Found i y stage)
      → ((i : ℕ) → i < k → Met s i (Found i x) acts) → Met s k (Found k y) (acts ++ more)
      → (i : ℕ) → i < k + 1 → Met s i (Found i y) (acts ++ more)
  by_place k acts more x y keeps before here i low = by_test (nat_lt i k) refl
    where
      by_test : (b : Bool) → nat_lt i k ≡ b → Met s i (Found i y) (acts ++ more)
      by_test true is =
          met-weaker s i (acts ++ more) (keeps i) (met-left s i acts more (before i (ltb-true i k is)))
      by_test false is =
          let same : k ≡ i = omega (arith, ltb-false i k is, low) in
          subst (λ (j : ℕ). Met s j (Found j y) (acts ++ more)) same here

  module _ (meets : (i : ℕ) (x : A) → Always (Meets i x) (f i x)) where
    met-turns : (bound : ℕ) → Turns s bound f AreMet
    met-turns bound = record {
      looks = λ j acts x act asks before i low. met-left s i acts (act ∷ []) (before i low);
      at = λ w i acts x within found before. always_weaker (Meets i x) (λ xs y. AreMet w (i + 1) (acts ++ xs) y) (f i x)
          (λ xs y here. by_place i acts xs x y here.keeps before (met-right s i acts xs here.met)) (meets i x);
      passes = λ w j b word acts x low there bit before.
          let k = 64 * j + b in
          subst (λ ys. (i : ℕ) → i < k + 1 → Met s i (Found i x) ys) (append-nil acts)
          (by_place k acts [] x x (λ i stage here. here) before
          (met-left s k acts [] (is_free j b word refl low there bit)));
    }

    met_below : (bound : ℕ) (x y : A) (acts : List Act) → Completes (over_not_free s bound f x) acts y
        → (i : ℕ) → i < bound → Met s i (Found i y) acts
    met_below bound x y acts run =
        always_run (AreMet (words_below bound) bound) (over_not_free s bound f x) acts y
        (always_listed s bound f AreMet (met-turns bound) x (λ i none. absurd (omega (arith, none)))) run

-- A key that is found is not in the cancelled set, and where it is valid the list has it.
pub record IsListed (i : ℕ) (looked : List LookedKey) (stage : Stage) : Type 0 where
  pub outside : in_cancelled_set stage ≡ false
  pub has_valid : is_valid stage ≡ true → HasEntry looked i stage.serial

listed-more : (i : ℕ) (looked more : List LookedKey) (stage : Stage) → IsListed i looked stage
    → IsListed i (looked ++ more) stage
listed-more i looked more stage listed = record {
  outside = listed.outside;
  has_valid = λ valid.
      let has = listed.has_valid valid in
      record {
        entry = has.entry;
        there = Contains-append_left looked more has.entry has.there;
        index_is = has.index_is;
        serial_is = has.serial_is;
      };
}

look-meets : (s : SelNo) (i : ℕ) (looked : List LookedKey)
    → Always (Meets s (look_over s) IsListed i looked) (look_over s i looked)
look-meets s i looked =
    always_look s i (Meets s (look_over s) IsListed i looked) looked
    (λ xs turn. record { met = met-removed s i xs turn; keeps = λ k stage here. here })
    (λ xs turn.
    let stage = stage_in (answer_of turn.look) in
    let entry : LookedKey = looked_key i stage (operations_in (answer_of turn.interest)) in
    record {
      met = met-look s i xs turn.look (turn.interest ∷ []) turn.parts turn.asks_look
          (record {
            outside = turn.outside;
            has_valid = λ valid. record {
              entry = entry;
              there = contains-middle looked entry [];
              index_is = refl;
              serial_is = refl;
            };
          });
      keeps = λ k. listed-more k looked (entry ∷ []);
    })
    (λ xs turn invalid. record {
      met = met-look s i xs turn.look [] turn.parts turn.asks_look
          (record { outside = turn.outside; has_valid = λ valid. absurd (cc (sym valid ∙ invalid)) });
      keeps = λ k stage here. here;
    })

-- so it is of each index below the bound in a `try_begin` that answers Ok
pub begin-meets : (s : SelNo) (mode : Mode) (acts : List Act) (selection : Selection)
    → Begins s mode None acts (Ok selection)
    → (i : ℕ) → i < selection.bound → Met s i (IsListed i selection.looked) acts
begin-meets s mode acts selection run i below =
    let begun = begin-parts s mode None acts selection run in
    let met = met_below s (look_over s) IsListed (look-meets s) selection.bound [] selection.looked begun.over
    begun.runs_over i below in
    subst (Met s i (IsListed i selection.looked)) (sym begun.parts)
    (met-right s i (begun.gate ∷ begun.take ∷ begun.look ∷ begun.keys ∷ []) begun.over met)

-- where a `told` ends its selection each index below the high-water mark that it finds is settled since it found that
pub end-settles : (s : SelNo) (mark : ℕ) (sweeps : List Act)
    → Completes (over_not_free s mark (λ i _. remove_if_cancelled s i) tt) sweeps tt
    → (i : ℕ) → i < mark → Settled s i sweeps
end-settles s mark sweeps run i below =
    met_below s (λ k _. remove_if_cancelled s k) (λ _ _ stage. in_cancelled_set stage ≡ false)
    (λ k x. always_remove s k
    (λ xs. Meets s (λ k' _. remove_if_cancelled s k') (λ _ _ stage. in_cancelled_set stage ≡ false) k x xs tt)
    (λ xs turn. record { met = met-removed s k xs turn; keeps = λ k' stage here. here })
    (λ xs turn. record { met = settles-passed s k xs turn; keeps = λ k' stage here. here })) mark tt tt sweeps run i below
