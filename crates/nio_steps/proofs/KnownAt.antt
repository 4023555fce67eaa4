-- What a caller knows of an index by its own acts, where it doesn't owe a look there.
use Rattle.std.proofs.Common.{◌≡◌, ℕ, ◌<◌, Bool, true, false, not, ◌&&◌, ◌||◌, Option, Some, None, is_some, List, []}
use Rattle.std.proofs.Common.{◌∷◌, ◌++◌, if◌then◌else◌, refl, ap, sym, ◌∙◌}
use Rattle.std.specs.Prelude.{fold, option_map}
use Rattle.std.specs.Option.{option_or}
use Rattle.std.proofs.lemmas.Bool.{or_parts, or_from}
use Rattle.std.proofs.lemmas.List.Elements.{All-nil, All-weaker, Contains-append_left}
use Rattle.std.proofs.lemmas.List.Folds.{fold_stays, list_any-append}
use Rattle.std.proofs.lemmas.List.Sums.{fold-append}
use Rattle.nio_base.specs.declared.numbers.SelNo.{SelNo}
use Rattle.nio_history.proofs.LastsAlone.{same_two}
use Rattle.nio_history.proofs.Spans.{last_is_said, since_from-on, span_is}
use Rattle.nio_history.specs.Lists.{ListEntry, list_entry, index_found, interest_found, takes_bit, since_looked}
use Rattle.nio_history.specs.Lists.{entry_by, entry, is_half_done, owes_look}
use Rattle.nio_history.specs.OwnEvents.{has, last, first, touches}
use Rattle.nio_history.specs.Pins.{removes}
use Rattle.nio_history.specs.Sets.{is_valid, in_cancelled_set}
use Rattle.nio_history.specs.Spans.{opened}
use Rattle.nio_history.specs.declared.act.Act.{Act}
use Rattle.nio_history.specs.declared.act.Act.TheVariants.{LookIndex, LookKeys}
use Rattle.nio_history.specs.declared.found.IndexWord.{IndexWord}
use Rattle.nio_steps.proofs.Lists.{pairs-none}
use Rattle.nio_steps.specs.ListLaws.{lists_index, ListsAreEmptyAtFirst, ListsStay}
use Rattle.nio_steps.specs.Lists.{listed_at, IsFoundBelow}

-- by its own acts this is the caller's entry of the index, and it doesn't owe a look there
pub record IsKnownAt (own : List Act) (s : SelNo) (i : ℕ) (known : Option ListEntry) : Type 0 where
  pub entry_is : known ≡ entry s.0 i own
  pub whole : owes_look s.0 i own ≡ false

-- ---- general words over acts that follow

-- acts without an answer leave the latest one
none_told : {A : Type 0} (tells : Act → Option A) (acts : List Act) (told : Option A)
    → has (λ act. is_some (tells act)) acts ≡ false → fold (λ x act. option_or (tells act) x) told acts ≡ told
none_told tells [] told none = refl
none_told {A = A} tells (act ∷ acts) told none =
    let parts = or_parts (is_some (tells act)) (has (λ a. is_some (tells a)) acts) none in
    none_told tells acts (option_or (tells act) told) parts.1 ∙ unanswered (tells act) parts.0
  where
    unanswered : (o : Option A) → is_some o ≡ false → option_or o told ≡ told
    unanswered None is = refl
    unanswered (Some a) is = absurd (cc is)

last-on : {A : Type 0} (tells : Act → Option A) (own acts : List Act) → has (λ act. is_some (tells act)) acts ≡ false
    → last tells (own ++ acts) ≡ last tells own
last-on tells own acts none =
    fold-append (λ told act. option_or (tells act) told) None own acts ∙ none_told tells acts (last tells own) none

-- the first answer stays
first-on : {A : Type 0} (tells : Act → Option A) (own acts : List Act) (a : A) → first tells own ≡ Some a
    → first tells (own ++ acts) ≡ Some a
first-on tells own acts a is =
    fold-append (λ told act. option_or told (tells act)) None own acts
    ∙ (ap (λ o. fold (λ told act. option_or told (tells act)) o acts) is
    ∙ fold_stays (λ told act. option_or told (tells act)) (Some a) (λ act. refl) acts)

-- where the acts before have no answer, the first is that of the acts that follow
pub first-later : {A : Type 0} (tells : Act → Option A) (own acts : List Act) → first tells own ≡ None
    → first tells (own ++ acts) ≡ first tells acts
first-later tells own acts is =
    fold-append (λ told act. option_or told (tells act)) None own acts
    ∙ ap (λ o. fold (λ told act. option_or told (tells act)) o acts) is

-- what isn't lacking after some acts isn't after more
pub done-on : (b : Bool) (p : Act → Bool) (own acts : List Act) → (b && not (has p own)) ≡ false
    → (b && not (has p (own ++ acts))) ≡ false
done-on b p own acts done =
    ap (λ c. b && not c) (list_any-append p own acts) ∙ by_bits b (has p own) done
  where
    by_bits : (b' c : Bool) → (b' && not c) ≡ false → (b' && not (c || has p acts)) ≡ false
    by_bits false c e = refl
    by_bits true true e = refl
    by_bits true false e = absurd (cc e)

-- ---- acts that neither look at the index nor take its bit

-- no such act takes the bit of the index, and none looks there
pub unlisted_parts : (s i : ℕ) (acts : List Act) → has (lists_index s i) acts ≡ false
    → (has (takes_bit s i) acts ≡ false) × (has (λ act. is_some (index_found s i act)) acts ≡ false)
unlisted_parts s i [] none = (refl, refl)
unlisted_parts s i (act ∷ acts) none =
    let parts = or_parts (lists_index s i act) (has (lists_index s i) acts) none in
    let here = or_parts (takes_bit s i act) (is_some (index_found s i act)) parts.0 in
    let later = unlisted_parts s i acts parts.1 in (
      or_from (takes_bit s i act) (has (takes_bit s i) acts) here.0 later.0,
      or_from (is_some (index_found s i act)) (has (λ a. is_some (index_found s i a)) acts) here.1 later.1,
    )

module _ (s i : ℕ) (since acts : List Act) where
  -- the interest set that was found first after the look at the index
  abbrev interest : List Act → Option ℕ
  interest own = first (interest_found s i) own

  interest-on : (valid : Bool) (was : Option ℕ) → interest since ≡ was → (valid && not (is_some was)) ≡ false
      → (valid && not (is_some (interest (since ++ acts)))) ≡ false
  interest-on false was is done = refl
  interest-on true None is done = absurd (cc done)
  interest-on true (Some ops) is done =
      ap (λ o. not (is_some o)) (first-on (interest_found s i) since acts ops is)

  half-on : (looked : Option IndexWord) → is_half_done s i since looked ≡ false
      → is_half_done s i (since ++ acts) looked ≡ false
  half-on None done = refl
  half-on (Some found) done =
      let unpinned : Bool = found.pinned && not (has (touches s i) since) in
      let kept : Bool = in_cancelled_set found.stage && not (has (removes s i) since) in
      let both = or_parts (unpinned || kept) (is_valid found.stage && not (is_some (interest since))) done in
      let first_two = or_parts unpinned kept both.0 in
      or_from _ _
      (or_from _ _ (done-on found.pinned (touches s i) since acts first_two.0)
      (done-on (in_cancelled_set found.stage) (removes s i) since acts first_two.1))
      (interest-on (is_valid found.stage) (interest since) refl both.1)

  entry-by : (found : IndexWord) (valid : Bool) (was : Option ℕ) → interest since ≡ was
      → (valid && not (is_some was)) ≡ false
      → if◌then◌else◌ {A = Option ListEntry} valid (option_map (list_entry found.stage) (interest (since ++ acts))) None
      ≡ if◌then◌else◌ {A = Option ListEntry} valid (option_map (list_entry found.stage) (interest since)) None
  entry-by found false was is done = refl
  entry-by found true None is done = absurd (cc done)
  entry-by found true (Some ops) is done =
      ap (option_map (list_entry found.stage)) (first-on (interest_found s i) since acts ops is ∙ sym is)

  entry-on : (looked : Option IndexWord) → is_half_done s i since looked ≡ false
      → entry_by looked (interest (since ++ acts)) ≡ entry_by looked (interest since)
  entry-on None done = refl
  entry-on (Some found) done =
      let unpinned : Bool = found.pinned && not (has (touches s i) since) in
      let kept : Bool = in_cancelled_set found.stage && not (has (removes s i) since) in
      entry-by found (is_valid found.stage) (interest since) refl
      (or_parts (unpinned || kept) (is_valid found.stage && not (is_some (interest since))) done).1

pub known-stays : (own acts : List Act) (s : SelNo) (i : ℕ) (known : Option ListEntry)
    → has (lists_index s.0 i) acts ≡ false → IsKnownAt own s i known → IsKnownAt (own ++ acts) s i known
known-stays own acts s i known none was =
    let parts = unlisted_parts s.0 i acts none in
    let since : List Act = since_looked s.0 i own in
    let looked : Option IndexWord = last (index_found s.0 i) own in
    let since_is : since_looked s.0 i (own ++ acts) ≡ since ++ acts
    = since_from-on (λ act. is_some (index_found s.0 i act)) own acts parts.1 in
    let looked_is : last (index_found s.0 i) (own ++ acts) ≡ looked = last-on (index_found s.0 i) own acts parts.1 in
    let owed = or_parts (has (takes_bit s.0 i) since) (is_half_done s.0 i since looked) was.whole in
    record {
      entry_is = was.entry_is
          ∙ (sym (entry-on s.0 i since acts looked owed.1)
          ∙ (ap (λ o. entry_by o (first (interest_found s.0 i) (since ++ acts))) (sym looked_is)
          ∙ ap (λ xs. entry_by (last (index_found s.0 i) (own ++ acts)) (first (interest_found s.0 i) xs))
          (sym since_is)));
      whole = or_from _ _
          (ap (has (takes_bit s.0 i)) since_is
          ∙ (list_any-append (takes_bit s.0 i) since acts ∙ or_from _ _ owed.0 parts.0))
          (ap (λ xs. is_half_done s.0 i xs (last (index_found s.0 i) (own ++ acts))) since_is
          ∙ (ap (is_half_done s.0 i (since ++ acts)) looked_is ∙ half-on s.0 i since acts looked owed.1));
    }

-- ---- a look at the index

-- what is known of an index after a look there, where nothing is left to do after it
pub known-anew : (own rest : List Act) (s : SelNo) (i : ℕ) (found : IndexWord) → has (lists_index s.0 i) rest ≡ false
    → is_half_done s.0 i rest (Some found) ≡ false
    → IsKnownAt (own ++ LookIndex s i found ∷ rest) s i (entry_by (Some found) (first (interest_found s.0 i) rest))
known-anew own rest s i found none done =
    let parts = unlisted_parts s.0 i rest none in
    let all : List Act = own ++ LookIndex s i found ∷ rest in
    let looks : is_some (index_found s.0 i (LookIndex s i found)) ≡ true
    = ap (λ b. is_some (if b then Some found else None)) (same_two s.0 i) in
    let since_is : since_looked s.0 i all ≡ rest
    = span_is (λ act. is_some (index_found s.0 i act)) all rest (opened own (LookIndex s i found) refl looks parts.1) in
    let looked_is : last (index_found s.0 i) all ≡ Some found
    = (last_is_said (index_found s.0 i) all found).1
    (record {
      before = own;
      act = LookIndex s i found;
      after = rest;
      parts = refl;
      told = ap (λ b. if b then Some found else None) (same_two s.0 i);
      none_after = parts.1;
    }) in
    record {
      entry_is = ap (λ o. entry_by o (first (interest_found s.0 i) rest)) (sym looked_is)
          ∙ ap (λ xs. entry_by (last (index_found s.0 i) all) (first (interest_found s.0 i) xs)) (sym since_is);
      whole = or_from _ _ (ap (has (takes_bit s.0 i)) since_is ∙ parts.0)
          (ap (λ xs. is_half_done s.0 i xs (last (index_found s.0 i) all)) since_is
          ∙ (ap (is_half_done s.0 i rest) looked_is ∙ done));
    }

-- ---- the laws

pub lists_are_empty_at_first : ListsAreEmptyAtFirst
lists_are_empty_at_first s own none =
    let known : (i : ℕ) → IsKnownAt own s i None
    = λ i. known-stays [] own s i None (none i) (record { entry_is = refl; whole = refl }) in
    record {
      rise = pairs-none (λ x y. x.index < y.index);
      entries = λ i. (known i).entry_is;
      whole = λ i. (known i).whole;
      below = All-nil (λ e. IsFoundBelow own s e.index);
    }

pub found_below-more : (own acts : List Act) (s : SelNo) (i : ℕ) → IsFoundBelow own s i
    → IsFoundBelow (own ++ acts) s i
found_below-more own acts s i was = record {
  mark = was.mark;
  found = Contains-append_left own acts (LookKeys s was.mark) was.found;
  below = was.below;
}

pub lists_stay : ListsStay
lists_stay s known own acts list none =
    let known_at : (i : ℕ) → IsKnownAt (own ++ acts) s i (listed_at known i)
    = λ i. known-stays own acts s i (listed_at known i) (none i)
    (record { entry_is = list.entries i; whole = list.whole i }) in
    record {
      rise = list.rise;
      entries = λ i. (known_at i).entry_is;
      whole = λ i. (known_at i).whole;
      below = All-weaker (λ e. IsFoundBelow own s e.index) (λ e. IsFoundBelow (own ++ acts) s e.index)
          (λ e. found_below-more own acts s e.index) known list.below;
    }
