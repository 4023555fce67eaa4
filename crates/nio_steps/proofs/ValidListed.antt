-- A key that was published before a selection with the list begins, and is valid when it has begun, is on its list.
use Rattle.std.proofs.Common.{◌≡◌, ◌⊎◌, inl, inr, ℕ, ◌+◌, ◌*◌, ◌<◌, ◌==◌, nat_lt, Bool, true, false, not, ◌&&◌, ◌||◌}
use Rattle.std.proofs.Common.{if◌then◌else◌, Option, Some, None, is_some, List, [], ◌∷◌, ◌++◌, refl, ap, sym, ◌∙◌, subst}
use Rattle.std.proofs.Common.{append_assoc, eqb-true, arith}
use Rattle.std.specs.Prelude.{option_map}
use Rattle.std.specs.List.{Contains}
use mathlib.Core.List.{IsPrefix}
use Rattle.std.proofs.lemmas.Bool.{and_parts, or_parts, le-ltb, false_from_ne_true}
use Rattle.std.proofs.lemmas.List.{append-nil}
use Rattle.std.proofs.lemmas.List.Elements.{Contains-append_right}
use Rattle.nio_base.specs.declared.limits.Limits.{Limits}
use Rattle.nio_base.specs.declared.numbers.CallerNo.{CallerNo}
use Rattle.nio_base.specs.declared.numbers.SelNo.{SelNo}
use Rattle.nio_history.proofs.Claims.{if_some}
use Rattle.nio_history.proofs.LastsAlone.{same_two}
use Rattle.nio_history.proofs.Put.{same_pair}
use Rattle.nio_history.proofs.Spans.{last_is_said, span_is, span_of}
use Rattle.nio_history.proofs.Stays.{facts_are_permanent}
use Rattle.nio_history.specs.Answers.{Answers, index_at}
use Rattle.nio_history.specs.Histories.{state_after, mine, event_of, IsLegal}
use Rattle.nio_history.specs.Lists.{ListEntry, list_entry, entry_at, index_found, interest_found, since_looked}
use Rattle.nio_history.specs.Lists.{entry_by, is_half_done, takes_bit}
use Rattle.nio_history.specs.OwnEvents.{has, first, last, touches}
use Rattle.nio_history.specs.Permanent.{key_cancelled, key_removed}
use Rattle.nio_history.specs.Pins.{removes}
use Rattle.nio_history.specs.Sets.{fits, in_cancelled_set, is_valid, is_valid_key, was_published, was_cancelled}
use Rattle.nio_history.specs.Sets.{was_removed}
use Rattle.nio_history.specs.Spans.{IsSpan, opened, unopened}
use Rattle.nio_history.specs.State.{State}
use Rattle.nio_history.specs.declared.act.Act.{Act}
use Rattle.nio_history.specs.declared.act.Act.TheVariants.{LookIndex, LookFree, Remove}
use Rattle.nio_history.specs.declared.event.Event.{Event}
use Rattle.nio_history.specs.declared.found.IndexWord.{IndexWord}
use Rattle.nio_history.specs.declared.found.Stage.{Stage}
use Rattle.nio_steps.proofs.GoneLaws.{removal_gone, step_in, still_published, free_gone}
use Rattle.nio_steps.proofs.IndexOutcomes.{IsClear, IsLeft, Outcome, is_clear, is_removed, is_found, is_outside}
use Rattle.nio_steps.proofs.IndexOutcomes.{begin-outcome}
use Rattle.nio_steps.proofs.KnownAt.{known-stays}
use Rattle.nio_steps.proofs.ListedBy.{beginnings_list}
use Rattle.nio_steps.proofs.Lists.{contains-middle, any-of_one}
use Rattle.nio_steps.proofs.Relisted.{as_listed, listed_from, next}
use Rattle.nio_steps.proofs.SelectionLaws.{none_of-append}
use Rattle.nio_steps.proofs.StoodMoments.{IsOpened, clear-right, own_whole, contained, legal_whole, moment_parts}
use Rattle.nio_steps.proofs.StoodMoments.{moment_begins, cut_call}
use Rattle.nio_steps.proofs.Unlisted.{unlisted-cons}
use Rattle.nio_steps.specs.KeyCalls.{has_bit}
use Rattle.nio_steps.specs.Laws.{HasEntry}
use Rattle.nio_steps.specs.ListLaws.{lists_index, ValidKeysAreListed}
use Rattle.nio_steps.specs.Lists.{IsListOf, listed_at}
use Rattle.nio_steps.specs.declared.looked.LookedKey.{LookedKey}

-- ---- stages
--
-- `later` says that the index has a later key, and `fit` that it has this one.

-- a valid key was neither cancelled nor removed
valid_unspoiled : (later fit published cancelled removed : Bool) → later ≡ false
    → (fit && (published && not removed && not cancelled)) ≡ true
    → ((later || (fit && cancelled)) ≡ false) × ((later || (fit && removed)) ≡ false)
valid_unspoiled true fit p c r not_later valid = absurd (cc not_later)
valid_unspoiled false false p c r not_later valid = absurd (cc valid)
valid_unspoiled false true false c r not_later valid = absurd (cc valid)
valid_unspoiled false true true c true not_later valid = absurd (cc valid)
valid_unspoiled false true true true false not_later valid = absurd (cc valid)
valid_unspoiled false true true false false not_later valid = (refl, refl)

-- a published key that was neither is valid
unspoiled_valid : (later fit published cancelled removed : Bool) → (later || (fit && published)) ≡ true
    → (later || (fit && cancelled)) ≡ false → (later || (fit && removed)) ≡ false
    → (fit ≡ true) × ((published && not removed && not cancelled) ≡ true)
unspoiled_valid true fit p c r was_p not_c not_r = absurd (cc not_c)
unspoiled_valid false false p c r was_p not_c not_r = absurd (cc was_p)
unspoiled_valid false true false c r was_p not_c not_r = absurd (cc was_p)
unspoiled_valid false true true true r was_p not_c not_r = absurd (cc not_c)
unspoiled_valid false true true false true was_p not_c not_r = absurd (cc not_r)
unspoiled_valid false true true false false was_p not_c not_r = (refl, refl)

-- ---- a list's entry of an index

entry_there : (i : ℕ) (found : Option ListEntry) (list : List LookedKey) (e : ListEntry)
    → listed_from i found list ≡ Some e → HasEntry list i e.serial ⊎ (found ≡ Some e)
entry_there i found [] e is = inr is
entry_there i found (x ∷ list) e is = by_place (x.index == i) refl (entry_there i (next i found x) list e is)
  where
    by_place : (b : Bool) → (x.index == i) ≡ b
        → HasEntry list i e.serial ⊎ ((if b then Some (as_listed x) else found) ≡ Some e)
        → HasEntry (x ∷ list) i e.serial ⊎ (found ≡ Some e)
    by_place b at (inl further) = inl (record {
      entry = further.entry;
      there = Contains-append_right (x ∷ []) list further.entry further.there;
      index_is = further.index_is;
      serial_is = further.serial_is;
    })
    by_place true at (inr here) =
        let same : as_listed x ≡ e = cc here in inl (record {
          entry = x;
          there = contains-middle [] x list;
          index_is = eqb-true x.index i at;
          serial_is = ap (λ (y : ListEntry). y.serial) same;
        })
    by_place false at (inr here) = inr here

has_listed : (list : List LookedKey) (i serial : ℕ) (e : ListEntry) → listed_at list i ≡ Some e → e.serial ≡ serial
    → HasEntry list i serial
has_listed list i serial e is same = subst (HasEntry list i) same (by_place (entry_there i None list e is))
  where
    by_place : HasEntry list i e.serial ⊎ (None ≡ Some e) → HasEntry list i e.serial
    by_place (inl there) = there
    by_place (inr none) = absurd (cc none)

-- an entry was made of the stage
record IsMade (stage : Stage) (o : Option ListEntry) : Type 0 where
  operations : ℕ
  is : o ≡ Some (list_entry stage operations)

entry_made : (stage : Stage) (b : Bool) (interest : Option ℕ) → b ≡ true → (b && not (is_some interest)) ≡ false
    → IsMade stage (if◌then◌else◌ {A = Option ListEntry} b (option_map (list_entry stage) interest) None)
entry_made stage false interest valid done = absurd (cc valid)
entry_made stage true None valid done = absurd (cc done)
entry_made stage true (Some ops) valid done = record { operations = ops; is = refl }

-- ---- a look at the index

found_there : (st : State) (n : CallerNo) (act : Act) (s i : ℕ) (word : IndexWord) → Answers st n act
    → index_found s i act ≡ Some word → word ≡ index_at st s i
found_there st n (LookIndex s' i' there) s i word answers told =
    let parts = if_some ((s'.0 == s) && (i' == i)) there word told in
    let stood : there ≡ index_at st s'.0 i' = cc in
    same_pair (λ a b. word ≡ index_at st a b) s'.0 i' s i parts.0 (sym parts.1 ∙ stood)
found_there st n act s i word answers told = absurd (cc told)

-- ---- the law

module _ (l : Limits) (n : CallerNo) (before later : List Event) (s : SelNo) (i serial : ℕ)
    (legal : IsLegal l (before ++ later))
    (published : was_published ((state_after before).key s.0 i) serial ≡ true)
    (valid : is_valid_key ((state_after (before ++ later)).key s.0 i) serial ≡ true) where
  -- it is the stage of this key, which is valid
  pub record IsIt (k : Stage) : Type 0 where
    pub valid_is : is_valid k ≡ true
    pub serial_is : k.serial ≡ serial

  unspoiled : (was_cancelled ((state_after (before ++ later)).key s.0 i) serial ≡ false)
      × (was_removed ((state_after (before ++ later)).key s.0 i) serial ≡ false)
  unspoiled =
      let k : Stage = (state_after (before ++ later)).key s.0 i in
      let fit = (and_parts (fits k serial) (is_valid k) valid).0 in
      let same : k.serial ≡ serial = eqb-true k.serial serial (and_parts k.claimed (k.serial == serial) fit).1 in
      valid_unspoiled (nat_lt serial k.serial) (fits k serial) k.published k.cancelled k.removed
      (le-ltb serial k.serial (omega (arith, same))) valid

  -- it is valid all the while
  pub valid_between : (past rest : List Event) → before ++ later ≡ past ++ rest → IsPrefix before past → IsLegal l past
      → IsIt ((state_after past).key s.0 i)
  valid_between past rest parts begins legal' =
      let k : Stage = (state_after past).key s.0 i in
      let not_cancelled : was_cancelled k serial ≡ false = false_from_ne_true (was_cancelled k serial)
      (λ was. absurd (cc
      (sym (facts_are_permanent l past (before ++ later) (rest, sym parts) legal (key_cancelled s.0 i serial) was)
      ∙ unspoiled.0))) in
      let not_removed : was_removed k serial ≡ false = false_from_ne_true (was_removed k serial)
      (λ was. absurd (cc
      (sym (facts_are_permanent l past (before ++ later) (rest, sym parts) legal (key_removed s.0 i serial) was)
      ∙ unspoiled.1))) in
      let both = unspoiled_valid (nat_lt serial k.serial) (fits k serial) k.published k.cancelled k.removed
      (still_published l n before later s i serial legal published past begins legal') not_cancelled not_removed in
      record {
        valid_is = both.1;
        serial_is = eqb-true k.serial serial (and_parts k.claimed (k.serial == serial) both.0).1;
      }

  pub not_gone : (found : Stage) → Contains (mine n later) (Remove s i found) → ⊥
  not_gone found there =
      absurd (cc (sym (removal_gone l n before later s i serial found legal published there) ∙ unspoiled.1))

  pub not_free : (j b word : ℕ) → i ≡ 64 * j + b → b < 64 → Contains (mine n later) (LookFree s j word)
      → has_bit word b ≡ true → ⊥
  not_free j b word at low look bit =
      absurd (cc
      (sym (free_gone l n before later s i serial legal published j b word at low look bit) ∙ unspoiled.1))

  found_valid : (act : Act) (word : IndexWord) → Contains (mine n later) act → index_found s.0 i act ≡ Some word
      → IsIt word.stage
  found_valid act word there told =
      let at = step_in l n before later act legal there in
      subst (λ (w : IndexWord). IsIt w.stage)
      (sym (found_there (state_after at.past) n act s.0 i word at.step.answers told))
      (valid_between at.past (event_of n act ∷ at.rest) at.parts at.begins at.legal_past)

  module _ (looked : List LookedKey) (list : IsListOf (mine n before ++ mine n later) s looked) where
    -- the call looked at the index, and not again
    last-listed : (xs : List Act) (act : Act) (since : List Act) → mine n later ≡ xs ++ act ∷ since
        → is_some (index_found s.0 i act) ≡ true → has (λ a. is_some (index_found s.0 i a)) since ≡ false
        → HasEntry looked i serial
    last-listed xs act since parts looks none = by_word (index_found s.0 i act) refl looks
      where
        by_word : (o : Option IndexWord) → index_found s.0 i act ≡ o → is_some o ≡ true → HasEntry looked i serial
        by_word None told is = absurd (cc is)
        by_word (Some word) told is =
            let own : List Act = mine n before in
            let all : List Act = own ++ mine n later in
            let cut : all ≡ (own ++ xs) ++ act ∷ since = ap (λ zs. own ++ zs) parts
            ∙ sym (append_assoc own xs (act ∷ since)) in
            let looked_is : last (index_found s.0 i) all ≡ Some word
            = (last_is_said (index_found s.0 i) all word).1
            (record {
              before = own ++ xs;
              act = act;
              after = since;
              parts = cut;
              told = told;
              none_after = none;
            }) in
            let since_is : since_looked s.0 i all ≡ since
            = span_is (λ a. is_some (index_found s.0 i a)) all since (opened (own ++ xs) act cut looks none) in
            let it = found_valid act word
            (subst (λ zs. Contains zs act) (sym parts) (contains-middle xs act since)) told in
            let interest : Option ℕ = first (interest_found s.0 i) since in
            let half : is_half_done s.0 i since (Some word) ≡ false
            = ap (is_half_done s.0 i since) (sym looked_is)
            ∙ (ap (λ zs. is_half_done s.0 i zs (last (index_found s.0 i) all)) (sym since_is)
            ∙ (or_parts (has (takes_bit s.0 i) (since_looked s.0 i all))
            (is_half_done s.0 i (since_looked s.0 i all) (last (index_found s.0 i) all)) (list.whole i)).1) in
            let unpinned : Bool = word.pinned && not (has (touches s.0 i) since) in
            let kept : Bool = in_cancelled_set word.stage && not (has (removes s.0 i) since) in
            let made = entry_made word.stage (is_valid word.stage) interest it.valid_is
            (or_parts (unpinned || kept) (is_valid word.stage && not (is_some interest)) half).1 in
            has_listed looked i serial (list_entry word.stage made.operations)
            (list.entries i
            ∙ (ap (λ o. entry_by o (first (interest_found s.0 i) (since_looked s.0 i all))) looked_is
            ∙ (ap (λ zs. entry_by (Some word) (first (interest_found s.0 i) zs)) since_is ∙ made.is)))
            it.serial_is

    look-listed : (word : IndexWord) → Contains (mine n later) (LookIndex s i word) → HasEntry looked i serial
    look-listed word there =
        by_span (span_of (λ act. is_some (index_found s.0 i act)) (mine n later))
      where
        looks : Act → Bool
        looks act = is_some (index_found s.0 i act)

        by_span : {since : List Act} → IsSpan looks (mine n later) since → HasEntry looked i serial
        by_span {since = since} (opened xs act parts such none) = last-listed xs act since parts such none
        by_span {since = since} (unopened same none) =
            absurd (cc (sym (any-of_one looks (mine n later) (LookIndex s i word) there
            (ap (λ b. is_some (if b then Some word else None)) (same_two s.0 i)))
            ∙ (ap (has looks) same ∙ none)))

    -- the call didn't look at the index, and at a time of it the list had what stood there
    stood-listed : (known : List LookedKey) → IsListOf (mine n before) s known
        → has (lists_index s.0 i) (mine n later) ≡ false
        → (past rest : List Event) → before ++ later ≡ past ++ rest → IsPrefix before past → IsLegal l past
        → listed_at known i ≡ entry_at (state_after past) s.0 i → HasEntry looked i serial
    stood-listed known was none past rest parts begins legal' is =
        let st = state_after past in
        let it = valid_between past rest parts begins legal' in
        let e = list_entry (st.key s.0 i) (st.interest s.0 i) in
        let stays = known-stays (mine n before) (mine n later) s i (listed_at known i) none
        (record { entry_is = was.entries i; whole = was.whole i }) in
        has_listed looked i serial e
        (list.entries i ∙ (sym stays.entry_is
        ∙ (is ∙ ap (λ (b : Bool). if◌then◌else◌ {A = Option ListEntry} b (Some e) None) it.valid_is))) it.serial_is

module _ (l : Limits) (n : CallerNo) (before opening later : List Event) (s : SelNo) (known : List LookedKey)
    (bound : ℕ) (looked : List LookedKey) (o : IsOpened l n before opening later s known bound looked []) (i serial : ℕ)
    (published : was_published ((state_after before).key s.0 i) serial ≡ true)
    (valid : is_valid_key ((state_after (before ++ (opening ++ later))).key s.0 i) serial ≡ true)
    (list : IsListOf (mine n before ++ mine n (opening ++ later)) s looked) where
  legal_call : IsLegal l (before ++ (opening ++ later))
  legal_call = legal_whole l n before opening later s known bound looked [] o

  clear-listed : IsClear s i o.over → IsLeft s i known o.over looked → HasEntry looked i serial
  clear-listed clear left =
      let moment = clear-right l n before opening later s known bound looked [] o i clear left.lists left.spares in
      let past = (before ++ opening) ++ moment.past in
      stood-listed l n before (opening ++ later) s i serial legal_call published valid looked list known
      o.knows.right
      (ap (has (lists_index s.0 i)) (own_whole l n before opening later s known bound looked [] o)
      ∙ none_of-append (lists_index s.0 i) (mine n opening) (o.keys ∷ (o.over ++ [])) (o.unlisted i)
      (unlisted-cons s.0 i o.keys (o.over ++ []) _ o.asks_keys refl
      (ap (has (lists_index s.0 i)) (append-nil o.over) ∙ left.lists)))
      past moment.rest (moment_parts l n before opening later s known bound looked [] o moment)
      (moment_begins l n before opening later s known bound looked [] o moment) moment.legal_past moment.fact.stands

  outcome-listed : Outcome s i known o.over looked → HasEntry looked i serial
  outcome-listed (is_clear clear left) = clear-listed clear left
  outcome-listed (is_removed found there none) =
      absurd (not_gone l n before (opening ++ later) s i serial legal_call published valid found
      (contained l n before opening later s known bound looked [] o (Remove s i found) there))
  outcome-listed (is_found key at found only) =
      let act = LookIndex s key.index found.word in
      look-listed l n before (opening ++ later) s i serial legal_call published valid looked list found.word
      (subst (λ (k : ℕ). Contains (mine n (opening ++ later)) (LookIndex s k found.word)) at
      (contained l n before opening later s known bound looked [] o act
      (subst (λ xs. Contains xs act) (sym found.parts) (contains-middle found.before act found.later))))
  outcome-listed (is_outside word there outside none) =
      look-listed l n before (opening ++ later) s i serial legal_call published valid looked list word
      (contained l n before opening later s known bound looked [] o (LookIndex s i word) there)

pub valid_keys_are_listed : ValidKeysAreListed
valid_keys_are_listed l n before later s mode known selection i serial legal knows run published valid below =
    let cut = cut_call l n before later s mode known selection legal knows run in
    let o = cut.is in
    outcome-listed l n before cut.opened cut.later s known selection.bound selection.looked o i serial
    published
    (subst (λ events. is_valid_key ((state_after (before ++ events)).key s.0 i) serial ≡ true) cut.parts valid)
    (subst (λ events. IsListOf (mine n before ++ mine n events) s selection.looked) cut.parts
    (beginnings_list s mode known (mine n before) (mine n later) selection knows.right run))
    ((begin-outcome s i known selection.bound o.over selection.looked o.runs_over).passed (omega (arith, below)))
