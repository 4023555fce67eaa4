-- The keys that were cancelled before the end of a selection are removed when it ends.
use Rattle.std.proofs.Common.{◌≡◌, ℕ, ◌==◌, ◌<◌, nat_lt, true, false, not, ◌&&◌, ◌⊎◌, inl, inr, None, Ok, List, [], ◌∷◌, ◌++◌, refl, ap}
use Rattle.std.proofs.Common.{sym, ◌∙◌, subst, append_assoc, eq-eqb, Bool, ◌/◌, zero, suc, if◌then◌else◌, arith, eqb-true, Some, Option}
use Rattle.std.specs.List.{Contains}
use Rattle.std.proofs.lemmas.Bool.{and_parts, and_from, or_right, lt-ltb}
use Rattle.std.proofs.lemmas.List.Elements.{All-contains, Contains-append_left, Contains-append_right}
use Rattle.std.specs.Prelude.{option_map}
use Rattle.nio_base.specs.declared.limits.Limits.{Limits}
use Rattle.nio_base.specs.declared.numbers.CallerNo.{CallerNo}
use Rattle.nio_base.specs.declared.numbers.SelNo.{SelNo}
use Rattle.nio_history.proofs.Legal.{legal_beginning, legal_next}
use Rattle.nio_history.proofs.Soundness.{legal-sound}
use Rattle.nio_history.proofs.Spans.{last_is_said}
use Rattle.nio_history.proofs.Stays.{facts_are_permanent}
use Rattle.nio_history.specs.Histories.{state_after, mine, event_of, IsLegal}
use Rattle.nio_history.specs.Lists.{ListEntry, list_entry, index_found, interest_found, since_looked, entry_by}
use Rattle.nio_history.specs.OwnEvents.{first, last}
use Rattle.nio_history.specs.Permanent.{PermanentFact, stands, key_published, key_cancelled, key_removed}
use Rattle.nio_history.specs.Permanent.{below_keys_high}
use Rattle.nio_history.specs.Questions.{answer_of}
use Rattle.nio_history.specs.Sets.{in_key_set, is_in_key_set, fits, was_published, was_cancelled, was_removed, is_valid}
use Rattle.nio_history.specs.declared.act.Act.{Act}
use Rattle.nio_history.specs.declared.act.Act.TheVariants.{LookKey, LookKeys, LookIndex}
use Rattle.nio_history.specs.declared.event.Event.{Event}
use Rattle.nio_history.specs.declared.found.IndexWord.{IndexWord}
use Rattle.nio_history.specs.declared.found.Stage.{Stage}
use Rattle.nio_orderly.proofs.KeysStand.{set_claimed}
use Rattle.nio_orderly.proofs.Removals.{removed_or_there, there_below, found_above, high_look}
use Rattle.nio_orderly.specs.Made.{Made, table_call}
use Rattle.nio_orderly.specs.Removals.{GoesByList, ToldRemovesCancelled, ToldRemovesLooked}
use Rattle.nio_steps.proofs.BeginLaws.{Begun, unlisted-begins, unlisted-parts}
use Rattle.nio_steps.proofs.Enlisted.{listed_there}
use Rattle.nio_steps.proofs.GoneLaws.{cancelled_keys_go_at_end}
use Rattle.nio_steps.proofs.GoneListed.{cancelled_keys_go_by_words}
use Rattle.nio_steps.proofs.Lists.{contains-middle}
use Rattle.nio_steps.proofs.LookedLaws.{looks_at_valid_keys}
use Rattle.nio_steps.proofs.OrderLaws.{looks_in_order}
use Rattle.nio_steps.proofs.OwnActs.{at_own, Cut, cut_at}
use Rattle.nio_steps.proofs.Relisted.{as_listed}
use Rattle.nio_steps.proofs.ToldParts.{Ended, ended-parts}
use Rattle.nio_steps.proofs.Unlisted.{same_selector}
use Rattle.nio_steps.specs.ChannelCalls.{words_below}
use Rattle.nio_steps.specs.Laws.{IsLookedAt}
use Rattle.nio_steps.specs.Lists.{KnowsList, IsFoundBelow}
use Rattle.nio_steps.specs.SelectCalls.{Selection, Begins, Poll, Tells, done}
use Rattle.nio_steps.specs.Steps.{stage_in, number_in, index_in}
use Rattle.nio_steps.specs.TableCalls.{told}
use Rattle.nio_steps.specs.declared.looked.LookedKey.{LookedKey}
use Rattle.nio_steps.specs.declared.selected.Selected.{Selected}

-- ---- the end of a selection

module _ (l : Limits) (n : CallerNo) (before later : List Event) (selection : Selection) (poll : Poll)
    (answer : Selected) (i serial : ℕ) (legal : IsLegal l (before ++ later))
    (run : Tells selection poll (mine n later) (done answer))
    (published : was_published ((state_after before).key selection.selector.0 i) serial ≡ true)
    (cancelled : was_cancelled ((state_after before).key selection.selector.0 i) serial ≡ true) where
  ended : Ended selection poll (mine n later)
  ended = ended-parts selection poll (mine n later) answer run

  -- the high-water mark that it finds
  abbrev mark : ℕ
  mark = number_in (answer_of ended.keys)

  abbrev first_acts : List Act
  first_acts = ended.marks ++ ended.gate ∷ ended.status ∷ []

  abbrev last_acts : List Act
  last_acts = ended.sweeps ++ ended.wake ∷ ended.gives ∷ []

  cut : Cut n later first_acts (LookKeys selection.selector mark) last_acts
  cut = cut_at n later first_acts (LookKeys selection.selector mark) last_acts
      (ended.parts ∙ ap (λ act. first_acts ++ act ∷ last_acts)
      (high_look selection.selector ended.keys ended.asks_keys))

  abbrev in_call : List Event
  in_call = cut.past ++ event_of n (LookKeys selection.selector mark) ∷ cut.later

  legal_cut : IsLegal l (before ++ in_call)
  legal_cut = subst (λ evs. IsLegal l (before ++ evs)) cut.parts legal

  legal_joined : IsLegal l ((before ++ cut.past) ++ event_of n (LookKeys selection.selector mark) ∷ cut.later)
  legal_joined = subst (IsLegal l)
      (sym (append_assoc before cut.past (event_of n (LookKeys selection.selector mark) ∷ cut.later))) legal_cut

  stays : (f : PermanentFact) → stands f (state_after before) ≡ true
      → stands f (state_after (before ++ cut.past)) ≡ true
  stays f = facts_are_permanent l before (before ++ cut.past) (cut.past, refl)
      (legal_beginning l (before ++ cut.past) (event_of n (LookKeys selection.selector mark) ∷ cut.later) legal_joined)
      f

  abbrev IsRemovedThen : List Event → Type 0
  IsRemovedThen events =
      was_removed ((state_after (before ++ events)).key selection.selector.0 i) serial ≡ true

  -- it is above what was below the high-water mark before
  mark_above : (k : ℕ) → nat_lt k ((state_after before).keys_high selection.selector.0) ≡ true → k < mark
  mark_above k below = found_above l n before cut.past cut.later selection.selector mark k legal_joined below

  unlisted_removed : selection.listed ≡ false → i < mark → IsRemovedThen later
  unlisted_removed unlisted below =
      subst IsRemovedThen (sym cut.parts)
      (cancelled_keys_go_at_end l n before cut.past cut.later selection poll answer mark i serial legal_cut unlisted
      (subst (λ evs. Tells selection poll (mine n evs) (done answer)) cut.parts run)
      (stays (key_published selection.selector.0 i serial) published)
      (stays (key_cancelled selection.selector.0 i serial) cancelled) below)

  -- with the list also where a word has an index below the mark
  listed_removed : selection.listed ≡ true → GoesByList l n before selection → i / 64 < words_below mark
      → IsRemovedThen later
  listed_removed listed by below =
      subst IsRemovedThen (sym cut.parts)
      (cancelled_keys_go_by_words l n before cut.past cut.later selection poll answer mark i serial legal_cut by.begun
      listed by.knows (subst (λ evs. Tells selection poll (mine n evs) (done answer)) cut.parts run)
      (stays (key_published selection.selector.0 i serial) published)
      (stays (key_cancelled selection.selector.0 i serial) cancelled) below)

pub told_removes_cancelled : ToldRemovesCancelled
told_removes_cancelled l n before later selection poll answer i serial made goes_by published cancelled =
    by_stage (removed_or_there ((state_after before).key s.0 i) serial published)
  where
    s : SelNo
    s = selection.selector

    call : Made
    call = table_call (told selection poll) (done answer)

    by_list : (b : Bool) → selection.listed ≡ b
        → i < mark l n before later selection poll answer i serial made.legal made.runs published cancelled
        → was_removed ((state_after (before ++ later)).key s.0 i) serial ≡ true
    by_list false unlisted below =
        unlisted_removed l n before later selection poll answer i serial made.legal made.runs published cancelled
        unlisted below
    by_list true listed below =
        listed_removed l n before later selection poll answer i serial made.legal made.runs published cancelled
        listed (goes_by listed) (omega (arith, below))

    by_stage : (was_removed ((state_after before).key s.0 i) serial ≡ true)
        ⊎ (is_in_key_set ((state_after before).key s.0 i) serial ≡ true)
        → was_removed ((state_after (before ++ later)).key s.0 i) serial ≡ true
    by_stage (inl removed) =
        facts_are_permanent l before (before ++ later) (later, refl) made.legal (key_removed s.0 i serial) removed
    by_stage (inr there) =
        by_list selection.listed refl
        (mark_above l n before later selection poll answer i serial made.legal made.runs published cancelled i
        (there_below l n before later call made s.0 i serial there))

-- ---- the looked keys

-- at a moment before, the caller found the key valid
record WasFound (n : CallerNo) (before : List Event) (s : SelNo) (entry : LookedKey) : Type 0 where
  past : List Event
  act : Act
  later : List Event
  parts : before ≡ past ++ event_of n act ∷ later
  valid : is_valid ((state_after past).key s.0 entry.index) ≡ true
  serial : ((state_after past).key s.0 entry.index).serial ≡ entry.serial

-- so it was published
found_published : (l : Limits) (n : CallerNo) (before : List Event) (s : SelNo) (entry : LookedKey) → IsLegal l before
    → WasFound n before s entry → was_published ((state_after before).key s.0 entry.index) entry.serial ≡ true
found_published l n before s entry legal was =
    facts_are_permanent l was.past before (event_of n was.act ∷ was.later, sym was.parts) legal
    (key_published s.0 entry.index entry.serial)
    (or_right (nat_lt entry.serial k.serial) (fits k entry.serial && k.published)
    (and_from (fits k entry.serial) k.published
    (and_from k.claimed (k.serial == entry.serial)
    (set_claimed (state_after was.past) (legal-sound l was.past legal_past) s.0 entry.index in_set)
    (eq-eqb k.serial entry.serial was.serial))
    (and_parts k.published (not k.removed) in_set).0))
  where
    k : Stage
    k = (state_after was.past).key s.0 entry.index

    in_set : in_key_set k ≡ true
    in_set = (and_parts (in_key_set k) (not k.cancelled) was.valid).0

    legal_past : IsLegal l was.past
    legal_past = legal_beginning l was.past (event_of n was.act ∷ was.later) (subst (IsLegal l) was.parts legal)

-- where a beginning without the list found it
begin_found : (l : Limits) (n : CallerNo) (before : List Event) (s : SelNo) (entry : LookedKey) (acts : List Act)
    → IsLegal l before → ((act : Act) → Contains acts act → Contains (mine n before) act) → IsLookedAt s acts entry
    → WasFound n before s entry
begin_found l n before s entry acts legal whole its =
    let act = LookKey s entry.index its.stage in
    let at = at_own n before act (whole act its.look) in
    let step = legal_next l at.past (event_of n act) at.later (subst (IsLegal l) at.parts legal) in
    let found : its.stage ≡ (state_after at.past).key s.0 entry.index = ap stage_in step.answers in
    record {
      past = at.past;
      act = act;
      later = at.later;
      parts = at.parts;
      valid = ap is_valid (sym found) ∙ its.valid;
      serial = ap (λ (x : Stage). x.serial) (sym found) ∙ its.serial;
    }

-- ---- what stands on the list

-- a look at an index that found a word
looked_there : (s : SelNo) (i : ℕ) (act : Act) (word : IndexWord) → index_found s.0 i act ≡ Some word
    → act ≡ LookIndex s i word
looked_there s i (LookIndex s' i' found) word tells = by_place ((s'.0 == s.0) && (i' == i)) refl tells
  where
    by_place : (b : Bool) → ((s'.0 == s.0) && (i' == i)) ≡ b
        → if◌then◌else◌ {A = Option IndexWord} b (Some found) None ≡ Some word
        → LookIndex s' i' found ≡ LookIndex s i word
    by_place true same is =
        let both = and_parts (s'.0 == s.0) (i' == i) same in
        ap (λ (t : SelNo). LookIndex t i' found) (same_selector s' s both.0)
        ∙ (ap (λ (k : ℕ). LookIndex s k found) (eqb-true i' i both.1) ∙ ap (LookIndex s i) (cc is))
    by_place false other is = absurd (cc is)
looked_there s i _ word tells = absurd (cc tells)

-- an entry is of a word that shows a valid key
record ShowsKey (word : IndexWord) (e : ListEntry) : Type 0 where
  valid : is_valid word.stage ≡ true
  serial : word.stage.serial ≡ e.serial

entry_shows : (word : IndexWord) (ops : Option ℕ) (e : ListEntry) → entry_by (Some word) ops ≡ Some e → ShowsKey word e
entry_shows word ops e is = by_valid (is_valid word.stage) refl ops is
  where
    by_valid : (b : Bool) → is_valid word.stage ≡ b → (o : Option ℕ)
        → if◌then◌else◌ {A = Option ListEntry} b (option_map (list_entry word.stage) o) None ≡ Some e → ShowsKey word e
    by_valid true valid (Some x) same =
        let entry_is : list_entry word.stage x ≡ e = cc same in
        record { valid = valid; serial = ap (λ (y : ListEntry). y.serial) entry_is }
    by_valid true valid None same = absurd (cc same)
    by_valid false invalid o same = absurd (cc same)

-- the caller that knows the list found what stands there
list_found : (l : Limits) (n : CallerNo) (before : List Event) (s : SelNo) (known : List LookedKey) (entry : LookedKey)
    → IsLegal l before → KnowsList l n before s known → Contains known entry → WasFound n before s entry
list_found l n before s known entry legal knows there =
    by_last (last (index_found s.0 i) own) refl
    (sym (knows.right.entries i) ∙ listed_there known entry knows.right.rise there)
  where
    i : ℕ
    i = entry.index

    own : List Act
    own = mine n before

    by_last : (o : Option IndexWord) → last (index_found s.0 i) own ≡ o
        → entry_by o (first (interest_found s.0 i) (since_looked s.0 i own)) ≡ Some (as_listed entry)
        → WasFound n before s entry
    by_last None none is = absurd (cc is)
    by_last (Some word) found is =
        let its = (last_is_said (index_found s.0 i) own word).0 found in
        let act = LookIndex s i word in
        let shows = entry_shows word (first (interest_found s.0 i) (since_looked s.0 i own)) (as_listed entry) is in
        let cut = cut_at n before its.before act its.after
        (its.parts ∙ ap (λ x. its.before ++ x ∷ its.after) (looked_there s i its.act word its.told)) in
        let step = legal_next l cut.past (event_of n act) cut.later (subst (IsLegal l) cut.parts legal) in
        let stage : word.stage ≡ (state_after cut.past).key s.0 i
        = ap (λ (w : IndexWord). w.stage) (ap index_in step.answers) in
        record {
          past = cut.past;
          act = act;
          later = cut.later;
          parts = cut.parts;
          valid = ap is_valid (sym stage) ∙ shows.valid;
          serial = ap (λ (x : Stage). x.serial) (sym stage) ∙ shows.serial;
        }

-- what was below a high-water mark that the caller found is below the one that stands
below_found : (l : Limits) (n : CallerNo) (before : List Event) (s : SelNo) (m k : ℕ) → IsLegal l before
    → Contains (mine n before) (LookKeys s m) → k < m → nat_lt k ((state_after before).keys_high s.0) ≡ true
below_found l n before s m k legal there below =
    let at = at_own n before (LookKeys s m) there in
    let e = event_of n (LookKeys s m) in
    let step = legal_next l at.past e at.later (subst (IsLegal l) at.parts legal) in
    let is : m ≡ (state_after at.past).keys_high s.0 = ap (λ x. number_in x) step.answers in
    facts_are_permanent l at.past before (e ∷ at.later, sym at.parts) legal (below_keys_high s.0 k)
    (ap (nat_lt k) (sym is) ∙ lt-ltb k m below)

pub told_removes_looked : ToldRemovesLooked
told_removes_looked l n before later selection poll answer entry legal begun knows run looked cancelled =
    by_list selection.listed refl
  where
    s : SelNo
    s = selection.selector

    i : ℕ
    i = entry.index

    legal_before : IsLegal l before
    legal_before = legal_beginning l before later legal

    IsRemoved : Type 0
    IsRemoved = was_removed ((state_after (before ++ later)).key s.0 i) entry.serial ≡ true

    unlisted_gone : selection.listed ≡ false → IsRemoved
    unlisted_gone unlisted =
        unlisted_removed l n before later selection poll answer i entry.serial legal run published cancelled unlisted
        (mark_above l n before later selection poll answer i entry.serial legal run published cancelled i below)
      where
        began : Begins s selection.mode None begun.beginning (Ok selection)
        began = unlisted-begins (mine n before) selection begun unlisted

        begins : Begun s selection.mode None begun.beginning selection
        begins = unlisted-parts (mine n before) selection begun unlisted

        in_own : (act : Act) → Contains begun.beginning act → Contains (mine n before) act
        in_own act there =
            subst (λ acts. Contains acts act) (sym begun.parts)
            (Contains-append_right begun.earlier (begun.beginning ++ begun.since) act
            (Contains-append_left begun.beginning begun.since act there))

        published : was_published ((state_after before).key s.0 i) entry.serial ≡ true
        published = found_published l n before s entry legal_before
            (begin_found l n before s entry begun.beginning legal_before in_own
            (All-contains (IsLookedAt s begun.beginning) selection.looked entry
            (looks_at_valid_keys s selection.mode begun.beginning selection began) looked))

        high : Contains begun.beginning (LookKeys s selection.bound)
        high = subst (λ (m : ℕ). Contains begun.beginning (LookKeys s m)) (sym begins.bound)
            (subst (Contains begun.beginning) (high_look s begins.keys begins.asks_keys)
            (subst (λ acts. Contains acts begins.keys) (sym begins.parts)
            (contains-middle (begins.gate ∷ begins.take ∷ begins.look ∷ []) begins.keys begins.over)))

        below : nat_lt i ((state_after before).keys_high s.0) ≡ true
        below = below_found l n before s selection.bound i legal_before (in_own (LookKeys s selection.bound) high)
            (All-contains (λ (x : LookedKey). x.index < selection.bound) selection.looked entry
            (looks_in_order s selection.mode begun.beginning selection began).below looked)

    listed_gone : selection.listed ≡ true → IsRemoved
    listed_gone listed =
        listed_removed l n before later selection poll answer i entry.serial legal run published cancelled listed
        (record { begun = begun; knows = knows listed }) in_word
      where
        published : was_published ((state_after before).key s.0 i) entry.serial ≡ true
        published = found_published l n before s entry legal_before
            (list_found l n before s selection.looked entry legal_before (knows listed) looked)

        there : IsFoundBelow (mine n before) s i
        there = All-contains (λ (x : LookedKey). IsFoundBelow (mine n before) s x.index) selection.looked entry
            (knows listed).right.below looked

        at_end : ℕ
        at_end = mark l n before later selection poll answer i entry.serial legal run published cancelled

        in_word : i / 64 < words_below at_end
        in_word = by_mark there.mark refl
          where
            by_mark : (m : ℕ) → there.mark ≡ m → i / 64 < words_below at_end
            by_mark zero none =
                absurd (omega (arith, there.below, none))
            by_mark (suc k) is =
                let high = mark_above l n before later selection poll answer i entry.serial legal run published cancelled k
                (below_found l n before s there.mark k legal_before there.found (omega (arith, is))) in
                omega (arith, high, there.below, is)

    by_list : (b : Bool) → selection.listed ≡ b → IsRemoved
    by_list false unlisted = unlisted_gone unlisted
    by_list true listed = listed_gone listed
