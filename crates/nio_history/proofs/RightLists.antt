-- The list of the caller that has it is right: each step keeps what it knows of an index that isn't touched.
use Rattle.std.proofs.Common.{◌≡◌, ℕ, ◌+◌, ◌*◌, ◌/◌, ◌%◌, ◌==◌, ◌<◌, ◌≤◌, Bool, true, false, cond, not, ◌&&◌, ◌||◌, inl, inr}
use Rattle.std.proofs.Common.{if◌then◌else◌, Option, Some, None, is_some, List, [], ◌∷◌, ◌++◌, refl, ap, sym, ◌∙◌, subst}
use Rattle.std.proofs.Common.{eqb-true, eq-eqb, arith}
use Rattle.std.proofs.Math.Bool.{or-false, and-true, and-false}
use Rattle.std.proofs.lemmas.Bool.{and_parts, and_from, or_parts, false_from_ne_true}
use Rattle.std.specs.Int.{bit_at}
use Rattle.std.specs.Prelude.{option_map}
use Rattle.std.specs.Option.{ForSome, option_or}
use Rattle.nio_base.specs.Limits.{IsFit}
use Rattle.nio_base.specs.declared.limits.Limits.{Limits}
use Rattle.nio_base.specs.declared.numbers.CallerNo.{CallerNo}
use Rattle.nio_base.specs.declared.numbers.ChanNo.{ChanNo}
use Rattle.nio_base.specs.declared.numbers.SelNo.{SelNo}
use Rattle.nio_history.proofs.Bits.{bits_below-at}
use Rattle.nio_history.proofs.Claims.{if_some}
use Rattle.nio_history.proofs.Counts.{pinned_by}
use Rattle.nio_history.proofs.KeyChanges.{KeepsStages, stages_keep, back_parts}
use Rattle.nio_history.proofs.Lasts.{entered_lasts}
use Rattle.nio_history.proofs.LastsAlone.{one_holder}
use Rattle.nio_history.proofs.LastsOnceSound.{lister_lasts}
use Rattle.nio_history.proofs.Legal.{legal_induction}
use Rattle.nio_history.proofs.OneMore.{state_after-more, mine-own, mine-other, has-more, first-more, last-more}
use Rattle.nio_history.proofs.OneMore.{since_from-more}
use Rattle.nio_history.proofs.Put.{same_pair, put_at_keeps, put_pin_keeps, put_at-there}
use Rattle.nio_history.proofs.Soundness.{legal-sound, held_some, both_ways, may_remove}
use Rattle.nio_history.proofs.Within.{legal-within}
use Rattle.nio_history.specs.Acts.{effect}
use Rattle.nio_history.specs.Answers.{Answers, touched_word, index_at, bits_below, is_pinned}
use Rattle.nio_history.specs.Conditions.{Condition, is_held_by}
use Rattle.nio_history.specs.Histories.{state_after, is_by, mine, IsStep, IsLegal}
use Rattle.nio_history.specs.Lists.{ListEntry, list_entry, entry_at, index_found, interest_found, takes_bit, since_looked}
use Rattle.nio_history.specs.Lists.{entry_by, is_half_done, ListsAreRight}
use Rattle.nio_history.specs.OwnEvents.{has, first, last, touches}
use Rattle.nio_history.specs.Pins.{removes}
use Rattle.nio_history.specs.Sets.{is_valid, in_cancelled_set}
use Rattle.nio_history.specs.Sound.{IsSound}
use Rattle.nio_history.specs.State.{State, put_at}
use Rattle.nio_history.specs.declared.act.Act.{Act}
use Rattle.nio_history.specs.declared.act.Act.TheVariants.{LookInterest, SwapInterest, OrInterest, AndInterest}
use Rattle.nio_history.specs.declared.act.Act.TheVariants.{Remove, Unpin, Touch, TakeTouched}
use Rattle.nio_history.specs.declared.act.Act.TheVariants.{LookIndex}
use Rattle.nio_history.specs.declared.event.Event.{Event}
use Rattle.nio_history.specs.declared.found.IndexWord.{IndexWord}
use Rattle.nio_history.specs.declared.found.Stage.{Stage}

-- ---- the valid key of an index

-- which key is valid at an index, if any
record ValidKey : Type 0 where
  serial : ℕ
  channel : ChanNo

abbrev valid_key : Stage → Option ValidKey
valid_key k = if is_valid k then Some (record { serial = k.serial; channel = k.chan }) else None

abbrev valid_found : Option IndexWord → Option ValidKey
valid_found None = None
valid_found (Some found) = valid_key found.stage

no_key : (k : Stage) → is_valid k ≡ false → valid_key k ≡ None
no_key k invalid = ap (λ b. if b then Some (record { serial = k.serial; channel = k.chan }) else None) invalid

unpublished_invalid : (k : Stage) → k.published ≡ false → is_valid k ≡ false
unpublished_invalid k e = ap (λ b. b && not k.removed && not k.cancelled) e

by_bits : (p r c : Bool) → (r || c) ≡ true → (p && not r && not c) ≡ false
by_bits false r c gone = refl
by_bits true true c gone = refl
by_bits true false true gone = refl
by_bits true false false gone = absurd (cc gone)

gone_invalid : (k : Stage) → (k.removed || k.cancelled) ≡ true → is_valid k ≡ false
gone_invalid k gone = by_bits k.published k.removed k.cancelled gone

-- ---- what one step changes of an index of which nobody is amid a change

-- nobody is amid a change of the index
abbrev IsCalm : State → ℕ → ℕ → Type 0
IsCalm st s i = (n : CallerNo) → st.amid s i n.0 ≡ false

removed_not_cancelled : (k : Stage) → in_cancelled_set (record k { removed = true }) ≡ false
removed_not_cancelled k = ap (λ b. b && k.cancelled) (and-false k.published)

never_amid : (st : State) (me : CallerNo) (s i : ℕ) → IsCalm st s i → (s' : SelNo) (i' : ℕ) → s'.0 ≡ s → i' ≡ i
    → st.amid s'.0 i' me.0 ≡ true → ⊥
never_amid st me s i calm s' i' at_s at_i amid =
    both_ways (st.amid s i me.0)
    (subst (λ (a : ℕ). st.amid a i me.0 ≡ true) at_s (subst (λ (b : ℕ). st.amid s'.0 b me.0 ≡ true) at_i amid)) (calm me)

valid_key_keeps : (l : Limits) (own : List Act) (st : State) (me : CallerNo) (s i : ℕ) (was : Option ValidKey)
    → IsSound st → IsCalm st s i → st.entered s ≡ false
    → KeepsStages (Condition l own st me) st (λ a b k. a ≡ s → b ≡ i → valid_key k ≡ was)
valid_key_keeps l own st me s i was sound calm not_entered = record {
  claimed = λ s' i' c unclaimed_yet old at_s at_i.
      sym (no_key (st.key s'.0 i')
      (unpublished_invalid (st.key s'.0 i') (ap (λ k. k.published) (sound.unclaimed_bare s'.0 i' unclaimed_yet))))
      ∙ old at_s at_i;
  published = λ s' i' found may old at_s at_i. absurd (never_amid st me s i calm s' i' at_s at_i may.2);
  cancelled = λ s' i' found may old at_s at_i. absurd (never_amid st me s i calm s' i' at_s at_i may.3);
  removed = λ s' i' found may old at_s at_i.
      elim (may_remove st own me s' i' may.1) [
        | inl sweep ↦
            no_key (record (st.key s'.0 i') { removed = true }) (gone_invalid (record (st.key s'.0 i') { removed = true }) refl)
            ∙ (sym (no_key (st.key s'.0 i') (gone_invalid (st.key s'.0 i')
            (ap (λ b. b || (st.key s'.0 i').cancelled) sweep.1.not_removed ∙ sweep.1.cancelled)))
            ∙ old at_s at_i)
        | inr clear ↦ absurd (both_ways (st.entered s) (subst (λ (a : ℕ). st.entered a ≡ true) at_s clear.0) not_entered)
      ];
  again = λ s' i' c from may unpinned old at_s at_i.
      sym (no_key (st.key s'.0 i') (gone_invalid (st.key s'.0 i')
      (ap (λ b. b || (st.key s'.0 i').cancelled)
      (back_parts (st.key s'.0 i') (sound.taken_back s'.0 i' (held_some me (st.taker s'.0 i') may.3))).removed)))
      ∙ old at_s at_i;
}

valid_key_stays : (l : Limits) (own : List Act) (st : State) (me : CallerNo) (act : Act) (s i : ℕ)
    → Condition l own st me act → Answers st me act → IsSound st → IsCalm st s i → st.entered s ≡ false
    → valid_key ((effect st me act).key s i) ≡ valid_key (st.key s i)
valid_key_stays l own st me act s i may answers sound calm not_entered =
    stages_keep (Condition l own st me) st me (λ a b k. a ≡ s → b ≡ i → valid_key k ≡ valid_key (st.key s i))
    (valid_key_keeps l own st me s i (valid_key (st.key s i)) sound calm not_entered) act may answers s i
    (λ _ _. refl) refl refl

-- a key that isn't in the cancelled set doesn't come into it
not_cancelled_keeps : (l : Limits) (own : List Act) (st : State) (me : CallerNo) (s i : ℕ) → IsCalm st s i
    → KeepsStages (Condition l own st me) st (λ a b k. a ≡ s → b ≡ i → in_cancelled_set k ≡ false)
not_cancelled_keeps l own st me s i calm = record {
  claimed = λ s' i' c unclaimed_yet old at_s at_i. refl;
  published = λ s' i' found may old at_s at_i. absurd (never_amid st me s i calm s' i' at_s at_i may.2);
  cancelled = λ s' i' found may old at_s at_i. absurd (never_amid st me s i calm s' i' at_s at_i may.3);
  removed = λ s' i' found may old at_s at_i. removed_not_cancelled (st.key s'.0 i');
  again = λ s' i' c from may unpinned old at_s at_i. refl;
}

not_cancelled_stays : (l : Limits) (own : List Act) (st : State) (me : CallerNo) (act : Act) (s i : ℕ)
    → Condition l own st me act → Answers st me act → IsCalm st s i → in_cancelled_set (st.key s i) ≡ false
    → in_cancelled_set ((effect st me act).key s i) ≡ false
not_cancelled_stays l own st me act s i may answers calm here =
    stages_keep (Condition l own st me) st me (λ a b k. a ≡ s → b ≡ i → in_cancelled_set k ≡ false)
    (not_cancelled_keeps l own st me s i calm) act may answers s i (λ _ _. here) refl refl

-- a key that is removed isn't in the cancelled set
removed_now : (st : State) (me : CallerNo) (act : Act) (s i : ℕ) → removes s i act ≡ true
    → in_cancelled_set ((effect st me act).key s i) ≡ false
removed_now st me (Remove s' i' found) s i here =
    ap in_cancelled_set (put_at-there st.key s'.0 i' (record (st.key s'.0 i') { removed = true }) s i here)
    ∙ removed_not_cancelled (st.key s'.0 i')
removed_now st me act s i here = absurd (cc here)

-- only who is amid a change of an index changes its interest set
interest_stays : (l : Limits) (own : List Act) (st : State) (me : CallerNo) (act : Act) (s i : ℕ)
    → Condition l own st me act → IsCalm st s i → (effect st me act).interest s i ≡ st.interest s i
interest_stays l own st me act s i may calm = by_act act may
  where
    kept : (s' i' x : ℕ) → st.amid s' i' me.0 ≡ true → put_at st.interest s' i' x s i ≡ st.interest s i
    kept s' i' x amid =
        put_at_keeps (λ a b y. st.amid a b me.0 ≡ false → y ≡ st.interest a b) st.interest s' i' x
        (λ _ not_amid. absurd (both_ways (st.amid s' i' me.0) amid not_amid)) s i (λ _. refl) (calm me)

    by_act : (act' : Act) → Condition l own st me act' → (effect st me act').interest s i ≡ st.interest s i
    by_act (SwapInterest s' i' ops found) may' = kept s'.0 i' ops may'.2
    by_act (OrInterest s' i' ops found) may' = kept s'.0 i' _ may'.2
    by_act (AndInterest s' i' ops found) may' = kept s'.0 i' _ may'.2
    by_act act' may' = refl

-- it touches the index: then that is touched
touched_now : (st : State) (me : CallerNo) (act : Act) (s i : ℕ) → touches s i act ≡ true
    → (effect st me act).touched s i ≡ true
touched_now st me (Touch s' i' found) s i here = put_at-there st.touched s'.0 i' true s i here
touched_now st me act s i here = absurd (cc here)

-- nobody comes to be amid a change but by touching
calm_stays : (st : State) (me : CallerNo) (act : Act) (s i : ℕ) → touches s i act ≡ false → IsCalm st s i
    → IsCalm (effect st me act) s i
calm_stays st me (Touch s' i' found) s i elsewhere calm = λ n.
    put_pin_keeps (λ a b _ x. ((s'.0 == a) && (i' == b)) ≡ false → x ≡ false) st.amid s'.0 i' me.0 _
    (λ _ not_here. absurd (both_ways ((s'.0 == s'.0) && (i' == i'))
    (and_from (s'.0 == s'.0) (i' == i') (eq-eqb s'.0 s'.0 refl) (eq-eqb i' i' refl)) not_here))
    s i n.0 (λ _. calm n) elsewhere
calm_stays st me (Unpin s' i') s i elsewhere calm = λ n.
    put_pin_keeps (λ _ _ _ x. x ≡ false) st.amid s'.0 i' me.0 false (λ _. refl) s i n.0 (calm n)
calm_stays st me act s i elsewhere calm = calm

-- ---- the bits

bit_taken : (f : ℕ → ℕ → Bool) (s i : ℕ) → f s i ≡ true
    → (bit_at (bits_below 64 (λ b. f s (64 * (i / 64) + b))) (i % 64) == 1) ≡ true
bit_taken f s i is_touched =
    let same : 64 * (i / 64) + i % 64 ≡ i = omega arith in
    let one : ◌≡◌ {A = ℕ} (if f s (64 * (i / 64) + i % 64) then 1 else 0) 1 =
    ap (λ b. if b then 1 else 0) (subst (λ (k : ℕ). f s k ≡ true) (sym same) is_touched) in
    eq-eqb (bit_at (bits_below 64 (λ b. f s (64 * (i / 64) + b))) (i % 64)) 1
    (bits_below-at 64 (λ b. f s (64 * (i / 64) + b)) (i % 64) (omega arith) ∙ one)

-- an index that isn't touched after a step wasn't touched before, or the step took its bit
untouched_before : (st : State) (me : CallerNo) (act : Act) (s i : ℕ) → Answers st me act
    → (effect st me act).touched s i ≡ false → takes_bit s i act ≡ false → st.touched s i ≡ false
untouched_before st me act s i answers untouched not_taken = by_act act answers untouched not_taken
  where
    by_act : (act' : Act) → Answers st me act' → (effect st me act').touched s i ≡ false → takes_bit s i act' ≡ false
        → st.touched s i ≡ false
    by_act (Touch s' i' found) answers' untouched' not_taken' =
        false_from_ne_true (st.touched s i)
        (λ was. both_ways (put_at st.touched s'.0 i' true s i)
        (put_at_keeps (λ _ _ x. x ≡ true) st.touched s'.0 i' true (λ _. refl) s i was) untouched')
    by_act (TakeTouched s' j found) answers' untouched' not_taken' = by_place ((s == s'.0) && (i / 64 == j)) refl untouched'
      where
        found_is : found ≡ touched_word st s'.0 j
        found_is = cc answers'

        took : s ≡ s'.0 → i / 64 ≡ j → st.touched s i ≡ true → takes_bit s i (TakeTouched s' j found) ≡ true
        took at_s at_j was =
            and_from ((s'.0 == s) && (i / 64 == j)) (bit_at found (i % 64) == 1)
            (and_from (s'.0 == s) (i / 64 == j) (eq-eqb s'.0 s (sym at_s)) (eq-eqb (i / 64) j at_j))
            (subst (λ (k : ℕ). (bit_at k (i % 64) == 1) ≡ true) (sym found_is)
            (subst (λ (a : ℕ). (bit_at (touched_word st a j) (i % 64) == 1) ≡ true) at_s
            (subst (λ (b : ℕ). (bit_at (touched_word st s b) (i % 64) == 1) ≡ true) at_j
            (bit_taken st.touched s i was))))

        by_place : (b : Bool) → ((s == s'.0) && (i / 64 == j)) ≡ b → cond b false (st.touched s i) ≡ false
            → st.touched s i ≡ false
        by_place true e _ =
            let both = and_parts (s == s'.0) (i / 64 == j) e in
            false_from_ne_true (st.touched s i)
            (λ was. both_ways (takes_bit s i (TakeTouched s' j found))
            (took (eqb-true s s'.0 both.0) (eqb-true (i / 64) j both.1) was) not_taken')
        by_place false e same = same
    by_act act' answers' untouched' not_taken' = untouched'

-- only who has the list takes a bit
taker_has_list : (l : Limits) (own : List Act) (st : State) (me : CallerNo) (act : Act) (s i : ℕ)
    → Condition l own st me act → takes_bit s i act ≡ true → is_held_by me (st.lister s) ≡ true
taker_has_list l own st me (TakeTouched s' j found) s i may takes =
    let place = (and_parts ((s'.0 == s) && (i / 64 == j)) (bit_at found (i % 64) == 1) takes).0 in
    subst (λ (a : ℕ). is_held_by me (st.lister a) ≡ true) (eqb-true s'.0 s (and_parts (s'.0 == s) (i / 64 == j) place).0)
    may.3
taker_has_list l own st me act s i may takes = absurd (cc takes)

-- ---- what a caller knows, where nobody else has the list

-- no other caller has the list
abbrev IsAlone : CallerNo → State → ℕ → Type 0
IsAlone n st s = (m : CallerNo) → is_held_by m (st.lister s) ≡ true → m.0 ≡ n.0

-- the look found the key in the cancelled set, and the caller hasn't removed it since
abbrev lacks_removal : ℕ → ℕ → Option IndexWord → List Act → Bool
lacks_removal s i None since = false
lacks_removal s i (Some found) since = in_cancelled_set found.stage && not (has (removes s i) since)

-- by what it did since its last look at the index, and by what that look found
record Knows (st : State) (s i : ℕ) (looked : Option IndexWord) (since : List Act) : Type 0 where
  calm : IsCalm st s i
  key : valid_key (st.key s i) ≡ valid_found looked
  interest : ForSome (first (interest_found s i) since) (λ ops. ops ≡ st.interest s i)
  not_cancelled : lacks_removal s i looked since ≡ false → in_cancelled_set (st.key s i) ≡ false

-- the look found the index pinned, and the caller hasn't touched it since
abbrev lacks_touch : ℕ → ℕ → Option IndexWord → List Act → Bool
lacks_touch s i None since = false
lacks_touch s i (Some found) since = found.pinned && not (has (touches s i) since)

-- what is known where the index isn't touched
abbrev KnowsWhere : CallerNo → State → ℕ → ℕ → Option IndexWord → List Act → Type 0
KnowsWhere n st s i looked since =
    IsAlone n st s → st.entered s ≡ false → st.touched s i ≡ false → has (takes_bit s i) since ≡ false
    → lacks_touch s i looked since ≡ false → Knows st s i looked since

-- a step after which the index isn't touched, and which doesn't look there
knows_on : (l : Limits) (own : List Act) (st : State) (me : CallerNo) (act : Act) (s i : ℕ) (looked : Option IndexWord)
    (since : List Act)
    → Condition l own st me act → Answers st me act → IsSound st → st.entered s ≡ false
    → (effect st me act).touched s i ≡ false
    → Knows st s i looked since → Knows (effect st me act) s i looked since
knows_on l own st me act s i looked since may answers sound not_entered untouched knows = record {
  calm = calm_stays st me act s i
      (false_from_ne_true (touches s i act)
      (λ touching. both_ways ((effect st me act).touched s i) (touched_now st me act s i touching) untouched)) knows.calm;
  key = valid_key_stays l own st me act s i may answers sound knows.calm not_entered ∙ knows.key;
  interest = λ ops found. knows.interest ops found ∙ sym (interest_stays l own st me act s i may knows.calm);
  not_cancelled = λ whole. not_cancelled_stays l own st me act s i may answers knows.calm (knows.not_cancelled whole);
}

-- a caller that had the list before a step, or nobody had it
alone_before : (st : State) (me n : CallerNo) (act : Act) (s : ℕ) → Answers st me act → IsAlone n (effect st me act) s
    → IsAlone n st s
alone_before st me n act s answers alone = λ m had. alone m (lister_lasts st me act answers s m had)

not_entered_before : (st : State) (me : CallerNo) (act : Act) (s : ℕ) → (effect st me act).entered s ≡ false
    → st.entered s ≡ false
not_entered_before st me act s not_entered =
    false_from_ne_true (st.entered s)
    (λ was. both_ways ((effect st me act).entered s) (entered_lasts st me act s was) not_entered)

-- a look at the index tells all but the interest set
look_tells : (st : State) (me : CallerNo) (act : Act) (s i : ℕ) (found : IndexWord) → IsSound st → Answers st me act
    → ((n : ℕ) → st.pinned s i n ≡ true → n < 64)
    → index_found s i act ≡ Some found → found.pinned ≡ false
    → Knows (effect st me act) s i (Some found) []
look_tells st me (LookIndex s' i' there) s i found sound answers few told unpinned =
    let parts = if_some ((s'.0 == s) && (i' == i)) there found told in
    let stands : there ≡ index_at st s'.0 i' = cc in
    let here : index_at st s i ≡ found =
    same_pair (λ a b. index_at st a b ≡ found) s'.0 i' s i parts.0 (sym stands ∙ parts.1) in
    let free : is_pinned st s i ≡ false = ap (λ w. w.pinned) here ∙ unpinned in
    record {
      calm = λ n. false_from_ne_true (st.amid s i n.0)
          (λ amid. let pin = sound.amid_pinned s i n.0 amid in pinned_by st s i n.0 (few n.0 pin) pin free);
      key = ap (λ w. valid_key w.stage) here;
      interest = λ ops none. absurd cc;
      not_cancelled = λ whole. ap (λ w. in_cancelled_set w.stage) here
          ∙ (sym (and-true (in_cancelled_set found.stage)) ∙ whole);
    }
look_tells st me act s i found sound answers few told unpinned = absurd (cc told)

-- a look at the interest set tells it
interest_told : (st : State) (me : CallerNo) (act : Act) (s i ops : ℕ) → Answers st me act
    → interest_found s i act ≡ Some ops → ops ≡ (effect st me act).interest s i
interest_told st me (LookInterest s' i' there) s i ops answers told =
    let parts = if_some ((s'.0 == s) && (i' == i)) there ops told in
    let stands : there ≡ st.interest s'.0 i' = cc in
    same_pair (λ a b. ops ≡ st.interest a b) s'.0 i' s i parts.0 (sym parts.1 ∙ stands)
interest_told st me act s i ops answers told = absurd (cc told)

-- ---- one event more

-- a step that doesn't touch the index leaves what is lacking
lacks_same : (s i : ℕ) (looked : Option IndexWord) (since : List Act) (act : Act) → touches s i act ≡ false
    → lacks_touch s i looked (since ++ act ∷ []) ≡ lacks_touch s i looked since
lacks_same s i None since act elsewhere = refl
lacks_same s i (Some found) since act elsewhere =
    ap (λ b. found.pinned && not b)
    (has-more (touches s i) since act
    ∙ (ap (λ b. has (touches s i) since || b) elsewhere ∙ or-false (has (touches s i) since)))

-- nor does one that doesn't remove the key
removal_same : (s i : ℕ) (looked : Option IndexWord) (since : List Act) (act : Act) → removes s i act ≡ false
    → lacks_removal s i looked (since ++ act ∷ []) ≡ lacks_removal s i looked since
removal_same s i None since act elsewhere = refl
removal_same s i (Some found) since act elsewhere =
    ap (λ b. in_cancelled_set found.stage && not b)
    (has-more (removes s i) since act
    ∙ (ap (λ b. has (removes s i) since || b) elsewhere ∙ or-false (has (removes s i) since)))

-- what a caller knows after an act of its own that doesn't look at the index
knows_more : (st : State) (me : CallerNo) (act : Act) (s i : ℕ) (looked : Option IndexWord) (since : List Act)
    → Answers st me act
    → Knows (effect st me act) s i looked since → Knows (effect st me act) s i looked (since ++ act ∷ [])
knows_more st me act s i looked since answers knows = record {
  calm = knows.calm;
  key = knows.key;
  interest = subst (λ o. ForSome o (λ ops. ops ≡ (effect st me act).interest s i))
      (sym (first-more (interest_found s i) since act)) (by_found (first (interest_found s i) since) knows.interest);
  not_cancelled = by_removal (removes s i act) refl;
}
  where
    by_removal : (b : Bool) → removes s i act ≡ b → lacks_removal s i looked (since ++ act ∷ []) ≡ false
        → in_cancelled_set ((effect st me act).key s i) ≡ false
    by_removal true here whole = removed_now st me act s i here
    by_removal false here whole = knows.not_cancelled (sym (removal_same s i looked since act here) ∙ whole)

    by_found : (o : Option ℕ) → ForSome o (λ ops. ops ≡ (effect st me act).interest s i)
        → ForSome (option_or o (interest_found s i act)) (λ ops. ops ≡ (effect st me act).interest s i)
    by_found None known = λ ops same. interest_told st me act s i ops answers same
    by_found (Some found) known = known

knows_own : (l : Limits) (past : List Event) (e : Event) (n : CallerNo) (s i : ℕ) (looked : Option IndexWord)
    (since : List Act) → IsFit l → IsLegal l past → IsStep l past e
    → KnowsWhere n (state_after past) s i looked since
    → (found : Option IndexWord) → index_found s i e.act ≡ found
    → KnowsWhere n (effect (state_after past) e.caller e.act) s i (option_or found looked)
    (if is_some found then [] else since ++ e.act ∷ [])
knows_own l past e n s i looked since fit legal step before (Some found) told =
    λ alone not_entered untouched none_taken not_lacking.
    look_tells (state_after past) e.caller e.act s i found (legal-sound l past legal) step.answers few told
    (sym (and-true found.pinned) ∙ not_lacking)
  where
    few : (m : ℕ) → (state_after past).pinned s i m ≡ true → m < 64
    few m pin =
        let below : m < l.callers = (legal-within l past legal).pins s i m pin in
        let callers : l.callers ≤ 64 = fit.few_callers in
        omega arith
knows_own l past e n s i looked since fit legal step before None told =
    λ alone not_entered untouched none_taken not_lacking.
    let st : State = state_after past in
    let act : Act = e.act in
    let taken = or_parts (has (takes_bit s i) since) (takes_bit s i act)
    (sym (has-more (takes_bit s i) since act) ∙ none_taken) in
    let elsewhere : touches s i act ≡ false = false_from_ne_true (touches s i act)
    (λ touching. both_ways ((effect st e.caller act).touched s i) (touched_now st e.caller act s i touching) untouched) in
    let out : st.entered s ≡ false = not_entered_before st e.caller act s not_entered in
    knows_more st e.caller act s i looked since step.answers
    (knows_on l (mine e.caller past) st e.caller act s i looked since step.condition step.answers
    (legal-sound l past legal) out untouched
    (before (alone_before st e.caller n act s step.answers alone) out
    (untouched_before st e.caller act s i step.answers untouched taken.1) taken.0
    (sym (lacks_same s i looked since act elsewhere) ∙ not_lacking)))

knows_other : (l : Limits) (past : List Event) (e : Event) (n : CallerNo) (s i : ℕ) (looked : Option IndexWord)
    (since : List Act) → IsLegal l past → IsStep l past e → is_by n e ≡ false
    → KnowsWhere n (state_after past) s i looked since
    → KnowsWhere n (effect (state_after past) e.caller e.act) s i looked since
knows_other l past e n s i looked since legal step by before =
    λ alone not_entered untouched none_taken not_lacking.
    let st : State = state_after past in
    let act : Act = e.act in
    let out : st.entered s ≡ false = not_entered_before st e.caller act s not_entered in
    let not_taken : takes_bit s i act ≡ false = false_from_ne_true (takes_bit s i act)
    (λ takes. both_ways (e.caller.0 == n.0)
    (eq-eqb e.caller.0 n.0 (alone_before st e.caller n act s step.answers alone e.caller
    (taker_has_list l (mine e.caller past) st e.caller act s i step.condition takes))) by) in
    knows_on l (mine e.caller past) st e.caller act s i looked since step.condition step.answers
    (legal-sound l past legal) out untouched
    (before (alone_before st e.caller n act s step.answers alone) out
    (untouched_before st e.caller act s i step.answers untouched not_taken) none_taken not_lacking)

known : (l : Limits) (n : CallerNo) (s i : ℕ) → IsFit l → (events : List Event) → IsLegal l events
    → KnowsWhere n (state_after events) s i (last (index_found s i) (mine n events)) (since_looked s i (mine n events))
known l n s i fit =
    legal_induction l (λ evs. KnowsWhere n (state_after evs) s i (last (index_found s i) (mine n evs))
    (since_looked s i (mine n evs)))
    (λ alone not_entered untouched none_taken not_lacking. record {
      calm = λ m. refl;
      key = refl;
      interest = λ ops none. absurd cc;
      not_cancelled = λ whole. refl;
    }) each
  where
    each : (past : List Event) (e : Event) → IsLegal l past → IsStep l past e
        → KnowsWhere n (state_after past) s i (last (index_found s i) (mine n past)) (since_looked s i (mine n past))
        → KnowsWhere n (state_after (past ++ e ∷ [])) s i (last (index_found s i) (mine n (past ++ e ∷ [])))
        (since_looked s i (mine n (past ++ e ∷ [])))
    each past e legal step before =
        subst (λ st. KnowsWhere n st s i (last (index_found s i) (mine n (past ++ e ∷ [])))
        (since_looked s i (mine n (past ++ e ∷ [])))) (sym (state_after-more past e)) (by_caller (is_by n e) refl)
      where
        after : State
        after = effect (state_after past) e.caller e.act

        looked : List Act → Option IndexWord
        looked own = last (index_found s i) own

        by_caller : (b : Bool) → is_by n e ≡ b
            → KnowsWhere n after s i (looked (mine n (past ++ e ∷ []))) (since_looked s i (mine n (past ++ e ∷ [])))
        by_caller true by =
            subst (λ own. KnowsWhere n after s i (looked own) (since_looked s i own)) (sym (mine-own n past e by))
            (subst (λ o. KnowsWhere n after s i o (since_looked s i (mine n past ++ e.act ∷ [])))
            (sym (last-more (index_found s i) (mine n past) e.act))
            (subst (λ since. KnowsWhere n after s i (option_or (index_found s i e.act) (looked (mine n past))) since)
            (sym (since_from-more (λ act. is_some (index_found s i act)) (mine n past) e.act))
            (knows_own l past e n s i (looked (mine n past)) (since_looked s i (mine n past)) fit legal step before
            (index_found s i e.act) refl)))
        by_caller false by =
            subst (λ own. KnowsWhere n after s i (looked own) (since_looked s i own)) (sym (mine-other n past e by))
            (knows_other l past e n s i (looked (mine n past)) (since_looked s i (mine n past)) legal step by before)

-- ---- the law

-- the look found a valid key, whose interest set wasn't found since
abbrev lacks_interest : Option IndexWord → Option ℕ → Bool
lacks_interest None interest = false
lacks_interest (Some found) interest = is_valid found.stage && not (is_some interest)

serial_in : Option ValidKey → ℕ
serial_in None = 0
serial_in (Some k) = k.serial

channel_in : Option ValidKey → ChanNo
channel_in None = record { 0 = 0 }
channel_in (Some k) = k.channel

entry_is : (st : State) (s i : ℕ) (looked : Option IndexWord) (interest : Option ℕ)
    → valid_key (st.key s i) ≡ valid_found looked → ForSome interest (λ ops. ops ≡ st.interest s i)
    → lacks_interest looked interest ≡ false
    → entry_by looked interest ≡ entry_at st s i
unfolding channel_in serial_in
entry_is st s i None interest same had finished = by_test (is_valid (st.key s i)) same
  where
    by_test : (b : Bool)
        → if◌then◌else◌ {A = Option ValidKey} b (Some (record { serial = (st.key s i).serial; channel = (st.key s i).chan })) None ≡ None
        → None ≡ if◌then◌else◌ {A = Option ListEntry} b (Some (list_entry (st.key s i) (st.interest s i))) None
    by_test true same' = absurd (cc same')
    by_test false same' = refl
entry_is st s i (Some found) interest same had finished =
    by_test (is_valid found.stage) (is_valid (st.key s i)) interest same had finished
  where
    key : ValidKey
    key = record { serial = (st.key s i).serial; channel = (st.key s i).chan }

    of_found : ValidKey
    of_found = record { serial = found.stage.serial; channel = found.stage.chan }

    made : ℕ → ChanNo → ℕ → Option ListEntry
    made serial channel ops = Some (record { serial = serial; channel = channel; interest = ops })

    by_test : (b now : Bool) (o : Option ℕ)
        → if◌then◌else◌ {A = Option ValidKey} now (Some key) None ≡ if◌then◌else◌ {A = Option ValidKey} b (Some of_found) None
        → ForSome o (λ ops. ops ≡ st.interest s i) → (b && not (is_some o)) ≡ false
        → if◌then◌else◌ {A = Option ListEntry} b (option_map (list_entry found.stage) o) None
        ≡ if◌then◌else◌ {A = Option ListEntry} now (Some (list_entry (st.key s i) (st.interest s i))) None
    by_test false false o same' had' finished' = refl
    by_test false true o same' had' finished' = absurd (cc same')
    by_test true false o same' had' finished' = absurd (cc same')
    by_test true true None same' had' finished' = absurd (cc finished')
    by_test true true (Some ops) same' had' finished' =
        ap (λ q. made q found.stage.chan ops) (sym (ap serial_in same'))
        ∙ (ap (λ c. made (st.key s i).serial c ops) (sym (ap channel_in same'))
        ∙ ap (made (st.key s i).serial (st.key s i).chan) (had' ops refl))

-- where nothing is owed after the last look, nothing is lacking
not_half : (s i : ℕ) (since : List Act) (looked : Option IndexWord) → is_half_done s i since looked ≡ false
    → (lacks_touch s i looked since ≡ false) × (lacks_removal s i looked since ≡ false)
    × (lacks_interest looked (first (interest_found s i) since) ≡ false)
not_half s i since None whole = (refl, refl, refl)
not_half s i since (Some found) whole =
    let unpinned : Bool = found.pinned && not (has (touches s i) since) in
    let kept : Bool = in_cancelled_set found.stage && not (has (removes s i) since) in
    let both = or_parts (unpinned || kept) (is_valid found.stage && not (is_some (first (interest_found s i) since))) whole in
    let first = or_parts unpinned kept both.0 in
    (first.0, first.1, both.1)

pub lists_are_right : ListsAreRight
lists_are_right l n s i events fit legal had not_entered untouched not_owed =
    let own : List Act = mine n events in
    let looked : Option IndexWord = last (index_found s.0 i) own in
    let since : List Act = since_looked s.0 i own in
    let st : State = state_after events in
    let both = or_parts (has (takes_bit s.0 i) since) (is_half_done s.0 i since looked) not_owed in
    let whole = not_half s.0 i since looked both.1 in
    let knows = known l n s.0 i fit events legal (λ m its. one_holder m n (st.lister s.0) its had) not_entered untouched
    both.0 whole.0 in
    record {
      stands = entry_is st s.0 i looked (first (interest_found s.0 i) since) knows.key knows.interest whole.2;
      not_cancelled = knows.not_cancelled whole.1;
      unchanging = knows.calm;
    }
