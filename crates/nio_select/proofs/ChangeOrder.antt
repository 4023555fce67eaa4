-- What a selection that is told does to keys comes in order.
use Rattle.std.proofs.Common.{◌≡◌, ℕ, zero, suc, ◌+◌, ◌*◌, ◌<◌, ◌≤◌, ◌==◌, nat_lt, Bool, true, false, not, ◌&&◌}
use Rattle.std.proofs.Common.{if◌then◌else◌, Option, Some, Result, Ok, Err, List, [], ◌∷◌, ◌++◌, length, map}
use Rattle.std.proofs.Common.{refl, ap, sym, ◌∙◌, subst, append_assoc, length-append, arith}
use Rattle.std.specs.Prelude.{is_ok}
use Rattle.std.specs.List.{All, AllPairs, Contains}
use Rattle.std.proofs.lemmas.List.{append-nil, map-append}
use Rattle.std.proofs.lemmas.List.Elements.{All-nil, All-contains, All-contains_itself, All-map, All-push, All-weaker}
use Rattle.std.proofs.lemmas.List.Elements.{Contains-append_left, Contains-push}
use Rattle.nio_base.specs.Numbers.{last_serial}
use Rattle.nio_base.specs.declared.numbers.SelNo.{SelNo}
use Rattle.nio_history.specs.Acts.{selected_with}
use Rattle.nio_history.specs.Lists.{ListEntry}
use Rattle.nio_history.specs.Questions.{Question, question_of, answer_of}
use Rattle.nio_history.specs.Sets.{in_cancelled_set}
use Rattle.nio_history.specs.declared.act.Act.{Act}
use Rattle.nio_history.specs.declared.act.Act.TheVariants.{Mark, Remove}
use Rattle.nio_history.specs.declared.found.Mark.{Mark as KeyMark}
use Rattle.nio_history.specs.declared.found.Stage.{Stage}
use Rattle.nio_history.specs.declared.why.Why.{Why}
use Rattle.nio_steps.proofs.Enlisted.{listed_there}
use Rattle.nio_steps.proofs.Listing.{removal}
use Rattle.nio_steps.proofs.Lists.{contains-middle, pairs-before, pairs-none, pairs-push}
use Rattle.nio_steps.proofs.Relisted.{as_listed}
use Rattle.nio_steps.proofs.Walks.{Always, always_bind, always_if, always_over, always_run, always_sweep, always_weaker}
use Rattle.nio_steps.specs.ChannelCalls.{words_below}
use Rattle.nio_steps.specs.KeyCalls.{has_bit}
use Rattle.nio_steps.specs.Lists.{listed_at}
use Rattle.nio_steps.specs.Looking.{not_free, over_touched, over_word, remove_below, remove_cancelled, remove_if_cancelled}
use Rattle.nio_steps.specs.Looking.{shown}
use Rattle.nio_steps.specs.Plan.{reply, ◌>>=◌, ◌>>◌, when}
use Rattle.nio_steps.specs.SelectCalls.{Selection, ToldReply, done, again, after_marks, end_selection, gains_nothing}
use Rattle.nio_steps.specs.SelectCalls.{is_again, mark_again, mark_entry, mark_looked, mark_told, one_if, told_bits}
use Rattle.nio_steps.specs.SelectCalls.{told_plan}
use Rattle.nio_steps.specs.Steps.{exchange_in, flag_in, gate_in, mark, mark_in, number_in, put_free, stage_in, word_in}
use Rattle.nio_steps.specs.Sweeps.{sweep_over}
use Rattle.nio_steps.specs.declared.looked.LookedKey.{LookedKey}
use Rattle.nio_select.specs.ChangeLaws.{AreInOrder, ChangesAreInOrder}
use Rattle.nio_select.specs.KeyChanges.{change_by, changes_by, marked_of, removed_key}
use Rattle.nio_select.specs.declared.changes.KeyChange.{KeyChange}
use Rattle.nio_select.proofs.Ended.{again_unmarked}
use Rattle.nio_select.proofs.KeyChanges.{changes-append}

-- ---- changes whose indexes rise

abbrev Rise : KeyChange → KeyChange → Type 0
Rise x y = x.index < y.index

abbrev Kind : Bool → KeyChange → Type 0
Kind removal c = c.removed ≡ removal

-- at most one change, at this index
data OneAt (i : ℕ) (removal : Bool) (changes : List KeyChange) : Type 0 where
  unchanged : changes ≡ [] → OneAt i removal changes
  changed : (c : KeyChange) → changes ≡ c ∷ [] → c.index ≡ i → Kind removal c → OneAt i removal changes

-- changes at some of these indexes and of indexes below `base`
record Risen (base : ℕ) (past : List ℕ) (removal : Bool) (changes : List KeyChange) : Type 0 where
  kind : All (Kind removal) changes
  below : (k : ℕ) → base ≤ k → All (λ i. i < k) past → All (λ c. c.index < k) changes
  rise : AllPairs Rise changes

risen-none : (removal : Bool) → Risen 0 [] removal []
risen-none removal = record {
  kind = All-nil (Kind removal);
  below = λ k low each. All-nil (λ c. c.index < k);
  rise = pairs-none Rise;
}

risen-next : (base i : ℕ) (past : List ℕ) (removal : Bool) (changes new : List KeyChange) → base ≤ i
    → All (λ k. k < i) past → Risen base past removal changes → OneAt i removal new
    → Risen base (past ++ i ∷ []) removal (changes ++ new)
risen-next base i past removal changes new low after risen (unchanged is) =
    subst (Risen base (past ++ i ∷ []) removal) (sym (append-nil changes) ∙ ap (λ cs. changes ++ cs) (sym is))
    (record {
      kind = risen.kind;
      below = λ k above each. risen.below k above (front k each);
      rise = risen.rise;
    })
  where
    front : (k : ℕ) → All (λ n. n < k) (past ++ i ∷ []) → All (λ n. n < k) past
    front k each =
        All-weaker (Contains past) (λ n. n < k)
        (λ n there. All-contains (λ m. m < k) (past ++ i ∷ []) n each (Contains-append_left past (i ∷ []) n there)) past
        (All-contains_itself past)
risen-next base i past removal changes new low after risen (changed c is at kind) =
    subst (Risen base (past ++ i ∷ []) removal) (ap (λ cs. changes ++ cs) (sym is))
    (record {
      kind = All-push (Kind removal) changes c risen.kind kind;
      below = λ k above each. All-push (λ x. x.index < k) changes c (risen.below k above (front k each))
          (subst (λ (n : ℕ). n < k) (sym at) (All-contains (λ m. m < k) (past ++ i ∷ []) i each (Contains-push past i)));
      rise = pairs-push Rise changes c risen.rise
          (subst (λ (n : ℕ). All (λ x. x.index < n) changes) (sym at) (risen.below i low after));
    })
  where
    front : (k : ℕ) → All (λ n. n < k) (past ++ i ∷ []) → All (λ n. n < k) past
    front k each =
        All-weaker (Contains past) (λ n. n < k)
        (λ n there. All-contains (λ m. m < k) (past ++ i ∷ []) n each (Contains-append_left past (i ∷ []) n there)) past
        (All-contains_itself past)

-- ---- the indexes of one word

-- they rise, and are among the first n of the 64 indexes from 64 times j on
record AreInWord (j n : ℕ) (indexes : List ℕ) : Type 0 where
  rise : AllPairs (λ x y. x < y) indexes
  low : All (λ i. 64 * j ≤ i) indexes
  high : All (λ i. i < 64 * j + n) indexes

no_index : (j : ℕ) → AreInWord j 0 []
no_index j = record {
  rise = pairs-none (λ (x y : ℕ). x < y);
  low = All-nil (λ (i : ℕ). 64 * j ≤ i);
  high = All-nil (λ (i : ℕ). i < 64 * j + 0);
}

one_passed : (j n : ℕ) (indexes : List ℕ) → AreInWord j n indexes → AreInWord j (suc n) indexes
one_passed j n indexes within = record {
  rise = within.rise;
  low = within.low;
  high = All-weaker (λ i. i < 64 * j + n) (λ i. i < 64 * j + suc n) (λ i below. omega (arith, below)) indexes within.high;
}

one_more : (j n : ℕ) (indexes : List ℕ) → AreInWord j n indexes
    → AreInWord j (suc n) (indexes ++ (64 * j + n) ∷ [])
one_more j n indexes within = record {
  rise = pairs-push (λ x y. x < y) indexes (64 * j + n) within.rise within.high;
  low = All-push (λ i. 64 * j ≤ i) indexes (64 * j + n) within.low (omega arith);
  high = All-push (λ i. i < 64 * j + suc n) indexes (64 * j + n) (one_passed j n indexes within).high (omega arith);
}

one_if_found : (b : Bool) (j n : ℕ) (indexes : List ℕ) → AreInWord j n indexes
    → AreInWord j (suc n) (if b then indexes ++ (64 * j + n) ∷ [] else indexes)
one_if_found true j n indexes within = one_more j n indexes within
one_if_found false j n indexes within = one_passed j n indexes within

shown_in_word : (word j n : ℕ) → AreInWord j n (shown word j n)
unfolding shown
shown_in_word word j zero = no_index j
shown_in_word word j (suc n) = one_if_found (has_bit word n) j n (shown word j n) (shown_in_word word j n)

not_free_in_word : (word j bound n : ℕ) → AreInWord j n (not_free word j bound n)
unfolding not_free
not_free_in_word word j bound zero = no_index j
not_free_in_word word j bound (suc n) =
    one_if_found (nat_lt (64 * j + n) bound && not (has_bit word n)) j n (not_free word j bound n)
    (not_free_in_word word j bound n)

-- ---- acts

abbrev changes_keys : Question → Bool
changes_keys (Question.mark s i from told) = true
changes_keys (Question.remove s i) = true
changes_keys _ = false

mark_act : (s : SelNo) (i : ℕ) (from : KeyMark) (told : ℕ) (act : Act) → question_of act ≡ Question.mark s i from told
    → act ≡ Mark s i from told (exchange_in (answer_of act))
mark_act s i from told (Mark s' i' from' told' found) asks = cc asks
mark_act s i from told _ asks = absurd (cc asks)

no_changes : (changes : List KeyChange) → length changes ≡ 0 → changes ≡ []
no_changes [] is = refl
no_changes (c ∷ changes) is = absurd (omega (arith, is))

module _ (asked : List LookedKey) where
  -- ---- what changes nothing

  quiet : (act : Act) → changes_keys (question_of act) ≡ false → change_by asked act ≡ []
  quiet (Mark s i from told found) none = absurd (cc none)
  quiet (Remove s i found) none = absurd (cc none)
  quiet _ none = refl

  after_quiet : (act : Act) (acts : List Act) → changes_keys (question_of act) ≡ false
      → changes_by asked (act ∷ acts) ≡ changes_by asked acts
  after_quiet act acts none = ap (λ c. c ++ changes_by asked acts) (quiet act none)

  -- ---- removing

  abbrev Quiet : List Act → Unit {0} → Type 0
  Quiet acts u = changes_by asked acts ≡ []

  abbrev RemovesAt : ℕ → List Act → Unit {0} → Type 0
  RemovesAt i acts u = OneAt i true (changes_by asked acts)

  -- a key that is removed is put free, or not
  put_quiet : (s : SelNo) (i : ℕ) (stage : Stage) (look remove : Act) (c : KeyChange)
      → changes_by asked (look ∷ remove ∷ []) ≡ c ∷ [] → c.index ≡ i → Kind true c
      → Always (λ acts u. RemovesAt i (look ∷ remove ∷ acts) u)
      (when (nat_lt stage.serial last_serial) (put_free s i) >> reply tt)
  put_quiet s i stage look remove c is at kind =
      always_bind Quiet (λ acts u. RemovesAt i (look ∷ remove ∷ acts) u)
      (when (nat_lt stage.serial last_serial) (put_free s i)) (λ _. reply tt)
      (always_if Quiet (nat_lt stage.serial last_serial) (put_free s i >> reply tt) (reply tt)
      (λ _ put asks. after_quiet put [] (ap changes_keys asks)) (λ _. refl))
      (λ acts u none. changed c
      (changes-append asked (look ∷ remove ∷ []) (acts ++ [])
      ∙ (ap (λ cs. cs ++ changes_by asked (acts ++ [])) is
      ∙ ap (λ cs. c ∷ cs) (ap (changes_by asked) (append-nil acts) ∙ none))) at kind)

  removes-at : (s : SelNo) (i : ℕ) → Always (RemovesAt i) (remove_if_cancelled s i)
  removes-at s i look asks =
      always_if (λ acts u. RemovesAt i (look ∷ acts) u) (in_cancelled_set (stage_in (answer_of look)))
      (remove_cancelled s i (stage_in (answer_of look)) >> reply tt) (reply tt)
      (λ _ act asks'.
      let found : Stage = stage_in (answer_of act) in
      put_quiet s i (stage_in (answer_of look)) look act (removed_key i found)
      (after_quiet look (act ∷ []) (ap changes_keys asks)
      ∙ (append-nil (change_by asked act) ∙ ap (change_by asked) (removal s i act asks'))) refl refl)
      (λ _. unchanged (after_quiet look [] (ap changes_keys asks)))

  abbrev Removed : ℕ → List Act → Unit {0} → Type 0
  Removed base acts u = Risen base [] true (changes_by asked acts)

  -- over the indexes of a word, after a look at it
  module _ (s : SelNo) (j : ℕ) (indexes : List ℕ) (within : AreInWord j 64 indexes) (ys : List Act) (look : Act)
      (looks : changes_keys (question_of look) ≡ false) where
    abbrev Left : List ℕ → List Act → Unit {0} → Type 0
    Left past zs u = Risen (64 * j) past true (changes_by asked (ys ++ look ∷ zs))

    turn : (past : List ℕ) (i : ℕ) (later : List ℕ) (zs : List Act) (u : Unit {0}) → indexes ≡ past ++ i ∷ later
        → Left past zs u → Always (λ ws v. Left (past ++ i ∷ []) (zs ++ ws) v) (remove_if_cancelled s i)
    turn past i later zs u parts left =
        always_weaker (RemovesAt i) (λ ws v. Left (past ++ i ∷ []) (zs ++ ws) v) (remove_if_cancelled s i)
        (λ ws v one. subst (Risen (64 * j) (past ++ i ∷ []) true)
        (sym (changes-append asked (ys ++ look ∷ zs) ws) ∙ ap (changes_by asked) (append_assoc ys (look ∷ zs) ws))
        (risen-next (64 * j) i past true (changes_by asked (ys ++ look ∷ zs)) (changes_by asked ws) low after left one))
        (removes-at s i)
      where
        low : 64 * j ≤ i
        low =
            All-contains (λ k. 64 * j ≤ k) indexes i within.low
            (subst (λ xs. Contains xs i) (sym parts) (contains-middle past i later))

        after : All (λ k. k < i) past
        after = pairs-before (λ x y. x < y) past i later (subst (AllPairs (λ x y. x < y)) parts within.rise)

    first : Removed (64 * j) ys tt → Left [] [] tt
    first here =
        subst (Risen (64 * j) [] true)
        (sym (changes-append asked ys (look ∷ [])
        ∙ (ap (λ cs. changes_by asked ys ++ cs) (after_quiet look [] looks) ∙ append-nil (changes_by asked ys)))) here

    whole : (zs : List Act) → Left indexes zs tt → Removed (64 * (j + 1)) (ys ++ look ∷ zs) tt
    whole zs left = record {
      kind = left.kind;
      below = λ k above each. left.below k (omega (arith, above))
          (All-weaker (λ i. i < 64 * j + 64) (λ i. i < k) (λ i below. omega (arith, above, below)) indexes within.high);
      rise = left.rise;
    }

    over_indexes : Removed (64 * j) ys tt
        → Always (λ zs u. Removed (64 * (j + 1)) (ys ++ look ∷ zs) u)
        (sweep_over indexes (λ i _. remove_if_cancelled s i) tt)
    over_indexes here =
        always_weaker (Left indexes) (λ zs u. Removed (64 * (j + 1)) (ys ++ look ∷ zs) u)
        (sweep_over indexes (λ i _. remove_if_cancelled s i) tt) (λ zs u left. whole zs left)
        (always_over Left indexes (λ i _. remove_if_cancelled s i) tt (first here)
        (λ past i later zs u parts left. turn past i later zs u parts left))

  -- over all words below the mark
  removes_below : (s : SelNo) (mark : ℕ) (listed : Bool)
      → Always (Removed (64 * words_below mark)) (remove_below s mark listed)
  removes_below s mark true =
      always_sweep (λ j ys u. Removed (64 * j) ys u) (words_below mark) 0
      (over_touched s (λ i _. remove_if_cancelled s i)) tt (omega arith) (risen-none true)
      (λ j ys u low high here look asks. over_indexes s j (shown (word_in (answer_of look)) j 64)
      (shown_in_word (word_in (answer_of look)) j 64) ys look (ap changes_keys asks) here)
  removes_below s mark false =
      always_sweep (λ j ys u. Removed (64 * j) ys u) (words_below mark) 0
      (over_word s mark (λ i _. remove_if_cancelled s i)) tt (omega arith) (risen-none true)
      (λ j ys u low high here look asks. over_indexes s j (not_free (word_in (answer_of look)) j mark 64)
      (not_free_in_word (word_in (answer_of look)) j mark 64) ys look (ap changes_keys asks) here)

  -- ---- marking

  -- at most one mark, counted
  abbrev MarksAt : ℕ → List Act → ℕ → Type 0
  MarksAt i acts n = OneAt i false (changes_by asked acts) × (length (changes_by asked acts) ≡ n)

  module _ (s : SelNo) (i : ℕ) (e : ListEntry) (is : listed_at asked i ≡ Some e) where
    -- by these acts one mark was tried
    one_mark : (from : KeyMark) (told : ℕ) (found : Result (Unit {0}) KeyMark) (acts : List Act)
        → changes_by asked acts ≡ change_by asked (Mark s i from told found) → MarksAt i acts (one_if (is_ok found))
    one_mark from told (Ok u) acts same =
        let ready = (selected_with from told).ready in
        let its = same ∙ ap (λ (o : Option ListEntry). marked_of i o (Some ready)) is in (
          changed (record { index = i; serial = e.serial; channel = e.channel; ready = ready; removed = false }) its refl refl,
          ap length its,
        )
    one_mark from told (Err stands) acts same = (unchanged same, ap length same)

    marks-again : (told : ℕ) (look act : Act) (was : KeyMark) → changes_keys (question_of look) ≡ false
        → question_of act ≡ Question.mark s i was told → (found : Result (Unit {0}) KeyMark)
        → exchange_in (answer_of act) ≡ found → Always (λ acts n. MarksAt i (look ∷ act ∷ acts) n) (mark_again s i told found)
    marks-again told look act was looks asks (Ok u) found_is =
        let mark_is : act ≡ Mark s i was told (Ok u) = mark_act s i was told act asks
        ∙ ap (λ (r : Result (Unit {0}) KeyMark). Mark s i was told r) found_is in
        one_mark was told (Ok u) (look ∷ act ∷ [])
        (after_quiet look (act ∷ []) looks ∙ (append-nil (change_by asked act) ∙ ap (change_by asked) mark_is))
    marks-again told look act was looks asks (Err stands) found_is = λ second asks'.
        let mark_is : act ≡ Mark s i was told (Err stands) = mark_act s i was told act asks
        ∙ ap (λ (r : Result (Unit {0}) KeyMark). Mark s i was told r) found_is in
        one_mark stands told (exchange_in (answer_of second)) (look ∷ act ∷ second ∷ [])
        (after_quiet look (act ∷ second ∷ []) looks
        ∙ (ap (λ (a : Act). change_by asked a ++ (change_by asked second ++ [])) mark_is
        ∙ (append-nil (change_by asked second) ∙ ap (change_by asked) (mark_act s i stands told second asks'))))

    marks-told : (told : ℕ) → Always (MarksAt i) (mark_told s i told)
    marks-told told =
        always_if (MarksAt i) (told == 0) (reply 0) (mark_looked s i told) (λ _. (unchanged refl, refl))
        (λ _ look asks.
        let looks : changes_keys (question_of look) ≡ false = ap changes_keys asks in
        let was = mark_in (answer_of look) in
        always_if (λ acts n. MarksAt i (look ∷ acts) n) (gains_nothing was told) (reply 0)
        (mark s i was told >>= mark_again s i told)
        (λ _. (unchanged (after_quiet look [] looks), ap length (after_quiet look [] looks)))
        (λ _ act asks'. marks-again told look act was looks asks' (exchange_in (answer_of act)) refl))

  abbrev index_of : LookedKey → ℕ
  index_of e = e.index

  -- after the turns of these keys
  record Marks (past : List LookedKey) (acts : List Act) (count : ℕ) : Type 0 where
    risen : Risen 0 (map index_of past) false (changes_by asked acts)
    counted : length (changes_by asked acts) ≡ count

  module _ (s : SelNo) (pairs : List (ℕ × ℕ)) (rise : AllPairs (λ x y. x.index < y.index) asked) where
    marks-turn : (past : List LookedKey) (e : LookedKey) (later : List LookedKey) (ys : List Act) (count : ℕ)
        → asked ≡ past ++ e ∷ later → Marks past ys count
        → Always (λ zs n. Marks (past ++ e ∷ []) (ys ++ zs) n) (mark_entry s pairs e count)
    marks-turn past e later ys count parts left =
        always_bind (MarksAt e.index) (λ zs n. Marks (past ++ e ∷ []) (ys ++ zs) n)
        (mark_told s e.index (told_bits pairs e)) (λ marked. reply (count + marked))
        (marks-told s e.index (as_listed e)
        (listed_there asked e rise (subst (λ keys. Contains keys e) (sym parts) (contains-middle past e later)))
        (told_bits pairs e))
        (λ xs n marks.
        let all : changes_by asked (ys ++ (xs ++ [])) ≡ changes_by asked ys ++ changes_by asked xs
        = ap (λ acts. changes_by asked (ys ++ acts)) (append-nil xs) ∙ changes-append asked ys xs in
        let long = length-append (changes_by asked ys) (changes_by asked xs) in
        record {
          risen = subst (λ indexes. Risen 0 indexes false (changes_by asked (ys ++ (xs ++ []))))
              (sym (map-append index_of past (e ∷ [])))
              (subst (Risen 0 (map index_of past ++ e.index ∷ []) false) (sym all)
              (risen-next 0 e.index (map index_of past) false (changes_by asked ys) (changes_by asked xs) (omega arith) before
              left.risen marks.0));
          counted = ap length all ∙ omega (arith, long, left.counted, marks.1);
        })
      where
        before : All (λ k. k < e.index) (map index_of past)
        before =
            All-map (λ k. k < e.index) index_of past
            (pairs-before (λ x y. x.index < y.index) past e later (subst (AllPairs (λ x y. x.index < y.index)) parts rise))

    marks-all : Always (Marks asked) (sweep_over asked (mark_entry s pairs) 0)
    marks-all =
        always_over Marks asked (mark_entry s pairs) 0 (record { risen = risen-none false; counted = refl })
        marks-turn

-- ---- the whole

module _ (selection : Selection) (pairs : List (ℕ × ℕ)) (elapsed : Bool)
    (rise : AllPairs (λ x y. x.index < y.index) selection.looked) where
  abbrev changes_of : List Act → List KeyChange
  changes_of acts = changes_by selection.looked acts

  abbrev InOrder : List Act → ToldReply → Type 0
  InOrder acts answer = AreInOrder (changes_of acts) answer

  goes_on : (marks : List Act) (count : ℕ) (gate status : Act) → Marks selection.looked selection.looked marks count
      → count ≡ 0 → changes_keys (question_of gate) ≡ false → changes_keys (question_of status) ≡ false
      → InOrder (marks ++ gate ∷ status ∷ []) (again selection)
  goes_on marks count gate status left zero_is looks asks =
      let none : changes_of marks ≡ [] = no_changes (changes_of marks) (left.counted ∙ zero_is) in
      let all : changes_of (marks ++ gate ∷ status ∷ []) ≡ [] =
      changes-append selection.looked marks (gate ∷ status ∷ [])
      ∙ (ap (λ cs. cs ++ changes_of (gate ∷ status ∷ [])) none
      ∙ (after_quiet selection.looked gate (status ∷ []) looks ∙ after_quiet selection.looked status [] asks)) in
      record {
        marked = [];
        removed = [];
        parts = all;
        marks = All-nil (Kind false);
        removals = All-nil (Kind true);
        counted = refl;
        marks_rise = pairs-none Rise;
        removals_rise = pairs-none Rise;
        goes_on = λ next same. all;
      }

  ends : (marks : List Act) (count base : ℕ) (why : Why) (gate status keys : Act) (sweeps : List Act) (wake gives : Act)
      → Marks selection.looked selection.looked marks count
      → Removed selection.looked base sweeps tt → changes_keys (question_of gate) ≡ false
      → changes_keys (question_of status) ≡ false → changes_keys (question_of keys) ≡ false
      → changes_keys (question_of wake) ≡ false → changes_keys (question_of gives) ≡ false
      → InOrder (marks ++ gate ∷ status ∷ keys ∷ (sweeps ++ wake ∷ gives ∷ []))
      (done (record { count = count; why = why }))
  ends marks count base why gate status keys sweeps wake gives left gone looks asks finds ends_wake ends_turn = record {
    marked = changes_of marks;
    removed = changes_of sweeps;
    parts = changes-append selection.looked marks (gate ∷ status ∷ keys ∷ (sweeps ++ wake ∷ gives ∷ []))
        ∙ ap (λ cs. changes_of marks ++ cs)
        (after_quiet selection.looked gate (status ∷ keys ∷ (sweeps ++ wake ∷ gives ∷ [])) looks
        ∙ (after_quiet selection.looked status (keys ∷ (sweeps ++ wake ∷ gives ∷ [])) asks
        ∙ (after_quiet selection.looked keys (sweeps ++ wake ∷ gives ∷ []) finds
        ∙ (changes-append selection.looked sweeps (wake ∷ gives ∷ [])
        ∙ (ap (λ cs. changes_of sweeps ++ cs)
        (after_quiet selection.looked wake (gives ∷ []) ends_wake ∙ after_quiet selection.looked gives [] ends_turn)
        ∙ append-nil (changes_of sweeps))))));
    marks = left.risen.kind;
    removals = gone.kind;
    counted = left.counted;
    marks_rise = left.risen.rise;
    removals_rise = gone.rise;
    goes_on = λ next same. absurd (cc same);
  }

  told_in_order : Always InOrder (told_plan selection pairs elapsed)
  unfolding told_plan
  told_in_order =
      let s = selection.selector in
      let looked = selection.looked in
      always_bind (Marks looked looked) InOrder (sweep_over looked (mark_entry s pairs) 0) (after_marks selection elapsed)
      (marks-all looked s pairs rise)
      (λ marks count left gate asks_gate status asks_status.
      let looks : changes_keys (question_of gate) ≡ false = ap changes_keys asks_gate in
      let asks : changes_keys (question_of status) ≡ false = ap changes_keys asks_status in
      always_if (λ acts answer. InOrder (marks ++ gate ∷ status ∷ acts) answer)
      (is_again selection.mode count (gate_in (answer_of gate)) (flag_in (answer_of status)) elapsed)
      (reply (again selection)) (end_selection selection _)
      (λ goes. goes_on marks count gate status left
      (again_unmarked selection.mode count (gate_in (answer_of gate)) (flag_in (answer_of status)) elapsed goes) looks asks)
      (λ _ keys asks_keys.
      let mark = number_in (answer_of keys) in
      always_bind (Removed looked (64 * words_below mark))
      (λ acts answer. InOrder (marks ++ gate ∷ status ∷ keys ∷ acts) answer) (remove_below s mark selection.listed) _
      (removes_below looked s mark selection.listed)
      (λ sweeps u gone wake asks_wake gives asks_gives.
      ends marks count (64 * words_below mark) _ gate status keys sweeps wake gives left gone looks asks
      (ap changes_keys asks_keys) (ap changes_keys asks_wake) (ap changes_keys asks_gives))))

pub changes_are_in_order : ChangesAreInOrder
changes_are_in_order selection poll acts answer rise run =
    always_run (InOrder selection poll.pairs poll.elapsed rise) (told_plan selection poll.pairs poll.elapsed) acts answer
    (told_in_order selection poll.pairs poll.elapsed rise) run
