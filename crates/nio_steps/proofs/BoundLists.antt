-- The bound on the steps of a selection by the caller that has the selector's list.
use Rattle.std.proofs.Common.{◌≡◌, ℕ, ◌+◌, ◌*◌, ◌<◌, ◌≤◌, nat_lt, Bool, true, false, Some, List}
use Rattle.std.proofs.Common.{[], ◌∷◌, ◌++◌, length, map, refl, ap, sym, ◌∙◌, subst, append_assoc, eq-eqb, arith}
use Rattle.std.specs.List.{All, Contains}
use Rattle.std.proofs.Math.Nat.{mul-le-mul_left, mul-add}
use Rattle.std.proofs.lemmas.Bool.{and_parts, or_from}
use Rattle.std.proofs.lemmas.List.{length-append}
use Rattle.std.proofs.lemmas.List.Elements.{All-weaker, All-contains_itself}
use Rattle.std.proofs.lemmas.List.Folds.{list_any-append}
use Rattle.nio_base.specs.Numbers.{last_serial}
use Rattle.nio_base.specs.declared.limits.Limits.{Limits}
use Rattle.nio_base.specs.declared.numbers.CallerNo.{CallerNo}
use Rattle.nio_base.specs.declared.numbers.SelNo.{SelNo}
use Rattle.nio_history.proofs.Legal.{legal_beginning}
use Rattle.nio_history.proofs.OneMore.{mine-append}
use Rattle.nio_history.specs.Answers.{count_below}
use Rattle.nio_history.specs.Histories.{state_after, mine, event_of, IsLegal}
use Rattle.nio_history.specs.Lists.{takes_bit}
use Rattle.nio_history.specs.OwnEvents.{has, count}
use Rattle.nio_history.specs.Pins.{removes}
use Rattle.nio_history.specs.Questions.{answer_of}
use Rattle.nio_history.specs.Sets.{fits, in_key_set, in_cancelled_set, is_valid}
use Rattle.nio_history.specs.declared.act.Act.{Act}
use Rattle.nio_history.specs.declared.act.Act.TheVariants.{BeginLook, LookKeys}
use Rattle.nio_history.specs.declared.event.Event.{Event}
use Rattle.nio_history.specs.declared.found.IndexWord.{IndexWord}
use Rattle.nio_history.specs.declared.found.Stage.{Stage}
use Rattle.nio_steps.proofs.BeginLaws.{Begun}
use Rattle.nio_steps.proofs.BoundEvents.{HadKey, had_below}
use Rattle.nio_steps.proofs.BoundMarks.{acts_in}
use Rattle.nio_steps.proofs.BoundParts.{Whole, InHistory, begun, told, begin_cut, lengths, cut, legal_window, begun_there}
use Rattle.nio_steps.proofs.BoundParts.{none_gives, marks_few}
use Rattle.nio_steps.proofs.CountsBelow.{below-more, below-one, counts-more, counts-later}
use Rattle.nio_steps.proofs.Listing.{Puts, always_puts, always_remove}
use Rattle.nio_steps.proofs.OwnActs.{PartedOwn, mine-own_first}
use Rattle.nio_steps.proofs.StoodMoments.{IsOpened, key-stood, opened-at}
use Rattle.nio_steps.proofs.ValidKeys.{valid_in_set}
use Rattle.nio_steps.proofs.SelectionLaws.{removes_none}
use Rattle.nio_steps.proofs.ToldParts.{CutAtKeys}
use Rattle.nio_steps.proofs.Touched.{TouchedTurns, always_touched, always_taken}
use Rattle.nio_steps.proofs.Walks.{Always, always_if, always_bind, always_weaker, always_run}
use Rattle.nio_steps.specs.Bound.{unselects}
use Rattle.nio_steps.specs.ChannelCalls.{words_below}
use Rattle.nio_steps.specs.ListLaws.{finds_touched, count_taken, count_touched, count_told}
use Rattle.nio_steps.specs.ListLaws.{ListedSelectionIsBounded}
use Rattle.nio_steps.specs.Lists.{KnowsList}
use Rattle.nio_steps.specs.Looking.{without_index, list_valid, list_on, list_over, list_word}
use Rattle.nio_steps.specs.Looking.{remove_cancelled, remove_if_cancelled, remove_below}
use Rattle.nio_steps.specs.Plan.{Plan, reply, ◌>>◌, when}
use Rattle.nio_steps.specs.Runs.{Completes}
use Rattle.nio_steps.specs.SelectCalls.{Selection, Poll}
use Rattle.nio_steps.specs.Steps.{put_free, touch, index_in}
use Rattle.nio_steps.specs.Sweeps.{sweep_to}
use Rattle.nio_steps.specs.declared.looked.LookedKey.{LookedKey}

-- ---- at most four acts at each index whose bit was taken

module _ (s : SelNo) (i : ℕ) where
  touch_few : (pinned : Bool) → Always (λ acts _. length acts ≤ 1) (when pinned (touch s i))
  touch_few true = λ act asks. omega arith
  touch_few false = omega arith

  on_few : (known : List LookedKey) (stage : Stage) → Always (λ acts _. length acts ≤ 2) (list_on s i known stage)
  on_few known stage =
      always_if (λ acts _. length acts ≤ 2) (in_cancelled_set stage)
      (remove_cancelled s i stage >> reply (without_index i known)) _
      (λ _ remove asks. always_bind (λ acts _. Puts s i acts) (λ acts _. length (remove ∷ acts) ≤ 2)
      (when (nat_lt stage.serial last_serial) (put_free s i)) (λ _. reply (without_index i known))
      (always_puts s i stage)
      (λ acts _ puts. let all = length-append acts [] in omega (arith, all, puts.few)))
      (λ _. always_if (λ acts _. length acts ≤ 2) (is_valid stage) (list_valid s i stage known)
      (reply (without_index i known)) (λ _ interest asks. omega arith) (λ _. omega arith))

  list_few : (known : List LookedKey) → Always (λ acts _. length acts ≤ 4) (list_over s i known)
  list_few known = λ look asks.
      let found : IndexWord = index_in (answer_of look) in
      always_bind (λ acts _. length acts ≤ 1) (λ acts _. length (look ∷ acts) ≤ 4) (when found.pinned (touch s i))
      (λ _. list_on s i known found.stage) (touch_few found.pinned)
      (λ touching _ one. always_weaker (λ acts _. length acts ≤ 2) (λ acts _. length (look ∷ (touching ++ acts)) ≤ 4)
      (list_on s i known found.stage)
      (λ acts _ two. let all = length-append touching acts in omega (arith, one, two, all))
      (on_few known found.stage))

-- ---- at most so many acts for each index that was found touched

module _ {A : Type 0} (s : SelNo) (shows : ℕ → Act → Bool) (f : ℕ → A → Plan A) (most : ℕ)
    (few : (i : ℕ) (x : A) → Always (λ acts _. length acts ≤ most) (f i x)) where
  abbrev shown_by : List Act → ℕ → Bool
  shown_by acts k = has (shows k) acts

  abbrev Bounded : ℕ → ℕ → List Act → A → Type 0
  Bounded w k acts x = length acts ≤ w + most * count_below k (shown_by acts)

  shown-more : (k : ℕ) (acts more : List Act)
      → most * count_below k (shown_by acts) ≤ most * count_below k (shown_by (acts ++ more))
  shown-more k acts more = mul-le-mul_left most (counts-more shows k acts more)

  one-word : (w k : ℕ) (acts : List Act) (x : A) (act : Act) → Bounded w k acts x
      → Bounded (w + 1) k (acts ++ act ∷ []) x
  one-word w k acts x act here =
      let more = shown-more k acts (act ∷ []) in
      let all = length-append acts (act ∷ []) in
      omega (arith, here, more, all)

  bounded-turns : TouchedTurns s shows f Bounded
  bounded-turns = record {
    looks = λ w k j acts x act asks here. one-word w k acts x act here;
    takes = λ w k j acts x act asks here. one-word w k acts x act here;
    leaves = λ w k acts x here. omega (arith, here);
    at = λ w k acts x found here. always_weaker (λ ys _. length ys ≤ most) (λ ys y. Bounded w (k + 1) (acts ++ ys) y)
        (f k x)
        (λ ys y few'.
        let one = ap (λ (c : ℕ). most * c) (below-one (shown_by acts) k found)
        ∙ mul-add most (count_below k (shown_by acts)) 1 in
        let more = shown-more (k + 1) acts ys in
        let all = length-append acts ys in
        omega (arith, here, few', one, more, all)) (few k x);
    passes = λ w k acts x here.
        let more = mul-le-mul_left most (below-more (shown_by acts) k) in
        omega (arith, here, more);
  }

-- ---- how many steps the two sweeps are

module _ (s : SelNo) where
  taken_few : (words : ℕ) (known looked : List LookedKey) (over : List Act)
      → Completes (sweep_to words 0 (list_word s) known) over looked
      → length over ≤ 2 * words + 4 * count_taken s words over
  taken_few words known looked over run =
      always_run (Bounded s (takes_bit s.0) (list_over s) 4 (list_few s) (2 * words) (64 * words))
      (sweep_to words 0 (list_word s) known) over looked
      (always_taken s (Bounded s (takes_bit s.0) (list_over s) 4 (list_few s))
      (bounded-turns s (takes_bit s.0) (list_over s) 4 (list_few s)) words known (omega arith)) run

  remove_few : (i : ℕ) (x : Unit {0}) → Always (λ acts _. length acts ≤ 3) (remove_if_cancelled s i)
  remove_few i x =
      always_remove s i (λ acts. length acts ≤ 3)
      (λ acts turn. let all = ap length turn.parts in omega (arith, all, turn.is_put.few))
      (λ acts turn. let all = ap length turn.parts in omega (arith, all))

  touched_few : (mark : ℕ) (sweeps : List Act) → Completes (remove_below s mark true) sweeps tt
      → length sweeps ≤ words_below mark + 3 * count_touched s (words_below mark) sweeps
  touched_few mark sweeps run =
      let f = λ (i : ℕ) (_ : Unit {0}). remove_if_cancelled s i in
      let words = words_below mark in
      always_run (Bounded s (finds_touched s.0) f 3 remove_few words (64 * words)) (remove_below s mark true) sweeps tt
      (always_touched s f (Bounded s (finds_touched s.0) f 3 remove_few)
      (bounded-turns s (finds_touched s.0) f 3 remove_few) words tt (omega arith)) run

-- ---- a whole selection

module _ (l : Limits) (n : CallerNo) (start opening window : List Event) (known : List LookedKey)
    (selection : Selection) (poll : Poll) (whole : Whole (Some known) selection poll)
    (there : InHistory l n (start ++ opening) window (Some known) selection poll whole)
    (knows : KnowsList l n start selection.selector known) (own_opening : mine n opening ≡ whole.first) where
  abbrev s : SelNo
  s = selection.selector

  abbrev look : Event
  look = event_of n (BeginLook s whole.found)

  abbrev first_part : Begun s selection.mode (Some known) (whole.first ++ BeginLook s whole.found ∷ whole.second) selection
  first_part = begun (Some known) selection poll whole

  abbrev end_part : CutAtKeys selection poll whole.third whole.mark whole.fourth
  end_part = told (Some known) selection poll whole

  abbrev place : PartedOwn n window (whole.second ++ whole.between) whole.third
  place = cut l n (start ++ opening) window (Some known) selection poll whole there

  abbrev opened : List Event
  opened = opening ++ look ∷ []

  joined : (start ++ opening) ++ look ∷ [] ≡ start ++ opened
  joined = append_assoc start opening (look ∷ [])

  legal_there : IsLegal l (((start ++ opening) ++ look ∷ []) ++ window)
  legal_there = legal_window l n (start ++ opening) window (Some known) selection poll whole there

  is_opened : IsOpened l n start opened place.past s known selection.bound selection.looked whole.between
  is_opened =
      let parts = begin_cut (Some known) selection poll whole in
      let to_look = (start ++ opening) ++ look ∷ [] in
      let split : to_look ++ window ≡ (to_look ++ place.past) ++ place.later
      = ap (λ es. to_look ++ es) place.parts ∙ sym (append_assoc to_look place.past place.later) in
      let legal = legal_beginning l (to_look ++ place.past) place.later (subst (IsLegal l) split legal_there) in
      opened-at l n start opened place.past s selection.mode known
      (whole.first ++ BeginLook s whole.found ∷ whole.second) selection whole.between first_part
      (subst (λ es. IsLegal l (es ++ place.past)) joined legal) knows
      (mine-append n opening (look ∷ [])
      ∙ (ap (λ xs. mine n opening ++ xs) (mine-own_first n look [] (eq-eqb n.0 n.0 refl))
      ∙ (ap (λ xs. xs ++ BeginLook s whole.found ∷ []) (own_opening ∙ parts.0)
      ∙ ap (λ act. first_part.gate ∷ first_part.take ∷ act ∷ []) parts.1)))
      (place.mine_past ∙ ap (λ xs. xs ++ whole.between) parts.2)

  -- the key of each looked key was there before the caller tells, since it stood there after the selection had begun
  looked_had : All (λ entry.
      HadKey n ((start ++ opening) ++ look ∷ []) place.past s entry.index × (entry.index < l.keys)) selection.looked
  looked_had =
      All-weaker (Contains selection.looked)
      (λ entry. HadKey n ((start ++ opening) ++ look ∷ []) place.past s entry.index × (entry.index < l.keys))
      (λ entry is_looked.
      let key = had entry is_looked in (
        key,
        had_below l n ((start ++ opening) ++ look ∷ []) window s there.fit legal_there
            (begun_there l n (start ++ opening) window (Some known) selection poll whole there)
            (none_gives l n (start ++ opening) window (Some known) selection poll whole there) entry.index place.past
            place.later place.parts key,
      )) selection.looked (All-contains_itself selection.looked)
    where
      had : (entry : LookedKey) → Contains selection.looked entry
          → HadKey n ((start ++ opening) ++ look ∷ []) place.past s entry.index
      had entry is_looked =
          let i = entry.index in
          let then = (key-stood l n start opened place.past s known selection.bound selection.looked whole.between
          is_opened entry is_looked).valid in
          let k = (state_after ((start ++ opened) ++ then.past)).key s.0 i in
          record {
            earlier = then.past;
            later = then.rest;
            parts = then.parts;
            stood = ap (λ es. in_key_set ((state_after (es ++ then.past)).key s.0 i)) joined
                ∙ (and_parts (fits k entry.serial) (in_key_set k)
                (valid_in_set k entry.serial then.fact.valid)).1;
            spared = ap (has (removes s.0 i)) then.own
                ∙ (list_any-append (removes s.0 i) then.acts whole.between
                ∙ or_from _ _ then.spares (removes_none s.0 i whole.between whole.unremoved));
          }

  bounded : length (whole.first ++ BeginLook s whole.found ∷ whole.second)
      + length (whole.third ++ LookKeys s whole.mark ∷ whole.fourth)
      ≤ 9 + 2 * words_below selection.bound + words_below whole.mark
      + 4 * count_taken s (words_below selection.bound) whole.second
      + 3 * count_touched s (words_below whole.mark) whole.fourth + 2 * count_told selection poll
      + count (unselects s.0 l.keys) (map (λ e. e.act) window)
  unfolding acts_in
  bounded =
      let words = words_below selection.bound in
      let sweeps = end_part.ended.sweeps in
      let over = first_part.over in
      let all = lengths (Some known) selection poll whole in
      let marks = marks_few l n (start ++ opening) window (Some known) selection poll whole there l.keys looked_had in
      let taken = taken_few s words known selection.looked over first_part.runs_over in
      let touched = touched_few s whole.mark sweeps
      (subst (λ b. Completes (remove_below s whole.mark b) sweeps tt) first_part.listed end_part.runs_sweeps) in
      let first : count_taken s words over ≤ count_taken s words whole.second
      = subst (λ xs. count_taken s words over ≤ count_taken s words xs)
      (sym (begin_cut (Some known) selection poll whole).2)
      (counts-later (takes_bit s.0) (64 * words) (first_part.keys ∷ []) over) in
      let last : count_touched s (words_below whole.mark) sweeps ≤ count_touched s (words_below whole.mark) whole.fourth
      = subst (λ xs. count_touched s (words_below whole.mark) sweeps ≤ count_touched s (words_below whole.mark) xs)
      (sym end_part.after)
      (counts-more (finds_touched s.0) (64 * words_below whole.mark) sweeps
      (end_part.ended.wake ∷ end_part.ended.gives ∷ [])) in
      omega (arith, all, marks, taken, touched, first, last)

pub listed_selection_is_bounded : ListedSelectionIsBounded
listed_selection_is_bounded l n start opening window rest known selection poll answer found mark_then first second between
    third fourth legal knows own_opening own whole =
    bounded l n start opening window known selection poll
    (record {
      answer = answer;
      found = found;
      mark = mark_then;
      first = first;
      second = second;
      between = between;
      third = third;
      fourth = fourth;
      begins = whole.begins;
      tells = whole.tells;
      kept = whole.kept;
      unremoved = whole.unremoved;
    })
    (record { fit = knows.fit; rest = rest; legal = legal; own = own }) knows own_opening
