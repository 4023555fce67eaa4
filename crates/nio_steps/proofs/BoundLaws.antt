-- The bound on the steps of a selection without the list.
use Rattle.std.proofs.Common.{◌≡◌, ℕ, ◌+◌, ◌*◌, ◌<◌, ◌≤◌, Bool, true, None, List, [], ◌∷◌, ◌++◌, length, map}
use Rattle.std.proofs.Common.{ap, sym, ◌∙◌, subst, arith}
use Rattle.std.specs.List.{All, Contains}
use Rattle.std.proofs.lemmas.List.{length-append}
use Rattle.std.proofs.lemmas.List.Elements.{All-weaker, All-contains, All-contains_itself}
use Rattle.std.proofs.lemmas.List.Sums.{count_by-le-length}
use Rattle.nio_base.specs.declared.limits.Limits.{Limits}
use Rattle.nio_base.specs.declared.numbers.CallerNo.{CallerNo}
use Rattle.nio_base.specs.declared.numbers.SelNo.{SelNo}
use Rattle.nio_history.specs.Answers.{count_below}
use Rattle.nio_history.specs.Histories.{mine, event_of}
use Rattle.nio_history.specs.OwnEvents.{has, count}
use Rattle.nio_history.specs.Questions.{answer_of}
use Rattle.nio_history.specs.declared.act.Act.{Act}
use Rattle.nio_history.specs.declared.act.Act.TheVariants.{BeginLook, LookKeys}
use Rattle.nio_history.specs.declared.event.Event.{Event}
use Rattle.nio_steps.proofs.BeginLaws.{Begun}
use Rattle.nio_steps.proofs.BoundEvents.{HadKey, found_had}
use Rattle.nio_steps.proofs.BoundMarks.{acts_in, is_told}
use Rattle.nio_steps.proofs.BoundParts.{Whole, InHistory, begun, told, begin_cut, lengths, cut, legal_window, begun_there}
use Rattle.nio_steps.proofs.BoundParts.{none_gives, marks_few}
use Rattle.nio_steps.proofs.CountsBelow.{below-more, below-one, counts-more, counts-later}
use Rattle.nio_steps.proofs.Listing.{Turns, Removes, Passes, always_listed, always_look, always_remove}
use Rattle.nio_steps.proofs.LookedLaws.{FoundValid, found_valid, found_valid-after, found_valid-more}
use Rattle.nio_steps.proofs.OrderLaws.{looks_in_order}
use Rattle.nio_steps.proofs.SelectionLaws.{removes_none}
use Rattle.nio_steps.proofs.ToldParts.{CutAtKeys}
use Rattle.nio_steps.proofs.Walks.{always_run}
use Rattle.nio_steps.specs.Bound.{finds_not_free, unselects, count_not_free, SelectionIsBounded}
use Rattle.nio_steps.specs.ChannelCalls.{words_below}
use Rattle.nio_steps.specs.Looking.{over_not_free, look_over, looked_key, remove_if_cancelled, remove_below}
use Rattle.nio_steps.specs.Runs.{Completes}
use Rattle.nio_steps.specs.SelectCalls.{Selection, Poll}
use Rattle.nio_steps.specs.Steps.{stage_in, operations_in}
use Rattle.nio_steps.specs.declared.looked.LookedKey.{LookedKey}

-- ---- going over the indexes

module _ (s : SelNo) where
  abbrev listed : List Act → ℕ → Bool
  listed acts k = has (finds_not_free s.0 k) acts

  listed-one : (i : ℕ) (acts more : List Act) → listed acts i ≡ true
      → count_below i (listed acts) + 1 ≤ count_below (i + 1) (listed (acts ++ more))
  listed-one i acts more found =
      let one = below-one (listed acts) i found in
      let all = counts-more (finds_not_free s.0) (i + 1) acts more in
      omega (arith, one, all)

  removes-length : (i : ℕ) (acts : List Act) → Removes s i acts → length acts ≤ 3
  removes-length i acts turn = let all = ap length turn.parts in omega (arith, all, turn.is_put.few)

  passes-length : (i : ℕ) (acts : List Act) → Passes s i acts → length acts ≤ 1
  passes-length i acts turn = let all = ap length turn.parts in omega (arith, all)

  -- with two acts to come at each looked key, at most four for each index that was found not free
  abbrev Looks : ℕ → ℕ → List Act → List LookedKey → Type 0
  Looks w k acts looked = length acts + 2 * length looked ≤ w + 4 * count_below k (listed acts)

  looks-turns : (bound : ℕ) → Turns s bound (look_over s) Looks
  looks-turns bound = record {
    looks = λ j acts looked act asks here.
        let more = counts-more (finds_not_free s.0) (64 * j) acts (act ∷ []) in
        let all = length-append acts (act ∷ []) in
        omega (arith, here, more, all);
    at = λ w i acts looked within found here. always_look s i (λ xs y. Looks w (i + 1) (acts ++ xs) y) looked
        (λ xs turn.
        let one = listed-one i acts xs found in
        let all = length-append acts xs in
        omega (arith, here, one, all, removes-length i xs turn))
        (λ xs turn.
        let one = listed-one i acts xs found in
        let all = length-append acts xs in
        let few = ap length turn.parts in
        let entry = looked_key i (stage_in (answer_of turn.look)) (operations_in (answer_of turn.interest)) in
        let more = length-append looked (entry ∷ []) in
        omega (arith, here, one, all, few, more))
        (λ xs turn _.
        let one = listed-one i acts xs found in
        let all = length-append acts xs in
        omega (arith, here, one, all, passes-length i xs turn));
    passes = λ w j b word acts looked low there bit here.
        let more = below-more (listed acts) (64 * j + b) in
        omega (arith, here, more);
  }

  looks_bounded : (bound : ℕ) (over : List Act) (looked : List LookedKey)
      → Completes (over_not_free s bound (look_over s) []) over looked → Looks (words_below bound) bound over looked
  looks_bounded bound over looked run =
      always_run (Looks (words_below bound) bound) (over_not_free s bound (look_over s) []) over looked
      (always_listed s bound (look_over s) Looks (looks-turns bound) [] (omega arith)) run

  -- and at the end at most three
  abbrev Sweeps : ℕ → ℕ → List Act → Unit {0} → Type 0
  Sweeps w k acts u = length acts ≤ w + 3 * count_below k (listed acts)

  sweeps-turns : (mark : ℕ) → Turns s mark (λ i _. remove_if_cancelled s i) Sweeps
  sweeps-turns mark = record {
    looks = λ j acts u act asks here.
        let more = counts-more (finds_not_free s.0) (64 * j) acts (act ∷ []) in
        let all = length-append acts (act ∷ []) in
        omega (arith, here, more, all);
    at = λ w i acts u within found here. always_remove s i (λ xs. Sweeps w (i + 1) (acts ++ xs) tt)
        (λ xs turn.
        let one = listed-one i acts xs found in
        let all = length-append acts xs in
        omega (arith, here, one, all, removes-length i xs turn))
        (λ xs turn.
        let one = listed-one i acts xs found in
        let all = length-append acts xs in
        omega (arith, here, one, all, passes-length i xs turn));
    passes = λ w j b word acts u low there bit here.
        let more = below-more (listed acts) (64 * j + b) in
        omega (arith, here, more);
  }

  sweeps_bounded : (mark : ℕ) (sweeps : List Act)
      → Completes (over_not_free s mark (λ i _. remove_if_cancelled s i) tt) sweeps tt
      → Sweeps (words_below mark) mark sweeps tt
  sweeps_bounded mark sweeps run =
      always_run (Sweeps (words_below mark) mark) (over_not_free s mark (λ i _. remove_if_cancelled s i) tt) sweeps tt
      (always_listed s mark (λ i _. remove_if_cancelled s i) Sweeps (sweeps-turns mark) tt (omega arith)) run

-- ---- a whole selection

module _ (l : Limits) (n : CallerNo) (past window : List Event) (selection : Selection) (poll : Poll)
    (whole : Whole None selection poll) (there : InHistory l n past window None selection poll whole) where
  abbrev s : SelNo
  s = selection.selector

  abbrev first_part : Begun s selection.mode None (whole.first ++ BeginLook s whole.found ∷ whole.second) selection
  first_part = begun None selection poll whole

  abbrev end_part : CutAtKeys selection poll whole.third whole.mark whole.fourth
  end_part = told None selection poll whole

  -- the key of each looked key was there before the caller tells, since it was found valid
  looked_had : All (λ entry.
      HadKey n (past ++ event_of n (BeginLook s whole.found) ∷ [])
      (cut l n past window None selection poll whole there).past s entry.index × (entry.index < selection.bound))
      selection.looked
  looked_had =
      let start = past ++ event_of n (BeginLook s whole.found) ∷ [] in
      let order = looks_in_order s selection.mode (whole.first ++ BeginLook s whole.found ∷ whole.second) selection
      whole.begins in
      let place = cut l n past window None selection poll whole there in
      let own : mine n place.past ≡ (first_part.keys ∷ first_part.over) ++ whole.between = place.mine_past
      ∙ ap (λ acts. acts ++ whole.between) (begin_cut None selection poll whole).2 in
      All-weaker (Contains selection.looked) (λ entry. HadKey n start place.past s entry.index
      × (entry.index < selection.bound))
      (λ entry is_looked. (
        found_had l n start window s there.fit (legal_window l n past window None selection poll whole there)
            (begun_there l n past window None selection poll whole there)
            (none_gives l n past window None selection poll whole there) place.past place.later entry place.parts
            (subst (λ acts. FoundValid s acts entry) (sym own)
            (found_valid-more s (first_part.keys ∷ first_part.over) whole.between entry
            (removes_none s.0 entry.index whole.between whole.unremoved)
            (found_valid-after s (first_part.keys ∷ []) first_part.over entry
            (found_valid s selection.bound first_part.over selection.looked entry first_part.runs_over is_looked)))),
        All-contains (λ x. x.index < selection.bound) selection.looked entry order.below is_looked,
      )) selection.looked (All-contains_itself selection.looked)

  bounded : length (whole.first ++ BeginLook s whole.found ∷ whole.second)
      + length (whole.third ++ LookKeys s whole.mark ∷ whole.fourth)
      ≤ 9 + words_below selection.bound + words_below whole.mark + 4 * count_not_free s selection.bound whole.second
      + 3 * count_not_free s whole.mark whole.fourth + count (unselects s.0 selection.bound) (map (λ e. e.act) window)
  unfolding acts_in
  bounded =
      let bound = selection.bound in
      let sweeps = end_part.ended.sweeps in
      let all = lengths None selection poll whole in
      let marks = marks_few l n past window None selection poll whole there bound looked_had in
      let few = count_by-le-length (is_told poll.pairs) selection.looked in
      let looks = looks_bounded s bound first_part.over selection.looked first_part.runs_over in
      let swept = sweeps_bounded s whole.mark sweeps
      (subst (λ b. Completes (remove_below s whole.mark b) sweeps tt) first_part.listed end_part.runs_sweeps) in
      let found_first : count_below bound (listed s first_part.over) ≤ count_not_free s bound whole.second
      = subst (λ xs. count_below bound (listed s first_part.over) ≤ count_below bound (listed s xs))
      (sym (begin_cut None selection poll whole).2) (counts-later (finds_not_free s.0) bound (first_part.keys ∷ []) first_part.over) in
      let found_last : count_below whole.mark (listed s sweeps) ≤ count_not_free s whole.mark whole.fourth
      = subst (λ xs. count_below whole.mark (listed s sweeps) ≤ count_below whole.mark (listed s xs))
      (sym end_part.after)
      (counts-more (finds_not_free s.0) whole.mark sweeps (end_part.ended.wake ∷ end_part.ended.gives ∷ [])) in
      omega (arith, all, marks, few, looks, swept, found_first, found_last)

pub selection_is_bounded : SelectionIsBounded
selection_is_bounded l n past window rest selection poll answer found mark_then first second between third fourth fit
    legal own whole =
    bounded l n past window selection poll
    (record {
      answer = answer;
      found = found;
      mark = mark_then;
      first = first;
      second = second;
      between = between;
      third = third;
      fourth = fourth;
      begins = whole.begins;
      tells = whole.tells;
      kept = whole.kept;
      unremoved = whole.unremoved;
    })
    (record { fit = fit; rest = rest; legal = legal; own = own })
