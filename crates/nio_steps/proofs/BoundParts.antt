-- The parts of a whole selection, with the list or without, and how many steps they are.
use Rattle.std.proofs.Common.{◌≡◌, ℕ, ◌+◌, ◌*◌, ◌<◌, ◌≤◌, true, false, eq-eqb, Option, Ok, List, [], ◌∷◌, ◌++◌, length, refl, ap, sym}
use Rattle.std.proofs.Common.{◌∙◌, subst, append_assoc, count_by, arith}
use Rattle.std.specs.List.{All}
use Rattle.std.proofs.lemmas.Bool.{or_from}
use Rattle.std.proofs.lemmas.List.{length-append}
use Rattle.std.proofs.lemmas.List.Folds.{list_any-append}
use Rattle.nio_base.specs.Limits.{IsFit}
use Rattle.nio_base.specs.declared.limits.Limits.{Limits}
use Rattle.nio_base.specs.declared.numbers.CallerNo.{CallerNo}
use Rattle.nio_base.specs.declared.numbers.SelNo.{SelNo}
use Rattle.nio_history.proofs.Legal.{legal_beginning}
use Rattle.nio_history.proofs.OneMore.{mine-append}
use Rattle.nio_history.specs.Conditions.{has_begun}
use Rattle.nio_history.specs.Histories.{state_after, mine, event_of, IsLegal}
use Rattle.nio_history.specs.OwnEvents.{has, count, gives_turn}
use Rattle.nio_history.specs.Questions.{answer_of}
use Rattle.nio_history.specs.Turns.{removes_on}
use Rattle.nio_history.specs.declared.act.Act.{Act}
use Rattle.nio_history.specs.declared.act.Act.TheVariants.{BeginLook, LookKeys}
use Rattle.nio_history.specs.declared.event.Event.{Event}
use Rattle.nio_history.specs.declared.found.GateWord.{GateWord}
use Rattle.nio_steps.proofs.BeginLaws.{Begun, begin-parts, cut_at_begin}
use Rattle.nio_steps.proofs.BoundEvents.{HadKey}
use Rattle.nio_steps.proofs.BoundMarks.{is_told, acts_in, count-parts, marks_bounded}
use Rattle.nio_steps.proofs.OwnActs.{PartedOwn, part_at, mine-own_first}
use Rattle.nio_steps.proofs.SelectionLaws.{marks-no_give, asks_give, not-gives}
use Rattle.nio_steps.proofs.StandLaws.{over-keeps, begun_since}
use Rattle.nio_steps.proofs.ToldParts.{CutAtKeys, cut_at_keys}
use Rattle.nio_steps.specs.Bound.{unselects}
use Rattle.nio_steps.specs.SelectCalls.{Selection, Begins, Poll, Tells, done}
use Rattle.nio_steps.specs.Steps.{gate_in}
use Rattle.nio_steps.specs.declared.looked.LookedKey.{LookedKey}
use Rattle.nio_steps.specs.declared.selected.Selected.{Selected}

-- the acts of a whole selection, as they are cut at its two looks
pub record Whole (known : Option (List LookedKey)) (selection : Selection) (poll : Poll) : Type 0 where
  pub answer : Selected
  pub found : GateWord
  pub mark : ℕ
  pub first : List Act
  pub second : List Act
  pub between : List Act
  pub third : List Act
  pub fourth : List Act
  pub begins : Begins selection.selector selection.mode known (first ++ BeginLook selection.selector found ∷ second)
      (Ok selection)
  pub tells : Tells selection poll (third ++ LookKeys selection.selector mark ∷ fourth) (done answer)
  pub kept : has (gives_turn selection.selector.0) between ≡ false
  pub unremoved : has (removes_on selection.selector.0) between ≡ false

module _ (known : Option (List LookedKey)) (selection : Selection) (poll : Poll) (whole : Whole known selection poll)
  where
    abbrev s : SelNo
    s = selection.selector

    abbrev look : Act
    look = BeginLook s whole.found

    pub begun : Begun s selection.mode known (whole.first ++ look ∷ whole.second) selection
    begun = begin-parts s selection.mode known (whole.first ++ look ∷ whole.second) selection whole.begins

    pub told : CutAtKeys selection poll whole.third whole.mark whole.fourth
    told = cut_at_keys selection poll whole.third whole.mark whole.fourth whole.answer whole.tells

    -- where the beginning is cut
    pub begin_cut : (whole.first ≡ begun.gate ∷ begun.take ∷ []) × (look ≡ begun.look)
        × (whole.second ≡ begun.keys ∷ begun.over)
    begin_cut =
        cut_at_begin s selection.mode known (whole.first ++ look ∷ whole.second) selection begun whole.first whole.found
        whole.second refl

    opens : whole.found.shut ≡ false
    opens = ap (λ act. (gate_in (answer_of act)).shut) begin_cut.1 ∙ begun.opens

    pub lengths : length (whole.first ++ look ∷ whole.second)
        + length (whole.third ++ LookKeys s whole.mark ∷ whole.fourth)
        ≡ 9 + length begun.over + length told.ended.marks + length told.ended.sweeps
    lengths =
        let one = ap length begun.parts in
        let two = length-append whole.third (LookKeys s whole.mark ∷ whole.fourth) in
        let three = ap length told.before ∙ length-append told.ended.marks (told.ended.gate ∷ told.ended.status ∷ []) in
        let four = ap length told.after ∙ length-append told.ended.sweeps (told.ended.wake ∷ told.ended.gives ∷ []) in
        omega (arith, one, two, three, four)

    keeps : has (gives_turn s.0) (whole.second ++ (whole.between ++ whole.third)) ≡ false
    keeps =
        let g = gives_turn s.0 in
        let over = over-keeps s selection.bound known begun.over selection.looked begun.runs_over in
        let of_second : has g whole.second ≡ false = ap (has g) begin_cut.2
        ∙ or_from _ _ (not-gives s.0 begun.keys (ap (asks_give s.0) begun.asks_keys)) over in
        let marks = marks-no_give s poll.pairs selection.looked told.ended.marks told.ended.marked
        told.ended.runs_marks in
        let of_third : has g whole.third ≡ false = ap (has g) told.before
        ∙ (list_any-append g told.ended.marks (told.ended.gate ∷ told.ended.status ∷ [])
        ∙ or_from _ _ marks
        (or_from _ _ (not-gives s.0 told.ended.gate (ap (asks_give s.0) told.ended.asks_gate))
        (or_from _ _ (not-gives s.0 told.ended.status (ap (asks_give s.0) told.ended.asks_status)) refl))) in
        list_any-append g whole.second (whole.between ++ whole.third)
        ∙ or_from _ _ of_second (list_any-append g whole.between whole.third ∙ or_from _ _ whole.kept of_third)

-- a whole selection of caller n in a history: after `past` it begins to look, and after `window` it looks at the keys'
-- high-water mark for its end
pub record InHistory (l : Limits) (n : CallerNo) (past window : List Event) (known : Option (List LookedKey))
    (selection : Selection) (poll : Poll) (whole : Whole known selection poll) : Type 0 where
  pub fit : IsFit l
  pub rest : List Event
  pub legal : IsLegal l
      (past ++ event_of n (BeginLook selection.selector whole.found)
      ∷ (window ++ event_of n (LookKeys selection.selector whole.mark) ∷ rest))
  pub own : mine n window ≡ whole.second ++ (whole.between ++ whole.third)

module _ (l : Limits) (n : CallerNo) (past window : List Event) (known : Option (List LookedKey))
    (selection : Selection) (poll : Poll) (whole : Whole known selection poll)
    (there : InHistory l n past window known selection poll whole) where
  abbrev marks : List Act
  marks = (told known selection poll whole).ended.marks

  abbrev start : List Event
  start = past ++ event_of n (look known selection poll whole) ∷ []

  -- where the caller tells
  pub cut : PartedOwn n window (whole.second ++ whole.between) whole.third
  cut =
      part_at n window (whole.second ++ whole.between) whole.third
      (there.own ∙ sym (append_assoc whole.second whole.between whole.third))

  pub legal_window : IsLegal l (start ++ window)
  legal_window =
      let e = event_of n (look known selection poll whole) in
      let later = event_of n (LookKeys selection.selector whole.mark) ∷ there.rest in
      let joined : past ++ e ∷ (window ++ later) ≡ ((past ++ e ∷ []) ++ window) ++ later
      = sym (append_assoc (past ++ e ∷ []) window later ∙ append_assoc past (e ∷ []) (window ++ later)) in
      legal_beginning l (start ++ window) later (subst (IsLegal l) joined there.legal)

  pub begun_there : has_begun (state_after start) n selection.selector ≡ true
  begun_there =
      let e = event_of n (look known selection poll whole) in
      begun_since l n start selection.selector (mine n past) whole.found []
      (legal_beginning l start window legal_window)
      (mine-append n past (e ∷ [])
      ∙ ap (λ acts. mine n past ++ acts) (mine-own_first n e [] (eq-eqb n.0 n.0 refl)))
      (opens known selection poll whole) refl

  pub none_gives : has (gives_turn selection.selector.0) (mine n window) ≡ false
  none_gives = ap (has (gives_turn selection.selector.0)) there.own ∙ keeps known selection poll whole

  -- where the index of each looked key is below the limit and had a key, which the caller didn't remove till it tells
  pub marks_few : (limit : ℕ)
      → All (λ entry. HadKey n start cut.past selection.selector entry.index × (entry.index < limit)) selection.looked
      → length marks
      ≤ 2 * count_by (is_told poll.pairs) selection.looked
      + count (unselects selection.selector.0 limit) (acts_in window)
  marks_few limit had =
      let s = selection.selector in
      let end = told known selection poll whole in
      let few = marks_bounded l n start window s there.fit legal_window begun_there none_gives limit poll.pairs
      selection.looked 0 end.ended.marked cut.past cut.later marks (end.ended.gate ∷ end.ended.status ∷ []) cut.parts
      (cut.mine_later ∙ end.before) end.ended.runs_marks had in
      let counted = count-parts (unselects s.0 limit) window cut.past cut.later cut.parts in
      omega (arith, few, counted)
