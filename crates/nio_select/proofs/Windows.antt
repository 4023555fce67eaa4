-- The look with which a selection begins and the look at the high-water mark at its end, and what happens in between.
use Rattle.std.proofs.Common.{◌≡◌, ℕ, Ok, List, [], ◌∷◌, ◌++◌, refl, ap, sym, ◌∙◌, append_assoc}
use Rattle.std.proofs.Common.{Option}
use Rattle.nio_base.specs.declared.numbers.SelNo.{SelNo}
use Rattle.nio_history.specs.Histories.{event_of}
use Rattle.nio_history.specs.PassViews.{done_between}
use Rattle.nio_history.specs.Questions.{answer_of}
use Rattle.nio_history.specs.declared.act.Act.{Act}
use Rattle.nio_history.specs.declared.act.Act.TheVariants.{BeginLook, LookKeys}
use Rattle.nio_history.specs.declared.event.Event.{Event}
use Rattle.nio_history.specs.declared.found.GateWord.{GateWord}
use Rattle.nio_steps.proofs.BeginLaws.{begin-parts}
use Rattle.nio_steps.proofs.OwnActs.{Cut, cut_at}
use Rattle.nio_steps.proofs.StandLaws.{look-act}
use Rattle.nio_steps.proofs.ToldParts.{ended-parts}
use Rattle.nio_steps.specs.SelectCalls.{Selection, Begins, Poll, Tells, done}
use Rattle.nio_steps.specs.Steps.{gate_in, number_in}
use Rattle.nio_steps.specs.declared.looked.LookedKey.{LookedKey}
use Rattle.nio_steps.specs.declared.selected.Selected.{Selected}
use Rattle.nio_select.proofs.GoneOn.{done_in}
use Rattle.nio_steps.proofs.ListedBy.{keys-look}
use Rattle.nio_select.specs.Laws.{SelectionsHaveWindows, IsWindow}

-- ---- the two looks in the acts of the two calls

record HasLook (s : SelNo) (acts : List Act) : Type 0 where
  before : List Act
  found : GateWord
  later : List Act
  parts : acts ≡ before ++ BeginLook s found ∷ later

begin-look : (selection : Selection) (known : Option (List LookedKey)) (acts : List Act)
    → Begins selection.selector selection.mode known acts (Ok selection) → HasLook selection.selector acts
begin-look selection known acts run =
    let s = selection.selector in
    let first = begin-parts s selection.mode known acts selection run in
    record {
      before = first.gate ∷ first.take ∷ [];
      found = gate_in (answer_of first.look);
      later = first.keys ∷ first.over;
      parts = first.parts
          ∙ ap (λ x. first.gate ∷ first.take ∷ x ∷ first.keys ∷ first.over)
          (look-act s first.look first.asks_look);
    }

-- the look at the keys' high-water mark at the end
pub record HasMark (s : SelNo) (acts : List Act) : Type 0 where
  pub before : List Act
  pub mark : ℕ
  pub later : List Act
  pub parts : acts ≡ before ++ LookKeys s mark ∷ later

pub told-mark : (selection : Selection) (poll : Poll) (acts : List Act) (answer : Selected)
    → Tells selection poll acts (done answer) → HasMark selection.selector acts
told-mark selection poll acts answer run =
    let s = selection.selector in
    let ended = ended-parts selection poll acts answer run in
    let before = ended.marks ++ ended.gate ∷ ended.status ∷ [] in
    let later = ended.sweeps ++ ended.wake ∷ ended.gives ∷ [] in
    record {
      before = before;
      mark = number_in (answer_of ended.keys);
      later = later;
      parts = ended.parts ∙ ap (λ act. before ++ act ∷ later) (keys-look s ended.keys ended.asks_keys);
    }

-- ---- the window

pub selections_have_windows : SelectionsHaveWindows
selections_have_windows me before_begin after_begin before_told after_told selection poll answer known is =
    (ends.mark, window, it)
  where
    s : SelNo
    s = selection.selector

    look : HasLook s (done_between me before_begin after_begin)
    look = begin-look selection known (done_between me before_begin after_begin) is.begins.shape

    ends : HasMark s (done_between me before_told after_told)
    ends = told-mark selection poll (done_between me before_told after_told) answer is.tells.shape

    e : Event
    e = event_of me (BeginLook s look.found)

    e' : Event
    e' = event_of me (LookKeys s ends.mark)

    in_begin : List Event
    in_begin = is.begins.acts.history.goes_on.0

    begin_parts : before_begin.seen ++ in_begin ≡ after_begin.seen
    begin_parts = is.begins.acts.history.goes_on.1

    in_told : List Event
    in_told = is.tells.acts.history.goes_on.0

    told_parts : before_told.seen ++ in_told ≡ after_told.seen
    told_parts = is.tells.acts.history.goes_on.1

    first : Cut me in_begin look.before (BeginLook s look.found) look.later
    first = cut_at me in_begin look.before (BeginLook s look.found) look.later
        (sym (done_in me before_begin after_begin in_begin begin_parts) ∙ look.parts)

    second : Cut me in_told ends.before (LookKeys s ends.mark) ends.later
    second = cut_at me in_told ends.before (LookKeys s ends.mark) ends.later
        (sym (done_in me before_told after_told in_told told_parts) ∙ ends.parts)

    between : List Event
    between = is.goes_on.0

    past : List Event
    past = before_begin.seen ++ first.past

    window : List Event
    window = first.later ++ (between ++ second.past)

    begins_before : (past ++ e ∷ []) ++ first.later ≡ after_begin.seen
    begins_before =
        append_assoc past (e ∷ []) first.later
        ∙ (append_assoc before_begin.seen first.past (e ∷ first.later)
        ∙ (ap (λ events. before_begin.seen ++ events) (sym first.parts) ∙ begin_parts))

    ends_after : before_told.seen ++ second.past ≡ past ++ e ∷ window
    ends_after =
        ap (λ events. events ++ second.past) (sym is.goes_on.1)
        ∙ (append_assoc after_begin.seen between second.past
        ∙ (ap (λ events. events ++ (between ++ second.past)) (sym begins_before)
        ∙ (append_assoc (past ++ e ∷ []) first.later (between ++ second.past) ∙ append_assoc past (e ∷ []) window)))

    it : IsWindow me before_begin after_begin before_told after_told s ends.mark window
    it = record {
      past = past;
      found = look.found;
      rest = second.later;
      parts = sym told_parts
          ∙ (ap (λ events. before_told.seen ++ events) second.parts
          ∙ (sym (append_assoc before_told.seen second.past (e' ∷ second.later))
          ∙ (ap (λ events. events ++ e' ∷ second.later) ends_after
          ∙ append_assoc past (e ∷ window) (e' ∷ second.later))));
      begins_after = (first.past, refl);
      begins_before = (first.later, begins_before);
      ends_after = (second.past, ends_after);
    }
