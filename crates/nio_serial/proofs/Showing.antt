-- What is in progress stays what the state shows, after each line.
use Rattle.nio_plain.proofs.Places.{put_same}
use Rattle.nio_plain.proofs.ReachedSound.{some_same}
use Rattle.nio_serial.specs.Laws.{by_key}
use Rattle.std.proofs.Common.{◌≡◌, ℕ, ◌==◌, Bool, true, false, cond, ◌||◌, if◌then◌else◌, Option, Some, None}
use Rattle.std.proofs.Common.{option_map, is_some, List, map, refl, ap, sym, ◌∙◌, subst}
use Rattle.std.specs.Prelude.{⊤, IsTrue}
use Rattle.std.proofs.lemmas.Bool.{both_ways, false_from_ne_true}
use Rattle.nio_base.specs.declared.limits.Limits.{Limits}
use Rattle.nio_base.specs.declared.numbers.CallerNo.{CallerNo}
use Rattle.nio_base.specs.declared.numbers.KeyId.{KeyId}
use Rattle.nio_base.specs.declared.numbers.SelNo.{SelNo}
use Rattle.nio_history.proofs.Put.{put_keeps, put_both}
use Rattle.nio_history.specs.Sets.{is_in_key_set, in_cancelled_set}
use Rattle.nio_history.specs.State.{State, put, with_gate, with_closer, with_entered}
use Rattle.nio_history.specs.declared.found.Mode.{Mode}
use Rattle.nio_language.specs.declared.reply.Reply.{Reply}
use Rattle.nio_language.specs.declared.reply.Reply.TheVariants as reply
use Rattle.nio_plain.specs.Seq.Selections.{is_looked, is_caller}
use Rattle.nio_steps.proofs.PerformLaws.{perform-bind}
use Rattle.nio_steps.specs.Perform.{Performed, perform}
use Rattle.nio_steps.specs.Plan.{Plan}
use Rattle.nio_steps.specs.SelectCalls.{Selection, try_begin_plan, told_plan, leave_plan, shut_plan, closing}
use Rattle.nio_steps.specs.SelectCalls.{already_closed, try_finish_plan}
use Rattle.nio_serial.proofs.Beginning.{begin-cases, begun-on, begun-touched}
use Rattle.nio_serial.proofs.ClosingSelectors.{below_in, finish-cases}
use Rattle.nio_serial.proofs.Facts.{sound, untaken, none_due, published, free, begun, looked_in_set, finds_cancelled}
use Rattle.nio_serial.proofs.Marking.{by_key-tells}
use Rattle.nio_serial.proofs.Removing.{removed-touched}
use Rattle.nio_serial.proofs.Telling.{told-cases, ended-touched}
use Rattle.nio_serial.specs.Between.{AreTouched, IsOn, IsShownBy, IsBetween}
use Rattle.nio_serial.specs.Documented.{Progress, Selecting, looked_pair}
use Rattle.nio_serial.specs.Lines.{Said, makes, refused, with_selection, if_own, after_begin, after_told, after_shut}
use Rattle.nio_serial.specs.Lines.{after_finish, begin_line, by_index, told_line, failed_line, close_end_line}
use Rattle.nio_serial.specs.Lines.{own_selection}
use Rattle.nio_serial.specs.Replies.{begin_reply, told_reply, shut_reply, finish_reply}

-- what a performed line leaves in progress is what its state shows
abbrev pub Shows : Performed Said → Type 0
Shows done = (t : ℕ) → IsShownBy done.state done.answer.left t

-- the same of a performed call, by what it leaves in progress
abbrev pub ShowsBy : {R : Type 0} → (R → Progress) → Performed R → Type 0
ShowsBy left done = (t : ℕ) → IsShownBy done.state (left done.answer) t

made-shows : {R : Type 0} (me : CallerNo) (plan : Plan R) (said : R → Reply) (left : R → Progress) (st : State)
    → ShowsBy left (perform me plan st) → Shows (perform me (makes plan said left) st)
made-shows me plan said left st shows =
    subst Shows (sym (perform-bind me plan (λ answer. Plan.reply
    (record { reply = said answer; left = left answer })) st)) shows

-- the selections and the closings in progress are as before
pub record ShowsAsBefore (before after : Progress) : Type 0 where
  pub selection : after.selection ≡ before.selection
  pub closing : after.closing ≡ before.closing

-- the caller's own selection is one of those in progress
pub record Own (me : CallerNo) (o : Option Selecting) (x : Selection) : Type 0 where
  pub its : Selecting
  pub is : o ≡ Some its
  pub by : (its.caller.0 == me.0) ≡ true
  pub same : its.selection ≡ x

pub own-is : (me : CallerNo) (o : Option Selecting) (x : Selection) → if_own me o ≡ Some x → Own me o x
own-is me None x is = absurd (cc is)
own-is me (Some y) x is = by_test (y.caller.0 == me.0) refl is
  where
    by_test : (b : Bool) → (y.caller.0 == me.0) ≡ b → (if b then Some y.selection else None) ≡ Some x
        → Own me (Some y) x
    by_test true by is' = record { its = y; is = refl; by = by; same = cc is' }
    by_test false by is' = absurd (cc is')

pub shows-on : (st : State) (before after : Progress) (t : ℕ) → ShowsAsBefore before after
    → IsShownBy st before t → IsShownBy st after t
shows-on st before after t same was = record {
  turn = was.turn ∙ ap (λ f. option_map (λ (x : Selecting). x.caller) (f t)) (sym same.selection);
  begun = was.begun ∙ ap (λ f. is_some (f t)) (sym same.selection);
  on = subst (λ (f : ℕ → Option Selecting). (x : Selecting) → f t ≡ Some x → IsOn t x.selection)
      (sym same.selection) was.on;
  finds = subst (λ (f : ℕ → Option Selecting). (x : Selecting) → f t ≡ Some x → IsTrue x.selection.listed
      → AreTouched st t) (sym same.selection) was.finds;
  closing = ap (λ f. f t) same.closing ∙ was.closing;
}

module _ (l : Limits) (st : State) (now : Progress) (me : CallerNo) (between : IsBetween l st now) where
  -- a state with the same turns and closings
  pub shows-same : (st' : State) → st'.turn ≡ st.turn → st'.begun ≡ st.begun → st'.closer ≡ st.closer
      → st'.entered ≡ st.entered → ((t : ℕ) → AreTouched st t → AreTouched st' t) → (t : ℕ) → IsShownBy st' now t
  shows-same st' turns beguns closers entereds keeps t =
      let was = between.shown t in
      record {
        turn = ap (λ f. f t) turns ∙ was.turn;
        begun = ap (λ f. f t) beguns ∙ was.begun;
        on = was.on;
        finds = λ x is listed. keeps t (was.finds x is listed);
        closing = was.closing ∙ (λ j. if sym entereds j t then None else sym closers j t);
      }

  pub refused-shows : (r : Reply) → Shows (perform me (refused now r) st)
  refused-shows r t = between.shown t

  -- a selector on which this selection is in progress, or none
  pub shows-selection : (st' : State) (s : SelNo) (x : Option Selecting)
      → st'.turn ≡ put st.turn s.0 (option_map (λ y. y.caller) x) → st'.begun ≡ put st.begun s.0 (is_some x)
      → st'.closer ≡ st.closer → st'.entered ≡ st.entered
      → ((t : ℕ) → AreTouched st t → AreTouched st' t)
      → ((y : Selecting) → x ≡ Some y → IsOn s.0 y.selection)
      → ((y : Selecting) → x ≡ Some y → IsTrue y.selection.listed → AreTouched st' s.0)
      → (t : ℕ) → IsShownBy st' (with_selection now s x) t
  shows-selection st' s x turns beguns closers entereds keeps on finds t =
      let was = between.shown t in
      record {
        turn = ap (λ f. f t) turns ∙ put_both (λ _ a b. a ≡ option_map (λ y. y.caller) b) st.turn now.selection s.0
            (option_map (λ y. y.caller) x) x refl t was.turn;
        begun = ap (λ f. f t) beguns ∙ put_both (λ _ a b. a ≡ is_some b) st.begun now.selection s.0
            (is_some x) x refl t was.begun;
        on = put_keeps (λ n o. (y : Selecting) → o ≡ Some y → IsOn n y.selection) now.selection s.0 x
            (λ _. on) t was.on;
        finds = put_keeps (λ n o. (y : Selecting) → o ≡ Some y → IsTrue y.selection.listed → AreTouched st' n)
            now.selection s.0 x (λ _. finds) t (λ y is listed. keeps t (was.finds y is listed));
        closing = was.closing ∙ (λ j. if sym entereds j t then None else sym closers j t);
      }

  -- ---- selections

  pub begin-shows : (s : SelNo) (o : Option Mode) → Shows (perform me (begin_line now me s o) st)
  begin-shows s None = between.shown
  begin-shows s (Some mode) =
      let due = none_due l st now between s.0 in
      let idle = untaken l st now between s.0 in
      let exact = published l st now between s.0 in
      let out = free l st now between s.0 in
      made-shows me (try_begin_plan s mode None false) begin_reply (after_begin now me s) st
      (begin-cases st now me s due idle exact out mode (ShowsBy (after_begin now me s))
      (λ t. between.shown t) (λ t. between.shown t)
      (λ _ _. shows-selection _ s (Some (record { caller = me; selection = _ })) refl refl refl refl
      (begun-touched st now me s due idle exact out)
      (λ y e. subst (λ (x : Option Selecting). OnOf s x) e (begun-on st now me s due idle exact out mode))
      (λ y e listed. absurd (cc (subst (λ (x : Option Selecting). Unlisted x) e refl ∙ listed)))))
    where
      -- it begins without the list
      Unlisted : Option Selecting → Type 0
      Unlisted None = ⊤
      Unlisted (Some y) = false ≡ y.selection.listed

      OnOf : SelNo → Option Selecting → Type 0
      OnOf s' None = ⊤
      OnOf s' (Some y) = IsOn s'.0 y.selection

  module _ (s : SelNo) (y : Selecting) (is : now.selection s.0 ≡ Some y) where
    abbrev x : Selection
    x = y.selection

    on : IsOn s.0 x
    on = (between.shown s.0).on y is

    selector-is : x.selector ≡ s
    selector-is = λ j. record { 0 = on.selector j }

    in_set : (k : KeyId) → is_looked (map looked_pair x.looked) k ≡ true
        → is_in_key_set (st.key x.selector.0 k.index) k.serial ≡ true
    in_set =
        subst (λ (n : ℕ). (k : KeyId) → is_looked (map looked_pair x.looked) k ≡ true
        → is_in_key_set (st.key n k.index) k.serial ≡ true) (sym on.selector) (looked_in_set l st now between s.0 y is)

    finds : x.listed ≡ true → (i : ℕ) → in_cancelled_set (st.key x.selector.0 i) ≡ true
        → st.touched x.selector.0 i ≡ true
    finds =
        subst (λ (n : ℕ). x.listed ≡ true → (i : ℕ) → in_cancelled_set (st.key n i) ≡ true → st.touched n i ≡ true)
        (sym on.selector) (finds_cancelled l st now between s.0 y is)

    told-index : (elapsed : Bool) (told : List (ℕ × ℕ))
        → ShowsBy (after_told now s) (perform me (told_plan x told elapsed) st)
    told-index elapsed told =
        subst (λ (n : SelNo). ShowsBy (after_told now n) (perform me (told_plan x told elapsed) st)) selector-is
        (told-cases st now me x (by_key x told) told on.rises in_set (by_key-tells x told)
        (none_due l st now between) (untaken l st now between x.selector.0) (published l st now between x.selector.0)
        (free l st now between x.selector.0) finds elapsed
        (ShowsBy (after_told now x.selector))
        (shows-same _ refl refl refl refl (λ t was. was))
        (λ answer. shows-selection _ x.selector None refl refl refl refl
        (ended-touched st now me x (by_key x told) told on.rises in_set (by_key-tells x told)
        (none_due l st now between) (untaken l st now between x.selector.0) (published l st now between x.selector.0)
        (free l st now between x.selector.0) finds)
        (λ z e. absurd cc) (λ z e. absurd cc)))

    told-one : (elapsed : Bool) (pairs : List (KeyId × ℕ))
        → Shows (perform me (told_line now s elapsed pairs (Some x)) st)
    told-one elapsed pairs =
        made-shows me (told_plan x (by_index x pairs) elapsed) told_reply (after_told now s) st
        (told-index elapsed (by_index x pairs))

    failed-one : Shows (perform me (failed_line now s (Some x)) st)
    unfolding leave_plan
    failed-one =
        subst (λ (n : SelNo). Shows (perform me (makes (leave_plan x) (λ _. reply.Left)
        (λ _. with_selection now n None)) st)) selector-is
        (shows-selection _ x.selector None refl refl refl refl (λ t was. was) (λ z e. absurd cc) (λ z e. absurd cc))

  pub told-shows : (s : SelNo) (elapsed : Bool) (pairs : List (KeyId × ℕ)) (o : Option Selecting)
      → now.selection s.0 ≡ o → Shows (perform me (told_line now s elapsed pairs (if_own me o)) st)
  told-shows s elapsed pairs None is = between.shown
  told-shows s elapsed pairs (Some y) is = by_caller (y.caller.0 == me.0)
    where
      by_caller : (b : Bool) → Shows (perform me (told_line now s elapsed pairs (cond b (Some y.selection) None)) st)
      by_caller true = told-one s y is elapsed pairs
      by_caller false = between.shown

  pub failed-shows : (s : SelNo) (o : Option Selecting) → now.selection s.0 ≡ o
      → Shows (perform me (failed_line now s (if_own me o)) st)
  failed-shows s None is = between.shown
  failed-shows s (Some y) is = by_caller (y.caller.0 == me.0)
    where
      by_caller : (b : Bool) → Shows (perform me (failed_line now s (cond b (Some y.selection) None)) st)
      by_caller true = failed-one s y is
      by_caller false = between.shown

  -- a `told` by index
  pub told-index-shows : (s : SelNo) (x : Selection) (told : List (ℕ × ℕ)) (elapsed : Bool)
      → own_selection now me s ≡ Some x → ShowsBy (after_told now s) (perform me (told_plan x told elapsed) st)
  told-index-shows s x told elapsed own = by_selection (now.selection s.0) refl own
    where
      by_selection : (o : Option Selecting) → now.selection s.0 ≡ o → if_own me o ≡ Some x
          → ShowsBy (after_told now s) (perform me (told_plan x told elapsed) st)
      by_selection None is own' = absurd cc
      by_selection (Some y) is own' = by_caller (y.caller.0 == me.0) own'
        where
          by_caller : (b : Bool) → cond b (Some y.selection) None ≡ Some x
              → ShowsBy (after_told now s) (perform me (told_plan x told elapsed) st)
          by_caller true same =
              subst (λ (z : Selection). ShowsBy (after_told now s) (perform me (told_plan z told elapsed) st))
              (some_same y.selection x same) (told-index s y is elapsed told)
          by_caller false same = absurd cc

  -- ---- closings

  -- the caller that closes a selector, by who shut it and whether the closing has ended
  abbrev closing_by : Bool → Option CallerNo → Option CallerNo
  closing_by entered closer = if entered then None else closer

  pub close-shows : (s : SelNo) → Shows (perform me (makes (shut_plan s) shut_reply (after_shut now me s)) st)
  unfolding shut_plan
  close-shows s = by_shut (st.gate s.0).shut refl
    where
      gate_after : State
      gate_after = with_gate st s.0 (record (st.gate s.0) { shut = true })

      by_shut : (b : Bool) → (st.gate s.0).shut ≡ b
          → (t : ℕ) → IsShownBy (with_closer gate_after s.0 (if b then st.closer s.0 else Some me))
          (after_shut now me s (if b then already_closed else closing)) t
      by_shut true e t =
          shows-same (with_closer gate_after s.0 (st.closer s.0)) refl refl
          (put_same st.closer s.0 (st.closer s.0) refl) refl (λ _ was. was) t
      by_shut false e t =
          let was = between.shown t in
          let not_entered : st.entered s.0 ≡ false =
          false_from_ne_true (st.entered s.0) (λ h. both_ways (st.gate s.0).shut e
          (((sound l st now between).closings s.0).entered_shut h)) in
          record {
            turn = was.turn;
            begun = was.begun;
            on = was.on;
            finds = was.finds;
            closing =
                put_both (λ n a b. a ≡ closing_by (st.entered n) b) now.closing st.closer s.0 (Some me) (Some me)
                (λ j. closing_by (sym not_entered j) (Some me)) t was.closing;
          }

  pub close_end-shows : (s : SelNo) → Shows (perform me (close_end_line now me s) st)
  close_end-shows s = by_caller (is_caller me (now.closing s.0)) refl
    where
      line : Bool → Plan Said
      line b = if b then makes (try_finish_plan s) finish_reply (after_finish now s) else refused now reply.NotClosing

      by_caller : (b : Bool) → is_caller me (now.closing s.0) ≡ b → Shows (perform me (line b) st)
      by_caller true own =
          let not_entered : st.entered s.0 ≡ false =
          false_from_ne_true (st.entered s.0) (λ h. both_ways (is_caller me (now.closing s.0))
          (ap (is_caller me) ((between.shown s.0).closing ∙ ap (λ b. closing_by b (st.closer s.0)) h)) own) in
          made-shows me (try_finish_plan s) finish_reply (after_finish now s) st
          (finish-cases st me s (begun l st now between s.0) (none_due l st now between s.0) not_entered
          (ShowsBy (after_finish now s))
          between.shown
          (λ t.
          let was = between.shown t in
          record {
            turn = was.turn;
            begun = was.begun;
            on = was.on;
            finds = λ x is listed. removed-touched (with_entered st s.0 (st.entered s.0 || true))
                (below_in s.0 (st.keys_high s.0)) (λ _. false) t (was.finds x is listed);
            closing =
                put_both (λ n a b. a ≡ closing_by b (st.closer n)) now.closing st.entered s.0 None
                (st.entered s.0 || true) (λ j. closing_by (sym (λ i. not_entered i || true) j)
                (st.closer s.0)) t was.closing;
          }))
      by_caller false other = between.shown
