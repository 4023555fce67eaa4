-- Telling a selection, over the parts of a state.
use Rattle.std.proofs.Common.{◌≡◌, ℕ, eqb, Bool, true, false, cond, ◌&&◌, Option, Some, None, IfSome, List, refl, sym}
use Rattle.std.proofs.Common.{ap, subst, ◌∙◌}
use Rattle.std.proofs.lemmas.Bool.{cond-true, cond-false, eq-eqb, ne_eqb}
use Rattle.nio_base.specs.declared.numbers.CallerNo.{CallerNo}
use Rattle.nio_base.specs.declared.numbers.KeyId.{KeyId}
use Rattle.nio_base.specs.declared.numbers.SelNo.{SelNo}
use Rattle.nio_group.specs.Group.{Group}
use Rattle.nio_history.specs.Sets.{in_cancelled_set}
use Rattle.nio_history.specs.State.{put, with_gate, with_turn, with_begun}
use Rattle.nio_history.specs.declared.found.Chan.{Chan}
use Rattle.nio_history.specs.declared.found.GateWord.{GateWord}
use Rattle.nio_history.specs.declared.found.Mark.{Mark}
use Rattle.nio_language.specs.declared.reply.Reply.TheVariants as reply
use Rattle.nio_plain.proofs.Replying.{rows_of}
use Rattle.nio_plain.proofs.Parts.{Makes, then, makes-gate, makes-selecting, keys_changed, part_stays, state-removed}
use Rattle.nio_plain.proofs.Places.{same_function, put_by}
use Rattle.nio_plain.specs.PlainState.{SelectorRow, KeyRow, state_from, state_of, selector_row, key_id, caller_of}
use Rattle.nio_plain.specs.PlainState.{selection_of, removed_row, swept_at_end}
use Rattle.nio_plain.specs.ScriptState.{ScriptState, Selection, with_shared, with_selection, Pipe}
use Rattle.nio_plain.specs.Seq.Replies.{unchanged}
use Rattle.nio_plain.specs.Seq.Removing.{comes_back}
use Rattle.nio_plain.specs.Seq.Selections.{told_call, told_selection, own_selection, selection_ended, with_marks}
use Rattle.nio_plain.specs.Seq.Selections.{is_looked, marked, told_bits, updated_count, without_ended}
use Rattle.nio_plain.specs.Seq.Selections.{is_again, why_ended, is_caller}
use Rattle.nio_plain.specs.declared.plain.Plain.{Plain}
use Rattle.nio_plain.specs.declared.plain.selector.Selecting.{Selecting}
use Rattle.nio_plain.specs.declared.plain.selector.Selector.{Selector}
use Rattle.nio_plain.specs.declared.rules.Rules.{Rules}
use Rattle.nio_plain.specs.declared.rules.Rules.TheVariants.{First, Now}

-- told's answers

module _ (rules : Rules) (st : ScriptState) (me : CallerNo) (s : SelNo) (elapsed : Bool)
    (pairs : List (KeyId × ℕ)) where
  pub told-no_selector : st.shared.selector s.0 ≡ false
      → told_call rules st me s elapsed pairs ≡ unchanged st reply.NoSelector
  unfolding told_call
  told-no_selector h = rw h

  pub told-own : (own : Option Selection) → st.shared.selector s.0 ≡ true → own_selection st me s.0 ≡ own
      → told_call rules st me s elapsed pairs ≡ told_selection rules st me s.0 pairs elapsed own
  unfolding told_call
  told-own own h e =
      let there : told_call rules st me s elapsed pairs ≡ told_selection rules st me s.0 pairs elapsed
      (own_selection st me s.0) = rw h in
      there ∙ ap (told_selection rules st me s.0 pairs elapsed) e

module _ (rules : Rules) (st : ScriptState) (me : CallerNo) (s : ℕ) (elapsed : Bool) (pairs : List (KeyId × ℕ))
    (selection : Selection) (count : ℕ) (counted : updated_count st.shared s selection.looked pairs ≡ count)
    (gate : GateWord) (gated : st.shared.gate s ≡ gate) (interrupted : Bool)
    (asked : st.shared.interrupted me.0 ≡ interrupted) where
  pub told-again : is_again gate interrupted selection.mode elapsed count ≡ true
      → told_selection rules st me s pairs elapsed (Some selection) ≡ unchanged st reply.Again
  told-again h = rw (counted, gated, asked, h)

  pub told-done : is_again gate interrupted selection.mode elapsed count ≡ false
      → told_selection rules st me s pairs elapsed (Some selection) ≡ record {
        reply = reply.Selected count (why_ended gate interrupted selection.mode count);
        left = with_selection (with_shared st (selection_ended rules st.shared s selection pairs)) s None;
      }
  told-done h = rw (counted, gated, asked, h)

-- the keys after each looked key was marked with what was told of it
abbrev pub told_keys : List (KeyId × ℕ) → List (KeyId × ℕ) → (ℕ → KeyRow) → ℕ → KeyRow
told_keys looked pairs keys i = record (keys i) { mark = marked (keys i).mark (told_bits looked pairs (key_id keys i)) }

abbrev pub after_selection : Rules → List (KeyId × ℕ) → List (KeyId × ℕ) → SelectorRow → SelectorRow
after_selection rules looked pairs r = record r {
  gate = record r.gate { woken = false };
  turn = None;
  selection = None;
  keys = swept_at_end rules (told_keys looked pairs r.keys) looked;
}

cond_both : {A : Type 0} (a b : Bool) (x y : A) → cond a (cond b x y) y ≡ cond (a && b) x y
cond_both true b x y = refl
cond_both false b x y = refl

module _ (group : Group) (pipes : List Pipe) (interrupted : ℕ → Bool) (mark : ℕ) (chan : ℕ → Chan) (s : ℕ) where
  -- the looked keys are marked
  makes-marked : (looked pairs : List (KeyId × ℕ))
      → Makes group pipes interrupted mark chan s (λ r. record r { keys = told_keys looked pairs r.keys })
      (λ x. with_shared x (with_marks x.shared s looked pairs))
  makes-marked looked pairs = λ row.
      let keys = told_keys looked pairs (row s).keys in
      let marks : ℕ → ℕ → Mark = λ t i. ((row t).keys i).mark in
      keys_changed group pipes interrupted mark chan s row keys
      _ (part_stays group pipes interrupted mark chan s row keys (λ (k : KeyRow). k.stage) (λ _. refl))
      _ (part_stays group pipes interrupted mark chan s row keys (λ (k : KeyRow). k.interest) (λ _. refl))
      _ (put_by marks s
      (λ b t i. cond b (marked (marks t i) (told_bits looked pairs (key_id (row t).keys i))) (marks t i))
      (λ t. refl))
      _ (part_stays group pipes interrupted mark chan s row keys (λ (k : KeyRow). k.note) (λ _. refl))
      _ (part_stays group pipes interrupted mark chan s row keys (λ (k : KeyRow). k.free) (λ _. refl))

  -- the cancelled keys are removed, by the first rules those that are looked at
  makes-swept_at_end : (rules : Rules) (looked : List (KeyId × ℕ))
      → Makes group pipes interrupted mark chan s (λ r. record r { keys = swept_at_end rules r.keys looked })
      (λ x. with_shared x (without_ended rules x.shared s looked))
  makes-swept_at_end First looked = λ row.
      let keys = (row s).keys in
      let same = same_function
      (λ i. cond_both (is_looked looked (key_id keys i)) (in_cancelled_set (keys i).stage)
      (removed_row (comes_back First) (keys i)) (keys i)) in
      ap (λ (ks : ℕ → KeyRow). state_from group pipes interrupted mark chan (put row s (record (row s) { keys = ks })))
      same
      ∙ state-removed group pipes interrupted mark chan s row
      (λ i. is_looked looked (key_id keys i) && in_cancelled_set (keys i).stage) (comes_back First)
  makes-swept_at_end Now looked = λ row.
      state-removed group pipes interrupted mark chan s row (λ i. in_cancelled_set ((row s).keys i).stage)
      (comes_back Now)

  pub state-ended : (rules : Rules) (row : ℕ → SelectorRow) (selection : Selection) (pairs : List (KeyId × ℕ))
      → state_from group pipes interrupted mark chan (put row s (after_selection rules selection.looked pairs (row s)))
      ≡ with_selection
      (with_shared (state_from group pipes interrupted mark chan row)
      (selection_ended rules (state_from group pipes interrupted mark chan row).shared s selection pairs)) s
      None
  state-ended rules row selection pairs =
      let marks : SelectorRow → SelectorRow = λ r. record r { keys = told_keys selection.looked pairs r.keys } in
      let marks' : ScriptState → ScriptState = λ x. with_shared x (with_marks x.shared s selection.looked pairs) in
      let sweeps : SelectorRow → SelectorRow = λ r. record r { keys = swept_at_end rules r.keys selection.looked } in
      let sweeps' : ScriptState
      → ScriptState = λ x. with_shared x (without_ended rules x.shared s selection.looked) in
      let sleeps : SelectorRow → SelectorRow = λ r. record r { gate = record r.gate { woken = false } } in
      let sleeps' : ScriptState
      → ScriptState = λ x. with_shared x (with_gate x.shared s (record (x.shared.gate s) { woken = false })) in
      let ends : SelectorRow → SelectorRow = λ r. record r { turn = None; selection = None } in
      let ends' : ScriptState
      → ScriptState = λ x. record x {
        shared = with_begun (with_turn x.shared s None) s false;
        selection = put x.selection s None;
      } in
      let two = then group pipes interrupted mark chan s marks sweeps marks' sweeps'
      (makes-marked selection.looked pairs) (makes-swept_at_end rules selection.looked) in
      let three = then group pipes interrupted mark chan s (λ r. sweeps (marks r)) sleeps
      (λ x. sweeps' (marks' x)) sleeps' two
      (makes-gate group pipes interrupted mark chan s (λ g. record g { woken = false })) in
      then group pipes interrupted mark chan s (λ r. sleeps (sweeps (marks r))) ends
      (λ x. sleeps' (sweeps' (marks' x))) ends' three
      (makes-selecting group pipes interrupted mark chan s None None) row

pub if_some : {A : Type 0} (o : Option A) (x : A) (P : A → Type 0) → o ≡ Some x → P x → IfSome o P
if_some o x P e h = subst (λ m. IfSome m P) (sym e) h

pub some_at : {A : Type 0} (o : Option A) (x : A) (P : A → Type 0) → o ≡ Some x → IfSome o P → P x
some_at o x P e h = subst (λ m. IfSome m P) e h

-- the caller's own selection, by what the selector holds

module _ (p : Plain) (me : CallerNo) (s : ℕ) (x : Selector) (at : rows_of p s ≡ selector_row x) where
  abbrev own : Option Selecting → Option Selection
  own o = cond (is_caller me (caller_of o)) (selection_of o) None

  own_is : own_selection (state_of p) me s ≡ own x.selecting
  own_is = ap (λ (r : SelectorRow). cond (is_caller me r.turn) r.selection None) at

  pub own-none : x.selecting ≡ None → own_selection (state_of p) me s ≡ None
  own-none e = own_is ∙ ap own e

  pub own-others : (y : Selecting) → x.selecting ≡ Some y → (y.caller.0 ≡ me.0 → ⊥)
      → own_selection (state_of p) me s ≡ None
  own-others y e ne =
      (own_is ∙ ap own e) ∙ cond-false (eqb y.caller.0 me.0) (selection_of (Some y)) None (ne_eqb y.caller.0 me.0 ne)

  pub own-some : (y : Selecting) → x.selecting ≡ Some y → y.caller.0 ≡ me.0
      → own_selection (state_of p) me s ≡ selection_of (Some y)
  own-some y e same =
      (own_is ∙ ap own e) ∙ cond-true (eqb y.caller.0 me.0) (selection_of (Some y)) None (eq-eqb y.caller.0 me.0 same)
