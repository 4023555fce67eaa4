-- Telling a selection, and leaving it, amount to the documented calls.
use Rattle.std.proofs.Common.{◌≡◌, ℕ, ◌+◌, ◌<◌, ◌==◌, nat_lt, Bool, true, false, cond, not, ◌&&◌, ◌||◌, if◌then◌else◌}
use Rattle.std.proofs.Common.{Some, None, option_map, List, [], ◌∷◌, map, count_by, bit_and, bit_or, refl, ap, sym, ◌∙◌}
use Rattle.std.proofs.Common.{subst, arith, eqb-true}
use Rattle.std.proofs.lemmas.Bool.{both_ways, and_parts, or_parts}
use Rattle.std.proofs.lemmas.List.Sums.{sum_by-cons}
use Rattle.std.specs.List.{AllPairs}
use lib.Bits.{and_zero_r}
use Rattle.nio_base.specs.declared.numbers.CallerNo.{CallerNo}
use Rattle.nio_base.specs.declared.numbers.KeyId.{KeyId}
use Rattle.nio_history.specs.Sets.{is_in_key_set, in_cancelled_set}
use Rattle.nio_history.specs.State.{State, with_turn, with_begun, with_gate}
use Rattle.nio_history.specs.declared.found.GateWord.{GateWord}
use Rattle.nio_history.specs.declared.found.Mark.{Mark}
use Rattle.nio_history.specs.declared.found.Mode.{Mode}
use Rattle.nio_history.specs.declared.found.Mode.TheVariants as mode
use Rattle.nio_history.specs.declared.found.Stage.{Stage}
use Rattle.nio_language.specs.declared.reply.Reply.TheVariants as reply
use Rattle.nio_plain.proofs.Lists.{same-is}
use Rattle.nio_plain.specs.ScriptState.{ScriptState}
use Rattle.nio_plain.specs.Seq.Replies.{Replied}
use Rattle.nio_plain.specs.Seq.Names.{is_same_key, key_at}
use Rattle.nio_plain.specs.Seq.Selections.{all_told, looked_interest, told_bits, is_looked, marked, is_updated}
use Rattle.nio_plain.specs.Seq.Selections.{without_cancelled, with_marks, goes_on, is_again, why_ended, selection_ended}
use Rattle.nio_plain.specs.Seq.Selections.{told_selection, left_selection}
use Rattle.nio_plain.specs.declared.rules.Rules.TheVariants.{Now}
use Rattle.nio_steps.proofs.PerformLaws.{perform_then_on}
use Rattle.nio_steps.specs.ChannelCalls.{words_below}
use Rattle.nio_steps.specs.Looking.{remove_below}
use Rattle.nio_steps.specs.Perform.{Performed, perform}
use Rattle.nio_steps.specs.Plan.{Plan, ◌>>◌}
use Rattle.nio_steps.specs.SelectCalls.{Selection, mark_entry, remove_all_cancelled, after_marks, end_selection}
use Rattle.nio_steps.specs.SelectCalls.{told_plan, leave_plan, ToldReply, done, again, is_again as is_again_by_look}
use Rattle.nio_steps.specs.SelectCalls.{why_ended as why_over, told_at}
use Rattle.nio_steps.specs.Steps.{end_wake, give_turn}
use Rattle.nio_steps.specs.Sweeps.{sweep_over}
use Rattle.nio_steps.specs.declared.looked.LookedKey.{LookedKey}
use Rattle.nio_steps.specs.declared.selected.Selected.{Selected}
use Rattle.nio_serial.proofs.Base.{put-under, branch}
use Rattle.nio_serial.proofs.FreeWords.{has_index, listed}
use Rattle.nio_serial.proofs.Marking.{updated, counts, not-removed, marks-performed}
use Rattle.nio_serial.proofs.Marks.{marked-same}
use Rattle.nio_serial.proofs.Sweeping.{swept, sweep-performed, touched-performed, swept-over-is, listed-there}
use Rattle.nio_serial.proofs.Sweeping.{touched-there, swept-touched}
use Rattle.nio_serial.proofs.TouchedWords.{touched_in}
use Rattle.nio_serial.specs.Between.{AreTouched}
use Rattle.nio_serial.specs.Documented.{Progress, settled_mark, settled_state, looked_pair, shown, documented}
use Rattle.nio_serial.specs.Documented.{amounts}
use Rattle.nio_serial.specs.Lines.{after_told, with_selection}
use Rattle.nio_serial.specs.Replies.{told_reply}

-- ---- whether it goes on, and why it ended

again-is : (m : Mode) (count : ℕ) (gate : GateWord) (interrupted elapsed : Bool)
    → is_again gate interrupted m elapsed count ≡ is_again_by_look m count gate interrupted elapsed
again-is mode.Now count gate interrupted elapsed = by_count (count == 0)
  where
    by_count : (b : Bool) → ((((b && false) && not gate.woken) && not gate.shut) && not interrupted) ≡ false
    by_count true = refl
    by_count false = refl
again-is mode.Wait count gate interrupted elapsed =
    by_bools (count == 0) (not gate.woken) (not gate.shut) (not interrupted)
  where
    by_bools : (a b c d : Bool) → ((((a && true) && b) && c) && d) ≡ ((((a && b) && c) && d) && true)
    by_bools true true true true = refl
    by_bools true true true false = refl
    by_bools true true false d = refl
    by_bools true false c d = refl
    by_bools false b c d = refl
again-is (mode.For ms) count gate interrupted elapsed =
    by_bools (count == 0) (not gate.woken) (not gate.shut) (not interrupted) (not elapsed)
  where
    by_bools : (a b c d e : Bool) → ((((a && e) && b) && c) && d) ≡ ((((a && b) && c) && d) && e)
    by_bools true true true true true = refl
    by_bools true true true true false = refl
    by_bools true true true false true = refl
    by_bools true true true false false = refl
    by_bools true true false d true = refl
    by_bools true true false d false = refl
    by_bools true false c d true = refl
    by_bools true false c d false = refl
    by_bools false b c d e = refl

why-is : (m : Mode) (count : ℕ) (gate : GateWord) (interrupted : Bool)
    → why_ended gate interrupted m count ≡ why_over m count gate interrupted
why-is mode.Now count gate interrupted = refl
why-is mode.Wait count gate interrupted = refl
why-is (mode.For ms) count gate interrupted = refl

-- ---- leaving

no_longer : (b x : Bool) → x ≡ false → cond b false x ≡ x
no_longer true x e = sym e
no_longer false x e = refl

pub failed-amounts : (st : State) (now : Progress) (me : CallerNo) (x : Selection)
    → ((t i : ℕ) → st.put_due t i ≡ false)
    → left_selection (documented st now) x.selector.0 (Some (shown x))
    ≡ amounts (λ _. reply.Left) (λ _. with_selection now x.selector None) (perform me (leave_plan x) st)
unfolding leave_plan
failed-amounts st now me x none_due = λ j. record {
  reply = reply.Left;
  left = record {
    shared =
        settled_state (record (with_begun (with_turn st x.selector.0 None) x.selector.0 false) {
          put_due = λ t i. sym
              (no_longer (t == x.selector.0) (st.put_due t i) (none_due t i)) j;
        });
    selection = sym (put-under (λ _ o. option_map (λ y. shown y.selection) o) now.selection x.selector.0 None) j;
    group = now.group;
    pipes = now.pipes;
  };
}

-- ---- telling

module _ (st : State) (now : Progress) (me : CallerNo) (x : Selection) (pairs : List (KeyId × ℕ)) (told : List (ℕ × ℕ))
    (rises : AllPairs (λ (a b : LookedKey). a.index < b.index) x.looked)
    (in_set : (k : KeyId) → is_looked (map looked_pair x.looked) k ≡ true
    → is_in_key_set (st.key x.selector.0 k.index) k.serial ≡ true)
    (tells : (k : KeyId) → is_looked (map looked_pair x.looked) k ≡ true → told_at told k.index ≡ all_told pairs k)
    (none_due : (t i : ℕ) → st.put_due t i ≡ false) (untaken : (i : ℕ) → st.taker x.selector.0 i ≡ None)
    (published : (i : ℕ) → (st.key x.selector.0 i).published ≡ nat_lt i (st.keys_high x.selector.0))
    (free : (i : ℕ) → st.free x.selector.0 i ≡ true → (st.key x.selector.0 i).removed ≡ true)
    (finds : x.listed ≡ true → (i : ℕ) → in_cancelled_set (st.key x.selector.0 i) ≡ true
    → st.touched x.selector.0 i ≡ true) where
  abbrev s : ℕ
  s = x.selector.0

  abbrev ds : ScriptState
  ds = documented st now

  abbrev looked : List (KeyId × ℕ)
  looked = map looked_pair x.looked

  abbrev count : ℕ
  count = counts st me x pairs told rises in_set tells x.looked

  -- the state after the marks
  abbrev marked_st : State
  marked_st = with_marks st s looked pairs

  abbrev F : Performed ToldReply → Replied
  F = amounts told_reply (after_told now x.selector)

  -- ---- no key is updated: the state is as it was

  none_updated : (xs : List (KeyId × ℕ)) (k : KeyId) → is_looked xs k ≡ true
      → count_by (updated st me x pairs told rises in_set tells) xs ≡ 0
      → updated st me x pairs told rises in_set tells (k, 0) ≡ false
  none_updated [] k there none = absurd (both_ways false refl there)
  none_updated (q ∷ xs) k there none =
      let f = updated st me x pairs told rises in_set tells in
      let parts : (cond (f q) 1 0) + count_by f xs ≡ 0 = sym (sum_by-cons (λ p. cond (f p) 1 0) q xs) ∙ none in
      by_head (is_same_key q.0 k) refl (f q) refl there parts (λ later rest. none_updated xs k later rest)
    where
      by_head : (b : Bool) → is_same_key q.0 k ≡ b → (c : Bool) → updated st me x pairs told rises in_set tells q ≡ c
          → (b || is_looked xs k) ≡ true → cond c 1 0 + count_by (updated st me x pairs told rises in_set tells) xs ≡ 0
          → (is_looked xs k ≡ true → count_by (updated st me x pairs told rises in_set tells) xs ≡ 0
          → updated st me x pairs told rises in_set tells (k, 0) ≡ false)
          → updated st me x pairs told rises in_set tells (k, 0) ≡ false
      by_head b same true up there' parts rest = absurd (omega arith)
      by_head true same false up there' parts rest =
          subst (λ (m : KeyId). updated st me x pairs told rises in_set tells (m, 0) ≡ false) (same-is q.0 k same) up
      by_head false same false up there' parts rest = rest there' (omega arith)

  interest-none : (xs : List (KeyId × ℕ)) (k : KeyId) → is_looked xs k ≡ false → looked_interest xs k ≡ 0
  interest-none [] k out = refl
  interest-none (q ∷ xs) k out =
      let parts = or_parts (is_same_key q.0 k) (is_looked xs k) out in
      ap (λ b. cond b q.1 (looked_interest xs k)) parts.0 ∙ interest-none xs k parts.1

  -- nothing is told of a key that isn't looked at
  untold : (k : KeyId) → is_looked looked k ≡ false → told_bits looked pairs k ≡ 0
  untold k out = ap (bit_and (all_told pairs k)) (interest-none looked k out) ∙ and_zero_r (all_told pairs k)

  unmarked : count ≡ 0 → (t i : ℕ) → cond (t == s) (marked (st.mark t i) (told_bits looked pairs (key_at st t i)))
      (st.mark t i) ≡ st.mark t i
  unmarked none t i = by_selector (t == s) refl
    where
      here : (b : Bool) → is_looked looked (key_at st s i) ≡ b
          → marked (st.mark s i) (told_bits looked pairs (key_at st s i)) ≡ st.mark s i
      here true there =
          let k = key_at st s i in
          marked-same (st.mark s i) (told_bits looked pairs k)
          ((λ j. is_updated (record (st.mark s i) {
            selected =
                not (sym (not-removed st me x pairs told rises in_set tells k there) j) && (st.mark s i).selected;
          })
          (told_bits looked pairs k))
          ∙ none_updated looked k there none)
      here false out = ap (marked (st.mark s i)) (untold (key_at st s i) out)

      by_selector : (b : Bool) → (t == s) ≡ b
          → cond b (marked (st.mark t i) (told_bits looked pairs (key_at st t i))) (st.mark t i) ≡ st.mark t i
      by_selector true same =
          subst (λ (n : ℕ). marked (st.mark n i) (told_bits looked pairs (key_at st n i)) ≡ st.mark n i)
          (sym (eqb-true t s same)) (here (is_looked looked (key_at st s i)) refl)
      by_selector false other = refl

  -- ---- the selection is over

  -- a mark of a key that isn't removed, or of which nothing is told
  settled_told : (k : Stage) (m : Mark) (bits : ℕ) → (k.removed ≡ true → bits ≡ 0)
      → settled_mark k (marked m bits) ≡ marked (settled_mark k m) bits
  settled_told k m bits quiet = by_removed k.removed quiet
    where
      with_removed : Bool → Mark → Mark
      with_removed r y = record y { selected = not r && y.selected }

      by_mark : (b c : Bool) → (m.selected ≡ c)
          → with_removed false (cond b m (cond c (record m { ready = bit_or m.ready bits })
          (record { selected = true; ready = bits })))
          ≡ cond b (with_removed false m) (cond c (record m { ready = bit_or m.ready bits })
          (record { selected = true; ready = bits }))
      by_mark true c is = refl
      by_mark false true is = refl
      by_mark false false is = refl

      by_removed : (r : Bool) → (r ≡ true → bits ≡ 0) → with_removed r (marked m bits) ≡ marked (with_removed r m) bits
      by_removed true none =
          ap (λ n. with_removed true (marked m n)) (none refl) ∙ sym (ap (marked (with_removed true m)) (none refl))
      by_removed false none = by_mark (bits == 0) m.selected refl

  quiet : (i : ℕ) → (st.key s i).removed ≡ true → told_bits looked pairs (key_at st s i) ≡ 0
  quiet i removed = by_looked (is_looked looked (key_at st s i)) refl
    where
      by_looked : (b : Bool) → is_looked looked (key_at st s i) ≡ b → told_bits looked pairs (key_at st s i) ≡ 0
      by_looked true there =
          absurd (both_ways (st.key s i).removed (not-removed st me x pairs told rises in_set tells
          (key_at st s i) there) removed)
      by_looked false out = untold (key_at st s i) out

  settled-marks : settled_state marked_st ≡ with_marks ds.shared s looked pairs
  settled-marks = λ j. record (settled_state st) { mark = λ t i. at t i j }
    where
      at : (t i : ℕ) → settled_mark (st.key t i) (cond (t == s)
          (marked (st.mark t i) (told_bits looked pairs (key_at st t i))) (st.mark t i))
          ≡ cond (t == s) (marked (settled_mark (st.key t i) (st.mark t i)) (told_bits looked pairs (key_at st t i)))
          (settled_mark (st.key t i) (st.mark t i))
      at t i = by_selector (t == s) refl
        where
          by_selector : (b : Bool) → (t == s) ≡ b
              → settled_mark (st.key t i) (cond b (marked (st.mark t i) (told_bits looked pairs (key_at st t i)))
              (st.mark t i))
              ≡ cond b (marked (settled_mark (st.key t i) (st.mark t i)) (told_bits looked pairs (key_at st t i)))
              (settled_mark (st.key t i) (st.mark t i))
          by_selector true same = settled_told (st.key t i) (st.mark t i) (told_bits looked pairs (key_at st t i))
              (subst (λ (n : ℕ). (st.key n i).removed ≡ true → told_bits looked pairs (key_at st n i) ≡ 0)
              (sym (eqb-true t s same)) (quiet i))
          by_selector false other = refl

  -- what is left of the plan
  -- the indexes that it goes over: those that aren't free, or by the list those that are touched
  abbrev over : Bool → List ℕ
  over false = listed marked_st s (st.keys_high s)
  over true = touched_in marked_st x.selector (words_below (st.keys_high s))

  abbrev swept_st : State
  swept_st = swept marked_st me x.selector (none_due s) untaken (over x.listed)

  remove-performed : (b : Bool) → perform me (remove_below x.selector (st.keys_high s) b) marked_st
      ≡ record { answer = tt; state = swept marked_st me x.selector (none_due s) untaken (over b) }
  remove-performed false = sweep-performed marked_st me x.selector (none_due s) untaken (st.keys_high s)
  remove-performed true =
      touched-performed marked_st me x.selector (none_due s) untaken (words_below (st.keys_high s))

  over-all : (b : Bool) → x.listed ≡ b → (i : ℕ) → in_cancelled_set (st.key s i) ≡ true → has_index i (over b) ≡ true
  over-all false is i cancelled =
      listed-there marked_st me x.selector (none_due s) untaken published free i cancelled
  over-all true is i cancelled =
      touched-there marked_st me x.selector (none_due s) untaken published free (finds is) i cancelled

  abbrev ended : State
  ended = with_begun (with_turn (with_gate swept_st s (record (st.gate s) { woken = false })) s None) s false

  ending-performed : (answer : Selected) → perform me (end_selection x answer) marked_st
      ≡ record { answer = done answer; state = ended }
  ending-performed answer =
      perform_then_on me (remove_all_cancelled x.selector x.listed)
      (λ _. end_wake x.selector >> (give_turn x.selector >> Plan.reply (done answer))) marked_st tt swept_st
      (remove-performed x.listed)
      ∙ (λ j. record {
        answer = done answer;
        state =
            record ended { put_due = λ t i. no_longer (t == s) (st.put_due t i) (none_due t i) j };
      })

  ended-is : settled_state ended ≡ selection_ended Now ds.shared s (shown x) pairs
  ended-is =
      ap (λ (y : State). with_begun (with_turn (with_gate y s (record (st.gate s) { woken = false })) s None) s false)
      (swept-over-is marked_st me x.selector (none_due s) untaken (over x.listed) (over-all x.listed refl)
      ∙ ap (λ (y : State). without_cancelled Now y s) settled-marks)

  pub ended-touched : (t : ℕ) → AreTouched st t → AreTouched ended t
  ended-touched = swept-touched marked_st me x.selector (none_due s) untaken (over x.listed)

  -- ---- the call

  pub told-amounts : (elapsed : Bool) → told_selection Now ds me s pairs elapsed (Some (shown x))
      ≡ F (perform me (told_plan x told elapsed) st)
  unfolding told_plan
  told-amounts elapsed =
      let gate = st.gate s in
      let interrupted = st.interrupted me.0 in
      branch F me (Plan.reply (again x)) (end_selection x
      (record { count = count; why = why_over x.mode count gate interrupted })) marked_st _ _
      (is_again gate interrupted x.mode elapsed count) (is_again_by_look x.mode count gate interrupted elapsed)
      (again-is x.mode count gate interrupted elapsed)
      (λ goes_on.
      let all : is_again gate interrupted x.mode elapsed count ≡ true =
      again-is x.mode count gate interrupted elapsed ∙ goes_on in
      λ j. record {
        reply = reply.Again;
        left =
            documented (record st { mark = λ t i. sym (unmarked (first_of_all all) t i) j }) now;
      })
      (λ _. (λ j. record {
        reply = reply.Selected count (why-is x.mode count gate interrupted j);
        left = record {
          shared = sym ended-is j;
          selection = sym (put-under (λ _ o. option_map (λ y. shown y.selection) o) now.selection s None) j;
          group = now.group;
          pipes = now.pipes;
        };
      })
      ∙ sym (ap F (ending-performed (record { count = count; why = why_over x.mode count gate interrupted }))))
      ∙ sym (ap F (perform_then_on me (sweep_over x.looked (mark_entry x.selector told) 0)
      (after_marks x elapsed) st count marked_st (marks-performed st me x pairs told rises in_set tells)))
    where
      first_of_all : is_again (st.gate s) (st.interrupted me.0) x.mode elapsed count ≡ true → count ≡ 0
      first_of_all all =
          let gate = st.gate s in
          let interrupted = st.interrupted me.0 in
          let going = goes_on x.mode elapsed in
          let to_shut =
          and_parts ((((count == 0) && going) && not gate.woken) && not gate.shut) (not interrupted) all in
          let to_woken = and_parts (((count == 0) && going) && not gate.woken) (not gate.shut) to_shut.0 in
          let to_going = and_parts ((count == 0) && going) (not gate.woken) to_woken.0 in
          eqb-true count 0 (and_parts (count == 0) going to_going.0).0

  -- what the call answers, and the state that it leaves: the selection goes on, or is over
  pub told-cases : (elapsed : Bool) (P : Performed ToldReply → Type 0)
      → P (record { answer = again x; state = marked_st })
      → ((answer : Selected) → P (record { answer = done answer; state = ended }))
      → P (perform me (told_plan x told elapsed) st)
  unfolding told_plan
  told-cases elapsed P continues over =
      subst P (sym (perform_then_on me (sweep_over x.looked (mark_entry x.selector told) 0)
      (after_marks x elapsed) st count marked_st (marks-performed st me x pairs told rises in_set tells)))
      (by_test (is_again_by_look x.mode count (st.gate s) (st.interrupted me.0) elapsed))
    where
      answer : Selected
      answer = record { count = count; why = why_over x.mode count (st.gate s) (st.interrupted me.0) }

      by_test : (b : Bool) → P (perform me (if b then Plan.reply (again x) else end_selection x answer) marked_st)
      by_test true = continues
      by_test false = subst P (sym (ending-performed answer)) (over answer)
