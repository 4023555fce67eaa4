-- Ending the closing of a selector amounts to the documented call.
use Rattle.std.proofs.Common.{◌≡◌, ◌≢◌, ℕ, ◌+◌, ◌<◌, ◌≤◌, ◌==◌, nat_lt, Bool, true, false, cond, not, ◌&&◌, ◌||◌}
use Rattle.std.proofs.Common.{Option, Some, None, is_some, is_none, ⊎_elim, refl, ap, sym, ◌∙◌, subst, arith, eq-eqb}
use Rattle.std.proofs.lemmas.Bool.{both_ways, and_right, and_from, cases_lt, lt-ltb, le-ltb}
use Rattle.nio_base.specs.declared.numbers.CallerNo.{CallerNo}
use Rattle.nio_base.specs.declared.numbers.SelNo.{SelNo}
use Rattle.nio_history.specs.Acts.{frees_index}
use Rattle.nio_history.specs.State.{State, put_at, with_entered}
use Rattle.nio_history.specs.declared.found.Stage.{Stage}
use Rattle.nio_language.specs.declared.reply.Reply.TheVariants as reply
use Rattle.nio_plain.proofs.Naming.{selector-through}
use Rattle.nio_plain.proofs.Places.{put_same, put_at_same}
use Rattle.nio_plain.specs.ScriptState.{ScriptState}
use Rattle.nio_plain.specs.Seq.Replies.{unchanged, replied}
use Rattle.nio_plain.specs.Seq.Closing.{close_end_call, without_keys}
use Rattle.nio_plain.specs.Seq.Removing.{without_keys_where}
use Rattle.nio_plain.specs.Seq.Selections.{is_caller}
use Rattle.nio_steps.proofs.PerformLaws.{perform_then_on, perform_sweep}
use Rattle.nio_steps.specs.Perform.{Performed, perform}
use Rattle.nio_steps.specs.Plan.{Plan}
use Rattle.nio_steps.specs.SelectCalls.{FinishReply, closed, busy, remove_key, remove_keys, try_finish_plan}
use Rattle.nio_steps.specs.Sweeps.{sweep_to}
use Rattle.nio_serial.proofs.Removing.{gone, removed_where, removed_none, removed_more, settled-removed}
use Rattle.nio_serial.specs.Documented.{Progress, settled_state, documented, amounts}
use Rattle.nio_serial.specs.Lines.{after_finish}
use Rattle.nio_serial.specs.Replies.{finish_reply}

lt_other : (j n : ℕ) → (j == n) ≡ false → nat_lt j (n + 1) ≡ nat_lt j n
lt_other j n other =
    ⊎_elim
    (λ (below : j < n). lt-ltb j (n + 1) (omega arith) ∙ sym (lt-ltb j n below))
    (λ (above : n ≤ j).
    let ne : j ≢ n = λ e. both_ways (j == n) other (eq-eqb j n e) in
    le-ltb j (n + 1) (omega arith) ∙ sym (le-ltb j n above))
    (cases_lt j n)

-- the indexes of the selector below n
abbrev pub below_in : ℕ → ℕ → ℕ → ℕ → Bool
below_in s n t j = (t == s) && nat_lt j n

below_more : (s n t j : ℕ) → ((t == s) && (j == n)) ≡ false → below_in s (n + 1) t j ≡ below_in s n t j
below_more s n t j other = by_selector (t == s) other
  where
    by_selector : (b : Bool) → (b && (j == n)) ≡ false → (b && nat_lt j (n + 1)) ≡ (b && nat_lt j n)
    by_selector true e = lt_other j n e
    by_selector false e = refl

module _ (st : State) (me : CallerNo) (s : SelNo) (idle : st.begun s.0 ≡ false)
    (none_due : (i : ℕ) → st.put_due s.0 i ≡ false) where
  abbrev none : Stage → Bool
  none k = false

  abbrev stands : ℕ → State
  stands n = removed_where st (below_in s.0 n) none

  turn : (n : ℕ) → perform me (remove_key s n) (stands n) ≡ record { answer = tt; state = stands (n + 1) }
  turn n =
      let now = stands n in
      (λ j. record {
        answer = tt;
        state = record now {
          key = put_at now.key s.0 n (gone (now.key s.0 n));
          free = sym (put_at_same now.free s.0 n (none (st.key s.0 n) || now.free s.0 n) refl) j;
          put_due = put_at_same st.put_due s.0 n (st.put_due s.0 n || (st.begun s.0 && frees_index (now.key s.0 n)))
              (none_due n ∙ (λ i. sym (none_due n) i || (sym idle i && frees_index (now.key s.0 n)))) j;
        };
      })
      ∙ ap (λ x. record { answer = tt; state = x }) (removed_more st none (below_in s.0 n) (below_in s.0 (n + 1)) s.0 n
      (and_from (s.0 == s.0) (nat_lt n (n + 1)) (eq-eqb s.0 s.0 refl) (lt-ltb n (n + 1) (omega arith)))
      (below_more s.0 n))

  pub remove_keys-performed : perform me (remove_keys s) st ≡ record {
    answer = closed;
    state = stands (st.keys_high s.0);
  }
  remove_keys-performed =
      perform_then_on me (sweep_to (st.keys_high s.0) 0 (λ i _. remove_key s i) tt) (λ _. Plan.reply closed) st tt
      (stands (st.keys_high s.0))
      (ap (perform me (sweep_to (st.keys_high s.0) 0 (λ i _. remove_key s i) tt))
      (removed_none st none (below_in s.0 0) (λ t j. and_right (t == s.0) (nat_lt j 0) (le-ltb j 0 (omega arith))))
      ∙ perform_sweep me (st.keys_high s.0) 0 (λ i _. remove_key s i) (λ _. tt) stands (omega arith) (λ n _ _. turn n))

pub close_end-amounts : (st : State) (now : Progress) (me : CallerNo) (s : SelNo)
    → st.begun s.0 ≡ is_some (st.turn s.0) → ((i : ℕ) → st.put_due s.0 i ≡ false)
    → ((i : ℕ) → (st.key s.0 i).claimed ≡ nat_lt i (st.keys_high s.0))
    → st.selector s.0 ≡ true → is_caller me (st.closer s.0) ≡ true → st.entered s.0 ≡ false
    → close_end_call (documented st now) me s ≡ amounts finish_reply (after_finish now s)
    (perform me (try_finish_plan s) st)
unfolding close_end_call try_finish_plan
close_end-amounts st now me s begun none_due exact made own not_entered =
    selector-through ds s made _
    ∙ (ap (λ b. cond b (unchanged ds reply.NotClosing)
    (cond (is_some (st.turn s.0)) (unchanged ds reply.Busy)
    (replied ds reply.Closed (with_entered (without_keys ds.shared s.0) s.0 true))))
    (λ j. not (own j) || not_entered j)
    ∙ by_turn (st.turn s.0) refl)
  where
    ds : ScriptState
    ds = documented st now

    by_turn : (o : Option CallerNo) → st.turn s.0 ≡ o
        → cond (is_some o) (unchanged ds reply.Busy)
        (replied ds reply.Closed (with_entered (without_keys ds.shared s.0) s.0 true))
        ≡ amounts finish_reply (after_finish now s)
        (perform me (cond (is_some o) (Plan.reply busy) (remove_keys s))
        (with_entered st s.0 (st.entered s.0 || is_none o)))
    by_turn (Some n) is = ap (λ f. record { reply = reply.Busy; left = documented (record st { entered = f }) now })
        (sym (put_same st.entered s.0 (st.entered s.0 || false) (not_entered ∙ (λ j. sym not_entered j || false))))
    by_turn None is =
        let entered_st = with_entered st s.0 (st.entered s.0 || true) in
        (λ j. record {
          reply = reply.Closed;
          left = record ds {
            shared = without_keys_where (settled_state (with_entered st s.0 (sym now_entered j))) s.0 (λ i. exact i j)
                (λ _. false);
          };
        })
        ∙ (ap (λ x. record { reply = reply.Closed; left = record ds { shared = x } })
        (sym (settled-removed entered_st (λ _. false) s.0 (λ i. nat_lt i (st.keys_high s.0)) (λ _. refl)))
        ∙ sym (ap (amounts finish_reply (after_finish now s))
        (remove_keys-performed entered_st me s (begun ∙ ap is_some is) none_due)))
      where
        now_entered : (st.entered s.0 || true) ≡ true
        now_entered = λ j. not_entered j || true

-- what the call answers, and the state that it leaves: a caller selects, or the closing has ended
pub finish-cases : (st : State) (me : CallerNo) (s : SelNo) → st.begun s.0 ≡ is_some (st.turn s.0)
    → (none_due : (i : ℕ) → st.put_due s.0 i ≡ false) → st.entered s.0 ≡ false
    → (P : Performed FinishReply → Type 0) → P (record { answer = busy; state = st })
    → P (record {
      answer = closed;
      state =
          removed_where (with_entered st s.0 (st.entered s.0 || true)) (below_in s.0 (st.keys_high s.0))
          (λ _. false);
    })
    → P (perform me (try_finish_plan s) st)
unfolding try_finish_plan
finish-cases st me s begun none_due not_entered P selecting ends = by_turn (st.turn s.0) refl
  where
    by_turn : (o : Option CallerNo) → st.turn s.0 ≡ o
        → P (perform me (cond (is_some o) (Plan.reply busy) (remove_keys s))
        (with_entered st s.0 (st.entered s.0 || is_none o)))
    by_turn (Some n) is =
        subst P (λ j. record {
          answer = busy;
          state =
              record st {
                entered =
                    sym (put_same st.entered s.0 (st.entered s.0 || false)
                    (not_entered ∙ (λ i. sym not_entered i || false))) j;
              };
        }) selecting
    by_turn None is =
        subst P (sym
        (remove_keys-performed (with_entered st s.0 (st.entered s.0 || true)) me s
        (begun ∙ ap is_some is) none_due)) ends
