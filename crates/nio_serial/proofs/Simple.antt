-- The calls of one look at a channel, those of one step, and the opening of a selector: they amount to the documented
-- ones.
use Rattle.std.proofs.Common.{◌≡◌, ℕ, ◌-◌, ◌<◌, nat_lt, Bool, true, false, cond, not, Option, Some, None, option_map}
use Rattle.std.proofs.Common.{find, refl, ap, sym, ◌∙◌, arith}
use Rattle.std.proofs.lemmas.Bool.{lt-ltb, not-true, not-false, cond-true}
use Rattle.nio_base.specs.declared.limits.Limits.{Limits}
use Rattle.nio_base.specs.declared.numbers.CallerNo.{CallerNo}
use Rattle.nio_base.specs.declared.numbers.ChanId.{ChanId}
use Rattle.nio_base.specs.declared.numbers.KeyId.{KeyId}
use Rattle.nio_base.specs.declared.numbers.SelNo.{SelNo}
use Rattle.nio_history.specs.Sets.{was_opened}
use Rattle.nio_history.specs.State.{State, with_selector, with_gate, with_closer}
use Rattle.nio_language.specs.declared.reply.Reply.{Reply}
use Rattle.nio_language.specs.declared.reply.Reply.TheVariants as reply
use Rattle.nio_plain.proofs.Naming.{channel-through, selector-through}
use Rattle.nio_plain.proofs.Places.{put_same}
use Rattle.nio_plain.specs.ScriptState.{ScriptState}
use Rattle.nio_plain.specs.Seq.Replies.{Replied, unchanged, replied, yes_or_no}
use Rattle.nio_plain.specs.Seq.Closing.{close_call}
use Rattle.nio_plain.specs.Seq.Modes.{key_of_channel, name_or_none, is_blocking_call, is_open_call, is_registered_call}
use Rattle.nio_plain.specs.Seq.Modes.{key_for_call}
use Rattle.nio_plain.specs.Seq.Opening.{selector_made, selector_call}
use Rattle.nio_plain.specs.Seq.Wakeups.{wakeup_call, interrupt_call, interrupted_call}
use Rattle.nio_steps.proofs.PerformLaws.{perform_then_on, perform_seek, indexes, found_at}
use Rattle.nio_steps.specs.ChannelCalls.{is_open_plan, is_blocking_plan, is_registered_plan, key_for_plan}
use Rattle.nio_steps.specs.Names.{selector, key}
use Rattle.nio_steps.specs.Perform.{Performed, perform}
use Rattle.nio_steps.specs.Plan.{Plan}
use Rattle.nio_steps.specs.SelectCalls.{makes_selector, opened_selector, open_selector_plan, shut_plan, closing}
use Rattle.nio_steps.specs.SelectCalls.{already_closed, wakeup_plan, interrupt_plan, interrupted_plan}
use Rattle.nio_steps.specs.Sweeps.{seek_to}
use Rattle.nio_serial.proofs.Finding.{find-below, key_for-performed, registered-performed}
use Rattle.nio_serial.specs.Documented.{Progress, documented, amounts}
use Rattle.nio_serial.specs.Lines.{after_shut}
use Rattle.nio_serial.specs.Replies.{find_reply, selector_reply, shut_reply}

module _ (st : State) (now : Progress) (me : CallerNo) where
  abbrev ds : ScriptState
  ds = documented st now

  -- a call that changes nothing in progress
  abbrev stays : {R : Type 0} → (R → Reply) → Performed R → Replied
  stays said done = amounts said (λ _. now) done

  -- ---- channels

  module _ (c : ChanId) (made : was_opened (st.chan c.number.0) c.serial ≡ true) where
    pub is_blocking-amounts : is_blocking_call ds c ≡ stays yes_or_no (perform me (is_blocking_plan c) st)
    unfolding is_blocking_call is_blocking_plan
    is_blocking-amounts = channel-through ds c made _

    pub is_open-amounts : is_open_call ds c ≡ stays yes_or_no (perform me (is_open_plan c) st)
    unfolding is_open_call is_open_plan
    is_open-amounts = channel-through ds c made _

    pub is_registered-amounts : (l : Limits)
        → is_registered_call l ds c ≡ stays yes_or_no (perform me (is_registered_plan l c) st)
    unfolding is_registered_call
    is_registered-amounts l = channel-through ds c made _ ∙ sym (ap (stays yes_or_no) (registered-performed l me c st))

    named : (s : SelNo) (o : Option KeyId) → name_or_none o ≡ find_reply (option_map (key s) o)
    named s None = refl
    named s (Some k) = refl

    pub key_for-amounts : (s : SelNo) → st.selector s.0 ≡ true
        → key_for_call ds c s ≡ stays find_reply (perform me (key_for_plan c s) st)
    unfolding key_for_call
    key_for-amounts s there =
        channel-through ds c made _ ∙ (selector-through ds s there _
        ∙ (ap (λ r. unchanged ds r) (named s (key_of_channel st c s.0))
        ∙ sym (ap (stays find_reply) (key_for-performed me c s st))))

  -- ---- one step

  module _ (s : SelNo) (made : st.selector s.0 ≡ true) where
    pub wakeup-amounts : wakeup_call ds s ≡ stays (λ _. reply.«Ok») (perform me (wakeup_plan s) st)
    unfolding wakeup_call wakeup_plan
    wakeup-amounts = selector-through ds s made _

    pub close-amounts : close_call ds me s ≡ amounts shut_reply (after_shut now me s) (perform me (shut_plan s) st)
    unfolding close_call shut_plan
    close-amounts = selector-through ds s made _ ∙ by_shut (st.gate s.0).shut refl
      where
        by_shut : (b : Bool) → (st.gate s.0).shut ≡ b
            → cond b (unchanged ds reply.Already) (replied ds reply.Closing
            (with_closer (with_gate ds.shared s.0 (record (st.gate s.0) { shut = true })) s.0 (Some me)))
            ≡ amounts shut_reply (after_shut now me s) (record {
              answer = cond b already_closed closing;
              state =
                  with_closer (with_gate st s.0 (record (st.gate s.0) { shut = true })) s.0
                  (cond b (st.closer s.0) (Some me));
            })
        by_shut true e = λ j. record {
          reply = reply.Already;
          left = documented (record st {
            gate = sym (put_same st.gate s.0 (record (st.gate s.0) { shut = true })
                (λ i. record (st.gate s.0) { shut = e i })) j;
            closer = sym (put_same st.closer s.0 (st.closer s.0) refl) j;
          }) now;
        }
        by_shut false e = refl

  pub interrupt-amounts : (l : Limits) (target : CallerNo) → target.0 < l.callers
      → interrupt_call l ds target ≡ stays (λ _. reply.«Ok») (perform me (interrupt_plan target) st)
  unfolding interrupt_call interrupt_plan
  interrupt-amounts l target below = cond-true (nat_lt target.0 l.callers) _ _ (lt-ltb target.0 l.callers below)

  pub interrupted-amounts : interrupted_call ds me ≡ stays yes_or_no (perform me interrupted_plan st)
  unfolding interrupted_call interrupted_plan
  interrupted-amounts = refl

  -- ---- opening

  pub selector-amounts : (l : Limits) → selector_call l ds ≡ stays selector_reply (perform me (open_selector_plan l) st)
  unfolding selector_call open_selector_plan
  selector-amounts l =
      let unmade : ℕ → Bool = λ n. not (st.selector n) in
      let o = find unmade (indexes 0 (l.selectors - 0)) in
      ap (selector_made ds) (sym (find-below unmade l.selectors))
      ∙ (by_found o
      ∙ sym (ap (stays selector_reply) (perform_then_on me (seek_to l.selectors 0 (λ n. makes_selector (selector n)))
      (λ made. Plan.reply (opened_selector made)) st
      (found_at st selector (λ n. with_selector st n true) o).answer
      (found_at st selector (λ n. with_selector st n true) o).state
      (perform_seek me l.selectors 0 (λ n. makes_selector (selector n)) unmade selector st
      (λ n. with_selector st n true) (omega arith)
      (λ n _ _ is. ap (made_already n) (not-false (st.selector n) is)
      ∙ ap (λ f. record { answer = None; state = record st { selector = f } })
      (put_same st.selector n true (not-false (st.selector n) is)))
      (λ n _ _ is. ap (made_already n) (not-true (st.selector n) is))))))
    where
      made_already : ℕ → Bool → Performed (Option SelNo)
      made_already n b = record { answer = cond b None (Some (selector n)); state = with_selector st n true }

      by_found : (o : Option ℕ) → selector_made ds o
          ≡ stays selector_reply (record {
            answer =
                opened_selector (found_at st selector (λ n. with_selector st n true) o).answer;
            state =
                (found_at st selector (λ n. with_selector st n true) o).state;
          })
      by_found None = refl
      by_found (Some n) = refl
