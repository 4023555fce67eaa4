-- The making of a new key, performed on a state in which nobody else is at work.
use Rattle.std.proofs.Common.{◌≡◌, ℕ, suc, ◌+◌, ◌<◌, ◌≤◌, max, nat_lt, Bool, true, false, not, if◌then◌else◌, Option}
use Rattle.std.proofs.Common.{Some, None, Result, Ok, Err, refl, ap, sym, ◌∙◌, add-one, arith}
use Rattle.std.proofs.lemmas.Bool.{ltb-true, ltb-false}
use Rattle.nio_base.specs.declared.limits.Limits.{Limits}
use Rattle.nio_base.specs.declared.numbers.CallerNo.{CallerNo}
use Rattle.nio_base.specs.declared.numbers.ChanId.{ChanId}
use Rattle.nio_base.specs.declared.numbers.KeyId.{KeyId}
use Rattle.nio_base.specs.declared.numbers.KeyNo.{KeyNo}
use Rattle.nio_base.specs.declared.numbers.SelNo.{SelNo}
use Rattle.nio_history.proofs.Put.{put_at-same}
use Rattle.nio_history.specs.Acts.{new_key}
use Rattle.nio_history.specs.Sets.{is_open_channel}
use Rattle.nio_history.specs.State.{State, unmarked, put, put_at, with_enrolled, with_keys_high, with_interest}
use Rattle.nio_history.specs.State.{with_mark, with_note, with_touched, with_amid}
use Rattle.nio_history.specs.declared.found.Stage.{Stage}
use Rattle.nio_plain.proofs.Found.{found_below}
use Rattle.nio_plain.proofs.Places.{put_same, put_at_same, put_at-twice}
use Rattle.nio_plain.specs.Seq.Registering.{free_index, next_by, next_key, new_stage, with_new_key}
use Rattle.nio_steps.proofs.PerformLaws.{perform_else, perform_then_on}
use Rattle.nio_steps.specs.ChannelCalls.{claim_new, search_free, settle_key, publish_key, make_key, make_claimed}
use Rattle.nio_steps.specs.ChannelCalls.{register_first, register_again, register_next, register_new}
use Rattle.nio_steps.specs.Names.{key}
use Rattle.nio_steps.specs.Perform.{Performed, perform}
use Rattle.nio_steps.specs.Plan.{Plan, when, ◌>>=◌, ◌>>◌}
use Rattle.nio_steps.specs.Steps.{cancel_key, unpin}
use Rattle.nio_steps.specs.Sweeps.{seek_to}
use Rattle.nio_steps.specs.declared.refusal.ChannelError.{ChannelError}
use Rattle.nio_serial.proofs.Base.{pin-back, caller-back}
use Rattle.nio_serial.proofs.Claiming.{claimed_again, next_at, found, search-performed, claimed_first, first-performed}
use Rattle.nio_serial.proofs.Claiming.{full-performed}

-- a claimed index is touched and gets its parts, its key is enrolled and published, and the pin of the claim is given
-- back
pub made-performed : (st : State) (me : CallerNo) (s : SelNo) (c : ChanId) (ops att : ℕ) (k : KeyId)
    → st.key s.0 k.index ≡ new_key c.number k.serial → (st.gate s.0).shut ≡ false
    → is_open_channel (st.chan c.number.0) c.serial ≡ true
    → perform me (make_claimed s c ops att k) st
    ≡ record {
      answer = Ok (key s k);
      state = record (with_enrolled (with_note (with_interest st s.0 k.index ops) s.0 k.index att) c.number.0 s.0
          (Some k)) {
            key = put_at st.key s.0 k.index (new_stage c.number.0 k.serial);
            pinned = put_at st.pinned s.0 k.index (put (st.pinned s.0 k.index) me.0 false);
            touched = put_at st.touched s.0 k.index true;
            amid = (with_amid (with_amid st s.0 k.index me.0 (st.pinned s.0 k.index me.0)) s.0 k.index me.0 false).amid;
          };
    }
made-performed st me s c ops att k claimed not_shut is_open =
    perform_then_on me (make_key s c ops att k) (λ answer. unpin s k.index >> Plan.reply answer) st
    (Ok (key s k)) published
    (perform_else me (st.gate s.0).shut (Plan.reply (Err ChannelError.ClosedSelector))
    (publish_key s c ops att k) st not_shut
    ∙ (ap (λ (x : Stage). perform me
    (if x.removed then Plan.reply (Err ChannelError.ClosedSelector) else settle_key s c k)
    (record enrolled { key = put_at st.key s.0 k.index (record x { published = true }) })) claimed
    ∙ ap (λ (b : Bool). perform me (when (not b) (cancel_key s k.index) >> Plan.reply (Ok (key s k))) published)
    is_open))
  where
    touching : State
    touching = with_amid (with_touched st s.0 k.index true) s.0 k.index me.0 (st.pinned s.0 k.index me.0)

    enrolled : State
    enrolled =
        with_enrolled (with_note (with_interest touching s.0 k.index ops) s.0 k.index att) c.number.0 s.0 (Some k)

    published : State
    published = record enrolled { key = put_at st.key s.0 k.index (new_stage c.number.0 k.serial) }

module _ (l : Limits) (st : State) (me : CallerNo) (s : SelNo) (c : ChanId) (ops att : ℕ)
    (unpinned : (i n : ℕ) → st.pinned s.0 i n ≡ false) (still : (i : ℕ) → st.amid s.0 i me.0 ≡ false)
    (untaken : (i : ℕ) → st.taker s.0 i ≡ None)
    (exact : (i : ℕ) → (st.key s.0 i).claimed ≡ nat_lt i (st.keys_high s.0))
    (fresh_mark : st.mark s.0 (st.keys_high s.0) ≡ unmarked) (fresh_free : st.free s.0 (st.keys_high s.0) ≡ false)
    (not_shut : (st.gate s.0).shut ≡ false) (is_open : is_open_channel (st.chan c.number.0) c.serial ≡ true) where
  abbrev mark : ℕ
  mark = st.keys_high s.0

  -- the new key, or none where every index is claimed and none is free
  abbrev pub made : Option KeyId → Performed (Result KeyNo ChannelError)
  made None = record { answer = Err ChannelError.Full; state = st }
  made (Some k) = record {
    answer = Ok (key s k);
    state = record (with_new_key st s.0 c.number.0 k ops att) { touched = put_at st.touched s.0 k.index true };
  }

  -- a claimed index is made the key, whatever key stood there before
  module _ (k : KeyId) (claimed : State) (is : claimed.key ≡ put_at st.key s.0 k.index (new_key c.number k.serial))
      (pinned_is : claimed.pinned ≡ put_at st.pinned s.0 k.index (put (st.pinned s.0 k.index) me.0 true))
      (amid_is : claimed.amid ≡ st.amid) (gate_is : claimed.gate ≡ st.gate) (chan_is : claimed.chan ≡ st.chan) where
    there : claimed.key s.0 k.index ≡ new_key c.number k.serial
    there = ap (λ f. f s.0 k.index) is ∙ put_at-same st.key s.0 k.index (new_key c.number k.serial)

    key-made : put_at claimed.key s.0 k.index (new_stage c.number.0 k.serial) ≡ put_at st.key s.0 k.index
        (new_stage c.number.0 k.serial)
    key-made =
        ap (λ f. put_at f s.0 k.index (new_stage c.number.0 k.serial)) is
        ∙ put_at-twice st.key s.0 k.index (new_key c.number k.serial) (new_stage c.number.0 k.serial)

    pins-made : put_at claimed.pinned s.0 k.index (put (claimed.pinned s.0 k.index) me.0 false) ≡ st.pinned
    pins-made =
        ap (λ f. put_at f s.0 k.index (put (f s.0 k.index) me.0 false)) pinned_is
        ∙ pin-back st.pinned s.0 k.index me.0 (unpinned k.index me.0)

    changes-made : (with_amid (with_amid claimed s.0 k.index me.0 (claimed.pinned s.0 k.index me.0)) s.0 k.index me.0
        false).amid ≡ st.amid
    changes-made =
        ap (λ f. (with_amid (with_amid (record claimed { amid = f }) s.0 k.index me.0
        (claimed.pinned s.0 k.index me.0)) s.0 k.index me.0 false).amid) amid_is
        ∙ caller-back st.amid s.0 k.index me.0 (claimed.pinned s.0 k.index me.0) (still k.index)

    claimed-made : perform me (make_claimed s c ops att k) claimed
        ≡ record {
          answer = Ok (key s k);
          state = record (with_enrolled (with_note (with_interest claimed s.0 k.index ops) s.0 k.index att) c.number.0
              s.0 (Some k)) {
                key = put_at st.key s.0 k.index (new_stage c.number.0 k.serial);
                pinned = st.pinned;
                touched = put_at claimed.touched s.0 k.index true;
                amid = st.amid;
              };
        }
    claimed-made =
        made-performed claimed me s c ops att k there (ap (λ f. (f s.0).shut) gate_is ∙ not_shut)
        (ap (λ f. is_open_channel (f c.number.0) c.serial) chan_is ∙ is_open)
        ∙ (λ j. record {
          answer = Ok (key s k);
          state =
              record (with_enrolled (with_note (with_interest claimed s.0 k.index ops) s.0 k.index att) c.number.0 s.0
              (Some k)) {
                key = key-made j;
                pinned = pins-made j;
                touched = put_at claimed.touched s.0 k.index true;
                amid = changes-made j;
              };
        })

  again-made : (i : ℕ) → i < mark
      → perform me (register_again s c ops att (next_at st me s c.number unpinned untaken i))
      (claimed_again st me s c.number unpinned untaken i)
      ≡ made (Some (next_at st me s c.number unpinned untaken i))
  again-made i low =
      claimed-made k (with_mark (claimed_again st me s c.number unpinned untaken i) s.0 i unmarked) refl refl refl refl refl
      ∙ (λ j. record {
        answer = Ok (key s k);
        state = record (with_new_key st s.0 c.number.0 k ops att) {
          keys_high = sym (put_same st.keys_high s.0 (max mark (suc i)) (omega arith)) j;
          touched = put_at st.touched s.0 k.index true;
        };
      })
    where
      k : KeyId
      k = next_at st me s c.number unpinned untaken i

  first-made : mark < l.keys
      → perform me (seek_to l.keys mark (claim_new s c.number) >>= register_first s c ops att) st
      ≡ made (Some (record { index = mark; serial = 0 }))
  first-made room =
      perform_then_on me (seek_to l.keys mark (claim_new s c.number)) (register_first s c ops att) st (Some k) claimed
      (first-performed st me s c.number exact (λ i. unpinned i me.0) l room)
      ∙ (claimed-made k (with_keys_high claimed s.0 (max mark (mark + 1))) refl refl refl refl refl
      ∙ (λ j. record {
        answer = Ok (key s k);
        state = record (with_new_key st s.0 c.number.0 k ops att) {
          keys_high = put st.keys_high s.0 (max mark (add-one mark j));
          mark = sym (put_at_same st.mark s.0 mark unmarked fresh_mark) j;
          free = sym (put_at_same st.free s.0 mark false fresh_free) j;
          touched = put_at st.touched s.0 k.index true;
        };
      }))
    where
      k : KeyId
      k = record { index = mark; serial = 0 }

      claimed : State
      claimed = claimed_first st me s c.number exact (λ i. unpinned i me.0)

  first-full : l.keys ≤ mark
      → perform me (seek_to l.keys mark (claim_new s c.number) >>= register_first s c ops att) st ≡ made None
  first-full full =
      perform_then_on me (seek_to l.keys mark (claim_new s c.number)) (register_first s c ops att) st None st
      (full-performed st me s c.number exact (λ i. unpinned i me.0) l full)

  pub new-performed : perform me (register_new l s c ops att) st ≡ made (next_key l st s.0)
  new-performed =
      perform_then_on me (search_free s c.number mark) (register_next l s c ops att mark) st _ _
      (search-performed st me s c.number unpinned untaken mark)
      ∙ by_free (free_index st s.0) refl
    where
      by_free : (o : Option ℕ) → free_index st s.0 ≡ o
          → perform me (register_next l s c ops att mark (found st me s c.number unpinned untaken mark o).answer)
          (found st me s c.number unpinned untaken mark o).state ≡ made (next_by l st s.0 o)
      by_free (Some i) is = again-made i (found_below (λ j. st.free s.0 j) mark i is).1
      by_free None is = by_room (nat_lt mark l.keys) refl
        where
          by_room : (b : Bool) → nat_lt mark l.keys ≡ b
              → perform me (seek_to l.keys mark (claim_new s c.number) >>= register_first s c ops att) st
              ≡ made (if b then Some (record { index = mark; serial = 0 }) else None)
          by_room true e = first-made (ltb-true mark l.keys e)
          by_room false e = first-full (ltb-false mark l.keys e)
