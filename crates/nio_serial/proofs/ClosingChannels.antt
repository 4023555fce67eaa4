-- Closing a channel amounts to the documented call.
use Rattle.std.proofs.Common.{◌≡◌, ◌≢◌, ℕ, ◌+◌, ◌<◌, ◌≤◌, ◌==◌, nat_lt, Bool, true, false, cond, not, ◌&&◌, ◌||◌}
use Rattle.std.proofs.Common.{Option, Some, None, if◌then◌else◌, ⊎_elim, refl, ap, sym, ◌∙◌, subst, arith, eqb-true}
use Rattle.std.proofs.Common.{eq-eqb}
use Rattle.std.proofs.lemmas.Bool.{and_parts, and_from, and_left, and_right, both_ways, cases_eq, cases_lt, lt-ltb}
use Rattle.std.proofs.lemmas.Bool.{le-ltb, ne_eqb, not-true, cond-false}
use Rattle.nio_base.specs.declared.limits.Limits.{Limits}
use Rattle.nio_base.specs.declared.numbers.CallerNo.{CallerNo}
use Rattle.nio_base.specs.declared.numbers.ChanId.{ChanId}
use Rattle.nio_base.specs.declared.numbers.ChanNo.{ChanNo}
use Rattle.nio_base.specs.declared.numbers.KeyId.{KeyId}
use Rattle.nio_base.specs.declared.numbers.SelNo.{SelNo}
use Rattle.nio_history.proofs.Put.{put-same, put_at-same}
use Rattle.nio_history.specs.Acts.{closes_from}
use Rattle.nio_history.specs.Sets.{fits, in_key_set, is_in_key_set, fits_channel, was_opened, is_open_channel}
use Rattle.nio_history.specs.State.{State, put_at, with_chan, with_pin}
use Rattle.nio_history.specs.declared.found.Chan.{Chan}
use Rattle.nio_history.specs.declared.found.Mark.{Mark}
use Rattle.nio_history.specs.declared.found.Stage.{Stage}
use Rattle.nio_language.specs.declared.reply.Reply.{Reply}
use Rattle.nio_language.specs.declared.reply.Reply.TheVariants as reply
use Rattle.nio_plain.proofs.Naming.{channel-through}
use Rattle.nio_plain.proofs.Places.{put_at_same}
use Rattle.nio_plain.specs.ScriptState.{ScriptState}
use Rattle.nio_plain.specs.Seq.Replies.{replied}
use Rattle.nio_plain.specs.Seq.Cancelling.{cancelled_key, channel_closed, has_index, closec_call}
use Rattle.nio_plain.specs.Seq.Modes.{if_in_key_set, key_of}
use Rattle.nio_plain.specs.Seq.Pipes.{sealing, own_sink}
use Rattle.nio_steps.proofs.PerformLaws.{perform_then, perform_then_on, perform_sweep}
use Rattle.nio_steps.specs.ChannelCalls.{cancel_at, cancel_enrolled, cancel_keys, close_once_more, close_found}
use Rattle.nio_steps.specs.ChannelCalls.{close_channel_plan}
use Rattle.nio_steps.specs.KeyCalls.{cancel_plan, cancel_pinned, cancel_present}
use Rattle.nio_steps.specs.Names.{selector, key}
use Rattle.nio_steps.specs.Perform.{perform}
use Rattle.nio_steps.specs.Plan.{Plan, when}
use Rattle.nio_steps.specs.Sweeps.{sweep_to}
use Rattle.nio_serial.proofs.Base.{IsOff, pin-back, caller-back, caller-off, in_set-is, branch, unpinned, perform_pinned}
use Rattle.nio_serial.specs.Documented.{Progress, settled, settled_mark, settled_state, documented, amounts}
use Rattle.nio_serial.specs.PipeLines.{with_seal}
use Rattle.nio_serial.specs.Replies.{closed_reply}

-- ---- one key

-- the key of the index is cancelled, and the index touched, where the key is there
abbrev pub cancelled_at : State → SelNo → KeyId → Bool → State
cancelled_at st s k there = record st {
  key = put_at st.key s.0 k.index (cond there (cancelled_key (st.key s.0 k.index)) (st.key s.0 k.index));
  touched = put_at st.touched s.0 k.index (cond there true (st.touched s.0 k.index));
}

pub cancel-performed : (st : State) (me : CallerNo) (s : SelNo) (k : KeyId)
    → IsOff st.pinned st.amid s.0 k.index me.0
    → (st.key s.0 k.index).claimed ≡ (st.key s.0 k.index).published
    → let stage = st.key s.0 k.index in
    perform me (cancel_plan (key s k)) st ≡ record {
      answer = tt;
      state = cancelled_at st s k (is_in_key_set stage k.serial);
    }
unfolding cancel_plan
cancel-performed st me s k off whole =
    perform_pinned me s k.index (cancel_present (key s k)) st
    ∙ by_set (fits stage k.serial && not stage.removed) (in_set-is stage k.serial whole)
  where
    stage : Stage
    stage = st.key s.0 k.index

    held : State
    held = with_pin st s.0 k.index me.0 true

    by_set : (b : Bool) → b ≡ is_in_key_set stage k.serial
        → unpinned me s k.index (perform me (when b (cancel_pinned s k.index)) held)
        ≡ record { answer = tt; state = cancelled_at st s k (is_in_key_set stage k.serial) }
    by_set true same =
        (λ j. record {
          answer = tt;
          state = record (cancelled_at st s k true) {
            pinned = pin-back st.pinned s.0 k.index me.0 off.unpinned j;
            amid = caller-back st.amid s.0 k.index me.0 (held.pinned s.0 k.index me.0) off.unchanging j;
          };
        })
        ∙ ap (λ b. record { answer = tt; state = cancelled_at st s k b }) same
    by_set false same =
        (λ j. record {
          answer = tt;
          state = record st {
            key = sym (put_at_same st.key s.0 k.index stage refl) j;
            pinned = pin-back st.pinned s.0 k.index me.0 off.unpinned j;
            touched = sym (put_at_same st.touched s.0 k.index (st.touched s.0 k.index) refl) j;
            amid = caller-off st.amid s.0 k.index me.0 off.unchanging j;
          };
        })
        ∙ ap (λ b. record { answer = tt; state = cancelled_at st s k b }) same

-- ---- the keys of a number's channel

lt_more : (s n : ℕ) → s ≢ n → nat_lt s (n + 1) ≡ nat_lt s n
lt_more s n other =
    ⊎_elim
    (λ (below : s < n). lt-ltb s (n + 1) (omega arith) ∙ sym (lt-ltb s n below))
    (λ (above : n ≤ s). le-ltb s (n + 1) (omega arith) ∙ sym (le-ltb s n above))
    (cases_lt s n)

module _ (st : State) (c : ℕ) {A : Type 0} (f : ℕ → ℕ → A) (g : A → A) where
  -- what stands at the keys of the number's channel, changed in the selectors below n
  abbrev pub changed_below : ℕ → ℕ → ℕ → A
  changed_below n s i = cond (nat_lt s n && has_index (key_of st c s) i) (g (f s i)) (f s i)

  -- at the selector whose turn comes nothing is changed yet
  not_yet : (n i : ℕ) → changed_below n n i ≡ f n i
  not_yet n i = ap (λ b. cond (b && has_index (key_of st c n) i) (g (f n i)) (f n i)) (le-ltb n n (omega arith))

  -- after its turn
  done_here : (n i : ℕ) → changed_below (n + 1) n i ≡ cond (has_index (key_of st c n) i) (g (f n i)) (f n i)
  done_here n i = ap (λ b. cond (b && has_index (key_of st c n) i) (g (f n i)) (f n i)) (lt-ltb n (n + 1) (omega arith))

  -- and at every other
  others : (n s i : ℕ) → s ≢ n → changed_below (n + 1) s i ≡ changed_below n s i
  others n s i other =
      ap (λ b. cond (b && has_index (key_of st c s) i) (g (f s i)) (f s i)) (lt_more s n other)

  module _ (n : ℕ) where
    none_there : st.enrolled c n ≡ None → (s i : ℕ) → changed_below n s i ≡ changed_below (n + 1) s i
    none_there none s i =
        ⊎_elim
        (λ (e : s ≡ n). subst (λ (m : ℕ). changed_below n m i ≡ changed_below (n + 1) m i) (sym e)
        (not_yet n i
        ∙ sym (done_here n i ∙ ap (λ o. cond (has_index (if_in_key_set st n o) i) (g (f n i)) (f n i)) none)))
        (λ (other : s ≢ n). sym (others n s i other))
        (cases_eq s n)

    one_there : (k : KeyId) → st.enrolled c n ≡ Some k
        → let there = is_in_key_set (st.key n k.index) k.serial in
        (s i : ℕ) → put_at (changed_below n) n k.index (cond there (g (f n k.index)) (f n k.index)) s i
        ≡ changed_below (n + 1) s i
    one_there k is s i = ⊎_elim same_selector other_selector (cases_eq s n)
      where
        there : Bool
        there = is_in_key_set (st.key n k.index) k.serial

        x : A
        x = cond there (g (f n k.index)) (f n k.index)

        now_there : (j : ℕ) → changed_below (n + 1) n j
            ≡ cond (has_index (cond there (Some k) None) j) (g (f n j)) (f n j)
        now_there j =
            done_here n j ∙ ap (λ o. cond (has_index (if_in_key_set st n o) j) (g (f n j)) (f n j)) is

        at_index : (b : Bool) → cond b (g (f n k.index)) (f n k.index)
            ≡ cond (has_index (cond b (Some k) None) k.index) (g (f n k.index)) (f n k.index)
        at_index true = ap (λ b. cond b (g (f n k.index)) (f n k.index)) (sym (eq-eqb k.index k.index refl))
        at_index false = refl

        beside : (j : ℕ) → j ≢ k.index → (b : Bool) → has_index (cond b (Some k) None) j ≡ false
        beside j other true = ne_eqb k.index j (λ e. other (sym e))
        beside j other false = refl

        same_index : i ≡ k.index → put_at (changed_below n) n k.index x n i ≡ changed_below (n + 1) n i
        same_index e =
            subst (λ (j : ℕ). put_at (changed_below n) n k.index x n j ≡ changed_below (n + 1) n j) (sym e)
            (put_at-same (changed_below n) n k.index x ∙ (at_index there ∙ sym (now_there k.index)))

        other_index : i ≢ k.index → put_at (changed_below n) n k.index x n i ≡ changed_below (n + 1) n i
        other_index other =
            cond-false ((n == n) && (i == k.index)) x (changed_below n n i)
            (and_right (n == n) (i == k.index) (ne_eqb i k.index other))
            ∙ (not_yet n i ∙ sym (now_there i ∙ ap (λ b. cond b (g (f n i)) (f n i)) (beside i other there)))

        same_selector : s ≡ n → put_at (changed_below n) n k.index x s i ≡ changed_below (n + 1) s i
        same_selector e =
            subst (λ (m : ℕ). put_at (changed_below n) n k.index x m i ≡ changed_below (n + 1) m i) (sym e)
            (⊎_elim same_index other_index (cases_eq i k.index))

        other_selector : s ≢ n → put_at (changed_below n) n k.index x s i ≡ changed_below (n + 1) s i
        other_selector other =
            cond-false ((s == n) && (i == k.index)) x (changed_below n s i)
            (and_left (s == n) (i == k.index) (ne_eqb s n other)) ∙ sym (others n s i other)

-- the keys of the number's channel in the selectors below n are cancelled, and their indexes touched
abbrev keys_after : State → ℕ → ℕ → ℕ → ℕ → Stage
keys_after st c = changed_below st c st.key cancelled_key

abbrev touched_after : State → ℕ → ℕ → ℕ → ℕ → Bool
touched_after st c = changed_below st c st.touched (λ _. true)

module _ (st : State) (me : CallerNo) (c : ChanId) (off : (s i : ℕ) → IsOff st.pinned st.amid s i me.0)
    (whole : (s i : ℕ) → (st.key s i).claimed ≡ (st.key s i).published)
    (present : fits_channel (st.chan c.number.0) c.serial ≡ true) where
  abbrev stands : ℕ → State
  stands n = record st { key = keys_after st c.number.0 n; touched = touched_after st c.number.0 n }

  turn : (n : ℕ) → perform me (cancel_enrolled c n) (stands n) ≡ record { answer = tt; state = stands (n + 1) }
  turn n = by_enrolled (st.enrolled c.number.0 n) refl
    where
      by_enrolled : (o : Option KeyId) → st.enrolled c.number.0 n ≡ o
          → perform me (cancel_at c (selector n) o) (stands n) ≡ record { answer = tt; state = stands (n + 1) }
      by_enrolled None is =
          λ j. record {
            answer = tt;
            state = record st {
              key = λ s i. none_there st c.number.0 st.key cancelled_key n is s i j;
              touched = λ s i. none_there st c.number.0 st.touched (λ _. true) n is s i j;
            };
          }
      by_enrolled (Some k) is =
          let same = not_yet st c.number.0 st.key cancelled_key n k.index in
          ap (λ (b : Bool). perform me (when b (cancel_plan (key (selector n) k))) (stands n)) present
          ∙ (perform_then_on me (cancel_plan (key (selector n) k)) (λ _. Plan.reply tt) (stands n) _ _
          (cancel-performed (stands n) me (selector n) k (off n k.index)
          (ap (λ x. x.claimed) same ∙ (whole n k.index ∙ ap (λ x. x.published) (sym same))))
          ∙ ((λ j. record {
            answer = tt;
            state = record st {
              key = put_at (keys_after st c.number.0 n) n k.index
                  (cond (is_in_key_set (same j) k.serial) (cancelled_key (same j)) (same j));
              touched = put_at (touched_after st c.number.0 n) n k.index
                  (cond (is_in_key_set (same j) k.serial) true
                  (not_yet st c.number.0 st.touched (λ _. true) n k.index j));
            };
          })
          ∙ (λ j. record {
            answer = tt;
            state = record st {
              key = λ s i. one_there st c.number.0 st.key cancelled_key n k is s i j;
              touched = λ s i. one_there st c.number.0 st.touched (λ _. true) n k is s i j;
            };
          })))

  pub cancel_keys-performed : (l : Limits)
      → perform me (cancel_keys l c) st ≡ record { answer = true; state = stands l.selectors }
  cancel_keys-performed l =
      perform_then_on me (sweep_to l.selectors 0 (λ s _. cancel_enrolled c s) tt) (λ _. Plan.reply true) st tt
      (stands l.selectors)
      (ap (perform me (sweep_to l.selectors 0 (λ s _. cancel_enrolled c s) tt)) before
      ∙ perform_sweep me l.selectors 0 (λ s _. cancel_enrolled c s) (λ _. tt) stands (omega arith) (λ n _ _. turn n))
    where
      none_below : {A : Type 0} (f : ℕ → ℕ → A) (g : A → A) (s i : ℕ)
          → changed_below st c.number.0 f g 0 s i ≡ f s i
      none_below f g s i =
          ap (λ b. cond (b && has_index (key_of st c.number.0 s) i) (g (f s i)) (f s i)) (le-ltb s 0 (omega arith))

      before : st ≡ stands 0
      before = λ j. record st {
        key = λ s i. sym (none_below st.key cancelled_key s i) j;
        touched = λ s i. sym (none_below st.touched (λ _. true) s i) j;
      }

-- ---- the call

-- the key of the number's channel at an index is in the key set
pub index_in_set : (st : State) (s i : ℕ) (enrolled : Option KeyId) → has_index (if_in_key_set st s enrolled) i ≡ true
    → in_key_set (st.key s i) ≡ true
index_in_set st s i None e = absurd (both_ways false refl e)
index_in_set st s i (Some k) e = by_set (is_in_key_set (st.key s k.index) k.serial) refl e
  where
    by_set : (b : Bool) → is_in_key_set (st.key s k.index) k.serial ≡ b → has_index (cond b (Some k) None) i ≡ true
        → in_key_set (st.key s i) ≡ true
    by_set true is same =
        subst (λ (j : ℕ). in_key_set (st.key s j) ≡ true) (eqb-true k.index i same)
        (and_parts (fits (st.key s k.index) k.serial) (in_key_set (st.key s k.index)) is).1
    by_set false is same = absurd (both_ways false refl same)

settled_where : (t h : Bool) (k : Stage) → (h ≡ true → (t ≡ true) × (k.removed ≡ false))
    → settled (cond (t && h) (cancelled_key k) k) ≡ cond h (cancelled_key (settled k)) (settled k)
settled_where true true k there = λ j. record k { cancelled = not ((there refl).1 j) && true }
settled_where false true k there = absurd (both_ways true (sym (there refl).0) refl)
settled_where true false k there = refl
settled_where false false k there = refl

marked_where : (b : Bool) (k : Stage) (m : Mark) → settled_mark (cond b (cancelled_key k) k) m ≡ settled_mark k m
marked_where true k m = refl
marked_where false k m = refl

closes_same : (x : Chan) → closes_from x x ≡ true
closes_same x = and_from (x.serial == x.serial) (x.blocking || not x.blocking) (eq-eqb x.serial x.serial refl)
    (either_mode x.blocking)
  where
    either_mode : (b : Bool) → (b || not b) ≡ true
    either_mode true = refl
    either_mode false = refl

-- the number's channel is closed, and its keys in the table's selectors are cancelled, at indexes that are touched
abbrev pub closed_left : Limits → State → ChanNo → State
closed_left l st c =
    let closed = with_chan st c.0 (record (st.chan c.0) { closed = true }) in
    record closed { key = keys_after closed c.0 l.selectors; touched = touched_after closed c.0 l.selectors }

-- a close of the channel on the table
module _ (l : Limits) (st : State) (now : Progress) (me : CallerNo) (c : ChanId)
    (off : (s i : ℕ) → IsOff st.pinned st.amid s i me.0) (whole : (s i : ℕ) → (st.key s i).claimed ≡ (st.key s i).published)
    (within : (s i : ℕ) → in_key_set (st.key s i) ≡ true → s < l.selectors) where
  abbrev ds : ScriptState
  ds = documented st now

  abbrev number : ℕ
  number = c.number.0

  abbrev from : Chan
  from = st.chan number

  abbrev closed_chan : Chan
  closed_chan = record from { closed = true }

  abbrev closed_st : State
  closed_st = with_chan st number closed_chan

  keys : (s i : ℕ) → cond (has_index (key_of st number s) i) (cancelled_key (settled (st.key s i)))
      (settled (st.key s i))
      ≡ settled (keys_after closed_st number l.selectors s i)
  keys s i = sym (settled_where (nat_lt s l.selectors) (has_index (key_of st number s) i) (st.key s i)
      (λ h. let in_set = index_in_set st s i (st.enrolled number s) h in (
        lt-ltb s l.selectors (within s i in_set),
        not-true (st.key s i).removed (and_parts (st.key s i).published (not (st.key s i).removed) in_set).1,
      )))

  marks : (s i : ℕ) → settled_mark (st.key s i) (st.mark s i)
      ≡ settled_mark (keys_after closed_st number l.selectors s i) (st.mark s i)
  marks s i = sym (marked_where (nat_lt s l.selectors && has_index (key_of st number s) i) (st.key s i) (st.mark s i))

  pub closed-documented : (r : Reply) → replied ds r (channel_closed ds.shared number)
      ≡ record { reply = r; left = documented (closed_left l st c.number) now }
  closed-documented r =
      λ j. replied ds r (record (settled_state closed_st) { key = λ s i. keys s i j; mark = λ s i. marks s i j })

  -- the channel was found open, and nobody comes between
  close-found : is_open_channel from c.serial ≡ true
      → perform me (close_found l c from) st ≡ record { answer = true; state = closed_left l st c.number }
  close-found is =
      ap (λ (b : Bool). perform me (if b && not from.closed then cancel_keys l c else if_again)
      (with_chan st number (if b then closed_chan else from))) (closes_same from)
      ∙ (ap (λ (b : Bool). perform me (if b then cancel_keys l c else if_again) closed_st) parts.1
      ∙ cancel_keys-performed closed_st me c off whole
      (ap (λ (x : Chan). fits_channel x c.serial) (put-same st.chan number closed_chan) ∙ parts.0) l)
    where
      parts : (fits_channel from c.serial ≡ true) × (not from.closed ≡ true)
      parts = and_parts (fits_channel from c.serial) (not from.closed) is

      if_again : Plan Bool
      if_again = if is_open_channel from c.serial then close_once_more l c from else Plan.reply false

  pub close-open : is_open_channel from c.serial ≡ true
      → perform me (close_channel_plan l c) st ≡ record { answer = true; state = closed_left l st c.number }
  unfolding close_channel_plan
  close-open is =
      perform_then me (is_open_channel from c.serial) (close_found l c from) (Plan.reply false) st is ∙ close-found is

  -- a sink that its owner closes leaves its seal
  pub closec-amounts : was_opened from c.serial ≡ true
      → closec_call ds me c
      ≡ amounts closed_reply (λ _. with_seal now (own_sink now.pipes me c)) (perform me (close_channel_plan l c) st)
  unfolding closec_call close_channel_plan
  closec-amounts made =
      channel-through ds c made _
      ∙ ap (sealing (own_sink now.pipes me c))
      (branch (amounts closed_reply (λ _. now)) me (close_found l c from) (Plan.reply false) st _ _
      _ (is_open_channel from c.serial) refl
      (λ is. closed-documented reply.«Ok» ∙ sym (ap (amounts closed_reply (λ _. now)) (close-found is)))
      (λ _. refl))
