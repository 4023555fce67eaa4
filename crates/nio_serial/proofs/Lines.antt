-- A line of a script, made on the table with its look-ups, amounts to the documented call.
use Rattle.std.proofs.Common.{◌≡◌, ℕ, ◌<◌, ◌≤◌, ◌==◌, nat_lt, Bool, true, false, not, ◌&&◌, ◌||◌, if◌then◌else◌, Option}
use Rattle.std.proofs.Common.{Some, None, refl, ap, sym, ◌∙◌, arith}
use Rattle.std.proofs.lemmas.Bool.{both_ways, ltb-true, ltb-false, lt-ltb, le-ltb, false_from_ne_true}
use Rattle.nio_base.specs.Limits.{IsFit}
use Rattle.nio_base.specs.declared.limits.Limits.{Limits}
use Rattle.nio_base.specs.declared.numbers.CallerNo.{CallerNo}
use Rattle.nio_base.specs.declared.numbers.ChanId.{ChanId}
use Rattle.nio_base.specs.declared.numbers.KeyNo.{KeyNo}
use Rattle.nio_base.specs.declared.numbers.SelNo.{SelNo}
use Rattle.nio_history.proofs.Bits.{bits_below-at}
use Rattle.nio_history.specs.Answers.{selectors_word}
use Rattle.nio_history.specs.Sets.{was_opened, was_published}
use Rattle.nio_history.specs.State.{State, unclaimed}
use Rattle.nio_history.specs.declared.found.Stage.{Stage}
use Rattle.nio_language.specs.WordRows.{EachName, by_names, word_row}
use Rattle.nio_language.specs.declared.call.Call.{Call}
use Rattle.nio_language.specs.declared.call.Call.TheVariants as call
use Rattle.nio_language.specs.declared.reply.Reply.{Reply}
use Rattle.nio_language.specs.declared.reply.Reply.TheVariants as reply
use Rattle.nio_language.specs.declared.word_row.LineName.{LineName}
use Rattle.nio_language.specs.declared.word_row.LineName.TheVariants.{Caller, Selector, Channel, Key}
use Rattle.nio_language.specs.declared.word_row.LineNames.{LineNames}
use Rattle.nio_language.specs.declared.word_row.LineNames.TheVariants.{One, Two}
use Rattle.nio_language.specs.declared.word_row.LineNames.TheVariants as line
use Rattle.nio_plain.specs.ScriptState.{ScriptState}
use Rattle.nio_plain.specs.Seq.{call_of, seq}
use Rattle.nio_plain.specs.Seq.Replies.{Replied, unchanged}
use Rattle.nio_plain.specs.Seq.Cancelling.{closec_call, cancel_call}
use Rattle.nio_plain.specs.Seq.Closing.{close_call, close_end_call}
use Rattle.nio_plain.specs.Seq.Keys.{valid_call, interest_call, ready_call, iset_call, ior_call, iand_call}
use Rattle.nio_plain.specs.Seq.Keys.{unselect_call, attach_call, attachment_call}
use Rattle.nio_plain.specs.Seq.Listing.{keys_call, selected_call}
use Rattle.nio_plain.specs.Seq.Modes.{blocking_call, is_blocking_call, is_open_call, is_registered_call, key_for_call}
use Rattle.nio_plain.specs.Seq.Names.{with_named_channel, with_named_selector, with_named_key}
use Rattle.nio_plain.specs.Seq.Piping.{pipe_call, pread_call, pwrite_call}
use Rattle.nio_plain.specs.Seq.Registering.{register_call}
use Rattle.nio_plain.specs.Seq.Selections.{begin_call, told_call, failed_call}
use Rattle.nio_plain.specs.Seq.Wakeups.{wakeup_call, interrupt_call}
use Rattle.nio_plain.specs.declared.rules.Rules.TheVariants.{Now}
use Rattle.nio_steps.proofs.PerformLaws.{perform_then_on}
use Rattle.nio_steps.specs.KeyCalls.{has_bit, find_selector_plan, find_channel_plan, find_plan}
use Rattle.nio_steps.specs.Names.{selector, channel, channel_of}
use Rattle.nio_steps.specs.Perform.{perform}
use Rattle.nio_steps.specs.Plan.{Plan, ◌>>=◌}
use Rattle.nio_steps.specs.Steps.{look_selectors, look_channel, look_key}
use Rattle.nio_serial.proofs.Calls.{call-amounts}
use Rattle.nio_serial.proofs.Facts.{sound, channels}
use Rattle.nio_serial.specs.Between.{IsBetween}
use Rattle.nio_serial.specs.Documented.{Progress, settled, documented}
use Rattle.nio_serial.specs.Laws.{IsThere}
use Rattle.nio_serial.specs.Lines.{Said, comes_to, refused, if_found, if_name, if_named, call_plan, line_plan}

-- ---- look-ups

bit-selector : (st : State) (n : ℕ) → n < 64 → has_bit (selectors_word st) n ≡ st.selector n
bit-selector st n low = ap (λ k. k == 1) (bits_below-at 64 st.selector n low) ∙ by_test (st.selector n)
  where
    by_test : (b : Bool) → ((if b then 1 else 0) == 1) ≡ b
    by_test true = refl
    by_test false = refl

-- ---- names

-- a line goes on, unless something is missing
abbrev pub unless : {A : Type 0} → (Reply → A) → A → Option Reply → A
unless refuse go None = go
unless refuse go (Some r) = refuse r

-- what a line is refused with where the name isn't there
abbrev pub missing : Limits → State → LineName → Option Reply
missing l st (Caller n) = if nat_lt n.0 l.callers then None else Some reply.NoCaller
missing l st (Selector s) = if st.selector s.0 then None else Some reply.NoSelector
missing l st (Channel c) = if was_opened (st.chan c.number.0) c.serial then None else Some reply.NoChannel
missing l st (Key s k) =
    if st.selector s.0 then (if was_published (st.key s.0 k.index) k.serial then None else Some reply.NoKey)
    else Some reply.NoSelector

test-holds : (b : Bool) (r : Reply) → (if b then None else Some r) ≡ None → b ≡ true
test-holds true r e = refl
test-holds false r e = absurd (cc e)

holds-test : (b : Bool) (r : Reply) → b ≡ true → (if b then None else Some r) ≡ None
holds-test b r e = ap (λ (c : Bool). if c then None else Some r) e

pub none-missing : (l : Limits) (st : State) (a : LineName) → IsThere l st a → missing l st a ≡ None
none-missing l st (Caller n) there = holds-test (nat_lt n.0 l.callers) reply.NoCaller (lt-ltb n.0 l.callers there)
none-missing l st (Selector s) there = holds-test (st.selector s.0) reply.NoSelector there
none-missing l st (Channel c) there = holds-test (was_opened (st.chan c.number.0) c.serial) reply.NoChannel there
none-missing l st (Key s k) there =
    ap (λ (b : Bool). if b then (if was_published (st.key s.0 k.index) k.serial then None else Some reply.NoKey)
    else Some reply.NoSelector) there.0
    ∙ holds-test (was_published (st.key s.0 k.index) k.serial) reply.NoKey there.1

is-there : (l : Limits) (st : State) (a : LineName) → missing l st a ≡ None → IsThere l st a
is-there l st (Caller n) e = ltb-true n.0 l.callers (test-holds (nat_lt n.0 l.callers) reply.NoCaller e)
is-there l st (Selector s) e = test-holds (st.selector s.0) reply.NoSelector e
is-there l st (Channel c) e = test-holds (was_opened (st.chan c.number.0) c.serial) reply.NoChannel e
is-there l st (Key s k) e = by_selector (st.selector s.0) refl e
  where
    by_selector : (b : Bool) → st.selector s.0 ≡ b
        → (if b then (if was_published (st.key s.0 k.index) k.serial then None else Some reply.NoKey)
        else Some reply.NoSelector) ≡ None
        → IsThere l st (Key s k)
    by_selector true made e' = (made, test-holds (was_published (st.key s.0 k.index) k.serial) reply.NoKey e')
    by_selector false unmade e' = absurd (cc e')

module _ (l : Limits) (st : State) (now : Progress) (me : CallerNo) (fit : IsFit l) (between : IsBetween l st now) where
  abbrev ds : ScriptState
  ds = documented st now

  selector_within : (n : ℕ) → nat_lt n l.selectors ≡ false → st.selector n ≡ false
  selector_within n above =
      false_from_ne_true (st.selector n) (λ h. let low = (sound l st now between).keys.selectors n h in both_ways
      (nat_lt n l.selectors) above (lt-ltb n l.selectors low))

  channel_within : (n q : ℕ) → nat_lt n l.channels ≡ false → was_opened (st.chan n) q ≡ false
  channel_within n q above =
      let past : l.channels ≤ n = ltb-false n l.channels above in
      let marks = between.at_rest.high.channels_within in
      let unmade : (st.chan n).made ≡ false =
      channels l st now between n ∙ le-ltb n st.channels_high (omega arith) in
      ap (λ b. b && not (nat_lt (st.chan n).serial q)) unmade

  fresh_unpublished : (k : Stage) (q : ℕ) → settled k ≡ unclaimed → was_published k q ≡ false
  fresh_unpublished k q fresh = λ j. was_unpublished j
    where
      was_unpublished : was_published k q ≡ false
      was_unpublished =
          (λ j. nat_lt q (fresh j).serial || (((fresh j).claimed && ((fresh j).serial == q)) && (fresh j).published))
          ∙ ap (λ b. b || false) (le-ltb q 0 (omega arith))

  key_within : (s i q : ℕ) → nat_lt i l.keys ≡ false → was_published (st.key s i) q ≡ false
  key_within s i q above =
      let past : l.keys ≤ i = ltb-false i l.keys above in
      let marks = between.at_rest.high.keys_within s in
      fresh_unpublished (st.key s i) q (between.at_rest.high.fresh s i (le-ltb i (st.keys_high s) (omega arith))).key

  pub selector-found : (n : ℕ) → perform me (find_selector_plan l n) st
      ≡ record { answer = if st.selector n then Some (selector n) else None; state = st }
  unfolding find_selector_plan
  selector-found n = by_limit (nat_lt n l.selectors) refl
    where
      looks : Plan (Option SelNo)
      looks = look_selectors >>= (λ made. Plan.reply (if has_bit made n then Some (selector n) else None))

      by_limit : (b : Bool) → nat_lt n l.selectors ≡ b
          → perform me (if not b then Plan.reply None else looks) st
          ≡ record { answer = if st.selector n then Some (selector n) else None; state = st }
      by_limit true e =
          let low : n < l.selectors = ltb-true n l.selectors e in
          let few = fit.few_selectors in
          ap (λ (b : Bool). record { answer = if b then Some (selector n) else None; state = st })
          (bit-selector st n (omega arith))
      by_limit false e =
          ap (λ (b : Bool). record { answer = if b then Some (selector n) else None; state = st })
          (sym (selector_within n e))

  pub channel-found : (n q : ℕ) → perform me (find_channel_plan l n q) st
      ≡ record { answer = if was_opened (st.chan n) q then Some (channel_of (channel n) q) else None; state = st }
  unfolding find_channel_plan
  channel-found n q = by_limit (nat_lt n l.channels) refl
    where
      looks : Plan (Option ChanId)
      looks = look_channel (channel n) >>= (λ found. Plan.reply
          (if was_opened found q then Some (channel_of (channel n) q) else None))

      by_limit : (b : Bool) → nat_lt n l.channels ≡ b
          → perform me (if not b then Plan.reply None else looks) st
          ≡ record {
            answer = if was_opened (st.chan n) q then Some (channel_of (channel n) q) else None;
            state = st;
          }
      by_limit true e = refl
      by_limit false e =
          ap (λ (b : Bool). record { answer = if b then Some (channel_of (channel n) q) else None; state = st })
          (sym (channel_within n q e))

  abbrev named_key : SelNo → ℕ → ℕ → KeyNo
  named_key s i q = record { sel = s; index = i; serial = q }

  pub key-found : (s : SelNo) (i q : ℕ) → perform me (find_plan l s i q) st
      ≡ record { answer = if was_published (st.key s.0 i) q then Some (named_key s i q) else None; state = st }
  unfolding find_plan
  key-found s i q = by_limit (nat_lt i l.keys) refl
    where
      looks : Plan (Option KeyNo)
      looks = look_key s i >>= (λ stage. Plan.reply (if was_published stage q then Some (named_key s i q) else None))

      by_limit : (b : Bool) → nat_lt i l.keys ≡ b
          → perform me (if not b then Plan.reply None else looks) st
          ≡ record { answer = if was_published (st.key s.0 i) q then Some (named_key s i q) else None; state = st }
      by_limit true e = refl
      by_limit false e =
          ap (λ (b : Bool). record { answer = if b then Some (named_key s i q) else None; state = st })
          (sym (key_within s.0 i q e))

  -- ---- a line with its look-ups

  test-done : (b : Bool) (r : Reply) (plan : Plan Said) → perform me (if b then plan else refused now r) st
      ≡ perform me (unless (refused now) plan (if b then None else Some r)) st
  test-done true r plan = refl
  test-done false r plan = refl

  -- a look-up, by what it finds
  found-done : {A : Type 0} (look : Plan (Option A)) (b : Bool) (x : A) (r : Reply) (plan : Plan Said)
      → perform me look st ≡ record { answer = if b then Some x else None; state = st }
      → perform me (look >>= if_found now r plan) st
      ≡ perform me (unless (refused now) plan (if b then None else Some r)) st
  found-done look b x r plan found =
      perform_then_on me look (if_found now r plan) st (if b then Some x else None) st found ∙ by_test b
    where
      by_test : (c : Bool) → perform me (if_found now r plan (if c then Some x else None)) st
          ≡ perform me (unless (refused now) plan (if c then None else Some r)) st
      by_test true = refl
      by_test false = refl

  pub name-done : (a : LineName) (plan : Plan Said)
      → perform me (if_name l now a plan) st ≡ perform me (unless (refused now) plan (missing l st a)) st
  name-done (Caller n) plan = test-done (nat_lt n.0 l.callers) reply.NoCaller plan
  name-done (Selector s) plan =
      found-done (find_selector_plan l s.0) (st.selector s.0) (selector s.0) reply.NoSelector plan (selector-found s.0)
  name-done (Channel c) plan =
      found-done (find_channel_plan l c.number.0 c.serial) (was_opened (st.chan c.number.0) c.serial) c reply.NoChannel
      plan (channel-found c.number.0 c.serial)
  name-done (Key s k) plan =
      found-done (find_selector_plan l s.0) (st.selector s.0) (selector s.0) reply.NoSelector look (selector-found s.0)
      ∙ by_selector (st.selector s.0)
    where
      look : Plan Said
      look = find_plan l s k.index k.serial >>= if_found now reply.NoKey plan

      by_selector : (b : Bool)
          → perform me (unless (refused now) look (if b then None else Some reply.NoSelector)) st
          ≡ perform me (unless (refused now) plan
          (if b then (if was_published (st.key s.0 k.index) k.serial then None else Some reply.NoKey)
          else Some reply.NoSelector)) st
      by_selector true =
          found-done (find_plan l s k.index k.serial) (was_published (st.key s.0 k.index) k.serial)
          (named_key s k.index k.serial) reply.NoKey plan (key-found s k.index k.serial)
      by_selector false = refl

  -- how the documented call looks up a name
  abbrev with_name : LineName → Replied → Replied
  with_name (Caller n) inner = if nat_lt n.0 l.callers then inner else unchanged ds reply.NoCaller
  with_name (Selector s) inner = with_named_selector ds s inner
  with_name (Channel c) inner = with_named_channel ds c inner
  with_name (Key s k) inner = with_named_key ds s k inner

  with-done : (a : LineName) (inner : Replied) → with_name a inner ≡ unless (unchanged ds) inner (missing l st a)
  with-done a inner = by_name a
    where
      by_test : (b : Bool) (r : Reply)
          → (if b then inner else unchanged ds r) ≡ unless (unchanged ds) inner (if b then None else Some r)
      by_test true r = refl
      by_test false r = refl

      by_name : (a' : LineName) → with_name a' inner ≡ unless (unchanged ds) inner (missing l st a')
      by_name (Caller n) = by_test (nat_lt n.0 l.callers) reply.NoCaller
      by_name (Selector s) = by_test (st.selector s.0) reply.NoSelector
      by_name (Channel c) = by_test (was_opened (st.chan c.number.0) c.serial) reply.NoChannel
      by_name (Key s k) = by_selector (st.selector s.0)
        where
          by_selector : (b : Bool)
              → (if b
              then (if was_published (st.key s.0 k.index) k.serial then inner else unchanged ds reply.NoKey)
              else unchanged ds reply.NoSelector)
              ≡ unless (unchanged ds) inner
              (if b then (if was_published (st.key s.0 k.index) k.serial then None else Some reply.NoKey)
              else Some reply.NoSelector)
          by_selector true = by_test (was_published (st.key s.0 k.index) k.serial) reply.NoKey
          by_selector false = refl

  with-through : (a : LineName) (inner : Replied) → IsThere l st a → with_name a inner ≡ inner
  with-through a inner there =
      with-done a inner ∙ ap (unless (unchanged ds) inner) (none-missing l st a there)

  -- `whole` is the documented call, and `inner` what it does once the name is found
  name-line : (a : LineName) (whole inner : Replied) (plan : Plan Said) → whole ≡ with_name a inner
      → (IsThere l st a → whole ≡ comes_to (perform me plan st))
      → whole ≡ comes_to (perform me (if_name l now a plan) st)
  name-line a whole inner plan is named =
      by_missing (missing l st a) refl ∙ sym (ap comes_to (name-done a plan))
    where
      by_missing : (o : Option Reply) → missing l st a ≡ o
          → whole ≡ comes_to (perform me (unless (refused now) plan o) st)
      by_missing None e = named (is-there l st a e)
      by_missing (Some r) e = is ∙ (with-done a inner ∙ ap (unless (unchanged ds) inner) e)

  names-line : (names : LineNames) (whole inner : Replied) (plan : Plan Said) → whole ≡ by_names with_name names inner
      → (EachName (IsThere l st) names → whole ≡ comes_to (perform me plan st))
      → whole ≡ comes_to (perform me (by_names (if_name l now) names plan) st)
  names-line line.None whole inner plan is named = named tt
  names-line (One a) whole inner plan is named = name-line a whole inner plan is named
  names-line (Two a b) whole inner plan is named =
      name-line a whole (with_name b inner) (if_name l now b plan) is
      (λ there. name-line b whole inner plan (is ∙ with-through a (with_name b inner) there)
      (λ there'. named (there, there')))

  -- ---- every line

  -- each documented call looks up the names of its word
  looks_up : (word : Call)
      → (inner : Replied) × (call_of Now l ds me word ≡ by_names with_name (word_row word).names inner)
  unfolding call_of blocking_call is_blocking_call is_open_call is_registered_call key_for_call register_call
      closec_call valid_call interest_call ready_call iset_call ior_call iand_call cancel_call unselect_call attach_call
      attachment_call begin_call told_call failed_call wakeup_call close_call close_end_call keys_call selected_call
      interrupt_call pipe_call pwrite_call pread_call
  looks_up call.Selector = (_, refl)
  looks_up _ = (_, refl)

  pub named-amounts : (word : Call) → call_of Now l ds me word
      ≡ comes_to (perform me (if_named l now word (call_plan l now me word)) st)
  unfolding if_named
  named-amounts word =
      names-line (word_row word).names (call_of Now l ds me word) (looks_up word).0 (call_plan l now me word)
      (looks_up word).1 (call-amounts l st now me between word)

  pub line-amounts : (word : Call) → seq Now l ds me word ≡ comes_to (perform me (line_plan l now me word) st)
  unfolding seq line_plan
  line-amounts word =
      let inner = call_of Now l ds me word in
      name-line (Caller me) (with_name (Caller me) inner) inner (if_named l now word (call_plan l now me word)) refl
      (λ there. with-through (Caller me) inner there ∙ named-amounts word)
