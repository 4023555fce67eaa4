-- Opening a channel, and giving a closed number to a new one, amount to the documented calls.
use Rattle.std.proofs.Common.{◌≡◌, ℕ, suc, ◌+◌, ◌-◌, ◌<◌, ◌≤◌, max, ◌==◌, nat_lt, Bool, true, false, cond, not, ◌&&◌}
use Rattle.std.proofs.Common.{if◌then◌else◌, Option, Some, None, is_some, find, Result, Ok, Err, refl, ap, sym, ◌∙◌}
use Rattle.std.proofs.Common.{⊎_elim, add-one, arith, eq-eqb}
use Rattle.std.proofs.lemmas.Bool.{and_parts, and_from, not-true, not-false, cond-true, cases_lt}
use Rattle.std.specs.Bool.{beq}
use Rattle.nio_base.specs.Kind.{is_same_kind, kind_code}
use Rattle.nio_base.specs.declared.kind.Kind.{Kind}
use Rattle.nio_base.specs.declared.limits.Limits.{Limits}
use Rattle.nio_base.specs.declared.numbers.CallerNo.{CallerNo}
use Rattle.nio_base.specs.declared.numbers.ChanId.{ChanId}
use Rattle.nio_base.specs.declared.numbers.ChanNo.{ChanNo}
use Rattle.nio_base.specs.declared.numbers.KeyNo.{KeyNo}
use Rattle.nio_history.specs.Acts.{new_channel}
use Rattle.nio_history.specs.Answers.{is_same_channel}
use Rattle.nio_history.specs.Sets.{can_reopen, fits_channel}
use Rattle.nio_history.specs.State.{State, with_hold, with_chan, with_channels_high}
use Rattle.nio_history.specs.declared.found.Chan.{Chan}
use Rattle.nio_plain.proofs.Found.{found_below}
use Rattle.nio_plain.proofs.Places.{put_same}
use Rattle.nio_plain.specs.ScriptState.{ScriptState}
use Rattle.nio_plain.specs.Seq.Modes.{has_key}
use Rattle.nio_plain.specs.Seq.Names.{below}
use Rattle.nio_plain.specs.Seq.Opening.{number_comes_back, channel_after, next_by, next_channel, with_new_channel}
use Rattle.nio_plain.specs.Seq.Opening.{channel_made, channel_call}
use Rattle.nio_plain.specs.declared.rules.Rules.TheVariants.{Now}
use Rattle.nio_steps.proofs.PerformLaws.{perform_else, perform_then_on, perform_seek, indexes, found_at}
use Rattle.nio_steps.proofs.SweepLaws.{seek_to-done}
use Rattle.nio_steps.specs.ChannelCalls.{makes_channel, first_key, reopen_clear, reopen_found, reopen_channel_plan}
use Rattle.nio_steps.specs.ChannelCalls.{reopened, reopens_number, opened_again, opened_channel, open_channel_plan}
use Rattle.nio_steps.specs.Names.{channel, channel_of}
use Rattle.nio_steps.specs.Perform.{Performed, perform}
use Rattle.nio_steps.specs.Plan.{Plan, ◌>>=◌}
use Rattle.nio_steps.specs.Steps.{reopen}
use Rattle.nio_steps.specs.Sweeps.{seek_to}
use Rattle.nio_steps.specs.declared.refusal.ChannelError.{ChannelError}
use Rattle.nio_steps.specs.declared.refusal.ReopenError.{ReopenError}
use Rattle.nio_steps.specs.declared.refusal.ReopenError.TheVariants as refusal
use Rattle.nio_serial.proofs.Base.{put-back, branch, branch_unless, released, perform_held}
use Rattle.nio_serial.proofs.Finding.{find-below, first_key-performed}
use Rattle.nio_serial.proofs.NextChannel.{comes-back, mark-unmade, least-unmade, none-unmade, mark-stays}
use Rattle.nio_serial.specs.Documented.{Progress, documented, amounts}
use Rattle.nio_serial.specs.Reopening.{Reopened, refuses, next_of_number, reopen_call}
use Rattle.nio_serial.specs.Replies.{channel_reply}

-- ---- one number

-- a new channel of the same kind, with the next serial; the high-water mark is as it was
abbrev with_next : State → ℕ → State
with_next st c = with_chan st c (new_channel (st.chan c).kind (suc (st.chan c).serial))

same_bit : (b : Bool) → beq b b ≡ true
same_bit true = refl
same_bit false = refl

-- a channel is the one that was found where nobody comes between
still-same : (c : Chan) → is_same_channel c c ≡ true
still-same c =
    and_from
    (beq c.made c.made && is_same_kind c.kind c.kind && beq c.closed c.closed && beq c.blocking c.blocking)
    (c.serial == c.serial)
    (and_from (beq c.made c.made && is_same_kind c.kind c.kind && beq c.closed c.closed) (beq c.blocking c.blocking)
    (and_from (beq c.made c.made && is_same_kind c.kind c.kind) (beq c.closed c.closed)
    (and_from (beq c.made c.made) (is_same_kind c.kind c.kind) (same_bit c.made)
    (eq-eqb (kind_code c.kind) (kind_code c.kind) refl)) (same_bit c.closed)) (same_bit c.blocking))
    (eq-eqb c.serial c.serial refl)

module _ (l : Limits) (st : State) (me : CallerNo) (c : ChanNo) (unheld : st.hold c.0 ≡ None) where
  abbrev from : Chan
  from = st.chan c.0

  abbrev held : State
  held = with_hold st c.0 (Some me)

  -- the number's channel is registered, or there is a new one
  abbrev pub given : Bool → Performed (Result ChanId ReopenError)
  given true = record { answer = Err refusal.Registered; state = st }
  given false = record { answer = Ok (channel_of c (suc from.serial)); state = with_next st c.0 }

  -- what the step finds
  abbrev after : Bool → Performed (Result ChanId ReopenError)
  after same = record {
    answer = if not same then Err refusal.Busy else Ok (channel_of c (suc from.serial));
    state = with_hold (with_chan held c.0 (if not same then st.chan c.0 else new_channel from.kind (suc from.serial)))
        c.0 None;
  }

  clear : (o : Option KeyNo) (b : Bool) → is_some o ≡ b
      → released c (perform me (reopen_clear c from o) held) ≡ given b
  clear o true is =
      ap (λ (x : Bool). released c (perform me (if x then Plan.reply (Err refusal.Registered) else
      (reopen c from >>= (λ failed. Plan.reply
      (if failed then Err refusal.Busy else Ok (channel_of c (suc from.serial)))))) held)) is
      ∙ (λ j. record {
        answer = Err refusal.Registered;
        state = record st { hold = put-back st.hold c.0 (Some me) None unheld j };
      })
  clear o false is =
      ap (λ (x : Bool). released c (perform me (if x then Plan.reply (Err refusal.Registered) else
      (reopen c from >>= (λ failed. Plan.reply
      (if failed then Err refusal.Busy else Ok (channel_of c (suc from.serial)))))) held)) is
      ∙ (ap after (still-same from)
      ∙ (λ j. record {
        answer = Ok (channel_of c (suc from.serial));
        state = record (with_next st c.0) { hold = put-back st.hold c.0 (Some me) None unheld j };
      }))

  pub found-performed : perform me (reopen_found l c from) st ≡ given (has_key l st c.0)
  found-performed =
      let finds = first_key-performed l me c held in
      perform_held me refusal.Busy c (first_key l c >>= reopen_clear c from) st unheld
      ∙ (ap (released c)
      (perform_then_on me (first_key l c) (reopen_clear c from) held finds.found held finds.performed)
      ∙ clear finds.found (has_key l st c.0) finds.where_registered)

-- ---- reopening

-- what a reopening answers, and the documented state that it leaves
abbrev pub gives : Progress → Performed (Result ChanId ReopenError) → Reopened
gives now done = record { answer = done.answer; left = documented done.state now }

module _ (l : Limits) (st : State) (now : Progress) (me : CallerNo) (c : ChanId)
    (exact : (n : ℕ) → (st.chan n).made ≡ nat_lt n st.channels_high) (unheld : st.hold c.number.0 ≡ None) where
  abbrev ds : ScriptState
  ds = documented st now

  abbrev found : Chan
  found = st.chan c.number.0

  by_key : can_reopen found ≡ true → (b : Bool)
      → cond b (refuses ds refusal.Registered) (record {
        answer = Ok (next_of_number st c);
        left = documented (with_new_channel st found.kind (next_of_number st c)) now;
      }) ≡ gives now (given l st me c.number unheld b)
  by_key comes true = refl
  by_key comes false =
      let made = (and_parts found.made found.closed (and_parts (found.made && found.closed) _ comes).0).0 in
      λ j. record {
        answer = Ok (next_of_number st c);
        left = documented
            (with_channels_high (with_next st c.number.0) (mark-stays l st exact c.number.0 made j)) now;
      }

  pub reopen-amounts : reopen_call l ds c ≡ gives now (perform me (reopen_channel_plan l c) st)
  unfolding reopen_channel_plan
  reopen-amounts =
      branch (gives now) me (Plan.reply (Err refusal.Lost)) if_closed st _ _ _ (not (fits_channel found c.serial)) refl
      (λ _. refl)
      (λ _. branch (gives now) me (Plan.reply (Err refusal.Open)) if_next st _ _ _ (not found.closed) refl
      (λ _. refl)
      (λ _. branch_unless (gives now) me (reopen_found l c.number found) (Plan.reply (Err refusal.SerialsSpent)) st _ _
      _ (can_reopen found) refl
      (λ comes. by_key comes (has_key l st c.number.0)
      ∙ sym (ap (gives now) (found-performed l st me c.number unheld)))
      (λ _. refl)))
    where
      if_next : Plan (Result ChanId ReopenError)
      if_next = if can_reopen found then reopen_found l c.number found else Plan.reply (Err refusal.SerialsSpent)

      if_closed : Plan (Result ChanId ReopenError)
      if_closed = if not found.closed then Plan.reply (Err refusal.Open) else if_next

-- ---- opening

-- the channel that is opened next, or none
abbrev pub opened : State → Kind → Option ChanId → Performed (Result ChanId ChannelError)
opened st kind None = record { answer = Err ChannelError.ChannelsSpent; state = st }
opened st kind (Some c) = record { answer = Ok c; state = with_new_channel st kind c }

module _ (l : Limits) (st : State) (me : CallerNo) (exact : (c : ℕ) → (st.chan c).made ≡ nat_lt c st.channels_high)
    (unheld : (c : ℕ) → st.hold c ≡ None) (kind : Kind) where
  abbrev m : ℕ
  m = st.channels_high

  -- ---- a number that never had a channel

  abbrev unmade : ℕ → Bool
  unmade c = not (st.chan c).made

  abbrev makes : ℕ → Plan (Option ChanNo)
  makes n = makes_channel kind (channel n)

  abbrev left : ℕ → State
  left n = with_chan st n (new_channel kind 0)

  abbrev turn : ℕ → Bool → Performed (Option ChanNo)
  turn n b = record {
    answer = cond b None (Some (channel n));
    state = with_chan st n (cond b (st.chan n) (new_channel kind 0));
  }

  first : m < l.channels → find unmade (indexes m (l.channels - m)) ≡ Some m
  unfolding indexes
  first room =
      let more : l.channels - m ≡ suc (l.channels - (m + 1)) = omega arith in
      ap (λ n. find unmade (indexes m n)) more
      ∙ cond-true (unmade m) (Some m) (find unmade (indexes (m + 1) (l.channels - (m + 1)))) (mark-unmade l st exact)

  sought : m < l.channels → perform me (seek_to l.channels m makes) st
      ≡ record { answer = Some (channel m); state = left m }
  sought room =
      perform_seek me l.channels m makes unmade channel st left (omega arith)
      (λ n _ _ is. ap (turn n) (not-false (st.chan n).made is)
      ∙ ap (λ f. record { answer = None; state = record st { chan = f } }) (put_same st.chan n (st.chan n) refl))
      (λ n _ _ is. ap (turn n) (not-true (st.chan n).made is))
      ∙ ap (found_at st channel left) (first room)

  open-first : m < l.channels → perform me (open_channel_plan l kind) st ≡ opened st kind (next_channel Now l st kind)
  unfolding open_channel_plan
  open-first room =
      perform_then_on me (seek_to l.channels m makes) (opened_channel l kind) st (Some (channel m)) (left m)
      (sought room)
      ∙ (ap (λ n. record { answer = Ok (channel_of (channel m) 0); state = with_channels_high (left m) (max m n) })
      (add-one m)
      ∙ ap (λ o. opened st kind (next_by Now l st kind o)) (sym (least-unmade l st exact room)))

  -- ---- a number that comes back

  abbrev back : ℕ → Bool
  back n = number_comes_back Now l st kind n

  abbrev next_of : ℕ → ChanId
  next_of n = channel_of (channel n) (suc (st.chan n).serial)

  abbrev reopens : ℕ → Plan (Option ChanId)
  reopens n = reopens_number l kind (channel n)

  abbrev if_kind : ℕ → Bool
  if_kind n = can_reopen (st.chan n) && is_same_kind (st.chan n).kind kind

  reopening : (n : ℕ) (b : Bool) → has_key l st n ≡ b → if_kind n ≡ true
      → perform me (reopens n) st
      ≡ perform me (reopened (given l st me (channel n) (unheld n) b).answer)
      (given l st me (channel n) (unheld n) b).state
  reopening n b is fits =
      ap (λ (x : Bool). perform me (if x then (reopen_found l (channel n) (st.chan n) >>= reopened)
      else Plan.reply None) st) fits
      ∙ perform_then_on me (reopen_found l (channel n) (st.chan n)) reopened st _ _
      (found-performed l st me (channel n) (unheld n) ∙ ap (given l st me (channel n) (unheld n)) is)

  passed : (n : ℕ) → back n ≡ false → perform me (reopens n) st ≡ record { answer = None; state = st }
  passed n out = by_kind (if_kind n) refl
    where
      by_kind : (b : Bool) → if_kind n ≡ b → perform me (reopens n) st ≡ record { answer = None; state = st }
      by_kind true is =
          reopening n true (not-false (has_key l st n) (ap (λ b. b && not (has_key l st n)) (sym is) ∙ out)) is
      by_kind false is =
          perform_else me (if_kind n) (reopen_found l (channel n) (st.chan n) >>= reopened) (Plan.reply None) st is

  taken : (n : ℕ) → back n ≡ true
      → perform me (reopens n) st ≡ record { answer = Some (next_of n); state = with_next st n }
  taken n is =
      let both = and_parts (if_kind n) (not (has_key l st n)) is in
      reopening n false (not-true (has_key l st n) both.1) both.0

  -- the documented state has the kind that was asked for, and a high-water mark that stays
  by_found : (o : Option ℕ) → find back (below l.channels) ≡ o
      → record {
        answer = opened_again (found_at st next_of (with_next st) o).answer;
        state = (found_at st next_of (with_next st) o).state;
      } ≡ opened st kind (channel_after st o)
  by_found None is = refl
  by_found (Some n) is =
      let facts = comes-back l st kind n (found_below back l.channels n is).0 in
      λ j. record {
        answer = Ok (next_of n);
        state =
            with_channels_high (with_chan st n (new_channel (facts.kind_is j) (suc (st.chan n).serial)))
            (sym (mark-stays l st exact n facts.made) j);
      }

  open-again : l.channels ≤ m → perform me (open_channel_plan l kind) st ≡ opened st kind (next_channel Now l st kind)
  unfolding open_channel_plan
  open-again full =
      let o = find back (below l.channels) in
      perform_then_on me (seek_to l.channels m makes) (opened_channel l kind) st None st
      (ap (λ plan. perform me plan st) (seek_to-done l.channels m makes full))
      ∙ (perform_then_on me (seek_to l.channels 0 reopens) (λ again. Plan.reply (opened_again again)) st
      (found_at st next_of (with_next st) o).answer (found_at st next_of (with_next st) o).state
      (perform_seek me l.channels 0 reopens back next_of st (with_next st) (omega arith)
      (λ n _ _ out. passed n out) (λ n _ _ is. taken n is)
      ∙ ap (found_at st next_of (with_next st)) (find-below back l.channels))
      ∙ (by_found o refl ∙ ap (λ o'. opened st kind (next_by Now l st kind o')) (sym (none-unmade l st exact full))))

  pub open-performed : perform me (open_channel_plan l kind) st ≡ opened st kind (next_channel Now l st kind)
  open-performed = ⊎_elim open-first open-again (cases_lt m l.channels)

  pub channel-amounts : (now : Progress) → channel_call Now l (documented st now) kind
      ≡ amounts channel_reply (λ _. now) (perform me (open_channel_plan l kind) st)
  unfolding channel_call
  channel-amounts now =
      by_next (next_channel Now l st kind) ∙ sym (ap (amounts channel_reply (λ _. now)) open-performed)
    where
      by_next : (o : Option ChanId)
          → channel_made (documented st now) kind o ≡ amounts channel_reply (λ _. now) (opened st kind o)
      by_next None = refl
      by_next (Some c) = refl
