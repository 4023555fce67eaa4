-- Each call, made on the table with its names found, amounts to the documented one.
use Rattle.nio_plain.specs.Seq.Pipes.{own_source, own_sink, pipe_at}
use Rattle.std.proofs.Common.{◌≡◌, ℕ, ◌<◌, ◌==◌, nat_lt, Bool, true, false, cond, not, ◌||◌, if◌then◌else◌, Option}
use Rattle.std.proofs.Common.{Some, None, option_map, List, map, refl, ap, sym, ◌∙◌, subst, arith}
use Rattle.std.proofs.lemmas.Bool.{lt-ltb, le-ltb, or_left, or_right, cond-true}
use Rattle.nio_base.specs.declared.limits.Limits.{Limits}
use Rattle.nio_base.specs.declared.numbers.CallerNo.{CallerNo}
use Rattle.nio_base.specs.declared.numbers.ChanId.{ChanId}
use Rattle.nio_base.specs.declared.numbers.KeyId.{KeyId}
use Rattle.nio_base.specs.declared.numbers.SelNo.{SelNo}
use Rattle.nio_history.specs.State.{State}
use Rattle.nio_history.specs.Sets.{is_in_key_set, in_cancelled_set, was_opened}
use Rattle.nio_history.specs.declared.found.Mode.{Mode}
use Rattle.nio_language.specs.declared.call.Call.{Call}
use Rattle.nio_language.specs.declared.call.Call.TheVariants as call
use Rattle.nio_language.specs.declared.call.Waiting.{Waiting}
use Rattle.nio_language.specs.declared.reply.Reply.{Reply}
use Rattle.nio_language.specs.declared.reply.Reply.TheVariants as reply
use Rattle.nio_plain.proofs.Naming.{channel-through, selector-through}
use Rattle.nio_plain.proofs.ReachedSound.{some_same}
use Rattle.nio_plain.specs.ScriptState.{ScriptState}
use Rattle.nio_plain.specs.Seq.{call_of}
use Rattle.nio_plain.specs.Seq.Replies.{unchanged, yes_or_no}
use Rattle.nio_plain.specs.Seq.Closing.{close_end_call}
use Rattle.nio_plain.specs.Seq.Piping.{pipe_call, read_from, pread_call, write_to, pwrite_call}
use Rattle.nio_plain.specs.Seq.Registering.{given_or_none}
use Rattle.nio_plain.specs.Seq.Selections.{mode_of, begun_with, begin_call, is_looked, is_caller, told_selection}
use Rattle.nio_plain.specs.Seq.Selections.{told_call, left_selection, failed_call}
use Rattle.nio_plain.specs.declared.rules.Rules.TheVariants.{Now}
use Rattle.nio_steps.proofs.PerformLaws.{perform-bind}
use Rattle.nio_steps.specs.ChannelCalls.{open_channel_plan, is_open_plan, is_blocking_plan, is_registered_plan}
use Rattle.nio_steps.specs.ChannelCalls.{key_for_plan, try_set_blocking_plan, try_register_plan, close_channel_plan}
use Rattle.nio_steps.specs.KeyCalls.{is_valid_plan, interest_plan, set_interest_plan, interest_or_plan}
use Rattle.nio_steps.specs.KeyCalls.{interest_and_plan, ready_plan, cancel_plan, unselect_plan, attach_plan}
use Rattle.nio_steps.specs.KeyCalls.{attachment_plan}
use Rattle.nio_steps.specs.Names.{key}
use Rattle.nio_steps.specs.Perform.{perform}
use Rattle.nio_steps.specs.PipeCalls.{pipe_plan, try_read_plan, try_write_plan}
use Rattle.nio_steps.specs.Plan.{Plan}
use Rattle.nio_steps.specs.SelectCalls.{Selection, open_selector_plan, try_begin_plan, told_plan, leave_plan, shut_plan}
use Rattle.nio_steps.specs.SelectCalls.{try_finish_plan, keys_plan, selected_keys_plan, wakeup_plan, interrupt_plan}
use Rattle.nio_steps.specs.SelectCalls.{interrupted_plan}
use Rattle.nio_serial.proofs.Base.{IsOff}
use Rattle.nio_serial.proofs.Beginning.{begin-amounts}
use Rattle.nio_serial.proofs.Blocking.{blocking-amounts}
use Rattle.nio_serial.proofs.ClosingChannels.{closec-amounts}
use Rattle.nio_serial.proofs.ClosingSelectors.{close_end-amounts}
use Rattle.nio_serial.proofs.Facts.{unpinned, unchanging, off, untaken, unheld, none_due, channels, claimed, published, whole, free}
use Rattle.nio_serial.proofs.Facts.{fresh_mark, fresh_free, within, begun, looked_in_set, finds_cancelled, own-is}
use Rattle.nio_serial.proofs.KeyCalls.{valid-amounts, interest-amounts, ready-amounts, iset-amounts, ior-amounts}
use Rattle.nio_serial.proofs.KeyCalls.{iand-amounts, cancel-amounts, unselect-amounts, attach-amounts}
use Rattle.nio_serial.proofs.KeyCalls.{attachment-amounts}
use Rattle.nio_serial.proofs.Listing.{keys-amounts, selected-amounts}
use Rattle.nio_serial.proofs.Opening.{channel-amounts}
use Rattle.nio_serial.proofs.PipeLines.{read-amounts, write-amounts}
use Rattle.nio_serial.proofs.PipeMaking.{ends-amount}
use Rattle.nio_serial.proofs.Registering.{register-amounts}
use Rattle.nio_serial.proofs.Simple.{is_blocking-amounts, is_open-amounts, is_registered-amounts, key_for-amounts}
use Rattle.nio_serial.proofs.Simple.{wakeup-amounts, close-amounts, interrupt-amounts, interrupted-amounts}
use Rattle.nio_serial.proofs.Simple.{selector-amounts}
use Rattle.nio_serial.proofs.Marking.{by_index-tells, by_key-tells}
use Rattle.nio_serial.proofs.Telling.{told-amounts, failed-amounts}
use Rattle.nio_serial.specs.Between.{IsOn, IsBetween}
use Rattle.nio_serial.specs.Documented.{Progress, Selecting, looked_pair, shown, documented, amounts}
use Rattle.nio_serial.specs.Laws.{IsNamed, by_key}
use Rattle.nio_serial.specs.PipeLines.{with_seal, after_pipe}
use Rattle.nio_serial.specs.Lines.{Said, comes_to, makes, asks, refused, with_selection, if_own, own_selection}
use Rattle.nio_serial.specs.Lines.{after_begin, after_told, after_shut, after_finish, begin_line, by_index, told_line}
use Rattle.nio_serial.specs.Lines.{failed_line, close_end_line, read_line, write_line, call_plan}
use Rattle.nio_serial.specs.Replies.{find_reply, set_reply, put_reply, channel_reply, mode_reply, register_reply}
use Rattle.nio_serial.specs.Replies.{closed_reply, ends_reply, selector_reply, begin_reply, told_reply, shut_reply}
use Rattle.nio_serial.specs.Replies.{finish_reply, list_reply}

-- a line that makes a call comes to what the call amounts to
pub made-is : {R : Type 0} (me : CallerNo) (plan : Plan R) (said : R → Reply) (left : R → Progress) (st : State)
    → amounts said left (perform me plan st) ≡ comes_to (perform me (makes plan said left) st)
made-is me plan said left st =
    sym (ap comes_to (perform-bind me plan (λ answer. Plan.reply
    (record { reply = said answer; left = left answer })) st))

module _ (l : Limits) (st : State) (now : Progress) (me : CallerNo) (between : IsBetween l st now) where
  abbrev ds : ScriptState
  ds = documented st now

  -- one that begins and ends nothing
  asked-is : {R : Type 0} (plan : Plan R) (said : R → Reply)
      → amounts said (λ _. now) (perform me plan st) ≡ comes_to (perform me (asks now plan said) st)
  asked-is plan said = made-is me plan said (λ _. now) st

  abbrev pin_free : (s : SelNo) (i : ℕ) → IsOff st.pinned st.amid s.0 i me.0
  pin_free s i = off l st now between s.0 i me.0

  -- ---- selections

  begin-is : (s : SelNo) (o : Option Mode)
      → begun_with Now ds me s.0 o ≡ comes_to (perform me (begin_line now me s o) st)
  begin-is s None = refl
  begin-is s (Some mode) =
      begin-amounts st now me s (none_due l st now between s.0) (untaken l st now between s.0)
      (published l st now between s.0) (free l st now between s.0) mode
      ∙ made-is me (try_begin_plan s mode None false) begin_reply (after_begin now me s) st

  module _ (s : SelNo) (y : Selecting) (is : now.selection s.0 ≡ Some y) where
    abbrev x : Selection
    x = y.selection

    on : IsOn s.0 x
    on = (between.shown s.0).on y is

    selector-is : x.selector ≡ s
    selector-is = λ j. record { 0 = on.selector j }

    in_set : (k : KeyId) → is_looked (map looked_pair x.looked) k ≡ true
        → is_in_key_set (st.key x.selector.0 k.index) k.serial ≡ true
    in_set =
        subst (λ (n : ℕ). (k : KeyId) → is_looked (map looked_pair x.looked) k ≡ true
        → is_in_key_set (st.key n k.index) k.serial ≡ true) (sym on.selector) (looked_in_set l st now between s.0 y is)

    finds : x.listed ≡ true → (i : ℕ) → in_cancelled_set (st.key x.selector.0 i) ≡ true
        → st.touched x.selector.0 i ≡ true
    finds =
        subst (λ (n : ℕ). x.listed ≡ true → (i : ℕ) → in_cancelled_set (st.key n i) ≡ true → st.touched n i ≡ true)
        (sym on.selector) (finds_cancelled l st now between s.0 y is)

    -- by what the poller told by index
    told-index : (elapsed : Bool) (told : List (ℕ × ℕ))
        → told_selection Now ds me s.0 (by_key x told) elapsed (Some (shown x))
        ≡ amounts told_reply (after_told now s) (perform me (told_plan x told elapsed) st)
    told-index elapsed told =
        subst (λ (n : SelNo). told_selection Now ds me n.0 (by_key x told) elapsed (Some (shown x))
        ≡ amounts told_reply (after_told now n) (perform me (told_plan x told elapsed) st)) selector-is
        (told-amounts st now me x (by_key x told) told on.rises in_set (by_key-tells x told)
        (none_due l st now between) (untaken l st now between x.selector.0) (published l st now between x.selector.0)
        (free l st now between x.selector.0) finds elapsed)

    told-one : (elapsed : Bool) (pairs : List (KeyId × ℕ))
        → told_selection Now ds me s.0 pairs elapsed (Some (shown x))
        ≡ comes_to (perform me (told_line now s elapsed pairs (Some x)) st)
    told-one elapsed pairs =
        subst (λ (n : SelNo). told_selection Now ds me n.0 pairs elapsed (Some (shown x))
        ≡ amounts told_reply (after_told now n) (perform me
        (told_plan x (by_index x pairs) elapsed) st)) selector-is
        (told-amounts st now me x pairs (by_index x pairs) on.rises in_set (by_index-tells st x pairs in_set)
        (none_due l st now between) (untaken l st now between x.selector.0) (published l st now between x.selector.0)
        (free l st now between x.selector.0) finds elapsed)
        ∙ made-is me (told_plan x (by_index x pairs) elapsed) told_reply (after_told now s) st

    failed-one : left_selection ds s.0 (Some (shown x)) ≡ comes_to (perform me (failed_line now s (Some x)) st)
    failed-one =
        subst (λ (n : SelNo). left_selection ds n.0 (Some (shown x))
        ≡ amounts (λ _. reply.Left) (λ _. with_selection now n None) (perform me (leave_plan x) st)) selector-is
        (failed-amounts st now me x (none_due l st now between))
        ∙ made-is me (leave_plan x) (λ _. reply.Left) (λ _. with_selection now s None) st

  told-is : (s : SelNo) (elapsed : Bool) (pairs : List (KeyId × ℕ)) (o : Option Selecting) → now.selection s.0 ≡ o
      → told_selection Now ds me s.0 pairs elapsed (option_map shown (if_own me o))
      ≡ comes_to (perform me (told_line now s elapsed pairs (if_own me o)) st)
  told-is s elapsed pairs None is = refl
  told-is s elapsed pairs (Some y) is = by_caller (y.caller.0 == me.0)
    where
      by_caller : (b : Bool) → told_selection Now ds me s.0 pairs elapsed
          (option_map shown (cond b (Some y.selection) None))
          ≡ comes_to (perform me (told_line now s elapsed pairs (cond b (Some y.selection) None)) st)
      by_caller true = told-one s y is elapsed pairs
      by_caller false = refl

  failed-is : (s : SelNo) (o : Option Selecting) → now.selection s.0 ≡ o
      → left_selection ds s.0 (option_map shown (if_own me o))
      ≡ comes_to (perform me (failed_line now s (if_own me o)) st)
  failed-is s None is = refl
  failed-is s (Some y) is = by_caller (y.caller.0 == me.0)
    where
      by_caller : (b : Bool) → left_selection ds s.0 (option_map shown (cond b (Some y.selection) None))
          ≡ comes_to (perform me (failed_line now s (cond b (Some y.selection) None)) st)
      by_caller true = failed-one s y is
      by_caller false = refl

  begin_named : (s : SelNo) (waiting : Waiting) → st.selector s.0 ≡ true
      → begin_call Now ds me s waiting ≡ comes_to (perform me (begin_line now me s (mode_of waiting)) st)
  unfolding begin_call
  begin_named s waiting made = selector-through ds s made _ ∙ begin-is s (mode_of waiting)

  told_named : (s : SelNo) (elapsed : Bool) (pairs : List (KeyId × ℕ)) → st.selector s.0 ≡ true
      → told_call Now ds me s elapsed pairs ≡ comes_to (perform me
      (told_line now s elapsed pairs (own_selection now me s)) st)
  unfolding told_call
  told_named s elapsed pairs made =
      selector-through ds s made _ ∙ (ap (told_selection Now ds me s.0 pairs elapsed) (own-is l st now between me s)
      ∙ told-is s elapsed pairs (now.selection s.0) refl)

  failed_named : (s : SelNo) → st.selector s.0 ≡ true
      → failed_call ds me s ≡ comes_to (perform me (failed_line now s (own_selection now me s)) st)
  unfolding failed_call
  failed_named s made =
      selector-through ds s made _ ∙ (ap (left_selection ds s.0) (own-is l st now between me s)
      ∙ failed-is s (now.selection s.0) refl)

  -- ---- the end of a closing

  close_end-is : (s : SelNo) → st.selector s.0 ≡ true
      → close_end_call ds me s ≡ comes_to (perform me (close_end_line now me s) st)
  unfolding close_end_call
  close_end-is s made =
      by_entered (st.entered s.0) refl ∙ ap (λ o. comes_to (perform me (line (is_caller me o)) st))
      (sym (between.shown s.0).closing)
    where
      line : Bool → Plan Said
      line b = if b then makes (try_finish_plan s) finish_reply (after_finish now s) else refused now reply.NotClosing

      refused_where : (not (is_caller me (st.closer s.0)) || st.entered s.0) ≡ true
          → close_end_call ds me s ≡ unchanged ds reply.NotClosing
      refused_where e =
          selector-through ds s made _ ∙ cond-true (not (is_caller me (st.closer s.0)) || st.entered s.0) _ _ e

      by_entered : (e : Bool) → st.entered s.0 ≡ e
          → close_end_call ds me s ≡ comes_to (perform me (line
          (is_caller me (if st.entered s.0 then None else st.closer s.0))) st)
      by_entered true is =
          refused_where (or_right (not (is_caller me (st.closer s.0))) (st.entered s.0) is)
          ∙ ap (λ b. comes_to (perform me (line (is_caller me (if b then None else st.closer s.0))) st)) (sym is)
      by_entered false is =
          by_caller (is_caller me (st.closer s.0)) refl
          ∙ ap (λ b. comes_to (perform me (line (is_caller me (if b then None else st.closer s.0))) st)) (sym is)
        where
          by_caller : (b : Bool) → is_caller me (st.closer s.0) ≡ b
              → close_end_call ds me s ≡ comes_to (perform me (line (is_caller me (st.closer s.0))) st)
          by_caller true own =
              close_end-amounts st now me s (begun l st now between s.0) (none_due l st now between s.0)
              (claimed l st now between s.0) made own is
              ∙ (made-is me (try_finish_plan s) finish_reply (after_finish now s) st
              ∙ ap (λ b. comes_to (perform me (line b) st)) (sym own))
          by_caller false other =
              refused_where (or_left (not (is_caller me (st.closer s.0))) (st.entered s.0) (ap not other))
              ∙ ap (λ b. comes_to (perform me (line b) st)) (sym other)

  -- ---- every call

  abbrev above : (s : SelNo) → nat_lt (st.keys_high s.0) (st.keys_high s.0) ≡ false
  above s = le-ltb (st.keys_high s.0) (st.keys_high s.0) (omega arith)

  -- ---- pipes

  read-line : (c : ChanId) (n : ℕ) (place : Option ℕ)
      → read_from ds me c n place ≡ comes_to (perform me (read_line l now c n place) st)
  read-line c n None = refl
  read-line c n (Some i) =
      read-amounts l st now me c (λ s k. off l st now between s k me.0) (whole l st now between)
      (within l st now between) i n
      ∙ made-is me (try_read_plan l c) _ _ st

  write-line : (c : ChanId) (bytes : List ℕ) (place : Option ℕ)
      → write_to ds me c bytes place ≡ comes_to (perform me (write_line l now c bytes place) st)
  write-line c bytes None = refl
  write-line c bytes (Some i) =
      write-amounts l st now me c (λ s k. off l st now between s k me.0) (whole l st now between)
      (within l st now between) i bytes
      ∙ made-is me (try_write_plan l (pipe_at now.pipes i).source c) _ _ st

  pread-is : (c : ChanId) (n : ℕ) → was_opened (st.chan c.number.0) c.serial ≡ true
      → pread_call ds me c n ≡ comes_to (perform me (read_line l now c n (own_source now.pipes me c)) st)
  unfolding pread_call
  pread-is c n made = channel-through ds c made _ ∙ read-line c n (own_source now.pipes me c)

  pwrite-is : (c : ChanId) (bytes : List ℕ) → was_opened (st.chan c.number.0) c.serial ≡ true
      → pwrite_call ds me c bytes ≡ comes_to (perform me (write_line l now c bytes (own_sink now.pipes me c)) st)
  unfolding pwrite_call
  pwrite-is c bytes made = channel-through ds c made _ ∙ write-line c bytes (own_sink now.pipes me c)

  pipe-is : (target : CallerNo) → target.0 < l.callers
      → pipe_call Now l ds me target
      ≡ comes_to (perform me (makes (pipe_plan l false) ends_reply (after_pipe now me target)) st)
  unfolding pipe_call
  pipe-is target below =
      cond-true (nat_lt target.0 l.callers) _ _ (lt-ltb target.0 l.callers below)
      ∙ (ends-amount l st now me target
      (record { within = between.at_rest.high.channels_within; made = channels l st now between })
      (unheld l st now between) (λ s k. off l st now between s k me.0) (whole l st now between)
      (within l st now between)
      ∙ made-is me (pipe_plan l false) ends_reply (after_pipe now me target) st)

  pub call-amounts : (word : Call) → IsNamed l st word
      → call_of Now l ds me word ≡ comes_to (perform me (call_plan l now me word) st)
  unfolding call_of call_plan
  call-amounts call.Selector named = selector-amounts st now me l ∙ asked-is (open_selector_plan l) selector_reply
  call-amounts (call.Channel kind) named =
      channel-amounts l st me (channels l st now between) (unheld l st now between) kind now
      ∙ asked-is (open_channel_plan l kind) channel_reply
  call-amounts (call.Blocking c on) named =
      blocking-amounts l st now me c (unheld l st now between c.number.0) on named
      ∙ asked-is (try_set_blocking_plan l c on) mode_reply
  call-amounts (call.IsBlocking c) named =
      is_blocking-amounts st now me c named ∙ asked-is (is_blocking_plan c) yes_or_no
  call-amounts (call.IsOpen c) named = is_open-amounts st now me c named ∙ asked-is (is_open_plan c) yes_or_no
  call-amounts (call.IsRegistered c) named =
      is_registered-amounts st now me c named l ∙ asked-is (is_registered_plan l c) yes_or_no
  call-amounts (call.KeyFor c s) named =
      key_for-amounts st now me c named.0 s named.1 ∙ asked-is (key_for_plan c s) find_reply
  call-amounts (call.Register s c ops att) named =
      register-amounts l st now me s c ops att (unheld l st now between c.number.0) (unpinned l st now between s.0)
      (λ i. unchanging l st now between s.0 i me.0)
      (untaken l st now between s.0) (claimed l st now between s.0)
      (fresh_mark l st now between s.0 (st.keys_high s.0) (above s))
      (fresh_free l st now between s.0 (st.keys_high s.0) (above s)) named.0 named.1
      ∙ asked-is (try_register_plan l s c ops (given_or_none att)) register_reply
  call-amounts (call.Closec c) named =
      closec-amounts l st now me c (λ s i. off l st now between s i me.0) (whole l st now between)
      (within l st now between) named
      ∙ made-is me (close_channel_plan l c) closed_reply (λ _. with_seal now (own_sink now.pipes me c)) st
  call-amounts (call.Valid s k) named =
      valid-amounts st now me s k (pin_free s k.index) named.0 named.1 ∙ asked-is (is_valid_plan (key s k)) yes_or_no
  call-amounts (call.Interest s k) named =
      interest-amounts st now me s k (pin_free s k.index) named.0 named.1 ∙ asked-is (interest_plan (key s k)) set_reply
  call-amounts (call.Ready s k) named =
      ready-amounts st now me s k (pin_free s k.index) named.0 named.1 ∙ asked-is (ready_plan (key s k)) set_reply
  call-amounts (call.Iset s k ops) named =
      iset-amounts st now me s k (pin_free s k.index) named.0 named.1 ops
      ∙ asked-is (set_interest_plan (key s k) ops) put_reply
  call-amounts (call.Ior s k ops) named =
      ior-amounts st now me s k (pin_free s k.index) named.0 named.1 ops
      ∙ asked-is (interest_or_plan (key s k) ops) set_reply
  call-amounts (call.Iand s k ops) named =
      iand-amounts st now me s k (pin_free s k.index) named.0 named.1 ops
      ∙ asked-is (interest_and_plan (key s k) ops) set_reply
  call-amounts (call.Cancel s k) named =
      cancel-amounts st now me s k (pin_free s k.index) named.0 named.1 (whole l st now between s.0 k.index)
      ∙ asked-is (cancel_plan (key s k)) (λ _. reply.«Ok»)
  call-amounts (call.Unselect s k) named =
      unselect-amounts st now me s k (pin_free s k.index) named.0 named.1 ∙ asked-is (unselect_plan (key s k)) yes_or_no
  call-amounts (call.Attach s k att) named =
      attach-amounts st now me s k (pin_free s k.index) named.0 named.1 att
      ∙ asked-is (attach_plan (key s k) att) (λ before. reply.Number before)
  call-amounts (call.Attachment s k) named =
      attachment-amounts st now me s k (pin_free s k.index) named.0 named.1
      ∙ asked-is (attachment_plan (key s k)) (λ att. reply.Number att)
  call-amounts (call.Begin s waiting) named = begin_named s waiting named
  call-amounts (call.Told s elapsed pairs) named = told_named s elapsed pairs named
  call-amounts (call.Failed s) named = failed_named s named
  call-amounts (call.Wakeup s) named = wakeup-amounts st now me s named ∙ asked-is (wakeup_plan s) (λ _. reply.«Ok»)
  call-amounts (call.Close s) named =
      close-amounts st now me s named ∙ made-is me (shut_plan s) shut_reply (after_shut now me s) st
  call-amounts (call.CloseEnd s) named = close_end-is s named
  call-amounts (call.Keys s) named = keys-amounts st now me s named ∙ asked-is (keys_plan s false) list_reply
  call-amounts (call.Selected s) named =
      selected-amounts st now me s named (λ i. off l st now between s.0 i me.0)
      ∙ asked-is (selected_keys_plan s false) list_reply
  call-amounts (call.Interrupt target) named =
      interrupt-amounts st now me l target named ∙ asked-is (interrupt_plan target) (λ _. reply.«Ok»)
  call-amounts call.Interrupted named = interrupted-amounts st now me ∙ asked-is interrupted_plan yes_or_no
  call-amounts (call.Pipe target) named = pipe-is target named
  call-amounts (call.Pwrite c bytes) named = pwrite-is c bytes named
  call-amounts (call.Pread c n) named = pread-is c n named
  call-amounts (call.Group g) named = refl

  -- a `told` with what the poller told by index
  pub told-by-index : (s : SelNo) (x : Selection) (told : List (ℕ × ℕ)) (elapsed : Bool) → st.selector s.0 ≡ true
      → own_selection now me s ≡ Some x
      → call_of Now l ds me (call.Told s elapsed (by_key x told))
      ≡ amounts told_reply (after_told now s) (perform me (told_plan x told elapsed) st)
  unfolding call_of told_call
  told-by-index s x told elapsed made own =
      selector-through ds s made _
      ∙ (ap (told_selection Now ds me s.0 (by_key x told) elapsed)
      (own-is l st now between me s ∙ ap (option_map shown) own)
      ∙ by_selection (now.selection s.0) refl own)
    where
      by_selection : (o : Option Selecting) → now.selection s.0 ≡ o → if_own me o ≡ Some x
          → told_selection Now ds me s.0 (by_key x told) elapsed (Some (shown x))
          ≡ amounts told_reply (after_told now s) (perform me (told_plan x told elapsed) st)
      by_selection None is own' = absurd cc
      by_selection (Some y) is own' = by_caller (y.caller.0 == me.0) own'
        where
          by_caller : (b : Bool) → cond b (Some y.selection) None ≡ Some x
              → told_selection Now ds me s.0 (by_key x told) elapsed (Some (shown x))
              ≡ amounts told_reply (after_told now s) (perform me (told_plan x told elapsed) st)
          by_caller true now' =
              subst (λ (z : Selection). told_selection Now ds me s.0 (by_key z told) elapsed (Some (shown z))
              ≡ amounts told_reply (after_told now s) (perform me (told_plan z told elapsed) st))
              (some_same y.selection x now') (told-index s y is elapsed told)
          by_caller false now' = absurd cc
