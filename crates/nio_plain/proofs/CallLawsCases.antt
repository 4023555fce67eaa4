-- Each call makes one of the changes.
use Rattle.std.proofs.Common.{◌≡◌, ℕ, ◌<◌, ◌==◌, Bool, true, false, not, ◌&&◌, ◌||◌, cond, nat_lt, Option, Some, None}
use Rattle.std.proofs.Common.{is_some, List, [], ◌∷◌, length, filter, map, find, refl, ◌∙◌}
use Rattle.std.proofs.lemmas.Bool.{and_parts, ltb-true, not-false, not-true, or_parts, both_ways}
use Rattle.nio_base.specs.declared.kind.Kind.{Kind}
use Rattle.nio_base.specs.declared.kind.Kind.TheVariants.{Sink, Source}
use Rattle.nio_base.specs.declared.limits.Limits.{Limits}
use Rattle.nio_base.specs.declared.numbers.CallerNo.{CallerNo}
use Rattle.nio_base.specs.declared.numbers.ChanId.{ChanId}
use Rattle.nio_base.specs.declared.numbers.GChan.{GChan}
use Rattle.nio_base.specs.declared.numbers.KeyId.{KeyId}
use Rattle.nio_base.specs.declared.numbers.SelNo.{SelNo}
use Rattle.nio_group.specs.Group.{IsMade, is_made, is_terminated}
use Rattle.nio_group.proofs.NumberLemmas.{made-so}
use Rattle.nio_group.specs.Run as step
use Rattle.nio_history.specs.Sets.{fits, fits_channel, in_key_set, in_selected_set, is_open_channel, is_valid_key}
use Rattle.nio_history.specs.Sets.{was_opened, was_published}
use Rattle.nio_history.specs.declared.found.Mode.{Mode}
use Rattle.nio_language.specs.declared.call.Call.{Call}
use Rattle.nio_language.specs.declared.call.Call.TheVariants as call
use Rattle.nio_language.specs.declared.call.Waiting.{Waiting}
use Rattle.nio_language.specs.declared.group_call.GroupCall.{GroupCall}
use Rattle.nio_language.specs.declared.group_call.GroupCall.TheVariants as group
use Rattle.nio_language.specs.declared.reply.Reply.{Reply}
use Rattle.nio_language.specs.declared.reply.Reply.TheVariants as reply
use Rattle.nio_plain.specs.ScriptState.{ScriptState, Selection}
use Rattle.nio_plain.specs.Seq.{call_of, seq}
use Rattle.nio_plain.specs.Seq.Replies.{Replied, unchanged, replied, yes_or_no}
use Rattle.nio_plain.specs.Seq.Cancelling.{channel_closed, closec_call, cancel_call}
use Rattle.nio_plain.specs.Seq.Closing.{close_call, close_end_call}
use Rattle.nio_plain.specs.Seq.Grouping.{GroupReplied, replied_by_group, group_replied, group_call, lacks_a_number}
use Rattle.nio_plain.specs.Seq.Grouping.{with_named_group_channel}
use Rattle.nio_plain.specs.Seq.Keys.{are_legal_at, is_in_selected_set, valid_call, interest_call, ready_call, iset_call}
use Rattle.nio_plain.specs.Seq.Keys.{ior_call, iand_call, unselect_call, attach_call, attachment_call}
use Rattle.nio_plain.specs.Seq.Listing.{names_or_none, keys_call, selected_call}
use Rattle.nio_plain.specs.Seq.Modes.{blocking_call, has_key, is_blocking_call, is_registered, key_of, key_of_channel}
use Rattle.nio_plain.specs.Seq.Modes.{is_open_call, is_registered_call, key_for_call, name_or_none}
use Rattle.nio_plain.specs.Seq.Names.{below, key_at}
use Rattle.nio_plain.specs.Seq.Opening.{channel_made, next_channel, selector_made, selector_call, channel_call}
use Rattle.nio_plain.specs.Seq.Opening.{with_new_channel}
use Rattle.nio_plain.specs.Seq.Pipes.{own_source, own_sink, pipe_at, sealing}
use Rattle.nio_plain.specs.Seq.Piping.{with_sink, with_source, finds_interrupt, not_now, read_first, read_from}
use Rattle.nio_plain.specs.Seq.Piping.{has_open_source, room_for, write_to, pipe_call, pread_call, pwrite_call}
use Rattle.nio_plain.specs.Seq.Registering.{given_or_none, given_or_kept, next_key, are_legal, registered}
use Rattle.nio_plain.specs.Seq.Registering.{registered_new, register_call}
use Rattle.nio_plain.specs.Seq.Selections.{mode_of, updated_count, is_again, why_ended, own_selection, left_selection}
use Rattle.nio_plain.specs.Seq.Selections.{is_caller, begun_with, told_selection, begin_call, told_call, failed_call}
use Rattle.nio_plain.specs.Seq.Wakeups.{wakeup_call, interrupt_call, interrupted_call}
use Rattle.nio_plain.specs.declared.rules.Rules.{Rules}
use Rattle.nio_plain.proofs.CallChanges as change
use Rattle.nio_plain.proofs.CallChanges.{Change, IsOwnSink, IsOwnSource, MayRegister, may_keep}
use Rattle.nio_plain.proofs.Found.{found_below}

pub some_caller : (me : CallerNo) (o : Option CallerNo) → is_caller me o ≡ true → is_some o ≡ true
some_caller me None h = absurd (both_ways false refl h)
some_caller me (Some n) h = refl

module _ (rules : Rules) (l : Limits) (st : ScriptState) (me : CallerNo) where
  abbrev C : Call → Replied → Type 0
  C = Change rules l st me

  -- both ways of a test
  either : {c : Call} {x y : Replied} (b : Bool) → C c x → C c y → C c (cond b x y)
  either true p q = p
  either false p q = q

  either_where : {c : Call} {x y : Replied} (b : Bool) → (b ≡ true → C c x) → (b ≡ false → C c y) → C c (cond b x y)
  either_where true p q = p refl
  either_where false p q = q refl

  -- a call that changes nothing: it is unchanged, or it tells something
  says : (c : Call) (r : Reply) → may_keep c r ≡ true → C c (unchanged st r)
  says c r keeps = change.nothing c r keeps

  says_whether : (c : Call) (b : Bool) → C c (unchanged st (yes_or_no b))
  says_whether c true = says c reply.Yes refl
  says_whether c false = says c reply.No refl

  says_name : (c : Call) (name : Option KeyId) → C c (unchanged st (name_or_none name))
  says_name c None = says c reply.None refl
  says_name c (Some k) = says c (reply.Key k) refl

  says_names : (c : Call) (names : List KeyId) → C c (unchanged st (names_or_none names))
  says_names c [] = says c reply.None refl
  says_names c (k ∷ ks) = says c (reply.Names (k ∷ ks)) refl

  of_selector : (made : Option ℕ) → ((s : ℕ) → made ≡ Some s → s < l.selectors)
      → C call.Selector (selector_made st made)
  of_selector None within = says call.Selector reply.SelectorsSpent refl
  of_selector (Some s) within = change.selector s (within s refl)

  of_channel : (kind : Kind) (made : Option ChanId) → next_channel rules l st.shared kind ≡ made
      → C (call.Channel kind) (channel_made st kind made)
  of_channel kind None is = says (call.Channel kind) reply.ChannelsSpent refl
  of_channel kind (Some c) is = change.channel kind c is

  of_new : (s : SelNo) (c : ChanId) (ops : ℕ) (att : Option ℕ) (note : ℕ) (next : Option KeyId)
      → ((k : KeyId) → next ≡ Some k → MayRegister l st s.0 c.number.0 k)
      → C (call.Register s c ops att) (registered_new st s.0 c.number.0 ops note next)
  of_new s c ops att note None may = says (call.Register s c ops att) reply.Full refl
  of_new s c ops att note (Some k) may = change.register s c ops att k note (may k refl)

  of_register : (s : SelNo) (c : ChanId) (ops : ℕ) (att : Option ℕ) (key : Option KeyId)
      → ((k : KeyId) → next_key l st.shared s.0 ≡ Some k → key ≡ None → (st.shared.gate s.0).shut ≡ false
      → MayRegister l st s.0 c.number.0 k)
      → C (call.Register s c ops att) (registered l st s.0 c.number.0 ops att key)
  of_register s c ops att None may =
      either_where (st.shared.gate s.0).shut (λ _. says (call.Register s c ops att) reply.ClosedSelector refl)
      (λ not_shut. of_new s c ops att (given_or_none att) (next_key l st.shared s.0)
      (λ k next. may k next refl not_shut))
  of_register s c ops att (Some k) may =
      let word = call.Register s c ops att in
      either (st.shared.key s.0 k.index).cancelled (says word reply.CancelledKey refl)
      (either (st.shared.gate s.0).shut (says word reply.ClosedSelector refl)
      (change.register_again s c ops att k (given_or_kept att (st.shared.note s.0 k.index))))

  by_key : (s : SelNo) (c : ChanId) (ops : ℕ) (att : Option ℕ) (key : Option KeyId)
      → key_of st.shared c.number.0 s.0 ≡ key → st.shared.selector s.0 ≡ true
      → is_open_channel (st.shared.chan c.number.0) c.serial ≡ true → (st.shared.chan c.number.0).blocking ≡ false
      → C (call.Register s c ops att) (registered l st s.0 c.number.0 ops att key)
  by_key s c ops att key is selector is_open non_blocking =
      let chan = st.shared.chan c.number.0 in
      let both = and_parts (fits_channel chan c.serial) (not chan.closed) is_open in
      of_register s c ops att key (λ k next none not_shut. record {
        next = next;
        none = is ∙ none;
        selector = selector;
        not_shut = not_shut;
        made = (and_parts chan.made (chan.serial == c.serial) both.0).0;
        is_open = not-true chan.closed both.1;
        non_blocking = non_blocking;
      })

  of_begin : (s : SelNo) (waiting : Waiting) (how : Option Mode)
      → C (call.Begin s waiting) (begun_with rules st me s.0 how)
  of_begin s waiting None = says (call.Begin s waiting) reply.NegativeTimeout refl
  of_begin s waiting (Some how) =
      let word = call.Begin s waiting in
      either (st.shared.gate s.0).shut (says word reply.ClosedSelector refl)
      (either_where (is_some (st.shared.turn s.0)) (λ _. says word reply.Busy refl) (change.begin s waiting how))

  of_told : (s : SelNo) (elapsed : Bool) (pairs : List (KeyId × ℕ)) (own : Option Selection)
      → own_selection st me s.0 ≡ own → C (call.Told s elapsed pairs) (told_selection rules st me s.0 pairs elapsed own)
  of_told s elapsed pairs None e = says (call.Told s elapsed pairs) reply.NotSelecting refl
  of_told s elapsed pairs (Some selection) e =
      let count = updated_count st.shared s.0 selection.looked pairs in
      let gate = st.shared.gate s.0 in
      let interrupted = st.shared.interrupted me.0 in
      either (is_again gate interrupted selection.mode elapsed count)
      (says (call.Told s elapsed pairs) reply.Again refl)
      (change.told s elapsed pairs selection count (why_ended gate interrupted selection.mode count) e)

  of_failed : (s : SelNo) (own : Option Selection) → own_selection st me s.0 ≡ own
      → C (call.Failed s) (left_selection st s.0 own)
  of_failed s None e = says (call.Failed s) reply.NotSelecting refl
  of_failed s (Some selection) e = change.failed s selection e

  -- the tests of the names of a line
  opened_named : {c : Call} {x : Replied} (k : ChanId)
      → (was_opened (st.shared.chan k.number.0) k.serial ≡ true → C c x)
      → C c (cond (was_opened (st.shared.chan k.number.0) k.serial) x (unchanged st reply.NoChannel))
  opened_named {c = c} k done =
      either_where (was_opened (st.shared.chan k.number.0) k.serial) done (λ _. says c reply.NoChannel refl)

  channel_named : {c : Call} {x : Replied} (k : ChanId) → C c x
      → C c (cond (was_opened (st.shared.chan k.number.0) k.serial) x (unchanged st reply.NoChannel))
  channel_named k done = opened_named k (λ _. done)

  -- what is done with an open channel, and with a closed one
  where_open : {c : Call} {x y : Replied} (k : ChanId)
      → (is_open_channel (st.shared.chan k.number.0) k.serial ≡ false → C c x)
      → (is_open_channel (st.shared.chan k.number.0) k.serial ≡ true → C c y)
      → C c (cond (not (is_open_channel (st.shared.chan k.number.0) k.serial)) x y)
  where_open k closed is_open =
      either_where (not (is_open_channel (st.shared.chan k.number.0) k.serial)) (λ e. closed (not-true _ e))
      (λ e. is_open (not-false _ e))

  selector_named : {c : Call} {x : Replied} (s : SelNo) → C c x
      → C c (cond (st.shared.selector s.0) x (unchanged st reply.NoSelector))
  selector_named {c = c} s done = either (st.shared.selector s.0) done (says c reply.NoSelector refl)

  key_named : {c : Call} {x : Replied} (s : SelNo) (k : KeyId) → C c x
      → C c (cond (st.shared.selector s.0)
      (cond (was_published (st.shared.key s.0 k.index) k.serial) x (unchanged st reply.NoKey))
      (unchanged st reply.NoSelector))
  key_named {c = c} s k done =
      selector_named s (either (was_published (st.shared.key s.0 k.index) k.serial) done (says c reply.NoKey refl))

  valid_named : {c : Call} {x : Replied} (s : SelNo) (k : KeyId) → C c x
      → C c (cond (st.shared.selector s.0)
      (cond (was_published (st.shared.key s.0 k.index) k.serial)
      (cond (is_valid_key (st.shared.key s.0 k.index) k.serial) x (unchanged st reply.CancelledKey))
      (unchanged st reply.NoKey)) (unchanged st reply.NoSelector))
  valid_named {c = c} s k done =
      key_named s k (either (is_valid_key (st.shared.key s.0 k.index) k.serial) done (says c reply.CancelledKey refl))

  -- calls on pipes

  of_closec : (c : ChanId) (is_open : Bool) → is_open_channel (st.shared.chan c.number.0) c.serial ≡ is_open
      → was_opened (st.shared.chan c.number.0) c.serial ≡ true
      → C (call.Closec c)
      (sealing (own_sink st.pipes me c)
      (cond is_open (replied st reply.«Ok» (channel_closed st.shared c.number.0)) (unchanged st reply.Already)))
  of_closec c true is opened = change.closec c is
  of_closec c false is opened = change.closec_again c opened is

  of_sink : (target : CallerNo) (source : ChanId) (sink : Option ChanId) → target.0 < l.callers
      → next_channel rules l st.shared Source ≡ Some source
      → next_channel rules l (with_new_channel st.shared Source source) Sink ≡ sink
      → C (call.Pipe target) (with_sink (channel_made st Source (Some source)).left me target source sink)
  of_sink target source None there is then_is = change.pipe_spent target source is
  of_sink target source (Some sink) there is then_is = change.pipe target source sink there is then_is

  of_pipe : (target : CallerNo) (source : Option ChanId) → target.0 < l.callers
      → next_channel rules l st.shared Source ≡ source
      → C (call.Pipe target) (with_source rules l st me target source)
  of_pipe target None there is = says (call.Pipe target) reply.ChannelsSpent refl
  of_pipe target (Some source) there is =
      of_sink target source (next_channel rules l (with_new_channel st.shared Source source) Sink) there is refl

  of_not_now : (c : Call) → may_keep c (reply.Number 0) ≡ true → (blocking : Bool)
      → C c (unchanged st (not_now blocking))
  of_not_now c keeps true = says c reply.Again refl
  of_not_now c keeps false = says c (reply.Number 0) keeps

  of_read : (c : ChanId) (n i : ℕ) → IsOwnSource st me c i
      → (blocking : Bool) (waiting : List ℕ) (sealed : Bool) → (pipe_at st.pipes i).waiting ≡ waiting
      → (pipe_at st.pipes i).sealed ≡ sealed → C (call.Pread c n) (read_first st blocking n i waiting sealed)
  of_read c n i own blocking [] false is seal = of_not_now (call.Pread c n) refl blocking
  of_read c n i own blocking [] true is seal = change.pread_end c n i own is seal
  of_read c n i own blocking (b ∷ bytes) sealed is seal = change.pread c n i b bytes own is

  of_pread : (c : ChanId) (n : ℕ) → was_opened (st.shared.chan c.number.0) c.serial ≡ true
      → (place : Option ℕ) → own_source st.pipes me c ≡ place → C (call.Pread c n) (read_from st me c n place)
  of_pread c n opened None own = says (call.Pread c n) reply.NotOwner refl
  of_pread c n opened (Some i) own =
      let word = call.Pread c n in
      where_open c (λ _. says word reply.ClosedChannel refl)
      (λ is_open. either (finds_interrupt st me c) (change.pread_interrupted c n is_open)
      (either (n == 0) (says word (reply.Number 0) refl)
      (of_read c n i (record { opened = opened; own = own }) (st.shared.chan c.number.0).blocking
      (pipe_at st.pipes i).waiting (pipe_at st.pipes i).sealed refl refl)))

  of_pwrite : (c : ChanId) (bytes : List ℕ) → was_opened (st.shared.chan c.number.0) c.serial ≡ true
      → (place : Option ℕ) → own_sink st.pipes me c ≡ place → C (call.Pwrite c bytes) (write_to st me c bytes place)
  of_pwrite c bytes opened None own = says (call.Pwrite c bytes) reply.NotOwner refl
  of_pwrite c bytes opened (Some i) own =
      let word = call.Pwrite c bytes in
      let its : IsOwnSink st me c i = record { opened = opened; own = own } in
      where_open c (change.pwrite_closed c bytes i its)
      (λ is_open. either (finds_interrupt st me c) (change.pwrite_interrupted c bytes i its is_open)
      (either (not (has_open_source st.shared (pipe_at st.pipes i))) (says word reply.BrokenPipe refl)
      (either (length bytes == 0) (says word (reply.Number 0) refl)
      (either (room_for bytes (pipe_at st.pipes i) == 0) (of_not_now word refl (st.shared.chan c.number.0).blocking)
      (change.pwrite c bytes i its is_open)))))

  -- calls on the group

  either_group : {c : Call} (b : Bool) (x y : GroupReplied) → (b ≡ true → C c (replied_by_group st x))
      → C c (replied_by_group st y) → C c (replied_by_group st (cond b x y))
  either_group true x y p q = p refl
  either_group false x y p q = q

  group_channel_named : {c : Call} (g : GChan) (x : GroupReplied)
      → (IsMade st.group g → C c (replied_by_group st x))
      → C c (replied_by_group st (with_named_group_channel st.group g x))
  group_channel_named {c = c} g x done =
      either_group (is_made st.group g) x _ (λ e. done (made-so st.group g e)) (says c reply.NoChannel refl)

  of_group_replied : (g : GroupCall) → lacks_a_number rules st.group g ≡ false
      → C (call.Group g) (replied_by_group st (group_replied st.group g))
  unfolding group_replied
  of_group_replied (group.Gopen kind) has = change.group (group.Gopen kind) (step.open_channel kind) refl has tt
  of_group_replied (group.Gbind g) has =
      group_channel_named g _ (change.group (group.Gbind g) (step.bind g) refl has)
  of_group_replied (group.Start g kind len) has =
      group_channel_named g _ (change.group (group.Start g kind len) (step.start g kind len) refl has)
  of_group_replied (group.Report n outcome) has =
      change.group (group.Report n outcome) (step.report n outcome) refl has tt
  of_group_replied group.Take has = change.group group.Take step.take refl has tt
  of_group_replied (group.Done n) has = change.group (group.Done n) (step.finish n) refl has tt
  of_group_replied (group.Gclose g) has =
      group_channel_named g _ (change.group (group.Gclose g) (step.close_channel g) refl has)
  of_group_replied group.Shutdown has = change.group group.Shutdown step.shutdown refl has tt
  of_group_replied group.ShutdownNow has = change.group group.ShutdownNow step.shutdown_now refl has tt
  of_group_replied group.IsShutdown has = says_whether (call.Group group.IsShutdown) st.group.is_shut
  of_group_replied group.Terminated has = says_whether (call.Group group.Terminated) (is_terminated st.group)

  of_group : (g : GroupCall) → C (call.Group g) (group_call rules st g)
  of_group g =
      either_where (lacks_a_number rules st.group g) (λ _. says (call.Group g) reply.ChannelsSpent refl)
      (of_group_replied g)

  -- whoever the caller is
  pub each_call : (c : Call) → C c (call_of rules l st me c)
  unfolding call_of selector_call channel_call blocking_call is_blocking_call is_open_call is_registered_call
      key_for_call register_call closec_call cancel_call valid_call interest_call ready_call iset_call ior_call
      iand_call unselect_call attach_call attachment_call begin_call told_call failed_call wakeup_call
      interrupt_call interrupted_call close_call close_end_call keys_call selected_call pipe_call pread_call
      pwrite_call
  each_call call.Selector =
      of_selector (find (λ s. not (st.shared.selector s)) (below l.selectors))
      (λ s e. (found_below (λ n. not (st.shared.selector n)) l.selectors s e).1)
  each_call (call.Channel kind) = of_channel kind (next_channel rules l st.shared kind) refl
  each_call (call.Blocking c on) =
      let word = call.Blocking c on in
      channel_named c
      (where_open c (λ _. says word reply.ClosedChannel refl) (λ is_open.
      either_where (on && has_key l st.shared c.number.0) (λ _. says word reply.IllegalBlockingMode refl)
      (change.blocking c on is_open)))
  each_call (call.IsBlocking c) =
      let chan = st.shared.chan c.number.0 in
      channel_named c (says_whether (call.IsBlocking c) (fits_channel chan c.serial && chan.blocking))
  each_call (call.IsOpen c) =
      channel_named c (says_whether (call.IsOpen c) (is_open_channel (st.shared.chan c.number.0) c.serial))
  each_call (call.IsRegistered c) = channel_named c (says_whether (call.IsRegistered c) (is_registered l st.shared c))
  each_call (call.KeyFor c s) =
      channel_named c (selector_named s (says_name (call.KeyFor c s) (key_of_channel st.shared c s.0)))
  each_call (call.Register s c ops att) =
      let word = call.Register s c ops att in
      either_where (st.shared.selector s.0) (λ selector.
      channel_named c
      (either (not (are_legal (st.shared.chan c.number.0).kind ops)) (says word reply.IllegalOps refl)
      (where_open c (λ _. says word reply.ClosedChannel refl) (λ is_open.
      either_where (st.shared.chan c.number.0).blocking (λ _. says word reply.IllegalBlockingMode refl) (λ non_blocking.
      by_key s c ops att (key_of st.shared c.number.0 s.0) refl selector is_open non_blocking)))))
      (λ _. says word reply.NoSelector refl)
  each_call (call.Closec c) =
      opened_named c (of_closec c (is_open_channel (st.shared.chan c.number.0) c.serial) refl)
  each_call (call.Valid s k) =
      key_named s k (says_whether (call.Valid s k) (is_valid_key (st.shared.key s.0 k.index) k.serial))
  each_call (call.Interest s k) =
      valid_named s k (says (call.Interest s k) (reply.Number (st.shared.interest s.0 k.index)) refl)
  each_call (call.Ready s k) =
      valid_named s k (says (call.Ready s k) (reply.Number (st.shared.mark s.0 k.index).ready) refl)
  each_call (call.Iset s k ops) =
      valid_named s k
      (either (are_legal_at st.shared s.0 k.index ops) (change.iset s k ops)
      (says (call.Iset s k ops) reply.IllegalOps refl))
  each_call (call.Ior s k ops) =
      valid_named s k
      (either (are_legal_at st.shared s.0 k.index ops) (change.ior s k ops)
      (says (call.Ior s k ops) reply.IllegalOps refl))
  each_call (call.Iand s k ops) = valid_named s k (change.iand s k ops)
  each_call (call.Cancel s k) = key_named s k (change.cancel s k)
  each_call (call.Unselect s k) =
      key_named s k
      (either (is_in_selected_set st.shared s.0 k) (change.unselect s k) (says (call.Unselect s k) reply.No refl))
  each_call (call.Attach s k att) =
      key_named s k
      (either (fits (st.shared.key s.0 k.index) k.serial) (change.attach s k att)
      (says (call.Attach s k att) (reply.Number 0) refl))
  each_call (call.Attachment s k) =
      key_named s k
      (says (call.Attachment s k)
      (reply.Number (cond (fits (st.shared.key s.0 k.index) k.serial) (st.shared.note s.0 k.index) 0)) refl)
  each_call (call.Begin s waiting) = selector_named s (of_begin s waiting (mode_of waiting))
  each_call (call.Told s elapsed pairs) = selector_named s (of_told s elapsed pairs (own_selection st me s.0) refl)
  each_call (call.Failed s) = selector_named s (of_failed s (own_selection st me s.0) refl)
  each_call (call.Wakeup s) = selector_named s (change.wakeup s)
  each_call (call.Close s) =
      selector_named s (either (st.shared.gate s.0).shut (says (call.Close s) reply.Already refl) (change.close s))
  each_call (call.CloseEnd s) =
      let word = call.CloseEnd s in
      let own = is_caller me (st.shared.closer s.0) in
      selector_named s
      (either_where (not own || st.shared.entered s.0) (λ _. says word reply.NotClosing refl) (λ may.
      either_where (is_some (st.shared.turn s.0)) (λ _. says word reply.Busy refl)
      (change.close_end s
      (some_caller me (st.shared.closer s.0) (not-false own (or_parts (not own) (st.shared.entered s.0) may).0)))))
  each_call (call.Keys s) =
      selector_named s
      (either (st.shared.gate s.0).shut (says (call.Keys s) reply.ClosedSelector refl)
      (says_names (call.Keys s)
      (map (key_at st.shared s.0)
      (filter (λ i. in_key_set (st.shared.key s.0 i)) (below (st.shared.keys_high s.0))))))
  each_call (call.Selected s) =
      selector_named s
      (either (st.shared.gate s.0).shut (says (call.Selected s) reply.ClosedSelector refl)
      (says_names (call.Selected s)
      (map (key_at st.shared s.0)
      (filter (λ i. in_selected_set st.shared s.0 i) (below (st.shared.keys_high s.0))))))
  each_call (call.Interrupt target) =
      either (nat_lt target.0 l.callers) (change.interrupt target) (says (call.Interrupt target) reply.NoCaller refl)
  each_call call.Interrupted = change.interrupted
  each_call (call.Pipe target) =
      either_where (nat_lt target.0 l.callers)
      (λ there. of_pipe target (next_channel rules l st.shared Source) (ltb-true target.0 l.callers there) refl)
      (λ _. says (call.Pipe target) reply.NoCaller refl)
  each_call (call.Pwrite c bytes) = opened_named c (λ opened. of_pwrite c bytes opened (own_sink st.pipes me c) refl)
  each_call (call.Pread c n) = opened_named c (λ opened. of_pread c n opened (own_source st.pipes me c) refl)
  each_call (call.Group g) = of_group g

  pub change_of : (c : Call) → C c (seq rules l st me c)
  unfolding seq
  change_of c = either (nat_lt me.0 l.callers) (each_call c) (says c reply.NoCaller refl)
