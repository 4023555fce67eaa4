-- Each call gives back the pins that it takes.
use Rattle.std.proofs.Common.{◌≡◌, ℕ, suc, ◌+◌, ◌*◌, nat_lt, Bool, true, false, ◌&&◌, if◌then◌else◌, Option, Some}
use Rattle.std.proofs.Common.{None}
use Rattle.nio_steps.specs.SelectCalls.{Begins, begin_lacks_memory}
use Rattle.nio_steps.specs.declared.looked.LookedKey.{LookedKey}
use Rattle.nio_steps.specs.TableCalls.{take_list}
use Rattle.std.proofs.Common.{None, List, [], ◌∷◌, ◌++◌, refl, ap, sym, subst, append_assoc}
use Rattle.std.proofs.lemmas.List.{append-nil}
use Rattle.nio_base.specs.declared.limits.Limits.{Limits}
use Rattle.nio_base.specs.declared.numbers.ChanId.{ChanId}
use Rattle.nio_base.specs.declared.numbers.ChanNo.{ChanNo}
use Rattle.nio_base.specs.declared.numbers.KeyId.{KeyId}
use Rattle.nio_base.specs.declared.numbers.SelNo.{SelNo}
use Rattle.nio_history.specs.Questions.{Question, question_of, answer_of}
use Rattle.nio_history.specs.declared.act.Act.{Act}
use Rattle.nio_history.specs.declared.found.Mode.{Mode}
use Rattle.nio_steps.proofs.CallWalks.{each_call, close_channel-walks, finish-walks, make_key-walks, register-walks}
use Rattle.nio_steps.proofs.PinBack.{NoPins, no_pins, again, OnlyPin, PinsFound, leaves_pinned, found_leaves}
use Rattle.nio_steps.proofs.PinBack.{leaves_pins, found_seek, claim-none, claim-only, claim_again-none}
use Rattle.nio_steps.proofs.PinBack.{claim_again-only, leaves-none, no_pins-append, only_pin-append, pin-only}
use Rattle.nio_steps.proofs.PlanWalks.{Walk, Walks, is_plain, walks_run}
use Rattle.nio_steps.proofs.WaitingWalks.{waiting-holds, selection-holds}
use Rattle.nio_steps.proofs.Walks.{Always, always_weaker, always_bind, always_if}
use Rattle.nio_steps.specs.ChannelCalls.{claim_taken, claim_free, claim_in_word, search_free, words_below, claim_new}
use Rattle.nio_steps.specs.ChannelCalls.{make_key, make_claimed, register_first, register_next, register_new}
use Rattle.nio_steps.specs.KeyCalls.{has_bit}
use Rattle.nio_steps.specs.PinLaws.{GivesPinsBack, PinsAreGivenBack}
use Rattle.nio_steps.specs.Plan.{reply, ◌>>◌}
use Rattle.nio_steps.specs.Runs.{Completes}
use Rattle.nio_steps.specs.Steps.{put_free, flag_in, stage_in, word_in, number_in}
use Rattle.nio_steps.specs.Sweeps.{seek_to}
use Rattle.nio_steps.specs.TableCalls.{TableCall, row_of, find_selector, find_channel, find, is_valid, interest}
use Rattle.nio_steps.specs.TableCalls.{set_interest, interest_or, interest_and, ready, cancel, unselect, attach}
use Rattle.nio_steps.specs.TableCalls.{attachment, open_channel, reopen_channel, is_open, is_blocking, is_registered}
use Rattle.nio_steps.specs.TableCalls.{key_for}
use Rattle.nio_steps.specs.TableCalls.{try_set_blocking, try_register, close_channel, open_selector, try_begin, told}
use Rattle.nio_steps.specs.TableCalls.{leave, shut, try_finish, keys, selected_keys, wakeup, interrupt, interrupted}
use Rattle.nio_steps.specs.TableCalls.{pipe, try_read, try_write, WaitCall, wait_row_of, set_blocking, register}
use Rattle.nio_steps.specs.TableCalls.{close, read, write}

-- ---- the walk

plain_leaves : (question : Question) → is_plain question ≡ true → leaves_pins question ≡ true
plain_leaves (Question.pin s i) is = absurd (cc is)
plain_leaves (Question.unpin s i) is = absurd (cc is)
plain_leaves (Question.claim s i c) is = absurd (cc is)
plain_leaves (Question.claim_again s i c from) is = absurd (cc is)
plain_leaves _ is = refl

abbrev pins : Walk
pins = record {
  Holds = NoPins;
  Calm = λ question. leaves_pins question ≡ true;
  none = no_pins;
  append = no_pins-append;
  one = leaves-none;
  plain = plain_leaves;
  pinned = λ s i steps each act asks. leaves_pinned s i (act ∷ []) (steps (stage_in (answer_of act)))
      (pin-only s i act asks) (each (stage_in (answer_of act)));
}

-- ---- registering

-- a new key's index is pinned from its claim on
abbrev IsFound : List Act → Option KeyId → SelNo → Type 0
IsFound acts found s = PinsFound s (λ (k : KeyId). k.index) acts found

taken-found : (s : SelNo) (c : ChanNo) (i : ℕ) → Always (PinsFound s (λ k. k.index)) (claim_taken s c i)
taken-found s c i = λ look asks claim asks'.
    let none = leaves-none look (ap leaves_pins asks) in
    let stage = stage_in (answer_of look) in
    always_if (λ acts r. IsFound (look ∷ claim ∷ acts) r s) (flag_in (answer_of claim)) (put_free s i >> reply None)
    (reply (Some (record { index = i; serial = suc stage.serial })))
    (λ pinned put asks''. no_pins-append (look ∷ claim ∷ []) (put ∷ [])
    (no_pins-append (look ∷ []) (claim ∷ []) none (claim_again-none s i claim c stage asks' pinned))
    (leaves-none put (ap leaves_pins asks'')))
    (λ _. only_pin-append s i (look ∷ []) (claim ∷ []) (λ s' i' _. none s' i')
    (claim_again-only s i claim c stage asks'))

free-found : (s : SelNo) (c : ChanNo) (i : ℕ) → Always (PinsFound s (λ k. k.index)) (claim_free s c i)
free-found s c i = λ take asks.
    let none = leaves-none take (ap leaves_pins asks) in
    always_if (λ acts r. IsFound (take ∷ acts) r s) (flag_in (answer_of take)) (claim_taken s c i) (reply None)
    (λ _. found_leaves s (λ k. k.index) (take ∷ []) (claim_taken s c i) none (taken-found s c i))
    (λ _. none)

word-found : (s : SelNo) (c : ChanNo) (mark j : ℕ) → Always (PinsFound s (λ k. k.index)) (claim_in_word s c mark j)
word-found s c mark j = λ look asks.
    let word = word_in (answer_of look) in
    found_leaves s (λ k. k.index) (look ∷ []) _ (leaves-none look (ap leaves_pins asks))
    (found_seek s (λ k. k.index) 64 0
    (λ b. if has_bit word b && nat_lt (64 * j + b) mark then claim_free s c (64 * j + b) else reply None)
    (λ b. always_if (PinsFound s (λ k. k.index)) (has_bit word b && nat_lt (64 * j + b) mark)
    (claim_free s c (64 * j + b)) (reply None) (λ _. free-found s c (64 * j + b)) (λ _. no_pins)))

search-found : (s : SelNo) (c : ChanNo) (mark : ℕ) → Always (PinsFound s (λ k. k.index)) (search_free s c mark)
search-found s c mark =
    found_seek s (λ k. k.index) (words_below mark) 0 (claim_in_word s c mark) (λ j. word-found s c mark j)

new-found : (s : SelNo) (c : ChanNo) (i : ℕ) → Always (PinsFound s (λ k. k.index)) (claim_new s c i)
new-found s c i = λ act asks. by_test act asks (flag_in (answer_of act)) refl
  where
    by_test : (act : Act) → question_of act ≡ Question.claim s i c → (b : Bool) → flag_in (answer_of act) ≡ b
        → IsFound (act ∷ []) (if b then None else Some (record { index = i; serial = 0 })) s
    by_test act asks true was = claim-none s i act c asks was
    by_test act asks false was = claim-only s i act c asks

-- with the pin of the claim
claimed-leaves : (s : SelNo) (c : ChanId) (ops att : ℕ) (k : KeyId) (before : List Act) → OnlyPin s k.index before
    → Always (λ acts _. NoPins (before ++ acts)) (make_claimed s c ops att k)
claimed-leaves s c ops att k before only =
    leaves_pinned s k.index before (make_key s c ops att k) only (make_key-walks {w = pins} s c ops att k refl).always

first-leaves : (s : SelNo) (c : ChanId) (ops att : ℕ) (found : Option KeyId) (before : List Act)
    → IsFound before found s → Always (λ acts _. NoPins (before ++ acts)) (register_first s c ops att found)
first-leaves s c ops att None before none = subst NoPins (sym (append-nil before)) none
first-leaves s c ops att (Some k) before only = λ act asks.
    again before act (make_claimed s c ops att k)
    (claimed-leaves s c ops att k (before ++ act ∷ [])
    (only_pin-append s k.index before (act ∷ []) only (λ s' i' _. leaves-none act (ap leaves_pins asks) s' i')))

next-leaves : (l : Limits) (s : SelNo) (c : ChanId) (ops att mark : ℕ) (found : Option KeyId) (before : List Act)
    → IsFound before found s
    → Always (λ acts _. NoPins (before ++ acts)) (register_next l s c ops att mark found)
next-leaves l s c ops att mark None before none =
    always_bind (λ acts r. IsFound (before ++ acts) r s) (λ acts _. NoPins (before ++ acts))
    (seek_to l.keys mark (claim_new s c.number)) (register_first s c ops att)
    (found_leaves s (λ k. k.index) before _ none
    (found_seek s (λ k. k.index) l.keys mark (claim_new s c.number) (λ i. new-found s c.number i)))
    (λ xs found here. always_weaker (λ acts _. NoPins ((before ++ xs) ++ acts))
    (λ acts _. NoPins (before ++ (xs ++ acts))) (register_first s c ops att found)
    (λ acts _ none'. subst NoPins (append_assoc before xs acts) none')
    (first-leaves s c ops att found (before ++ xs) here))
next-leaves l s c ops att mark (Some k) before only = λ act asks.
    again before act (make_claimed s c ops att k)
    (claimed-leaves s c ops att k (before ++ act ∷ [])
    (only_pin-append s k.index before (act ∷ []) only (λ s' i' _. leaves-none act (ap leaves_pins asks) s' i')))

new-leaves : (l : Limits) (s : SelNo) (c : ChanId) (ops att : ℕ) → Walks pins (register_new l s c ops att)
new-leaves l s c ops att = record {
  always = λ look asks.
      let mark = number_in (answer_of look) in
      let none = leaves-none look (ap leaves_pins asks) in
      always_bind (λ acts r. IsFound (look ∷ acts) r s) (λ acts _. NoPins (look ∷ acts))
      (search_free s c.number mark) (register_next l s c ops att mark)
      (found_leaves s (λ k. k.index) (look ∷ []) (search_free s c.number mark) none (search-found s c.number mark))
      (λ xs found here. next-leaves l s c ops att mark found (look ∷ xs) here);
}

-- ---- the law

-- of whatever limits, where a plan has none
abbrev no_limits : Limits
no_limits = record { callers = 0; selectors = 0; channels = 0; keys = 0 }

pub gives : (l : Limits) (lacks : Bool) (call : TableCall) → GivesPinsBack (Completes ((row_of call).plan l lacks))
gives l lacks call acts answer run =
    walks_run {w = pins} ((row_of call).plan l lacks) acts answer
    (each_call l lacks call
    (record {
      registers = λ s c ops att. register-walks l s c ops att (new-leaves l s c ops att);
      closes = λ c. close_channel-walks l c (λ _. refl);
      finishes = λ s calm. finish-walks s refl calm;
    })
    (λ s _. record { gives = refl; marks = λ i from bits. refl; removes = λ i. refl })
    (λ s mode known _. record { takes = λ j. refl; looks = λ i. refl })) run

begins_give : (s : SelNo) (mode : Mode) (known : Option (List LookedKey)) → GivesPinsBack (Begins s mode known)
begins_give s mode known acts answer = gives no_limits (begin_lacks_memory answer) (try_begin s mode known) acts answer

pub waiting_gives : (l : Limits) (call : WaitCall) → GivesPinsBack ((wait_row_of call).Shape l)
waiting_gives l call =
    waiting-holds pins l (λ call' _. gives l false call') call (λ s mode known polls _. begins_give s mode known)

pub pins_are_given_back : PinsAreGivenBack
pins_are_given_back = record {
  each = gives;
  each_waiting = waiting_gives;
  find_selector = λ l n. gives l false (find_selector n);
  find_channel = λ l n serial. gives l false (find_channel n serial);
  find = λ l s i serial. gives l false (find s i serial);
  is_valid = λ k. gives no_limits false (is_valid k);
  interest = λ k. gives no_limits false (interest k);
  set_interest = λ k ops. gives no_limits false (set_interest k ops);
  interest_or = λ k ops. gives no_limits false (interest_or k ops);
  interest_and = λ k ops. gives no_limits false (interest_and k ops);
  ready = λ k. gives no_limits false (ready k);
  cancel = λ k. gives no_limits false (cancel k);
  unselect = λ k. gives no_limits false (unselect k);
  attach = λ k att. gives no_limits false (attach k att);
  attachment = λ k. gives no_limits false (attachment k);
  open_channel = λ l kind. gives l false (open_channel kind);
  reopen_channel = λ l c. gives l false (reopen_channel c);
  is_open = λ c. gives no_limits false (is_open c);
  is_blocking = λ c. gives no_limits false (is_blocking c);
  is_registered = λ l c. gives l false (is_registered c);
  key_for = λ c s. gives no_limits false (key_for c s);
  try_set_blocking = λ l c on. gives l false (try_set_blocking c on);
  try_register = λ l s c ops att. gives l false (try_register s c ops att);
  close_channel = λ l c. gives l false (close_channel c);
  open_selector = λ l. gives l false open_selector;
  take_list = λ s. gives no_limits false (take_list s);
  try_begin = λ s mode known lacks. gives no_limits lacks (try_begin s mode known);
  told = λ selection pairs elapsed. gives no_limits false
      (told selection (record { pairs = pairs; elapsed = elapsed }));
  leave = λ selection. gives no_limits false (leave selection);
  shut = λ s. gives no_limits false (shut s);
  try_finish = λ s. gives no_limits false (try_finish s);
  keys = λ s lacks. gives no_limits lacks (keys s);
  selected_keys = λ s lacks. gives no_limits lacks (selected_keys s);
  wakeup = λ s. gives no_limits false (wakeup s);
  interrupt = λ target. gives no_limits false (interrupt target);
  interrupted = gives no_limits false interrupted;
  pipe = λ l lacks. gives l lacks pipe;
  try_read = λ l source. gives l false (try_read source);
  try_write = λ l source sink. gives l false (try_write source sink);
  set_blocking = λ l c on. waiting_gives l (set_blocking c on);
  register = λ l s c ops att. waiting_gives l (register s c ops att);
  select = λ s mode known polls.
      selection-holds pins no_limits (λ call _. gives no_limits false call) s mode known polls
      (begins_give s mode known);
  close = λ s. waiting_gives no_limits (close s);
  read = λ l source none. waiting_gives l (read source none);
  write = λ l source sink none. waiting_gives l (write source sink none);
}
