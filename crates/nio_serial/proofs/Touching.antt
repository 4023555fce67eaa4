-- Calls keep that each cancelled key is at an index that is touched: who cancels a key touches its index first, and no
-- documented call takes a bit.
use Rattle.std.proofs.Common.{◌≡◌, ℕ, zero, suc, ◌+◌, ◌-◌, nat_lt, Bool, true, false, cond, not}
use Rattle.std.proofs.Common.{if◌then◌else◌, Option, Some, None, is_some, Result, Ok, Err, List, [], refl, ap, sym}
use Rattle.std.proofs.Common.{subst}
use Rattle.nio_base.specs.Kind.{valid_operations}
use Rattle.nio_base.specs.Ops.{is_within}
use Rattle.nio_base.specs.declared.kind.Kind.{Kind}
use Rattle.nio_base.specs.declared.kind.Kind.TheVariants.{Source, Sink}
use Rattle.nio_base.specs.declared.limits.Limits.{Limits}
use Rattle.nio_base.specs.declared.numbers.CallerNo.{CallerNo}
use Rattle.nio_base.specs.declared.numbers.ChanId.{ChanId}
use Rattle.nio_base.specs.declared.numbers.ChanNo.{ChanNo}
use Rattle.nio_base.specs.declared.numbers.KeyId.{KeyId}
use Rattle.nio_base.specs.declared.numbers.KeyNo.{KeyNo}
use Rattle.nio_base.specs.declared.numbers.SelNo.{SelNo}
use Rattle.nio_history.proofs.Put.{put_at_keeps, put_at-same}
use Rattle.nio_history.specs.Acts.{effect, new_key}
use Rattle.nio_history.specs.Answers.{act_from, is_pinned}
use Rattle.nio_history.specs.Questions.{Question, Answer, answer_of}
use Rattle.nio_history.specs.Sets.{is_open_channel}
use Rattle.nio_history.specs.State.{State, put_at}
use Rattle.nio_history.specs.declared.found.Chan.{Chan}
use Rattle.nio_history.specs.declared.found.Stage.{Stage}
use Rattle.nio_language.proofs.KeptNames.{kept_by_names}
use Rattle.nio_language.specs.WordRows.{word_row}
use Rattle.nio_language.specs.declared.call.Call.{Call}
use Rattle.nio_language.specs.declared.reply.Reply.{Reply}
use Rattle.nio_language.specs.declared.word_row.LineName.{LineName}
use Rattle.nio_language.specs.declared.word_row.LineName.TheVariants.{Caller, Selector, Channel, Key}
use Rattle.nio_steps.proofs.PerformLaws.{perform-bind}
use Rattle.nio_steps.specs.ChannelCalls.{open_channel_plan, opened_channel, reopen_channel_plan, reopens_number}
use Rattle.nio_steps.specs.ChannelCalls.{reopened, reopen_found, reopen_clear, is_open_plan, is_blocking_plan}
use Rattle.nio_steps.specs.ChannelCalls.{is_registered_plan, enrolled_in_set, enrolled_key, first_key, key_of_channel}
use Rattle.nio_steps.specs.ChannelCalls.{key_for_plan, under_hold, set_mode_held, try_set_blocking_plan}
use Rattle.nio_steps.specs.ChannelCalls.{register_enrolled, register_over, claim_free, claim_at_bit}
use Rattle.nio_steps.specs.ChannelCalls.{claim_in_word, search_free, claim_new, publish_key, settle_key, make_key}
use Rattle.nio_steps.specs.ChannelCalls.{make_claimed, register_first, register_next}
use Rattle.nio_steps.specs.ChannelCalls.{register_rest, register_held, try_register_plan, cancel_at, cancel_enrolled}
use Rattle.nio_steps.specs.ChannelCalls.{cancel_keys, close_once_more, close_found, close_channel_plan}
use Rattle.nio_steps.specs.KeyCalls.{find_selector_plan, find_channel_plan, find_plan, is_valid_plan, under_pin}
use Rattle.nio_steps.specs.KeyCalls.{on_valid, if_valid, on_supported, look_set, put_set, add_set, keep_set, look_ready}
use Rattle.nio_steps.specs.KeyCalls.{interest_plan, set_interest_plan, interest_or_plan, interest_and_plan, ready_plan}
use Rattle.nio_steps.specs.KeyCalls.{cancel_plan, cancel_pinned, cancel_present, unselect_plan, unselect_present}
use Rattle.nio_steps.specs.KeyCalls.{attach_plan, attach_present, attachment_plan, attachment_present}
use Rattle.nio_steps.specs.Names.{selector, channel}
use Rattle.nio_steps.specs.Perform.{perform}
use Rattle.nio_steps.specs.PipeCalls.{pipe_plan, without_sink, with_sink, with_source, if_open}
use Rattle.nio_steps.specs.PipeCalls.{if_unbroken, try_read_plan, try_write_plan}
use Rattle.nio_steps.specs.Plan.{Plan, reply, ask, ◌>>=◌, ◌>>◌, when}
use Rattle.nio_steps.specs.SelectCalls.{open_selector_plan, keys_plan, list_selected, list_present, selected_keys_plan}
use Rattle.nio_steps.specs.SelectCalls.{wakeup_plan, interrupt_plan, interrupted_plan}
use Rattle.nio_steps.specs.Steps.{stage_in, flag_in, channel_in, number_in, enrolled_in}
use Rattle.nio_steps.specs.Sweeps.{sweep, sweep_to, found_or, seek, seek_to}
use Rattle.nio_steps.specs.declared.refusal.ChannelError.{ChannelError}
use Rattle.nio_steps.specs.declared.refusal.KeyError.{KeyError}
use Rattle.nio_steps.specs.declared.refusal.PipeError.{PipeError}
use Rattle.nio_steps.specs.declared.refusal.ReopenError.{ReopenError}
use Rattle.nio_serial.specs.Between.{AreTouched}
use Rattle.nio_serial.specs.Documented.{Progress}
use Rattle.nio_serial.specs.Lines.{Said, makes, if_found, if_name, if_named}

-- ---- one step

-- the question cancels no key, and takes no bit
abbrev spares : Question → Bool
spares (Question.cancel_key s i) = false
spares (Question.take_touched s j) = false
spares _ = true

-- a cancelled key that isn't removed is at a touched index
abbrev Covered : (ℕ → ℕ → Bool) → ℕ → ℕ → Stage → Type 0
Covered touched t i k = k.cancelled ≡ true → k.removed ≡ false → touched t i ≡ true

-- keys that are changed at one index
pub changed-touched : (st : State) (s i : ℕ) (x : Stage)
    → (Covered st.touched s i (st.key s i) → Covered st.touched s i x)
    → (t : ℕ) → AreTouched st t → AreTouched (record st { key = put_at st.key s i x }) t
changed-touched st s i x new t was = λ j. put_at_keeps (Covered st.touched) st.key s i x new t j (was j)

-- a claim gives the index a key that isn't cancelled
claimed-touched : (st : State) (s i : ℕ) (c : ChanNo) (q : ℕ) (b : Bool) (t : ℕ) → AreTouched st t
    → AreTouched (record st { key = put_at st.key s i (cond b (st.key s i) (new_key c q)) }) t
claimed-touched st s i c q true t was = changed-touched st s i (st.key s i) (λ old. old) t was
claimed-touched st s i c q false t was = changed-touched st s i (new_key c q) (λ old cancelled. absurd (cc cancelled)) t was

spared : (q : Question) → spares q ≡ true → (st : State) (me : CallerNo) (t : ℕ) → AreTouched st t
    → AreTouched (effect st me (act_from st me q)) t
spared (Question.cancel_key s i) is st me t was = absurd (cc is)
spared (Question.take_touched s j) is st me t was = absurd (cc is)
spared (Question.claim s i c) is st me t was = claimed-touched st s.0 i c 0 (st.key s.0 i).claimed t was
spared (Question.claim_again s i c from) is st me t was =
    claimed-touched st s.0 i c (suc (st.key s.0 i).serial) (is_pinned st s.0 i) t was
spared (Question.publish s i) is st me t was =
    changed-touched st s.0 i (record (st.key s.0 i) { published = true }) (λ old. old) t was
spared (Question.remove s i) is st me t was =
    changed-touched st s.0 i (record (st.key s.0 i) { removed = true }) (λ old cancelled there. absurd (cc there)) t was
spared (Question.touch s i) is st me t was = λ j cancelled there.
    put_at_keeps (λ _ _ b. b ≡ true) st.touched s.0 i true (λ _. refl) t j (was j cancelled there)
spared _ is st me t was = was

-- ---- plans

pub record KeepsTouched (me : CallerNo) {R : Type 0} (plan : Plan R) : Type 0 where
  pub keeps : (st : State) (t : ℕ) → AreTouched st t → AreTouched (perform me plan st).state t

pub keeps_reply : {R : Type 0} {me : CallerNo} (r : R) → KeepsTouched me (reply r)
keeps_reply r = record { keeps = λ st t was. was }

keeps_ask : {R : Type 0} {me : CallerNo} (q : Question) (next : Answer → Plan R) → spares q ≡ true
    → ((answer : Answer) → KeepsTouched me (next answer)) → KeepsTouched me (ask q next)
keeps_ask {me = me} q next is later = record {
  keeps = λ st t was. (later (answer_of (act_from st me q))).keeps (effect st me (act_from st me q)) t
      (spared q is st me t was);
}

keeps_bind : {A B : Type 0} {me : CallerNo} (plan : Plan A) (f : A → Plan B) → KeepsTouched me plan
    → ((a : A) → KeepsTouched me (f a)) → KeepsTouched me (plan >>= f)
keeps_bind {me = me} plan f here later = record {
  keeps = λ st t was. subst (λ (x : State). AreTouched x t) (sym (ap (λ p. p.state) (perform-bind me plan f st)))
      ((later (perform me plan st).answer).keeps (perform me plan st).state t (here.keeps st t was));
}

keeps_if : {R : Type 0} {me : CallerNo} (b : Bool) (x y : Plan R) → KeepsTouched me x → KeepsTouched me y
    → KeepsTouched me (if b then x else y)
keeps_if true x y this that = this
keeps_if false x y this that = that

keeps_turns : {A : Type 0} {me : CallerNo} (n i : ℕ) (f : ℕ → A → Plan A) (x : A)
    → ((k : ℕ) (y : A) → KeepsTouched me (f k y)) → KeepsTouched me (sweep n i f x)
unfolding sweep
keeps_turns zero i f x each = keeps_reply x
keeps_turns (suc n) i f x each =
    keeps_bind (f i x) (λ y. sweep n (i + 1) f y) (each i x) (λ y. keeps_turns n (i + 1) f y each)

keeps_sweep : {A : Type 0} {me : CallerNo} (b i : ℕ) (f : ℕ → A → Plan A) (x : A)
    → ((k : ℕ) (y : A) → KeepsTouched me (f k y)) → KeepsTouched me (sweep_to b i f x)
keeps_sweep b i f x each = keeps_turns (b - i) i f x each

keeps_tries : {A : Type 0} {me : CallerNo} (n i : ℕ) (f : ℕ → Plan (Option A)) → ((k : ℕ) → KeepsTouched me (f k))
    → KeepsTouched me (seek n i f)
unfolding seek
keeps_tries zero i f each = keeps_reply None
keeps_tries {A = A} {me = me} (suc n) i f each =
    keeps_bind (f i) (found_or (seek n (i + 1) f)) (each i) (by_found (keeps_tries n (i + 1) f each))
  where
    by_found : KeepsTouched me (seek n (i + 1) f) → (here : Option A)
        → KeepsTouched me (found_or (seek n (i + 1) f) here)
    by_found later (Some x) = keeps_reply (Some x)
    by_found later None = later

keeps_seek : {A : Type 0} {me : CallerNo} (b i : ℕ) (f : ℕ → Plan (Option A)) → ((k : ℕ) → KeepsTouched me (f k))
    → KeepsTouched me (seek_to b i f)
keeps_seek b i f each = keeps_tries (b - i) i f each

ruleset keeping_touched = (keeps_reply, keeps_ask, keeps_bind, keeps_if, keeps_sweep, keeps_seek)

under_pin-keeps : {A : Type 0} {me : CallerNo} (s : SelNo) (i : ℕ) (steps : Stage → Plan A)
    → ((stage : Stage) → KeepsTouched me (steps stage)) → KeepsTouched me (under_pin s i steps)
under_pin-keeps s i steps each =
    keeps_ask _ _ refl
    (λ answer. keeps_bind (steps (stage_in answer)) _ (each (stage_in answer))
    (λ a. keeps_ask _ _ refl (λ _. keeps_reply a)))

under_hold-keeps : {A E : Type 0} {me : CallerNo} (busy : E) (c : ChanNo) (steps : Plan (Result A E))
    → KeepsTouched me steps → KeepsTouched me (under_hold busy c steps)
under_hold-keeps busy c steps here =
    keeps_ask _ _ refl
    (λ answer. keeps_if _ _ _ (keeps_reply _)
    (keeps_bind steps _ here (λ a. keeps_ask _ _ refl (λ _. keeps_reply a))))

-- ---- cancelling

-- a key that is cancelled at a touched index
cancelled-touched : (st : State) (s i t : ℕ) → st.touched s i ≡ true → AreTouched st t
    → AreTouched (record st { key = put_at st.key s i (record (st.key s i) { cancelled = true }) }) t
cancelled-touched st s i t there was =
    changed-touched st s i (record (st.key s i) { cancelled = true }) (λ _ _ _. there) t was

cancel_pinned-keeps : {me : CallerNo} (s : SelNo) (i : ℕ) → KeepsTouched me (cancel_pinned s i)
cancel_pinned-keeps {me = me} s i = record {
  keeps = λ st t was.
      let touched : State = effect st me (act_from st me (Question.touch s i)) in
      cancelled-touched touched s.0 i t (put_at-same st.touched s.0 i true)
      (spared (Question.touch s i) refl st me t was);
}

cancel-keeps : {me : CallerNo} (k : KeyNo) → KeepsTouched me (cancel_plan k)
unfolding cancel_plan
cancel-keeps k =
    under_pin-keeps k.sel k.index (cancel_present k)
    (λ stage. keeps_if _ _ _
    (keeps_bind (cancel_pinned k.sel k.index) _ (cancel_pinned-keeps k.sel k.index) (λ _. keeps_reply tt))
    (keeps_reply tt))

-- ---- registering

-- the state after a step
abbrev stepped : CallerNo → State → Question → State
stepped me st q = effect st me (act_from st me q)

-- the key is cancelled, where its channel was closed meanwhile, under the touch before its parts were set
publish_key-keeps : {me : CallerNo} (s : SelNo) (c : ChanId) (ops att : ℕ) (k : KeyId)
    → KeepsTouched me (publish_key s c ops att k)
publish_key-keeps {me = me} s c ops att k = record { keeps = λ st t was. from st t was }
  where
    made_reply : Plan (Result KeyNo ChannelError)
    made_reply = reply (Ok (record { sel = s; index = k.index; serial = k.serial }))

    settles : (published : State) (t : ℕ) → published.touched s.0 k.index ≡ true → AreTouched published t → (b : Bool)
        → AreTouched (perform me (when b (ask (Question.cancel_key s k.index) (λ answer. reply (stage_in answer)))
        >> made_reply)
        published).state t
    settles published t there was true = cancelled-touched published s.0 k.index t there was
    settles published t there was false = was

    by_removed : (published : State) (t : ℕ) → published.touched s.0 k.index ≡ true → AreTouched published t → (b : Bool)
        → AreTouched (perform me (if b then reply (Err ChannelError.ClosedSelector) else settle_key s c k) published).state t
    by_removed published t there was true = was
    by_removed published t there was false =
        settles published t there was (not (is_open_channel (published.chan c.number.0) c.serial))

    from : (st : State) (t : ℕ) → AreTouched st t → AreTouched (perform me (publish_key s c ops att k) st).state t
    from st t was =
        let st1 = stepped me st (Question.touch s k.index) in
        let st2 = stepped me st1 (Question.swap_interest s k.index ops) in
        let st3 = stepped me st2 (Question.swap_note s k.index att) in
        let st4 = stepped me st3 (Question.enrol c.number s k.index k.serial) in
        let st5 = stepped me st4 (Question.publish s k.index) in
        by_removed st5 t (put_at-same st.touched s.0 k.index true)
        (spared (Question.publish s k.index) refl st4 me t
        (spared (Question.touch s k.index) refl st me t was))
        (st4.key s.0 k.index).removed

make_key-keeps : {me : CallerNo} (s : SelNo) (c : ChanId) (ops att : ℕ) (k : KeyId)
    → KeepsTouched me (make_key s c ops att k)
make_key-keeps s c ops att k =
    keeps_ask _ _ refl (λ gate. keeps_if _ _ _ (keeps_reply _) (publish_key-keeps s c ops att k))

make_claimed-keeps : {me : CallerNo} (s : SelNo) (c : ChanId) (ops att : ℕ) (k : KeyId)
    → KeepsTouched me (make_claimed s c ops att k)
make_claimed-keeps s c ops att k =
    keeps_bind (make_key s c ops att k) _ (make_key-keeps s c ops att k)
    (λ answer. keeps_ask _ _ refl (λ _. keeps_reply answer))

register_first-keeps : {me : CallerNo} (s : SelNo) (c : ChanId) (ops att : ℕ) (found : Option KeyId)
    → KeepsTouched me (register_first s c ops att found)
register_first-keeps s c ops att None = keeps_reply _
register_first-keeps s c ops att (Some k) = keeps_ask _ _ refl (λ _. make_claimed-keeps s c ops att k)

claim_free-keeps : {me : CallerNo} (s : SelNo) (c : ChanNo) (i : ℕ) → KeepsTouched me (claim_free s c i)
claim_free-keeps s c i = search keeping_touched depth 20

claim_in_word-keeps : {me : CallerNo} (s : SelNo) (c : ChanNo) (mark j : ℕ) → KeepsTouched me (claim_in_word s c mark j)
claim_in_word-keeps s c mark j =
    keeps_ask _ _ refl
    (λ answer. keeps_seek 64 0 (claim_at_bit s c mark j (_)) (λ b. keeps_if _ _ _ (claim_free-keeps s c _) (keeps_reply None)))

register_next-keeps : {me : CallerNo} (l : Limits) (s : SelNo) (c : ChanId) (ops att mark : ℕ) (found : Option KeyId)
    → KeepsTouched me (register_next l s c ops att mark found)
register_next-keeps l s c ops att mark None =
    keeps_bind (seek_to l.keys mark (claim_new s c.number)) (register_first s c ops att)
    (keeps_seek l.keys mark (claim_new s c.number) (λ i. keeps_ask _ _ refl (λ _. keeps_reply _)))
    (register_first-keeps s c ops att)
register_next-keeps l s c ops att mark (Some k) = keeps_ask _ _ refl (λ _. make_claimed-keeps s c ops att k)

register_rest-keeps : {me : CallerNo} (l : Limits) (s : SelNo) (c : ChanId) (ops att : ℕ)
    (over : Option (Result KeyNo ChannelError)) → KeepsTouched me (register_rest l s c ops att over)
register_rest-keeps l s c ops att None =
    keeps_ask _ _ refl
    (λ answer. keeps_bind (search_free s c.number (number_in answer)) (register_next l s c ops att (number_in answer))
    (keeps_seek _ 0 (claim_in_word s c.number (number_in answer)) (claim_in_word-keeps s c.number (number_in answer)))
    (register_next-keeps l s c ops att (number_in answer)))
register_rest-keeps l s c ops att (Some answer) = keeps_reply answer

register_over-keeps : {me : CallerNo} (s : SelNo) (ops att : ℕ) (enrolled : Option KeyId)
    → KeepsTouched me (register_over s ops att enrolled)
register_over-keeps s ops att None = search keeping_touched depth 12
register_over-keeps s ops att (Some k) =
    under_pin-keeps s k.index (register_enrolled s ops att k) (λ stage. search keeping_touched depth 18)

register-keeps : {me : CallerNo} (l : Limits) (s : SelNo) (c : ChanId) (ops att : ℕ)
    → KeepsTouched me (try_register_plan l s c ops att)
unfolding try_register_plan
register-keeps {me = me} l s c ops att =
    keeps_ask _ _ refl (λ answer.
    let found = channel_in answer in
    keeps_if (not (is_within ops (valid_operations found.kind))) (reply (Err ChannelError.IllegalOps)) _
    (keeps_reply (Err ChannelError.IllegalOps))
    (keeps_if (not (is_open_channel found c.serial)) (reply (Err ChannelError.ClosedChannel))
    (under_hold ChannelError.Busy c.number (register_held l s c ops att))
    (keeps_reply (Err ChannelError.ClosedChannel))
    (under_hold-keeps ChannelError.Busy c.number (register_held l s c ops att) held)))
  where
    held : KeepsTouched me (register_held l s c ops att)
    held = search (keeping_touched, register_over-keeps, register_rest-keeps) depth 12

-- ---- channels

in_set-keeps : {me : CallerNo} (s : SelNo) (enrolled : Option KeyId) → KeepsTouched me (enrolled_in_set s enrolled)
in_set-keeps s None = search keeping_touched
in_set-keeps s (Some k) = search keeping_touched

enrolled-keeps : {me : CallerNo} (c : ChanNo) (s : SelNo) → KeepsTouched me (enrolled_key c s)
enrolled-keeps c s = keeps_ask _ _ refl (λ answer. in_set-keeps s (enrolled_in answer))

first_key-keeps : {me : CallerNo} (l : Limits) (c : ChanNo) → KeepsTouched me (first_key l c)
first_key-keeps l c = keeps_seek l.selectors 0 (λ s. enrolled_key c (selector s)) (λ s. enrolled-keeps c (selector s))

reopen_found-keeps : {me : CallerNo} (l : Limits) (c : ChanNo) (from : Chan) → KeepsTouched me (reopen_found l c from)
reopen_found-keeps l c from =
    under_hold-keeps ReopenError.Busy c (first_key l c >>= reopen_clear c from)
    (keeps_bind (first_key l c) (reopen_clear c from) (first_key-keeps l c)
    (λ registered. search keeping_touched depth 12))

reopened-keeps : {me : CallerNo} (answer : Result ChanId ReopenError) → KeepsTouched me (reopened answer)
reopened-keeps (Ok c) = keeps_reply _
reopened-keeps (Err ReopenError.Lost) = keeps_reply _
reopened-keeps (Err ReopenError.Open) = keeps_reply _
reopened-keeps (Err ReopenError.SerialsSpent) = keeps_reply _
reopened-keeps (Err ReopenError.Busy) = keeps_reply _
reopened-keeps (Err ReopenError.Registered) = keeps_reply _

number-keeps : {me : CallerNo} (l : Limits) (kind : Kind) (c : ChanNo) → KeepsTouched me (reopens_number l kind c)
number-keeps l kind c =
    keeps_ask _ _ refl
    (λ answer. let found = channel_in answer in
    keeps_if _ _ _ (keeps_bind (reopen_found l c found) reopened (reopen_found-keeps l c found) reopened-keeps)
    (keeps_reply None))

opened_channel-keeps : {me : CallerNo} (l : Limits) (kind : Kind) (made : Option ChanNo)
    → KeepsTouched me (opened_channel l kind made)
opened_channel-keeps l kind None =
    keeps_bind _ _
    (keeps_seek l.channels 0 (λ n. reopens_number l kind (channel n)) (λ n. number-keeps l kind (channel n)))
    (λ again. keeps_reply _)
opened_channel-keeps l kind (Some c) = search keeping_touched

pub open_channel-keeps : {me : CallerNo} (l : Limits) (kind : Kind) → KeepsTouched me (open_channel_plan l kind)
unfolding open_channel_plan
open_channel-keeps l kind = search (keeping_touched, opened_channel-keeps) depth 12

pub reopen_channel-keeps : {me : CallerNo} (l : Limits) (c : ChanId) → KeepsTouched me (reopen_channel_plan l c)
unfolding reopen_channel_plan
reopen_channel-keeps l c = search (keeping_touched, reopen_found-keeps) depth 12

of_channel-keeps : {me : CallerNo} (c : ChanId) (found : Option KeyNo) → KeepsTouched me (key_of_channel c found)
of_channel-keeps c None = keeps_reply None
of_channel-keeps c (Some k) = search keeping_touched depth 12

cancel_at-keeps : {me : CallerNo} (c : ChanId) (s : SelNo) (enrolled : Option KeyId)
    → KeepsTouched me (cancel_at c s enrolled)
cancel_at-keeps c s None = keeps_reply tt
cancel_at-keeps c s (Some k) = search (keeping_touched, cancel-keeps) depth 12

cancel_keys-keeps : {me : CallerNo} (l : Limits) (c : ChanId) → KeepsTouched me (cancel_keys l c)
cancel_keys-keeps l c =
    keeps_bind _ _
    (keeps_sweep l.selectors 0 (λ s _. cancel_enrolled c s) tt
    (λ s _. keeps_ask _ _ refl (λ answer. cancel_at-keeps c (selector s) (enrolled_in answer))))
    (λ _. keeps_reply true)

pub close_channel-keeps : {me : CallerNo} (l : Limits) (c : ChanId) → KeepsTouched me (close_channel_plan l c)
unfolding close_channel_plan
close_channel-keeps {me = me} l c =
    keeps_ask _ _ refl (λ answer. keeps_if _ _ _ (found-keeps (channel_in answer)) (keeps_reply false))
  where
    more-keeps : (from : Chan) → KeepsTouched me (close_once_more l c from)
    more-keeps from = keeps_ask _ _ refl (λ answer. keeps_if _ _ _ (cancel_keys-keeps l c) (keeps_reply false))

    found-keeps : (from : Chan) → KeepsTouched me (close_found l c from)
    found-keeps from =
        keeps_ask _ _ refl (λ answer. keeps_if _ _ _ (cancel_keys-keeps l c)
        (keeps_if _ _ _ (more-keeps (channel_in answer)) (keeps_reply false)))

-- ---- pipes

module _ {me : CallerNo} (l : Limits) where
  without_sink-keeps : (source : ChanId) → KeepsTouched me (without_sink l source)
  without_sink-keeps source =
      keeps_bind (close_channel_plan l source) _ (close_channel-keeps l source) (λ _. keeps_reply _)

  sink-keeps : (source : ChanId) (made : Result ChanId ChannelError) → KeepsTouched me (with_sink l source made)
  sink-keeps source (Ok sink) = keeps_reply _
  sink-keeps source (Err ChannelError.ChannelsSpent) = without_sink-keeps source
  sink-keeps source (Err ChannelError.IllegalOps) = without_sink-keeps source
  sink-keeps source (Err ChannelError.ClosedChannel) = without_sink-keeps source
  sink-keeps source (Err ChannelError.Busy) = without_sink-keeps source
  sink-keeps source (Err ChannelError.IllegalBlockingMode) = without_sink-keeps source
  sink-keeps source (Err ChannelError.CancelledKey) = without_sink-keeps source
  sink-keeps source (Err ChannelError.ClosedSelector) = without_sink-keeps source
  sink-keeps source (Err ChannelError.Full) = without_sink-keeps source

  source-keeps : (made : Result ChanId ChannelError) → KeepsTouched me (with_source l made)
  source-keeps (Ok source) =
      keeps_bind (open_channel_plan l Sink) (with_sink l source) (open_channel-keeps l Sink) (sink-keeps source)
  source-keeps (Err ChannelError.ChannelsSpent) = keeps_reply _
  source-keeps (Err ChannelError.IllegalOps) = keeps_reply _
  source-keeps (Err ChannelError.ClosedChannel) = keeps_reply _
  source-keeps (Err ChannelError.Busy) = keeps_reply _
  source-keeps (Err ChannelError.IllegalBlockingMode) = keeps_reply _
  source-keeps (Err ChannelError.CancelledKey) = keeps_reply _
  source-keeps (Err ChannelError.ClosedSelector) = keeps_reply _
  source-keeps (Err ChannelError.Full) = keeps_reply _

  pub pipe-keeps : (lacks : Bool) → KeepsTouched me (pipe_plan l lacks)
  unfolding pipe_plan
  pipe-keeps lacks =
      keeps_if lacks _ _ (keeps_reply _)
      (keeps_bind (open_channel_plan l Source) (with_source l) (open_channel-keeps l Source) source-keeps)

  open-keeps : (c : ChanId) (found : Chan) → KeepsTouched me (if_open l c found)
  open-keeps c found =
      keeps_if (not (is_open_channel found c.serial)) _ _ (keeps_reply _)
      (keeps_if found.blocking _ _
      (keeps_ask _ _ refl
      (λ answer. keeps_if (flag_in answer) _ _
      (keeps_bind (close_channel_plan l c) _ (close_channel-keeps l c) (λ _. keeps_reply _)) (keeps_reply _)))
      (keeps_reply _))

  pub try_read-keeps : (source : ChanId) → KeepsTouched me (try_read_plan l source)
  unfolding try_read_plan
  try_read-keeps source = keeps_ask _ _ refl (λ answer. open-keeps source (channel_in answer))

  unbroken-keeps : (source : ChanId) (found : Result Bool PipeError) → KeepsTouched me (if_unbroken source found)
  unbroken-keeps source (Ok blocking) = keeps_ask _ _ refl (λ answer. keeps_reply _)
  unbroken-keeps source (Err refusal) = keeps_reply _

  pub try_write-keeps : (source sink : ChanId) → KeepsTouched me (try_write_plan l source sink)
  unfolding try_write_plan
  try_write-keeps source sink =
      keeps_ask _ _ refl
      (λ answer. keeps_bind (if_open l sink (channel_in answer)) (if_unbroken source)
      (open-keeps sink (channel_in answer)) (unbroken-keeps source))

-- ---- the other calls that begin and end nothing

on_valid-keeps : {A : Type 0} {me : CallerNo} (k : KeyNo) (steps : Stage → Plan (Result A KeyError))
    → ((stage : Stage) → KeepsTouched me (steps stage)) → KeepsTouched me (on_valid k steps)
on_valid-keeps k steps each =
    under_pin-keeps k.sel k.index (if_valid k steps)
    (λ stage. keeps_if _ _ (steps stage) (keeps_reply _) (each stage))

module _ {me : CallerNo} where
  pub valid-keeps : (k : KeyNo) → KeepsTouched me (is_valid_plan k)
  unfolding is_valid_plan
  valid-keeps k = search keeping_touched depth 12

  pub interest-keeps : (k : KeyNo) → KeepsTouched me (interest_plan k)
  unfolding interest_plan
  interest-keeps k = on_valid-keeps k (λ _. look_set k) (λ stage. search keeping_touched depth 12)

  pub set_interest-keeps : (k : KeyNo) (ops : ℕ) → KeepsTouched me (set_interest_plan k ops)
  unfolding set_interest_plan
  set_interest-keeps k ops =
      on_valid-keeps k (on_supported ops (put_set k ops)) (λ stage. search keeping_touched depth 14)

  pub interest_or-keeps : (k : KeyNo) (ops : ℕ) → KeepsTouched me (interest_or_plan k ops)
  unfolding interest_or_plan
  interest_or-keeps k ops =
      on_valid-keeps k (on_supported ops (add_set k ops)) (λ stage. search keeping_touched depth 14)

  pub interest_and-keeps : (k : KeyNo) (ops : ℕ) → KeepsTouched me (interest_and_plan k ops)
  unfolding interest_and_plan
  interest_and-keeps k ops = on_valid-keeps k (λ _. keep_set k ops) (λ stage. search keeping_touched depth 14)

  pub ready-keeps : (k : KeyNo) → KeepsTouched me (ready_plan k)
  unfolding ready_plan
  ready-keeps k = on_valid-keeps k (λ _. look_ready k) (λ stage. search keeping_touched depth 12)

  pub cancels-keeps : (k : KeyNo) → KeepsTouched me (cancel_plan k)
  cancels-keeps k = cancel-keeps k

  pub unselect-keeps : (k : KeyNo) → KeepsTouched me (unselect_plan k)
  unfolding unselect_plan
  unselect-keeps k =
      under_pin-keeps k.sel k.index (unselect_present k) (λ stage. search keeping_touched depth 12)

  pub attach-keeps : (k : KeyNo) (att : ℕ) → KeepsTouched me (attach_plan k att)
  unfolding attach_plan
  attach-keeps k att =
      under_pin-keeps k.sel k.index (attach_present k att) (λ stage. search keeping_touched depth 12)

  pub attachment-keeps : (k : KeyNo) → KeepsTouched me (attachment_plan k)
  unfolding attachment_plan
  attachment-keeps k =
      under_pin-keeps k.sel k.index (attachment_present k) (λ stage. search keeping_touched depth 12)

  pub is_open-keeps : (c : ChanId) → KeepsTouched me (is_open_plan c)
  unfolding is_open_plan
  is_open-keeps c = search keeping_touched depth 12

  pub is_blocking-keeps : (c : ChanId) → KeepsTouched me (is_blocking_plan c)
  unfolding is_blocking_plan
  is_blocking-keeps c = search keeping_touched depth 12

  pub is_registered-keeps : (l : Limits) (c : ChanId) → KeepsTouched me (is_registered_plan l c)
  unfolding is_registered_plan
  is_registered-keeps l c = search (keeping_touched, enrolled-keeps) depth 12

  pub key_for-keeps : (c : ChanId) (s : SelNo) → KeepsTouched me (key_for_plan c s)
  unfolding key_for_plan
  key_for-keeps c s =
      keeps_bind (enrolled_key c.number s) (key_of_channel c) (enrolled-keeps c.number s) (of_channel-keeps c)

  pub set_blocking-keeps : (l : Limits) (c : ChanId) (on : Bool) → KeepsTouched me (try_set_blocking_plan l c on)
  unfolding try_set_blocking_plan
  set_blocking-keeps l c on =
      keeps_ask _ _ refl
      (λ answer. keeps_if _ _ _
      (under_hold-keeps ChannelError.Busy c.number (set_mode_held l c on)
      (search (keeping_touched, first_key-keeps) depth 12))
      (keeps_reply _))

  pub registers-keeps : (l : Limits) (s : SelNo) (c : ChanId) (ops att : ℕ)
      → KeepsTouched me (try_register_plan l s c ops att)
  registers-keeps l s c ops att = register-keeps l s c ops att

  pub open_selector-keeps : (l : Limits) → KeepsTouched me (open_selector_plan l)
  unfolding open_selector_plan
  open_selector-keeps l = search keeping_touched depth 12

  pub keys-keeps : (s : SelNo) (lacks : Bool) → KeepsTouched me (keys_plan s lacks)
  unfolding keys_plan
  keys-keeps s lacks = search keeping_touched depth 12

  list_selected-keeps : (s : SelNo) (i : ℕ) (listed : List KeyNo) → KeepsTouched me (list_selected s i listed)
  list_selected-keeps s i listed =
      under_pin-keeps s i (list_present s i listed) (λ stage. search keeping_touched depth 12)

  pub selected_keys-keeps : (s : SelNo) (lacks : Bool) → KeepsTouched me (selected_keys_plan s lacks)
  unfolding selected_keys_plan
  selected_keys-keeps s lacks =
      keeps_ask _ _ refl
      (λ gate. keeps_if _ _ _ (keeps_reply _) (keeps_ask _ _ refl (λ bound. keeps_if _ _ _ (keeps_reply _)
      (keeps_bind _ _
      (keeps_sweep (number_in bound) 0 (list_selected s) [] (λ i listed. list_selected-keeps s i listed))
      (λ listed. keeps_reply _)))))

  pub wakeup-keeps : (s : SelNo) → KeepsTouched me (wakeup_plan s)
  unfolding wakeup_plan
  wakeup-keeps s = search keeping_touched

  pub interrupt-keeps : (target : CallerNo) → KeepsTouched me (interrupt_plan target)
  unfolding interrupt_plan
  interrupt-keeps target = search keeping_touched

  pub interrupted-keeps : KeepsTouched me interrupted_plan
  unfolding interrupted_plan
  interrupted-keeps = search keeping_touched

  -- ---- lines

  pub makes-keeps : {R : Type 0} (plan : Plan R) (said : R → Reply) (left : R → Progress) → KeepsTouched me plan
      → KeepsTouched me (makes plan said left)
  makes-keeps plan said left here = keeps_bind plan _ here (λ _. keeps_reply _)

  -- a line with its look-ups
  module _ (l : Limits) (now : Progress) where
    found-keeps : {A : Type 0} (look : Plan (Option A)) (r : Reply) (plan : Plan Said) → KeepsTouched me look
        → KeepsTouched me plan → KeepsTouched me (look >>= if_found now r plan)
    found-keeps look r plan looks here =
        keeps_bind look (if_found now r plan) looks (λ found. keeps_if (is_some found) plan _ here (keeps_reply _))

    find_selector-keeps : (n : ℕ) → KeepsTouched me (find_selector_plan l n)
    unfolding find_selector_plan
    find_selector-keeps n = search keeping_touched depth 12

    find_channel-keeps : (n q : ℕ) → KeepsTouched me (find_channel_plan l n q)
    unfolding find_channel_plan
    find_channel-keeps n q = search keeping_touched depth 12

    find-keeps : (s : SelNo) (i q : ℕ) → KeepsTouched me (find_plan l s i q)
    unfolding find_plan
    find-keeps s i q = search keeping_touched depth 12

    name-keeps : (a : LineName) (plan : Plan Said) → KeepsTouched me plan → KeepsTouched me (if_name l now a plan)
    name-keeps (Caller n) plan here = keeps_if (nat_lt n.0 l.callers) plan _ here (keeps_reply _)
    name-keeps (Selector s) plan here = found-keeps (find_selector_plan l s.0) _ plan (find_selector-keeps s.0) here
    name-keeps (Channel c) plan here =
        found-keeps (find_channel_plan l c.number.0 c.serial) _ plan (find_channel-keeps c.number.0 c.serial) here
    name-keeps (Key s k) plan here =
        found-keeps (find_selector_plan l s.0) _ _ (find_selector-keeps s.0)
        (found-keeps (find_plan l s k.index k.serial) _ plan (find-keeps s k.index k.serial) here)

    pub named-keeps : (word : Call) (plan : Plan Said) → KeepsTouched me plan
        → KeepsTouched me (if_named l now word plan)
    unfolding if_named
    named-keeps word plan here =
        kept_by_names (λ p. KeepsTouched me p) (if_name l now) name-keeps (word_row word).names plan here
