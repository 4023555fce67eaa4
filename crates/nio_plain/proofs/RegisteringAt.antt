-- What `register` answers at each of its returns, once its names are made and the channel may be
-- registered.
use Rattle.std.proofs.Common.{◌≡◌, ℕ, ◌<◌, true, false, Option, Some, None, Ok, is_some, refl, sym, ap, ◌∙◌, length}
use Rattle.std.proofs.Common.{set, get_or, map}
use Rattle.nio_base.specs.declared.numbers.ChanId.{ChanId}
use Rattle.nio_base.specs.declared.numbers.KeyId.{KeyId}
use Rattle.nio_base.specs.declared.numbers.SelNo.{SelNo}
use Rattle.nio_history.specs.State.{put, unmade_channel, with_interest, with_note}
use Rattle.nio_language.specs.declared.reply.Reply.TheVariants as reply
use Rattle.nio_plain.proofs.Replying.{unchanged_as, replied_as, rows_of, with_rows, state-set_selector}
use Rattle.nio_plain.proofs.KeyChange.{state-key, key-registered}
use Rattle.nio_plain.proofs.Places.{places_at}
use Rattle.nio_plain.proofs.Registered.{key_of-read}
use Rattle.nio_plain.proofs.Registering.{registered-cancelled, registered-shut, registered-again, registered_new-shut}
use Rattle.nio_plain.proofs.Registering.{registered-next, next-row, state-new_key}
use Rattle.nio_plain.specs.Plain.{RepliesAs, Kept}
use Rattle.nio_plain.specs.PlainState.{SelectorRow, KeyRow, places, state_of, channel_row, selector_row, no_selector}
use Rattle.nio_plain.specs.PlainState.{key_row, no_key, with_key_at, with_key_added, new_key_row, key_in, next_in}
use Rattle.nio_plain.specs.PlainState.{pipe_of}
use Rattle.nio_plain.specs.ScriptState.{with_shared}
use Rattle.nio_plain.specs.Seq.Modes.{key_of}
use Rattle.nio_plain.specs.Seq.Registering.{registered, register_call, next_key, given_or_kept, given_or_none}
use Rattle.nio_plain.specs.declared.plain.Plain.{Plain}
use Rattle.nio_plain.specs.declared.plain.selector.Key.{Key}
use Rattle.nio_plain.specs.declared.plain.selector.Selector.{Selector}

module _ (p : Plain) (sel : SelNo) (chan : ChanId) (ops : ℕ) (att : Option ℕ) (x : Selector)
    (within : sel.0 < length p.selectors.items) (e : x ≡ get_or p.selectors.items sel.0 x)
    (passed : register_call p.limits (state_of p) sel chan ops att ≡ registered p.limits
    (state_of p) sel.0 chan.number.0 ops att (key_of (state_of p).shared chan.number.0 sel.0)) where
  abbrev number : ℕ
  number = chan.number.0

  row_is : rows_of p sel.0 ≡ selector_row x
  row_is = places_at selector_row no_selector p.selectors.items sel.0 x within e

  call_is : (o : Option KeyId) → o ≡ key_in (selector_row x) number
      → register_call p.limits (state_of p) sel chan ops att ≡ registered p.limits (state_of p) sel.0 number ops att o
  call_is o key =
      passed ∙ ap (registered p.limits (state_of p) sel.0 number ops att) (key_of-read p sel.0 number x o within e key)

  shut_is : (b : _) → is_some x.closing ≡ b → ((state_of p).shared.gate sel.0).shut ≡ b
  shut_is b h = ap (λ (r : SelectorRow). r.gate.shut) row_is ∙ h

  -- the channel has a key there
  module _ (id : KeyId) (k : Key) (key : Some id ≡ key_in (selector_row x) number)
      (in_keys : id.index < length x.keys.items) (d : k ≡ get_or x.keys.items id.index k) where
    cancelled_is : (b : _) → k.cancelled ≡ b → ((state_of p).shared.key sel.0 id.index).cancelled ≡ b
    cancelled_is b h =
        (ap (λ (r : SelectorRow). (r.keys id.index).stage.cancelled) row_is
        ∙ ap (λ (q : KeyRow). q.stage.cancelled) (places_at key_row no_key x.keys.items id.index k in_keys d)) ∙ h

    pub answers-cancelled : k.cancelled ≡ true
        → RepliesAs p p (Ok reply.CancelledKey) (register_call p.limits (state_of p) sel chan ops att)
    answers-cancelled h =
        unchanged_as p reply.CancelledKey _
        (call_is (Some id) key
        ∙ registered-cancelled p.limits (state_of p) sel.0 number ops att id (cancelled_is true h))

    pub answers-shut : k.cancelled ≡ false → is_some x.closing ≡ true
        → RepliesAs p p (Ok reply.ClosedSelector) (register_call p.limits (state_of p) sel chan ops att)
    answers-shut h s =
        unchanged_as p reply.ClosedSelector _
        (call_is (Some id) key
        ∙ registered-shut p.limits (state_of p) sel.0 number ops att id (cancelled_is false h) (shut_is true s))

    pub answers-again : (q : Plain) (y : Selector) → k.cancelled ≡ false → is_some x.closing ≡ false
        → selector_row y ≡ with_key_at (selector_row x) id.index
        (record (key_row k) { interest = ops; note = given_or_kept att k.note })
        → state_of q ≡ with_rows p (places selector_row no_selector (set p.selectors.items sel.0 y)) → Kept p q
        → RepliesAs p q (Ok (reply.Key id)) (register_call p.limits (state_of p) sel chan ops att)
    answers-again q y h s done left kept =
        let new = record (key_row k) { interest = ops; note = given_or_kept att k.note } in
        let key_is = ap (λ (r : SelectorRow). r.keys id.index) row_is
        ∙ places_at key_row no_key x.keys.items id.index k in_keys d in
        let note_is = ap
        (λ n. with_shared (state_of p)
        (with_note (with_interest (state_of p).shared sel.0 id.index ops) sel.0 id.index (given_or_kept att n)))
        (ap (λ (q : KeyRow). q.note) (sym key_is)) in
        replied_as p q _ _ _
        (call_is (Some id) key
        ∙ registered-again p.limits (state_of p) sel.0 number ops att id (cancelled_is false h) (shut_is false s))
        refl
        (left ∙ (state-set_selector p _ sel.0 y within refl
        ∙ (ap (λ r. with_rows p (put (rows_of p) sel.0 r))
        (done ∙ ap (λ r. with_key_at r id.index new) (sym row_is))
        ∙ (state-key _ _ _ _ _ (rows_of p) sel.0 id.index new
        ∙ (key-registered p sel.0 id.index (key_row k) key_is ops (given_or_kept att k.note)
        ∙ note_is)))))
        kept

  -- the channel has no key there
  module _ (key : None ≡ key_in (selector_row x) number) where
    next_is : (next : Option KeyId) → next ≡ next_in p.limits.keys (selector_row x)
        → next_key p.limits (state_of p).shared sel.0 ≡ next
    next_is next e =
        next-row p.group (map pipe_of p.pipes.items) (places (λ b. b) false p.interrupted.items)
        (length p.channels.items) (places channel_row unmade_channel p.channels.items) (rows_of p) sel.0 p.limits
        ∙ (ap (next_in p.limits.keys) row_is ∙ sym e)

    pub answers_new-shut : is_some x.closing ≡ true
        → RepliesAs p p (Ok reply.ClosedSelector) (register_call p.limits (state_of p) sel chan ops att)
    answers_new-shut h =
        unchanged_as p reply.ClosedSelector _
        (call_is None key ∙ registered_new-shut p.limits (state_of p) sel.0 number ops att (shut_is true h))

    pub answers-full : is_some x.closing ≡ false → None ≡ next_in p.limits.keys (selector_row x)
        → RepliesAs p p (Ok reply.Full) (register_call p.limits (state_of p) sel chan ops att)
    answers-full h full =
        unchanged_as p reply.Full _
        (call_is None key
        ∙ registered-next p.limits (state_of p) sel.0 number ops att None (shut_is false h) (next_is None full))

    pub answers-new : (q : Plain) (y : Selector) (id : KeyId) → is_some x.closing ≡ false
        → Some id ≡ next_in p.limits.keys (selector_row x)
        → selector_row y ≡ with_key_added (selector_row x) number id
        (new_key_row number id.serial ops (given_or_none att))
        → state_of q ≡ with_rows p (places selector_row no_selector (set p.selectors.items sel.0 y))
        → Kept p q
        → RepliesAs p q (Ok (reply.Key id)) (register_call p.limits (state_of p) sel chan ops att)
    answers-new q y id h next done left kept =
        replied_as p q _ _ _
        (call_is None key
        ∙ registered-next p.limits (state_of p) sel.0 number ops att (Some id) (shut_is false h)
        (next_is (Some id) next))
        refl
        (left ∙ (state-set_selector p _ sel.0 y within refl
        ∙ (ap (λ r. with_rows p (put (rows_of p) sel.0 r))
        (done ∙ ap (λ r. with_key_added r number id (new_key_row number id.serial ops (given_or_none att)))
        (sym row_is)) ∙ state-new_key _ _ _ _ _ (rows_of p) sel.0 number ops (given_or_none att) id)))
        kept
