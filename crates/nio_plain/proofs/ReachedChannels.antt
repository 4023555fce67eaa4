-- What holds after a selector or a channel was made, after a channel's mode was set, and after it was
-- closed.
use Rattle.std.proofs.Common.{◌≡◌, ℕ, ◌==◌, ◌<◌, Bool, true, false, cond, ◌&&◌, Option, Some, None, is_some, refl, sym}
use Rattle.std.proofs.Common.{ap, ◌∙◌, subst, eqb-true, eq-eqb}
use Rattle.std.proofs.lemmas.Bool.{and_parts, and_from, both_ways, false_from_ne_true}
use Rattle.nio_base.specs.declared.kind.Kind.{Kind}
use Rattle.nio_base.specs.declared.limits.Limits.{Limits}
use Rattle.nio_base.specs.declared.numbers.ChanId.{ChanId}
use Rattle.nio_base.specs.declared.numbers.KeyId.{KeyId}
use Rattle.nio_history.proofs.Put.{put_keeps}
use Rattle.nio_history.specs.Sets.{fits, in_key_set, is_in_key_set, is_valid, was_opened}
use Rattle.nio_history.specs.Acts.{new_channel}
use Rattle.nio_history.specs.State.{State, put, with_selector, with_chan}
use Rattle.nio_history.specs.declared.found.Chan.{Chan}
use Rattle.nio_history.specs.declared.found.Stage.{Stage}
use Rattle.nio_language.specs.declared.reply.Reply.{Reply}
use Rattle.nio_plain.proofs.ReachedSound.{ChannelsSound, Sound, Keeps, Aged, aged-same, aged-cancelled}
use Rattle.nio_plain.proofs.ReachedSound.{not_valid_cancelled, in_set-cancelled, same_stays, keeps_cancelled}
use Rattle.nio_plain.proofs.Registered.{any-some, key_of-some, key_of-is}
use Rattle.nio_plain.specs.ScriptState.{ScriptState, with_shared}
use Rattle.nio_plain.specs.Seq.Replies.{replied}
use Rattle.nio_plain.specs.Seq.Cancelling.{has_index, cancelled_key, with_keys_cancelled, channel_closed}
use Rattle.nio_plain.specs.Seq.Modes.{has_key, key_of}
use Rattle.nio_plain.specs.Seq.Opening.{with_new_channel}
use Rattle.nio_plain.specs.declared.rules.Rules.{Rules}
use Rattle.nio_plain.specs.declared.rules.Rules.TheVariants.{First}

-- the present key of an index is in the key set by its serial too
pub present-in_set : (k : Stage) → k.claimed ≡ true → in_key_set k ≡ true → is_in_key_set k k.serial ≡ true
present-in_set k claimed in_set =
    and_from (fits k k.serial) (in_key_set k)
    (and_from k.claimed (k.serial == k.serial) claimed (eq-eqb k.serial k.serial refl)) in_set

pub keeps_selector : (rules : Rules) (l : Limits) (st : ScriptState) (r : Reply) (s : ℕ) → s < l.selectors
    → Sound rules l st → Keeps rules l st (replied st r (with_selector st.shared s true))
keeps_selector rules l st r s within sound = record {
  sound = record {
    keys = record {
      selectors = λ n. put_keeps (λ k b. b ≡ true → k < l.selectors) st.shared.selector s true (λ _ _. within) n
          (sound.keys.selectors n);
      indexes = record {
        claimed = sound.keys.indexes.claimed;
        below = sound.keys.indexes.below;
        made = λ n i h. put_keeps (λ _ b. b ≡ true) st.shared.selector s true (λ _. refl) n
            (sound.keys.indexes.made n i h);
        fresh = sound.keys.indexes.fresh;
      };
      enrolments = sound.keys.enrolments;
      channels = sound.keys.channels;
      cancelled = sound.keys.cancelled;
    };
    free = sound.free;
    selected = sound.selected;
    closings = sound.closings;
    looks = sound.looks;
    bounds = sound.bounds;
  };
  stays = same_stays st.shared.key st.shared.entered;
}

-- channels that are other than before, as the keys want them
keeps_channels : (rules : Rules) (l : Limits) (st : ScriptState) (r : Reply) (chan : ℕ → Chan) (channels_high : ℕ)
    → ChannelsSound chan st.shared.key → Sound rules l st
    → Keeps rules l st (replied st r (record st.shared { chan = chan; channels_high = channels_high }))
keeps_channels rules l st r chan channels_high channels sound = record {
  sound = record {
    keys = record {
      selectors = sound.keys.selectors;
      indexes = sound.keys.indexes;
      enrolments = sound.keys.enrolments;
      channels = channels;
      cancelled = sound.keys.cancelled;
    };
    free = sound.free;
    selected = sound.selected;
    closings = sound.closings;
    looks = sound.looks;
    bounds = sound.bounds;
  };
  stays = same_stays st.shared.key st.shared.entered;
}

-- what is true of the channel that is opened next: no channel of its number had its serial or a later one, no key of
-- its number is in a key set, a number that is made keeps its kind, and by the first rules the serial is 0
pub record IsNextChannel (rules : Rules) (st : State) (kind : Kind) (c : ChanId) : Type 0 where
  pub older : (q : ℕ) → was_opened (st.chan c.number.0) q ≡ true → q < c.serial
  pub kind_same : (st.chan c.number.0).made ≡ true → (st.chan c.number.0).kind ≡ kind
  pub no_key : (s i : ℕ) → in_key_set (st.key s i) ≡ true → (st.key s i).chan.0 ≡ c.number.0 → ⊥
  pub first : rules ≡ First → c.serial ≡ 0

-- such a channel is opened
pub keeps_channel : (rules : Rules) (l : Limits) (st : ScriptState) (r : Reply) (kind : Kind) (c : ChanId)
    → IsNextChannel rules st.shared kind c → Sound rules l st
    → Keeps rules l st (replied st r (with_new_channel st.shared kind c))
keeps_channel rules l st r kind c next sound =
    let key = st.shared.key in
    let channels = sound.keys.channels in
    let new = new_channel kind c.serial in
    keeps_channels rules l st r (put st.shared.chan c.number.0 new) _
    (record {
      fresh = λ n. put_keeps (λ _ (x : Chan). x.made ≡ false → x.serial ≡ 0) st.shared.chan c.number.0 new
          (λ _ unmade. absurd (both_ways true unmade refl)) n (channels.fresh n);
      made = λ s i h. put_keeps (λ _ (x : Chan). x.made ≡ true) st.shared.chan c.number.0 new (λ _. refl)
          (key s i).chan.0 (channels.made s i h);
      non_blocking = λ s i h.
          put_keeps (λ n (x : Chan). n ≡ (key s i).chan.0 → x.blocking ≡ false) st.shared.chan c.number.0 new
          (λ _ of_channel. absurd (next.no_key s i h (sym of_channel))) (key s i).chan.0
          (λ _. channels.non_blocking s i h) refl;
      is_open = λ s i h. put_keeps (λ _ (x : Chan). x.closed ≡ false) st.shared.chan c.number.0 new (λ _. refl)
          (key s i).chan.0 (channels.is_open s i h);
    })
    sound

-- a number with a key in a key set has a key in some selector
pub in_set-registered : (rules : Rules) (l : Limits) (st : ScriptState) (c s i : ℕ) → Sound rules l st
    → in_key_set (st.shared.key s i) ≡ true → (st.shared.key s i).chan.0 ≡ c → has_key l st.shared c ≡ true
in_set-registered rules l st c s i sound in_set of_channel =
    let key = st.shared.key s i in
    let enrolled : st.shared.enrolled c s ≡ Some (record { index = i; serial = key.serial }) =
    ap (λ k. st.shared.enrolled k s)
    (sym of_channel) ∙ sound.keys.enrolments.in_set s i in_set in
    let published = (and_parts key.published _ in_set).0 in
    any-some (λ t. is_some (key_of st.shared c t)) l.selectors s
    (sound.keys.selectors s (sound.keys.indexes.made s i published))
    (ap is_some
    (key_of-some st.shared c s (record { index = i; serial = key.serial }) enrolled
    (present-in_set key (sound.keys.indexes.claimed s i published) in_set)))

pub keeps_mode : (rules : Rules) (l : Limits) (st : ScriptState) (r : Reply) (c : ℕ) (on : Bool)
    → (on && has_key l st.shared c) ≡ false → Sound rules l st
    → Keeps rules l st (replied st r (with_chan st.shared c (record (st.shared.chan c) { blocking = on })))
keeps_mode rules l st r c on allowed sound =
    let key = st.shared.key in
    let channels = sound.keys.channels in
    let new : Chan = record (st.shared.chan c) { blocking = on } in
    let off : (s i : ℕ) → in_key_set (key s i) ≡ true → c ≡ (key s i).chan.0 → on ≡ false = λ s i h of_channel.
    false_from_ne_true on
    (λ t. both_ways (on && has_key l st.shared c) allowed
    (and_from on (has_key l st.shared c) t
    (in_set-registered rules l st c s i sound h (sym of_channel)))) in
    keeps_channels rules l st r (put st.shared.chan c new) st.shared.channels_high
    (record {
      fresh = λ n. put_keeps (λ _ (x : Chan). x.made ≡ false → x.serial ≡ 0) st.shared.chan c new (λ old. old) n
          (channels.fresh n);
      made = λ s i h. put_keeps (λ _ (x : Chan). x.made ≡ true) st.shared.chan c new (λ old. old) (key s i).chan.0
          (channels.made s i h);
      non_blocking = λ s i h.
          put_keeps (λ n (x : Chan). n ≡ (key s i).chan.0 → x.blocking ≡ false) st.shared.chan c new
          (λ _ of_channel. off s i h of_channel) (key s i).chan.0 (λ _. channels.non_blocking s i h) refl;
      is_open = λ s i h. put_keeps (λ _ (x : Chan). x.closed ≡ false) st.shared.chan c new (λ old. old) (key s i).chan.0
          (channels.is_open s i h);
    })
    sound

-- ---- closing a channel

module _ (rules : Rules) (l : Limits) (st : ScriptState) (c : ℕ) where
  abbrev closed : State
  closed = with_chan st.shared c (record (st.shared.chan c) { closed = true })

  abbrev cancelled : ℕ → ℕ → Stage
  cancelled = (with_keys_cancelled closed c).key

  cancelled_at : (s i : ℕ) (o : Option KeyId) → key_of closed c s ≡ o
      → Aged (st.shared.key s i) (cond (has_index o i) (cancelled_key (st.shared.key s i)) (st.shared.key s i))
  cancelled_at s i None e = aged-same (st.shared.key s i)
  cancelled_at s i (Some k) e = by_index (k.index == i) refl
    where
      by_index : (b : Bool) → (k.index == i) ≡ b
          → Aged (st.shared.key s i) (cond b (cancelled_key (st.shared.key s i)) (st.shared.key s i))
      by_index true same =
          let in_set = (and_parts (fits (st.shared.key s k.index) k.serial) _ (key_of-is closed c s k e).1).1 in
          aged-cancelled (st.shared.key s i)
          (subst (λ (n : ℕ). in_key_set (st.shared.key s n) ≡ true) (eqb-true k.index i same) in_set)
      by_index false other = aged-same (st.shared.key s i)

  -- no key of the channel is valid then
  not_valid_at : Sound rules l st → (s i : ℕ) → c ≡ (st.shared.key s i).chan.0 → is_valid (cancelled s i) ≡ true → ⊥
  not_valid_at sound s i of_channel valid =
      let key = st.shared.key s i in
      let was_valid = (cancelled_at s i (key_of closed c s) refl).valid valid in
      let in_set = (and_parts (in_key_set key) _ was_valid).0 in
      let name : KeyId = record { index = i; serial = key.serial } in
      let enrolled : st.shared.enrolled c s ≡ Some name = ap (λ n. st.shared.enrolled n s) of_channel
      ∙ sound.keys.enrolments.in_set s i in_set in
      let claimed = sound.keys.indexes.claimed s i (and_parts key.published _ in_set).0 in
      let is_named : has_index (key_of closed c s) i ≡ true = ap (λ o. has_index o i)
      (key_of-some closed c s name enrolled (present-in_set key claimed in_set)) ∙ eq-eqb i i refl in
      not_valid_cancelled key (ap (λ b. is_valid (cond b (cancelled_key key) key)) (sym is_named) ∙ valid)

  pub keeps_closed_channel : (r : Reply) → Sound rules l st
      → Keeps rules l st (replied st r (channel_closed st.shared c))
  keeps_closed_channel r sound =
      let new : Chan = record (st.shared.chan c) { closed = true } in
      let without : ScriptState = with_shared st (record st.shared { key = cancelled }) in
      let first = keeps_cancelled rules l st r cancelled (λ s i. cancelled_at s i (key_of closed c s) refl)
      (λ s i. in_set-cancelled (has_index (key_of closed c s) i) (st.shared.key s i)) sound in
      let channels = first.sound.keys.channels in
      let second = keeps_channels rules l without r (put st.shared.chan c new) st.shared.channels_high
      (record {
        fresh = λ n. put_keeps (λ _ (x : Chan). x.made ≡ false → x.serial ≡ 0) st.shared.chan c new (λ old. old) n
            (channels.fresh n);
        made = λ s i h. put_keeps (λ _ (x : Chan). x.made ≡ true) st.shared.chan c new (λ old. old)
            (cancelled s i).chan.0 (channels.made s i h);
        non_blocking = λ s i h. put_keeps (λ _ (x : Chan). x.blocking ≡ false) st.shared.chan c new (λ old. old)
            (cancelled s i).chan.0 (channels.non_blocking s i h);
        is_open = λ s i h.
            put_keeps (λ n (x : Chan). n ≡ (cancelled s i).chan.0 → x.closed ≡ false) st.shared.chan c new
            (λ _ of_channel. absurd
            (not_valid_at sound s i (of_channel ∙ ap (λ n. n.0) (cancelled_at s i (key_of closed c s) refl).chan)
            h))
            (cancelled s i).chan.0 (λ _. channels.is_open s i h) refl;
      })
      first.sound in
      record { sound = second.sound; stays = first.stays }
