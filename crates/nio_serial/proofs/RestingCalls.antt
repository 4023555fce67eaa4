-- Each documented call keeps that nothing is at work.
use Rattle.std.proofs.Common.{◌≡◌, ℕ, ◌<◌, ◌≤◌, ◌==◌, nat_lt, Bool, true, false, cond, not, ◌&&◌, Option, Some, None}
use Rattle.std.proofs.Common.{List, [], ◌∷◌, bit_and, refl, ap, sym, ◌∙◌, subst, arith, eqb-true}
use Rattle.std.proofs.lemmas.Bool.{both_ways, and_parts, or_parts, false_from_ne_true, cond-true, cond_both, ltb-true}
use lib.Bits.{and_zero_r}
use Rattle.nio_base.specs.declared.kind.Kind.{Kind}
use Rattle.nio_base.specs.declared.kind.Kind.TheVariants.{Source, Sink}
use Rattle.nio_base.specs.declared.limits.Limits.{Limits}
use Rattle.nio_base.specs.declared.numbers.CallerNo.{CallerNo}
use Rattle.nio_base.specs.declared.numbers.ChanId.{ChanId}
use Rattle.nio_base.specs.declared.numbers.KeyId.{KeyId}
use Rattle.nio_history.proofs.Put.{put_gave, put_at_keeps}
use Rattle.nio_history.specs.Sets.{fits, in_key_set, in_cancelled_set, is_in_key_set}
use Rattle.nio_history.specs.State.{State, put, with_key, with_entered}
use Rattle.nio_history.specs.declared.found.Mark.{Mark}
use Rattle.nio_language.specs.declared.call.Call.{Call}
use Rattle.nio_plain.proofs.CallChanges as change
use Rattle.nio_plain.proofs.CallChanges.{Change}
use Rattle.nio_plain.proofs.CallLawsCases.{change_of}
use Rattle.nio_plain.proofs.Found.{found_below}
use Rattle.nio_plain.proofs.ReachedCalls.{own-is}
use Rattle.nio_plain.proofs.ReachedSound.{Sound, some_same}
use Rattle.nio_plain.specs.ScriptState.{ScriptState, Selection}
use Rattle.nio_plain.specs.Seq.{seq}
use Rattle.nio_plain.specs.Seq.Replies.{Replied}
use Rattle.nio_plain.specs.Seq.Cancelling.{cancelled_in_set, channel_closed, has_index}
use Rattle.nio_plain.specs.Seq.Closing.{without_keys}
use Rattle.nio_plain.specs.Seq.Modes.{key_of}
use Rattle.nio_plain.specs.Seq.Names.{key_at, is_same_key}
use Rattle.nio_plain.specs.Seq.Opening.{next_channel, channel_made}
use Rattle.nio_plain.specs.Seq.Registering.{free_index, next_by, next_key}
use Rattle.nio_plain.specs.Seq.Removing.{comes_back, without_keys_where}
use Rattle.nio_plain.specs.Seq.Selections.{all_told, is_looked, looked_interest, marked, told_bits, with_marks}
use Rattle.nio_plain.specs.declared.rules.Rules.TheVariants.{Now}
use Rattle.nio_serial.proofs.ClosingChannels.{index_in_set}
use Rattle.nio_serial.proofs.NextChannel.{channels-next}
use Rattle.nio_serial.proofs.Resting.{MayCancel, Rests, above-out, cancelled_where, channels-changed}
use Rattle.nio_serial.proofs.Resting.{rests-cancelled, rests-new, rests-removed, rests-unselected, uncancelled}

-- ---- channels

-- a channel is opened
rests-made : (l : Limits) (st : ScriptState) → Rests l st.shared → (kind : Kind) (c : ChanId)
    → next_channel Now l st.shared kind ≡ Some c → Rests l (channel_made st kind (Some c)).left.shared
rests-made l st rest kind c e = record {
  unused = rest.unused;
  channels = channels-next l st.shared rest.channels kind c e;
  keys = rest.keys;
  frees = rest.frees;
}

-- a channel is closed
rests-closed : (l : Limits) (st : State) → Rests l st → (c : ℕ) → Rests l (channel_closed st c)
rests-closed l st rest c =
    let cancelled = rests-cancelled l st rest (channel_closed st c).key
    (λ s i. cancelled_where (has_index (key_of st c s) i) (st.key s i) (index_in_set st s i (st.enrolled c s))) in
    record {
      unused = rest.unused;
      channels =
          channels-changed l st.channels_high st.chan rest.channels c (record (st.chan c) { closed = true }) refl;
      keys = cancelled.keys;
      frees = cancelled.frees;
    }

-- ---- keys

module _ (l : Limits) (st : State) (rest : Rests l st) where
  -- the index that a new key gets
  abbrev IsLow : ℕ → KeyId → Type 0
  IsLow s k = (k.index ≤ st.keys_high s) × (k.index < l.keys)

  next_low : (s : ℕ) (k : KeyId) → next_key l st s ≡ Some k → IsLow s k
  next_low s k e = by_free (free_index st s) refl e
    where
      by_room : (b : Bool) → nat_lt (st.keys_high s) l.keys ≡ b
          → cond b (Some (record { index = st.keys_high s; serial = 0 })) None ≡ Some k → IsLow s k
      by_room true e' now =
          let room : st.keys_high s < l.keys = ltb-true (st.keys_high s) l.keys e' in
          subst (IsLow s) (some_same _ k now) (omega arith, room)
      by_room false e' now = absurd cc

      by_free : (o : Option ℕ) → free_index st s ≡ o → next_by l st s o ≡ Some k → IsLow s k
      by_free (Some i) is now =
          let low : i < st.keys_high s = (found_below (λ j. st.free s j) (st.keys_high s) i is).1 in
          let within = rest.keys.within s in
          subst (IsLow s) (some_same _ k now) (omega arith, omega arith)
      by_free None is now = by_room (nat_lt (st.keys_high s) l.keys) refl now

  rests-cancel : (s : ℕ) (k : KeyId) → Rests l (with_key st s k.index (cancelled_in_set (st.key s k.index) k.serial))
  rests-cancel s k =
      let key = st.key s k.index in
      rests-cancelled l st rest _
      (λ t j. put_at_keeps (λ t' j' n. MayCancel (st.key t' j') n) st.key s k.index (cancelled_in_set key k.serial)
      (λ _. cancelled_where (is_in_key_set key k.serial) key
      (λ h. (and_parts (fits key k.serial) (in_key_set key) h).1))
      t j (uncancelled (st.key t j)))

  -- the cancelled keys that pass the test are removed by a selection, which changes marks before
  rests-swept : (s : ℕ) (test : ℕ → Bool) → ((i : ℕ) → test i ≡ true → in_cancelled_set (st.key s i) ≡ true)
      → (marks : ℕ → ℕ → Mark) → ((t i : ℕ) → nat_lt i (st.keys_high t) ≡ false → marks t i ≡ st.mark t i)
      → Rests l (without_keys_where (record st { mark = marks }) s test (comes_back Now))
  rests-swept s test cancelled marks quiet =
      rests-removed l st rest (λ t i. (t == s) && test i) (comes_back Now) st.entered marks
      (λ t i h. (and_parts (st.key t i).published (not (st.key t i).removed) (in_set t i h)).0)
      quiet (λ _ h. h) (λ t i _ h. (in_set t i h, refl))
    where
      in_set : (t i : ℕ) → ((t == s) && test i) ≡ true → in_key_set (st.key t i) ≡ true
      in_set t i h =
          let both = and_parts (t == s) (test i) h in
          ap (λ n. in_key_set (st.key n i)) (eqb-true t s both.0)
          ∙ (and_parts (in_key_set (st.key s i)) (st.key s i).cancelled (cancelled i both.1)).0

  -- the claimed keys of a selector are removed, and none of their indexes becomes free
  rests-emptied : (s : ℕ) → Rests l (with_entered (without_keys st s) s true)
  rests-emptied s =
      rests-removed l st rest (λ t i. (t == s) && (st.key s i).claimed) (λ _. false) (put st.entered s true) st.mark
      (λ t i h.
      let both = and_parts (t == s) (st.key s i).claimed h in
      rest.keys.published t i ∙ (sym (rest.keys.claimed t i)
      ∙ (ap (λ n. (st.key n i).claimed) (eqb-true t s both.0) ∙ both.1)))
      (λ _ _ _. refl)
      (λ t h. put_gave (λ _ b. b ≡ false) st.entered s true (λ e. absurd cc) t h)
      (λ t i h goes. absurd
      (both_ways (put st.entered s true t) h
      (cond-true (t == s) true (st.entered t) (and_parts (t == s) (st.key s i).claimed goes).0)))

-- ---- calls

no_interest : (looked : List (KeyId × ℕ)) (k : KeyId) → is_looked looked k ≡ false → looked_interest looked k ≡ 0
no_interest [] k out = refl
no_interest (q ∷ looked) k out =
    let parts = or_parts (is_same_key q.0 k) (is_looked looked k) out in
    ap (λ b. cond b q.1 (looked_interest looked k)) parts.0 ∙ no_interest looked k parts.1

module _ (l : Limits) (st : ScriptState) (sound : Sound Now l st) (rest : Rests l st.shared) (me : CallerNo) where
  -- a selection marks no index above the high-water mark, since it doesn't look there
  quiet_marks : (s : ℕ) (x : Selection) (pairs : List (KeyId × ℕ)) → st.selection s ≡ Some x
      → (t i : ℕ) → nat_lt i (st.shared.keys_high t) ≡ false
      → (with_marks st.shared s x.looked pairs).mark t i ≡ st.shared.mark t i
  quiet_marks s x pairs is t i above =
      let k = key_at st.shared t i in
      let m = st.shared.mark t i in
      cond_both (t == s) (marked m (told_bits x.looked pairs k)) m (λ n. n ≡ m)
      (λ there.
      let unlooked : is_looked x.looked k ≡ false = false_from_ne_true (is_looked x.looked k) (λ h.
      both_ways (in_key_set (st.shared.key t i)) (above-out l st.shared rest t i above)
      (and_parts (fits (st.shared.key t i) k.serial) (in_key_set (st.shared.key t i))
      ((sound.looks t).in_set x (ap st.selection (eqb-true t s there) ∙ is) k h)).1) in
      ap (marked m) (ap (bit_and (all_told pairs k)) (no_interest x.looked k unlooked) ∙ and_zero_r (all_told pairs k)))
      (λ _. refl)

  changes : {c : Call} {done : Replied} → Change Now l st me c done → Rests l done.left.shared
  changes (change.channel kind c is) = rests-made l st rest kind c is
  changes (change.blocking c on _ _) = record {
    unused = rest.unused;
    channels = channels-changed l st.shared.channels_high st.shared.chan rest.channels c.number.0
        (record (st.shared.chan c.number.0) { blocking = on }) refl;
    keys = rest.keys;
    frees = rest.frees;
  }
  changes (change.register s c ops att k note may) =
      let low = next_low l st.shared rest s.0 k may.next in
      let new = rests-new l st.shared rest s.0 c.number.0 k low.0 low.1 in
      record { unused = rest.unused; channels = rest.channels; keys = new.keys; frees = new.frees }
  changes (change.closec c _) = rests-closed l st.shared rest c.number.0
  changes (change.cancel s k) = rests-cancel l st.shared rest s.0 k
  changes (change.unselect s k) = rests-unselected l st.shared rest s.0 k.index
  changes (change.begin s waiting how _) =
      let swept = rests-swept l st.shared rest s.0 (λ i. in_cancelled_set (st.shared.key s.0 i)) (λ i h. h)
      st.shared.mark (λ _ _ _. refl) in
      record { unused = rest.unused; channels = rest.channels; keys = swept.keys; frees = swept.frees }
  changes (change.told s elapsed pairs x count why own) =
      let swept = rests-swept l st.shared rest s.0 (λ i. in_cancelled_set (st.shared.key s.0 i)) (λ i h. h)
      (with_marks st.shared s.0 x.looked pairs).mark
      (quiet_marks s.0 x pairs (own-is Now l st me sound s.0 x own)) in
      record { unused = rest.unused; channels = rest.channels; keys = swept.keys; frees = swept.frees }
  changes (change.close_end s _ _) = rests-emptied l st.shared rest s.0
  changes (change.pipe target source sink _ is then_is) =
      rests-made l (channel_made st Source (Some source)).left (rests-made l st rest Source source is) Sink sink then_is
  changes (change.pipe_spent target source is) =
      rests-closed l (channel_made st Source (Some source)).left.shared (rests-made l st rest Source source is)
      source.number.0
  changes (change.pread_interrupted c n _) = rests-closed l st.shared rest c.number.0
  changes (change.pwrite_interrupted c bytes i _ _) = rests-closed l st.shared rest c.number.0
  -- the others change nothing that rests
  changes _ = record { unused = rest.unused; channels = rest.channels; keys = rest.keys; frees = rest.frees }

  pub rests-seq : (word : Call) → Rests l (seq Now l st me word).left.shared
  rests-seq word = changes (change_of Now l st me word)
