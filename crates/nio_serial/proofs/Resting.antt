-- Between two calls of a script nothing is at work: each documented call keeps that.
use Rattle.std.proofs.Common.{◌≡◌, ◌≢◌, ℕ, suc, ◌+◌, ◌<◌, ◌≤◌, max, ◌==◌, nat_lt, Bool, true, false, cond, not, ◌&&◌}
use Rattle.std.proofs.Common.{◌||◌, Option, None, refl, ap, sym, ◌∙◌, ⊎_elim, arith, eqb-true, eq-eqb}
use Rattle.std.proofs.Math.Bool.{or-false}
use Rattle.std.proofs.lemmas.Bool.{both_ways, and_parts, and_left, not-true, false_from_ne_true, lt-ltb, le-ltb}
use Rattle.std.proofs.lemmas.Bool.{ltb-false, cases_lt}
use Rattle.nio_base.specs.declared.limits.Limits.{Limits}
use Rattle.nio_base.specs.declared.numbers.CallerNo.{CallerNo}
use Rattle.nio_base.specs.declared.numbers.KeyId.{KeyId}
use Rattle.nio_history.proofs.Put.{put_keeps, put_at_keeps}
use Rattle.nio_history.specs.Sets.{in_key_set}
use Rattle.nio_base.specs.Numbers.{last_serial}
use Rattle.nio_history.specs.State.{State, unclaimed, unmarked, put, put_at, with_mark}
use Rattle.nio_history.specs.declared.found.Chan.{Chan}
use Rattle.nio_history.specs.declared.found.Mark.{Mark}
use Rattle.nio_history.specs.declared.found.Stage.{Stage}
use Rattle.nio_plain.specs.Seq.Cancelling.{cancelled_key}
use Rattle.nio_plain.specs.Seq.Registering.{new_stage}
use Rattle.nio_plain.specs.Seq.Removing.{removed_key, unselected}
use Rattle.nio_serial.specs.Between.{IsAtRest}

-- ---- the parts

pub record Unused (hold : ℕ → Option CallerNo) (pinned : ℕ → ℕ → ℕ → Bool) (taker : ℕ → ℕ → Option CallerNo)
    (put_due : ℕ → ℕ → Bool) (amid : ℕ → ℕ → ℕ → Bool) : Type 0 where
  pub unheld : (c : ℕ) → hold c ≡ None
  pub unpinned : (s i n : ℕ) → pinned s i n ≡ false
  pub unchanging : (s i n : ℕ) → amid s i n ≡ false
  pub untaken : (s i : ℕ) → taker s i ≡ None
  pub none_due : (s i : ℕ) → put_due s i ≡ false

pub record ChannelsRest (l : Limits) (mark : ℕ) (chan : ℕ → Chan) : Type 0 where
  pub within : mark ≤ l.channels
  pub made : (c : ℕ) → (chan c).made ≡ nat_lt c mark

pub record Fresh (k : Stage) (m : Mark) (f : Bool) : Type 0 where
  pub key : k ≡ unclaimed
  pub mark : m ≡ unmarked
  pub free : f ≡ false

pub record KeysRest (l : Limits) (keys_high : ℕ → ℕ) (key : ℕ → ℕ → Stage) (mark : ℕ → ℕ → Mark)
    (free : ℕ → ℕ → Bool) : Type 0 where
  pub within : (s : ℕ) → keys_high s ≤ l.keys
  pub claimed : (s i : ℕ) → (key s i).claimed ≡ nat_lt i (keys_high s)
  pub published : (s i : ℕ) → (key s i).published ≡ nat_lt i (keys_high s)
  pub fresh : (s i : ℕ) → nat_lt i (keys_high s) ≡ false → Fresh (key s i) (mark s i) (free s i)

pub record FreesRest (entered : ℕ → Bool) (key : ℕ → ℕ → Stage) (free : ℕ → ℕ → Bool) : Type 0 where
  pub removed : (s i : ℕ) → free s i ≡ true → (key s i).removed ≡ true
  pub exactly : (s i : ℕ) → entered s ≡ false → free s i ≡ ((key s i).removed && nat_lt (key s i).serial last_serial)

pub record Rests (l : Limits) (st : State) : Type 0 where
  pub unused : Unused st.hold st.pinned st.taker st.put_due st.amid
  pub channels : ChannelsRest l st.channels_high st.chan
  pub keys : KeysRest l st.keys_high st.key st.mark st.free
  pub frees : FreesRest st.entered st.key st.free

pub rests-from : (l : Limits) (st : State) → IsAtRest l st → Rests l st
rests-from l st rest = record {
  unused = record {
    unheld = rest.unused.unheld;
    unpinned = rest.unused.unpinned;
    unchanging = rest.unused.unchanging;
    untaken = rest.unused.untaken;
    none_due = rest.unused.none_due;
  };
  channels = record { within = rest.high.channels_within; made = rest.high.channels };
  keys = record {
    within = rest.high.keys_within;
    claimed = rest.high.claimed;
    published = rest.high.published;
    fresh = λ s i above. let new = rest.high.fresh s i above in
        record { key = new.key; mark = new.mark; free = new.free };
  };
  frees = record { removed = rest.free.removed; exactly = rest.free.exactly };
}

pub rests-is : (l : Limits) (st : State) → Rests l st → IsAtRest l st
rests-is l st rest = record {
  unused = record {
    unheld = rest.unused.unheld;
    unpinned = rest.unused.unpinned;
    unchanging = rest.unused.unchanging;
    untaken = rest.unused.untaken;
    none_due = rest.unused.none_due;
  };
  high = record {
    channels_within = rest.channels.within;
    keys_within = rest.keys.within;
    channels = rest.channels.made;
    claimed = rest.keys.claimed;
    published = rest.keys.published;
    fresh = λ s i above. let new = rest.keys.fresh s i above in
        record { key = new.key; mark = new.mark; free = new.free };
  };
  free = record { removed = rest.frees.removed; exactly = rest.frees.exactly };
}

-- ---- channels

module _ (l : Limits) (mark : ℕ) (chan : ℕ → Chan) (rest : ChannelsRest l mark chan) where
  -- a channel stays made, or isn't made
  pub channels-changed : (c : ℕ) (x : Chan) → x.made ≡ (chan c).made → ChannelsRest l mark (put chan c x)
  channels-changed c x same = record {
    within = rest.within;
    made = λ n. put_keeps (λ m (y : Chan). y.made ≡ nat_lt m mark) chan c x (λ h. same ∙ h) n (rest.made n);
  }

  lt_suc : (n : ℕ) → (n == mark) ≡ false → nat_lt n (mark + 1) ≡ nat_lt n mark
  lt_suc n other =
      ⊎_elim
      (λ (below : n < mark). lt-ltb n (mark + 1) (omega arith) ∙ sym (lt-ltb n mark below))
      (λ (above : mark ≤ n).
      let ne : n ≢ mark = λ e. both_ways (n == mark) other (eq-eqb n mark e) in
      le-ltb n (mark + 1) (omega arith) ∙ sym (le-ltb n mark above))
      (cases_lt n mark)

  -- the channel at the high-water mark is made
  pub channels-more : mark < l.channels → (x : Chan) → x.made ≡ true → ChannelsRest l (mark + 1) (put chan mark x)
  channels-more room x made = record { within = omega arith; made = λ n. at n (n == mark) refl }
    where
      at : (n : ℕ) (b : Bool) → (n == mark) ≡ b → (cond b x (chan n)).made ≡ nat_lt n (mark + 1)
      at n true e = made ∙ sym (lt-ltb n (mark + 1) (let same : n ≡ mark = eqb-true n mark e in omega arith))
      at n false e = rest.made n ∙ sym (lt_suc n e)

-- ---- keys

-- keys that are changed so stay claimed and published, or not, and a fresh index stays fresh
keys-kept : (l : Limits) (st : State) → Rests l st → (after : ℕ → ℕ → Stage) (marked : ℕ → ℕ → Mark)
    (freed : ℕ → ℕ → Bool)
    → ((s i : ℕ) → (after s i).claimed ≡ (st.key s i).claimed)
    → ((s i : ℕ) → (after s i).published ≡ (st.key s i).published)
    → ((s i : ℕ) → nat_lt i (st.keys_high s) ≡ false → Fresh (st.key s i) (st.mark s i) (st.free s i)
    → Fresh (after s i) (marked s i) (freed s i))
    → KeysRest l st.keys_high after marked freed
keys-kept l st rest after marked freed claimed published fresh = record {
  within = rest.keys.within;
  claimed = λ s i. claimed s i ∙ rest.keys.claimed s i;
  published = λ s i. published s i ∙ rest.keys.published s i;
  fresh = λ s i above. fresh s i above (rest.keys.fresh s i above);
}

-- an index above the high-water mark has no key in the key set
pub above-out : (l : Limits) (st : State) → Rests l st → (s i : ℕ) → nat_lt i (st.keys_high s) ≡ false
    → in_key_set (st.key s i) ≡ false
above-out l st rest s i above =
    and_left (st.key s i).published (not (st.key s i).removed) (rest.keys.published s i ∙ above)

-- a key that stays, or that is cancelled where it is in the key set
pub record MayCancel (k after : Stage) : Type 0 where
  pub claimed : after.claimed ≡ k.claimed
  pub published : after.published ≡ k.published
  pub removed : after.removed ≡ k.removed
  pub serial : after.serial ≡ k.serial
  pub outside : in_key_set k ≡ false → after ≡ k

pub uncancelled : (k : Stage) → MayCancel k k
uncancelled k =
    record { claimed = refl; published = refl; removed = refl; serial = refl; outside = λ _. refl }

pub cancelled_where : (b : Bool) (k : Stage) → (b ≡ true → in_key_set k ≡ true)
    → MayCancel k (cond b (cancelled_key k) k)
cancelled_where false k within = uncancelled k
cancelled_where true k within = record {
  claimed = refl;
  published = refl;
  removed = refl;
  serial = refl;
  outside = λ out. absurd (both_ways (in_key_set k) out (within refl));
}

pub rests-cancelled : (l : Limits) (st : State) → Rests l st → (after : ℕ → ℕ → Stage)
    → ((s i : ℕ) → MayCancel (st.key s i) (after s i)) → Rests l (record st { key = after })
rests-cancelled l st rest after each = record {
  unused = rest.unused;
  channels = rest.channels;
  keys = keys-kept l st rest after st.mark st.free (λ s i. (each s i).claimed) (λ s i. (each s i).published)
      (λ s i above fresh. record {
        key = (each s i).outside (above-out l st rest s i above) ∙ fresh.key;
        mark = fresh.mark;
        free = fresh.free;
      });
  frees = record {
    removed = λ s i h. (each s i).removed ∙ rest.frees.removed s i h;
    exactly = λ s i h. rest.frees.exactly s i h
        ∙ (λ j. sym (each s i).removed j && nat_lt (sym (each s i).serial j) last_serial);
  };
}

-- keys that are removed, by a selection or by the end of a closing
module _ (l : Limits) (st : State) (rest : Rests l st) (goes : ℕ → ℕ → Bool) (frees : Stage → Bool) (ended : ℕ → Bool)
    (marks : ℕ → ℕ → Mark)
    (published : (s i : ℕ) → goes s i ≡ true → (st.key s i).published ≡ true)
    (quiet : (s i : ℕ) → nat_lt i (st.keys_high s) ≡ false → marks s i ≡ st.mark s i)
    (kept : (s : ℕ) → ended s ≡ false → st.entered s ≡ false)
    (exactly : (s i : ℕ) → ended s ≡ false → goes s i ≡ true
    → (in_key_set (st.key s i) ≡ true) × (frees (st.key s i) ≡ nat_lt (st.key s i).serial last_serial)) where
  abbrev removed : ℕ → ℕ → Stage
  removed s i = cond (goes s i) (removed_key (st.key s i)) (st.key s i)

  abbrev unselected_where : ℕ → ℕ → Mark
  unselected_where s i = cond (goes s i) (unselected (marks s i)) (marks s i)

  abbrev freed : ℕ → ℕ → Bool
  freed s i = (goes s i && frees (st.key s i)) || st.free s i

  still_claimed : (b : Bool) (k : Stage) → (cond b (removed_key k) k).claimed ≡ k.claimed
  still_claimed true k = refl
  still_claimed false k = refl

  still_published : (b : Bool) (k : Stage) → (cond b (removed_key k) k).published ≡ k.published
  still_published true k = refl
  still_published false k = refl

  stays_out : (s i : ℕ) → nat_lt i (st.keys_high s) ≡ false → goes s i ≡ false
  stays_out s i above =
      false_from_ne_true (goes s i)
      (λ h. both_ways (nat_lt i (st.keys_high s)) above (sym (rest.keys.published s i) ∙ published s i h))

  keys-removed : KeysRest l st.keys_high removed unselected_where freed
  keys-removed =
      keys-kept l st rest removed unselected_where freed
      (λ s i. still_claimed (goes s i) (st.key s i)) (λ s i. still_published (goes s i) (st.key s i))
      (λ s i above fresh.
      let out = stays_out s i above in
      record {
        key = ap (λ b. cond b (removed_key (st.key s i)) (st.key s i)) out ∙ fresh.key;
        mark = ap (λ b. cond b (unselected (marks s i)) (marks s i)) out ∙ (quiet s i above ∙ fresh.mark);
        free = ap (λ b. (b && frees (st.key s i)) || st.free s i) out ∙ fresh.free;
      })

  frees-removed : FreesRest ended removed freed
  frees-removed =
      record {
        removed = λ s i h. by_goes s i (goes s i) h (rest.frees.removed s i);
        exactly = λ s i still_open. exact s i (goes s i) refl still_open;
      }
    where
      by_goes : (s i : ℕ) (b : Bool) → ((b && frees (st.key s i)) || st.free s i) ≡ true
          → (st.free s i ≡ true → (st.key s i).removed ≡ true)
          → (cond b (removed_key (st.key s i)) (st.key s i)).removed ≡ true
      by_goes s i true h old = refl
      by_goes s i false h old = old h

      exact : (s i : ℕ) (b : Bool) → goes s i ≡ b → ended s ≡ false
          → ((b && frees (st.key s i)) || st.free s i)
          ≡ ((cond b (removed_key (st.key s i)) (st.key s i)).removed
          && nat_lt (cond b (removed_key (st.key s i)) (st.key s i)).serial last_serial)
      exact s i true e still_open =
          let both = exactly s i still_open e in
          let present : (st.key s i).removed ≡ false = not-true (st.key s i).removed
          (and_parts (st.key s i).published (not (st.key s i).removed) both.0).1 in
          let not_free : st.free s i ≡ false = rest.frees.exactly s i (kept s still_open)
          ∙ (λ j. present j && nat_lt (st.key s i).serial last_serial) in
          (λ j. both.1 j || not_free j) ∙ or-false (nat_lt (st.key s i).serial last_serial)
      exact s i false e still_open = rest.frees.exactly s i (kept s still_open)

  pub rests-removed : Rests l
      (record st { key = removed; mark = unselected_where; free = freed; entered = ended })
  rests-removed =
      record { unused = rest.unused; channels = rest.channels; keys = keys-removed; frees = frees-removed }

-- ---- one key

-- a key that the index gets: a free one below the high-water mark, or the one at the high-water mark
module _ (l : Limits) (st : State) (rest : Rests l st) (s c : ℕ) (k : KeyId) (low : k.index ≤ st.keys_high s)
    (room : k.index < l.keys) where
  abbrev top : ℕ
  top = max (st.keys_high s) (suc k.index)

  below_top : (j : ℕ) → (j == k.index) ≡ false → nat_lt j top ≡ nat_lt j (st.keys_high s)
  below_top j other =
      let ne : j ≢ k.index = λ e. both_ways (j == k.index) other (eq-eqb j k.index e) in
      ⊎_elim
      (λ (below : j < st.keys_high s). lt-ltb j top (omega arith) ∙ sym (lt-ltb j (st.keys_high s) below))
      (λ (above : st.keys_high s ≤ j). le-ltb j top (omega arith) ∙ sym (le-ltb j (st.keys_high s) above))
      (cases_lt j (st.keys_high s))

  abbrev key_after : ℕ → ℕ → Stage
  key_after = put_at st.key s k.index (new_stage c k.serial)

  abbrev mark_after : ℕ → ℕ
  mark_after = put st.keys_high s top

  exact_after : (g : Stage → Bool) → g (new_stage c k.serial) ≡ true
      → ((t j : ℕ) → g (st.key t j) ≡ nat_lt j (st.keys_high t)) → (t j : ℕ)
      → g (key_after t j) ≡ nat_lt j (mark_after t)
  exact_after g new old t j = by_selector (t == s) refl (j == k.index) refl
    where
      by_selector : (b : Bool) → (t == s) ≡ b → (i : Bool) → (j == k.index) ≡ i
          → g (cond (b && i) (new_stage c k.serial) (st.key t j)) ≡ nat_lt j (cond b top (st.keys_high t))
      by_selector true same true e =
          new ∙ sym (lt-ltb j top (let there : j ≡ k.index = eqb-true j k.index e in omega arith))
      by_selector true same false e =
          old t j ∙ (ap (λ n. nat_lt j (st.keys_high n)) (eqb-true t s same) ∙ sym (below_top j e))
      by_selector false other i e = old t j

  keys-new : KeysRest l mark_after key_after (put_at st.mark s k.index unmarked) (put_at st.free s k.index false)
  keys-new = record {
    within = λ n. put_keeps (λ m x. x ≤ l.keys) st.keys_high s top (λ h. omega arith) n (rest.keys.within n);
    claimed = exact_after (λ x. x.claimed) refl rest.keys.claimed;
    published = exact_after (λ x. x.published) refl rest.keys.published;
    fresh = λ t j above. fresh_after t j (t == s) refl (j == k.index) refl above;
  }
    where
      fresh_after : (t j : ℕ) (b : Bool) → (t == s) ≡ b → (i : Bool) → (j == k.index) ≡ i
          → nat_lt j (cond b top (st.keys_high t)) ≡ false
          → Fresh (cond (b && i) (new_stage c k.serial) (st.key t j)) (cond (b && i) unmarked (st.mark t j))
          (cond (b && i) false (st.free t j))
      fresh_after t j true same true e above =
          let there : j ≡ k.index = eqb-true j k.index e in
          let past : top ≤ j = ltb-false j top above in
          absurd (omega arith)
      fresh_after t j true same false e above =
          rest.keys.fresh t j (ap (λ n. nat_lt j (st.keys_high n)) (eqb-true t s same) ∙ (sym (below_top j e) ∙ above))
      fresh_after t j false other i e above = rest.keys.fresh t j above

  frees-new : FreesRest st.entered key_after (put_at st.free s k.index false)
  frees-new = record {
    removed = λ t j h. by_place ((t == s) && (j == k.index)) t j h;
    exactly = λ t j still_open. exact ((t == s) && (j == k.index)) t j still_open;
  }
    where
      by_place : (b : Bool) (t j : ℕ) → cond b false (st.free t j) ≡ true
          → (cond b (new_stage c k.serial) (st.key t j)).removed ≡ true
      by_place true t j h = absurd (both_ways false refl h)
      by_place false t j h = rest.frees.removed t j h

      exact : (b : Bool) (t j : ℕ) → st.entered t ≡ false
          → cond b false (st.free t j)
          ≡ ((cond b (new_stage c k.serial) (st.key t j)).removed
          && nat_lt (cond b (new_stage c k.serial) (st.key t j)).serial last_serial)
      exact true t j still_open = refl
      exact false t j still_open = rest.frees.exactly t j still_open

  pub rests-new : Rests l (record st {
    keys_high = mark_after;
    key = key_after;
    mark = put_at st.mark s k.index unmarked;
    free = put_at st.free s k.index false;
  })
  rests-new = record { unused = rest.unused; channels = rest.channels; keys = keys-new; frees = frees-new }

-- a key that is taken out of the selected set
pub rests-unselected : (l : Limits) (st : State) → Rests l st → (s i : ℕ)
    → Rests l (with_mark st s i (unselected (st.mark s i)))
rests-unselected l st rest s i = record {
  unused = rest.unused;
  channels = rest.channels;
  keys = keys-kept l st rest st.key (put_at st.mark s i (unselected (st.mark s i))) st.free (λ _ _. refl)
      (λ _ _. refl)
      (λ t j above fresh. record {
        key = fresh.key;
        mark = put_at_keeps (λ _ _ (x : Mark). x ≡ unmarked) st.mark s i (unselected (st.mark s i))
            (λ h n. record (h n) { selected = false }) t j fresh.mark;
        free = fresh.free;
      });
  frees = rest.frees;
}
