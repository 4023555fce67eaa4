-- What holds after a channel was registered that had no key in the selector.
use Rattle.std.proofs.Common.{◌≡◌, ℕ, suc, ◌<◌, ◌≤◌, max, ◌==◌, nat_lt, ◌&&◌, Bool, true, false, cond, Option, Some}
use Rattle.std.proofs.Common.{None, is_some, refl, sym, ap, ◌∙◌, subst, arith, eq-eqb, eqb-true, lt-ltb, ⊎_elim}
use Rattle.std.proofs.lemmas.Bool.{and_parts, and_from, and_left, or_left, or_right, or_cases, both_ways}
use Rattle.std.proofs.lemmas.Bool.{false_from_ne_true, ne_eqb, ltb-true}
use Rattle.nio_base.specs.declared.limits.Limits.{Limits}
use Rattle.nio_base.specs.declared.numbers.KeyId.{KeyId}
use Rattle.nio_history.proofs.Put.{put_keeps, put_at_keeps, put-same, put_at-same}
use Rattle.nio_history.specs.Sets.{fits, in_key_set, is_valid, was_published, is_in_key_set}
use Rattle.nio_history.specs.State.{put, put_at, unmarked}
use Rattle.nio_history.specs.declared.found.Mark.{Mark}
use Rattle.nio_history.specs.declared.found.Stage.{Stage}
use Rattle.nio_language.specs.declared.reply.Reply.{Reply}
use Rattle.nio_plain.proofs.Found.{found_below}
use Rattle.nio_plain.proofs.ReachedChannels.{present-in_set}
use Rattle.nio_plain.proofs.ReachedSound.{IndexesSound, EnrolledSound, ChannelsSound, SelectedSound, ClosingSound}
use Rattle.nio_plain.proofs.ReachedSound.{LookSound, BoundSound, FreeSound, Sound, Keeps, IsInvalid, IsOut, some_same}
use Rattle.nio_plain.proofs.ReachedSound.{look-kept}
use Rattle.nio_plain.proofs.Registered.{key_of-some}
use Rattle.nio_plain.specs.ScriptState.{ScriptState, Selection}
use Rattle.nio_plain.specs.Seq.Replies.{replied}
use Rattle.nio_plain.specs.Seq.Modes.{key_of}
use Rattle.nio_plain.specs.Seq.Registering.{free_index, next_by, next_key, new_stage, with_new_key}
use Rattle.nio_plain.specs.Seq.Selections.{is_looked}
use Rattle.nio_plain.specs.declared.rules.Rules.{Rules}
use Rattle.nio_plain.specs.declared.rules.Rules.TheVariants.{First}

-- ---- the key that a selector gives next

-- its index has no key in the key set, and only lower serials of it were published; by the first rules it is
-- beyond all others
pub record IsNext (rules : Rules) (st : ScriptState) (s : ℕ) (k : KeyId) : Type 0 where
  pub out : in_key_set (st.shared.key s k.index) ≡ false
  pub older : (q : ℕ) → was_published (st.shared.key s k.index) q ≡ true → q < k.serial
  pub beyond : rules ≡ First → st.shared.keys_high s ≤ k.index

published-older : (k : Stage) (q : ℕ) → was_published k q ≡ true → q < suc k.serial
published-older k q h =
    ⊎_elim
    (λ (l : nat_lt q k.serial ≡ true).
    let less : q < k.serial = ltb-true q k.serial l in
    omega arith)
    (λ (f : (fits k q && k.published) ≡ true).
    let same : k.serial ≡ q = eqb-true k.serial q
    (and_parts k.claimed (k.serial == q) (and_parts (fits k q) k.published f).0).1 in
    omega arith)
    (or_cases (nat_lt q k.serial) (fits k q && k.published) h)

never-published : (k : Stage) (q : ℕ) → k.published ≡ false → k.serial ≡ 0 → was_published k q ≡ true → ⊥
never-published k q unpublished zero_serial h =
    ⊎_elim
    (λ (l : nat_lt q k.serial ≡ true).
    let less : q < k.serial = ltb-true q k.serial l in
    absurd (omega arith))
    (λ (f : (fits k q && k.published) ≡ true). both_ways k.published unpublished (and_parts (fits k q) k.published f).1)
    (or_cases (nat_lt q k.serial) (fits k q && k.published) h)

module _ (rules : Rules) (l : Limits) (st : ScriptState) (s : ℕ) (sound : Sound rules l st) where
  of_free : (i : ℕ) → st.shared.free s i ≡ true
      → IsNext rules st s (record { index = i; serial = suc (st.shared.key s i).serial })
  of_free i free = record {
    out = sound.free.out s i free;
    older = published-older (st.shared.key s i);
    beyond = λ e. absurd (both_ways (st.shared.free s i) (sound.free.none e s i) free);
  }

  of_mark : IsNext rules st s (record { index = st.shared.keys_high s; serial = 0 })
  of_mark =
      let mark = st.shared.keys_high s in
      let k = st.shared.key s mark in
      let unpublished : k.published ≡ false = false_from_ne_true k.published
      (λ h. let low = sound.keys.indexes.below s mark h in absurd (omega arith)) in
      record {
        out = and_left k.published _ unpublished;
        older = λ q h. absurd (never-published k q unpublished (sound.keys.indexes.fresh s mark unpublished) h);
        beyond = λ e. omega arith;
      }

  of_next : (o : Option ℕ) → free_index st.shared s ≡ o → (k : KeyId) → next_by l st.shared s o ≡ Some k
      → IsNext rules st s k
  of_next None e k now = by_room (nat_lt (st.shared.keys_high s) l.keys) now
    where
      by_room : (b : Bool) → cond b (Some (record { index = st.shared.keys_high s; serial = 0 })) None ≡ Some k
          → IsNext rules st s k
      by_room true now' =
          subst (IsNext rules st s) (some_same (record { index = st.shared.keys_high s; serial = 0 }) k now') of_mark
      by_room false now' = absurd (both_ways false refl (ap is_some now'))
  of_next (Some i) e k now =
      subst (IsNext rules st s) (some_same (record { index = i; serial = suc (st.shared.key s i).serial }) k now)
      (of_free i (found_below (λ n. st.shared.free s n) (st.shared.keys_high s) i e).0)

  pub next-is : (k : KeyId) → next_key l st.shared s ≡ Some k → IsNext rules st s k
  next-is k e = of_next (free_index st.shared s) refl k e

-- ---- after the registration

module _ (rules : Rules) (l : Limits) (st : ScriptState) (s c : ℕ) (sound : Sound rules l st) (k : KeyId)
    (next : IsNext rules st s k) where
  abbrev stage : Stage
  stage = new_stage c k.serial

  abbrev keys : ℕ → ℕ → Stage
  keys = put_at st.shared.key s k.index stage

  abbrev enrolled : ℕ → ℕ → Option KeyId
  enrolled = put_at st.shared.enrolled c s (Some k)

  abbrev mark : ℕ
  mark = max (st.shared.keys_high s) (suc k.index)

  abbrev free : ℕ → ℕ → Bool
  free = put_at st.shared.free s k.index false

  -- what was in the key set stands as it did
  stands : (P : Stage → Type 0) (t j : ℕ) → in_key_set (st.shared.key t j) ≡ true → P (st.shared.key t j) → P (keys t j)
  stands P t j in_set here =
      (put_at_keeps (λ _ _ (x : Stage). (in_key_set x ≡ true) × P x) st.shared.key s k.index stage
      (λ old. absurd (both_ways (in_key_set (st.shared.key s k.index)) next.out old.0)) t j (in_set, here)).1

  -- a fact of each stage that the new one has too
  each : (P : ℕ → ℕ → Stage → Type 0) → P s k.index stage → ((t j : ℕ) → P t j (st.shared.key t j)) → (t j : ℕ)
      → P t j (keys t j)
  each P new old t j = put_at_keeps P st.shared.key s k.index stage (λ _. new) t j (old t j)

  -- a lower serial was published, and isn't valid
  new_published : (q : ℕ) → q < k.serial → was_published stage q ≡ true
  new_published q h = or_left (nat_lt q k.serial) _ (lt-ltb q k.serial h)

  new_misfits : (q : ℕ) → q < k.serial → fits stage q ≡ false
  new_misfits q h = ne_eqb k.serial q (λ e. omega arith)

  published-stays : (t j q : ℕ) → was_published (st.shared.key t j) q ≡ true → was_published (keys t j) q ≡ true
  published-stays t j q h =
      put_at_keeps (λ _ _ (x : Stage). was_published x q ≡ true) st.shared.key s k.index stage
      (λ old. new_published q (next.older q old)) t j h

  invalid-stays : (t j q : ℕ) → IsInvalid (st.shared.key t j) q → IsInvalid (keys t j) q
  invalid-stays t j q h =
      put_at_keeps (λ _ _ (x : Stage). IsInvalid x q) st.shared.key s k.index stage
      (λ old. record {
        published = new_published q (next.older q old.published);
        invalid = and_left (fits stage q) (is_valid stage) (new_misfits q (next.older q old.published));
      })
      t j h

  outside-stays : (t j q : ℕ) → IsOut (st.shared.key t j) q → IsOut (keys t j) q
  outside-stays t j q h =
      put_at_keeps (λ _ _ (x : Stage). IsOut x q) st.shared.key s k.index stage
      (λ old. record {
        published = new_published q (next.older q old.published);
        out = and_left (fits stage q) (in_key_set stage) (new_misfits q (next.older q old.published));
      })
      t j h

  chan-stays : (t j q : ℕ) → is_in_key_set (st.shared.key t j) q ≡ true → (keys t j).chan ≡ (st.shared.key t j).chan
  chan-stays t j q h =
      put_at_keeps (λ u n (x : Stage). in_key_set (st.shared.key u n) ≡ true → x.chan ≡ (st.shared.key u n).chan)
      st.shared.key s k.index stage
      (λ _ in_set. absurd (both_ways (in_key_set (st.shared.key s k.index)) next.out in_set)) t j (λ _. refl)
      (and_parts (fits (st.shared.key t j) q) _ h).1

  new-indexes : st.shared.selector s ≡ true → IndexesSound st.shared.selector (put st.shared.keys_high s mark) keys
  new-indexes made = record {
    claimed = each (λ _ _ x. x.published ≡ true → x.claimed ≡ true) (λ _. refl) sound.keys.indexes.claimed;
    below = each (λ t j x. x.published ≡ true → j < put st.shared.keys_high s mark t)
        (λ _. subst (λ (n : ℕ). k.index < n) (sym (put-same st.shared.keys_high s mark)) (omega arith))
        (λ t j h. put_keeps (λ _ n. j < n) st.shared.keys_high s mark (λ old. omega arith) t
        (sound.keys.indexes.below t j h));
    made = each (λ t _ x. x.published ≡ true → st.shared.selector t ≡ true) (λ _. made) sound.keys.indexes.made;
    fresh = each (λ _ _ x. x.published ≡ false → x.serial ≡ 0)
        (λ h. absurd (both_ways true h refl)) sound.keys.indexes.fresh;
  }

  new_is : (P : KeyId → Stage → Type 0) (m : KeyId) → ◌≡◌ {A = Option KeyId} (Some k) (Some m) → P k stage
      → P m (keys s m.index)
  new_is P m e new =
      subst (λ (n : KeyId). P n (keys s n.index)) (some_same k m e)
      (subst (P k) (sym (put_at-same st.shared.key s k.index stage)) new)

  not_enrolled : key_of st.shared c s ≡ None → (j : ℕ)
      → st.shared.enrolled c s ≡ Some (record { index = j; serial = (st.shared.key s j).serial })
      → in_key_set (st.shared.key s j) ≡ true → ⊥
  not_enrolled none j e in_set =
      let key = st.shared.key s j in
      let claimed = sound.keys.indexes.claimed s j (and_parts key.published _ in_set).0 in
      both_ways (is_some (key_of st.shared c s)) (ap is_some none)
      (ap is_some
      (key_of-some st.shared c s (record { index = j; serial = key.serial }) e
      (present-in_set key claimed in_set)))

  new-enrolments : key_of st.shared c s ≡ None → EnrolledSound enrolled keys
  new-enrolments none = record {
    published =
        λ n t m. put_at_keeps (λ _ u o. o ≡ Some m → was_published (keys u m.index) m.serial ≡ true)
        st.shared.enrolled c s
        (Some k)
        (λ _ e. new_is (λ (id : KeyId) (x : Stage). was_published x id.serial ≡ true) m e
        (or_right (nat_lt k.serial k.serial) _
        (and_from (k.serial == k.serial) true (eq-eqb k.serial k.serial refl) refl))) n t
        (λ e. published-stays t m.index m.serial (sound.keys.enrolments.published n t m e));
    channel =
        λ n t m. put_at_keeps (λ c' u o. o ≡ Some m → is_in_key_set (keys u m.index) m.serial ≡ true
        → (keys u m.index).chan.0 ≡ c') st.shared.enrolled c s (Some k)
        (λ _ e _. new_is (λ (_ : KeyId) (x : Stage). x.chan.0 ≡ c) m e refl) n t
        (λ e. put_at_keeps (λ u j (x : Stage). was_published (st.shared.key u j) m.serial ≡ true
        → is_in_key_set x m.serial ≡ true → x.chan.0 ≡ n) st.shared.key s k.index stage
        (λ _ was in_set. absurd
        (both_ways (fits stage m.serial) (new_misfits m.serial (next.older m.serial was))
        (and_parts (fits stage m.serial) _ in_set).0))
        t m.index (λ _. sound.keys.enrolments.channel n t m e) (sound.keys.enrolments.published n t m e));
    in_set = each (λ t j x. in_key_set x ≡ true → enrolled x.chan.0 t ≡ Some (record { index = j; serial = x.serial }))
        (λ _. put_at-same st.shared.enrolled c s (Some k))
        (λ t j h. put_at_keeps (λ _ u o. in_key_set (st.shared.key u j) ≡ true
        → o ≡ Some (record { index = j; serial = (st.shared.key u j).serial })) st.shared.enrolled c s (Some k)
        (λ old in_set. absurd (not_enrolled none j (old in_set) in_set)) (st.shared.key t j).chan.0 t
        (λ _. sound.keys.enrolments.in_set t j h) h);
  }

  new-channels : (st.shared.chan c).made ≡ true → (st.shared.chan c).blocking ≡ false
      → (st.shared.chan c).closed ≡ false → ChannelsSound st.shared.chan keys
  new-channels made non_blocking is_open = record {
    fresh = sound.keys.channels.fresh;
    made = each (λ _ _ x. x.published ≡ true → (st.shared.chan x.chan.0).made ≡ true)
        (λ _. made) sound.keys.channels.made;
    non_blocking = each (λ _ _ x. in_key_set x ≡ true → (st.shared.chan x.chan.0).blocking ≡ false)
        (λ _. non_blocking) sound.keys.channels.non_blocking;
    is_open = each (λ _ _ x. is_valid x ≡ true → (st.shared.chan x.chan.0).closed ≡ false)
        (λ _. is_open) sound.keys.channels.is_open;
  }

  new-free : FreeSound rules free keys
  new-free = record {
    out = each (λ t j x. free t j ≡ true → in_key_set x ≡ false)
        (λ h. absurd (both_ways true (sym h ∙ put_at-same st.shared.free s k.index false) refl))
        (λ t j h. sound.free.out t j
        (put_at_keeps (λ u n b. b ≡ true → st.shared.free u n ≡ true) st.shared.free s k.index false
        (λ _ e. absurd (both_ways false refl e)) t j (λ e. e) h));
    none = λ e t j. put_at_keeps (λ _ _ b. b ≡ false) st.shared.free s k.index false (λ _. refl) t j
        (sound.free.none e t j);
  }

  new-selected : SelectedSound keys (put_at st.shared.mark s k.index unmarked)
  new-selected t j =
      put_at_keeps (λ u n (m : Mark). m.selected ≡ true → in_key_set (keys u n) ≡ true) st.shared.mark s k.index
      unmarked (λ _ h. absurd (both_ways false refl h)) t j
      (λ h. let in_set = sound.selected t j h in stands (λ (x : Stage). in_key_set x ≡ true) t j in_set in_set)

  new-closing : (st.shared.gate s).shut ≡ false → (t : ℕ)
      → ClosingSound (st.shared.gate t).shut (st.shared.closer t) (st.shared.entered t) (keys t)
  new-closing not_shut t = record {
    closer_shut = (sound.closings t).closer_shut;
    entered_shut = (sound.closings t).entered_shut;
    entered_empty = λ h j. each (λ u _ x. st.shared.entered u ≡ true → in_key_set x ≡ false)
        (λ e. absurd (both_ways (st.shared.gate s).shut not_shut ((sound.closings s).entered_shut e)))
        (λ u i e. (sound.closings u).entered_empty e i) t j h;
  }

  new-look : (t : ℕ) → LookSound (st.selection t) (st.shared.turn t) (keys t)
  new-look t =
      look-kept (st.selection t) (st.shared.turn t) (st.shared.key t) (keys t)
      (λ j q h. stands (λ (x : Stage). is_in_key_set x q ≡ true) t j (and_parts (fits (st.shared.key t j) q) _ h).1 h)
      (sound.looks t)

  new-bound : (t : ℕ) → BoundSound rules (st.selection t) (put st.shared.keys_high s mark t) (keys t)
  new-bound t = record {
    within = λ x e. put_keeps (λ _ n. x.bound ≤ n) st.shared.keys_high s mark (λ old. omega arith) t
        ((sound.bounds t).within x e);
    below = (sound.bounds t).below;
    all = λ f x e i less in_set.
        put_at_keeps (λ u j (y : Stage). (x : Selection) → st.selection u ≡ Some x → j < x.bound → in_key_set y ≡ true
        → is_looked x.looked (record { index = j; serial = y.serial }) ≡ true) st.shared.key s k.index stage
        (λ _ x e low _. let high = (sound.bounds s).within x e in let far = next.beyond f in absurd (omega arith))
        t i (λ x e low. (sound.bounds t).all f x e i low) x e less in_set;
  }

  pub keeps_new_key : (r : Reply) (ops att : ℕ) → st.shared.selector s ≡ true → (st.shared.gate s).shut ≡ false
      → key_of st.shared c s ≡ None
      → (st.shared.chan c).made ≡ true → (st.shared.chan c).blocking ≡ false → (st.shared.chan c).closed ≡ false
      → Keeps rules l st (replied st r (with_new_key st.shared s c k ops att))
  keeps_new_key r ops att selector_made not_shut none made non_blocking is_open = record {
    sound = record {
      keys = record {
        selectors = sound.keys.selectors;
        indexes = new-indexes selector_made;
        enrolments = new-enrolments none;
        channels = new-channels made non_blocking is_open;
        cancelled = each (λ _ _ x. x.cancelled ≡ true → in_key_set x ≡ true)
            (λ h. absurd (both_ways false refl h)) sound.keys.cancelled;
      };
      free = new-free;
      selected = new-selected;
      closings = new-closing not_shut;
      looks = new-look;
      bounds = new-bound;
    };
    stays = record {
      published = published-stays;
      invalid = invalid-stays;
      outside = outside-stays;
      chan = λ t j q here _. chan-stays t j q here;
      closed = λ t h. h;
    };
  }
