-- What holds of every state that a script leaves, part by part, and what the changes of a state keep
-- of it.
use Rattle.std.proofs.Common.{◌≡◌, ℕ, ◌==◌, ◌<◌, ◌≤◌, nat_lt, ◌&&◌, ◌||◌, Bool, true, false, cond, Option, Some}
use Rattle.std.proofs.Common.{is_some, refl, sym, ap, ◌∙◌, subst, eqb-true}
use Rattle.std.proofs.lemmas.Bool.{and_parts, and_from, or_right, both_ways, false_from_ne_true}
use Rattle.nio_base.specs.declared.limits.Limits.{Limits}
use Rattle.nio_base.specs.declared.numbers.CallerNo.{CallerNo}
use Rattle.nio_base.specs.declared.numbers.KeyId.{KeyId}
use Rattle.nio_history.specs.Sets.{fits, in_key_set, is_valid, was_published, is_in_key_set, is_valid_key}
use Rattle.nio_history.specs.declared.found.Chan.{Chan}
use Rattle.nio_history.specs.declared.found.Mark.{Mark}
use Rattle.nio_history.specs.declared.found.Stage.{Stage}
use Rattle.nio_history.specs.declared.found.GateWord.{GateWord}
use Rattle.nio_language.specs.declared.reply.Reply.{Reply}
use Rattle.nio_plain.specs.ScriptState.{ScriptState, Selection, script_opening, with_shared}
use Rattle.nio_plain.specs.Seq.Replies.{Replied}
use Rattle.nio_plain.specs.Seq.Cancelling.{cancelled_key}
use Rattle.nio_plain.specs.Seq.Removing.{removed_key}
use Rattle.nio_plain.specs.Seq.Selections.{is_looked}
use Rattle.nio_plain.specs.declared.rules.Rules.{Rules}
use Rattle.nio_plain.specs.declared.rules.Rules.TheVariants.{First}

-- ---- the parts

-- a published key is claimed, stands below its selector's high-water mark, and its selector is made; an index with no
-- published key has serial 0
pub record IndexesSound (selector : ℕ → Bool) (keys_high : ℕ → ℕ) (key : ℕ → ℕ → Stage) : Type 0 where
  pub claimed : (s i : ℕ) → (key s i).published ≡ true → (key s i).claimed ≡ true
  pub below : (s i : ℕ) → (key s i).published ≡ true → i < keys_high s
  pub made : (s i : ℕ) → (key s i).published ≡ true → selector s ≡ true
  pub fresh : (s i : ℕ) → (key s i).published ≡ false → (key s i).serial ≡ 0

-- what is enrolled for a channel was published, and is a key of it while it is in the key set; and each key
-- of a key set is enrolled for its channel
pub record EnrolledSound (enrolled : ℕ → ℕ → Option KeyId) (key : ℕ → ℕ → Stage) : Type 0 where
  pub published : (c s : ℕ) (k : KeyId) → enrolled c s ≡ Some k → was_published (key s k.index) k.serial ≡ true
  pub channel : (c s : ℕ) (k : KeyId) → enrolled c s ≡ Some k → is_in_key_set (key s k.index) k.serial ≡ true
      → (key s k.index).chan.0 ≡ c
  pub in_set : (s i : ℕ) → in_key_set (key s i) ≡ true
      → enrolled (key s i).chan.0 s ≡ Some (record { index = i; serial = (key s i).serial })

-- the channel of a published key is made, it is non-blocking while the key is in the key set, and open
-- while the key is valid; a number that isn't made has serial 0
pub record ChannelsSound (chan : ℕ → Chan) (key : ℕ → ℕ → Stage) : Type 0 where
  pub fresh : (c : ℕ) → (chan c).made ≡ false → (chan c).serial ≡ 0
  pub made : (s i : ℕ) → (key s i).published ≡ true → (chan (key s i).chan.0).made ≡ true
  pub non_blocking : (s i : ℕ) → in_key_set (key s i) ≡ true → (chan (key s i).chan.0).blocking ≡ false
  pub is_open : (s i : ℕ) → is_valid (key s i) ≡ true → (chan (key s i).chan.0).closed ≡ false

-- what is cancelled or selected is in the key set
abbrev pub CancelledSound : (ℕ → ℕ → Stage) → Type 0
CancelledSound key = (s i : ℕ) → (key s i).cancelled ≡ true → in_key_set (key s i) ≡ true

abbrev pub SelectedSound : (ℕ → ℕ → Stage) → (ℕ → ℕ → Mark) → Type 0
SelectedSound key mark = (s i : ℕ) → (mark s i).selected ≡ true → in_key_set (key s i) ≡ true

-- of one selector: who closes it shut it, and once its closing has ended it is shut and has no key
pub record ClosingSound (shut : Bool) (closer : Option CallerNo) (entered : Bool) (key : ℕ → Stage) : Type 0 where
  pub closer_shut : is_some closer ≡ true → shut ≡ true
  pub entered_shut : entered ≡ true → shut ≡ true
  pub entered_empty : entered ≡ true → (i : ℕ) → in_key_set (key i) ≡ false

-- of one selector: a selection in progress has the turn, and what it looks at is in the key set
pub record LookSound (selection : Option Selection) (turn : Option CallerNo) (key : ℕ → Stage) : Type 0 where
  pub has_turn : is_some selection ≡ true → is_some turn ≡ true
  pub in_set : (x : Selection) → selection ≡ Some x → (k : KeyId) → is_looked x.looked k ≡ true
      → is_in_key_set (key k.index) k.serial ≡ true

-- of one selector: what a selection in progress looks at is below its bound, and by the first rules it looks
-- at each key of the key set there
pub record BoundSound (rules : Rules) (selection : Option Selection) (keys_high : ℕ) (key : ℕ → Stage) : Type 0 where
  pub within : (x : Selection) → selection ≡ Some x → x.bound ≤ keys_high
  pub below : (x : Selection) → selection ≡ Some x → (k : KeyId) → is_looked x.looked k ≡ true → k.index < x.bound
  pub all : rules ≡ First → (x : Selection) → selection ≡ Some x → (i : ℕ) → i < x.bound → in_key_set (key i) ≡ true
      → is_looked x.looked (record { index = i; serial = (key i).serial }) ≡ true

-- of all indexes: a free one has no key in the key set, and by the first rules none is free
pub record FreeSound (rules : Rules) (free : ℕ → ℕ → Bool) (key : ℕ → ℕ → Stage) : Type 0 where
  pub out : (s i : ℕ) → free s i ≡ true → in_key_set (key s i) ≡ false
  pub none : rules ≡ First → (s i : ℕ) → free s i ≡ false

-- of all keys
pub record KeysSound (l : Limits) (selector : ℕ → Bool) (keys_high : ℕ → ℕ) (enrolled : ℕ → ℕ → Option KeyId)
    (chan : ℕ → Chan) (key : ℕ → ℕ → Stage) : Type 0 where
  pub selectors : (s : ℕ) → selector s ≡ true → s < l.selectors
  pub indexes : IndexesSound selector keys_high key
  pub enrolments : EnrolledSound enrolled key
  pub channels : ChannelsSound chan key
  pub cancelled : CancelledSound key

-- of all that the calls change, but for interests, attachments, interrupt statuses, pipes and the group
pub record AreSound (rules : Rules) (l : Limits) (selector : ℕ → Bool) (keys_high : ℕ → ℕ)
    (enrolled : ℕ → ℕ → Option KeyId) (chan : ℕ → Chan) (key : ℕ → ℕ → Stage) (vacant : ℕ → ℕ → Bool)
    (mark : ℕ → ℕ → Mark) (gate : ℕ → GateWord) (closer : ℕ → Option CallerNo) (entered : ℕ → Bool)
    (turn : ℕ → Option CallerNo) (selection : ℕ → Option Selection) : Type 0 where
  pub keys : KeysSound l selector keys_high enrolled chan key
  pub free : FreeSound rules vacant key
  pub selected : SelectedSound key mark
  pub closings : (s : ℕ) → ClosingSound (gate s).shut (closer s) (entered s) (key s)
  pub looks : (s : ℕ) → LookSound (selection s) (turn s) (key s)
  pub bounds : (s : ℕ) → BoundSound rules (selection s) (keys_high s) (key s)

abbrev pub Sound : Rules → Limits → ScriptState → Type 0
Sound rules l st =
    AreSound rules l st.shared.selector st.shared.keys_high st.shared.enrolled st.shared.chan st.shared.key
    st.shared.free st.shared.mark st.shared.gate st.shared.closer st.shared.entered st.shared.turn st.selection

pub sound-opening : (rules : Rules) (l : Limits) → Sound rules l script_opening
sound-opening rules l = record {
  keys = record {
    selectors = λ s h. absurd cc;
    indexes = record {
      claimed = λ s i h. absurd cc;
      below = λ s i h. absurd cc;
      made = λ s i h. absurd cc;
      fresh = λ s i h. refl;
    };
    enrolments = record {
      published = λ c s k h. absurd cc;
      channel = λ c s k h. absurd cc;
      in_set = λ s i h. absurd cc;
    };
    channels = record {
      fresh = λ c h. refl;
      made = λ s i h. absurd cc;
      non_blocking = λ s i h. absurd cc;
      is_open = λ s i h. refl;
    };
    cancelled = λ s i h. absurd cc;
  };
  free = record { out = λ s i h. refl; none = λ e s i. refl };
  selected = λ s i h. absurd cc;
  closings = λ s. record {
    closer_shut = λ h. absurd cc;
    entered_shut = λ h. absurd cc;
    entered_empty = λ h i. refl;
  };
  looks = λ s. record {
    has_turn = λ h. absurd cc;
    in_set = λ x h k l. absurd cc;
  };
  bounds = λ s. record {
    within = λ x h. absurd cc;
    below = λ x h k l. absurd cc;
    all = λ e x h i l k. absurd cc;
  };
}

-- ---- what stays

-- a key that was published and isn't valid
pub record IsInvalid (k : Stage) (serial : ℕ) : Type 0 where
  pub published : was_published k serial ≡ true
  pub invalid : is_valid_key k serial ≡ false

-- a key that was published and isn't in the key set
pub record IsOut (k : Stage) (serial : ℕ) : Type 0 where
  pub published : was_published k serial ≡ true
  pub out : is_in_key_set k serial ≡ false

-- a published key stays so, an invalid one stays invalid, one outside the key set outside, and so does a selector whose
-- closing has ended; a key of the key set stays its channel's
pub record Stays (key after : ℕ → ℕ → Stage) (entered ended : ℕ → Bool) : Type 0 where
  pub published : (s i serial : ℕ) → was_published (key s i) serial ≡ true → was_published (after s i) serial ≡ true
  pub invalid : (s i serial : ℕ) → IsInvalid (key s i) serial → IsInvalid (after s i) serial
  pub outside : (s i serial : ℕ) → IsOut (key s i) serial → IsOut (after s i) serial
  pub chan : (s i serial : ℕ) → is_in_key_set (key s i) serial ≡ true → is_in_key_set (after s i) serial ≡ true
      → (after s i).chan ≡ (key s i).chan
  pub closed : (s : ℕ) → entered s ≡ true → ended s ≡ true

-- a call leaves a sound state, and ends nothing of what stays
pub record Keeps (rules : Rules) (l : Limits) (st : ScriptState) (a : Replied) : Type 0 where
  pub sound : Sound rules l a.left
  pub stays : Stays st.shared.key a.left.shared.key st.shared.entered a.left.shared.entered

pub same_stays : (key : ℕ → ℕ → Stage) (entered : ℕ → Bool) → Stays key key entered entered
same_stays key entered = record {
  published = λ s i q h. h;
  invalid = λ s i q h. h;
  outside = λ s i q h. h;
  chan = λ s i q h k. refl;
  closed = λ s h. h;
}

-- a key of a key set was published
pub in_set-published : (k : Stage) (q : ℕ) → is_in_key_set k q ≡ true → was_published k q ≡ true
in_set-published k q h =
    let both = and_parts (fits k q) (in_key_set k) h in
    or_right (nat_lt q k.serial) _ (and_from (fits k q) k.published both.0 (and_parts k.published _ both.1).0)

-- one change after another
pub stays_then : {a b c : ℕ → ℕ → Stage} {x y z : ℕ → Bool} → Stays a b x y → Stays b c y z → Stays a c x z
stays_then {a} {b} {c} first second = record {
  published = λ s i q h. second.published s i q (first.published s i q h);
  invalid = λ s i q h. second.invalid s i q (first.invalid s i q h);
  outside = λ s i q h. second.outside s i q (first.outside s i q h);
  chan = λ s i q here there. between s i q here there (is_in_key_set (b s i) q) refl;
  closed = λ s h. second.closed s (first.closed s h);
}
  where
    between : (s i q : ℕ) → is_in_key_set (a s i) q ≡ true → is_in_key_set (c s i) q ≡ true → (m : Bool)
        → is_in_key_set (b s i) q ≡ m → (c s i).chan ≡ (a s i).chan
    between s i q here there true e = second.chan s i q e there ∙ first.chan s i q here e
    between s i q here there false e =
        let out = second.outside s i q (record {
          published = first.published s i q (in_set-published (a s i) q here);
          out = e;
        }) in
        absurd (both_ways (is_in_key_set (c s i) q) out.out there)

pub some_same : {A : Type 0} (x y : A) → ◌≡◌ {A = Option A} (Some x) (Some y) → x ≡ y
some_same x y e = cc

-- what a test answers, by what stands on each side of it
pub by_test : (P : Replied → Type 0) (test : Bool) (a b : Replied) → (test ≡ true → P a) → (test ≡ false → P b)
    → P (cond test a b)
by_test P true a b on_true on_false = on_true refl
by_test P false a b on_true on_false = on_false refl

-- what holds at a number where it is found, and at every other
pub here_or_there : (s : ℕ) (P : Bool → ℕ → Type 0) → P true s → ((t : ℕ) → (t == s) ≡ false → P false t) → (t : ℕ)
    → P (t == s) t
here_or_there s P here there t = at (t == s) refl
  where
    at : (b : Bool) → (t == s) ≡ b → P b t
    at true e = subst (λ (k : ℕ). P true k) (sym (eqb-true t s e)) here
    at false e = there t e

-- ---- keys that are cancelled or removed

-- a stage that a key has come to: nothing of it is taken back
pub record Aged (k after : Stage) : Type 0 where
  pub claimed : after.claimed ≡ k.claimed
  pub published : after.published ≡ k.published
  pub serial : after.serial ≡ k.serial
  pub chan : after.chan ≡ k.chan
  pub in_set : in_key_set after ≡ true → in_key_set k ≡ true
  pub valid : is_valid after ≡ true → is_valid k ≡ true
  pub cancelled : (k.cancelled ≡ true → in_key_set k ≡ true) → after.cancelled ≡ true → in_key_set after ≡ true

pub aged-same : (k : Stage) → Aged k k
aged-same k = record {
  claimed = refl;
  published = refl;
  serial = refl;
  chan = refl;
  in_set = λ h. h;
  valid = λ h. h;
  cancelled = λ h. h;
}

pub not_valid_cancelled : (k : Stage) → is_valid (cancelled_key k) ≡ true → ⊥
not_valid_cancelled k h = both_ways false refl (and_parts (in_key_set k) false h).1

pub not_in_set_removed : (k : Stage) → in_key_set (removed_key k) ≡ true → ⊥
not_in_set_removed k h = both_ways false refl (and_parts k.published false h).1

pub aged-cancelled : (k : Stage) → in_key_set k ≡ true → Aged k (cancelled_key k)
aged-cancelled k in_set = record {
  claimed = refl;
  published = refl;
  serial = refl;
  chan = refl;
  in_set = λ h. h;
  valid = λ h. absurd (not_valid_cancelled k h);
  cancelled = λ _ _. in_set;
}

-- a key that is cancelled stays in the key set
pub in_set-cancelled : (b : Bool) (k : Stage) → in_key_set k ≡ true → in_key_set (cond b (cancelled_key k) k) ≡ true
in_set-cancelled true k h = h
in_set-cancelled false k h = h

pub aged-removed : (k : Stage) → Aged k (removed_key k)
aged-removed k = record {
  claimed = refl;
  published = refl;
  serial = refl;
  chan = refl;
  in_set = λ h. absurd (not_in_set_removed k h);
  valid = λ h. absurd (not_in_set_removed k (and_parts (in_key_set (removed_key k)) true h).0);
  cancelled = λ _ h. absurd (both_ways false refl h);
}

-- what is in no key set is in none later, and what is invalid stays so
pub aged-out : (k after : Stage) → Aged k after → in_key_set k ≡ false → in_key_set after ≡ false
aged-out k after aged out = false_from_ne_true (in_key_set after) (λ h. both_ways (in_key_set k) out (aged.in_set h))

module _ (k after : Stage) (aged : Aged k after) where
  pub aged-fits : (q : ℕ) → fits after q ≡ fits k q
  aged-fits q = λ j. aged.claimed j && (aged.serial j == q)

  pub aged-was_published : (q : ℕ) → was_published after q ≡ was_published k q
  aged-was_published q = λ j. nat_lt q (aged.serial j) || (aged-fits q j && aged.published j)

  pub aged-in_set : (q : ℕ) → is_in_key_set after q ≡ true → is_in_key_set k q ≡ true
  aged-in_set q h =
      let both = and_parts (fits after q) (in_key_set after) h in
      and_from (fits k q) (in_key_set k) (sym (aged-fits q) ∙ both.0) (aged.in_set both.1)

  pub aged-outside : (q : ℕ) → IsOut k q → IsOut after q
  aged-outside q h = record {
    published = aged-was_published q ∙ h.published;
    out = false_from_ne_true (is_in_key_set after q) (λ v. both_ways (is_in_key_set k q) h.out (aged-in_set q v));
  }

  pub aged-invalid : (q : ℕ) → IsInvalid k q → IsInvalid after q
  aged-invalid q h = record {
    published = aged-was_published q ∙ h.published;
    invalid = false_from_ne_true (is_valid_key after q) (λ v.
        let both = and_parts (fits after q) (is_valid after) v in
        both_ways (is_valid_key k q) h.invalid
        (and_from (fits k q) (is_valid k) (sym (aged-fits q) ∙ both.0) (aged.valid both.1)));
  }

-- every key has aged, each in its way
module _ (key after : ℕ → ℕ → Stage) (aged : (s i : ℕ) → Aged (key s i) (after s i)) where
  indexes-aged : (selector : ℕ → Bool) (keys_high : ℕ → ℕ) → IndexesSound selector keys_high key
      → IndexesSound selector keys_high after
  indexes-aged selector keys_high sound = record {
    claimed = λ s i h. (aged s i).claimed ∙ sound.claimed s i (sym (aged s i).published ∙ h);
    below = λ s i h. sound.below s i (sym (aged s i).published ∙ h);
    made = λ s i h. sound.made s i (sym (aged s i).published ∙ h);
    fresh = λ s i h. (aged s i).serial ∙ sound.fresh s i (sym (aged s i).published ∙ h);
  }

  enrolments-aged : (enrolled : ℕ → ℕ → Option KeyId) → EnrolledSound enrolled key → EnrolledSound enrolled after
  enrolments-aged enrolled sound = record {
    published = λ c s k h. aged-was_published (key s k.index) (after s k.index) (aged s k.index) k.serial
        ∙ sound.published c s k h;
    channel = λ c s k h in_set. ap (λ x. x.0) (aged s k.index).chan
        ∙ sound.channel c s k h (aged-in_set (key s k.index) (after s k.index) (aged s k.index) k.serial in_set);
    in_set = λ s i h. (ap (λ x. enrolled x.0 s) (aged s i).chan ∙ sound.in_set s i ((aged s i).in_set h))
        ∙ (λ j. Some (record { index = i; serial = sym (aged s i).serial j }));
  }

  channels-aged : (chan : ℕ → Chan) → ChannelsSound chan key → ChannelsSound chan after
  channels-aged chan sound = record {
    fresh = sound.fresh;
    made = λ s i h. ap (λ x. (chan x.0).made) (aged s i).chan ∙ sound.made s i (sym (aged s i).published ∙ h);
    non_blocking = λ s i h. ap (λ x. (chan x.0).blocking) (aged s i).chan
        ∙ sound.non_blocking s i ((aged s i).in_set h);
    is_open = λ s i h. ap (λ x. (chan x.0).closed) (aged s i).chan ∙ sound.is_open s i ((aged s i).valid h);
  }

  pub keys-aged : (l : Limits) (selector : ℕ → Bool) (keys_high : ℕ → ℕ) (enrolled : ℕ → ℕ → Option KeyId)
      (chan : ℕ → Chan) → KeysSound l selector keys_high enrolled chan key
      → KeysSound l selector keys_high enrolled chan after
  keys-aged l selector keys_high enrolled chan sound = record {
    selectors = sound.selectors;
    indexes = indexes-aged selector keys_high sound.indexes;
    enrolments = enrolments-aged enrolled sound.enrolments;
    channels = channels-aged chan sound.channels;
    cancelled = λ s i h. (aged s i).cancelled (sound.cancelled s i) h;
  }

  pub closing-aged : (s : ℕ) (shut : Bool) (closer : Option CallerNo) (entered : Bool)
      → ClosingSound shut closer entered (key s) → ClosingSound shut closer entered (after s)
  closing-aged s shut closer entered sound = record {
    closer_shut = sound.closer_shut;
    entered_shut = sound.entered_shut;
    entered_empty = λ h i. aged-out (key s i) (after s i) (aged s i) (sound.entered_empty h i);
  }

  pub bound-aged : (rules : Rules) (s : ℕ) (selection : Option Selection) (keys_high : ℕ)
      → BoundSound rules selection keys_high (key s) → BoundSound rules selection keys_high (after s)
  bound-aged rules s selection keys_high sound = record {
    within = sound.within;
    below = sound.below;
    all = λ e x h i l in_set.
        subst (λ (q : ℕ). is_looked x.looked (record { index = i; serial = q }) ≡ true) (sym (aged s i).serial)
        (sound.all e x h i l ((aged s i).in_set in_set));
  }

  pub free-aged : (rules : Rules) (free : ℕ → ℕ → Bool) → FreeSound rules free key → FreeSound rules free after
  free-aged rules free sound = record {
    out = λ s i h. aged-out (key s i) (after s i) (aged s i) (sound.out s i h);
    none = sound.none;
  }

  pub stays-aged : (entered ended : ℕ → Bool) → ((s : ℕ) → entered s ≡ true → ended s ≡ true)
      → Stays key after entered ended
  stays-aged entered ended closed = record {
    published = λ s i q h. aged-was_published (key s i) (after s i) (aged s i) q ∙ h;
    invalid = λ s i q h. aged-invalid (key s i) (after s i) (aged s i) q h;
    outside = λ s i q h. aged-outside (key s i) (after s i) (aged s i) q h;
    chan = λ s i q _ _. (aged s i).chan;
    closed = closed;
  }

-- what a selection looks at stays in the key set where no key of the selector leaves it
pub look-kept : (selection : Option Selection) (turn : Option CallerNo) (key after : ℕ → Stage)
    → ((i q : ℕ) → is_in_key_set (key i) q ≡ true → is_in_key_set (after i) q ≡ true) → LookSound selection turn key
    → LookSound selection turn after
look-kept selection turn key after kept sound = record {
  has_turn = sound.has_turn;
  in_set = λ x e k l. kept k.index k.serial (sound.in_set x e k l);
}

-- keys that are cancelled, and so leave no set
pub keeps_cancelled : (rules : Rules) (l : Limits) (st : ScriptState) (r : Reply) (after : ℕ → ℕ → Stage)
    → ((s i : ℕ) → Aged (st.shared.key s i) (after s i))
    → ((s i : ℕ) → in_key_set (st.shared.key s i) ≡ true → in_key_set (after s i) ≡ true) → Sound rules l st
    → Keeps rules l st (record { reply = r; left = with_shared st (record st.shared { key = after }) })
keeps_cancelled rules l st r after aged kept sound =
    let key = st.shared.key in
    record {
      sound = record {
        keys = keys-aged key after aged l st.shared.selector st.shared.keys_high st.shared.enrolled st.shared.chan
            sound.keys;
        free = free-aged key after aged rules st.shared.free sound.free;
        selected = λ s i h. kept s i (sound.selected s i h);
        closings = λ s. closing-aged key after aged s (st.shared.gate s).shut (st.shared.closer s) (st.shared.entered s)
            (sound.closings s);
        looks = λ s. look-kept (st.selection s) (st.shared.turn s) (key s) (after s)
            (λ i q h.
            let both = and_parts (fits (key s i) q) (in_key_set (key s i)) h in
            and_from (fits (after s i) q) (in_key_set (after s i))
            (aged-fits (key s i) (after s i) (aged s i) q ∙ both.0) (kept s i both.1))
            (sound.looks s);
        bounds = λ s. bound-aged key after aged rules s (st.selection s) (st.shared.keys_high s) (sound.bounds s);
      };
      stays = stays-aged key after aged st.shared.entered st.shared.entered (λ s h. h);
    }
