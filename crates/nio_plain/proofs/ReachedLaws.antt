-- The laws of the states that scripts leave.
use Rattle.std.proofs.Common.{◌≡◌, ℕ, ◌==◌, true, false, not, nat_lt, Option, Some, None, ◌∷◌, ◌++◌, refl, sym}
use Rattle.std.proofs.Common.{ap, ◌∙◌, subst, arith, eq-eqb, eqb-true}
use Rattle.std.proofs.lemmas.Bool.{and_left, and_right, and_parts, and_from, or_right, both_ways, false_from_ne_true}
use Rattle.std.proofs.lemmas.Bool.{cond-false}
use Rattle.nio_base.specs.declared.limits.Limits.{Limits}
use Rattle.nio_base.specs.declared.numbers.CallerNo.{CallerNo}
use Rattle.nio_base.specs.declared.numbers.ChanId.{ChanId}
use Rattle.nio_base.specs.declared.numbers.ChanNo.{ChanNo}
use Rattle.nio_base.specs.declared.numbers.KeyId.{KeyId}
use Rattle.nio_base.specs.declared.numbers.SelNo.{SelNo}
use Rattle.nio_history.proofs.Put.{put-same, put_at-same}
use Rattle.nio_history.specs.Sets.{fits, fits_channel, in_key_set, is_in_key_set, is_open_channel, is_valid}
use Rattle.nio_history.specs.Sets.{is_valid_key, was_opened, was_published}
use Rattle.nio_history.specs.State.{State, put}
use Rattle.nio_history.specs.declared.found.Stage.{Stage}
use Rattle.nio_language.specs.declared.call.Call.{Call}
use Rattle.nio_language.specs.declared.call.Call.TheVariants as call
use Rattle.nio_language.specs.declared.call.ScriptCall.{ScriptCall}
use Rattle.nio_language.specs.declared.reply.Reply.TheVariants as reply
use Rattle.nio_plain.proofs.CallChanges as change
use Rattle.nio_plain.proofs.CallChanges.{Change, may_keep}
use Rattle.nio_plain.proofs.CallLawsCases.{change_of}
use Rattle.nio_plain.proofs.ReachedChannels.{in_set-registered}
use Rattle.nio_plain.proofs.ReachedLater.{IsLater, later_after, later_more, reached}
use Rattle.nio_plain.proofs.ReachedRegistering.{IsNext, next-is}
use Rattle.nio_plain.proofs.ReachedReopening.{makes_new_channels}
use Rattle.nio_plain.proofs.ReachedSound.{Sound, some_same, by_test}
use Rattle.nio_plain.proofs.Registered.{key_of-some, key_of-is, registered-key}
use Rattle.nio_plain.specs.Answer.{left_by_script}
use Rattle.nio_plain.specs.ReachedLaws.{AreWithinKeySet, ClosedChannelHasNoValidKey, ClosedSelectorIsEmpty, ClosedStays}
use Rattle.nio_plain.specs.ReachedLaws.{EmptiesClosed, FindsKeysOfChannels, FirstRulesFreeNone}
use Rattle.nio_plain.specs.ReachedLaws.{FirstRulesRemoveBelowTheBound, FreeIndexHasNoKey, HasKeysBelowHigh}
use Rattle.nio_plain.specs.ReachedLaws.{HasLookedInKeySet, HasNoKeyAtFree, HasNoValidKeyOfClosed, HasOneKeyOfAChannel}
use Rattle.nio_plain.specs.ReachedLaws.{HasRegisteredInKeySets, HasRegisteredNonBlocking, InvalidKeysStayInvalid}
use Rattle.nio_plain.specs.ReachedLaws.{IsEmptied, IsNewKey, KeepsClosed, KeepsInvalid, KeepsKinds, KeepsOpened}
use Rattle.nio_plain.specs.ReachedLaws.{KeepsPublished, KeyKeepsItsChannel, KeyOfAChannelIsFound, KeysAreBelowHigh}
use Rattle.nio_plain.specs.ReachedLaws.{KindStays, LookedAreInKeySet, MakesNewKeys, MakesOtherKeys, NewChannelIsNew}
use Rattle.nio_plain.specs.ReachedLaws.{NewKeyIsNew, NewKeysDiffer, OneKeyOfAChannel, OpenedStays, PublishedStays}
use Rattle.nio_plain.specs.ReachedLaws.{RegisteredIsInAKeySet, RegisteredIsNonBlocking, SetsAreWithinKeySet}
use Rattle.nio_plain.specs.ScriptState.{ScriptState}
use Rattle.nio_plain.specs.Seq.{call_of, seq}
use Rattle.nio_plain.specs.Seq.Replies.{Replied, unchanged}
use Rattle.nio_plain.specs.Seq.Modes.{has_key, if_in_key_set, key_of}
use Rattle.nio_plain.specs.Seq.Names.{key_at}
use Rattle.nio_plain.specs.Seq.Registering.{are_legal, given_or_none, new_stage, next_key, registered, registered_new}
use Rattle.nio_plain.specs.Seq.Registering.{register_call, with_new_key}
use Rattle.nio_plain.specs.declared.rules.Rules.{Rules}
use Rattle.nio_plain.specs.declared.rules.Rules.TheVariants.{First}

-- ---- what is true of every sound state

module _ (rules : Rules) (l : Limits) (st : ScriptState) (sound : Sound rules l st) where
  pub are_within_key_set : AreWithinKeySet st.shared
  are_within_key_set = record { cancelled = sound.keys.cancelled; selected = sound.selected }

  pub has_keys_below_high : HasKeysBelowHigh st.shared
  has_keys_below_high s i in_set = sound.keys.indexes.below s i (and_parts (st.shared.key s i).published _ in_set).0

  pub has_looked_in_key_set : HasLookedInKeySet st
  has_looked_in_key_set s selection k e looked = (sound.looks s).in_set selection e k looked

  pub has_no_key_at_free : HasNoKeyAtFree st.shared
  has_no_key_at_free s i free =
      let k = st.shared.key s i in
      let out = sound.free.out s i free in
      record {
        in_key_set = out;
        in_selected_set = and_left (in_key_set k) (st.shared.mark s i).selected out;
        in_cancelled_set = and_left (in_key_set k) k.cancelled out;
        valid = λ q. and_right (fits k q) (is_valid k) (and_left (in_key_set k) _ out);
      }

  pub finds_keys_of_channels : FindsKeysOfChannels st.shared
  finds_keys_of_channels c s k =
      let key = st.shared.key s k.index in
      let enrolments = sound.keys.enrolments in (
        λ e.
            let is = key_of-is st.shared c s k e in
            (is.1, enrolments.channel c s k is.0 is.1),
        λ h.
            let both = and_parts (fits key k.serial) _ h.0 in
            let serial : key.serial ≡ k.serial = eqb-true key.serial k.serial (and_parts key.claimed _ both.0).1 in
            key_of-some st.shared c s k
            ((ap (λ n. st.shared.enrolled n s) (sym h.1) ∙ enrolments.in_set s k.index both.1)
            ∙ (λ j. Some (record { index = k.index; serial = serial j }))) h.0,
      )

  pub has_one_key_of_a_channel : HasOneKeyOfAChannel st.shared
  has_one_key_of_a_channel s i j first second same =
      let enrolments = sound.keys.enrolments in
      ap (λ (k : KeyId). k.index)
      (some_same (key_at st.shared s i) (key_at st.shared s j)
      (sym (enrolments.in_set s i first)
      ∙ (ap (λ c. st.shared.enrolled c.0 s) same ∙ enrolments.in_set s j second)))

  pub has_registered_in_key_sets : HasRegisteredInKeySets l st.shared
  has_registered_in_key_sets c = (
    λ told.
        let both = and_parts (fits_channel (st.shared.chan c.number.0) c.serial) _ told in
        let key = registered-key l st.shared c.number.0 both.1 in
        let found = (finds_keys_of_channels c.number.0 key.0 key.1).0 key.2 in
        record {
          present = both.0;
          selector = key.0;
          index = key.1.index;
          of_channel = λ j. record { 0 = found.1 j };
          in_set = (and_parts (fits (st.shared.key key.0 key.1.index) key.1.serial) _ found.0).1;
        },
    λ key.
        and_from (fits_channel (st.shared.chan c.number.0) c.serial) (has_key l st.shared c.number.0) key.present
        (in_set-registered rules l st c.number.0 key.selector key.index sound key.in_set
        (ap (λ n. n.0) key.of_channel)),
  )

  pub has_registered_non_blocking : HasRegisteredNonBlocking st.shared
  has_registered_non_blocking c key =
      subst (λ (n : ChanNo). (st.shared.chan n.0).blocking ≡ false) key.of_channel
      (sound.keys.channels.non_blocking key.selector key.index key.in_set)

  pub has_no_valid_key_of_closed : HasNoValidKeyOfClosed st.shared
  has_no_valid_key_of_closed s i closed =
      let k = st.shared.key s i in
      false_from_ne_true (is_valid k)
      (λ valid. both_ways (st.shared.chan k.chan.0).closed (sound.keys.channels.is_open s i valid) closed)

-- ---- the first rules

pub first_rules_free_none : FirstRulesFreeNone
first_rules_free_none l calls s i = (reached First l calls).free.none refl s i

pub first_rules_remove_below_the_bound : FirstRulesRemoveBelowTheBound
first_rules_remove_below_the_bound l calls s selection i e cancelled =
    let st = left_by_script First l calls in
    let bound = (reached First l calls).bounds s in (
      λ looked. bound.below selection e (key_at st.shared s i) looked,
      λ low. bound.all refl selection e i low (and_parts (in_key_set (st.shared.key s i)) _ cancelled).0,
    )

-- ---- new keys

-- a call that answers with a key of a channel that had none made it: the key is the one that comes next
module _ (rules : Rules) (l : Limits) (st : ScriptState) (sound : Sound rules l st) where
  abbrev Made : ℕ → KeyId → Replied → Type 0
  Made s k a =
      a.reply ≡ reply.Key k → IsNext rules st s k × (is_valid_key (a.left.shared.key s k.index) k.serial ≡ true)

  new_is_valid : (s c ops note : ℕ) (k : KeyId)
      → is_valid_key ((with_new_key st.shared s c k ops note).key s k.index) k.serial ≡ true
  new_is_valid s c ops note k =
      ap (λ (x : Stage). is_valid_key x k.serial) (put_at-same st.shared.key s k.index (new_stage c k.serial))
      ∙ and_from (k.serial == k.serial) true (eq-eqb k.serial k.serial refl) refl

  made_new : (s c ops note : ℕ) (k : KeyId) (next : Option KeyId) → next_key l st.shared s ≡ next
      → Made s k (registered_new st s c ops note next)
  made_new s c ops note k None e h = absurd cc
  made_new s c ops note k (Some m) e h =
      let same : m ≡ k = cc in
      subst (λ (n : KeyId). IsNext rules st s n
      × (is_valid_key ((with_new_key st.shared s c m ops note).key s n.index) n.serial ≡ true)) same
      (next-is rules l st s sound m e, new_is_valid s c ops note m)

  made_registered : (s c ops : ℕ) (att : Option ℕ) (k : KeyId) → Made s k (registered l st s c ops att None)
  made_registered s c ops att k =
      by_test (Made s k) (st.shared.gate s).shut (unchanged st reply.ClosedSelector) _ (λ _ e. absurd cc)
      (λ _. made_new s c ops (given_or_none att) k (next_key l st.shared s) refl)

  made_by : (me : CallerNo) (s : SelNo) (c : ChanId) (ops : ℕ) (att : Option ℕ) (k : KeyId)
      → key_of st.shared c.number.0 s.0 ≡ None → Made s.0 k (seq rules l st me (call.Register s c ops att))
  unfolding seq call_of register_call
  made_by me s c ops att k none =
      by_test (Made s.0 k) (nat_lt me.0 l.callers) _ (unchanged st reply.NoCaller)
      (λ _. by_test (Made s.0 k) (st.shared.selector s.0) _ (unchanged st reply.NoSelector)
      (λ _. by_test (Made s.0 k) (was_opened (st.shared.chan c.number.0) c.serial) _ (unchanged st reply.NoChannel)
      (λ _. by_test (Made s.0 k) (not (are_legal (st.shared.chan c.number.0).kind ops)) (unchanged st reply.IllegalOps)
      _ (λ _ e. absurd cc)
      (λ _. by_test (Made s.0 k) (not (is_open_channel (st.shared.chan c.number.0) c.serial))
      (unchanged st reply.ClosedChannel) _ (λ _ e. absurd cc)
      (λ _. by_test (Made s.0 k) (st.shared.chan c.number.0).blocking (unchanged st reply.IllegalBlockingMode) _
      (λ _ e. absurd cc)
      (λ _. subst (λ (o : Option KeyId). Made s.0 k (registered l st s.0 c.number.0 ops att o)) (sym none)
      (made_registered s.0 c.number.0 ops att k)))))
      (λ _ e. absurd cc))
      (λ _ e. absurd cc))
      (λ _ e. absurd cc)

  made-is : (c : ScriptCall) (s : ℕ) (k : KeyId) → IsNewKey rules l st c s k
      → IsNext rules st s k
      × (is_valid_key ((seq rules l st c.caller c.call).left.shared.key s k.index) k.serial ≡ true)
  made-is c s k new =
      let none : key_of st.shared new.chan.number.0 new.name.0 ≡ None =
      ap (key_of st.shared new.chan.number.0) new.there
      ∙ new.none in
      let made = made_by c.caller new.name new.chan new.ops new.att k none
      (ap (λ w. (seq rules l st c.caller w).reply) (sym new.called) ∙ new.replied) in
      let there = subst
      (λ (n : ℕ). IsNext rules st n k
      × (is_valid_key
      ((seq rules l st c.caller (call.Register new.name new.chan new.ops new.att)).left.shared.key n
      k.index) k.serial ≡ true)) new.there made in
      subst (λ (w : Call). IsNext rules st s k
      × (is_valid_key ((seq rules l st c.caller w).left.shared.key s k.index) k.serial ≡ true))
      (sym new.called) there

not_yet : (rules : Rules) (st : ScriptState) (s : ℕ) (k : KeyId) → IsNext rules st s k
    → was_published (st.shared.key s k.index) k.serial ≡ false
not_yet rules st s k next =
    false_from_ne_true (was_published (st.shared.key s k.index) k.serial)
    (λ h. let less = next.older k.serial h in absurd (omega arith))

pub makes_new_keys : (rules : Rules) (l : Limits) (st : ScriptState) → Sound rules l st → MakesNewKeys rules l st
makes_new_keys rules l st sound c s k new =
    let made = made-is rules l st sound c s k new in
    (not_yet rules st s k made.0, made.1)

-- a valid key was published
valid-published : (k : Stage) (q : ℕ) → is_valid_key k q ≡ true → was_published k q ≡ true
valid-published k q h =
    let both = and_parts (fits k q) (is_valid k) h in
    let published = (and_parts k.published _ (and_parts (in_key_set k) _ both.1).0).0 in
    or_right (nat_lt q k.serial) _ (and_from (fits k q) k.published both.0 published)

pub makes_other_keys : (rules : Rules) (l : Limits) (before after : ScriptState) (first : ScriptCall)
    → Sound rules l before → IsLater rules l (seq rules l before first.caller first.call).left after
    → MakesOtherKeys rules l before first after
makes_other_keys rules l before after first sound later second s k m new then same =
    let made = made-is rules l before sound first s k new in
    let done = (seq rules l before first.caller first.call).left in
    let was = valid-published (done.shared.key s k.index) k.serial made.1 in
    let still = later.stays.published s k.index k.serial was in
    let next = made-is rules l after later.sound second s m then in
    both_ways (was_published (after.shared.key s m.index) m.serial) (not_yet rules after s m next.0)
    (subst (λ (n : KeyId). was_published (after.shared.key s n.index) n.serial ≡ true) same still)

-- ---- a closed selector

-- the answer Closed comes only where the closing has ended
closed-ended : {rules : Rules} {l : Limits} {st : ScriptState} {me : CallerNo} {c : Call} {done : Replied} (s : SelNo)
    → Change rules l st me c done → c ≡ call.CloseEnd s → done.reply ≡ reply.Closed
    → done.left.shared.entered s.0 ≡ true
closed-ended s (change.nothing c r keeps) is closed = absurd (both_ways (may_keep c r) (ap (may_keep c) closed) keeps)
closed-ended {st = st} s (change.close_end t _ _) is closed =
    let same : t ≡ s = cc in
    subst (λ (n : SelNo). put st.shared.entered t.0 true n.0 ≡ true) same (put-same st.shared.entered t.0 true)
closed-ended s _ is closed = absurd cc

emptied : (st : State) (s : ℕ) → ((i : ℕ) → in_key_set (st.key s i) ≡ false) → IsEmptied st s
emptied st s no_key = record {
  no_key = no_key;
  no_valid_key = λ i. and_left (in_key_set (st.key s i)) _ (no_key i);
  no_channel = λ c. none (st.enrolled c s);
}
  where
    none : (o : Option KeyId) → if_in_key_set st s o ≡ None
    none None = refl
    none (Some k) =
        cond-false (is_in_key_set (st.key s k.index) k.serial) (Some k) None
        (and_right (fits (st.key s k.index) k.serial) (in_key_set (st.key s k.index)) (no_key k.index))

pub empties_closed : (rules : Rules) (l : Limits) (before after : ScriptState) (me : CallerNo) (s : SelNo)
    → IsLater rules l (seq rules l before me (call.CloseEnd s)).left after → EmptiesClosed rules l before me s after
empties_closed rules l before after me s later closed =
    emptied after.shared s.0
    ((later.sound.closings s.0).entered_empty
    (later.stays.closed s.0 (closed-ended s (change_of rules l before me (call.CloseEnd s)) refl closed)))

-- ---- what is true of every later state

module _ (rules : Rules) (l : Limits) (before after : ScriptState) (later : IsLater rules l before after) where
  pub keeps_published : KeepsPublished before.shared after.shared
  keeps_published s k = later.stays.published s k.index k.serial

  pub keeps_invalid : KeepsInvalid before.shared after.shared
  keeps_invalid s k published invalid =
      (later.stays.invalid s k.index k.serial (record { published = published; invalid = invalid })).invalid

  pub keeps_opened : KeepsOpened before.shared after.shared
  keeps_opened c = (later.lasts c.number.0).opened c.serial

  pub keeps_closed : KeepsClosed before.shared after.shared
  keeps_closed c = (later.lasts c.number.0).closed c.serial

  pub keeps_kinds : KeepsKinds before.shared after.shared
  keeps_kinds c = (later.lasts c).kind

-- ---- the laws of one state

pub sets_are_within_key_set : SetsAreWithinKeySet
sets_are_within_key_set rules l calls = are_within_key_set rules l (left_by_script rules l calls) (reached rules l calls)

pub keys_are_below_high : KeysAreBelowHigh
keys_are_below_high rules l calls = has_keys_below_high rules l (left_by_script rules l calls) (reached rules l calls)

pub looked_are_in_key_set : LookedAreInKeySet
looked_are_in_key_set rules l calls =
    has_looked_in_key_set rules l (left_by_script rules l calls) (reached rules l calls)

pub free_index_has_no_key : FreeIndexHasNoKey
free_index_has_no_key rules l calls = has_no_key_at_free rules l (left_by_script rules l calls) (reached rules l calls)

pub new_key_is_new : NewKeyIsNew
new_key_is_new rules l calls = makes_new_keys rules l (left_by_script rules l calls) (reached rules l calls)

pub new_channel_is_new : NewChannelIsNew
new_channel_is_new rules l calls = makes_new_channels rules l (left_by_script rules l calls) (reached rules l calls)

pub key_of_a_channel_is_found : KeyOfAChannelIsFound
key_of_a_channel_is_found rules l calls =
    finds_keys_of_channels rules l (left_by_script rules l calls) (reached rules l calls)

pub one_key_of_a_channel : OneKeyOfAChannel
one_key_of_a_channel rules l calls =
    has_one_key_of_a_channel rules l (left_by_script rules l calls) (reached rules l calls)

pub registered_is_in_a_key_set : RegisteredIsInAKeySet
registered_is_in_a_key_set rules l calls =
    has_registered_in_key_sets rules l (left_by_script rules l calls) (reached rules l calls)

pub registered_is_non_blocking : RegisteredIsNonBlocking
registered_is_non_blocking rules l calls =
    has_registered_non_blocking rules l (left_by_script rules l calls) (reached rules l calls)

pub closed_channel_has_no_valid_key : ClosedChannelHasNoValidKey
closed_channel_has_no_valid_key rules l calls =
    has_no_valid_key_of_closed rules l (left_by_script rules l calls) (reached rules l calls)

-- ---- the laws of an earlier and a later state

pub published_stays : PublishedStays
published_stays rules l calls more =
    keeps_published rules l (left_by_script rules l calls) (left_by_script rules l (calls ++ more))
    (later_more rules l calls more)

pub invalid_keys_stay_invalid : InvalidKeysStayInvalid
invalid_keys_stay_invalid rules l calls more =
    keeps_invalid rules l (left_by_script rules l calls) (left_by_script rules l (calls ++ more))
    (later_more rules l calls more)

pub new_keys_differ : NewKeysDiffer
new_keys_differ rules l calls more first =
    makes_other_keys rules l (left_by_script rules l calls) (left_by_script rules l (calls ++ first ∷ more)) first
    (reached rules l calls) (later_after rules l calls more first)

pub opened_stays : OpenedStays
opened_stays rules l calls more =
    keeps_opened rules l (left_by_script rules l calls) (left_by_script rules l (calls ++ more))
    (later_more rules l calls more)

pub closed_stays : ClosedStays
closed_stays rules l calls more =
    keeps_closed rules l (left_by_script rules l calls) (left_by_script rules l (calls ++ more))
    (later_more rules l calls more)

pub kind_stays : KindStays
kind_stays rules l calls more =
    keeps_kinds rules l (left_by_script rules l calls) (left_by_script rules l (calls ++ more))
    (later_more rules l calls more)

pub key_keeps_its_channel : KeyKeepsItsChannel
key_keeps_its_channel rules l calls more = (later_more rules l calls more).keys

pub closed_selector_is_empty : ClosedSelectorIsEmpty
closed_selector_is_empty rules l calls more me s =
    let c : ScriptCall = record { caller = me; call = call.CloseEnd s } in
    empties_closed rules l (left_by_script rules l calls) (left_by_script rules l (calls ++ c ∷ more)) me s
    (later_after rules l calls more c)
