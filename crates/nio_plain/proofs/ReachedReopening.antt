-- What stays of channels, whatever is called, and what is true of a new one.
use Rattle.std.proofs.Common.{◌≡◌, ℕ, ◌==◌, ◌<◌, nat_lt, Bool, true, false, not, ◌&&◌, ⊎_elim, Some, List, [], ◌∷◌}
use Rattle.std.proofs.Common.{refl, sym, ap, ◌∙◌, subst, arith, eq-eqb}
use Rattle.std.proofs.lemmas.Bool.{and_from, and_parts, both_ways, eqb-true, false_from_ne_true, le-ltb, lt-ltb}
use Rattle.std.proofs.lemmas.Bool.{ltb-true, or_cases, or_left, or_right}
use Rattle.nio_base.specs.declared.kind.Kind.{Kind}
use Rattle.nio_base.specs.declared.kind.Kind.TheVariants.{Source, Sink}
use Rattle.nio_base.specs.declared.limits.Limits.{Limits}
use Rattle.nio_base.specs.declared.numbers.CallerNo.{CallerNo}
use Rattle.nio_base.specs.declared.numbers.ChanId.{ChanId}
use Rattle.nio_history.proofs.Put.{put-same, put_keeps}
use Rattle.nio_history.specs.Acts.{new_channel}
use Rattle.nio_history.specs.Sets.{fits_channel, in_key_set, is_open_channel, was_closed, was_opened}
use Rattle.nio_history.specs.State.{State, put}
use Rattle.nio_history.specs.declared.found.Chan.{Chan}
use Rattle.nio_history.specs.declared.found.Stage.{Stage}
use Rattle.nio_language.specs.declared.call.Call.{Call}
use Rattle.nio_language.specs.declared.call.Call.TheVariants as call
use Rattle.nio_language.specs.declared.call.ScriptCall.{ScriptCall}
use Rattle.nio_language.specs.declared.reply.Reply.TheVariants as reply
use Rattle.nio_plain.proofs.CallChanges as change
use Rattle.nio_plain.proofs.CallChanges.{Change, may_keep}
use Rattle.nio_plain.proofs.CallLawsCases.{change_of}
use Rattle.nio_plain.proofs.ReachedCalls.{keeps_call}
use Rattle.nio_plain.proofs.ReachedChannels.{IsNextChannel}
use Rattle.nio_plain.proofs.ReachedPipes.{keeps_made, next_channel-is}
use Rattle.nio_plain.proofs.ReachedSound.{Sound, sound-opening}
use Rattle.nio_plain.specs.Answer.{left_from}
use Rattle.nio_plain.specs.ReachedLaws.{FirstRulesReopenNone, IsNew, IsNewChannel, MakesNewChannels, alone, as_sink}
use Rattle.nio_plain.specs.ReachedLaws.{as_source}
use Rattle.nio_plain.specs.ScriptState.{ScriptState, script_opening}
use Rattle.nio_plain.specs.Seq.{seq}
use Rattle.nio_plain.specs.Seq.Opening.{channel_made, next_channel, with_new_channel}
use Rattle.nio_plain.specs.Seq.Replies.{Replied}
use Rattle.nio_plain.specs.declared.rules.Rules.{Rules}
use Rattle.nio_plain.specs.declared.rules.Rules.TheVariants.{First}

-- ---- what stays of a number's channel

-- what was opened and closed stays so, and a number that is made keeps its kind
pub record Lasts (x after : Chan) : Type 0 where
  pub opened : (q : ℕ) → was_opened x q ≡ true → was_opened after q ≡ true
  pub closed : (q : ℕ) → was_closed x q ≡ true → was_closed after q ≡ true
  pub made : x.made ≡ true → after.made ≡ true
  pub kind : x.made ≡ true → after.kind ≡ x.kind

pub lasts_same : (x : Chan) → Lasts x x
lasts_same x = record { opened = λ q h. h; closed = λ q h. h; made = λ h. h; kind = λ h. refl }

pub lasts_then : (x y z : Chan) → Lasts x y → Lasts y z → Lasts x z
lasts_then x y z first second = record {
  opened = λ q h. second.opened q (first.opened q h);
  closed = λ q h. second.closed q (first.closed q h);
  made = λ h. second.made (first.made h);
  kind = λ h. second.kind (first.made h) ∙ first.kind h;
}

lasts_closed : (x : Chan) → Lasts x (record x { closed = true })
lasts_closed x = record {
  opened = λ q h. h;
  closed = λ q h. ⊎_elim
      (λ (l : nat_lt q x.serial ≡ true). or_left (nat_lt q x.serial) _ l)
      (λ (f : (fits_channel x q && x.closed) ≡ true). or_right (nat_lt q x.serial) _
      (and_from (fits_channel x q) true (and_parts (fits_channel x q) x.closed f).0 refl))
      (or_cases (nat_lt q x.serial) (fits_channel x q && x.closed) h);
  made = λ h. h;
  kind = λ h. refl;
}

-- a channel that was closed was opened
closed_opened : (x : Chan) (q : ℕ) → (x.made ≡ false → x.serial ≡ 0) → was_closed x q ≡ true → was_opened x q ≡ true
closed_opened x q fresh h = by_made x.made refl
  where
    by_made : (m : Bool) → x.made ≡ m → was_opened x q ≡ true
    by_made true made =
        ⊎_elim
        (λ (l : nat_lt q x.serial ≡ true).
        let less : q < x.serial = ltb-true q x.serial l in
        and_from x.made _ made (ap not (le-ltb x.serial q (omega arith))))
        (λ (f : (fits_channel x q && x.closed) ≡ true).
        let same : x.serial ≡ q = eqb-true x.serial q
        (and_parts x.made (x.serial == q) (and_parts (fits_channel x q) x.closed f).0).1 in
        and_from x.made _ made (ap not (le-ltb x.serial q (omega arith))))
        (or_cases (nat_lt q x.serial) (fits_channel x q && x.closed) h)
    by_made false unmade =
        ⊎_elim
        (λ (l : nat_lt q x.serial ≡ true).
        let less : q < x.serial = ltb-true q x.serial l in
        let none : x.serial ≡ 0 = fresh unmade in
        absurd (omega arith))
        (λ (f : (fits_channel x q && x.closed) ≡ true). absurd (both_ways x.made unmade
        (and_parts x.made (x.serial == q) (and_parts (fits_channel x q) x.closed f).0).0))
        (or_cases (nat_lt q x.serial) (fits_channel x q && x.closed) h)

lasts_new : (rules : Rules) (st : State) (kind : Kind) (c : ChanId) → IsNextChannel rules st kind c
    → ((st.chan c.number.0).made ≡ false → (st.chan c.number.0).serial ≡ 0)
    → Lasts (st.chan c.number.0) (new_channel kind c.serial)
lasts_new rules st kind c next fresh =
    let x = st.chan c.number.0 in
    record {
      opened = λ q h. let less = next.older q h in ap not (le-ltb c.serial q (omega (arith, less)));
      closed = λ q h. or_left (nat_lt q c.serial) _ (lt-ltb q c.serial (next.older q (closed_opened x q fresh h)));
      made = λ h. refl;
      kind = λ h. sym (next.kind_same h);
    }

-- ---- what stays of all channels

-- a number with a key in a key set keeps its channel; by the first rules no number gets a second one
pub record ChannelsStay (rules : Rules) (key : ℕ → ℕ → Stage) (chan after : ℕ → Chan) : Type 0 where
  pub lasts : (c : ℕ) → Lasts (chan c) (after c)
  pub serial : (s i : ℕ) → in_key_set (key s i) ≡ true
      → (after (key s i).chan.0).serial ≡ (chan (key s i).chan.0).serial
  pub first : rules ≡ First → (c : ℕ) → (chan c).serial ≡ 0 → (after c).serial ≡ 0

channels_same : (rules : Rules) (key : ℕ → ℕ → Stage) (chan : ℕ → Chan) → ChannelsStay rules key chan chan
channels_same rules key chan = record {
  lasts = λ c. lasts_same (chan c);
  serial = λ s i h. refl;
  first = λ e c h. h;
}

channels_then : (rules : Rules) (key : ℕ → ℕ → Stage) (a b c : ℕ → Chan) → ChannelsStay rules key a b
    → ChannelsStay rules key b c → ChannelsStay rules key a c
channels_then rules key a b c one two = record {
  lasts = λ n. lasts_then (a n) (b n) (c n) (one.lasts n) (two.lasts n);
  serial = λ s i h. two.serial s i h ∙ one.serial s i h;
  first = λ e n h. two.first e n (one.first e n h);
}

-- one number's channel is changed
channels_put : (rules : Rules) (key : ℕ → ℕ → Stage) (chan : ℕ → Chan) (c : ℕ) (new : Chan) → Lasts (chan c) new
    → ((s i : ℕ) → in_key_set (key s i) ≡ true → (key s i).chan.0 ≡ c → new.serial ≡ (chan c).serial)
    → (rules ≡ First → (chan c).serial ≡ 0 → new.serial ≡ 0) → ChannelsStay rules key chan (put chan c new)
channels_put rules key chan c new lasts serial first = record {
  lasts = λ n. put_keeps (λ m x. Lasts (chan m) x) chan c new (λ _. lasts) n (lasts_same (chan n));
  serial = λ s i h.
      put_keeps (λ m (x : Chan). m ≡ (key s i).chan.0 → x.serial ≡ (chan m).serial) chan c new
      (λ _ e. serial s i h (sym e)) (key s i).chan.0 (λ _. refl) refl;
  first = λ e n. put_keeps (λ m (x : Chan). (chan m).serial ≡ 0 → x.serial ≡ 0) chan c new (λ _. first e) n (λ h. h);
}

module _ (rules : Rules) (l : Limits) where
  -- a number gets its next channel
  pub channels_next : (st : ScriptState) (kind : Kind) (c : ChanId) → IsNextChannel rules st.shared kind c
      → Sound rules l st
      → ChannelsStay rules st.shared.key st.shared.chan (with_new_channel st.shared kind c).chan
  channels_next st kind c next sound =
      channels_put rules st.shared.key st.shared.chan c.number.0 (new_channel kind c.serial)
      (lasts_new rules st.shared kind c next (sound.keys.channels.fresh c.number.0))
      (λ s i h of_channel. absurd (next.no_key s i h of_channel)) (λ e _. next.first e)

  pub channels_made : (st : ScriptState) (kind : Kind) (c : ChanId) → next_channel rules l st.shared kind ≡ Some c
      → Sound rules l st
      → ChannelsStay rules st.shared.key st.shared.chan (with_new_channel st.shared kind c).chan
  channels_made st kind c is sound = channels_next st kind c (next_channel-is rules l st sound kind c is) sound

  channels_closed : (key : ℕ → ℕ → Stage) (chan : ℕ → Chan) (c : ℕ)
      → ChannelsStay rules key chan (put chan c (record (chan c) { closed = true }))
  channels_closed key chan c =
      channels_put rules key chan c (record (chan c) { closed = true }) (lasts_closed (chan c)) (λ s i h e. refl)
      (λ e h. h)

  module _ (st : ScriptState) (me : CallerNo) (sound : Sound rules l st) where
    channels_change : {c : Call} {done : Replied} → Change rules l st me c done
        → ChannelsStay rules st.shared.key st.shared.chan done.left.shared.chan
    channels_change (change.channel kind c is) = channels_made st kind c is sound
    channels_change (change.blocking c on _ _) =
        let x = st.shared.chan c.number.0 in
        channels_put rules st.shared.key st.shared.chan c.number.0 (record x { blocking = on })
        (record { opened = λ q h. h; closed = λ q h. h; made = λ h. h; kind = λ h. refl }) (λ s i h e. refl) (λ e h. h)
    channels_change (change.closec c _) = channels_closed st.shared.key st.shared.chan c.number.0
    channels_change (change.pipe target source sink _ is then_is) =
        let made = (channel_made st Source (Some source)).left in
        let second = channels_made made Sink sink then_is (keeps_made rules l st Source source is sound).sound in
        channels_then rules st.shared.key st.shared.chan made.shared.chan (with_new_channel made.shared Sink sink).chan
        (channels_made st Source source is sound) second
    channels_change (change.pipe_spent target source is) =
        let made = (channel_made st Source (Some source)).left.shared.chan in
        let n = source.number.0 in
        channels_then rules st.shared.key st.shared.chan made (put made n (record (made n) { closed = true }))
        (channels_made st Source source is sound) (channels_closed st.shared.key made n)
    channels_change (change.pread_interrupted c n _) = channels_closed st.shared.key st.shared.chan c.number.0
    channels_change (change.pwrite_interrupted c bytes i _ _) =
        channels_closed st.shared.key st.shared.chan c.number.0
    -- the others change no channel
    channels_change _ = channels_same rules st.shared.key st.shared.chan

    pub channels_call : (word : Call)
        → ChannelsStay rules st.shared.key st.shared.chan (seq rules l st me word).left.shared.chan
    channels_call word = channels_change (change_of rules l st me word)

  -- over lists of calls, by the first rules
  first_left : rules ≡ First → (calls : List ScriptCall) (st : ScriptState) → Sound rules l st
      → ((c : ℕ) → (st.shared.chan c).serial ≡ 0) → (c : ℕ) → ((left_from rules l st calls).shared.chan c).serial ≡ 0
  first_left e [] st sound none c = none c
  first_left e (w ∷ calls) st sound none c =
      first_left e calls (seq rules l st w.caller w.call).left (keeps_call rules l st w.caller sound w.call).sound
      (λ n. (channels_call st w.caller sound w.call).first e n (none n)) c

pub first_rules_reopen_none : FirstRulesReopenNone
first_rules_reopen_none l calls c =
    first_left First l refl calls script_opening (sound-opening First l) (λ _. refl) c

-- ---- a new channel

new_is_open : (x : Chan) (kind : Kind) (serial : ℕ) → x ≡ new_channel kind serial
    → (is_open_channel x serial ≡ true) × (x.blocking ≡ true)
new_is_open x kind serial e = (
  ap (λ (y : Chan). is_open_channel y serial) e
      ∙ and_from (serial == serial) true (eq-eqb serial serial refl) refl,
  ap (λ (y : Chan). y.blocking) e,
)

module _ (rules : Rules) (l : Limits) where
  not_yet_opened : (st : ScriptState) (kind : Kind) (c : ChanId) → IsNextChannel rules st.shared kind c
      → was_opened (st.shared.chan c.number.0) c.serial ≡ false
  not_yet_opened st kind c next =
      false_from_ne_true (was_opened (st.shared.chan c.number.0) c.serial)
      (λ h. let less = next.older c.serial h in absurd (omega (arith, less)))

  pub next_is_new : (st : ScriptState) (kind : Kind) (c : ChanId) → IsNextChannel rules st.shared kind c
      → IsNew st.shared (with_new_channel st.shared kind c) c
  next_is_new st kind c next =
      let there = new_is_open _ kind c.serial
      (put-same st.shared.chan c.number.0 (new_channel kind c.serial)) in
      record {
        not_yet = not_yet_opened st kind c next;
        is_open = there.0;
        blocking = there.1;
        no_key = λ s i h e. next.no_key s i h (ap (λ n. n.0) e);
      }

  module _ (st : ScriptState) (sound : Sound rules l st) where
    pub made_is_new : (kind : Kind) (c : ChanId) → next_channel rules l st.shared kind ≡ Some c
        → IsNew st.shared (with_new_channel st.shared kind c) c
    made_is_new kind c is = next_is_new st kind c (next_channel-is rules l st sound kind c is)

    module _ (source sink : ChanId) (is : next_channel rules l st.shared Source ≡ Some source)
        (then_is : next_channel rules l (with_new_channel st.shared Source source) Sink ≡ Some sink) where
      abbrev made : ScriptState
      made = (channel_made st Source (Some source)).left

      sound_made : Sound rules l made
      sound_made = (keeps_made rules l st Source source is sound).sound

      next_sink : IsNextChannel rules made.shared Sink sink
      next_sink = next_channel-is rules l made sound_made Sink sink then_is

      -- the source's number is made, of another kind than the sink
      other_number : source.number.0 ≡ sink.number.0 → ⊥
      other_number e =
          let x = made.shared.chan sink.number.0 in
          let is_source : x ≡ new_channel Source source.serial =
          ap (λ (n : ℕ). made.shared.chan n) (sym e)
          ∙ put-same st.shared.chan source.number.0 (new_channel Source source.serial) in
          let kinds : Source ≡ Sink =
          sym (ap (λ (y : Chan). y.kind) is_source)
          ∙ next_sink.kind_same (ap (λ (y : Chan). y.made) is_source) in
          cc kinds

      source_is_new : IsNew st.shared (with_new_channel made.shared Sink sink) source
      source_is_new =
          let new = made_is_new Source source is in
          let there = new_is_open _ Source source.serial
          (put_keeps (λ n (x : Chan). n ≡ source.number.0 → x ≡ new_channel Source source.serial) made.shared.chan
          sink.number.0 (new_channel Sink sink.serial) (λ _ e. absurd (other_number (sym e))) source.number.0
          (λ _. put-same st.shared.chan source.number.0 (new_channel Source source.serial)) refl) in
          record { not_yet = new.not_yet; is_open = there.0; blocking = there.1; no_key = new.no_key }

      sink_is_new : IsNew st.shared (with_new_channel made.shared Sink sink) sink
      sink_is_new =
          let there = new_is_open _ Sink sink.serial
          (put-same made.shared.chan sink.number.0 (new_channel Sink sink.serial)) in
          record {
            not_yet = false_from_ne_true (was_opened (st.shared.chan sink.number.0) sink.serial) (λ h.
                both_ways (was_opened (made.shared.chan sink.number.0) sink.serial)
                (not_yet_opened made Sink sink next_sink)
                (((channels_made rules l st Source source is sound).lasts sink.number.0).opened sink.serial h));
            is_open = there.0;
            blocking = there.1;
            no_key = λ s i h e. next_sink.no_key s i h (ap (λ n. n.0) e);
          }

    module _ (me : CallerNo) where
      of_alone : {c : Call} {done : Replied} (kind : Kind) (new : ChanId) → Change rules l st me c done
          → c ≡ call.Channel kind → done.reply ≡ reply.Channel new → IsNew st.shared done.left.shared new
      of_alone kind new (change.nothing c r keeps) is said =
          absurd (both_ways (may_keep c r) (ap (may_keep c) said) keeps)
      of_alone kind new (change.channel own c found) is said =
          let same : c ≡ new = cc in
          subst (λ (n : ChanId). IsNew st.shared (with_new_channel st.shared own c) n) same
          (made_is_new own c found)
      of_alone kind new _ is said = absurd cc

      of_source : {c : Call} {done : Replied} (target : CallerNo) (new sink : ChanId) → Change rules l st me c done
          → c ≡ call.Pipe target → done.reply ≡ reply.Ends new sink → IsNew st.shared done.left.shared new
      of_source target new sink (change.nothing c r keeps) is said =
          absurd (both_ways (may_keep c r) (ap (may_keep c) said) keeps)
      of_source target new sink (change.pipe _ a b _ found further) is said =
          let same : a ≡ new = cc in
          subst (IsNew st.shared (with_new_channel (channel_made st Source (Some a)).left.shared Sink b)) same
          (source_is_new a b found further)
      of_source target new sink _ is said = absurd cc

      of_sink : {c : Call} {done : Replied} (target : CallerNo) (source new : ChanId) → Change rules l st me c done
          → c ≡ call.Pipe target → done.reply ≡ reply.Ends source new → IsNew st.shared done.left.shared new
      of_sink target source new (change.nothing c r keeps) is said =
          absurd (both_ways (may_keep c r) (ap (may_keep c) said) keeps)
      of_sink target source new (change.pipe _ a b _ found further) is said =
          let same : b ≡ new = cc in
          subst (IsNew st.shared (with_new_channel (channel_made st Source (Some a)).left.shared Sink b)) same
          (sink_is_new a b found further)
      of_sink target source new _ is said = absurd cc

      of_new : (c : Call) (new : ChanId) → IsNewChannel c (seq rules l st me c).reply new
          → IsNew st.shared (seq rules l st me c).left.shared new
      of_new c new (alone kind called said) = of_alone kind new (change_of rules l st me c) called said
      of_new c new (as_source target sink called said) =
          of_source target new sink (change_of rules l st me c) called said
      of_new c new (as_sink target source called said) =
          of_sink target source new (change_of rules l st me c) called said

    pub makes_new_channels : MakesNewChannels rules l st
    makes_new_channels c new opened = of_new c.caller c.call new opened
