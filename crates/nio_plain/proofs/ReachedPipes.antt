-- The channel that is opened next, and what opening channels and pipes keeps.
use Rattle.std.proofs.Common.{◌≡◌, ℕ, ◌<◌, suc, nat_lt, true, false, not, ◌&&◌, Option, Some, None, refl}
use Rattle.std.proofs.Common.{subst, arith}
use Rattle.std.proofs.lemmas.Bool.{and_parts, both_ways, ltb-false, ltb-true, not-true}
use Rattle.nio_base.specs.Kind.{is_same_kind}
use Rattle.nio_base.specs.declared.kind.Kind.{Kind}
use Rattle.nio_base.specs.declared.kind.Kind.TheVariants.{Sink, Source}
use Rattle.nio_base.specs.declared.limits.Limits.{Limits}
use Rattle.nio_base.specs.declared.numbers.CallerNo.{CallerNo}
use Rattle.nio_base.specs.declared.numbers.ChanId.{ChanId}
use Rattle.nio_history.proofs.ChannelChanges.{same_kind}
use Rattle.nio_history.specs.Sets.{can_reopen, was_opened}
use Rattle.nio_base.specs.Numbers.{last_serial}
use Rattle.nio_history.specs.declared.found.Chan.{Chan}
use Rattle.nio_language.specs.declared.reply.Reply.TheVariants as reply
use Rattle.nio_plain.proofs.Found.{found_below}
use Rattle.nio_plain.proofs.ReachedChannels.{IsNextChannel, in_set-registered, keeps_channel, keeps_closed_channel}
use Rattle.nio_plain.proofs.ReachedSound.{Keeps, Sound, some_same, stays_then}
use Rattle.nio_plain.specs.ScriptState.{ScriptState}
use Rattle.nio_plain.specs.Seq.Replies.{replied}
use Rattle.nio_plain.specs.Seq.Cancelling.{channel_closed}
use Rattle.nio_plain.specs.Seq.Modes.{has_key}
use Rattle.nio_plain.specs.Seq.Opening.{channel_after, channel_made, next_by, next_channel, number_comes_back}
use Rattle.nio_plain.specs.Seq.Opening.{returning_number, unmade_number, with_new_channel}
use Rattle.nio_plain.specs.Seq.Piping.{with_sink}
use Rattle.nio_plain.specs.declared.rules.Rules.{Rules}
use Rattle.nio_plain.specs.declared.rules.Rules.TheVariants.{First, Now}

opened-older : (x : Chan) (q : ℕ) → was_opened x q ≡ true → q < suc x.serial
opened-older x q h =
    let not_before = ltb-false x.serial q (not-true (nat_lt x.serial q) (and_parts x.made _ h).1) in
    omega (arith, not_before)

-- a number that comes back is made, and its serial isn't the last
pub comes_back-parts : (rules : Rules) (l : Limits) (st : ScriptState) (kind : Kind) (n : ℕ)
    → number_comes_back rules l st.shared kind n ≡ true
    → ((st.shared.chan n).made ≡ true) × ((st.shared.chan n).serial < last_serial)
comes_back-parts First l st kind n comes = absurd (both_ways false refl comes)
comes_back-parts Now l st kind n comes =
    let x = st.shared.chan n in
    let both = and_parts (can_reopen x && is_same_kind x.kind kind) (not (has_key l st.shared n)) comes in
    let parts = and_parts (x.made && x.closed) (nat_lt x.serial last_serial) (and_parts (can_reopen x) _ both.0).0 in
    ((and_parts x.made x.closed parts.0).0, ltb-true x.serial last_serial parts.1)

-- a number that comes back
pub returning-is : (rules : Rules) (l : Limits) (st : ScriptState) → Sound rules l st → (kind : Kind) (n : ℕ)
    → number_comes_back rules l st.shared kind n ≡ true
    → IsNextChannel rules st.shared kind
    (record { number = record { 0 = n }; serial = suc (st.shared.chan n).serial })
returning-is First l st sound kind n comes = absurd (both_ways false refl comes)
returning-is Now l st sound kind n comes =
    let x = st.shared.chan n in
    let both = and_parts (can_reopen x && is_same_kind x.kind kind) (not (has_key l st.shared n)) comes in
    record {
      older = opened-older x;
      kind_same = λ _. same_kind x.kind kind (and_parts (can_reopen x) _ both.0).1;
      no_key = λ s i in_set of_channel.
          both_ways (has_key l st.shared n) (not-true (has_key l st.shared n) both.1)
          (in_set-registered Now l st n s i sound in_set of_channel);
      first = λ e. absurd cc;
    }

module _ (rules : Rules) (l : Limits) (st : ScriptState) (sound : Sound rules l st) (kind : Kind) where
  -- a number that isn't made has no key
  unmade-is : (n : ℕ) → (st.shared.chan n).made ≡ false
      → IsNextChannel rules st.shared kind (record { number = record { 0 = n }; serial = 0 })
  unmade-is n unmade = record {
    older = λ q h. absurd (both_ways (st.shared.chan n).made unmade (and_parts (st.shared.chan n).made _ h).0);
    kind_same = λ made. absurd (both_ways (st.shared.chan n).made unmade made);
    no_key = λ s i in_set of_channel.
        both_ways (st.shared.chan n).made unmade
        (subst (λ (m : ℕ). (st.shared.chan m).made ≡ true) of_channel
        (sound.keys.channels.made s i (and_parts (st.shared.key s i).published _ in_set).0));
    first = λ _. refl;
  }

  of_after : (o : Option ℕ) → returning_number rules l st.shared kind ≡ o → (c : ChanId)
      → channel_after st.shared o ≡ Some c → IsNextChannel rules st.shared kind c
  of_after None e c now = absurd cc
  of_after (Some n) e c now =
      subst (IsNextChannel rules st.shared kind)
      (some_same (record { number = record { 0 = n }; serial = suc (st.shared.chan n).serial }) c now)
      (returning-is rules l st sound kind n (found_below (number_comes_back rules l st.shared kind) l.channels n e).0)

  of_next : (o : Option ℕ) → unmade_number l st.shared ≡ o → (c : ChanId) → next_by rules l st.shared kind o ≡ Some c
      → IsNextChannel rules st.shared kind c
  of_next None e c now = of_after (returning_number rules l st.shared kind) refl c now
  of_next (Some n) e c now =
      subst (IsNextChannel rules st.shared kind) (some_same (record { number = record { 0 = n }; serial = 0 }) c now)
      (unmade-is n
      (not-true (st.shared.chan n).made (found_below (λ m. not (st.shared.chan m).made) l.channels n e).0))

  pub next_channel-is : (c : ChanId) → next_channel rules l st.shared kind ≡ Some c
      → IsNextChannel rules st.shared kind c
  next_channel-is c e = of_next (unmade_number l st.shared) refl c e

module _ (rules : Rules) (l : Limits) where
  -- a channel is opened
  pub keeps_made : (st : ScriptState) (kind : Kind) (c : ChanId) → next_channel rules l st.shared kind ≡ Some c
      → Sound rules l st → Keeps rules l st (channel_made st kind (Some c))
  keeps_made st kind c is sound =
      keeps_channel rules l st (reply.Channel c) kind c (next_channel-is rules l st sound kind c is) sound

  pub keeps_pipe : (st : ScriptState) (me target : CallerNo) (source sink : ChanId)
      → next_channel rules l st.shared Source ≡ Some source
      → next_channel rules l (with_new_channel st.shared Source source) Sink ≡ Some sink → Sound rules l st
      → Keeps rules l st (with_sink (channel_made st Source (Some source)).left me target source (Some sink))
  keeps_pipe st me target source sink is then_is sound =
      let first = keeps_made st Source source is sound in
      let second = keeps_made (channel_made st Source (Some source)).left Sink sink then_is first.sound in
      record { sound = second.sound; stays = stays_then first.stays second.stays }

  pub keeps_pipe_spent : (st : ScriptState) (source : ChanId) → next_channel rules l st.shared Source ≡ Some source
      → Sound rules l st
      → Keeps rules l st
      (replied (channel_made st Source (Some source)).left reply.ChannelsSpent
      (channel_closed (channel_made st Source (Some source)).left.shared source.number.0))
  keeps_pipe_spent st source is sound =
      let first = keeps_made st Source source is sound in
      let second = keeps_closed_channel rules l (channel_made st Source (Some source)).left source.number.0
      reply.ChannelsSpent first.sound in
      record { sound = second.sound; stays = stays_then first.stays second.stays }
