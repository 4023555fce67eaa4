-- Each call of a setup does to the pipes what its line says.
use Rattle.std.proofs.Common.{◌≡◌, ◌≢◌, ℕ, ◌<◌, ◌==◌, nat_lt, Bool, true, false, not, ◌||◌, Option, Some, None, List, []}
use Rattle.std.proofs.Common.{◌∷◌, ◌++◌, length, take, drop, set, refl, ap, sym, ◌∙◌, subst, take-append-drop}
use Rattle.std.proofs.Math.Bool.{or-false}
use Rattle.std.proofs.lemmas.Bool.{and_parts, both_ways, cond-false, false_from_ne_true, ltb-true, or_right}
use Rattle.std.proofs.lemmas.List.{append-nil, set-get_or}
use Rattle.std.proofs.lemmas.List.Quantifiers.{position-Some}
use Rattle.nio_base.specs.declared.kind.Kind.TheVariants.{Source, Sink}
use Rattle.nio_base.specs.declared.limits.Limits.{Limits}
use Rattle.nio_base.specs.declared.numbers.CallerNo.{CallerNo}
use Rattle.nio_base.specs.declared.numbers.ChanId.{ChanId}
use Rattle.nio_channel.proofs.Chans.{open_unclosed, opened_closed, present_closed, present_opened}
use Rattle.nio_history.proofs.Put.{put-same}
use Rattle.nio_history.specs.Sets.{fits_channel, is_open_channel, was_closed, was_opened}
use Rattle.nio_history.specs.State.{put}
use Rattle.nio_history.specs.declared.found.Chan.{Chan}
use Rattle.nio_language.specs.WordRows.{neither}
use Rattle.nio_language.specs.declared.call.Call.{Call}
use Rattle.nio_language.specs.declared.call.Call.TheVariants as call
use Rattle.nio_language.specs.declared.call.ScriptCall.{ScriptCall}
use Rattle.nio_language.specs.declared.reply.Reply.{Reply}
use Rattle.nio_language.specs.declared.reply.Reply.TheVariants as reply
use Rattle.nio_plain.proofs.CallChanges as change
use Rattle.nio_plain.proofs.CallChanges.{Change, IsOwnSource}
use Rattle.nio_plain.proofs.CallLawsCases.{change_of}
use Rattle.nio_plain.proofs.ReachedCalls.{keeps_call}
use Rattle.nio_plain.proofs.ReachedPipes.{keeps_made}
use Rattle.nio_plain.proofs.ReachedReopening.{channels_call, channels_made, lasts_same, made_is_new}
use Rattle.nio_plain.specs.ScriptState.{Pipe, ScriptState, with_shared}
use Rattle.nio_plain.specs.Seq.{seq}
use Rattle.nio_plain.specs.Seq.Replies.{Replied, unchanged}
use Rattle.nio_plain.specs.Seq.Cancelling.{channel_closed}
use Rattle.nio_plain.specs.Seq.Opening.{channel_made, next_channel, with_new_channel}
use Rattle.nio_plain.specs.Seq.Pipes.{is_same_id, no_pipe, own_sink, owns_sink, owns_source, pipe_at, with_seal}
use Rattle.nio_plain.specs.Seq.Piping.{room_for, with_sink}
use Rattle.nio_plain.specs.declared.rules.Rules.TheVariants.{Now}
use Rattle.nio_race.proofs.EndLists.{none_passes}
use Rattle.nio_race.proofs.SetupKept.{AllLast, AreKept, Follows, beside-more, has_closed, has_opened, pipe-behind}
use Rattle.nio_race.proofs.SetupKept.{place-more, silent-more, was-unopened}
use Rattle.nio_race.proofs.SetupLines.{of-none}
use Rattle.nio_race.proofs.SetupSilent.{IsOnSink, close-on, line, neither-silent, nothing-silent, of-same, read-beside}
use Rattle.nio_race.proofs.SetupSilent.{read-elsewhere, read-own, read-silent, sink-beside, sink-elsewhere, sink-is}
use Rattle.nio_race.proofs.SetupSilent.{sink-seals, sink-written, source-is, write-on}
use Rattle.nio_race.specs.PipeBytes.{bytes_of, read_by}
use Rattle.nio_race.specs.Piping.{use_of}
use Rattle.nio_sole.proofs.ChannelNames.{channel_is}

-- ---- channels

same-follows : (l : Limits) (log : List (ScriptCall × Reply)) (st : ScriptState) → AreKept l log st → Follows l st st
same-follows l log st kept = record { sound = kept.sound; last = λ c. lasts_same (st.shared.chan c) }

-- an open channel was opened
open-opened : (x : Chan) (q : ℕ) → is_open_channel x q ≡ true → was_opened x q ≡ true
open-opened x q is = present_opened x q (and_parts (fits_channel x q) (not x.closed) is).0

-- an open channel is closed
closed-there : (chan : ℕ → Chan) (c : ChanId) → is_open_channel (chan c.number.0) c.serial ≡ true
    → has_closed (put chan c.number.0 (record (chan c.number.0) { closed = true })) c ≡ true
closed-there chan c is =
    let old = chan c.number.0 in
    let new : Chan = record old { closed = true } in
    ap (λ (x : Chan). was_closed x c.serial) (put-same chan c.number.0 new)
    ∙ present_closed new c.serial (and_parts (fits_channel old c.serial) (not old.closed) is).0 refl

-- ---- one call

module _ (l : Limits) (log : List (ScriptCall × Reply)) (st : ScriptState) (kept : AreKept l log st)
    (me : CallerNo) where
  abbrev Goes : Call → Replied → Type 0
  Goes word a = AreKept l (log ++ line me word a.reply ∷ []) a.left

  abbrev chan : ℕ → Chan
  chan = st.shared.chan

  -- a call that is on no pipe
  on-none : (word : Call) (r : Reply) (after : ScriptState) → use_of word ≡ neither → Follows l st after
      → after.pipes ≡ st.pipes → AreKept l (log ++ line me word r ∷ []) after
  on-none word r after none follows same =
      silent-more l log (line me word r) st after kept follows same (neither-silent (line me word r) none)

  -- a line on a channel that was opened says nothing of one that wasn't
  elsewhere : (c : ChanId) (after : ℕ → Chan) → has_opened chan c ≡ true → AllLast chan after
      → (k : ChanId) → has_opened after k ≡ false → is_same_id c k ≡ false
  elsewhere c after opened last k unopened =
      false_from_ne_true (is_same_id c k)
      (λ e. both_ways (has_opened after k) unopened
      (subst (λ (x : ChanId). has_opened after x ≡ true) (channel_is c k e)
      ((last c.number.0).opened c.serial opened)))

  -- ---- making a pipe

  goes-pipe : (target : CallerNo) (source sink : ChanId) → me.0 < l.callers → target.0 < l.callers
      → next_channel Now l st.shared Source ≡ Some source
      → next_channel Now l (with_new_channel st.shared Source source) Sink ≡ Some sink
      → let a = with_sink (channel_made st Source (Some source)).left me target source (Some sink) in
      Follows l st a.left → Goes (call.Pipe target) a
  goes-pipe target source sink reads writes e e' follows =
      let made = (channel_made st Source (Some source)).left in
      let first = made_is_new Now l st kept.sound Source source e in
      let sound = (keeps_made Now l st Source source e kept.sound).sound in
      let second = made_is_new Now l made sound Sink sink e' in
      let then_last = (channels_made Now l made Sink sink e' sound).lasts in
      pipe-behind l log (line me (call.Pipe target) _) st _ me target source sink kept follows refl
      (neither-silent (line me (call.Pipe target) _) refl) reads writes first.not_yet
      (was-unopened chan made.shared.chan sink (channels_made Now l st Source source e kept.sound).lasts second.not_yet)
      ((then_last source.number.0).opened source.serial
      (open-opened (made.shared.chan source.number.0) source.serial first.is_open))
      (open-opened ((with_new_channel made.shared Sink sink).chan sink.number.0) sink.serial second.is_open)

  -- ---- reading

  -- the other pipes have other sources
  other-source : (c : ChanId) (i : ℕ) → i < length st.pipes → owns_source me c (pipe_at st.pipes i) ≡ true
      → (k : ℕ) → k < length st.pipes → k ≢ i → owns_source me c (pipe_at st.pipes k) ≡ false
  other-source c i hi own k hk ne =
      let p = pipe_at st.pipes i in
      let q = pipe_at st.pipes k in
      false_from_ne_true (owns_source me c q)
      (λ also. kept.sources_differ k i hk hi ne (source-is me c q also ∙ sym (source-is me c p own)))

  -- a read of the caller's own source at a place, which leaves these bytes there
  goes-read : (c : ChanId) (n : ℕ) (r : Reply) (i : ℕ) (waiting : List ℕ) (after : ScriptState)
      → IsOwnSource st me c i → Follows l st after
      → after.pipes ≡ set st.pipes i (record (pipe_at st.pipes i) { waiting = waiting })
      → bytes_of r ++ waiting ≡ (pipe_at st.pipes i).waiting
      → (r ≡ reply.End → ((pipe_at st.pipes i).sealed ≡ true) × (waiting ≡ []))
      → ((pipe_at st.pipes i).waiting ≡ [] → waiting ≡ [])
      → AreKept l (log ++ line me (call.Pread c n) r ∷ []) after
  goes-read c n r i waiting after its follows pipes bytes end none =
      let p = pipe_at st.pipes i in
      let x = line me (call.Pread c n) r in
      let found = position-Some (owns_source me c) st.pipes i no_pipe its.own in
      place-more l log x st after i waiting p.sealed kept follows found.0 pipes
      (record {
        bytes =
            ap (λ (xs : List ℕ). xs ++ waiting) (read-own me c n r p found.1)
            ∙ (bytes
            ∙ (sym (append-nil p.waiting)
            ∙ ap (λ (xs : List ℕ). p.waiting ++ xs) (sym (of-same {A = List ℕ} (me.0 == p.writer.0) []))));
        seal =
            sym (ap (λ (b : Bool). p.sealed || b) (of-same {A = Bool} (me.0 == p.writer.0) false) ∙ or-false p.sealed);
        told = λ last. end last.reads.reply;
        stays = λ sealed h. none h;
      })
      (λ ends. absurd (both_ways _ (of-same {A = Bool} (me.0 == p.writer.0) false) ends))
      (λ k h ne. read-beside me c n r (pipe_at st.pipes k) (other-source c i found.0 found.1 k h ne))
      (λ k unopened. read-elsewhere me c n r k (elsewhere c after.shared.chan its.opened follows.last k unopened))

  -- ---- writing and closing

  other-sink : (c : ChanId) (i : ℕ) → i < length st.pipes → owns_sink me c (pipe_at st.pipes i) ≡ true
      → (k : ℕ) → k < length st.pipes → k ≢ i → owns_sink me c (pipe_at st.pipes k) ≡ false
  other-sink c i hi own k hk ne =
      let p = pipe_at st.pipes i in
      let q = pipe_at st.pipes k in
      false_from_ne_true (owns_sink me c q)
      (λ also. kept.sinks_differ k i hk hi ne (sink-is me c q also ∙ sym (sink-is me c p own)))

  -- a call on the caller's own sink at a place: it writes these bytes, and may leave the seal
  module _ (c : ChanId) (bytes : List ℕ) (seals : Bool) (word : Call) (r : Reply)
      (on : IsOnSink c bytes seals (line me word r)) (opened : has_opened chan c ≡ true) where
    goes-sink : (i : ℕ) (waiting : List ℕ) (sealed : Bool) (after : ScriptState) → own_sink st.pipes me c ≡ Some i
        → Follows l st after
        → after.pipes ≡ set st.pipes i (record (pipe_at st.pipes i) { waiting = waiting; sealed = sealed })
        → waiting ≡ (pipe_at st.pipes i).waiting ++ bytes → sealed ≡ ((pipe_at st.pipes i).sealed || seals)
        → (seals ≡ true → has_closed after.shared.chan c ≡ true)
        → ((pipe_at st.pipes i).sealed ≡ true → bytes ≡ [])
        → AreKept l (log ++ line me word r ∷ []) after
    goes-sink i waiting sealed after own follows pipes waits seal closed none =
        let p = pipe_at st.pipes i in
        let x = line me word r in
        let found = position-Some (owns_sink me c) st.pipes i no_pipe own in
        let wrote = sink-written on p found.1 in
        let ends = sink-seals on p found.1 in
        place-more l log x st after i waiting sealed kept follows found.0 pipes
        (record {
          bytes =
              ap (λ (xs : List ℕ). xs ++ waiting)
              (of-none (me.0 == p.reader.0) (read_by p.source (use_of word) r) [] (on.read p.source))
              ∙ (waits ∙ ap (λ (xs : List ℕ). p.waiting ++ xs) (sym wrote));
          seal = seal ∙ ap (λ (b : Bool). p.sealed || b) (sym ends);
          told = λ last. absurd (on.untold p.source last.reads);
          stays = λ was h. waits ∙ (ap (λ (xs : List ℕ). xs ++ bytes) h ∙ none was);
        })
        (λ says. subst (λ (k : ChanId). has_closed after.shared.chan k ≡ true) (sym (sink-is me c p found.1))
        (closed (sym ends ∙ says)))
        (λ k h ne. sink-beside on (pipe_at st.pipes k) (other-sink c i found.0 found.1 k h ne))
        (λ k unopened. sink-elsewhere on k (elsewhere c after.shared.chan opened follows.last k unopened))

    -- the channel is closed now, and the seal is left where it is the caller's own sink
    goes-sealed : bytes ≡ [] → seals ≡ true → (after : ScriptState) → has_closed after.shared.chan c ≡ true
        → after.pipes ≡ st.pipes → (place : Option ℕ) → own_sink st.pipes me c ≡ place
        → Follows l st (with_seal place after) → AreKept l (log ++ line me word r ∷ []) (with_seal place after)
    goes-sealed nothing says after closed same None e follows =
        beside-more l log (line me word r) st after kept follows same
        (λ k h. sink-beside on (pipe_at st.pipes k) (none_passes (owns_sink me c) st.pipes e k no_pipe h))
        (λ k unopened. sink-elsewhere on k (elsewhere c after.shared.chan opened follows.last k unopened))
    goes-sealed nothing says after closed same (Some i) e follows =
        let p = pipe_at st.pipes i in
        goes-sink i p.waiting true (with_seal (Some i) after) e follows
        (ap (λ (ps : List Pipe). set ps i (record (pipe_at ps i) { sealed = true })) same)
        (sym (ap (λ (xs : List ℕ). p.waiting ++ xs) nothing ∙ append-nil p.waiting))
        (sym (or_right p.sealed seals says)) (λ _. closed) (λ _. nothing)

  -- ---- every call

  changes : {word : Call} {done : Replied} → me.0 < l.callers → Follows l st done.left
      → Change Now l st me word done → Goes word done
  changes caller follows (change.nothing word r keeps) =
      silent-more l log (line me word r) st st kept follows refl (nothing-silent me word r keeps)
  changes caller follows (change.channel kind c e) = on-none (call.Channel kind) _ _ refl follows refl
  changes caller follows (change.blocking c on _ _) = on-none (call.Blocking c on) _ _ refl follows refl
  changes caller follows (change.closec c is_open) =
      goes-sealed c [] true (call.Closec c) reply.«Ok» (close-on me c reply.«Ok»)
      (open-opened (chan c.number.0) c.serial is_open) refl refl
      (with_shared st (channel_closed st.shared c.number.0)) (closed-there chan c is_open) refl
      (own_sink st.pipes me c) refl follows
  changes caller follows (change.closec_again c opened closed) =
      goes-sealed c [] true (call.Closec c) reply.Already (close-on me c reply.Already) opened refl refl st
      (opened_closed (chan c.number.0) c.serial opened closed) refl (own_sink st.pipes me c) refl follows
  changes caller follows (change.pipe target source sink owner e e') =
      goes-pipe target source sink caller owner e e' follows
  changes caller follows (change.pipe_spent target source e) = on-none (call.Pipe target) _ _ refl follows refl
  changes caller follows (change.pread c n i b bytes its waits) =
      goes-read c n (reply.Bytes (take n (b ∷ bytes))) i (drop n (b ∷ bytes)) _ its follows refl
      (take-append-drop n (b ∷ bytes) ∙ sym waits) (λ end. absurd (cc end)) (λ none. absurd (cc (sym waits ∙ none)))
  changes caller follows (change.pread_end c n i its none sealed) =
      goes-read c n reply.End i (pipe_at st.pipes i).waiting st its follows (sym (set-get_or st.pipes i no_pipe)) refl
      (λ _. (sealed, none)) (λ h. h)
  changes caller follows (change.pread_interrupted c n _) =
      silent-more l log (line me (call.Pread c n) reply.ClosedByInterrupt) st _ kept follows refl
      (read-silent me c n reply.ClosedByInterrupt refl (λ end. absurd (cc end)))
  changes caller follows (change.pwrite c bytes i its is_open) =
      let p = pipe_at st.pipes i in
      let n = room_for bytes p in
      let within = (position-Some (owns_sink me c) st.pipes i no_pipe its.own) in
      goes-sink c (take n bytes) false (call.Pwrite c bytes) (reply.Number n) (write-on me c bytes (reply.Number n))
      its.opened i (p.waiting ++ take n bytes) p.sealed _ its.own follows refl refl (sym (or-false p.sealed))
      (λ seals. absurd (cc seals))
      (λ sealed. absurd (both_ways (has_closed chan c) (open_unclosed (chan c.number.0) c.serial is_open)
      (subst (λ (k : ChanId). has_closed chan k ≡ true) (sink-is me c p within.1)
      ((kept.each i within.0).closed sealed))))
  changes caller follows (change.pwrite_closed c bytes i its closed) =
      goes-sealed c [] true (call.Pwrite c bytes) reply.ClosedChannel (write-on me c bytes reply.ClosedChannel)
      its.opened refl refl st (opened_closed (chan c.number.0) c.serial its.opened closed) refl (Some i) its.own follows
  changes caller follows (change.pwrite_interrupted c bytes i its is_open) =
      goes-sealed c [] true (call.Pwrite c bytes) reply.ClosedByInterrupt
      (write-on me c bytes reply.ClosedByInterrupt) its.opened refl refl
      (with_shared st (channel_closed st.shared c.number.0)) (closed-there chan c is_open) refl (Some i) its.own follows
  changes caller follows _ = on-none _ _ _ refl follows refl

  pub goes-seq : (word : Call) → Goes word (seq Now l st me word)
  unfolding seq
  goes-seq word = by_caller (nat_lt me.0 l.callers) refl
    where
      by_caller : (b : Bool) → nat_lt me.0 l.callers ≡ b → Goes word (seq Now l st me word)
      by_caller true e =
          changes (ltb-true me.0 l.callers e) (record {
            sound = (keeps_call Now l st me kept.sound word).sound;
            last = (channels_call Now l st me kept.sound word).lasts;
          }) (change_of Now l st me word)
      by_caller false e =
          subst (Goes word) (sym (cond-false (nat_lt me.0 l.callers) _ (unchanged st reply.NoCaller) e))
          (silent-more l log (line me word reply.NoCaller) st st kept (same-follows l log st kept) refl
          (nothing-silent me word reply.NoCaller refl))
