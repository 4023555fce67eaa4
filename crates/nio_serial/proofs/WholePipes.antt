-- Between two calls each pipe is whole: each documented call keeps that.
use Rattle.std.proofs.Common.{◌≡◌, ℕ, ◌-◌, ◌<◌, ◌≤◌, true, not, Option, Some, None, List, [], ◌∷◌, length, take}
use Rattle.std.proofs.Common.{get_or, set, ⊎_elim, refl, ap, sym, ◌∙◌, subst, arith}
use Rattle.std.proofs.lemmas.Bool.{and_parts, cases_lt, le-ltb}
use Rattle.std.proofs.Math.Nat.{min-le_left, min-le_right}
use Rattle.std.proofs.lemmas.List.{length-append, length-drop, length-take, set_past}
use Rattle.std.proofs.lemmas.List.Elements.{All-append, All-cons, All-get_or, All-nil, All-set, All-weaker}
use Rattle.std.specs.List.{All}
use Rattle.nio_base.specs.declared.kind.Kind.{Kind}
use Rattle.nio_base.specs.declared.kind.Kind.TheVariants.{Source, Sink}
use Rattle.nio_base.specs.declared.limits.Limits.{Limits}
use Rattle.nio_base.specs.declared.numbers.CallerNo.{CallerNo}
use Rattle.nio_base.specs.declared.numbers.ChanId.{ChanId}
use Rattle.nio_history.proofs.Put.{put_keeps, put-same}
use Rattle.nio_history.specs.Acts.{new_channel}
use Rattle.nio_history.specs.Sets.{was_opened}
use Rattle.nio_history.specs.State.{State, put}
use Rattle.nio_history.specs.declared.found.Chan.{Chan}
use Rattle.nio_language.specs.declared.call.Call.{Call}
use Rattle.nio_plain.proofs.CallChanges as change
use Rattle.nio_plain.proofs.CallChanges.{Change}
use Rattle.nio_plain.proofs.CallLawsCases.{change_of}
use Rattle.nio_plain.proofs.ReachedChannels.{IsNextChannel}
use Rattle.nio_plain.proofs.ReachedPipes.{next_channel-is, keeps_made}
use Rattle.nio_plain.proofs.ReachedSound.{Sound}
use Rattle.nio_plain.specs.ScriptState.{Pipe, ScriptState, script_opening, with_shared}
use Rattle.nio_plain.specs.Seq.Replies.{Replied}
use Rattle.nio_plain.specs.Seq.Cancelling.{channel_closed}
use Rattle.nio_plain.specs.Seq.Opening.{channel_made}
use Rattle.nio_plain.specs.Seq.Pipes.{no_pipe, own_sink, pipe_at, sealed_pipes}
use Rattle.nio_plain.specs.Seq.Piping.{room_for, with_sink}
use Rattle.nio_plain.specs.declared.rules.Rules.TheVariants.{Now}
use Rattle.nio_serial.proofs.Facts.{left_is_sound}
use Rattle.nio_serial.proofs.ReopeningKept.{reopen-cases, next-reopened}
use Rattle.nio_serial.specs.Between.{IsLeft, no_call, line, reopening, IsChannelOf, IsWholePipe}
use Rattle.nio_serial.specs.Documented.{documented}
use Rattle.nio_serial.specs.Laws.{PipesAreWhole}
use Rattle.nio_serial.specs.Reopening.{next_of_number, reopen_call}

abbrev Whole : ScriptState → Type 0
Whole st = All (IsWholePipe st.shared.chan) st.pipes

-- ---- changes of a channel

-- what was opened stays so, and the number keeps its kind
abbrev pub Stays : Chan → Chan → Type 0
Stays before after = (q : ℕ) → was_opened before q ≡ true → (was_opened after q ≡ true) × (after.kind ≡ before.kind)

-- where a number gets the next channel
pub stays-next : (st : State) (kind : Kind) (c : ChanId) → IsNextChannel Now st kind c
    → Stays (st.chan c.number.0) (new_channel kind c.serial)
stays-next st kind c next q was =
    let older : q < c.serial = next.older q was in
    let made = (and_parts (st.chan c.number.0).made _ was).0 in
    (ap not (le-ltb c.serial q (omega arith)), sym (next.kind_same made))

-- a new channel was opened
pub just-opened : (st : State) (kind : Kind) (c : ChanId)
    → IsChannelOf (put st.chan c.number.0 (new_channel kind c.serial)) c kind
just-opened st kind c =
    let there = put-same st.chan c.number.0 (new_channel kind c.serial) in (
      ap (λ (x : Chan). was_opened x c.serial) there ∙ ap not (le-ltb c.serial c.serial (omega arith)),
      ap (λ (x : Chan). x.kind) there,
    )

pub end-kept : (chan : ℕ → Chan) (c : ℕ) (x : Chan) → Stays (chan c) x
    → (n : ChanId) (kind : Kind) → IsChannelOf chan n kind → IsChannelOf (put chan c x) n kind
end-kept chan c x stays n kind is =
    put_keeps (λ _ (y : Chan). (was_opened y n.serial ≡ true) × (y.kind ≡ kind)) chan c x
    (λ was. let now = stays n.serial was.0 in (now.0, now.1 ∙ was.1)) n.number.0 is

pipe-kept : (chan : ℕ → Chan) (c : ℕ) (x : Chan) → Stays (chan c) x → (p : Pipe)
    → IsWholePipe chan p → IsWholePipe (put chan c x) p
pipe-kept chan c x stays p whole = record {
  source = end-kept chan c x stays p.source Source whole.source;
  sink = end-kept chan c x stays p.sink Sink whole.sink;
  room = whole.room;
}

put-whole : (chan : ℕ → Chan) (c : ℕ) (x : Chan) → Stays (chan c) x → (pipes : List Pipe)
    → All (IsWholePipe chan) pipes → All (IsWholePipe (put chan c x)) pipes
put-whole chan c x stays pipes all =
    All-weaker (IsWholePipe chan) (IsWholePipe (put chan c x)) (pipe-kept chan c x stays) pipes all

-- ---- changes of a pipe

set-whole : (chan : ℕ → Chan) (pipes : List Pipe) (i : ℕ) (x : Pipe)
    → (IsWholePipe chan (get_or pipes i no_pipe) → IsWholePipe chan x)
    → All (IsWholePipe chan) pipes → All (IsWholePipe chan) (set pipes i x)
set-whole chan pipes i x change all =
    ⊎_elim
    (λ (below : i < length pipes).
    All-set (IsWholePipe chan) pipes i x (change (All-get_or (IsWholePipe chan) pipes i no_pipe below all)) all)
    (λ (past : length pipes ≤ i). subst (All (IsWholePipe chan)) (sym (set_past pipes i x past)) all)
    (cases_lt i (length pipes))

sealed-whole : (chan : ℕ → Chan) (place : Option ℕ) (pipes : List Pipe)
    → All (IsWholePipe chan) pipes → All (IsWholePipe chan) (sealed_pipes place pipes)
sealed-whole chan None pipes all = all
sealed-whole chan (Some i) pipes all =
    set-whole chan pipes i _ (λ whole. record { source = whole.source; sink = whole.sink; room = whole.room }) all

-- ---- each call

made-whole : (st : ScriptState) → Whole st → (kind : Kind) (c : ChanId) → IsNextChannel Now st.shared kind c
    → Whole (channel_made st kind (Some c)).left
made-whole st whole kind c next =
    put-whole st.shared.chan c.number.0 (new_channel kind c.serial) (stays-next st.shared kind c next) st.pipes whole

closed-whole : (st : ScriptState) → Whole st → (c : ℕ) → Whole (with_shared st (channel_closed st.shared c))
closed-whole st whole c =
    put-whole st.shared.chan c (record (st.shared.chan c) { closed = true }) (λ q was. (was, refl)) st.pipes whole

-- a sink is made for a source
sink-whole : (st : ScriptState) → Whole st → (me target : CallerNo) (source sink : ChanId)
    → IsChannelOf st.shared.chan source Source → IsNextChannel Now st.shared Sink sink
    → Whole (with_sink st me target source (Some sink)).left
sink-whole st whole me target source sink is next =
    let n = sink.number.0 in
    let new = new_channel Sink sink.serial in
    let chan = put st.shared.chan n new in
    let stays = stays-next st.shared Sink sink next in
    All-append (IsWholePipe chan) st.pipes _ (put-whole st.shared.chan n new stays st.pipes whole)
    (All-cons (IsWholePipe chan) _ [] (record {
      source = end-kept st.shared.chan n new stays source Source is;
      sink = just-opened st.shared Sink sink;
      room = omega arith;
    }) (All-nil (IsWholePipe chan)))

module _ (l : Limits) (st : ScriptState) (sound : Sound Now l st) (whole : Whole st) (me : CallerNo) where
  changes : {c : Call} {done : Replied} → Change Now l st me c done → Whole done.left
  changes (change.channel kind c is) = made-whole st whole kind c (next_channel-is Now l st sound kind c is)
  changes (change.blocking c on _ _) =
      put-whole st.shared.chan c.number.0 (record (st.shared.chan c.number.0) { blocking = on }) (λ q was. (was, refl))
      st.pipes whole
  changes (change.closec c _) = sealed-whole _ (own_sink st.pipes me c) st.pipes (closed-whole st whole c.number.0)
  changes (change.closec_again c _ _) = sealed-whole st.shared.chan (own_sink st.pipes me c) st.pipes whole
  changes (change.pipe target source sink _ is then_is) =
      let made = (channel_made st Source (Some source)).left in
      sink-whole made (made-whole st whole Source source (next_channel-is Now l st sound Source source is)) me target
      source sink (just-opened st.shared Source source)
      (next_channel-is Now l made (keeps_made Now l st Source source is sound).sound Sink sink then_is)
  changes (change.pipe_spent target source is) =
      closed-whole (channel_made st Source (Some source)).left
      (made-whole st whole Source source (next_channel-is Now l st sound Source source is)) source.number.0
  changes (change.pread c n i b bytes _ is) =
      set-whole st.shared.chan st.pipes i _
      (λ was.
      let few : length (b ∷ bytes) ≤ 65536 = subst (λ (xs : List ℕ). length xs ≤ 65536) is was.room in
      let left = length-drop n (b ∷ bytes) in
      record { source = was.source; sink = was.sink; room = omega arith }) whole
  changes (change.pread_interrupted c n _) = closed-whole st whole c.number.0
  changes (change.pwrite c bytes i _ _) =
      let p = pipe_at st.pipes i in
      let n = room_for bytes p in
      let total = length-append p.waiting (take n bytes) in
      let added = length-take n bytes in
      let least = min-le_left n (length bytes) in
      let room = min-le_right (length bytes) (65536 - length p.waiting) in
      set-whole st.shared.chan st.pipes i _
      (λ was. record { source = was.source; sink = was.sink; room = omega arith }) whole
  changes (change.pwrite_closed c bytes i _ _) = sealed-whole st.shared.chan (Some i) st.pipes whole
  changes (change.pwrite_interrupted c bytes i _ _) =
      sealed-whole _ (Some i) st.pipes (closed-whole st whole c.number.0)
  -- the others change no channel and no pipe
  changes _ = whole

-- ---- a reopening

reopened-whole : (l : Limits) (st : ScriptState) → Sound Now l st → Whole st → (c : ChanId)
    → Whole (reopen_call l st c).left
reopened-whole l st sound whole c =
    reopen-cases l st c (λ done. Whole done.left) (λ _. whole) (λ comes keyless.
    made-whole st whole (st.shared.chan c.number.0).kind (next_of_number st.shared c)
    (next-reopened l st c sound comes keyless))

-- ---- one after the other

left-whole : (l : Limits) (st : ScriptState) → IsLeft l st → Whole st
left-whole l _ no_call = All-nil (IsWholePipe script_opening.shared.chan)
left-whole l _ (line st me word left) =
    changes l st (left_is_sound l st left) (left-whole l st left) me (change_of Now l st me word)
left-whole l _ (reopening st c left) = reopened-whole l st (left_is_sound l st left) (left-whole l st left) c

pub pipes-are-whole : PipesAreWhole
pipes-are-whole l st now between = left-whole l (documented st now) between.left
