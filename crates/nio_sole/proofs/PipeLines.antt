-- From the calls on a desk's group and pipes to the lines.
use Rattle.std.proofs.Common.{◌≡◌, ℕ, ◌<◌, ◌==◌, ◌&&◌, true, Bool, Option, Some, None, Result, Ok, Err, List, []}
use Rattle.std.proofs.Common.{◌∷◌, ◌++◌, ◌-◌, length, get_or, min, set, take, position, refl, sym, ap, ◌∙◌, subst}
use Rattle.std.proofs.lemmas.Bool.{and_parts}
use Rattle.std.proofs.lemmas.List.{map-append}
use Rattle.std.proofs.lemmas.List.Elements.{All-append, All-cons, All-get_or, All-nil, All-set}
use Rattle.std.proofs.lemmas.List.Quantifiers.{position-Some}
use Rattle.std.specs.Prelude.{IfOk, OnErr, Vec}
use Rattle.std.specs.declared.alloc.AllocError.{AllocError}
use Rattle.std.specs.declared.alloc.Global.{Global}
use Rattle.nio_base.specs.declared.limits.Limits.{Limits}
use Rattle.nio_base.specs.declared.numbers.CallerNo.{CallerNo}
use Rattle.nio_base.specs.declared.numbers.ChanId.{ChanId}
use Rattle.nio_group.specs.Group.{Group}
use Rattle.nio_history.specs.PassViews.{PassView}
use Rattle.nio_history.specs.declared.act.Act.{Act}
use Rattle.nio_language.specs.declared.call.Call.TheVariants as call
use Rattle.nio_language.specs.declared.group_call.GroupCall.{GroupCall}
use Rattle.nio_language.specs.declared.reply.Reply.{Reply}
use Rattle.nio_language.specs.declared.reply.Reply.TheVariants as reply
use Rattle.nio_pipe.specs.Calls.{HasEnds}
use Rattle.nio_pipe.specs.Answers.{bytes_read, mode_found, read_answer, without_mode, write_answer}
use Rattle.nio_pipe.specs.Pipe.{Pipe as Held, IsLawful, after_end, after_read, after_write, new_pipe as new_held}
use Rattle.nio_pipe.specs.Pipe.{waiting}
use Rattle.nio_pipe.specs.declared.answers.PipeRead.{PipeRead}
use Rattle.nio_pipe.specs.declared.answers.PipeWrite.{PipeWrite}
use Rattle.nio_plain.proofs.Piping.{position-map}
use Rattle.nio_plain.specs.ScriptState.{Pipe}
use Rattle.nio_plain.specs.Seq.Grouping.{group_left, group_reply}
use Rattle.nio_plain.specs.Seq.Pipes.{is_same_id, owns_sink, owns_source, own_sink, own_source, pipe_at}
use Rattle.nio_serial.specs.Documented.{Progress}
use Rattle.nio_serial.specs.Lines.{Said, call_plan, makes, read_line, write_line}
use Rattle.nio_serial.specs.PipeLines.{Piped, after_pipe, read_gives, with_seal}
use Rattle.nio_serial.specs.PipeLines.{with_pipe, write_gives}
use Rattle.nio_serial.specs.Replies.{closed_reply, ends_reply}
use Rattle.nio_sole.proofs.ChannelNames.{channel_is}
use Rattle.nio_sole.proofs.Asking.{makes_ran, refused_at, replied_as}
use Rattle.nio_sole.proofs.Desks.{left_as, places_same, still_made}
use Rattle.nio_sole.proofs.Piping.{read_gave, read_refused, shown_at, shown_set, slice_says, with_held, write_gave}
use Rattle.nio_sole.proofs.Piping.{write_refused}
use Rattle.nio_sole.proofs.Wants.{lacks_at, lacks_ran}
use Rattle.nio_sole.specs.Makes.{Lacks, Makes, MakesCall, MayMake}
use Rattle.nio_sole.specs.PipeReplies.{read_reply, write_reply}
use Rattle.nio_sole.specs.Stands.{AreMade, HasPlaces, group_of, pipe_of, pipes_of, progress_of}
use Rattle.nio_sole.specs.declared.desk.Desk.{Desk}
use Rattle.nio_sole.specs.declared.desk.OwnedPipe.{OwnedPipe}
use Rattle.nio_steps.proofs.CallLaws.{call_as}
use Rattle.nio_steps.specs.Calls.{CallClause}
use Rattle.nio_steps.specs.ChannelCalls.{close_channel_plan}
use Rattle.nio_steps.specs.PipeCalls.{MakesPipe, PipeEnds, pipe_lacks_memory, pipe_plan, try_read_plan, try_write_plan}
use Rattle.nio_steps.specs.Plan.{Plan}
use Rattle.nio_steps.specs.Runs.{Completes}
use Rattle.nio_steps.specs.declared.refusal.PipeError.{PipeError}
use Rattle.nio_steps.specs.declared.refusal.PipeMakeError.{PipeMakeError}
use Rattle.nio_words.specs.Passes.{IsReady, limits_of}
use Rattle.nio_words.specs.Views.{view}
use Rattle.nio_words.specs.declared.words.Pass.{Pass}
use Rattle.nio_words.specs.declared.words.Words.{Words}

-- ---- the group

places_group : {w : Words} {d : Desk} {group : Option Group} → HasPlaces w d → HasPlaces w (record d { group = group })
places_group places = record {
  selections = places.selections;
  closings = places.closings;
  selects = places.selects;
  closes = places.closes;
  pipes = places.pipes;
}

pub group_called : (w : Words) (d : Desk) (me : CallerNo) (g : GroupCall) (group : Option Group)
    (result : Result Reply AllocError)
    → MayMake w d me (call.Group g)
    → IfOk result (λ r. r ≡ group_reply (group_of d.group) g)
    → IfOk result (λ _. group_of group ≡ group_left (group_of d.group) g)
    → OnErr result (group ≡ d.group)
    → MakesCall (λ plan. plan) w d (record d { group = group }) me (call.Group g) result
unfolding call_plan
group_called w d me g group (Ok r) may says leaves memory =
    let now = progress_of d in
    let left : Progress = record now { group = group_left now.group g } in
    let said = refused_at left (group_reply now.group g) (view w d.pass) may.ask.ready.pass.legal in
    record {
      call = replied_as (left_as said (ap {B = Progress} (λ (x : Group). record now { group = x }) (sym leaves))) says;
      ready = may.ask.ready;
      places = places_group may.places;
    }
group_called w d me g group (Err e) may says leaves memory =
    let now = progress_of d in
    let same = ap {B = Progress} (λ (x : Option Group). record now { group = group_of x }) (sym memory) in
    record {
      call = lacks_at (call.Group g) (view w d.pass) may.ask.ready.pass.legal refl;
      ready = may.ask.ready;
      places = places_group may.places;
      same = sym same;
    }

-- ---- a desk's pipes

abbrev pub with_pipes_in : Desk → Pass → Vec OwnedPipe Global → Desk
with_pipes_in d p pipes = record d { pass = p; pipes = pipes }

places_pipes : {w : Words} {d : Desk} {q : Pass} {pipes : Vec OwnedPipe Global} → HasPlaces w d
    → AreMade (view w q) pipes.items → HasPlaces w (with_pipes_in d q pipes)
places_pipes places made = record {
  selections = places.selections;
  closings = places.closings;
  selects = places.selects;
  closes = places.closes;
  pipes = made;
}

abbrev AreEnds : PassView → OwnedPipe → Type 0
AreEnds pass x = HasEnds pass x.pipe.source x.pipe.sink

-- the ends of the pipe at a place
pub made_at : (pass : PassView) (items : List OwnedPipe) (i : ℕ) (x : OwnedPipe) → AreMade pass items → i < length items
    → x ≡ get_or items i x → AreEnds pass x
made_at pass items i x made within is = subst (AreEnds pass) (sym is) (All-get_or (AreEnds pass) items i x within made)

-- a pipe with the same channels is put there
made_set : (pass : PassView) (items : List OwnedPipe) (i : ℕ) (x x' : OwnedPipe) → AreMade pass items → i < length items
    → x ≡ get_or items i x
    → x'.pipe.source ≡ x.pipe.source → x'.pipe.sink ≡ x.pipe.sink → AreMade pass (set items i x')
made_set pass items i x x' made within is source sink =
    let ends = made_at pass items i x made within is in
    All-set (AreEnds pass) items i x'
    (subst (λ c. HasEnds pass c x'.pipe.sink) (sym source)
    (subst (λ c. HasEnds pass x.pipe.source c) (sym sink) ends)) made

-- ---- the caller's own pipe

abbrev pub IsSourceAt : Desk → CallerNo → ChanId → Option ℕ → Type 0
IsSourceAt d me c place = place ≡ position (λ x. is_same_id x.pipe.source c && (x.reader.0 == me.0)) d.pipes.items

abbrev pub IsSinkAt : Desk → CallerNo → ChanId → Option ℕ → Type 0
IsSinkAt d me c place = place ≡ position (λ x. is_same_id x.pipe.sink c && (x.writer.0 == me.0)) d.pipes.items

own_source_is : (d : Desk) (me : CallerNo) (c : ChanId) (place : Option ℕ) → IsSourceAt d me c place
    → own_source (progress_of d).pipes me c ≡ place
own_source_is d me c place is = position-map (owns_source me c) pipe_of d.pipes.items ∙ sym is

own_sink_is : (d : Desk) (me : CallerNo) (c : ChanId) (place : Option ℕ) → IsSinkAt d me c place
    → own_sink (progress_of d).pipes me c ≡ place
own_sink_is d me c place is = position-map (owns_sink me c) pipe_of d.pipes.items ∙ sym is

-- it stands within the list, and its source is the channel
pub source_at : (d : Desk) (me : CallerNo) (c : ChanId) (i : ℕ) (x : OwnedPipe) → IsSourceAt d me c (Some i)
    → x ≡ get_or d.pipes.items i x
    → (i < length d.pipes.items) × (x.pipe.source ≡ c)
source_at d me c i x at is =
    let found = position-Some (λ (y : OwnedPipe). is_same_id y.pipe.source c && (y.reader.0 == me.0)) d.pipes.items i x
    (sym at) in
    let both = ap (λ (y : OwnedPipe). is_same_id y.pipe.source c && (y.reader.0 == me.0)) is ∙ found.1 in
    (found.0, channel_is x.pipe.source c (and_parts (is_same_id x.pipe.source c) (x.reader.0 == me.0) both).0)

pub sink_at : (d : Desk) (me : CallerNo) (c : ChanId) (i : ℕ) (x : OwnedPipe) → IsSinkAt d me c (Some i)
    → x ≡ get_or d.pipes.items i x
    → (i < length d.pipes.items) × (x.pipe.sink ≡ c)
sink_at d me c i x at is =
    let found = position-Some (λ (y : OwnedPipe). is_same_id y.pipe.sink c && (y.writer.0 == me.0)) d.pipes.items i x
    (sym at) in
    let both = ap (λ (y : OwnedPipe). is_same_id y.pipe.sink c && (y.writer.0 == me.0)) is ∙ found.1 in
    (found.0, channel_is x.pipe.sink c (and_parts (is_same_id x.pipe.sink c) (x.writer.0 == me.0) both).0)

-- ---- reads and writes

read_by : {me : CallerNo} (l : Limits) (now : Progress) (c : ChanId) (n : ℕ) {place place' : Option ℕ} {said : Said}
    {v0 v1 : PassView}
    → place ≡ place' → CallClause me (Completes (read_line l now c n place')) v0 v1 said
    → CallClause me (Completes (read_line l now c n place)) v0 v1 said
read_by {me = me} l now c n {said = said} {v0 = v0} {v1 = v1} is call =
    subst (λ (x : Option ℕ). CallClause me (Completes (read_line l now c n x)) v0 v1 said) (sym is) call

write_by : {me : CallerNo} (l : Limits) (now : Progress) (c : ChanId) (bytes : List ℕ) {place place' : Option ℕ}
    {said : Said} {v0 v1 : PassView}
    → place ≡ place' → CallClause me (Completes (write_line l now c bytes place')) v0 v1 said
    → CallClause me (Completes (write_line l now c bytes place)) v0 v1 said
write_by {me = me} l now c bytes {said = said} {v0 = v0} {v1 = v1} is call =
    subst (λ (x : Option ℕ). CallClause me (Completes (write_line l now c bytes x)) v0 v1 said) (sym is) call

-- what a desk shows once the pipe at a place has come to this
module _ (d : Desk) (i : ℕ) (x x' : OwnedPipe) (gives : Pipe → Piped) (r : Reply)
    (within : i < length d.pipes.items) (is : x ≡ get_or d.pipes.items i x)
    (comes : gives (pipe_of x) ≡ record { reply = r; left = pipe_of x' }) where
  gives_at : gives (pipe_at (progress_of d).pipes i) ≡ record { reply = r; left = pipe_of x' }
  gives_at = ap gives (shown_at d.pipes.items i x within is) ∙ comes

  gives_says : r ≡ (gives (pipe_at (progress_of d).pipes i)).reply
  gives_says = sym (ap (λ (g : Piped). g.reply) gives_at)

  gives_leaves : (q : Pass) (pipes : Vec OwnedPipe Global) → pipes.items ≡ set d.pipes.items i x'
      → with_pipe (progress_of d) i (gives (pipe_at (progress_of d).pipes i)).left
      ≡ progress_of (with_pipes_in d q pipes)
  gives_leaves q pipes items =
      let now = progress_of d in
      ap {B = Progress} (λ (ps : List Pipe). record now { pipes = ps })
      (ap (λ (g : Piped). set (pipes_of d.pipes.items) i g.left) gives_at
      ∙ (sym (shown_set d.pipes.items i x') ∙ ap pipes_of (sym items)))

pub read_none : (w : Words) (d : Desk) (me : CallerNo) (c : ChanId) (n : ℕ) → MayMake w d me (call.Pread c n)
    → IsSourceAt d me c None
    → Makes w d d me (call_plan (limits_of w) (progress_of d) me (call.Pread c n)) reply.NotOwner
unfolding call_plan
read_none w d me c n may none = record {
  call = read_by (limits_of w) (progress_of d) c n (own_source_is d me c None none)
      (refused_at (progress_of d) reply.NotOwner (view w d.pass) may.ask.ready.pass.legal);
  ready = may.ask.ready;
  places = may.places;
}

pub read_made : (w : Words) (d : Desk) (q : Pass) (me : CallerNo) (c : ChanId) (n i : ℕ) (x x' : OwnedPipe)
    (pipes : Vec OwnedPipe Global) (found : Result Bool PipeError) (r : Reply)
    → MayMake w d me (call.Pread c n) → IsSourceAt d me c (Some i) → x ≡ get_or d.pipes.items i x
    → CallClause me (Completes (try_read_plan (limits_of w) x.pipe.source)) (view w d.pass) (view w q) found
    → IsReady w q me
    → pipes.items ≡ set d.pipes.items i x' → x'.pipe.source ≡ x.pipe.source → x'.pipe.sink ≡ x.pipe.sink
    → read_gives n (pipe_of x) found ≡ record { reply = r; left = pipe_of x' }
    → Makes w d (with_pipes_in d q pipes) me (call_plan (limits_of w) (progress_of d) me (call.Pread c n)) r
unfolding call_plan
read_made w d q me c n i x x' pipes found r may at is ran ready items source sink comes =
    let l = limits_of w in
    let now = progress_of d in
    let here = source_at d me c i x at is in
    let call : CallClause me (Completes (try_read_plan l c)) (view w d.pass) (view w q) found =
    subst (λ (s : ChanId). CallClause me (Completes (try_read_plan l s)) (view w d.pass) (view w q) found) here.1 ran in
    let gives : Pipe → Piped = λ p. read_gives n p found in
    record {
      call = read_by l now c n (own_source_is d me c (Some i) at)
          (replied_as
          (left_as (makes_ran (λ a. (read_gives n (pipe_at now.pipes i) a).reply)
          (λ a. with_pipe now i (read_gives n (pipe_at now.pipes i) a).left) call)
          (gives_leaves d i x x' gives r here.0 is comes q pipes items)) (gives_says d i x x' gives r here.0 is comes));
      ready = ready;
      places = places_pipes may.places (subst (AreMade (view w q)) (sym items)
          (made_set (view w q) d.pipes.items i x x' (still_made q may.places call) here.0 is source sink));
    }

pub write_none : (w : Words) (d : Desk) (me : CallerNo) (c : ChanId) (bytes : List ℕ)
    → MayMake w d me (call.Pwrite c bytes) → IsSinkAt d me c None
    → Makes w d d me (call_plan (limits_of w) (progress_of d) me (call.Pwrite c bytes)) reply.NotOwner
unfolding call_plan
write_none w d me c bytes may none = record {
  call = write_by (limits_of w) (progress_of d) c bytes (own_sink_is d me c None none)
      (refused_at (progress_of d) reply.NotOwner (view w d.pass) may.ask.ready.pass.legal);
  ready = may.ask.ready;
  places = may.places;
}

pub write_made : (w : Words) (d : Desk) (q : Pass) (me : CallerNo) (c : ChanId) (bytes : List ℕ) (i : ℕ)
    (x x' : OwnedPipe) (pipes : Vec OwnedPipe Global) (found : Result Bool PipeError) (r : Reply)
    → MayMake w d me (call.Pwrite c bytes) → IsSinkAt d me c (Some i) → x ≡ get_or d.pipes.items i x
    → CallClause me (Completes (try_write_plan (limits_of w) x.pipe.source x.pipe.sink)) (view w d.pass)
    (view w q) found → IsReady w q me
    → pipes.items ≡ set d.pipes.items i x' → x'.pipe.source ≡ x.pipe.source → x'.pipe.sink ≡ x.pipe.sink
    → write_gives bytes (pipe_of x) found ≡ record { reply = r; left = pipe_of x' }
    → Makes w d (with_pipes_in d q pipes) me (call_plan (limits_of w) (progress_of d) me (call.Pwrite c bytes)) r
unfolding call_plan
write_made w d q me c bytes i x x' pipes found r may at is ran ready items source sink comes =
    let l = limits_of w in
    let now = progress_of d in
    let here = sink_at d me c i x at is in
    let own : ChanId = (pipe_at now.pipes i).source in
    let source_shown : x.pipe.source ≡ own = sym
    (ap (λ (p : Pipe). p.source) (shown_at d.pipes.items i x here.0 is)) in
    let call : CallClause me (Completes (try_write_plan l own c)) (view w d.pass) (view w q) found =
    subst (λ (s : ChanId). CallClause me (Completes (try_write_plan l s c)) (view w d.pass) (view w q) found)
    source_shown
    (subst (λ (s : ChanId). CallClause me (Completes (try_write_plan l x.pipe.source s)) (view w d.pass)
    (view w q) found) here.1 ran) in
    let gives : Pipe → Piped = λ p. write_gives bytes p found in
    record {
      call = write_by l now c bytes (own_sink_is d me c (Some i) at)
          (replied_as
          (left_as (makes_ran (λ a. (write_gives bytes (pipe_at now.pipes i) a).reply)
          (λ a. with_pipe now i (write_gives bytes (pipe_at now.pipes i) a).left) call)
          (gives_leaves d i x x' gives r here.0 is comes q pipes items)) (gives_says d i x x' gives r here.0 is comes));
      ready = ready;
      places = places_pipes may.places (subst (AreMade (view w q)) (sym items)
          (made_set (view w q) d.pipes.items i x x' (still_made q may.places call) here.0 is source sink));
    }

-- with what the call answers, and what its slice then has
pub read_said : (w : Words) (d : Desk) (q : Pass) (me : CallerNo) (c : ChanId) (n room i : ℕ) (x : OwnedPipe)
    (pipes : Vec OwnedPipe Global)
    (into rest : List ℕ) (result : Result (PipeRead × Bool) PipeError)
    → MayMake w d me (call.Pread c n) → IsSourceAt d me c (Some i) → x ≡ get_or d.pipes.items i x → IsLawful x.pipe
    → room ≡ min 65536 n
    → CallClause me (Completes (try_read_plan (limits_of w) x.pipe.source)) (view w d.pass) (view w q)
    (mode_found result) → IsReady w q me
    → IfOk result (λ found. found.0 ≡ read_answer room (min room (length (waiting x.pipe))) x.pipe.sealed)
    → into ≡ take (bytes_read (without_mode result)) (waiting x.pipe) ++ rest
    → pipes.items ≡ set d.pipes.items i (with_held x (after_read x.pipe (without_mode result)))
    → Makes w d (with_pipes_in d q pipes) me (call_plan (limits_of w) (progress_of d) me (call.Pread c n))
    (read_reply result into)
read_said w d q me c n room i x pipes into rest (Ok found) may at is lawful room_is ran ready answer front items =
    subst (λ (r : Reply). Makes w d (with_pipes_in d q pipes) me
    (call_plan (limits_of w) (progress_of d) me (call.Pread c n)) r)
    (sym (slice_says x lawful room found.1 found.0 into rest answer front))
    (read_made w d q me c n i x (with_held x (after_read x.pipe (Ok found.0))) pipes
    (Ok found.1) _ may at is ran ready items refl refl
    (read_gave x lawful n room found.1 found.0 room_is answer))
read_said w d q me c n room i x pipes into rest (Err refusal) may at is lawful room_is ran ready answer front items =
    read_made w d q me c n i x (with_held x (after_read x.pipe (Err refusal))) pipes
    (Err refusal) _ may at is ran ready items refl refl
    (read_refused x lawful n refusal)

written : (w : Words) (d : Desk) (q : Pass) (me : CallerNo) (c : ChanId) (bytes : List ℕ) (i : ℕ) (x : OwnedPipe)
    (pipes : Vec OwnedPipe Global)
    (result : Result (PipeWrite × Bool) PipeError)
    → MayMake w d me (call.Pwrite c bytes) → IsSinkAt d me c (Some i) → x ≡ get_or d.pipes.items i x → IsLawful x.pipe
    → CallClause me (Completes (try_write_plan (limits_of w) x.pipe.source x.pipe.sink)) (view w d.pass) (view w q)
    (mode_found result) → IsReady w q me
    → IfOk result
    (λ found. found.0 ≡ write_answer (length bytes) (min (length bytes) (65536 - length (waiting x.pipe))))
    → pipes.items ≡ set d.pipes.items i (with_held x (after_write x.pipe bytes (without_mode result)))
    → Makes w d (with_pipes_in d q pipes) me (call_plan (limits_of w) (progress_of d) me (call.Pwrite c bytes))
    (write_reply result)
written w d q me c bytes i x pipes (Ok found) may at is lawful ran ready answer items =
    write_made w d q me c bytes i x (with_held x (after_write x.pipe bytes (Ok found.0))) pipes
    (Ok found.1) _ may at is ran ready items refl refl
    (write_gave x lawful bytes found.1 found.0 answer)
written w d q me c bytes i x pipes (Err refusal) may at is lawful ran ready answer items =
    write_made w d q me c bytes i x (with_held x (after_write x.pipe bytes (Err refusal))) pipes
    (Err refusal) _ may at is ran ready items refl refl
    (write_refused x lawful bytes refusal)

-- the slice that is written has the bytes of the line
pub write_said : (w : Words) (d : Desk) (q : Pass) (me : CallerNo) (c : ChanId) (bytes from : List ℕ) (i : ℕ)
    (x : OwnedPipe) (pipes : Vec OwnedPipe Global)
    (result : Result (PipeWrite × Bool) PipeError) → from ≡ bytes
    → MayMake w d me (call.Pwrite c bytes) → IsSinkAt d me c (Some i) → x ≡ get_or d.pipes.items i x → IsLawful x.pipe
    → CallClause me (Completes (try_write_plan (limits_of w) x.pipe.source x.pipe.sink)) (view w d.pass) (view w q)
    (mode_found result) → IsReady w q me
    → IfOk result (λ found. found.0 ≡ write_answer (length from) (min (length from) (65536 - length (waiting x.pipe))))
    → pipes.items ≡ set d.pipes.items i (with_held x (after_write x.pipe from (without_mode result)))
    → Makes w d (with_pipes_in d q pipes) me (call_plan (limits_of w) (progress_of d) me (call.Pwrite c bytes))
    (write_reply result)
write_said w d q me c bytes from i x pipes result same may at is lawful ran ready answer items =
    written w d q me c bytes i x pipes result may at is lawful ran ready
    (subst (λ (b : List ℕ). IfOk result
    (λ found. found.0 ≡ write_answer (length b) (min (length b) (65536 - length (waiting x.pipe))))) same answer)
    (items ∙ ap (λ (b : List ℕ). set d.pipes.items i (with_held x (after_write x.pipe b (without_mode result)))) same)

-- a place that was found among the same pipes
pub source_found : (d : Desk) (me : CallerNo) (c : ChanId) (place : Option ℕ) (xs : List OwnedPipe)
    → place ≡ position (λ x. is_same_id x.pipe.source c && (x.reader.0 == me.0)) xs → xs ≡ d.pipes.items
    → IsSourceAt d me c place
source_found d me c place xs is same =
    is ∙ ap (position (λ (x : OwnedPipe). is_same_id x.pipe.source c && (x.reader.0 == me.0))) same

pub sink_found : (d : Desk) (me : CallerNo) (c : ChanId) (place : Option ℕ) (xs : List OwnedPipe)
    → place ≡ position (λ x. is_same_id x.pipe.sink c && (x.writer.0 == me.0)) xs → xs ≡ d.pipes.items
    → IsSinkAt d me c place
sink_found d me c place xs is same =
    is ∙ ap (position (λ (x : OwnedPipe). is_same_id x.pipe.sink c && (x.writer.0 == me.0))) same

-- with a reply that is the same
pub said_so : {w : Words} {d d' : Desk} {me : CallerNo} {plan : Plan Said} {r r' : Reply} → r' ≡ r
    → Makes w d d' me plan r → Makes w d d' me plan r'
said_so {w = w} {d = d} {d' = d'} {me = me} {plan = plan} same makes =
    subst (λ (x : Reply). Makes w d d' me plan x) (sym same) makes

-- ---- closing

pub close_none : (w : Words) (d : Desk) (q : Pass) (me : CallerNo) (c : ChanId) (closes : Bool)
    → MayMake w d me (call.Closec c) → IsSinkAt d me c None
    → CallClause me (Completes (close_channel_plan (limits_of w) c)) (view w d.pass) (view w q) closes → IsReady w q me
    → Makes w d (record d { pass = q }) me (call_plan (limits_of w) (progress_of d) me (call.Closec c))
    (closed_reply closes)
unfolding call_plan
close_none w d q me c closes may none ran ready =
    let now = progress_of d in
    record {
      call = left_as (makes_ran closed_reply (λ _. with_seal now (own_sink now.pipes me c)) ran)
          (ap (with_seal now) (own_sink_is d me c None none));
      ready = ready;
      places = places_same q ran may.places;
    }

pub close_made : (w : Words) (d : Desk) (q : Pass) (me : CallerNo) (c : ChanId) (i : ℕ) (x : OwnedPipe)
    (pipes : Vec OwnedPipe Global) (closes : Bool) → MayMake w d me (call.Closec c)
    → IsSinkAt d me c (Some i) → x ≡ get_or d.pipes.items i x
    → CallClause me (Completes (close_channel_plan (limits_of w) x.pipe.sink)) (view w d.pass) (view w q) closes
    → IsReady w q me
    → pipes.items ≡ set d.pipes.items i (with_held x (after_end x.pipe))
    → Makes w d (with_pipes_in d q pipes) me (call_plan (limits_of w) (progress_of d) me (call.Closec c))
    (closed_reply closes)
unfolding call_plan
close_made w d q me c i x pipes closes may at is ran ready items =
    let l = limits_of w in
    let now = progress_of d in
    let here = sink_at d me c i x at is in
    let x' = with_held x (after_end x.pipe) in
    let call : CallClause me (Completes (close_channel_plan l c)) (view w d.pass) (view w q) closes =
    subst (λ (s : ChanId). CallClause me (Completes (close_channel_plan l s)) (view w d.pass) (view w q) closes) here.1
    ran in
    record {
      call = left_as (makes_ran closed_reply (λ _. with_seal now (own_sink now.pipes me c)) call)
          (ap (with_seal now) (own_sink_is d me c (Some i) at)
          ∙ ap {B = Progress} (λ (ps : List Pipe). record now { pipes = ps })
          (ap {B = List Pipe} (λ (p : Pipe). set (pipes_of d.pipes.items) i (record p { sealed = true }))
          (shown_at d.pipes.items i x here.0 is)
          ∙ (sym (shown_set d.pipes.items i x') ∙ ap pipes_of (sym items))));
      ready = ready;
      places = places_pipes may.places (subst (AreMade (view w q)) (sym items)
          (made_set (view w q) d.pipes.items i x x' (still_made q may.places call) here.0 is refl refl));
    }

-- ---- making

pipe_ran : {me : CallerNo} (l : Limits) {answer : Result PipeEnds PipeMakeError} {v0 v1 : PassView}
    → CallClause me (MakesPipe l) v0 v1 answer
    → CallClause me (Completes (pipe_plan l (pipe_lacks_memory answer))) v0 v1 answer
pipe_ran l {answer = answer} call =
    call_as (Completes (pipe_plan l (pipe_lacks_memory answer))) answer (λ acts run. run) call

pub pipe_made : (w : Words) (d : Desk) (q : Pass) (me target : CallerNo) (pipe : Held) (pipes : Vec OwnedPipe Global)
    → MayMake w d me (call.Pipe target)
    → CallClause me (MakesPipe (limits_of w)) (view w d.pass) (view w q)
    (Ok (record { source = pipe.source; sink = pipe.sink })) → IsReady w q me
    → HasEnds (view w q) pipe.source pipe.sink → pipe ≡ new_held pipe.source pipe.sink
    → pipes.items ≡ d.pipes.items ++ record { reader = me; writer = target; pipe = pipe } ∷ []
    → Makes w d (with_pipes_in d q pipes) me (call_plan (limits_of w) (progress_of d) me (call.Pipe target))
    (reply.Ends pipe.source pipe.sink)
unfolding call_plan
pipe_made w d q me target pipe pipes may ran ready ends empty items =
    let now = progress_of d in
    let x : OwnedPipe = record { reader = me; writer = target; pipe = pipe } in
    let new : OwnedPipe = record { reader = me; writer = target; pipe = new_held pipe.source pipe.sink } in
    let call = pipe_ran (limits_of w) ran in
    record {
      call = left_as (makes_ran ends_reply (after_pipe now me target) call)
          (ap {B = Progress} (λ (ps : List Pipe). record now { pipes = ps })
          (ap (λ (h : Held). pipes_of d.pipes.items ++ pipe_of (record { reader = me; writer = target; pipe = h }) ∷ [])
          (sym empty)
          ∙ (sym (map-append pipe_of d.pipes.items (x ∷ [])) ∙ ap pipes_of (sym items))));
      ready = ready;
      places = places_pipes may.places (subst (AreMade (view w q)) (sym items)
          (All-append (AreEnds (view w q)) d.pipes.items (x ∷ []) (still_made q may.places ran)
          (All-cons (AreEnds (view w q)) x [] ends (All-nil (AreEnds (view w q))))));
    }

-- the room was taken, and no pipe was made
pub pipe_refused : (w : Words) (d : Desk) (q : Pass) (me target : CallerNo) (pipes : Vec OwnedPipe Global)
    → MayMake w d me (call.Pipe target)
    → CallClause me (MakesPipe (limits_of w)) (view w d.pass) (view w q) (Err PipeMakeError.ChannelsSpent)
    → IsReady w q me → pipes.items ≡ d.pipes.items
    → Makes w d (with_pipes_in d q pipes) me (call_plan (limits_of w) (progress_of d) me (call.Pipe target))
    reply.ChannelsSpent
unfolding call_plan
pipe_refused w d q me target pipes may ran ready items =
    let now = progress_of d in
    let call = pipe_ran (limits_of w) ran in
    record {
      call = left_as (makes_ran ends_reply (after_pipe now me target) call)
          (ap {B = Progress} (λ (xs : List OwnedPipe). record now { pipes = pipes_of xs }) (sym items));
      ready = ready;
      places = places_pipes may.places (subst (AreMade (view w q)) (sym items) (still_made q may.places ran));
    }

-- a plan that is over has no act
no_act : {R : Type 0} (given answer : R) (acts : List Act) → Completes (Plan.reply given) acts answer → acts ≡ []
no_act given answer [] run = refl
no_act given answer (act ∷ acts) run = absurd run

-- the room was taken, and there was no memory for the pipe
pub pipe_lacks : (w : Words) (d : Desk) (q : Pass) (me target : CallerNo) (pipes : Vec OwnedPipe Global)
    → MayMake w d me (call.Pipe target)
    → CallClause me (MakesPipe (limits_of w)) (view w d.pass) (view w q) (Err PipeMakeError.Memory) → IsReady w q me
    → pipes.items ≡ d.pipes.items
    → Lacks (λ plan. plan) w d (with_pipes_in d q pipes) me (call.Pipe target)
unfolding pipe_plan
pipe_lacks w d q me target pipes may ran ready items =
    let now = progress_of d in
    let same = ap {B = Progress} (λ (xs : List OwnedPipe). record now { pipes = pipes_of xs }) (sym items) in
    record {
      call = lacks_ran (call.Pipe target) (pipe_ran (limits_of w) ran) (λ acts run. no_act _ _ acts run);
      ready = ready;
      places = places_pipes may.places (subst (AreMade (view w q)) (sym items) (still_made q may.places ran));
      same = sym same;
    }

-- there was no room
pub pipe_unplaced : (w : Words) (d : Desk) (me target : CallerNo) (pipes : Vec OwnedPipe Global)
    → MayMake w d me (call.Pipe target) → pipes.items ≡ d.pipes.items
    → Lacks (λ plan. plan) w d (with_pipes_in d d.pass pipes) me (call.Pipe target)
pipe_unplaced w d me target pipes may items =
    let now = progress_of d in
    let same = ap {B = Progress} (λ (xs : List OwnedPipe). record now { pipes = pipes_of xs }) (sym items) in
    record {
      call = lacks_at (call.Pipe target) (view w d.pass) may.ask.ready.pass.legal refl;
      ready = may.ask.ready;
      places = places_pipes may.places (subst (AreMade (view w d.pass)) (sym items) may.places.pipes);
      same = sym same;
    }

pub read_lacks : (w : Words) (d : Desk) (me : CallerNo) (c : ChanId) (n : ℕ) → MayMake w d me (call.Pread c n)
    → Lacks (λ plan. plan) w d d me (call.Pread c n)
read_lacks w d me c n may = record {
  call = lacks_at (call.Pread c n) (view w d.pass) may.ask.ready.pass.legal refl;
  ready = may.ask.ready;
  places = may.places;
  same = refl;
}
