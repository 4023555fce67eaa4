-- A line on the bytes of a pipe: its look-up, its call, and what stands after it.
use Rattle.std.proofs.Common.{◌≡◌, ◌≢◌, ℕ, ◌<◌, Bool, true, false, ◌||◌, Option, Some, None, Result, Ok, Err}
use Rattle.std.proofs.Common.{IfOk, List, [], length, get_or, min, set, position, All, refl, sym, ap, ◌∙◌}
use Rattle.std.proofs.Common.{not, subst, arith, ◌+◌, ◌≤◌}
use Rattle.std.specs.Option.{is_some}
use Rattle.std.proofs.Math.Logic.{∥∥₁_map}
use Rattle.std.proofs.lemmas.List.{append-nil}
use Rattle.std.proofs.lemmas.List.Elements.{All-set}
use Rattle.std.proofs.lemmas.List.Quantifiers.{position-Some}
use Rattle.std.specs.List.{AllPairs}
use Rattle.std.specs.Prelude.{OnOk, Vec}
use Rattle.std.specs.declared.alloc.Global.{Global}
use Rattle.nio_base.specs.declared.numbers.CallerNo.{CallerNo}
use Rattle.nio_base.specs.declared.numbers.ChanId.{ChanId}
use Rattle.nio_history.specs.PassViews.{HasChannel, done_between}
use Rattle.nio_history.specs.declared.act.Act.{Act}
use Rattle.nio_language.specs.declared.call.Call.TheVariants as call
use Rattle.nio_language.specs.declared.reply.Reply.{Reply}
use Rattle.nio_language.specs.declared.reply.Reply.TheVariants as reply
use Rattle.nio_orderly.specs.Made.{IsRun, Made, MayCome, after_call, after_calls, table_call, waiting_call}
use Rattle.nio_pipe.specs.Answers.{bytes_read, bytes_written, leaves_seal, read_answer, read_waits, write_answer}
use Rattle.nio_pipe.specs.Answers.{write_waits}
use Rattle.nio_pipe.specs.Calls.{HasEnds, WaitsToRead, WaitsToWrite}
use Rattle.nio_pipe.specs.Ends.{GivesBytes, HadNoByte, HadNoPlace, HasTriedToRead, HasTriedToWrite, IsAtEnd}
use Rattle.nio_pipe.specs.Ends.{IsSameSink, IsSameSource, KnowsNothing}
use Rattle.nio_pipe.specs.Ends.{TakesBytes, free, is_sealed, known, other_chan, sink_chan, source_chan}
use Rattle.nio_pipe.specs.declared.answers.PipeRead.{PipeRead}
use Rattle.nio_pipe.specs.declared.answers.PipeWrite.{PipeWrite}
use Rattle.nio_pipe.specs.declared.sink.PipeSink.{PipeSink}
use Rattle.nio_pipe.specs.declared.source.PipeSource.{PipeSource}
use Rattle.nio_race.proofs.EndLines.{FindsRoom, read_goes_on, read_said, read_stays, sink_written, source_read}
use Rattle.nio_race.proofs.EndLines.{write_goes_on, write_said, write_stays}
use Rattle.nio_race.proofs.EndLists.{differ_set, find_none, find_some}
use Rattle.nio_race.proofs.EndSays.{read_zero, reads_to, writes_to}
use Rattle.nio_race.proofs.LineEnds.{ends_still_made}
use Rattle.nio_race.proofs.Standing.{stands_made}
use Rattle.nio_race.specs.Ends.{HasMadeEnds, ends_of, ends_of_sink}
use Rattle.nio_race.specs.PipeFinds.{ReadFinds, WriteFinds}
use Rattle.nio_race.specs.Piping.{LooksAndReads, LooksAndWrites, ReadsFound, ReadsOwn, WritesFound, WritesOwn, own_sink}
use Rattle.nio_race.specs.Piping.{own_source}
use Rattle.nio_race.specs.Racers.{CalledOn, StandsFor, StandsWith}
use Rattle.nio_race.specs.declared.ends.OwnEnds.{OwnEnds}
use Rattle.nio_plain.specs.Seq.Pipes.{is_same_id}
use Rattle.nio_serial.specs.Left.{IsOngoing}
use Rattle.nio_sole.proofs.Calls.{made_more}
use Rattle.nio_sole.proofs.Desks.{places_same}
use Rattle.nio_sole.proofs.ChannelNames.{channel_is}
use Rattle.nio_sole.specs.Made.{HasMade}
use Rattle.nio_sole.specs.Stands.{progress_of}
use Rattle.nio_sole.specs.declared.desk.Desk.{Desk}
use Rattle.nio_steps.proofs.CallLaws.{call_as}
use Rattle.nio_steps.proofs.WaitingLaws.{then_call}
use Rattle.nio_steps.specs.Calls.{CallClause}
use Rattle.nio_steps.specs.KeyCalls.{find_channel_plan}
use Rattle.nio_steps.specs.Ongoing.{Ongoing, nothing_ongoing}
use Rattle.nio_steps.specs.PipeCalls.{PipeEnds, Reads, Writes}
use Rattle.nio_steps.specs.Runs.{Completes}
use Rattle.nio_steps.specs.TableCalls.{find_channel, read, write}
use Rattle.nio_steps.specs.declared.refusal.PipeError.{PipeError}
use Rattle.nio_steps.specs.declared.refusal.PipeError.TheVariants.{AsynchronousClose}
use Rattle.nio_words.specs.Passes.{IsReady, acts_seen, limits_of}
use Rattle.nio_words.specs.Views.{view}
use Rattle.nio_words.specs.declared.words.Pass.{Pass}
use Rattle.nio_words.specs.declared.words.Words.{Words}

abbrev pub with_pass : Desk → Pass → Desk
with_pass d q = record d { pass = q }

abbrev pub LooksUp : Words → CallerNo → ChanId → Pass → Pass → Option ChanId → Type 0
LooksUp w me c p q found =
    CallClause me (Completes (find_channel_plan (limits_of w) c.number.0 c.serial)) (view w p) (view w q) found

-- the place of the source, or the sink, with this channel
abbrev pub IsSourcePlace : OwnEnds → ChanId → Option ℕ → Type 0
IsSourcePlace ends c place = place ≡ position (λ s. is_same_id (source_chan s) c) ends.sources.items

abbrev pub IsSinkPlace : OwnEnds → ChanId → Option ℕ → Type 0
IsSinkPlace ends c place = place ≡ position (λ s. is_same_id (sink_chan s) c) ends.sinks.items

pub source_inside : (ends : OwnEnds) (c : ChanId) (place : ℕ) → IsSourcePlace ends c (Some place)
    → (old : PipeSource) → place < length ends.sources.items
source_inside ends c place at old =
    (position-Some (λ (s : PipeSource). is_same_id (source_chan s) c) ends.sources.items place old (sym at)).0

pub source_its : (ends : OwnEnds) (c : ChanId) (place : ℕ) (old : PipeSource) → IsSourcePlace ends c (Some place)
    → old ≡ get_or ends.sources.items place old → source_chan old ≡ c
source_its ends c place old at here =
    ap source_chan here
    ∙ channel_is (source_chan (get_or ends.sources.items place old)) c
    (position-Some (λ (s : PipeSource). is_same_id (source_chan s) c) ends.sources.items place old (sym at)).1

pub sink_inside : (ends : OwnEnds) (c : ChanId) (place : ℕ) → IsSinkPlace ends c (Some place)
    → (old : PipeSink) → place < length ends.sinks.items
sink_inside ends c place at old =
    (position-Some (λ (s : PipeSink). is_same_id (sink_chan s) c) ends.sinks.items place old (sym at)).0

pub sink_its : (ends : OwnEnds) (c : ChanId) (place : ℕ) (old : PipeSink) → IsSinkPlace ends c (Some place)
    → old ≡ get_or ends.sinks.items place old → sink_chan old ≡ c
sink_its ends c place old at here =
    ap sink_chan here
    ∙ channel_is (sink_chan (get_or ends.sinks.items place old)) c
    (position-Some (λ (s : PipeSink). is_same_id (sink_chan s) c) ends.sinks.items place old (sym at)).1

-- a place that was found among the same ends
pub source_found : (ends : OwnEnds) (c : ChanId) (place : Option ℕ) (xs : List PipeSource)
    → place ≡ position (λ s. is_same_id (source_chan s) c) xs → xs ≡ ends.sources.items → IsSourcePlace ends c place
source_found ends c place xs is same = is ∙ ap (position (λ (s : PipeSource). is_same_id (source_chan s) c)) same

pub sink_found : (ends : OwnEnds) (c : ChanId) (place : Option ℕ) (xs : List PipeSink)
    → place ≡ position (λ s. is_same_id (sink_chan s) c) xs → xs ≡ ends.sinks.items → IsSinkPlace ends c place
sink_found ends c place xs is same = is ∙ ap (position (λ (s : PipeSink). is_same_id (sink_chan s) c)) same

-- ---- whether the look-up found the channel

pub looks_nowhere : (w : Words) (me : CallerNo) (c : ChanId) (p q : Pass) (found : Option ChanId) (b : Bool)
    → is_some found ≡ not b → b ≡ true → LooksUp w me c p q found → LooksUp w me c p q None
looks_nowhere w me c p q None b some none looks = looks
looks_nowhere w me c p q (Some x) b some none looks =
    let clash : true ≡ false = some ∙ ap not none in absurd (cc clash)

pub found_of : (found : Option ChanId) (b : Bool) → is_some found ≡ not b → b ≡ false → ChanId
found_of (Some x) b some none = x
found_of None b some none = let clash : false ≡ true = some ∙ ap not none in absurd (cc clash)

pub looks_found : (w : Words) (me : CallerNo) (c : ChanId) (p q : Pass) (found : Option ChanId) (b : Bool)
    (some : is_some found ≡ not b) (there : b ≡ false) → LooksUp w me c p q found
    → LooksUp w me c p q (Some (found_of found b some there))
unfolding found_of
looks_found w me c p q (Some x) b some there looks = looks
looks_found w me c p q None b some there looks =
    let clash : false ≡ true = some ∙ ap not there in absurd (cc clash)

-- ---- what stands after a call that begins and ends nothing

pub stands_called : {R : Type 0} {Shape : List Act → R → Type 0} {answer : R} (w : Words) (d : Desk) (q : Pass)
    (me : CallerNo) (made : Made) → StandsFor w d me → IsReady w q me
    → CallClause me Shape (view w d.pass) (view w q) answer
    → IsRun (limits_of w) made (done_between me (view w d.pass) (view w q))
    → ((o : Ongoing) → MayCome o made) → ((o : Ongoing) → after_call o made ≡ o) → StandsFor w (with_pass d q) me
stands_called w d q me made stands ready call run may quiet =
    stands_made w (with_pass d q) me stands.caller ready (places_same q call stands.places)
    (∥∥₁_map stands.made
    (λ m. subst (λ (acts : List Act). HasMade (limits_of w) acts me (progress_of d)) (sym call.acts.history.own)
    (made_more (limits_of w) (acts_seen d.pass me) (done_between me (view w d.pass) (view w q)) me (progress_of d)
    (progress_of d) made m run (may (after_calls nothing_ongoing m.calls))
    (subst (IsOngoing me (progress_of d)) (sym (quiet (after_calls nothing_ongoing m.calls))) m.ongoing))))

pub stands_looked : (w : Words) (d : Desk) (q : Pass) (ends : OwnEnds) (me : CallerNo) (c : ChanId)
    (found : Option ChanId) → StandsWith w d ends me → IsReady w q me → LooksUp w me c d.pass q found
    → StandsWith w (with_pass d q) ends me
stands_looked w d q ends me c found stands ready looks = record {
  stands = stands_called w d q me (table_call (find_channel c.number.0 c.serial) found) stands.stands ready looks
      looks.shape (λ o. tt)
      (λ o. refl);
  made_ends = ends_still_made w d (with_pass d q) ends looks stands.made_ends;
  pipeless = stands.pipeless;
}

-- ---- other ends in their place

pub made_sources : (w : Words) (d : Desk) (ends : OwnEnds) (place : ℕ) (old new : PipeSource)
    (sources : Vec PipeSource Global) → place < length ends.sources.items
    → old ≡ get_or ends.sources.items place old → source_chan new ≡ source_chan old
    → sources.items ≡ set ends.sources.items place new → HasMadeEnds w d ends
    → HasMadeEnds w d (record ends { sources = sources })
made_sources w d ends place old new sources inside here same items made = record {
  sources =
      let P : PipeSource → Type 0 = λ source. HasChannel (view w d.pass) (source_chan source) in
      subst (All P) (sym items)
      (All-set P ends.sources.items place new
      (subst (HasChannel (view w d.pass)) (sym (same ∙ ap source_chan here)) (made.sources place old inside))
      made.sources);
  sinks = made.sinks;
  sources_differ =
      subst (AllPairs (λ a b. source_chan a ≢ source_chan b)) (sym items)
      (differ_set source_chan ends.sources.items place old new inside here same made.sources_differ);
  sinks_differ = made.sinks_differ;
}

pub made_sinks : (w : Words) (d : Desk) (ends : OwnEnds) (place : ℕ) (old new : PipeSink)
    (sinks : Vec PipeSink Global) → place < length ends.sinks.items
    → old ≡ get_or ends.sinks.items place old → IsSameSink old new
    → sinks.items ≡ set ends.sinks.items place new → HasMadeEnds w d ends
    → HasMadeEnds w d (record ends { sinks = sinks })
made_sinks w d ends place old new sinks inside here same items made = record {
  sources = made.sources;
  sinks =
      let P : PipeSink → Type 0 = λ sink. HasEnds (view w d.pass) (other_chan sink) (sink_chan sink) in
      let has : P old = subst P (sym here) (made.sinks place old inside) in
      subst (All P) (sym items)
      (All-set P ends.sinks.items place new
      (subst (λ (c : ChanId). HasEnds (view w d.pass) c (sink_chan new)) (sym same.other)
      (subst (λ (c : ChanId). HasEnds (view w d.pass) (other_chan old) c) (sym same.channel) has))
      made.sinks);
  sources_differ = made.sources_differ;
  sinks_differ =
      subst (AllPairs (λ a b. sink_chan a ≢ sink_chan b)) (sym items)
      (differ_set sink_chan ends.sinks.items place old new inside here same.channel made.sinks_differ);
}

-- ---- a read

-- it may be made
pub may_read : (w : Words) (d : Desk) (ends : OwnEnds) (me : CallerNo) (place : ℕ) (old : PipeSource)
    → StandsWith w d ends me → place < length ends.sources.items → old ≡ get_or ends.sources.items place old
    → HasChannel (view w d.pass) (source_chan old)
may_read w d ends me place old stands inside here =
    subst (λ (s : PipeSource). HasChannel (view w d.pass) (source_chan s)) (sym here)
    (stands.made_ends.sources place old inside)

-- the call that was made
record HasRead (w : Words) (c : ChanId) (acts : List Act) : Type 0 where
  none : Bool
  found : Result Bool PipeError
  reads : Reads (limits_of w) c none acts found

has_read : (w : Words) (c : ChanId) (acts : List Act) (answer : Result PipeRead PipeError)
    (Had : Result PipeRead PipeError → ℕ → Type 0) → WaitsToRead (limits_of w) c Had acts answer → HasRead w c acts
has_read w c acts (Ok answer) Had waits =
    record { none = read_waits (Ok answer); found = Ok waits.0; reads = waits.1.waits }
has_read w c acts (Err refusal) Had waits = record { none = false; found = Err refusal; reads = waits.waits }

-- a read that answers `Bytes 0` had no place for a byte
asked_nothing : {n : ℕ} (before : List ℕ) (answer : Result PipeRead PipeError) (sealed : Bool)
    → length before ≡ min 65536 n → IfOk answer (λ a. a ≡ read_answer (length before) (bytes_read answer) sealed)
    → answer ≡ Ok (PipeRead.Bytes 0) → n ≡ 0
asked_nothing {n = n} before (Ok found) sealed room answers is =
    let none : found ≡ PipeRead.Bytes 0 = cc is in
    let says : PipeRead.Bytes 0 ≡ read_answer (length before) 0 sealed =
    subst (λ (a : PipeRead). a ≡ read_answer (length before) (bytes_read (Ok a)) sealed) none answers in
    let empty : length before ≡ 0 = read_zero (length before) sealed says in
    omega (arith, empty, room)
asked_nothing before (Err refusal) sealed room answers is = absurd (cc is)

module _ (w : Words) (d : Desk) (ends : OwnEnds) (me : CallerNo) (c : ChanId) (n : ℕ) where
  -- the channel wasn't found
  pub reads_nowhere : (q : Pass) → LooksUp w me c d.pass q None
      → CalledOn w d (with_pass d q) ends ends me (call.Pread c n) reply.NoChannel
  reads_nowhere q looks = record {
    made =
        call_as (LooksAndReads (limits_of w) (ends_of ends) (progress_of d) c n)
        (record { reply = reply.NoChannel; left = progress_of d })
        (λ xs run. record {
          first = xs;
          middle = None;
          second = [];
          parts = sym (append-nil xs);
          runs_first = run;
          runs_second = (refl, refl);
        }) looks;
    went_on = read_stays c n reply.NoChannel ends refl (λ same. absurd (cc same))
        (λ a. ReadFinds.has_no_channel);
  }

  -- none of the sources has it
  pub reads_unowned : (q : Pass) (found : ChanId) → LooksUp w me c d.pass q (Some found) → IsSourcePlace ends c None
      → CalledOn w d (with_pass d q) ends ends me (call.Pread c n) reply.NotOwner
  reads_unowned q found looks at =
      let own : own_source (ends_of ends) c ≡ None =
      find_none (λ (x : ChanId). is_same_id x c) source_chan ends.sources.items (sym at) in
      record {
        made =
            call_as (LooksAndReads (limits_of w) (ends_of ends) (progress_of d) c n)
            (record { reply = reply.NotOwner; left = progress_of d })
            (λ xs run. record {
              first = xs;
              middle = Some found;
              second = [];
              parts = sym (append-nil xs);
              runs_first = run;
              runs_second =
                  subst (λ (o : Option ChanId). ReadsOwn (limits_of w) (progress_of d) c n o []
                  (record { reply = reply.NotOwner; left = progress_of d })) (sym own) (refl, refl);
            }) looks;
        went_on = read_stays c n reply.NotOwner ends refl (λ same. absurd (cc same))
            (λ a. ReadFinds.is_not_owner);
      }

  module _ (q q' : Pass) (found : ChanId) (place : ℕ) (old new : PipeSource) (sources : Vec PipeSource Global)
      (before after : List ℕ) (answer : Result PipeRead PipeError) (sealed : Bool) (stands : StandsWith w d ends me)
      (looks : LooksUp w me c d.pass q (Some found)) (ready : IsReady w q me) (at : IsSourcePlace ends c (Some place))
      (here : old ≡ get_or ends.sources.items place old)
      (reads : CallClause me (WaitsToRead (limits_of w) (source_chan old) (HasTriedToRead old new before)) (view w q)
      (view w q') answer)
      (same : IsSameSource old new) (items : sources.items ≡ set ends.sources.items place new) where
    inside : place < length ends.sources.items
    inside = source_inside ends c place at old

    its : source_chan old ≡ c
    its = source_its ends c place old at here

    reads_its : CallClause me (WaitsToRead (limits_of w) c (HasTriedToRead old new before)) (view w q) (view w q')
        answer
    reads_its =
        subst
        (λ (x : ChanId). CallClause me (WaitsToRead (limits_of w) x (HasTriedToRead old new before)) (view w q)
        (view w q') answer) its reads

    says_read : length before ≡ min 65536 n → length after ≡ length before
        → GivesBytes old new before after (bytes_read answer)
        → IfOk answer (λ a. a ≡ read_answer (length before) (bytes_read answer) sealed)
        → OnOk answer (bytes_read answer < length before → known new ≡ [])
        → (answer ≡ Ok PipeRead.NotYet → KnowsNothing old × KnowsNothing new)
        → (answer ≡ Ok PipeRead.End → IsAtEnd new)
        → (answer ≡ Err AsynchronousClose → HadNoByte old new before answer)
        → CalledOn w d (with_pass d q') ends (record ends { sources = sources }) me (call.Pread c n)
        (read_said answer after)
    says_read room size gives answers most not_yet at_end closed =
        let r = read_said answer after in
        let own : own_source (ends_of ends) c ≡ Some (source_chan old) =
        find_some (λ (x : ChanId). is_same_id x c) source_chan ends.sources.items place old (sym at) here in
        record {
          made =
              then_call looks
              (call_as (ReadsFound (limits_of w) (ends_of ends) (progress_of d) c n (Some found))
              (record { reply = r; left = progress_of d })
              (λ xs waits. subst (λ (o : Option ChanId). ReadsOwn (limits_of w) (progress_of d) c n o xs
              (record { reply = r; left = progress_of d })) (sym own) (
                reads_to (limits_of w) c n (length before) xs sealed after (HasTriedToRead old new before) room size
                    (λ _ _ tried some. (tried.had some).room) answer gives.fit answers
                    (λ is. let had = closed is in omega (arith, had.room, room)) waits,
                refl,
              )) reads_its);
          went_on =
              read_goes_on c n r ends place old new sources inside here its stands.made_ends.sources_differ items
              (source_read c n old new before after answer its same gives (record {
                room = room;
                size = size;
                most = most;
                not_yet = not_yet;
                at_end = at_end;
                asked = asked_nothing before answer sealed room answers;
                closed = closed;
              }));
        }

    pub reads_own : (r : Reply) → r ≡ read_said answer after → length before ≡ min 65536 n
        → length after ≡ length before → GivesBytes old new before after (bytes_read answer)
        → IfOk answer (λ a. a ≡ read_answer (length before) (bytes_read answer) sealed)
        → OnOk answer (bytes_read answer < length before → known new ≡ [])
        → (answer ≡ Ok PipeRead.NotYet → KnowsNothing old × KnowsNothing new)
        → (answer ≡ Ok PipeRead.End → IsAtEnd new)
        → (answer ≡ Err AsynchronousClose → HadNoByte old new before answer)
        → CalledOn w d (with_pass d q') ends (record ends { sources = sources }) me (call.Pread c n) r
    reads_own r said room size gives answers most not_yet at_end closed =
        subst
        (λ (x : Reply). CalledOn w d (with_pass d q') ends (record ends { sources = sources }) me (call.Pread c n) x)
        (sym said) (says_read room size gives answers most not_yet at_end closed)

    pub stands_read : IsReady w q' me → StandsWith w (with_pass d q') (record ends { sources = sources }) me
    stands_read ready' =
        let d1 = with_pass d q in
        let looked : StandsWith w d1 ends me = stands_looked w d q ends me c (Some found) stands ready looks in
        let run = has_read w c (done_between me (view w q) (view w q')) answer (HasTriedToRead old new before)
        reads_its.shape in
        record {
          stands = stands_called w d1 q' me (waiting_call (read c run.none) run.found) looked.stands ready' reads_its
              run.reads
              (λ o. tt) (λ o. refl);
          made_ends = made_sources w (with_pass d q') ends place old new sources inside here same.channel items
              (ends_still_made w d1 (with_pass d q') ends reads_its looked.made_ends);
          pipeless = stands.pipeless;
        }

-- ---- a write

pub may_write : (w : Words) (d : Desk) (ends : OwnEnds) (me : CallerNo) (place : ℕ) (old : PipeSink)
    → StandsWith w d ends me → place < length ends.sinks.items → old ≡ get_or ends.sinks.items place old
    → HasEnds (view w d.pass) (other_chan old) (sink_chan old)
may_write w d ends me place old stands inside here =
    subst (λ (s : PipeSink). HasEnds (view w d.pass) (other_chan s) (sink_chan s)) (sym here)
    (stands.made_ends.sinks place old inside)

record HasWritten (w : Words) (source sink : ChanId) (acts : List Act) : Type 0 where
  none : Bool
  found : Result Bool PipeError
  writes : Writes (limits_of w) source sink none acts found

has_written : (w : Words) (source sink : ChanId) (acts : List Act) (answer : Result PipeWrite PipeError)
    (Had : Result PipeWrite PipeError → ℕ → Type 0) → WaitsToWrite (limits_of w) source sink Had acts answer
    → HasWritten w source sink acts
has_written w source sink acts (Ok answer) Had waits =
    record { none = write_waits (Ok answer); found = Ok waits.0; writes = waits.1.waits }
has_written w source sink acts (Err refusal) Had waits =
    record { none = false; found = Err refusal; writes = waits.waits }

module _ (w : Words) (d : Desk) (ends : OwnEnds) (me : CallerNo) (c : ChanId) (bytes : List ℕ) where
  pub writes_nowhere : (q : Pass) → LooksUp w me c d.pass q None
      → CalledOn w d (with_pass d q) ends ends me (call.Pwrite c bytes) reply.NoChannel
  writes_nowhere q looks = record {
    made =
        call_as (LooksAndWrites (limits_of w) (ends_of ends) (progress_of d) c bytes)
        (record { reply = reply.NoChannel; left = progress_of d })
        (λ xs run. record {
          first = xs;
          middle = None;
          second = [];
          parts = sym (append-nil xs);
          runs_first = run;
          runs_second = (refl, refl);
        }) looks;
    went_on = write_stays c bytes reply.NoChannel ends refl refl (λ room. WriteFinds.has_no_channel);
  }

  pub writes_unowned : (q : Pass) (found : ChanId) → LooksUp w me c d.pass q (Some found) → IsSinkPlace ends c None
      → CalledOn w d (with_pass d q) ends ends me (call.Pwrite c bytes) reply.NotOwner
  writes_unowned q found looks at =
      let own : own_sink (ends_of ends) c ≡ None =
      find_none (λ (x : PipeEnds). is_same_id x.sink c) ends_of_sink ends.sinks.items (sym at) in
      record {
        made =
            call_as (LooksAndWrites (limits_of w) (ends_of ends) (progress_of d) c bytes)
            (record { reply = reply.NotOwner; left = progress_of d })
            (λ xs run. record {
              first = xs;
              middle = Some found;
              second = [];
              parts = sym (append-nil xs);
              runs_first = run;
              runs_second =
                  subst (λ (o : Option PipeEnds). WritesOwn (limits_of w) (progress_of d) bytes o []
                  (record { reply = reply.NotOwner; left = progress_of d })) (sym own) (refl, refl);
            }) looks;
        went_on = write_stays c bytes reply.NotOwner ends refl refl (λ room. WriteFinds.is_not_owner);
      }

  module _ (q q' : Pass) (found : ChanId) (place : ℕ) (old new : PipeSink) (sinks : Vec PipeSink Global)
      (answer : Result PipeWrite PipeError) (from : List ℕ) (stands : StandsWith w d ends me)
      (looks : LooksUp w me c d.pass q (Some found)) (ready : IsReady w q me) (at : IsSinkPlace ends c (Some place))
      (here : old ≡ get_or ends.sinks.items place old)
      (writes : CallClause me
      (WaitsToWrite (limits_of w) (other_chan old) (sink_chan old) (HasTriedToWrite old new from)) (view w q) (view w q')
      answer)
      (same : IsSameSink old new) (items : sinks.items ≡ set ends.sinks.items place new) where
    sink_in : place < length ends.sinks.items
    sink_in = sink_inside ends c place at old

    says_written : from ≡ bytes → TakesBytes old new bytes (bytes_written answer)
        → is_sealed new ≡ (is_sealed old || leaves_seal answer)
        → IfOk answer (λ a. a ≡ write_answer (length bytes) (bytes_written answer)) → FindsRoom bytes old new answer
        → CalledOn w d (with_pass d q') ends (record ends { sinks = sinks }) me (call.Pwrite c bytes)
        (write_said answer)
    says_written same_bytes takes seals answers finds =
        let r = write_said answer in
        let own : own_sink (ends_of ends) c ≡ Some (ends_of_sink old) =
        find_some (λ (x : PipeEnds). is_same_id x.sink c) ends_of_sink ends.sinks.items place old (sym at) here in
        let its = sink_its ends c place old at here in
        record {
          made =
              then_call looks
              (call_as (WritesFound (limits_of w) (ends_of ends) (progress_of d) c bytes (Some found))
              (record { reply = r; left = progress_of d })
              (λ xs waits. subst (λ (o : Option PipeEnds). WritesOwn (limits_of w) (progress_of d) bytes o xs
              (record { reply = r; left = progress_of d })) (sym own) (
                writes_to (limits_of w) (ends_of_sink old) bytes xs (HasTriedToWrite old new bytes)
                    (λ _ _ tried some. (tried.had some).bytes) answer takes.fit answers
                    (λ is. (finds.closed is).bytes) waits,
                refl,
              ))
              (subst
              (λ (ys : List ℕ). CallClause me
              (WaitsToWrite (limits_of w) (other_chan old) (sink_chan old) (HasTriedToWrite old new ys)) (view w q)
              (view w q') answer) same_bytes writes));
          went_on =
              write_goes_on c bytes r ends place old new sinks sink_in here its stands.made_ends.sinks_differ items
              (sink_written c bytes old new answer its same takes seals finds);
        }

    pub writes_own : (r : Reply) → r ≡ write_said answer → from ≡ bytes
        → TakesBytes old new from (bytes_written answer) → is_sealed new ≡ (is_sealed old || leaves_seal answer)
        → IfOk answer (λ a. a ≡ write_answer (length from) (bytes_written answer))
        → OnOk answer (bytes_written answer < length from → free new ≡ 0)
        → OnOk answer (free old ≤ free new + bytes_written answer)
        → (answer ≡ Err AsynchronousClose → HadNoPlace old new from answer)
        → CalledOn w d (with_pass d q') ends (record ends { sinks = sinks }) me (call.Pwrite c bytes) r
    writes_own r said same_bytes takes seals answers most places closed =
        subst
        (λ (x : Reply). CalledOn w d (with_pass d q') ends (record ends { sinks = sinks }) me (call.Pwrite c bytes) x)
        (sym said)
        (says_written same_bytes
        (subst (λ (xs : List ℕ). TakesBytes old new xs (bytes_written answer)) same_bytes takes) seals
        (subst (λ (xs : List ℕ). IfOk answer (λ a. a ≡ write_answer (length xs) (bytes_written answer))) same_bytes
        answers)
        (record {
          most = subst (λ (xs : List ℕ). OnOk answer (bytes_written answer < length xs → free new ≡ 0)) same_bytes most;
          places = places;
          closed = subst (λ (xs : List ℕ). answer ≡ Err AsynchronousClose → HadNoPlace old new xs answer) same_bytes
              closed;
        }))

    pub stands_written : IsReady w q' me → StandsWith w (with_pass d q') (record ends { sinks = sinks }) me
    stands_written ready' =
        let d1 = with_pass d q in
        let looked : StandsWith w d1 ends me = stands_looked w d q ends me c (Some found) stands ready looks in
        let run = has_written w (other_chan old) (sink_chan old) (done_between me (view w q) (view w q')) answer
        (HasTriedToWrite old new from) writes.shape in
        record {
          stands = stands_called w d1 q' me (waiting_call (write (other_chan old) (sink_chan old) run.none) run.found)
              looked.stands
              ready' writes run.writes (λ o. tt) (λ o. refl);
          made_ends = made_sinks w (with_pass d q') ends place old new sinks sink_in here same items
              (ends_still_made w d1 (with_pass d q') ends writes looked.made_ends);
          pipeless = stands.pipeless;
        }
