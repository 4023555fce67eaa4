-- What a line on the bytes of a pipe does to the ends that its caller owns.
use Rattle.std.proofs.Common.{◌≡◌, ◌≢◌, ℕ, zero, suc, ◌+◌, ◌-◌, ◌<◌, ◌≤◌, ◌==◌, min, Bool, true, false, ◌||◌, ◌&&◌}
use Rattle.std.proofs.Common.{if◌then◌else◌, IsTrue, IsFalse, Result, Ok, Err, List, [], ◌∷◌, ◌++◌, length, get_or, set}
use Rattle.std.proofs.Common.{take, drop, position, None, refl, sym, ap, ◌∙◌, subst, eqb-true, arith, ⊎_elim}
use Rattle.std.proofs.Common.{length-append}
use Rattle.std.proofs.Math.Bool.{or-false}
use Rattle.std.proofs.Math.Nat.{le_refl}
use Rattle.std.proofs.lemmas.Bool.{cases_lt, cond-false, cond-true, ne_eqb, false_from_ne_true, or_right}
use Rattle.std.proofs.lemmas.List.{append-nil, length-take-le}
use Rattle.std.specs.List.{AllPairs}
use Rattle.std.specs.Prelude.{OnOk, Vec}
use Rattle.std.specs.declared.alloc.Global.{Global}
use mathlib.Core.List.{IsPrefix}
use Rattle.nio_base.specs.declared.numbers.ChanId.{ChanId}
use Rattle.nio_history.proofs.Clauses.{prefix_trans}
use Rattle.nio_language.specs.declared.call.Call.{Call}
use Rattle.nio_language.specs.declared.call.Call.TheVariants as call
use Rattle.nio_language.specs.declared.reply.Reply.{Reply}
use Rattle.nio_language.specs.declared.reply.Reply.TheVariants as reply
use Rattle.nio_pipe.proofs.EndLemmas.{no_front}
use Rattle.nio_pipe.specs.Answers.{bytes_read, bytes_written, leaves_seal}
use Rattle.nio_pipe.specs.Ends.{GivesBytes, HadNoByte, HadNoPlace, IsAtEnd, IsSameSink, IsSameSource, KnowsNothing}
use Rattle.nio_pipe.specs.Ends.{TakesBytes, free, is_sealed, known, received, sent, sink_chan, source_chan}
use Rattle.nio_pipe.specs.declared.answers.PipeRead.{PipeRead}
use Rattle.nio_pipe.specs.declared.answers.PipeWrite.{PipeWrite}
use Rattle.nio_pipe.specs.declared.sink.PipeSink.{PipeSink}
use Rattle.nio_pipe.specs.declared.source.PipeSource.{PipeSource}
use Rattle.nio_race_text.specs.declared.call.RaceCall.{RaceCall}
use Rattle.nio_race_text.specs.declared.call.RaceCall.TheVariants.{Script}
use Rattle.nio_serial.specs.Replies.{closed_reply, pipe_refusal}
use Rattle.nio_plain.specs.Seq.Pipes.{is_same_id}
use Rattle.nio_sole.proofs.ChannelNames.{other_channel, same_channel}
use Rattle.nio_sole.specs.PipeReplies.{read_reply, write_reply}
use Rattle.nio_steps.specs.declared.refusal.PipeError.{PipeError}
use Rattle.nio_steps.specs.declared.refusal.PipeError.TheVariants.{AsynchronousClose}
use Rattle.nio_words.proofs.Beginnings.{prefix_length}
use Rattle.nio_race.proofs.EndLists.{differs_from, each_itself, each_set, none_passes}
use Rattle.nio_race.proofs.FindLines.{close_keeps_room, close_takes_here, one_finds, one_takes}
use Rattle.nio_race.proofs.FindLines.{prefix_drop, prefix_none, read_finds_elsewhere, read_finds_here}
use Rattle.nio_race.proofs.FindLines.{write_keeps_room, write_takes_elsewhere, write_takes_here}
use Rattle.nio_race.proofs.LineEnds.{sink_stays, source_stays, told_alone}
use Rattle.nio_race.specs.Ends.{AreEach, EndsGoOn, KnowsAwaited, SinkGoesOn, SourceGoesOn}
use Rattle.nio_race.specs.PipeBytes.{TellsEnd, bytes_of, seals_in, number_of, read_in, says_closed, written_in}
use Rattle.nio_race.specs.PipeFinds.{Awaited, HasToWait, ReadFinds, WriteFinds}
use Rattle.nio_race.specs.declared.ends.OwnEnds.{OwnEnds}

abbrev pub the_line : Call → Reply → List (RaceCall × Reply)
the_line word r = (Script word, r) ∷ []

-- a line that is no read tells no end
no_end : (word : Call) (r : Reply) (c : ChanId) → ((n : ℕ) → word ≡ call.Pread c n → ⊥)
    → TellsEnd c (the_line word r) → ⊥
no_end word r c other told =
    let same : Script word ≡ Script (call.Pread c told.0) =
    ap (λ (x : RaceCall × Reply). x.0) (told_alone c (Script word) r told) in
    other told.0 (cc same)

end_said : (word : Call) (r : Reply) (c : ChanId) → TellsEnd c (the_line word r) → r ≡ reply.End
end_said word r c told = ap (λ (x : RaceCall × Reply). x.1) (told_alone c (Script word) r told)

-- ---- a read

module _ (c : ChanId) (n : ℕ) (r : Reply) where
  abbrev Read : Call
  Read = call.Pread c n

  read_here : (x : ChanId) → c ≡ x → read_in x (Script Read) r ≡ bytes_of r
  read_here x same = cond-true (is_same_id c x) (bytes_of r) [] (same_channel c x same)

  read_elsewhere : (x : ChanId) → (x ≡ c → ⊥) → read_in x (Script Read) r ≡ []
  read_elsewhere x other = cond-false (is_same_id c x) (bytes_of r) [] (other_channel c x (λ same. other (sym same)))

  -- where it gives nothing
  read_nothing : (x : ChanId) → bytes_of r ≡ [] → read_in x (Script Read) r ≡ []
  read_nothing x none = by_test (is_same_id c x)
    where
      by_test : (b : Bool) → (if b then bytes_of r else []) ≡ []
      by_test true = none
      by_test false = refl

  sinks_stay : (sinks : List PipeSink) (k : ℕ) (x : PipeSink) → k < length sinks → get_or sinks k x ≡ x
      → SinkGoesOn (the_line Read r) x x
  sinks_stay sinks k x within at = sink_stays (Script Read) r x refl refl (λ room. (room, (refl, le_refl room)))

  -- it read nothing, and told no end
  pub read_stays : (ends : OwnEnds) → bytes_of r ≡ [] → (r ≡ reply.End → ⊥) → ((a : Awaited) → ReadFinds n a r a)
      → EndsGoOn (the_line Read r) ends ends
  read_stays ends none untold unfound = record {
    sources = each_itself (SourceGoesOn (the_line Read r)) ends.sources.items
        (λ k x within at. source_stays (Script Read) r x (read_nothing (source_chan x) none)
        (λ told. untold (end_said Read r (source_chan x) told))
        (λ a. (λ _. unfound a, λ _. refl)));
    sinks = each_itself (SinkGoesOn (the_line Read r)) ends.sinks.items (sinks_stay ends.sinks.items);
  }

  -- the source at one place went on
  pub read_goes_on : (ends : OwnEnds) (place : ℕ) (old new : PipeSource) (sources : Vec PipeSource Global)
      → place < length ends.sources.items → old ≡ get_or ends.sources.items place old → source_chan old ≡ c
      → AllPairs (λ a b. source_chan a ≢ source_chan b) ends.sources.items
      → sources.items ≡ set ends.sources.items place new → SourceGoesOn (the_line Read r) old new
      → EndsGoOn (the_line Read r) ends (record ends { sources = sources })
  read_goes_on ends place old new sources inside here its differ items goes = record {
    sources =
        subst (λ xs. AreEach (SourceGoesOn (the_line Read r)) ends.sources.items xs) (sym items)
        (each_set (SourceGoesOn (the_line Read r)) ends.sources.items place old new inside here goes others);
    sinks = each_itself (SinkGoesOn (the_line Read r)) ends.sinks.items (sinks_stay ends.sinks.items);
  }
    where
      others : (k : ℕ) (x : PipeSource) → (k ≡ place → ⊥) → k < length ends.sources.items
          → get_or ends.sources.items k x ≡ x → SourceGoesOn (the_line Read r) x x
      others k x other within at =
          let apart : source_chan x ≡ c → ⊥ =
          λ same. differs_from source_chan ends.sources.items place k old x differ inside here other within at
          (same ∙ sym its) in
          source_stays (Script Read) r x (read_elsewhere (source_chan x) apart)
          (no_end Read r (source_chan x) (λ m same. let chan : c ≡ source_chan x = cc same in
          apart (sym chan)))
          (λ a. read_finds_elsewhere c n r (source_chan x) a apart)

-- ---- what its reply tells

-- Where a call that waits found nothing its channel is in non-blocking mode.
abbrev pub unwaited : {A : Type 0} → Result A PipeError → Result (A × Bool) PipeError
unwaited (Ok found) = Ok (found, false)
unwaited (Err refusal) = Err refusal

-- what a read that waited says, with this in its slice
abbrev pub read_said : Result PipeRead PipeError → List ℕ → Reply
read_said answer bytes = read_reply (unwaited answer) bytes

no_bytes : (refusal : PipeError) → bytes_of (pipe_refusal refusal) ≡ []
no_bytes PipeError.ClosedChannel = refl
no_bytes PipeError.ClosedByInterrupt = refl
no_bytes PipeError.AsynchronousClose = refl
no_bytes PipeError.BrokenPipe = refl

bytes_said : (answer : Result PipeRead PipeError) (bytes : List ℕ)
    → bytes_of (read_said answer bytes) ≡ take (bytes_read answer) bytes
bytes_said (Ok (PipeRead.Bytes k)) bytes = by_count k (k == 0) refl
  where
    by_count : (k : ℕ) (b : Bool) → (k == 0) ≡ b
        → bytes_of (if k == 0 then reply.Number 0 else reply.Bytes (take k bytes)) ≡ take k bytes
    by_count k true none =
        ap bytes_of (cond-true (k == 0) (reply.Number 0) (reply.Bytes (take k bytes)) none)
        ∙ sym (ap (λ (m : ℕ). take m bytes) (eqb-true k 0 none))
    by_count k false some = ap bytes_of (cond-false (k == 0) (reply.Number 0) (reply.Bytes (take k bytes)) some)
bytes_said (Ok PipeRead.End) bytes = refl
bytes_said (Ok PipeRead.NotYet) bytes = refl
bytes_said (Err refusal) bytes = no_bytes refusal

no_end_refused : (refusal : PipeError) → pipe_refusal refusal ≡ reply.End → ⊥
no_end_refused PipeError.ClosedChannel same = absurd (cc same)
no_end_refused PipeError.ClosedByInterrupt same = absurd (cc same)
no_end_refused PipeError.AsynchronousClose same = absurd (cc same)
no_end_refused PipeError.BrokenPipe same = absurd (cc same)

end_answered : (answer : Result PipeRead PipeError) (bytes : List ℕ) → read_said answer bytes ≡ reply.End
    → answer ≡ Ok PipeRead.End
end_answered (Ok (PipeRead.Bytes k)) bytes same = by_test (k == 0) same
  where
    by_test : (b : Bool) → (if b then reply.Number 0 else reply.Bytes (take k bytes)) ≡ reply.End
        → ◌≡◌ {A = Result PipeRead PipeError} (Ok (PipeRead.Bytes k)) (Ok PipeRead.End)
    by_test true is = absurd (cc is)
    by_test false is = absurd (cc is)
end_answered (Ok PipeRead.End) bytes same = refl
end_answered (Ok PipeRead.NotYet) bytes same = absurd (cc same)
end_answered (Err refusal) bytes same = absurd (no_end_refused refusal same)

no_rest : (xs ys : List ℕ) → xs ++ ys ≡ [] → ys ≡ []
no_rest [] ys none = none
no_rest (x ∷ xs) ys none = absurd (cc none)

-- What a read says beside the bytes that it gives: how long its slice is, that it gave all that was known where the
-- slice isn't full, and what its answers tell.
pub record FindsBytes (n : ℕ) (old new : PipeSource) (before after : List ℕ) (answer : Result PipeRead PipeError)
    : Type 0 where
  pub room : length before ≡ min 65536 n
  pub size : length after ≡ length before
  pub most : OnOk answer (bytes_read answer < length before → known new ≡ [])
  pub not_yet : answer ≡ Ok PipeRead.NotYet → KnowsNothing old × KnowsNothing new
  pub at_end : answer ≡ Ok PipeRead.End → IsAtEnd new
  pub asked : answer ≡ Ok (PipeRead.Bytes 0) → n ≡ 0
  pub closed : answer ≡ Err AsynchronousClose → HadNoByte old new before answer

module _ (old new : PipeSource) (before after : List ℕ) (given : ℕ) (gives : GivesBytes old new before after given)
  where
    stays_at_end : IsAtEnd old → IsAtEnd new
    stays_at_end was = record {
      sealed = gives.end_stays was.sealed;
      no_byte = no_rest (take given after) (known new) (sym (gives.no_more was.sealed) ∙ was.no_byte);
    }

    -- at the end it gives nothing
    none_at_end : IsAtEnd old → take given after ≡ []
    none_at_end was = no_front (take given after) (known new) (sym (gives.no_more was.sealed) ∙ was.no_byte)

    knows_ahead : (x : Awaited) → KnowsAwaited old x → IsPrefix x.bytes (take given after ++ known new)
    knows_ahead x knows = prefix_trans x.bytes (known old) (take given after ++ known new) knows.bytes gives.known

-- where it gave nothing
knows_still : (old new : PipeSource) (before after : List ℕ) → GivesBytes old new before after 0 → (x : Awaited)
    → KnowsAwaited old x → KnowsAwaited new x
knows_still old new before after gives x knows = record {
  bytes = knows_ahead old new before after 0 gives x knows;
  sealed = λ sealed. gives.end_stays (knows.sealed sealed);
  ended = λ ended. stays_at_end old new before after 0 gives (knows.ended ended);
}

-- what the read finds
abbrev ReadGoesOn : ℕ → PipeSource → Reply → Awaited → Type 0
ReadGoesOn n new r x = (y : Awaited) × (ReadFinds n x r y × KnowsAwaited new y)

module _ (n : ℕ) (old new : PipeSource) (before after : List ℕ) (x : Awaited) (knows : KnowsAwaited old x) where
  count_finds : (k : ℕ) → GivesBytes old new before after k
      → FindsBytes n old new before after (Ok (PipeRead.Bytes k))
      → ReadGoesOn n new (read_said (Ok (PipeRead.Bytes k)) after) x
  count_finds zero gives finds =
      (x, (ReadFinds.asks_for_nothing (finds.asked refl), knows_still old new before after gives x knows))
  count_finds (suc k) gives finds =
      let given : List ℕ = take (suc k) after in
      let long : length given ≡ suc k = length-take-le (suc k) after (omega (arith, gives.fit, finds.size)) in
      let some : (suc k == 0) ≡ false = ne_eqb (suc k) 0 (λ same. omega (arith, same)) in
      let says : reply.Bytes given ≡ read_said (Ok (PipeRead.Bytes (suc k))) after =
      sym (cond-false (suc k == 0) (reply.Number 0) (reply.Bytes given) some) in
      let ahead : IsPrefix x.bytes (given ++ known new) = knows_ahead old new before after (suc k) gives x knows in
      let fits : length x.bytes ≤ length (given ++ known new) = prefix_length x.bytes (given ++ known new) ahead in
      let whole : length (given ++ known new) ≡ length given + length (known new) = length-append given (known new) in
      let goes : IsTrue x.ended → ⊥ =
      λ ended.
      let none : take (suc k) after ≡ [] = none_at_end old new before after (suc k) gives (knows.ended ended) in
      let clash : length given ≡ 0 = ap length none in omega (arith, clash, long) in
      let enough : min (min 65536 n) (length x.bytes) ≤ length given =
      ⊎_elim
      (λ (less : suc k < length before).
      let nothing : length (known new) ≡ 0 = ap length (finds.most less) in omega (arith, nothing, fits, whole))
      (λ (all : length before ≤ suc k). omega (arith, all, long, finds.room))
      (cases_lt (suc k) (length before)) in
      let y : Awaited = record x { bytes = drop (length given) x.bytes } in (
        y,
        (
          subst (λ (r : Reply). ReadFinds n x r y) says
              (ReadFinds.gives given (false_from_ne_true x.ended goes) enough),
          record {
            bytes = prefix_drop x.bytes given (known new) ahead;
            sealed = λ sealed. gives.end_stays (knows.sealed sealed);
            ended = λ ended. absurd (goes ended);
          },
        ),
      )

  no_byte_known : KnowsNothing old → x.bytes ≡ []
  no_byte_known nothing =
      prefix_none x.bytes (subst (λ (xs : List ℕ). IsPrefix x.bytes xs) nothing.no_byte knows.bytes)

  no_seal_known : KnowsNothing old → IsFalse x.sealed
  no_seal_known nothing =
      false_from_ne_true x.sealed
      (λ sealed. let clash : true ≡ false = sym (knows.sealed sealed) ∙ nothing.no_seal in absurd (cc clash))

  read_finds : (answer : Result PipeRead PipeError) → GivesBytes old new before after (bytes_read answer)
      → FindsBytes n old new before after answer → ReadGoesOn n new (read_said answer after) x
  read_finds (Ok (PipeRead.Bytes k)) gives finds = count_finds k gives finds
  read_finds (Ok PipeRead.End) gives finds =
      let at_end : IsAtEnd new = finds.at_end refl in
      let ahead : IsPrefix x.bytes [] =
      subst (λ (xs : List ℕ). IsPrefix x.bytes xs) at_end.no_byte
      (knows_ahead old new before after 0 gives x knows) in (
        record { bytes = []; sealed = true; ended = true },
        (
          ReadFinds.tells_end (prefix_none x.bytes ahead),
          record {
            bytes = (known new, refl);
            sealed = λ _. at_end.sealed;
            ended = λ _. at_end;
          },
        ),
      )
  read_finds (Ok PipeRead.NotYet) gives finds =
      let nothing : KnowsNothing old = (finds.not_yet refl).0 in (
        x,
        (
          ReadFinds.finds_nothing (no_byte_known nothing) (no_seal_known nothing),
          knows_still old new before after gives x knows,
        ),
      )
  read_finds (Err refusal) gives finds =
      let waited : refusal ≡ AsynchronousClose → HasToWait n x =
      λ same.
      let had = finds.closed (λ i. Err (same i)) in
      record {
        asks = omega (arith, had.room, finds.room);
        no_byte = no_byte_known had.before;
        no_seal = no_seal_known had.before;
      } in
      (x, (ReadFinds.is_refused refusal waited, knows_still old new before after gives x knows))

-- the read source
pub source_read : (c : ChanId) (n : ℕ) (old new : PipeSource) (before after : List ℕ)
    (answer : Result PipeRead PipeError) → source_chan old ≡ c → IsSameSource old new
    → GivesBytes old new before after (bytes_read answer) → FindsBytes n old new before after answer
    → SourceGoesOn (the_line (call.Pread c n) (read_said answer after)) old new
source_read c n old new before after answer its same gives finds =
    let r = read_said answer after in
    record {
      same = same;
      received =
          gives.received
          ∙ (ap (λ (bytes : List ℕ). received old ++ bytes) (sym (bytes_said answer after))
          ∙ ap (λ (bytes : List ℕ). received old ++ bytes)
          (sym (ap (λ (bytes : List ℕ). bytes ++ []) (read_here c n r (source_chan old) (sym its))
          ∙ append-nil (bytes_of r))));
      tells_end = λ told.
          finds.at_end (end_answered answer after (end_said (call.Pread c n) r (source_chan old) told));
      stays = stays_at_end old new before after (bytes_read answer) gives;
      finds = λ x knows.
          let found = read_finds n old new before after x knows answer gives finds in (
            found.0,
            (
              one_finds (source_chan old) (Script (call.Pread c n)) r x found.0
                  (read_finds_here c n r (source_chan old) x found.0 (sym its) found.1.0),
              found.1.1,
            ),
          );
    }

-- ---- a write

module _ (c : ChanId) (bytes : List ℕ) (r : Reply) where
  abbrev Write : Call
  Write = call.Pwrite c bytes

  write_here : (x : ChanId) → c ≡ x → written_in x (Script Write) r ≡ take (number_of r) bytes
  write_here x same =
      cond-true (is_same_id c x) (take (number_of r) bytes) [] (same_channel c x same)

  seal_here : (x : ChanId) → c ≡ x → seals_in x (Script Write) r ≡ says_closed r
  seal_here x same = ap (λ (b : Bool). b && says_closed r) (same_channel c x same)

  write_elsewhere : (x : ChanId) → (x ≡ c → ⊥) → written_in x (Script Write) r ≡ []
  write_elsewhere x other =
      cond-false (is_same_id c x) (take (number_of r) bytes) [] (other_channel c x (λ same. other (sym same)))

  seal_elsewhere : (x : ChanId) → (x ≡ c → ⊥) → seals_in x (Script Write) r ≡ false
  seal_elsewhere x other =
      ap (λ (b : Bool). b && says_closed r) (other_channel c x (λ same. other (sym same)))

  -- where it takes nothing
  write_nothing : (x : ChanId) → number_of r ≡ 0 → written_in x (Script Write) r ≡ []
  write_nothing x none = by_test (is_same_id c x)
    where
      by_test : (b : Bool) → (if b then take (number_of r) bytes else []) ≡ []
      by_test true = ap (λ (k : ℕ). take k bytes) none
      by_test false = refl

  seal_nothing : (x : ChanId) → says_closed r ≡ false → seals_in x (Script Write) r ≡ false
  seal_nothing x none = by_test (is_same_id c x)
    where
      by_test : (b : Bool) → (b && says_closed r) ≡ false
      by_test true = none
      by_test false = refl

  sources_stay : (sources : List PipeSource) (k : ℕ) (x : PipeSource) → k < length sources → get_or sources k x ≡ x
      → SourceGoesOn (the_line Write r) x x
  sources_stay sources k x within at =
      source_stays (Script Write) r x refl (no_end Write r (source_chan x) (λ n same. absurd (cc same))) (λ a. refl)

  pub write_stays : (ends : OwnEnds) → number_of r ≡ 0 → says_closed r ≡ false
      → ((room : ℕ) → WriteFinds bytes room r room) → EndsGoOn (the_line Write r) ends ends
  write_stays ends none unclosed leaves = record {
    sources = each_itself (SourceGoesOn (the_line Write r)) ends.sources.items (sources_stay ends.sources.items);
    sinks = each_itself (SinkGoesOn (the_line Write r)) ends.sinks.items
        (λ k x within at.
        sink_stays (Script Write) r x (write_nothing (sink_chan x) none) (seal_nothing (sink_chan x) unclosed)
        (write_keeps_room c bytes r (sink_chan x) leaves));
  }

  -- the sink at one place went on
  pub write_goes_on : (ends : OwnEnds) (place : ℕ) (old new : PipeSink) (sinks : Vec PipeSink Global)
      → place < length ends.sinks.items → old ≡ get_or ends.sinks.items place old → sink_chan old ≡ c
      → AllPairs (λ a b. sink_chan a ≢ sink_chan b) ends.sinks.items
      → sinks.items ≡ set ends.sinks.items place new → SinkGoesOn (the_line Write r) old new
      → EndsGoOn (the_line Write r) ends (record ends { sinks = sinks })
  write_goes_on ends place old new sinks inside here its differ items goes = record {
    sources = each_itself (SourceGoesOn (the_line Write r)) ends.sources.items (sources_stay ends.sources.items);
    sinks =
        subst (λ xs. AreEach (SinkGoesOn (the_line Write r)) ends.sinks.items xs) (sym items)
        (each_set (SinkGoesOn (the_line Write r)) ends.sinks.items place old new inside here goes others);
  }
    where
      others : (k : ℕ) (x : PipeSink) → (k ≡ place → ⊥) → k < length ends.sinks.items
          → get_or ends.sinks.items k x ≡ x → SinkGoesOn (the_line Write r) x x
      others k x other within at =
          let apart : sink_chan x ≡ c → ⊥ =
          λ same. differs_from sink_chan ends.sinks.items place k old x differ inside here other within at
          (same ∙ sym its) in
          sink_stays (Script Write) r x (write_elsewhere (sink_chan x) apart) (seal_elsewhere (sink_chan x) apart)
          (write_takes_elsewhere c bytes r (sink_chan x) apart)

-- ---- what its reply tells

-- what a write that waited says
abbrev pub write_said : Result PipeWrite PipeError → Reply
write_said answer = write_reply (unwaited answer)

number_said : (answer : Result PipeWrite PipeError) → number_of (write_said answer) ≡ bytes_written answer
number_said (Ok (PipeWrite.Bytes k)) = refl
number_said (Ok PipeWrite.NotYet) = refl
number_said (Err PipeError.ClosedChannel) = refl
number_said (Err PipeError.ClosedByInterrupt) = refl
number_said (Err PipeError.AsynchronousClose) = refl
number_said (Err PipeError.BrokenPipe) = refl

seal_said : (answer : Result PipeWrite PipeError) → leaves_seal answer ≡ says_closed (write_said answer)
seal_said (Ok (PipeWrite.Bytes k)) = refl
seal_said (Ok PipeWrite.NotYet) = refl
seal_said (Err PipeError.ClosedChannel) = refl
seal_said (Err PipeError.ClosedByInterrupt) = refl
seal_said (Err PipeError.AsynchronousClose) = refl
seal_said (Err PipeError.BrokenPipe) = refl

-- What a write says beside the bytes that it takes: it takes fewer than it was given only where no room is left then,
-- and loses no free place.
pub record FindsRoom (bytes : List ℕ) (old new : PipeSink) (answer : Result PipeWrite PipeError) : Type 0 where
  pub most : OnOk answer (bytes_written answer < length bytes → free new ≡ 0)
  pub places : OnOk answer (free old ≤ free new + bytes_written answer)
  pub closed : answer ≡ Err AsynchronousClose → HadNoPlace old new bytes answer

module _ (bytes : List ℕ) (old new : PipeSink) (room : ℕ) (few : room ≤ free old) where
  count_takes : (k : ℕ) → (k < length bytes → free new ≡ 0) → free old ≤ free new + k
      → (left : ℕ) × (WriteFinds bytes room (reply.Number k) left × (left ≤ free new))
  count_takes k most places =
      let all : k < length bytes → room ≤ k =
      λ less. let none : free new ≡ 0 = most less in omega (arith, none, places, few) in
      (room - k, (WriteFinds.takes k all, omega (arith, places, few)))

  write_finds : (answer : Result PipeWrite PipeError) → FindsRoom bytes old new answer
      → (left : ℕ) × (WriteFinds bytes room (write_said answer) left × (left ≤ free new))
  write_finds (Ok (PipeWrite.Bytes k)) finds = count_takes k finds.most finds.places
  write_finds (Ok PipeWrite.NotYet) finds = count_takes 0 finds.most finds.places
  write_finds (Err refusal) finds =
      let waited : refusal ≡ AsynchronousClose → (0 < length bytes) × (room ≡ 0) =
      λ same.
      let had = finds.closed (λ i. Err (same i)) in
      (had.bytes, omega (arith, had.before, few)) in
      (0, (WriteFinds.is_refused refusal waited, omega arith))

-- the written sink
pub sink_written : (c : ChanId) (bytes : List ℕ) (old new : PipeSink) (answer : Result PipeWrite PipeError)
    → sink_chan old ≡ c → IsSameSink old new → TakesBytes old new bytes (bytes_written answer)
    → is_sealed new ≡ (is_sealed old || leaves_seal answer) → FindsRoom bytes old new answer
    → SinkGoesOn (the_line (call.Pwrite c bytes) (write_said answer)) old new
sink_written c bytes old new answer its same takes seals finds =
    let r = write_said answer in
    let here : written_in (sink_chan old) (Script (call.Pwrite c bytes)) r ≡ take (bytes_written answer) bytes =
    write_here c bytes r (sink_chan old) (sym its) ∙ ap (λ (k : ℕ). take k bytes) (number_said answer) in
    record {
      same = same;
      sent = takes.sent
          ∙ ap (λ (xs : List ℕ). sent old ++ xs)
          (sym (ap (λ (xs : List ℕ). xs ++ []) here ∙ append-nil (take (bytes_written answer) bytes)));
      seal = seals
          ∙ ap (λ (b : Bool). is_sealed old || b)
          (seal_said answer ∙ (sym (seal_here c bytes r (sink_chan old) (sym its))
          ∙ sym (or-false (seals_in (sink_chan old) (Script (call.Pwrite c bytes)) r))));
      ended = λ was.
          ap (λ (xs : List ℕ). xs ++ []) here ∙ ap (λ (k : ℕ). take k bytes ++ []) (takes.ended was);
      takes = λ room few.
          let found = write_finds bytes old new room few answer finds in (
            found.0,
            (
              one_takes (sink_chan old) (Script (call.Pwrite c bytes)) r room found.0
                  (write_takes_here c bytes r (sink_chan old) room found.0 (sym its) found.1.0),
              found.1.1,
            ),
          );
    }

-- ---- a closing

module _ (c : ChanId) (r : Reply) where
  abbrev Closing : Call
  Closing = call.Closec c

  ends_elsewhere : (x : ChanId) → (x ≡ c → ⊥) → seals_in x (Script Closing) r ≡ false
  ends_elsewhere x other =
      ap (λ (b : Bool). b && says_closed r) (other_channel c x (λ same. other (sym same)))

  ends_nothing : (x : ChanId) → says_closed r ≡ false → seals_in x (Script Closing) r ≡ false
  ends_nothing x none = by_test (is_same_id c x)
    where
      by_test : (b : Bool) → (b && says_closed r) ≡ false
      by_test true = none
      by_test false = refl

  close_sources_stay : (sources : List PipeSource) (k : ℕ) (x : PipeSource) → k < length sources
      → get_or sources k x ≡ x → SourceGoesOn (the_line Closing r) x x
  close_sources_stay sources k x within at =
      source_stays (Script Closing) r x refl (no_end Closing r (source_chan x) (λ n same. absurd (cc same))) (λ a. refl)

  -- it closed nothing
  pub close_stays : (ends : OwnEnds) → says_closed r ≡ false → EndsGoOn (the_line Closing r) ends ends
  close_stays ends unclosed = record {
    sources = each_itself (SourceGoesOn (the_line Closing r)) ends.sources.items
        (close_sources_stay ends.sources.items);
    sinks = each_itself (SinkGoesOn (the_line Closing r)) ends.sinks.items
        (λ k x within at.
        sink_stays (Script Closing) r x refl (ends_nothing (sink_chan x) unclosed)
        (close_keeps_room c r (sink_chan x)));
  }

  -- none of the sinks has the channel
  pub close_elsewhere : (ends : OwnEnds) → None ≡ position (λ x. is_same_id (sink_chan x) c) ends.sinks.items
      → EndsGoOn (the_line Closing r) ends ends
  close_elsewhere ends none = record {
    sources = each_itself (SourceGoesOn (the_line Closing r)) ends.sources.items
        (close_sources_stay ends.sources.items);
    sinks = each_itself (SinkGoesOn (the_line Closing r)) ends.sinks.items
        (λ k x within at.
        sink_stays (Script Closing) r x refl (ends_elsewhere (sink_chan x) (apart k x within at))
        (close_keeps_room c r (sink_chan x)));
  }
    where
      apart : (k : ℕ) (x : PipeSink) → k < length ends.sinks.items → get_or ends.sinks.items k x ≡ x
          → sink_chan x ≡ c → ⊥
      apart k x within at same =
          let fails : is_same_id (sink_chan (get_or ends.sinks.items k x)) c ≡ false =
          none_passes (λ (s : PipeSink). is_same_id (sink_chan s) c) ends.sinks.items (sym none) k x within in
          let passes : is_same_id (sink_chan (get_or ends.sinks.items k x)) c ≡ true =
          same_channel (sink_chan (get_or ends.sinks.items k x)) c (ap sink_chan at ∙ same) in
          let clash : true ≡ false = sym passes ∙ fails in
          absurd (cc clash)

  -- the sink at one place went on
  pub close_goes_on : (ends : OwnEnds) (place : ℕ) (old new : PipeSink) (sinks : Vec PipeSink Global)
      → place < length ends.sinks.items → old ≡ get_or ends.sinks.items place old → sink_chan old ≡ c
      → AllPairs (λ a b. sink_chan a ≢ sink_chan b) ends.sinks.items
      → sinks.items ≡ set ends.sinks.items place new → SinkGoesOn (the_line Closing r) old new
      → EndsGoOn (the_line Closing r) ends (record ends { sinks = sinks })
  close_goes_on ends place old new sinks inside here its differ items goes = record {
    sources = each_itself (SourceGoesOn (the_line Closing r)) ends.sources.items
        (close_sources_stay ends.sources.items);
    sinks =
        subst (λ xs. AreEach (SinkGoesOn (the_line Closing r)) ends.sinks.items xs) (sym items)
        (each_set (SinkGoesOn (the_line Closing r)) ends.sinks.items place old new inside here goes others);
  }
    where
      others : (k : ℕ) (x : PipeSink) → (k ≡ place → ⊥) → k < length ends.sinks.items
          → get_or ends.sinks.items k x ≡ x → SinkGoesOn (the_line Closing r) x x
      others k x other within at =
          let apart : sink_chan x ≡ c → ⊥ =
          λ same. differs_from sink_chan ends.sinks.items place k old x differ inside here other within at
          (same ∙ sym its) in
          sink_stays (Script Closing) r x refl (ends_elsewhere (sink_chan x) apart) (close_keeps_room c r (sink_chan x))

closed_said : (closes : Bool) → says_closed (closed_reply closes) ≡ true
closed_said true = refl
closed_said false = refl

-- the closed sink
pub sink_closed : (c : ChanId) (old new : PipeSink) (closes : Bool) → sink_chan old ≡ c → IsSameSink old new
    → sent new ≡ sent old → is_sealed new ≡ true
    → SinkGoesOn (the_line (call.Closec c) (closed_reply closes)) old new
sink_closed c old new closes its same keeps seals =
    let r = closed_reply closes in
    let here : seals_in (sink_chan old) (Script (call.Closec c)) r ≡ true =
    λ i. (same_channel c (sink_chan old) (sym its)) i && closed_said closes i in
    record {
      same = same;
      sent = keeps ∙ sym (append-nil (sent old));
      seal = seals
          ∙ (sym (or_right (is_sealed old) true refl) ∙ ap (λ (b : Bool). is_sealed old || (b || false)) (sym here));
      ended = λ _. refl;
      takes = λ room few. (
        0,
        (
          one_takes (sink_chan old) (Script (call.Closec c)) r room 0
              (close_takes_here c r (sink_chan old) room (sym its)),
          omega arith,
        ),
      );
    }
