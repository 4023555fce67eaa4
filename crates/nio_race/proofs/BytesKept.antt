-- The bytes of a pipe, from the setup's lines, what waited at `go`, and the lines behind it.
use Rattle.std.proofs.Common.{◌≡◌, ℕ, ◌+◌, ◌<◌, ◌≤◌, ◌⊎◌, Bool, ◌||◌, IsTrue, List, [], ◌++◌, length}
use Rattle.std.proofs.Common.{All, inl, inr, ⊎_elim, sym, ap, ◌∙◌, subst, append_assoc, append-nil, arith}
use Rattle.std.proofs.lemmas.Grind.{flat_map-append}
use Rattle.std.proofs.lemmas.List.{length-append}
use Rattle.std.proofs.lemmas.List.Elements.{Contains-append_cases}
use Rattle.std.specs.List.{Contains, slice_index_or}
use mathlib.Core.List.{IsPrefix}
use Rattle.nio_base.specs.declared.limits.Limits.{Limits}
use Rattle.nio_base.specs.declared.numbers.CallerNo.{CallerNo}
use Rattle.nio_base.specs.declared.numbers.ChanId.{ChanId}
use Rattle.nio_language.specs.declared.call.Call.TheVariants as call
use Rattle.nio_language.specs.declared.call.ScriptCall.{ScriptCall}
use Rattle.nio_language.specs.declared.reply.Reply.{Reply}
use Rattle.nio_language.specs.declared.reply.Reply.TheVariants as reply
use Rattle.nio_pipe.proofs.EndLemmas.{no_front}
use Rattle.nio_pipe.specs.Ends.{IsAtEnd, is_sealed, received, sent, sink_chan, source_chan}
use Rattle.nio_plain.specs.ScriptState.{Pipe}
use Rattle.nio_race_text.specs.declared.call.RaceCall.{RaceCall}
use Rattle.nio_race_text.specs.declared.call.RaceCall.TheVariants.{Script}
use Rattle.nio_race_text.specs.declared.call.RaceLine.{RaceLine}
use Rattle.nio_race.proofs.SetupLines.{leave_seal-append}
use Rattle.nio_race.proofs.PairsLists.{all-at, at_itself, standing}
use Rattle.nio_race.proofs.PairsRaced.{PipeGoesOn}
use Rattle.nio_race.specs.Ends.{AreEach, HasMet, IsPartedAs, PartedPipe}
use Rattle.nio_race.specs.PipeBytes.{KeepsBytes, TellsEnd, all_read, all_written, leave_seal, read_in}
use Rattle.nio_race.specs.PipeBytes.{setup_lines, written_in}
use Rattle.nio_race.specs.PipeFinds.{Awaited, LinesFind, LinesTake, awaited_at_go, room_at_go}
use Rattle.nio_race.specs.Race.{FindsInPipe, KeepsPipe, lines_by}
use Rattle.nio_race.specs.Setup.{KeepsPipeOfSetup}

-- ---- of lines and further lines

-- What was read in the setup, and what waited then, is what was written there. Behind `go` what was read begins what
-- waited and what was written then.
pub keeps_bytes : (source sink : ChanId) (reads reads' writes writes' : List (RaceCall × Reply)) (waiting : List ℕ)
    (sealed : Bool)
    → all_read source reads ++ waiting ≡ all_written sink writes
    → sealed ≡ leave_seal sink writes
    → (TellsEnd source reads → IsTrue sealed × (waiting ≡ []))
    → IsPrefix (all_read source reads') (waiting ++ all_written sink writes')
    → length (waiting ++ all_written sink writes') ≤ length (all_read source reads') + 65536
    → (TellsEnd source reads' → all_read source reads' ≡ waiting ++ all_written sink writes')
    → (TellsEnd source reads' → IsTrue (sealed || leave_seal sink writes'))
    → (IsTrue sealed → all_written sink writes' ≡ [])
    → KeepsBytes source sink (reads ++ reads') (writes ++ writes')
keeps_bytes source sink reads reads' writes writes' waiting sealed bytes seal told begins few all ended stop = record {
  in_order = (begins.0, joined begins.0 begins.1);
  few = omega (
    arith,
    few,
    ap (λ (xs : List ℕ). length xs) begins.1,
    length-append (all_read source reads') begins.0,
    ap (λ (xs : List ℕ). length xs) (joined begins.0 begins.1),
    length-append (all_read source (reads ++ reads')) begins.0,
  );
  whole = λ tells. ⊎_elim
      (λ (there : TellsEnd source reads). all_of (nothing_more (told there)))
      (λ (later : TellsEnd source reads'). all_of (all later)) (cases tells);
  ended = λ tells. ⊎_elim
      (λ (there : TellsEnd source reads).
      leave_seal-append sink writes writes' ∙ ap (λ (b : Bool). b || leave_seal sink writes')
      (sym seal ∙ (told there).0))
      (λ (later : TellsEnd source reads').
      leave_seal-append sink writes writes'
      ∙ (ap (λ (b : Bool). b || leave_seal sink writes') (sym seal) ∙ ended later)) (cases tells);
}
  where
    cases : TellsEnd source (reads ++ reads') → TellsEnd source reads ⊎ TellsEnd source reads'
    cases tells = ⊎_elim
        (λ (there : Contains reads (Script (call.Pread source tells.0), reply.End)). inl (tells.0, there))
        (λ (later : Contains reads' (Script (call.Pread source tells.0), reply.End)). inr (tells.0, later))
        (Contains-append_cases reads reads' (Script (call.Pread source tells.0), reply.End) tells.1)

    joined : (later : List ℕ) → all_read source reads' ++ later ≡ waiting ++ all_written sink writes'
        → all_read source (reads ++ reads') ++ later ≡ all_written sink (writes ++ writes')
    joined later is =
        ap (λ (xs : List ℕ). xs ++ later)
        (flat_map-append (λ (x : RaceCall × Reply). read_in source x.0 x.1) reads reads')
        ∙ (append_assoc (all_read source reads) (all_read source reads') later
        ∙ (ap (λ (xs : List ℕ). all_read source reads ++ xs) is
        ∙ (sym (append_assoc (all_read source reads) waiting (all_written sink writes'))
        ∙ (ap (λ (xs : List ℕ). xs ++ all_written sink writes') bytes
        ∙ sym (flat_map-append (λ (x : RaceCall × Reply). written_in sink x.0 x.1) writes writes')))))

    all_of : all_read source reads' ≡ waiting ++ all_written sink writes'
        → all_read source (reads ++ reads') ≡ all_written sink (writes ++ writes')
    all_of is =
        sym (append-nil (all_read source (reads ++ reads'))) ∙ joined [] (append-nil (all_read source reads') ∙ is)

    nothing_more : IsTrue sealed × (waiting ≡ []) → all_read source reads' ≡ waiting ++ all_written sink writes'
    nothing_more at_end =
        let none : waiting ++ all_written sink writes' ≡ [] =
        ap (λ (xs : List ℕ). xs ++ all_written sink writes') at_end.1 ∙ stop at_end.0 in
        no_front (all_read source reads') begins.0 (begins.1 ∙ none) ∙ sym none

-- ---- of a pipe

pub keeps_pipe : (l : Limits) (setup : List ScriptCall) (race : List RaceLine) (replies : CallerNo → List Reply)
    (p : Pipe) (x y : PartedPipe) → KeepsPipeOfSetup l setup p → IsPartedAs p x
    → PipeGoesOn (λ n. lines_by n race replies) x y → HasMet y → KeepsPipe l setup race replies p
keeps_pipe l setup race replies p x y kept parted on met =
    keeps_bytes p.source p.sink (setup_lines p.reader l setup) (lines p.reader) (setup_lines p.writer l setup)
    (lines p.writer) p.waiting p.sealed kept.bytes kept.seal kept.told
    (subst (λ (xs : List ℕ). IsPrefix xs (p.waiting ++ all_written p.sink (lines p.writer))) was_read
    (subst (λ (xs : List ℕ). IsPrefix (received y.source) xs) was_sent met.in_order))
    (omega (arith, met.few, ap (λ (xs : List ℕ). length xs) was_read, ap (λ (xs : List ℕ). length xs) was_sent))
    (λ tells. sym was_read ∙ (met.whole (at_end tells) ∙ was_sent))
    (λ tells. sym was_sealed ∙ met.ended (at_end tells))
    (λ sealed. ap (λ (c : ChanId). all_written c (lines p.writer)) (sym parted.sink)
    ∙ (ap (λ (n : CallerNo). all_written (sink_chan x.sink) (lines n)) (sym parted.writer)
    ∙ on.sink.ended (parted.seal ∙ sealed)))
  where
    lines : CallerNo → List (RaceCall × Reply)
    lines n = lines_by n race replies

    was_read : received y.source ≡ all_read p.source (lines p.reader)
    was_read =
        on.source.received
        ∙ (ap (λ (xs : List ℕ). xs ++ all_read (source_chan x.source) (lines x.owners.reader)) parted.none_received
        ∙ (ap (λ (c : ChanId). all_read c (lines x.owners.reader)) parted.source
        ∙ ap (λ (n : CallerNo). all_read p.source (lines n)) parted.reader))

    was_sent : sent y.sink ≡ p.waiting ++ all_written p.sink (lines p.writer)
    was_sent =
        on.sink.sent
        ∙ (ap (λ (xs : List ℕ). xs ++ all_written (sink_chan x.sink) (lines x.owners.writer)) parted.waiting
        ∙ (ap (λ (c : ChanId). p.waiting ++ all_written c (lines x.owners.writer)) parted.sink
        ∙ ap (λ (n : CallerNo). p.waiting ++ all_written p.sink (lines n)) parted.writer))

    was_sealed : is_sealed y.sink ≡ (p.sealed || leave_seal p.sink (lines p.writer))
    was_sealed =
        on.sink.seal
        ∙ (ap (λ (b : Bool). b || leave_seal (sink_chan x.sink) (lines x.owners.writer)) parted.seal
        ∙ (ap (λ (c : ChanId). p.sealed || leave_seal c (lines x.owners.writer)) parted.sink
        ∙ ap (λ (n : CallerNo). p.sealed || leave_seal p.sink (lines n)) parted.writer))

    at_end : TellsEnd p.source (lines p.reader) → IsAtEnd y.source
    at_end tells =
        on.source.tells_end (subst (λ (c : ChanId). TellsEnd c (lines x.owners.reader)) (sym parted.source)
        (subst (λ (n : CallerNo). TellsEnd p.source (lines n)) (sym parted.reader) tells))

-- Each pipe keeps its bytes, place by place.
pub keep_pipes : (l : Limits) (setup : List ScriptCall) (race : List RaceLine) (replies : CallerNo → List Reply)
    (pipes : List Pipe) (parted after : List PartedPipe) → All (KeepsPipeOfSetup l setup) pipes
    → AreEach IsPartedAs pipes parted → AreEach (PipeGoesOn (λ n. lines_by n race replies)) parted after
    → All HasMet after → All (KeepsPipe l setup race replies) pipes
keep_pipes l setup race replies pipes parted after kept each on met k d below =
    let second : k < length parted = subst (λ (m : ℕ). k < m) (sym each.count) below in
    let third : k < length after = subst (λ (m : ℕ). k < m) (sym on.count) second in
    let p = slice_index_or pipes k d in
    let x = standing parted k second in
    let y = standing after k third in
    keeps_pipe l setup race replies p x.0 y.0 (kept k d below)
    (each.each k p x.0 below (at_itself pipes k d below) x.1)
    (on.each k x.0 y.0 second x.1 y.1) (all-at HasMet after k y.0 third y.1 met)

-- ---- what the lines find

pub finds_in_pipe : (race : List RaceLine) (replies : CallerNo → List Reply) (p : Pipe) (x y : PartedPipe)
    → IsPartedAs p x → PipeGoesOn (λ n. lines_by n race replies) x y → FindsInPipe race replies p
finds_in_pipe race replies p x y parted on = record {
  reads =
      let found = on.source.finds (awaited_at_go p) parted.known in
      let last : Awaited = found.0 in (
        last,
        subst (λ (n : CallerNo). LinesFind p.source (lines n) (awaited_at_go p) last) parted.reader
            (subst (λ (c : ChanId). LinesFind c (lines x.owners.reader) (awaited_at_go p) last) parted.source
            found.1.0),
      );
  takes =
      let left = on.sink.takes (room_at_go p) parted.room in
      let last : ℕ = left.0 in (
        last,
        subst (λ (n : CallerNo). LinesTake p.sink (lines n) (room_at_go p) last) parted.writer
            (subst (λ (c : ChanId). LinesTake c (lines x.owners.writer) (room_at_go p) last) parted.sink left.1.0),
      );
}
  where
    lines : CallerNo → List (RaceCall × Reply)
    lines n = lines_by n race replies

-- So it is with each pipe, place by place.
pub find_in_pipes : (race : List RaceLine) (replies : CallerNo → List Reply) (pipes : List Pipe)
    (parted after : List PartedPipe) → AreEach IsPartedAs pipes parted
    → AreEach (PipeGoesOn (λ n. lines_by n race replies)) parted after → All (FindsInPipe race replies) pipes
find_in_pipes race replies pipes parted after each on k d below =
    let second : k < length parted = subst (λ (m : ℕ). k < m) (sym each.count) below in
    let third : k < length after = subst (λ (m : ℕ). k < m) (sym on.count) second in
    let p = slice_index_or pipes k d in
    let x = standing parted k second in
    let y = standing after k third in
    finds_in_pipe race replies p x.0 y.0 (each.each k p x.0 below (at_itself pipes k d below) x.1)
    (on.each k x.0 y.0 second x.1 y.1)
