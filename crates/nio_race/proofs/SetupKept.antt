-- What holds of the pipes after some lines of a setup, and what a line more has to do so that it holds again.
use Rattle.std.proofs.Common.{◌≡◌, ◌≢◌, ℕ, ◌+◌, ◌<◌, ◌≤◌, Bool, true, false, ◌||◌, ⊎_elim, List, [], ◌∷◌, ◌++◌}
use Rattle.std.proofs.Common.{length, set, refl, sym, ap, ◌∙◌, subst, append_assoc, arith}
use Rattle.std.proofs.lemmas.Bool.{both_ways, cases_eq, cases_lt, false_from_ne_true, or_left}
use Rattle.std.proofs.lemmas.List.{append-nil, get_or-set_other, get_or-set_same, length-append, length-set}
use Rattle.std.proofs.lemmas.List.{get_or_append_left}
use Rattle.std.proofs.Math.Bool.{or-false}
use Rattle.std.proofs.Math.Seq.{get_or-append_seam}
use Rattle.nio_base.specs.declared.limits.Limits.{Limits}
use Rattle.nio_base.specs.declared.numbers.CallerNo.{CallerNo}
use Rattle.nio_base.specs.declared.numbers.ChanId.{ChanId}
use Rattle.nio_history.specs.Sets.{was_closed, was_opened}
use Rattle.nio_history.specs.declared.found.Chan.{Chan}
use Rattle.nio_language.specs.declared.call.ScriptCall.{ScriptCall}
use Rattle.nio_language.specs.declared.reply.Reply.{Reply}
use Rattle.nio_plain.proofs.ReachedReopening.{Lasts}
use Rattle.nio_plain.proofs.ReachedSound.{Sound}
use Rattle.nio_plain.specs.ScriptState.{Pipe, ScriptState}
use Rattle.nio_plain.specs.Seq.Pipes.{pipe_at}
use Rattle.nio_plain.specs.Seq.Piping.{new_pipe}
use Rattle.nio_plain.specs.declared.rules.Rules.TheVariants.{Now}
use Rattle.nio_race.proofs.SetupLines.{EndsRead, ReadsEnd, end_of, is_by, lines_of, read_of, written_of}
use Rattle.nio_race.proofs.SetupLines.{end-more, of-none, read-more, tells-more, written-more}
use Rattle.nio_race.specs.PipeBytes.{TellsEnd, all_read, all_written, seals_by, leave_seal, read_by, written_by}
use Rattle.nio_race.specs.Piping.{use_of}

-- ---- what holds

-- the pipe has what the lines so far say
pub record HasSaid (log : List (ScriptCall × Reply)) (p : Pipe) : Type 0 where
  pub bytes : all_read p.source (lines_of p.reader log) ++ p.waiting ≡ all_written p.sink (lines_of p.writer log)
  pub seal : p.sealed ≡ leave_seal p.sink (lines_of p.writer log)
  pub told : TellsEnd p.source (lines_of p.reader log) → (p.sealed ≡ true) × (p.waiting ≡ [])

-- the channel was opened
abbrev pub has_opened : (ℕ → Chan) → ChanId → Bool
has_opened chan c = was_opened (chan c.number.0) c.serial

-- the channel was closed
abbrev pub has_closed : (ℕ → Chan) → ChanId → Bool
has_closed chan c = was_closed (chan c.number.0) c.serial

-- Its owners are callers, its ends were opened, and a sink that left its seal was closed.
pub record IsKeptPipe (l : Limits) (log : List (ScriptCall × Reply)) (chan : ℕ → Chan) (p : Pipe) : Type 0 where
  pub reader : p.reader.0 < l.callers
  pub writer : p.writer.0 < l.callers
  pub source : has_opened chan p.source ≡ true
  pub sink : has_opened chan p.sink ≡ true
  pub closed : p.sealed ≡ true → has_closed chan p.sink ≡ true
  pub said : HasSaid log p

-- no line read from the channel, wrote into it or left its seal
pub record IsUntouched (log : List (ScriptCall × Reply)) (c : ChanId) (n : CallerNo) : Type 0 where
  pub read : all_read c (lines_of n log) ≡ []
  pub written : all_written c (lines_of n log) ≡ []
  pub end : leave_seal c (lines_of n log) ≡ false
  pub untold : TellsEnd c (lines_of n log) → ⊥

pub record AreKept (l : Limits) (log : List (ScriptCall × Reply)) (st : ScriptState) : Type 0 where
  pub sound : Sound Now l st
  pub each : (k : ℕ) → k < length st.pipes → IsKeptPipe l log st.shared.chan (pipe_at st.pipes k)
  pub sources_differ : (j k : ℕ) → j < length st.pipes → k < length st.pipes → j ≢ k
      → (pipe_at st.pipes j).source ≢ (pipe_at st.pipes k).source
  pub sinks_differ : (j k : ℕ) → j < length st.pipes → k < length st.pipes → j ≢ k
      → (pipe_at st.pipes j).sink ≢ (pipe_at st.pipes k).sink
  pub unopened : (c : ChanId) → has_opened st.shared.chan c ≡ false → (n : CallerNo) → IsUntouched log c n

-- ---- what a line does

-- it says nothing of the channel
pub record IsSilent (c : ChanId) (x : ScriptCall × Reply) : Type 0 where
  pub read : read_by c (use_of x.0.call) x.1 ≡ []
  pub written : written_by c (use_of x.0.call) x.1 ≡ []
  pub end : seals_by c (use_of x.0.call) x.1 ≡ false
  pub untold : ReadsEnd c x → ⊥

-- it says nothing of the pipe
pub record IsBeside (p : Pipe) (x : ScriptCall × Reply) : Type 0 where
  pub read : read_of p.reader p.source x ≡ []
  pub written : written_of p.writer p.sink x ≡ []
  pub end : end_of p.writer p.sink x ≡ false
  pub untold : EndsRead p.reader p.source x → ⊥

abbrev pub changed : Pipe → List ℕ → Bool → Pipe
changed p waiting sealed = record p { waiting = waiting; sealed = sealed }

-- it does to the pipe what it says
pub record GoesOn (x : ScriptCall × Reply) (old : Pipe) (waiting : List ℕ) (sealed : Bool) : Type 0 where
  pub bytes : read_of old.reader old.source x ++ waiting ≡ old.waiting ++ written_of old.writer old.sink x
  pub seal : sealed ≡ (old.sealed || end_of old.writer old.sink x)
  pub told : EndsRead old.reader old.source x → (sealed ≡ true) × (waiting ≡ [])
  pub stays : old.sealed ≡ true → old.waiting ≡ [] → waiting ≡ []

pub record PipeSteps (x : ScriptCall × Reply) (chan : ℕ → Chan) (old new : Pipe) : Type 0 where
  pub waiting : List ℕ
  pub sealed : Bool
  pub is : new ≡ changed old waiting sealed
  pub goes : GoesOn x old waiting sealed
  pub closes : end_of old.writer old.sink x ≡ true → has_closed chan old.sink ≡ true

-- what was opened stays opened, and what was closed stays closed
abbrev pub AllLast : (ℕ → Chan) → (ℕ → Chan) → Type 0
AllLast before after = (c : ℕ) → Lasts (before c) (after c)

-- the state comes after a call on the other
pub record Follows (l : Limits) (st after : ScriptState) : Type 0 where
  pub sound : Sound Now l after
  pub last : AllLast st.shared.chan after.shared.chan

pub record Steps (l : Limits) (x : ScriptCall × Reply) (st after : ScriptState) : Type 0 where
  pub follows : Follows l st after
  pub count : length after.pipes ≡ length st.pipes
  pub each : (k : ℕ) → k < length st.pipes
      → PipeSteps x after.shared.chan (pipe_at st.pipes k) (pipe_at after.pipes k)
  pub silent : (c : ChanId) → has_opened after.shared.chan c ≡ false → IsSilent c x

-- ---- a line more

untouched-more : (log : List (ScriptCall × Reply)) (x : ScriptCall × Reply) (c : ChanId) (n : CallerNo)
    → IsUntouched log c n → IsSilent c x → IsUntouched (log ++ x ∷ []) c n
untouched-more log x c n before silent = record {
  read =
      read-more n c log x
      ∙ (ap (λ (xs : List ℕ). xs ++ read_of n c x) before.read
      ∙ of-none (is_by n x) (read_by c (use_of x.0.call) x.1) [] silent.read);
  written =
      written-more n c log x
      ∙ (ap (λ (xs : List ℕ). xs ++ written_of n c x) before.written
      ∙ of-none (is_by n x) (written_by c (use_of x.0.call) x.1) [] silent.written);
  end =
      end-more n c log x
      ∙ (ap (λ (b : Bool). b || end_of n c x) before.end
      ∙ of-none (is_by n x) (seals_by c (use_of x.0.call) x.1) false silent.end);
  untold = λ tells.
      ⊎_elim (λ earlier. before.untold earlier) (λ (last : EndsRead n c x). silent.untold last.reads)
      (tells-more n c log x tells);
}

said-more : (log : List (ScriptCall × Reply)) (x : ScriptCall × Reply) (old : Pipe) (waiting : List ℕ) (sealed : Bool)
    → HasSaid log old → GoesOn x old waiting sealed → HasSaid (log ++ x ∷ []) (changed old waiting sealed)
said-more log x old waiting sealed said goes =
    let read = all_read old.source (lines_of old.reader log) in
    let more = read_of old.reader old.source x in
    let wrote = written_of old.writer old.sink x in
    record {
      bytes =
          ap (λ (xs : List ℕ). xs ++ waiting) (read-more old.reader old.source log x)
          ∙ (append_assoc read more waiting
          ∙ (ap (λ (xs : List ℕ). read ++ xs) goes.bytes
          ∙ (sym (append_assoc read old.waiting wrote)
          ∙ (ap (λ (xs : List ℕ). xs ++ wrote) said.bytes
          ∙ sym (written-more old.writer old.sink log x)))));
      seal =
          goes.seal
          ∙ (ap (λ (b : Bool). b || end_of old.writer old.sink x) said.seal
          ∙ sym (end-more old.writer old.sink log x));
      told = λ tells.
          ⊎_elim
          (λ earlier.
          let was = said.told earlier in
          (goes.seal ∙ or_left old.sealed (end_of old.writer old.sink x) was.0, goes.stays was.0 was.1))
          (λ last. goes.told last)
          (tells-more old.reader old.source log x tells);
    }

closed-more : (chan after : ℕ → Chan) (x : ScriptCall × Reply) (old : Pipe) (sealed : Bool) → AllLast chan after
    → (old.sealed ≡ true → has_closed chan old.sink ≡ true)
    → (end_of old.writer old.sink x ≡ true → has_closed after old.sink ≡ true)
    → sealed ≡ (old.sealed || end_of old.writer old.sink x) → sealed ≡ true → has_closed after old.sink ≡ true
closed-more chan after x old sealed last was closes is now = by_seal old.sealed refl (sym is ∙ now)
  where
    by_seal : (b : Bool) → old.sealed ≡ b → (b || end_of old.writer old.sink x) ≡ true
        → has_closed after old.sink ≡ true
    by_seal true e h = (last old.sink.number.0).closed old.sink.serial (was e)
    by_seal false e h = closes h

pipe-more : (l : Limits) (log : List (ScriptCall × Reply)) (x : ScriptCall × Reply) (chan after : ℕ → Chan)
    (old new : Pipe)
    → AllLast chan after → IsKeptPipe l log chan old → PipeSteps x after old new
    → IsKeptPipe l (log ++ x ∷ []) after new
pipe-more l log x chan after old new last kept steps =
    subst (IsKeptPipe l (log ++ x ∷ []) after) (sym steps.is)
    (record {
      reader = kept.reader;
      writer = kept.writer;
      source = (last old.source.number.0).opened old.source.serial kept.source;
      sink = (last old.sink.number.0).opened old.sink.serial kept.sink;
      closed = closed-more chan after x old steps.sealed last kept.closed steps.closes steps.goes.seal;
      said = said-more log x old steps.waiting steps.sealed kept.said steps.goes;
    })

-- what wasn't opened afterwards wasn't opened before
pub was-unopened : (before after : ℕ → Chan) (c : ChanId) → AllLast before after → has_opened after c ≡ false
    → has_opened before c ≡ false
was-unopened before after c last unopened =
    false_from_ne_true (has_opened before c)
    (λ opened. both_ways (has_opened after c) unopened ((last c.number.0).opened c.serial opened))

pub steps-more : (l : Limits) (log : List (ScriptCall × Reply)) (x : ScriptCall × Reply) (st after : ScriptState)
    → AreKept l log st → Steps l x st after → AreKept l (log ++ x ∷ []) after
steps-more l log x st after kept steps =
    let within : (k : ℕ) → k < length after.pipes → k < length st.pipes =
    λ k h. subst (λ (n : ℕ). k < n) steps.count h in
    record {
      sound = steps.follows.sound;
      each = λ k h.
          pipe-more l log x st.shared.chan after.shared.chan (pipe_at st.pipes k) (pipe_at after.pipes k)
          steps.follows.last (kept.each k (within k h)) (steps.each k (within k h));
      sources_differ = λ j k hj hk ne same.
          kept.sources_differ j k (within j hj) (within k hk) ne
          (sym (ap (λ (p : Pipe). p.source) (steps.each j (within j hj)).is)
          ∙ (same ∙ ap (λ (p : Pipe). p.source) (steps.each k (within k hk)).is));
      sinks_differ = λ j k hj hk ne same.
          kept.sinks_differ j k (within j hj) (within k hk) ne
          (sym (ap (λ (p : Pipe). p.sink) (steps.each j (within j hj)).is)
          ∙ (same ∙ ap (λ (p : Pipe). p.sink) (steps.each k (within k hk)).is));
      unopened = λ c unopened n.
          untouched-more log x c n
          (kept.unopened c (was-unopened st.shared.chan after.shared.chan c steps.follows.last unopened) n)
          (steps.silent c unopened);
    }

-- ---- which lines do what they say

-- one that says nothing of a pipe leaves it
beside-goes : (x : ScriptCall × Reply) (p : Pipe) → IsBeside p x → GoesOn x p p.waiting p.sealed
beside-goes x p beside = record {
  bytes =
      ap (λ (xs : List ℕ). xs ++ p.waiting) beside.read
      ∙ (sym (append-nil p.waiting) ∙ ap (λ (xs : List ℕ). p.waiting ++ xs) (sym beside.written));
  seal = sym (ap (λ (b : Bool). p.sealed || b) beside.end ∙ or-false p.sealed);
  told = λ last. absurd (beside.untold last);
  stays = λ sealed none. none;
}

beside-steps : (x : ScriptCall × Reply) (chan : ℕ → Chan) (p new : Pipe) → IsBeside p x → new ≡ p
    → PipeSteps x chan p new
beside-steps x chan p new beside is = record {
  waiting = p.waiting;
  sealed = p.sealed;
  is = is;
  goes = beside-goes x p beside;
  closes = λ ends. absurd (both_ways (end_of p.writer p.sink x) beside.end ends);
}

-- no pipe is changed, and the line says nothing of one
pub beside-more : (l : Limits) (log : List (ScriptCall × Reply)) (x : ScriptCall × Reply) (st after : ScriptState)
    → AreKept l log st → Follows l st after → after.pipes ≡ st.pipes
    → ((k : ℕ) → k < length st.pipes → IsBeside (pipe_at st.pipes k) x)
    → ((c : ChanId) → has_opened after.shared.chan c ≡ false → IsSilent c x)
    → AreKept l (log ++ x ∷ []) after
beside-more l log x st after kept follows same beside silent =
    steps-more l log x st after kept
    (record {
      follows = follows;
      count = ap length same;
      each = λ k h.
          beside-steps x after.shared.chan (pipe_at st.pipes k) (pipe_at after.pipes k) (beside k h)
          (ap (λ (ps : List Pipe). pipe_at ps k) same);
      silent = silent;
    })

silent-beside : (p : Pipe) (x : ScriptCall × Reply) → ((c : ChanId) → IsSilent c x) → IsBeside p x
silent-beside p x silent = record {
  read = of-none (is_by p.reader x) (read_by p.source (use_of x.0.call) x.1) [] (silent p.source).read;
  written = of-none (is_by p.writer x) (written_by p.sink (use_of x.0.call) x.1) [] (silent p.sink).written;
  end = of-none (is_by p.writer x) (seals_by p.sink (use_of x.0.call) x.1) false (silent p.sink).end;
  untold = λ (last : EndsRead p.reader p.source x). (silent p.source).untold last.reads;
}

-- no pipe is changed, and the line says nothing of any channel
pub silent-more : (l : Limits) (log : List (ScriptCall × Reply)) (x : ScriptCall × Reply) (st after : ScriptState)
    → AreKept l log st → Follows l st after → after.pipes ≡ st.pipes
    → ((c : ChanId) → IsSilent c x) → AreKept l (log ++ x ∷ []) after
silent-more l log x st after kept follows same silent =
    beside-more l log x st after kept follows same (λ k h. silent-beside (pipe_at st.pipes k) x silent) (λ c h. silent c)

-- the pipe at a place is changed as the line says, which says nothing of the others
pub place-more : (l : Limits) (log : List (ScriptCall × Reply)) (x : ScriptCall × Reply) (st after : ScriptState)
    (i : ℕ) (waiting : List ℕ) (sealed : Bool)
    → AreKept l log st → Follows l st after → i < length st.pipes
    → after.pipes ≡ set st.pipes i (changed (pipe_at st.pipes i) waiting sealed)
    → GoesOn x (pipe_at st.pipes i) waiting sealed
    → (end_of (pipe_at st.pipes i).writer (pipe_at st.pipes i).sink x ≡ true
    → has_closed after.shared.chan (pipe_at st.pipes i).sink ≡ true)
    → ((k : ℕ) → k < length st.pipes → k ≢ i → IsBeside (pipe_at st.pipes k) x)
    → ((c : ChanId) → has_opened after.shared.chan c ≡ false → IsSilent c x)
    → AreKept l (log ++ x ∷ []) after
place-more l log x st after i waiting sealed kept follows within now goes closes beside silent =
    let it = changed (pipe_at st.pipes i) waiting sealed in
    let chan = after.shared.chan in
    let here : PipeSteps x chan (pipe_at st.pipes i) (pipe_at after.pipes i) =
    record {
      waiting = waiting;
      sealed = sealed;
      is = ap (λ (ps : List Pipe). pipe_at ps i) now ∙ get_or-set_same st.pipes i it _ within;
      goes = goes;
      closes = closes;
    } in
    steps-more l log x st after kept
    (record {
      follows = follows;
      count = ap length now ∙ length-set st.pipes i it;
      each = λ k h.
          ⊎_elim
          (λ (e : k ≡ i).
          subst (λ (j : ℕ). PipeSteps x chan (pipe_at st.pipes j) (pipe_at after.pipes j)) (sym e) here)
          (λ (ne : k ≢ i).
          beside-steps x chan (pipe_at st.pipes k) (pipe_at after.pipes k) (beside k h ne)
          (ap (λ (ps : List Pipe). pipe_at ps k) now ∙ get_or-set_other st.pipes i k it _ ne))
          (cases_eq k i);
      silent = silent;
    })

-- ---- a pipe more

new-said : (log : List (ScriptCall × Reply)) (me target : CallerNo) (source sink : ChanId)
    → IsUntouched log source me → IsUntouched log sink target → HasSaid log (new_pipe me target source sink)
new-said log me target source sink at_source at_sink = record {
  bytes = append-nil (all_read source (lines_of me log)) ∙ (at_source.read ∙ sym at_sink.written);
  seal = sym at_sink.end;
  told = λ tells. absurd (at_source.untold tells);
}

-- A pipe comes behind the others. Its ends weren't opened before.
pub pipe-behind : (l : Limits) (log : List (ScriptCall × Reply)) (x : ScriptCall × Reply) (st after : ScriptState)
    (me target : CallerNo) (source sink : ChanId)
    → AreKept l log st → Follows l st after
    → after.pipes ≡ st.pipes ++ new_pipe me target source sink ∷ []
    → ((c : ChanId) → IsSilent c x) → me.0 < l.callers → target.0 < l.callers
    → has_opened st.shared.chan source ≡ false → has_opened st.shared.chan sink ≡ false
    → has_opened after.shared.chan source ≡ true → has_opened after.shared.chan sink ≡ true
    → AreKept l (log ++ x ∷ []) after
pipe-behind l log x st after me target source sink kept follows now silent reads writes no_source no_sink has_source
    has_sink =
    let p = new_pipe me target source sink in
    let chan = after.shared.chan in
    let log' = log ++ x ∷ [] in
    let same : (c : ChanId) (n : CallerNo) → has_opened st.shared.chan c ≡ false → IsUntouched log' c n =
    λ c n unopened. untouched-more log x c n (kept.unopened c unopened n) (silent c) in
    let count : length after.pipes ≡ length st.pipes + 1 = ap length now ∙ length-append st.pipes (p ∷ []) in
    let old : (k : ℕ) → k < length st.pipes → pipe_at after.pipes k ≡ pipe_at st.pipes k =
    λ k h. ap (λ (ps : List Pipe). pipe_at ps k) now ∙ get_or_append_left st.pipes (p ∷ []) _ k h in
    let new : pipe_at after.pipes (length st.pipes) ≡ p =
    ap (λ (ps : List Pipe). pipe_at ps (length st.pipes)) now ∙ get_or-append_seam st.pipes p [] _ in
    let there : (k : ℕ) → k < length st.pipes → IsKeptPipe l log' chan (pipe_at after.pipes k) =
    λ k h.
    pipe-more l log x st.shared.chan chan (pipe_at st.pipes k) (pipe_at after.pipes k) follows.last (kept.each k h)
    (beside-steps x chan (pipe_at st.pipes k) (pipe_at after.pipes k)
    (silent-beside (pipe_at st.pipes k) x silent) (old k h)) in
    let it : IsKeptPipe l log' chan p =
    record {
      reader = reads;
      writer = writes;
      source = has_source;
      sink = has_sink;
      closed = λ sealed. absurd (both_ways false refl sealed);
      said = new-said log' me target source sink (same source me no_source) (same sink target no_sink);
    } in
    let last : (k : ℕ) → k < length after.pipes → length st.pipes ≤ k → pipe_at after.pipes k ≡ p =
    λ k h behind.
    let e : k ≡ length st.pipes = omega arith in
    ap (λ (n : ℕ). pipe_at after.pipes n) e ∙ new in
    record {
      sound = follows.sound;
      each = λ k h.
          ⊎_elim (λ (below : k < length st.pipes). there k below)
          (λ (behind : length st.pipes ≤ k). subst (IsKeptPipe l log' chan) (sym (last k h behind)) it)
          (cases_lt k (length st.pipes));
      sources_differ =
          differ st after p now (λ q. q.source) kept.sources_differ no_source
          (λ k h. (kept.each k h).source) old last count;
      sinks_differ =
          differ st after p now (λ q. q.sink) kept.sinks_differ no_sink
          (λ k h. (kept.each k h).sink) old last count;
      unopened = λ c unopened n. same c n (was-unopened st.shared.chan chan c follows.last unopened);
    }
  where
    differ : (st after : ScriptState) (p : Pipe) → after.pipes ≡ st.pipes ++ p ∷ [] → (f : Pipe → ChanId)
        → ((j k : ℕ) → j < length st.pipes → k < length st.pipes → j ≢ k
        → f (pipe_at st.pipes j) ≢ f (pipe_at st.pipes k))
        → has_opened st.shared.chan (f p) ≡ false
        → ((k : ℕ) → k < length st.pipes → has_opened st.shared.chan (f (pipe_at st.pipes k)) ≡ true)
        → ((k : ℕ) → k < length st.pipes → pipe_at after.pipes k ≡ pipe_at st.pipes k)
        → ((k : ℕ) → k < length after.pipes → length st.pipes ≤ k → pipe_at after.pipes k ≡ p)
        → length after.pipes ≡ length st.pipes + 1
        → (j k : ℕ) → j < length after.pipes → k < length after.pipes → j ≢ k
        → f (pipe_at after.pipes j) ≢ f (pipe_at after.pipes k)
    differ st after p now f before unopened opened old last count j k hj hk ne same =
        ⊎_elim
        (λ (low : j < length st.pipes).
        ⊎_elim
        (λ (low' : k < length st.pipes).
        before j k low low' ne (sym (ap f (old j low)) ∙ (same ∙ ap f (old k low'))))
        (λ (behind : length st.pipes ≤ k).
        apart j low (sym (ap f (old j low)) ∙ (same ∙ ap f (last k hk behind))))
        (cases_lt k (length st.pipes)))
        (λ (behind : length st.pipes ≤ j).
        ⊎_elim
        (λ (low' : k < length st.pipes).
        apart k low' (sym (ap f (old k low')) ∙ (sym same ∙ ap f (last j hj behind))))
        (λ (behind' : length st.pipes ≤ k). ne (omega arith))
        (cases_lt k (length st.pipes)))
        (cases_lt j (length st.pipes))
      where
        apart : (i : ℕ) → i < length st.pipes → f (pipe_at st.pipes i) ≡ f p → ⊥
        apart i h e =
            both_ways (has_opened st.shared.chan (f p)) unopened
            (subst (λ (c : ChanId). has_opened st.shared.chan c ≡ true) e (opened i h))
