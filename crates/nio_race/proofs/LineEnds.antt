-- What lines do to the ends of pipes that their caller owns: nothing, or the one after the other.
use Rattle.std.proofs.Common.{◌≡◌, ℕ, suc, ◌<◌, ◌++◌, Bool, true, false, ◌||◌, List, [], ◌∷◌, length, map}
use Rattle.std.proofs.Common.{inl, inr, ⊎_elim, arith, refl, sym, ap, ◌∙◌, subst, append_assoc}
use Rattle.std.proofs.Math.Bool.{or-false, or_assoc}
use Rattle.std.proofs.Math.Nat.{le_refl, le_trans}
use Rattle.std.specs.Prelude.{◌⊎◌, zip}
use Rattle.std.specs.List.{slice_index_or}
use Rattle.std.proofs.lemmas.Grind.{flat_map-append}
use Rattle.std.proofs.lemmas.List.{append-nil, get_or_default}
use Rattle.std.proofs.lemmas.List.Elements.{All-weaker, Contains-append_cases, Contains-push_cases}
use Rattle.nio_base.specs.declared.limits.Limits.{Limits}
use Rattle.nio_base.specs.declared.numbers.CallerNo.{CallerNo}
use Rattle.nio_base.specs.declared.numbers.ChanId.{ChanId}
use Rattle.nio_history.proofs.PassViews.{channel_after}
use Rattle.nio_history.specs.PassViews.{HasChannel}
use Rattle.nio_history.specs.declared.act.Act.{Act}
use Rattle.nio_language.specs.WordRows.{PipeUse, neither, reads}
use Rattle.nio_language.specs.declared.call.Call.TheVariants as call
use Rattle.nio_language.specs.declared.reply.Reply.{Reply}
use Rattle.nio_language.specs.declared.reply.Reply.TheVariants as reply
use Rattle.nio_pipe.proofs.EndLemmas.{looks_none, same_sink, same_source, sink_looks_none}
use Rattle.nio_pipe.specs.Calls.{HasEnds}
use Rattle.nio_pipe.specs.Ends.{is_sealed, other_chan, received, sent, sink_chan, source_chan}
use Rattle.nio_pipe.specs.declared.sink.PipeSink.{PipeSink}
use Rattle.nio_pipe.specs.declared.source.PipeSource.{PipeSource}
use Rattle.nio_race_text.specs.declared.call.RaceCall.{RaceCall}
use Rattle.nio_race_text.specs.declared.call.RaceCall.TheVariants.{Script, Block}
use Rattle.nio_serial.specs.Documented.{Progress}
use Rattle.nio_sole.specs.Stands.{pipe_of, progress_of}
use Rattle.nio_sole.specs.declared.desk.Desk.{Desk}
use Rattle.nio_steps.specs.Calls.{CallClause}
use Rattle.nio_steps.specs.PipeCalls.{PipeEnds}
use Rattle.nio_words.specs.Views.{view}
use Rattle.nio_words.specs.declared.words.Words.{Words}
use Rattle.nio_race.proofs.EndLists.{each_itself}
use Rattle.nio_race.proofs.FindLines.{KeepsRoom, find_append, finds_none, one_finds, one_takes, take_append}
use Rattle.nio_race.proofs.FindLines.{takes_none, use_in}
use Rattle.nio_race.proofs.PairsLists.{each-same}
use Rattle.nio_race.proofs.SetupLines.{leave_seal-append}
use Rattle.nio_race.specs.Ends.{AreEach, EndsGoOn, HasMadeEnds, SinkGoesOn, SourceGoesOn, ends_of, ends_of_sink}
use Rattle.nio_race.specs.PipeBytes.{TellsEnd, all_read, all_written, seals_by, seals_in, leave_seal, read_by, read_in}
use Rattle.nio_race.specs.PipeBytes.{written_by, written_in}
use Rattle.nio_race.specs.PipeFinds.{Awaited, LineFinds, LinesFind, LinesTake}
use Rattle.nio_race.specs.Piping.{OwnedEnds}
use Rattle.nio_race.specs.Racers.{StandsFor, StandsWith}
use Rattle.nio_race.specs.Runs.{AreRaceLines}
use Rattle.nio_race.specs.declared.ends.OwnEnds.{OwnEnds}

-- ---- elements at one place

pub each_then : {A : Type 0} (R S T : A → A → Type 0) (xs ys zs : List A)
    → ((x y z : A) → R x y → S y z → T x z) → AreEach R xs ys → AreEach S ys zs → AreEach T xs zs
each_then {A} R S T xs ys zs chain first second = record {
  count = second.count ∙ first.count;
  each = λ k x z below is_x is_z.
      let y : A = slice_index_or ys k x in
      let inside : k < length ys = subst (λ (n : ℕ). k < n) (sym first.count) below in
      let is_y : slice_index_or ys k y ≡ y = get_or_default ys k y x inside in
      chain x y z (first.each k x y below is_x is_y) (second.each k y z inside is_y is_z);
}

-- ---- which ends these are

abbrev these : List ChanId → List PipeEnds → OwnedEnds
these sources sinks = record { sources = sources; sinks = sinks }

abbrev this_sink : ChanId → ChanId → PipeEnds
this_sink source sink = record { source = source; sink = sink }

-- lines keep the ends that their caller owns
pub same_names : (lines : List (RaceCall × Reply)) (old new : OwnEnds) → EndsGoOn lines old new
    → ends_of new ≡ ends_of old
same_names lines old new on =
    let sources : map source_chan new.sources.items ≡ map source_chan old.sources.items =
    each-same (SourceGoesOn lines) source_chan source_chan old.sources.items new.sources.items
    (λ x y goes. goes.same.channel) on.sources in
    let sinks : map ends_of_sink new.sinks.items ≡ map ends_of_sink old.sinks.items =
    each-same (SinkGoesOn lines) ends_of_sink ends_of_sink old.sinks.items new.sinks.items
    (λ x y goes. ap (λ (c : ChanId). this_sink c (sink_chan y)) goes.same.other
    ∙ ap (λ (c : ChanId). this_sink (other_chan x) c) goes.same.channel) on.sinks in
    ap (λ (xs : List ChanId). these xs (map ends_of_sink new.sinks.items)) sources
    ∙ ap (λ (xs : List PipeEnds). these (map source_chan old.sources.items) xs) sinks

-- ---- lines that leave them as they are

-- a line that says nothing of an end
pub source_stays : (line : RaceCall) (r : Reply) (x : PipeSource) → read_in (source_chan x) line r ≡ []
    → (TellsEnd (source_chan x) ((line, r) ∷ []) → ⊥) → ((a : Awaited) → LineFinds (source_chan x) line r a a)
    → SourceGoesOn ((line, r) ∷ []) x x
source_stays line r x unread untold unfound = record {
  same = (looks_none x).same;
  received = sym (ap (λ (bytes : List ℕ). received x ++ (bytes ++ [])) unread ∙ append-nil (received x));
  tells_end = λ told. absurd (untold told);
  stays = λ at_end. at_end;
  finds = λ a knows. (a, (one_finds (source_chan x) line r a a (unfound a), knows));
}

pub sink_stays : (line : RaceCall) (r : Reply) (x : PipeSink) → written_in (sink_chan x) line r ≡ []
    → seals_in (sink_chan x) line r ≡ false → KeepsRoom (sink_chan x) line r → SinkGoesOn ((line, r) ∷ []) x x
sink_stays line r x unwritten unsealed keeps = record {
  same = (sink_looks_none x).same;
  sent = sym (ap (λ (bytes : List ℕ). sent x ++ (bytes ++ [])) unwritten ∙ append-nil (sent x));
  seal = sym (or-false (is_sealed x)) ∙ ap (λ (b : Bool). is_sealed x || (b || false)) (sym unsealed);
  ended = λ _. ap (λ (bytes : List ℕ). bytes ++ []) unwritten;
  takes = λ room few.
      let kept = keeps room in
      (kept.0, (one_takes (sink_chan x) line r room kept.0 kept.1.0, le_trans kept.1.1 few));
}

reads-none : (c : ChanId) (line : RaceCall) (r : Reply) → use_in line ≡ neither → read_in c line r ≡ []
reads-none c (Script word) r is = ap (λ (u : PipeUse). read_by c u r) is
reads-none c (Block s) r is = refl

writes-none : (c : ChanId) (line : RaceCall) (r : Reply) → use_in line ≡ neither → written_in c line r ≡ []
writes-none c (Script word) r is = ap (λ (u : PipeUse). written_by c u r) is
writes-none c (Block s) r is = refl

ends-none : (c : ChanId) (line : RaceCall) (r : Reply) → use_in line ≡ neither → seals_in c line r ≡ false
ends-none c (Script word) r is = ap (λ (u : PipeUse). seals_by c u r) is
ends-none c (Block s) r is = refl

-- where one line tells the end, it is a read of this channel
pub told_alone : (c : ChanId) (line : RaceCall) (r : Reply) (told : TellsEnd c ((line, r) ∷ []))
    → ◌≡◌ {A = RaceCall × Reply} (line, r) (Script (call.Pread c told.0), reply.End)
told_alone c line r told =
    ⊎_elim (λ inside. absurd (omega (arith, inside.1))) (λ same. same)
    (Contains-push_cases [] (line, r) (Script (call.Pread c told.0), reply.End) told.1)

pub neither_stays : (line : RaceCall) (r : Reply) (ends : OwnEnds) → use_in line ≡ neither
    → EndsGoOn ((line, r) ∷ []) ends ends
neither_stays line r ends is = record {
  sources = each_itself (SourceGoesOn ((line, r) ∷ [])) ends.sources.items
      (λ k x within at.
      let c = source_chan x in
      source_stays line r x (reads-none c line r is)
      (λ told.
      let does : use_in line ≡ reads c told.0 = ap (λ (y : RaceCall × Reply). use_in y.0) (told_alone c line r told) in
      let clash : neither ≡ reads c told.0 = sym is ∙ does in absurd cc)
      (λ a. finds_none c line r a is));
  sinks = each_itself (SinkGoesOn ((line, r) ∷ [])) ends.sinks.items
      (λ k x within at.
      let c = sink_chan x in
      sink_stays line r x (writes-none c line r is) (ends-none c line r is)
      (λ room. (room, (takes_none c line r room is, le_refl room))));
}

-- ---- lines and one more

all_read-append : (c : ChanId) (xs ys : List (RaceCall × Reply))
    → all_read c (xs ++ ys) ≡ all_read c xs ++ all_read c ys
all_read-append c xs ys = flat_map-append (λ (x : RaceCall × Reply). read_in c x.0 x.1) xs ys

all_written-append : (c : ChanId) (xs ys : List (RaceCall × Reply))
    → all_written c (xs ++ ys) ≡ all_written c xs ++ all_written c ys
all_written-append c xs ys = flat_map-append (λ (x : RaceCall × Reply). written_in c x.0 x.1) xs ys

tells-append : (c : ChanId) (xs ys : List (RaceCall × Reply)) → TellsEnd c (xs ++ ys) → TellsEnd c xs ⊎ TellsEnd c ys
tells-append c xs ys told =
    ⊎_elim (λ before. inl (told.0, before)) (λ after. inr (told.0, after))
    (Contains-append_cases xs ys (Script (call.Pread c told.0), reply.End) told.1)

source_more : (xs ys : List (RaceCall × Reply)) (a b c : PipeSource) → SourceGoesOn xs a b → SourceGoesOn ys b c
    → SourceGoesOn (xs ++ ys) a c
source_more xs ys a b c p q =
    let chan : source_chan b ≡ source_chan a = p.same.channel in
    record {
      same = same_source p.same q.same;
      received =
          q.received
          ∙ (ap (λ (k : ChanId). received b ++ all_read k ys) chan
          ∙ (ap (λ bytes. bytes ++ all_read (source_chan a) ys) p.received
          ∙ (append_assoc (received a) (all_read (source_chan a) xs) (all_read (source_chan a) ys)
          ∙ ap (λ bytes. received a ++ bytes) (sym (all_read-append (source_chan a) xs ys)))));
      tells_end = λ told.
          ⊎_elim (λ before. q.stays (p.tells_end before))
          (λ after. q.tells_end (subst (λ (k : ChanId). TellsEnd k ys) (sym chan) after))
          (tells-append (source_chan a) xs ys told);
      stays = λ at_end. q.stays (p.stays at_end);
      finds = λ x knows.
          let first = p.finds x knows in
          let second = q.finds first.0 first.1.1 in
          let later : LinesFind (source_chan a) ys first.0 second.0 =
          subst (λ (k : ChanId). LinesFind k ys first.0 second.0) chan second.1.0 in (
            second.0,
            (find_append (source_chan a) xs ys x first.0 second.0 first.1.0 later, second.1.1),
          );
    }

sink_more : (xs ys : List (RaceCall × Reply)) (a b c : PipeSink) → SinkGoesOn xs a b → SinkGoesOn ys b c
    → SinkGoesOn (xs ++ ys) a c
sink_more xs ys a b c p q =
    let chan : sink_chan b ≡ sink_chan a = p.same.channel in
    record {
      same = same_sink p.same q.same;
      sent =
          q.sent
          ∙ (ap (λ (k : ChanId). sent b ++ all_written k ys) chan
          ∙ (ap (λ bytes. bytes ++ all_written (sink_chan a) ys) p.sent
          ∙ (append_assoc (sent a) (all_written (sink_chan a) xs) (all_written (sink_chan a) ys)
          ∙ ap (λ bytes. sent a ++ bytes) (sym (all_written-append (sink_chan a) xs ys)))));
      seal =
          q.seal
          ∙ (ap (λ (k : ChanId). is_sealed b || leave_seal k ys) chan
          ∙ (ap (λ m. m || leave_seal (sink_chan a) ys) p.seal
          ∙ (or_assoc (is_sealed a) (leave_seal (sink_chan a) xs) (leave_seal (sink_chan a) ys)
          ∙ ap (λ m. is_sealed a || m) (sym (leave_seal-append (sink_chan a) xs ys)))));
      ended = λ sealed.
          let later : is_sealed b ≡ true = p.seal ∙ ap (λ m. m || leave_seal (sink_chan a) xs) sealed in
          all_written-append (sink_chan a) xs ys
          ∙ (ap (λ bytes. bytes ++ all_written (sink_chan a) ys) (p.ended sealed)
          ∙ (ap (λ (k : ChanId). all_written k ys) (sym chan) ∙ q.ended later));
      takes = λ room few.
          let first = p.takes room few in
          let second = q.takes first.0 first.1.1 in
          let later : LinesTake (sink_chan a) ys first.0 second.0 =
          subst (λ (k : ChanId). LinesTake k ys first.0 second.0) chan second.1.0 in (
            second.0,
            (take_append (sink_chan a) xs ys room first.0 second.0 first.1.0 later, second.1.1),
          );
    }

pub ends_more : (xs ys : List (RaceCall × Reply)) (a b c : OwnEnds) → EndsGoOn xs a b → EndsGoOn ys b c
    → EndsGoOn (xs ++ ys) a c
ends_more xs ys a b c p q = record {
  sources = each_then (SourceGoesOn xs) (SourceGoesOn ys) (SourceGoesOn (xs ++ ys)) a.sources.items b.sources.items
      c.sources.items (source_more xs ys) p.sources q.sources;
  sinks = each_then (SinkGoesOn xs) (SinkGoesOn ys) (SinkGoesOn (xs ++ ys)) a.sinks.items b.sinks.items c.sinks.items
      (sink_more xs ys) p.sinks q.sinks;
}

-- ---- lines beside their replies

pub zip_more : {A B : Type 0} (xs : List A) (ys : List B) (x : A) (y : B) → length ys ≡ length xs
    → zip (xs ++ x ∷ []) (ys ++ y ∷ []) ≡ zip xs ys ++ (x, y) ∷ []
zip_more [] [] x y long = refl
zip_more [] (b ∷ ys) x y long = absurd (omega arith)
zip_more (a ∷ xs) [] x y long = absurd (omega arith)
zip_more (a ∷ xs) (b ∷ ys) x y long = ap (λ later. (a, b) ∷ later) (zip_more xs ys x y (omega arith))

pub as_many_replies : (l : Limits) (ends : OwnedEnds) (me : CallerNo) (now last : Progress) (calls : List RaceCall)
    (acts : List Act) (replies : List Reply) → AreRaceLines l ends me now calls acts replies last
    → length replies ≡ length calls
as_many_replies l ends me now last [] acts replies are = ap length are.1
as_many_replies l ends me now last (first ∷ calls) acts replies are =
    ap length are.reply_parts
    ∙ ap suc (as_many_replies l ends me are.said.left last calls are.later are.later_replies are.others)

-- ---- what stands after a line

pub map-none : {A B : Type 0} (f : A → B) (xs : List A) → map f xs ≡ [] → xs ≡ []
map-none f [] none = refl
map-none f (x ∷ xs) none = absurd (cc none)

-- a desk without a pipe has none in progress
pub pipes_none : (d : Desk) → d.pipes.items ≡ [] → (progress_of d).pipes ≡ []
pipes_none d none = ap (map pipe_of) none

-- the channels of the ends are made still after a call
pub ends_still_made : {R : Type 0} {Shape : List Act → R → Type 0} {me : CallerNo} {answer : R} (w : Words)
    (d d' : Desk) (ends : OwnEnds) → CallClause me Shape (view w d.pass) (view w d'.pass) answer
    → HasMadeEnds w d ends → HasMadeEnds w d' ends
ends_still_made w d d' ends call made = record {
  sources =
      All-weaker (λ source. HasChannel (view w d.pass) (source_chan source))
      (λ source. HasChannel (view w d'.pass) (source_chan source)) (λ source has. channel_after call.acts has)
      ends.sources.items made.sources;
  sinks =
      All-weaker (λ sink. HasEnds (view w d.pass) (other_chan sink) (sink_chan sink))
      (λ sink. HasEnds (view w d'.pass) (other_chan sink) (sink_chan sink))
      (λ sink has. record {
        source = channel_after call.acts has.source;
        sink = channel_after call.acts has.sink;
      }) ends.sinks.items made.sinks;
  sources_differ = made.sources_differ;
  sinks_differ = made.sinks_differ;
}

-- after a call that leaves no pipe in progress
pub stands_with : {R : Type 0} {Shape : List Act → R → Type 0} {answer : R} (w : Words) (d d' : Desk) (ends : OwnEnds)
    (me : CallerNo) → StandsWith w d ends me → StandsFor w d' me
    → CallClause me Shape (view w d.pass) (view w d'.pass) answer → (progress_of d').pipes ≡ []
    → StandsWith w d' ends me
stands_with w d d' ends me with_ends stands call pipeless = record {
  stands = stands;
  made_ends = ends_still_made w d d' ends call with_ends.made_ends;
  pipeless = map-none pipe_of d'.pipes.items pipeless;
}
