-- What a race leaves behind, from what its parts do.
use Rattle.std.proofs.Common.{◌≡◌, ℕ, ◌<◌, List, [], ◌++◌, All, IsFalse, Result, Ok, Err, IfOk, ap, ◌∙◌, subst}
use Rattle.std.proofs.lemmas.List.Elements.{All-cons, All-nil, All-weaker}
use Rattle.std.specs.List.{slice_index_or}
use Rattle.nio_base.specs.declared.numbers.CallerNo.{CallerNo}
use Rattle.nio_language.specs.declared.call.ScriptCall.{ScriptCall}
use Rattle.nio_language.specs.declared.reply.Reply.{Reply}
use Rattle.nio_plain.specs.Answer.{answer_to}
use Rattle.nio_plain.specs.declared.rules.Rules.TheVariants.{Now}
use Rattle.nio_race_text.specs.RaceLines.{AreRaceLines, IsRaceLine, blank_line, block_line, no_lines, race_line}
use Rattle.nio_race_text.specs.RaceLines.{script_line}
use Rattle.nio_race_text.specs.RaceText.{AreRaceText, setup_alone, with_go}
use Rattle.nio_race_text.specs.declared.call.RaceCall.{RaceCall}
use Rattle.nio_race_text.specs.declared.call.RaceLine.{RaceLine}
use Rattle.nio_sole.specs.Stands.{progress_of}
use Rattle.nio_sole.specs.declared.desk.Desk.{Desk}
use Rattle.nio_words.specs.Passes.{IsPassOf, limits_of, seen}
use Rattle.nio_words.specs.declared.words.Pass.{Pass}
use Rattle.nio_words.specs.declared.words.Words.{Words}
use Rattle.nio_race.proofs.Gathering.{stands_on}
use Rattle.nio_race.proofs.PairsLists.{at_itself, each-back, each-same, standing}
use Rattle.nio_race.proofs.Promise.{is_race, ready_each}
use Rattle.nio_race.specs.Ends.{AreSameButEnds, HaveMet, HaveParted}
use Rattle.nio_race.specs.Gathering.{StandsIn}
use Rattle.nio_race.specs.Race.{callers_text, calls_by, strange_replies}
use Rattle.nio_race.specs.Racers.{HaveRaced, replies_by}
use Rattle.nio_race.specs.Running.{HaveRun, RunsTo}
use Rattle.nio_race.specs.Runs.{MayRaceLine, MayRaceLines}
use Rattle.nio_race.specs.SetOff.{AreRacers, AreSetOff}
use Rattle.nio_race.specs.Setup.{HasSetUp, KeepsSetup}
use Rattle.nio_race.specs.declared.ends.Owners.{Owners}
use Rattle.nio_race.specs.declared.racer.Racer.{Racer}

-- ---- the lines of a race text

-- a line behind `go` has a call that may stand there
may_race_line : {caller : CallerNo} {c : RaceCall} {line : List ℕ} → IsRaceLine caller c line → MayRaceLine c
may_race_line (script_line is may) = may
may_race_line (block_line is) = tt

may_race_lines : {lines : List (List ℕ)} {race : List RaceLine} → AreRaceLines lines race → MayRaceLines race
may_race_lines no_lines = All-nil (λ (line : RaceLine). MayRaceLine line.call)
may_race_lines (blank_line blank rest) = may_race_lines rest
may_race_lines (race_line is rest) =
    All-cons (λ (line : RaceLine). MayRaceLine line.call) _ _ (may_race_line is) (may_race_lines rest)

pub may_race_text : {lines : List (List ℕ)} {setup : List ScriptCall} {race : List RaceLine}
    → AreRaceText lines setup race → MayRaceLines race
may_race_text (setup_alone calls) = All-nil (λ (line : RaceLine). MayRaceLine line.call)
may_race_text (with_go calls lines) = may_race_lines lines

-- ---- the racers

-- the racers' passes are still of the table once they have raced
pub still_racers : (w : Words) (race : List RaceLine) (before after : List Racer) → HaveRaced w race before after
    → AreRacers w after
still_racers w race before after raced k d below =
    let first = subst (λ (m : ℕ). k < m) raced.count below in
    let r = standing before k first in
    (raced.each k r.0 (slice_index_or after k d) first r.1 (at_itself after k d below)).pass

abbrev IsSameButEnds : Racer → Racer → Type 0
IsSameButEnds r r' = r' ≡ record r { ends = r'.ends }

-- the racers' replies stay where the ends of the pipes meet
same_replies : (race : List RaceLine) (raced racers : List Racer) → AreSameButEnds raced racers
    → replies_by race racers ≡ replies_by race raced
same_replies race raced racers same =
    ap (λ (rs : List (List Reply)). λ (n : CallerNo). slice_index_or rs n.0 (strange_replies (calls_by n race)))
    (each-same IsSameButEnds (λ (r : Racer). r.replies.items)
    (λ (r : Racer). r.replies.items) raced racers
    (λ r r' is. ap (λ (x : Racer). x.replies.items) is) same)

-- and so do their passes
same_standing : (p : Pass) (raced racers : List Racer) → AreSameButEnds raced racers
    → All (λ r. StandsIn r.desk.pass p) racers → All (λ r. StandsIn r.desk.pass p) raced
same_standing p raced racers same stand =
    each-back IsSameButEnds (λ (r : Racer). StandsIn r.desk.pass p)
    (λ (r : Racer). StandsIn r.desk.pass p) raced racers
    (λ r r' there is. subst (λ (x : Racer). StandsIn x.desk.pass p) is there) same stand

-- ---- the run

-- The racers were set off, each made its lines, and then the ends of their pipes met, whatever came of their output.
pub have_run : {A E : Type 0} (w : Words) (d : Desk) (race : List RaceLine) (before raced racers : List Racer)
    (owners : List Owners) (result : Result A E)
    → AreSetOff w (seen d.pass) (progress_of d) (limits_of w).callers before
    → HaveParted before owners (progress_of d).pipes → HaveRaced w race before raced
    → All (λ r. IsFalse r.lacks_memory) raced → HaveMet raced owners → AreSameButEnds raced racers
    → IfOk result (λ _. HaveRun w d race racers)
have_run w d race before raced racers owners (Ok x) set_off parted made in_memory met rest = record {
  before = before;
  owners = owners;
  raced = raced;
  set_off = set_off;
  parted = parted;
  made = made;
  in_memory = in_memory;
  met = met;
  rest = rest;
}
have_run w d race before raced racers owners (Err e) set_off parted made in_memory met rest = tt

-- the passes of the racers and of the desk are joined
pub runs_to : (w : Words) (d : Desk) (setup : List ScriptCall) (race : List RaceLine) (racers : List Racer)
    (joined p : Pass) (none text text' : List ℕ)
    → HasSetUp w d setup → KeepsSetup (limits_of w) setup (progress_of d).pipes
    → none ≡ [] → text ≡ none ++ answer_to Now (limits_of w) setup → HaveRun w d race racers
    → text' ≡ text ++ callers_text 0 64 race (replies_by race racers)
    → All (λ r. StandsIn r.desk.pass joined) racers → StandsIn joined p → IsPassOf w p → RunsTo w p setup race text'
runs_to w d setup race racers joined p none text text' set_up kept empty wrote run writes gathered later pass =
    let all = All-weaker (λ (r : Racer). StandsIn r.desk.pass joined) (λ (r : Racer). StandsIn r.desk.pass p)
    (λ r here. stands_on r.desk.pass joined p here later) run.raced
    (same_standing joined run.raced racers run.rest gathered) in
    record {
      replies = replies_by race run.raced;
      run = record {
        raced = is_race w setup race d run.before run.raced run.owners p set_up kept run.set_off run.parted run.made
            run.in_memory run.met pass all;
        holds = ready_each w setup race d run.before run.raced run.owners p set_up kept run.set_off run.parted run.made
            run.in_memory run.met pass all;
      };
      text_is =
          writes
          ∙ (ap (λ (xs : List ℕ). xs ++ callers_text 0 64 race (replies_by race racers)) wrote
          ∙ (ap (λ (xs : List ℕ). (xs ++ answer_to Now (limits_of w) setup) ++ callers_text 0 64 race
          (replies_by race racers)) empty
          ∙ ap (λ (replies : CallerNo → List Reply). answer_to Now (limits_of w) setup
          ++ callers_text 0 64 race replies) (same_replies race run.raced racers run.rest)));
    }
