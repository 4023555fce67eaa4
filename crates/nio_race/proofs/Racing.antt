-- The lines of a caller, one after the other.
use Rattle.std.proofs.Common.{◌≡◌, ◌==◌, Bool, true, false, if◌then◌else◌, List, [], ◌∷◌, ◌++◌, map, refl, sym, ap, ◌∙◌}
use Rattle.std.proofs.Common.{length, subst, append_assoc}
use Rattle.std.specs.Prelude.{filter, zip}
use Rattle.std.proofs.lemmas.List.{append-nil, map-append}
use Rattle.std.proofs.lemmas.List.Elements.{filter-append}
use mathlib.Core.List.{IsPrefix}
use Rattle.nio_base.specs.declared.limits.Limits.{Limits}
use Rattle.nio_base.specs.declared.numbers.CallerNo.{CallerNo}
use Rattle.nio_history.proofs.Clauses.{prefix_trans}
use Rattle.nio_history.specs.PassViews.{done_between}
use Rattle.nio_history.specs.declared.act.Act.{Act}
use Rattle.nio_language.specs.declared.reply.Reply.{Reply}
use Rattle.nio_race_text.specs.declared.call.RaceCall.{RaceCall}
use Rattle.nio_race_text.specs.declared.call.RaceLine.{RaceLine}
use Rattle.nio_serial.specs.Documented.{Progress}
use Rattle.nio_serial.specs.Lines.{Said}
use Rattle.nio_sole.specs.Stands.{progress_of}
use Rattle.nio_sole.specs.declared.desk.Desk.{Desk}
use Rattle.nio_words.specs.Passes.{acts_seen, limits_of, seen}
use Rattle.nio_words.specs.Views.{view}
use Rattle.nio_words.specs.declared.words.Words.{Words}
use Rattle.nio_race.proofs.LineEnds.{as_many_replies, ends_more, same_names, zip_more}
use Rattle.nio_race.specs.Ends.{EndsGoOn, ends_of}
use Rattle.nio_race.specs.Piping.{OwnedEnds}
use Rattle.nio_race.specs.Race.{calls_by}
use Rattle.nio_race.specs.Racers.{MadeLines, RepliesLine, StandsWith}
use Rattle.nio_race.specs.Runs.{AreRaceLines, MakesRaceLine}
use Rattle.nio_race.specs.declared.ends.OwnEnds.{OwnEnds}

-- ---- lines and one more

pub lines_more : (l : Limits) (ends : OwnedEnds) (me : CallerNo) (now last : Progress) (calls : List RaceCall)
    (acts : List Act) (replies : List Reply) (call : RaceCall) (more : List Act) (said : Said)
    → AreRaceLines l ends me now calls acts replies last → MakesRaceLine l ends last me call more said
    → AreRaceLines l ends me now (calls ++ call ∷ []) (acts ++ more) (replies ++ said.reply ∷ []) said.left
lines_more l ends me now last [] acts replies call more said are line = record {
  first = more;
  said = said;
  line = subst (λ (p : Progress). MakesRaceLine l ends p me call more said) are.2 line;
  later = [];
  later_replies = [];
  others = (refl, refl, refl);
  parts = ap (λ (xs : List Act). xs ++ more) are.0 ∙ sym (append-nil more);
  reply_parts = ap (λ (rs : List Reply). rs ++ said.reply ∷ []) are.1;
}
lines_more l ends me now last (first ∷ calls) acts replies call more said are line = record {
  first = are.first;
  said = are.said;
  line = are.line;
  later = are.later ++ more;
  later_replies = are.later_replies ++ said.reply ∷ [];
  others = lines_more l ends me are.said.left last calls are.later are.later_replies call more said are.others line;
  parts = ap (λ (xs : List Act). xs ++ more) are.parts ∙ append_assoc are.first are.later more;
  reply_parts = ap (λ (rs : List Reply). rs ++ said.reply ∷ []) are.reply_parts;
}

calls-more : (n : CallerNo) (race : List RaceLine) (line : RaceLine)
    → calls_by n (race ++ line ∷ []) ≡ calls_by n race ++ calls_by n (line ∷ [])
calls-more n race line =
    ap (map (λ (x : RaceLine). x.call)) (filter-append (λ (x : RaceLine). x.caller.0 == n.0) race (line ∷ []))
    ∙ map-append (λ (x : RaceLine). x.call) (filter (λ (x : RaceLine). x.caller.0 == n.0) race)
    (filter (λ (x : RaceLine). x.caller.0 == n.0) (line ∷ []))

calls-own : (n : CallerNo) (race : List RaceLine) (line : RaceLine) → (line.caller.0 == n.0) ≡ true
    → calls_by n (race ++ line ∷ []) ≡ calls_by n race ++ line.call ∷ []
calls-own n race line by =
    calls-more n race line
    ∙ ap (λ b. calls_by n race ++ map (λ (x : RaceLine). x.call) (if b then line ∷ [] else [])) by

calls-other : (n : CallerNo) (race : List RaceLine) (line : RaceLine) → (line.caller.0 == n.0) ≡ false
    → calls_by n (race ++ line ∷ []) ≡ calls_by n race
calls-other n race line by =
    calls-more n race line
    ∙ (ap (λ b. calls_by n race ++ map (λ (x : RaceLine). x.call) (if b then line ∷ [] else [])) by
    ∙ append-nil (calls_by n race))

-- ---- the loop

-- So many lines of the race were gone over: the caller made its own among them.
pub record IsRacing (w : Words) (race : List RaceLine) (me : CallerNo) (first d : Desk) (ends ends' : OwnEnds)
    (replies : List Reply) : Type 0 where
  pub made : MadeLines w race me first d ends ends' replies
  pub stands : StandsWith w d ends' me
  pub later : IsPrefix (seen first.pass) (seen d.pass)

-- a line of another caller
pub passes_by : (w : Words) (race : List RaceLine) (line : RaceLine) (me : CallerNo) (first d : Desk)
    (ends ends' : OwnEnds) (replies : List Reply) → (line.caller.0 == me.0) ≡ false
    → IsRacing w race me first d ends ends' replies → IsRacing w (race ++ line ∷ []) me first d ends ends' replies
passes_by w race line me first d ends ends' replies other at =
    let calls : calls_by me (race ++ line ∷ []) ≡ calls_by me race = calls-other me race line other in
    record {
      made = record {
        acts = at.made.acts;
        grew = at.made.grew;
        lines =
            subst (λ (cs : List RaceCall). AreRaceLines (limits_of w) (ends_of ends) me (progress_of first) cs
            at.made.acts replies (progress_of d)) (sym calls) at.made.lines;
        went_on = subst (λ (cs : List RaceCall). EndsGoOn (zip cs replies) ends ends') (sym calls) at.made.went_on;
      };
      stands = at.stands;
      later = at.later;
    }

-- a line of its own
pub goes_on : (w : Words) (race : List RaceLine) (line : RaceLine) (me : CallerNo) (first d d' : Desk)
    (ends mid ends' : OwnEnds) (replies replies' : List Reply) → (line.caller.0 == me.0) ≡ true
    → IsRacing w race me first d ends mid replies → RepliesLine w d d' mid ends' me line.call replies replies'
    → StandsWith w d' ends' me → IsPrefix (seen d.pass) (seen d'.pass)
    → IsRacing w (race ++ line ∷ []) me first d' ends ends' replies'
goes_on w race line me first d d' ends mid ends' replies replies' own at more stands later =
    let l = limits_of w in
    let acts = done_between me (view w d.pass) (view w d'.pass) in
    let said : Said = record { reply = more.reply; left = progress_of d' } in
    let calls : calls_by me (race ++ line ∷ []) ≡ calls_by me race ++ line.call ∷ [] = calls-own me race line own in
    -- the lines
    let shape : MakesRaceLine l (ends_of ends) (progress_of d) me line.call acts said =
    subst (λ (x : OwnedEnds). MakesRaceLine l x (progress_of d) me line.call acts said)
    (same_names (zip (calls_by me race) replies) ends mid at.made.went_on) more.made.made.shape in
    let lines : AreRaceLines l (ends_of ends) me (progress_of first) (calls_by me race ++ line.call ∷ [])
    (at.made.acts ++ acts) (replies ++ more.reply ∷ []) (progress_of d') =
    lines_more l (ends_of ends) me (progress_of first) (progress_of d) (calls_by me race) at.made.acts replies
    line.call acts said at.made.lines shape in
    -- the ends
    let long : length replies ≡ length (calls_by me race) =
    as_many_replies l (ends_of ends) me (progress_of first) (progress_of d) (calls_by me race) at.made.acts replies
    at.made.lines in
    let pairs : zip (calls_by me race ++ line.call ∷ []) (replies ++ more.reply ∷ [])
    ≡ zip (calls_by me race) replies ++ (line.call, more.reply) ∷ [] =
    zip_more (calls_by me race) replies line.call more.reply long in
    let went_on : EndsGoOn (zip (calls_by me race) replies ++ (line.call, more.reply) ∷ []) ends ends' =
    ends_more (zip (calls_by me race) replies) ((line.call, more.reply) ∷ []) ends mid ends' at.made.went_on
    more.made.went_on in
    record {
      made = record {
        acts = at.made.acts ++ acts;
        grew =
            more.made.made.acts.history.own
            ∙ (ap (λ (xs : List Act). xs ++ acts) at.made.grew
            ∙ append_assoc (acts_seen first.pass me) at.made.acts acts);
        lines =
            subst (λ (cs : List RaceCall). AreRaceLines l (ends_of ends) me (progress_of first) cs
            (at.made.acts ++ acts) replies' (progress_of d')) (sym calls)
            (subst (λ (rs : List Reply). AreRaceLines l (ends_of ends) me (progress_of first)
            (calls_by me race ++ line.call ∷ []) (at.made.acts ++ acts) rs (progress_of d')) (sym more.kept) lines);
        went_on =
            subst (λ (cs : List RaceCall). EndsGoOn (zip cs replies') ends ends') (sym calls)
            (subst (λ (rs : List Reply). EndsGoOn (zip (calls_by me race ++ line.call ∷ []) rs) ends ends')
            (sym more.kept)
            (subst (λ (xs : List (RaceCall × Reply)). EndsGoOn xs ends ends') (sym pairs) went_on));
      };
      stands = stands;
      later = prefix_trans _ _ _ at.later later;
    }

-- a line more of the race
pub one_more : (w : Words) (race : List RaceLine) (line : RaceLine) (me : CallerNo) (first d d' : Desk)
    (ends mid ends' : OwnEnds) (replies replies' : List Reply) → IsRacing w race me first d ends mid replies
    → ((line.caller.0 == me.0) ≡ true → RepliesLine w d d' mid ends' me line.call replies replies')
    → ((line.caller.0 == me.0) ≡ false → (d' ≡ d) × (ends' ≡ mid) × (replies' ≡ replies))
    → StandsWith w d' ends' me → IsPrefix (seen d.pass) (seen d'.pass)
    → IsRacing w (race ++ line ∷ []) me first d' ends ends' replies'
one_more w race line me first d d' ends mid ends' replies replies' at own other stands later =
    by_test (line.caller.0 == me.0) refl
  where
    by_test : (b : Bool) → (line.caller.0 == me.0) ≡ b → IsRacing w (race ++ line ∷ []) me first d' ends ends' replies'
    by_test true is =
        goes_on w race line me first d d' ends mid ends' replies replies' is at (own is) stands later
    by_test false is =
        let same : (d' ≡ d) × (ends' ≡ mid) × (replies' ≡ replies) = other is in
        subst (λ (x : Desk). IsRacing w (race ++ line ∷ []) me first x ends ends' replies') (sym same.0)
        (subst (λ (e : OwnEnds). IsRacing w (race ++ line ∷ []) me first d ends e replies') (sym same.1)
        (subst (λ (rs : List Reply). IsRacing w (race ++ line ∷ []) me first d ends mid rs) (sym same.2)
        (passes_by w race line me first d ends mid replies is at)))
