-- What stands of a caller stands after each of its lines.
use Rattle.std.proofs.Common.{◌≡◌, Option, Some, None, option_map, List, Result, Ok, Err, IfOk, refl, sym, ap, ◌∙◌}
use Rattle.std.proofs.Common.{subst}
use Rattle.std.proofs.Math.Bool.{Bool-set}
use Rattle.std.proofs.Math.Logic.{∥∥₁_elim, ∥∥₁_map}
use Rattle.std.proofs.lemmas.Bool.{lt-ltb}
use Rattle.std.specs.declared.alloc.AllocError.{AllocError}
use mathlib.Core.List.{IsPrefix}
use Rattle.nio_base.specs.declared.numbers.CallerNo.{CallerNo}
use Rattle.nio_history.specs.Conditions.{IsCaller}
use Rattle.nio_history.specs.PassViews.{done_between}
use Rattle.nio_history.specs.declared.act.Act.{Act}
use Rattle.nio_language.specs.declared.call.Call.{Call}
use Rattle.nio_language.specs.declared.call.Call.TheVariants as call
use Rattle.nio_language.specs.declared.reply.Reply.{Reply}
use Rattle.nio_language.specs.declared.reply.Reply.TheVariants as reply
use Rattle.nio_serial.specs.Documented.{Selecting}
use Rattle.nio_serial.specs.Lines.{Said, if_named, call_plan, line_plan}
use Rattle.nio_serial.specs.Replies.{begin_reply, list_reply}
use Rattle.nio_sole.proofs.Beginnings.{made_whole}
use Rattle.nio_sole.proofs.Calls.{AreOn, Leads, leads_named, leads_line, leads_refused, leads_begin_memory}
use Rattle.nio_sole.proofs.Calls.{leads_keys_memory, leads_selected_memory, made_along}
use Rattle.nio_sole.proofs.Lines.{line_of_named}
use Rattle.nio_sole.specs.Made.{HasMade}
use Rattle.nio_sole.proofs.Wants.{Want, begin_unmade, begin_refused, told_unmade, keys_refused, keys_unsaid}
use Rattle.nio_sole.proofs.Wants.{selected_refused, selected_unsaid, pipe_unmade, read_unmade, group_unmade}
use Rattle.nio_sole.proofs.Wants.{wants, word_of, want_plan}
use Rattle.nio_sole.specs.Makes.{Makes, MakesCall}
use Rattle.nio_sole.specs.Stands.{HasPlaces, progress_of, selecting_of, slot}
use Rattle.nio_sole.specs.declared.desk.Begun.{Begun}
use Rattle.nio_sole.specs.declared.desk.Desk.{Desk}
use Rattle.nio_steps.specs.Plan.{Plan}
use Rattle.nio_words.specs.Passes.{IsReady, acts_seen, limits_of, seen}
use Rattle.nio_words.specs.Views.{view}
use Rattle.nio_words.specs.declared.words.Words.{Words}
use Rattle.nio_race.proofs.Unpinned.{no_pin_left}
use Rattle.nio_race.specs.Racers.{MakesOnce, StandsFor}

-- what stands at the places is in progress on their selectors
pub are_on : (w : Words) (d : Desk) → HasPlaces w d → AreOn (progress_of d)
are_on w d places s x is = by_place (slot d.selections.items s) refl is
  where
    by_place : (o : Option Begun) → slot d.selections.items s ≡ o → option_map selecting_of o ≡ Some x
        → x.selection.selector.0 ≡ s
    by_place None at is' = absurd cc
    by_place (Some y) at is' = let same : selecting_of y ≡ x =
        cc is' in ap (λ (z : Selecting). z.selection.selector.0) (sym same) ∙ (places.selects s y at).0

-- a caller that made whole calls stands so
pub stands_made : (w : Words) (d : Desk) (me : CallerNo) → IsCaller (limits_of w) me → IsReady w d.pass me
    → HasPlaces w d → ∥ HasMade (limits_of w) (acts_seen d.pass me) me (progress_of d) ∥₁ → StandsFor w d me
stands_made w d me caller ready places made = record {
  caller = caller;
  ready = ready;
  unpinned = λ s i. ∥∥₁_elim made (Bool-set _ _)
      (λ m. no_pin_left (limits_of w) (seen d.pass) me ready.pass.legal
      (made_whole (limits_of w) (acts_seen d.pass me) me (progress_of d) m) s i);
  places = places;
  made = made;
}

-- after a run of a plan that is whole calls
pub stands_after_run : (w : Words) (d d' : Desk) (me : CallerNo) (plan : Plan Said) (r : Reply) → StandsFor w d me
    → Leads (limits_of w) me (progress_of d) plan → Makes w d d' me plan r → StandsFor w d' me
stands_after_run w d d' me plan r stands leads makes =
    stands_made w d' me stands.caller makes.ready makes.places
    (∥∥₁_map stands.made
    (λ m. subst (λ (acts : List Act). HasMade (limits_of w) acts me (progress_of d'))
    (sym makes.call.acts.history.own)
    (made_along (limits_of w) me (progress_of d) plan (acts_seen d.pass me)
    (done_between me (view w d.pass) (view w d'.pass)) (record { reply = r; left = progress_of d' }) leads m
    makes.call.shape)))

-- ---- a line

abbrev its_line : Words → Desk → CallerNo → Call → Plan Said
its_line w d me word = line_plan (limits_of w) (progress_of d) me word

abbrev its_named : Words → Desk → CallerNo → Call → Plan Said
its_named w d me word = if_named (limits_of w) (progress_of d) word (call_plan (limits_of w) (progress_of d) me word)

made_line : (w : Words) (d d' : Desk) (me : CallerNo) (word : Call) (r : Reply) → StandsFor w d me
    → Makes w d d' me (its_named w d me word) r → Makes w d d' me (its_line w d me word) r
made_line w d d' me word r stands makes = record {
  call = line_of_named me (progress_of d) word (limits_of w) (view w d.pass) (view w d'.pass)
      (record { reply = r; left = progress_of d' }) (lt-ltb me.0 (limits_of w).callers stands.caller) makes.call;
  ready = makes.ready;
  places = makes.places;
}

-- what a line that lacks memory did is whole calls
wanted : (w : Words) (d d' : Desk) (me : CallerNo) (r : Reply) (want : Want) → StandsFor w d me
    → Makes w d d' me (if_named (limits_of w) (progress_of d) (word_of want) (want_plan (progress_of d) want)) r
    → StandsFor w d' me
unfolding call_plan
wanted w d d' me r (begin_unmade s waiting) stands makes =
    stands_after_run w d d' me _ r stands
    (leads_named (limits_of w) me (progress_of d) (call.Begin s waiting) _
    (leads_refused (limits_of w) me (progress_of d) reply.Busy)) makes
wanted w d d' me r (begin_refused s waiting mode) stands makes =
    stands_after_run w d d' me _ r stands
    (leads_named (limits_of w) me (progress_of d) (call.Begin s waiting) _
    (leads_begin_memory (limits_of w) me (progress_of d) s mode begin_reply)) makes
wanted w d d' me r (told_unmade s elapsed pairs) stands makes =
    stands_after_run w d d' me _ r stands
    (leads_named (limits_of w) me (progress_of d) (call.Told s elapsed pairs) _
    (leads_refused (limits_of w) me (progress_of d) reply.Busy)) makes
wanted w d d' me r (keys_refused s) stands makes =
    stands_after_run w d d' me _ r stands
    (leads_named (limits_of w) me (progress_of d) (call.Keys s) _
    (leads_keys_memory (limits_of w) me (progress_of d) s list_reply)) makes
wanted w d d' me r (keys_unsaid s) stands makes =
    stands_after_run w d d' me _ r stands
    (leads_line (limits_of w) me (progress_of d) (call.Keys s) (are_on w d stands.places))
    (made_line w d d' me (call.Keys s) r stands makes)
wanted w d d' me r (selected_refused s) stands makes =
    stands_after_run w d d' me _ r stands
    (leads_named (limits_of w) me (progress_of d) (call.Selected s) _
    (leads_selected_memory (limits_of w) me (progress_of d) s list_reply)) makes
wanted w d d' me r (selected_unsaid s) stands makes =
    stands_after_run w d d' me _ r stands
    (leads_line (limits_of w) me (progress_of d) (call.Selected s) (are_on w d stands.places))
    (made_line w d d' me (call.Selected s) r stands makes)
wanted w d d' me r (pipe_unmade target) stands makes =
    stands_after_run w d d' me _ r stands
    (leads_named (limits_of w) me (progress_of d) (call.Pipe target) _
    (leads_refused (limits_of w) me (progress_of d) reply.ChannelsSpent)) makes
wanted w d d' me r (read_unmade c n) stands makes =
    stands_after_run w d d' me _ r stands
    (leads_named (limits_of w) me (progress_of d) (call.Pread c n) _
    (leads_refused (limits_of w) me (progress_of d) reply.Busy)) makes
wanted w d d' me r (group_unmade g) stands makes =
    stands_after_run w d d' me _ r stands
    (leads_named (limits_of w) me (progress_of d) (call.Group g) _
    (leads_refused (limits_of w) me (progress_of d) reply.Busy)) makes

-- after a line, made or not
pub line_stands : (w : Words) (d d' : Desk) (me : CallerNo) (word : Call) (result : Result Reply AllocError)
    → StandsFor w d me
    → MakesCall (if_named (limits_of w) (progress_of d) word) w d d' me word result → StandsFor w d' me
line_stands w d d' me word (Ok r) stands makes =
    stands_after_run w d d' me (its_line w d me word) r stands
    (leads_line (limits_of w) me (progress_of d) word (are_on w d stands.places))
    (made_line w d d' me word r stands makes)
line_stands w d d' me word (Err e) stands lacks =
    let its = wants (if_named (limits_of w) (progress_of d) word) w d d' me word lacks in
    wanted w d d' me its.r its.want stands
    (subst (λ (x : Call). Makes w d d' me
    (if_named (limits_of w) (progress_of d) x (want_plan (progress_of d) its.want)) its.r) its.is its.makes)

pub line_once_of : (w : Words) (d d' : Desk) (me : CallerNo) (word : Call) (result : Result Reply AllocError)
    → StandsFor w d me
    → MakesCall (if_named (limits_of w) (progress_of d) word) w d d' me word result
    → IfOk result (MakesOnce w d d' me word)
line_once_of w d d' me word (Ok r) stands makes = (made_line w d d' me word r stands makes).call
line_once_of w d d' me word (Err e) stands lacks = tt

pub line_later : (w : Words) (d d' : Desk) (me : CallerNo) (word : Call) (result : Result Reply AllocError)
    → MakesCall (if_named (limits_of w) (progress_of d) word) w d d' me word result
    → IsPrefix (seen d.pass) (seen d'.pass)
line_later w d d' me word (Ok r) makes = makes.call.acts.history.goes_on
line_later w d d' me word (Err e) lacks = lacks.call.acts.history.goes_on
