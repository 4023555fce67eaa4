-- From the look-ups of a line and its call to the line.
use Rattle.std.proofs.Common.{Option, None, Some, Result, Ok, Err, List, sym, subst}
use Rattle.std.proofs.Math.Logic.{∥∥₁_map}
use Rattle.std.specs.declared.alloc.AllocError.{AllocError}
use Rattle.nio_base.specs.declared.numbers.CallerNo.{CallerNo}
use Rattle.nio_language.specs.declared.call.Call.{Call}
use Rattle.nio_language.specs.declared.reply.Reply.{Reply}
use Rattle.nio_language.specs.declared.reply.Reply.TheVariants as reply
use Rattle.nio_serial.specs.Documented.{Progress}
use Rattle.nio_serial.specs.Lines.{Said, refused, if_named, call_plan}
use Rattle.nio_sole.proofs.Calls.{made_along, leads_named, leads_refused}
use Rattle.nio_sole.proofs.Desks.{places_same}
use Rattle.nio_sole.specs.Made.{HasMade}
use Rattle.nio_sole.proofs.Wants.{lacks_behind}
use Rattle.nio_sole.specs.Makes.{MayMake, Makes, MakesCall}
use Rattle.nio_sole.specs.Named.{HasNames, Finds}
use Rattle.nio_sole.specs.Stands.{progress_of, HasPlaces}
use Rattle.nio_sole.specs.declared.desk.Desk.{Desk}
use Rattle.nio_steps.proofs.CallLaws.{returned, left_more, left_of_call}
use Rattle.nio_steps.specs.Calls.{CallClause}
use Rattle.nio_steps.specs.Plan.{Plan}
use Rattle.nio_steps.specs.Runs.{Completes}
use Rattle.nio_words.specs.Passes.{limits_of, acts_seen}
use Rattle.nio_words.specs.Views.{view}
use Rattle.nio_words.specs.declared.words.Pass.{Pass}
use Rattle.nio_words.specs.declared.words.Words.{Words}

abbrev pub FindsNames : Words → Pass → Pass → CallerNo → Call → Option Reply → Type 0
FindsNames w p q me word missing =
    Finds (λ now plan. if_named (limits_of w) now word plan) (λ pass. HasNames pass word) w p q me missing

-- the look-ups with nothing after them
looked_up : (w : Words) (p q : Pass) (me : CallerNo) (word : Call) (now : Progress) → FindsNames w p q me word None
    → CallClause me (Completes (if_named (limits_of w) now word (refused now reply.Busy))) (view w p) (view w q)
    (record { reply = reply.Busy; left = now })
looked_up w p q me word now finds = returned (finds.call now (refused now reply.Busy))

-- the look-ups are whole calls
pub made_after : (w : Words) (p q : Pass) (me : CallerNo) (word : Call) (now : Progress) → FindsNames w p q me word None
    → HasMade (limits_of w) (acts_seen p me) me now → HasMade (limits_of w) (acts_seen q me) me now
made_after w p q me word now finds made =
    let call = looked_up w p q me word now finds in
    subst (λ (acts : List _). HasMade (limits_of w) acts me now) (sym call.acts.history.own)
    (made_along (limits_of w) me now _ (acts_seen p me) _ (record { reply = reply.Busy; left = now })
    (leads_named (limits_of w) me now word (refused now reply.Busy) (leads_refused (limits_of w) me now reply.Busy))
    made call.shape)

pub may_make_named : (w : Words) (d : Desk) (q : Pass) (me : CallerNo) (word : Call)
    → FindsNames w d.pass q me word None → HasPlaces w d
    → ∥ HasMade (limits_of w) (acts_seen d.pass me) me (progress_of d) ∥₁
    → MayMake w (record d { pass = q }) me word
may_make_named w d q me word finds places made = record {
  ask = record { ready = finds.ready; unpinned = finds.unpinned; named = finds.named };
  places = places_same q (looked_up w d.pass q me word (progress_of d) finds) places;
  made = ∥∥₁_map made (made_after w d.pass q me word (progress_of d) finds);
}

pub missing_made : (w : Words) (d : Desk) (q : Pass) (me : CallerNo) (word : Call) (missing : Reply)
    → FindsNames w d.pass q me word (Some missing) → HasPlaces w d
    → Makes w d (record d { pass = q }) me
    (if_named (limits_of w) (progress_of d) word (call_plan (limits_of w) (progress_of d) me word)) missing
missing_made w d q me word missing finds places =
    let call : CallClause me
    (Completes (if_named (limits_of w) (progress_of d) word (call_plan (limits_of w) (progress_of d) me word)))
    (view w d.pass) (view w q) (record { reply = missing; left = progress_of d })
    = returned (finds.call (progress_of d) (call_plan (limits_of w) (progress_of d) me word)) in
    record { call = call; ready = finds.ready; places = places_same q call places }

named_made : (w : Words) (d d' : Desk) (q : Pass) (me : CallerNo) (word : Call) (plan : Plan Said) (r : Reply)
    → FindsNames w d.pass q me word None → Makes w (record d { pass = q }) d' me plan r
    → Makes w d d' me (if_named (limits_of w) (progress_of d) word plan) r
named_made w d d' q me word plan r finds made = record {
  call = returned (left_more (finds.call (progress_of d) plan) (left_of_call made.call));
  ready = made.ready;
  places = made.places;
}

pub line_made_of : (w : Words) (d d' : Desk) (q : Pass) (me : CallerNo) (word : Call) (result : Result Reply AllocError)
    → FindsNames w d.pass q me word None
    → MakesCall (λ plan. plan) w (record d { pass = q }) d' me word result
    → MakesCall (if_named (limits_of w) (progress_of d) word) w d d' me word result
line_made_of w d d' q me word (Ok r) finds made =
    named_made w d d' q me word (call_plan (limits_of w) (progress_of d) me word) r finds made
line_made_of w d d' q me word (Err e) finds lacks =
    let now = progress_of d in
    record {
      call = lacks_behind (if_named (limits_of w) now word) word (refused now reply.Busy) (finds.call now) lacks.call;
      ready = lacks.ready;
      places = lacks.places;
      same = lacks.same;
    }
