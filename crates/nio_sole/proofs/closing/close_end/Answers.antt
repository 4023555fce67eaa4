use Rattle.std.proofs.Common.{◌≡◌, true, None, refl, sym, ap, ◌∙◌, subst}
use Rattle.std.proofs.Math.Logic.{∥∥₁_map}
use Rattle.nio_base.specs.declared.numbers.SelNo.{SelNo}
use Rattle.nio_history.specs.Histories.{mine}
use Rattle.nio_language.specs.declared.reply.Reply.TheVariants as reply
use Rattle.nio_plain.specs.Seq.Selections.{is_caller}
use Rattle.nio_select.specs.InProgress.{HasShut}
use Rattle.nio_serial.specs.Lines.{call_plan, refused, after_finish}
use Rattle.nio_serial.specs.Replies.{finish_reply}
use Rattle.nio_sole.proofs.Asking.{makes_ran}
use Rattle.nio_sole.proofs.Desks.{progress_closing, places_closing, left_as, with_closings, its_selector, own_closing}
use Rattle.nio_sole.proofs.Desks.{places_taken, progress_put_back, places_put_back, nothing_there, still_made}
use Rattle.nio_sole.proofs.Had.{closing_had}
use Rattle.nio_sole.proofs.Progress.{made_closing}
use Rattle.nio_sole.specs.Stands.{progress_of, closings_of}
use Rattle.nio_sole.proofs.closing.close_end.Goals as goal
use Rattle.nio_steps.proofs.CallLaws.{returned, left_then, left_else, left_start, left_of_call}
use Rattle.nio_steps.specs.Calls.{CallClause}
use Rattle.nio_steps.specs.Runs.{Completes}
use Rattle.nio_steps.specs.SelectCalls.{try_finish_plan, closed, busy}
use Rattle.nio_words.specs.Passes.{limits_of, seen}
use Rattle.nio_words.specs.Views.{view}

pub returns-in-None : goal.returns-in-None
unfolding call_plan
returns-in-None c =
    let now = progress_of c.args.d.now in
    let same = sym (with_closings now (ap closings_of c.in-None.ensures.taken.0)) in
    record {
      call = left_as
          (returned
          (left_else (is_caller c.args.me (now.closing c.args.sel.0)) _
          (refused now reply.NotClosing) c.in-None.ensures.taken.1
          (left_start c.args.me (refused now reply.NotClosing)
          (view c.args.w.now c.args.d.now.pass) c.requires.ask.ready.pass.legal))) same;
      ready = c.requires.ask.ready;
      places = places_taken c.requires.places c.in-None.ensures.taken.0 c.in-None.ensures.len;
    }

pub try_finish-requires-clause-closing : goal.try_finish-requires-clause-closing
try_finish-requires-clause-closing c =
    let w = c.args.w.now in
    let d = c.args.d.now in
    let s = c.args.sel in
    let same : c.in-Some.closing ≡ s = its_selector (c.requires.places.closes s.0 _ c.in-Some.ensures.taken.was) in
    let own : is_caller c.args.me (closings_of d.closings.items s.0)
    ≡ true = own_closing c.args.me _ c.in-Some.ensures.taken.was in
    subst (HasShut (view w d.pass) c.args.me) (sym same) (record {
      inside = c.requires.ask.named.inside;
      closing = closing_had _ s
          (∥∥₁_map c.requires.made
          (λ made. made_closing (limits_of w) (mine c.args.me (seen d.pass)) c.args.me (progress_of d) s made own));
    })

pub returns-in-Closed : goal.returns-in-Closed
unfolding call_plan
returns-in-Closed c =
    let w = c.args.w.now in
    let d = c.args.d.now in
    let s = c.args.sel in
    let now = progress_of d in
    let same : c.in-Some.closing ≡ s = its_selector (c.requires.places.closes s.0 _ c.in-Some.ensures.taken.was) in
    let ran : CallClause c.args.me (Completes (try_finish_plan s)) (view w d.pass) (view w c.try_finish.new.p) closed =
    subst (λ (x : SelNo). CallClause c.args.me (Completes (try_finish_plan x)) (view w d.pass)
    (view w c.try_finish.new.p) closed) same c.in-Closed.ensures.call in
    record {
      call = left_as
          (returned
          (left_then (is_caller c.args.me (now.closing s.0)) _ (refused now reply.NotClosing)
          (own_closing c.args.me _ c.in-Some.ensures.taken.was)
          (left_of_call (makes_ran finish_reply (after_finish now s) ran))))
          (sym (progress_closing w d c.try_finish.new.p s c.take_closing.new.closings None c.requires.places
          c.requires.ask.named.inside c.in-Some.ensures.taken.taken));
      ready = c.in-Closed.ensures.ready;
      places = places_closing w d c.try_finish.new.p s c.take_closing.new.closings None c.requires.places
          c.requires.ask.named.inside c.in-Some.ensures.taken.taken c.in-Some.ensures.len (λ x is. nothing_there is)
          (still_made c.try_finish.new.p c.requires.places ran);
    }

pub returns-in-Busy : goal.returns-in-Busy
unfolding call_plan
returns-in-Busy c =
    let w = c.args.w.now in
    let d = c.args.d.now in
    let s = c.args.sel in
    let now = progress_of d in
    let same : c.in-Some.closing ≡ s = its_selector (c.requires.places.closes s.0 _ c.in-Some.ensures.taken.was) in
    let ran : CallClause c.args.me (Completes (try_finish_plan s)) (view w d.pass) (view w c.try_finish.new.p) busy =
    subst (λ (x : SelNo). CallClause c.args.me (Completes (try_finish_plan x)) (view w d.pass)
    (view w c.try_finish.new.p) busy) same c.in-Busy.ensures.call in
    record {
      call = left_as
          (returned
          (left_then (is_caller c.args.me (now.closing s.0)) _ (refused now reply.NotClosing)
          (own_closing c.args.me _ c.in-Some.ensures.taken.was)
          (left_of_call (makes_ran finish_reply (after_finish now s) ran))))
          (sym (progress_put_back w d c.try_finish.new.p s c.take_closing.new.closings c.put_closing.new.closings _ _
          c.requires.places c.requires.ask.named.inside c.in-Some.ensures.taken.taken c.in-Some.ensures.len
          c.put_closing.ensures.items c.in-Some.ensures.taken.was refl));
      ready = c.in-Busy.ensures.ready;
      places = places_put_back w d c.try_finish.new.p s c.take_closing.new.closings c.put_closing.new.closings _
          c.requires.places c.requires.ask.named.inside c.in-Some.ensures.taken.taken c.in-Some.ensures.len
          c.put_closing.ensures.items c.put_closing.ensures.len
          (ap (λ (x : SelNo). x.0) (c.in-Busy.ensures.still.0 ∙ same))
          (still_made c.try_finish.new.p c.requires.places ran);
    }
