use Rattle.std.proofs.Common.{Err, Option, Some, inr, length, map, refl, sym, ap, ◌∙◌, subst, arith}
use Rattle.std.specs.Prelude.{None}
use Rattle.nio_sole.specs.Stands.{IsOn}
use Rattle.nio_base.specs.declared.numbers.SelNo.{SelNo}
use Rattle.nio_history.specs.declared.found.Mode.{Mode}
use Rattle.nio_language.specs.declared.call.Call.TheVariants as call
use Rattle.nio_language.specs.declared.reply.Reply.TheVariants as reply
use Rattle.nio_select.specs.InHand.{selection_of}
use Rattle.nio_serial.specs.Documented.{looked_pair}
use Rattle.nio_serial.specs.Lines.{call_plan, after_begin}
use Rattle.nio_serial.specs.Replies.{begin_reply}
use Rattle.nio_sole.proofs.Asking.{makes_ran, begins_ran, begin_by, replied_as}
use Rattle.nio_sole.proofs.Desks.{places_same, still_made, progress_selection, places_selection, left_as, some_is}
use Rattle.nio_sole.proofs.Fits.{looked_fits}
use Rattle.nio_sole.proofs.Wants.{lacks_ran}
use Rattle.nio_sole.specs.Makes.{BeginLacks}
use Rattle.nio_sole.specs.Stands.{progress_of}
use Rattle.nio_sole.specs.declared.desk.Begun.{Begun}
use Rattle.nio_sole.proofs.selections.begin_in.Goals as goal
use Rattle.nio_steps.proofs.BeginLaws.{begin-parts}
use Rattle.nio_steps.specs.Calls.{CallClause}
use Rattle.nio_steps.specs.SelectCalls.{Begins}
use Rattle.nio_steps.specs.declared.refusal.BeginError.{BeginError}
use Rattle.nio_words.specs.Views.{view}

pub list_pairs-requires-clause-room : goal.list_pairs-requires-clause-room
list_pairs-requires-clause-room c =
    let looked = ap (λ asked. length asked.keys) c.asked.ensures in
    let fits = looked_fits c.args.me c.args.sel c.args.mode (view c.args.w.now c.args.d.now.pass)
    (view c.args.w.now c.try_begin.new.p) (selection_of c.in-Ok.selection) c.in-Ok.ensures.call
    c.in-Ok.ensures.begun in
    omega (arith, looked, fits, c.requires.room)

pub returns-in-Ok : goal.returns-in-Ok
unfolding call_plan
returns-in-Ok c =
    let w = c.args.w.now in
    let d = c.args.d.now in
    let now = progress_of d in
    let s = c.args.sel in
    let begins = c.in-Ok.ensures.call in
    record {
      call = replied_as
          (left_as (begin_by now s c.requires.mode
          (makes_ran begin_reply (after_begin now c.args.me s) (begins_ran s c.args.mode begins)))
          (sym (progress_selection w d c.try_begin.new.p s c.put_selection.new.selections
          (Some _) c.requires.may.places c.requires.may.ask.named.inside c.put_selection.ensures.items)))
          (ap reply.Looked (c.from_vec.ensures ∙ (c.list_pairs.ensures ∙ ap (λ asked. map looked_pair asked.keys) c.asked.ensures)));
      ready = c.in-Ok.ensures.ready;
      places = places_selection w d c.try_begin.new.p s c.put_selection.new.selections
          (Some _) c.requires.may.places c.requires.may.ask.named.inside c.put_selection.ensures.items
          c.put_selection.ensures.len
          (λ x is. let parts = begin-parts s c.args.mode None _ (selection_of c.in-Ok.selection) begins.shape in
          subst (λ (y : Begun). IsOn s.0 (selection_of y.selection)) (sym (some_is is))
          (ap (λ (x : SelNo). x.0) parts.selector, parts.listed))
          (still_made c.try_begin.new.p c.requires.may.places begins);
    }

pub returns-in-Err-ClosedSelector : goal.returns-in-Err-ClosedSelector
unfolding call_plan
returns-in-Err-ClosedSelector c =
    let w = c.args.w.now in
    let now = progress_of c.args.d.now in
    let s = c.args.sel in
    let call = subst
    (λ (e : BeginError). CallClause c.args.me (Begins s c.args.mode None) (view w c.args.d.now.pass)
    (view w c.try_begin.new.p) (Err e)) c.in-Err-ClosedSelector.field-0-is
    c.in-Err-ClosedSelector.ensures.call in
    record {
      call = begin_by now s c.requires.mode
          (makes_ran begin_reply (after_begin now c.args.me s) (begins_ran s c.args.mode call));
      ready = c.in-Err-ClosedSelector.ensures.ready;
      places = places_same c.try_begin.new.p call c.requires.may.places;
    }

pub returns-in-Err-Busy : goal.returns-in-Err-Busy
unfolding call_plan
returns-in-Err-Busy c =
    let w = c.args.w.now in
    let now = progress_of c.args.d.now in
    let s = c.args.sel in
    let call = subst
    (λ (e : BeginError). CallClause c.args.me (Begins s c.args.mode None) (view w c.args.d.now.pass)
    (view w c.try_begin.new.p) (Err e)) c.in-Err-Busy.field-0-is c.in-Err-Busy.ensures.call in
    record {
      call = begin_by now s c.requires.mode
          (makes_ran begin_reply (after_begin now c.args.me s) (begins_ran s c.args.mode call));
      ready = c.in-Err-Busy.ensures.ready;
      places = places_same c.try_begin.new.p call c.requires.may.places;
    }

pub returns : goal.returns
returns c =
    let w = c.args.w.now in
    let s = c.args.sel in
    let refuses = subst
    (λ (e : BeginError). CallClause c.args.me (Begins s c.args.mode None) (view w c.args.d.now.pass)
    (view w c.try_begin.new.p) (Err e)) c.in-Err-Memory.field-0-is c.in-Err-Memory.ensures.call in
    record {
      call = lacks_ran (call.Begin s c.args.waiting) refuses
          (λ acts run. subst (λ (how : Option Mode). BeginLacks s how acts) (sym c.requires.mode) (inr run));
      ready = c.in-Err-Memory.ensures.ready;
      places = places_same c.try_begin.new.p refuses c.requires.may.places;
      same = refl;
    }
