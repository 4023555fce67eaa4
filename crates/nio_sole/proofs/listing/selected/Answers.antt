use Rattle.std.proofs.Common.{Err, inl, inr, map, refl, ap, ◌∙◌, subst}
use Rattle.nio_language.specs.declared.call.Call.TheVariants as call
use Rattle.nio_plain.specs.Seq.Listing.{names_or_none}
use Rattle.nio_serial.specs.Lines.{call_plan}
use Rattle.nio_serial.specs.Replies.{key_id, list_reply}
use Rattle.nio_sole.proofs.Asking.{asks_ran, lists_selected_ran}
use Rattle.nio_sole.proofs.Desks.{places_same}
use Rattle.nio_sole.proofs.Wants.{lacks_ran}
use Rattle.nio_sole.specs.Stands.{progress_of}
use Rattle.nio_steps.specs.Calls.{CallClause}
use Rattle.nio_steps.specs.SelectCalls.{ListsSelected}
use Rattle.nio_steps.specs.declared.refusal.ListError.{ListError}
use Rattle.nio_words.specs.Views.{view}
use Rattle.nio_sole.proofs.listing.selected.Goals as goal

pub returns-in-Ok-ids : goal.returns-in-Ok-ids
unfolding call_plan
returns-in-Ok-ids c = record {
  call = asks_ran list_reply (progress_of c.args.d.now) (lists_selected_ran c.args.sel c.in-Ok.ensures.call)
      (c.names_or_none.ensures ∙ ap names_or_none (c.in-Ok-ids.ensures ∙ ap (map key_id) c.as_slice.ensures.value));
  ready = c.in-Ok.ensures.ready;
  places = places_same c.selected_keys.new.p c.in-Ok.ensures.call c.requires.places;
}

pub returns-in-Ok : goal.returns-in-Ok
returns-in-Ok c = record {
  call = lacks_ran (call.Selected c.args.sel) c.in-Ok.ensures.call (λ acts made. inr (_, made));
  ready = c.in-Ok.ensures.ready;
  places = places_same c.selected_keys.new.p c.in-Ok.ensures.call c.requires.places;
  same = refl;
}

pub returns-in-Err-ClosedSelector : goal.returns-in-Err-ClosedSelector
unfolding call_plan
returns-in-Err-ClosedSelector c =
    let w = c.args.w.now in
    let call = subst
    (λ (e : ListError). CallClause c.args.me (ListsSelected c.args.sel) (view w c.args.d.now.pass)
    (view w c.selected_keys.new.p) (Err e)) c.in-Err-ClosedSelector.field-0-is
    c.in-Err-ClosedSelector.ensures.call in
    record {
      call = asks_ran list_reply (progress_of c.args.d.now) (lists_selected_ran c.args.sel call) refl;
      ready = c.in-Err-ClosedSelector.ensures.ready;
      places = places_same c.selected_keys.new.p call c.requires.places;
    }

pub returns : goal.returns
returns c =
    let w = c.args.w.now in
    let refuses = subst
    (λ (e : ListError). CallClause c.args.me (ListsSelected c.args.sel) (view w c.args.d.now.pass)
    (view w c.selected_keys.new.p) (Err e)) c.in-Err-Memory.field-0-is c.in-Err-Memory.ensures.call in
    record {
      call = lacks_ran (call.Selected c.args.sel) refuses (λ acts run. inl run);
      ready = c.in-Err-Memory.ensures.ready;
      places = places_same c.selected_keys.new.p refuses c.requires.places;
      same = refl;
    }
