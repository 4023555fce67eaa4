use Rattle.std.proofs.Common.{◌≡◌, None, Some, refl, sym, ap, ◌∙◌}
use Rattle.nio_language.specs.declared.call.Call.TheVariants as call
use Rattle.nio_language.specs.declared.reply.Reply.TheVariants as reply
use Rattle.nio_select.specs.InHand.{selection_of}
use Rattle.nio_serial.specs.Lines.{call_plan, by_index, after_told}
use Rattle.nio_serial.specs.Replies.{told_reply}
use Rattle.nio_sole.proofs.Asking.{makes_ran, told_by, tells_ran, refused_at}
use Rattle.nio_sole.proofs.Desks.{left_as, with_selections, progress_selection, places_selection}
use Rattle.nio_sole.proofs.Desks.{places_selection_taken, nothing_there, progress_selection_back, places_selection_back}
use Rattle.nio_sole.proofs.Desks.{own_selection_of, still_made}
use Rattle.nio_sole.proofs.Owning.{its_selects, looked_rise}
use Rattle.nio_sole.proofs.Wants.{lacks_at}
use Rattle.nio_sole.specs.Stands.{slot, progress_of, selections_of}
use Rattle.nio_sole.specs.Told.{told_pairs}
use Rattle.nio_sole.proofs.selections.told.Goals as goal
use Rattle.nio_words.specs.Views.{view}

pub returns-in-None : goal.returns-in-None
unfolding call_plan
returns-in-None c =
    let now = progress_of c.args.d.now in
    record {
      call = left_as
          (told_by now c.args.sel c.args.elapsed c.args.pairs.now c.in-None.ensures.taken.1
          (refused_at now reply.NotSelecting (view c.args.w.now c.args.d.now.pass) c.requires.ask.ready.pass.legal))
          (sym (with_selections now (ap selections_of c.in-None.ensures.taken.0)));
      ready = c.requires.ask.ready;
      places = places_selection_taken c.requires.places c.in-None.ensures.taken.0 c.in-None.ensures.len;
    }

pub pairs_by_index-requires : goal.pairs_by_index-requires
pairs_by_index-requires c =
    looked_rise c.args.w.now c.args.d.now c.args.me c.args.sel c.in-Some.selection c.requires.ask.ready
    c.requires.ask.named c.requires.places c.requires.made c.in-Some.ensures.taken.was _ (ap (λ asked. asked.keys) c.asked.ensures)

pub told-requires-clause-begun : goal.told-requires-clause-begun
told-requires-clause-begun c =
    its_selects c.args.w.now c.args.d.now c.args.me c.args.sel c.in-Some.selection c.requires.ask.ready
    c.requires.ask.named c.requires.places c.requires.made c.in-Some.ensures.taken.was

pub returns-in-Err : goal.returns-in-Err
returns-in-Err c =
    let w = c.args.w.now in
    let d = c.args.d.now in
    let s = c.args.sel in
    let back = progress_selection_back w d d.pass s c.take_selection.new.selections
    c.put_selection.new.selections _ c.requires.places c.requires.ask.named.inside c.in-Some.ensures.taken.taken
    c.in-Some.ensures.len c.put_selection.ensures.items c.in-Some.ensures.taken.was in
    record {
      call = lacks_at (call.Told s c.args.elapsed c.args.pairs.now) (view w d.pass) c.requires.ask.ready.pass.legal
          refl;
      ready = c.requires.ask.ready;
      places = places_selection_back w d d.pass s c.take_selection.new.selections c.put_selection.new.selections _
          c.requires.places c.requires.ask.named.inside c.in-Some.ensures.taken.taken c.in-Some.ensures.len
          c.put_selection.ensures.items c.put_selection.ensures.len
          (c.requires.places.selects s.0 _ c.in-Some.ensures.taken.was)
          c.requires.places.pipes;
      same = back;
    }

pub returns-in-Done : goal.returns-in-Done
unfolding call_plan
returns-in-Done c =
    let w = c.args.w.now in
    let d = c.args.d.now in
    let s = c.args.sel in
    let now = progress_of d in
    let x = c.in-Some.selection in
    let pairs : c.in-Ok.told.items ≡ by_index (selection_of x) c.args.pairs.now = c.in-Ok.ensures
    ∙ (ap (λ asked. told_pairs asked.keys c.as_slice.result.now) c.asked.ensures
    ∙ ap (told_pairs x.asked.keys) c.as_slice.ensures) in
    record {
      call = left_as
          (told_by now s c.args.elapsed c.args.pairs.now (own_selection_of c.args.me _ c.in-Some.ensures.taken.was)
          (makes_ran told_reply (after_told now s)
          (tells_ran (selection_of x) _ (by_index (selection_of x) c.args.pairs.now) c.in-Done.ensures.call pairs)))
          (sym (progress_selection w d c.told.new.p s c.take_selection.new.selections None c.requires.places
          c.requires.ask.named.inside c.in-Some.ensures.taken.taken));
      ready = c.in-Done.ensures.ready;
      places = places_selection w d c.told.new.p s c.take_selection.new.selections None c.requires.places
          c.requires.ask.named.inside c.in-Some.ensures.taken.taken c.in-Some.ensures.len (λ y is. nothing_there is)
          (still_made c.told.new.p c.requires.places c.in-Done.ensures.call);
    }

pub returns : goal.returns
unfolding call_plan
returns c =
    let w = c.args.w.now in
    let d = c.args.d.now in
    let s = c.args.sel in
    let now = progress_of d in
    let x = c.in-Some.selection in
    let next = c.in-Again.selection in
    let pairs : c.in-Ok.told.items ≡ by_index (selection_of x) c.args.pairs.now = c.in-Ok.ensures
    ∙ (ap (λ asked. told_pairs asked.keys c.as_slice.result.now) c.asked.ensures
    ∙ ap (told_pairs x.asked.keys) c.as_slice.ensures) in
    let told = tells_ran (selection_of x) _ (by_index (selection_of x) c.args.pairs.now) c.in-Again.ensures.call pairs in
    let back : slot d.selections.items s.0 ≡ Some (record { caller = c.args.me; selection = next })
    = c.in-Some.ensures.taken.was
    ∙ ap (λ y. Some (record { caller = c.args.me; selection = y })) (sym c.in-Again.ensures.goes_on.0) in
    record {
      call = left_as
          (told_by now s c.args.elapsed c.args.pairs.now (own_selection_of c.args.me _ c.in-Some.ensures.taken.was)
          (makes_ran told_reply (after_told now s) told))
          (sym (progress_selection_back w d c.told.new.p s c.take_selection.new.selections
          c.put_selection-in-Again.new.selections _ c.requires.places c.requires.ask.named.inside
          c.in-Some.ensures.taken.taken c.in-Some.ensures.len c.put_selection-in-Again.ensures.items back));
      ready = c.in-Again.ensures.ready;
      places = places_selection_back w d c.told.new.p s c.take_selection.new.selections
          c.put_selection-in-Again.new.selections _ c.requires.places c.requires.ask.named.inside
          c.in-Some.ensures.taken.taken c.in-Some.ensures.len c.put_selection-in-Again.ensures.items
          c.put_selection-in-Again.ensures.len
          (c.requires.places.selects s.0 _ back)
          (still_made c.told.new.p c.requires.places c.in-Again.ensures.call);
    }
