use Rattle.std.proofs.Common.{None, sym, ap}
use Rattle.nio_language.specs.declared.reply.Reply.TheVariants as reply
use Rattle.nio_serial.specs.Lines.{call_plan, with_selection}
use Rattle.nio_sole.proofs.Asking.{makes_ran, failed_by, refused_at}
use Rattle.nio_sole.proofs.Desks.{left_as, with_selections, progress_selection, places_selection}
use Rattle.nio_sole.proofs.Desks.{places_selection_taken, nothing_there, own_selection_of, still_made}
use Rattle.nio_sole.proofs.Owning.{its_selects}
use Rattle.nio_sole.specs.Stands.{progress_of, selections_of}
use Rattle.nio_sole.proofs.selections.failed.Goals as goal
use Rattle.nio_words.specs.Views.{view}

pub leave-list-requires-clause-begun : goal.leave-list-requires-clause-begun
leave-list-requires-clause-begun c =
    its_selects c.args.w.now c.args.d.now c.args.me c.args.sel c.in-Some.selection c.requires.ask.ready
    c.requires.ask.named c.requires.places c.requires.made c.in-Some.ensures.taken.was

pub returns-in-None : goal.returns-in-None
unfolding call_plan
returns-in-None c =
    let now = progress_of c.args.d.now in
    record {
      call = left_as
          (failed_by now c.args.sel c.in-None.ensures.taken.1
          (refused_at now reply.NotSelecting (view c.args.w.now c.args.d.now.pass) c.requires.ask.ready.pass.legal))
          (sym (with_selections now (ap selections_of c.in-None.ensures.taken.0)));
      ready = c.requires.ask.ready;
      places = places_selection_taken c.requires.places c.in-None.ensures.taken.0 c.in-None.ensures.len;
    }

pub returns-in-Some : goal.returns-in-Some
unfolding call_plan
returns-in-Some c =
    let w = c.args.w.now in
    let d = c.args.d.now in
    let s = c.args.sel in
    let now = progress_of d in
    record {
      call = left_as
          (failed_by now s (own_selection_of c.args.me _ c.in-Some.ensures.taken.was)
          (makes_ran (λ _. reply.Left) (λ _. with_selection now s None) c.leave-list.ensures.call))
          (sym (progress_selection w d c.leave-list.new.p s c.take_selection.new.selections None c.requires.places
          c.requires.ask.named.inside c.in-Some.ensures.taken.taken));
      ready = c.leave-list.ensures.ready;
      places = places_selection w d c.leave-list.new.p s c.take_selection.new.selections None c.requires.places
          c.requires.ask.named.inside c.in-Some.ensures.taken.taken c.in-Some.ensures.len (λ x is. nothing_there is)
          (still_made c.leave-list.new.p c.requires.places c.leave-list.ensures.call);
    }
