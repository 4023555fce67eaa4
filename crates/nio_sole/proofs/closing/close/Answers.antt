use Rattle.std.proofs.Common.{Some, sym, ap, ◌∙◌}
use Rattle.nio_serial.specs.Lines.{call_plan, after_shut}
use Rattle.nio_serial.specs.Replies.{shut_reply}
use Rattle.nio_sole.proofs.Asking.{makes_ran}
use Rattle.nio_sole.proofs.Desks.{progress_closing, places_closing, places_same, still_made, left_as, some_is}
use Rattle.nio_sole.specs.Stands.{progress_of}
use Rattle.nio_base.specs.declared.numbers.SelNo.{SelNo}
use Rattle.nio_sole.specs.declared.desk.Shut.{Shut}
use Rattle.nio_sole.proofs.closing.close.Goals as goal

pub returns-in-Closing : goal.returns-in-Closing
unfolding call_plan
returns-in-Closing c = record {
  call = left_as
      (makes_ran shut_reply (after_shut (progress_of c.args.d.now) c.args.me c.args.sel) c.in-Closing.ensures.call)
      (sym (progress_closing c.args.w.now c.args.d.now c.shut.new.p c.args.sel c.put_closing.new.closings
      (Some _) c.requires.places c.requires.ask.named.inside c.put_closing.ensures.items));
  ready = c.in-Closing.ensures.ready;
  places = places_closing c.args.w.now c.args.d.now c.shut.new.p c.args.sel c.put_closing.new.closings
      (Some _) c.requires.places c.requires.ask.named.inside c.put_closing.ensures.items c.put_closing.ensures.len
      (λ x is. ap (λ (y : Shut). y.closing.0) (some_is is) ∙ ap (λ (s : SelNo). s.0) c.in-Closing.ensures.closing.0)
      (still_made c.shut.new.p c.requires.places c.in-Closing.ensures.call);
}

pub returns-in-AlreadyClosed : goal.returns-in-AlreadyClosed
unfolding call_plan
returns-in-AlreadyClosed c = record {
  call = makes_ran shut_reply (after_shut (progress_of c.args.d.now) c.args.me c.args.sel)
      c.in-AlreadyClosed.ensures.call;
  ready = c.in-AlreadyClosed.ensures.ready;
  places = places_same c.shut.new.p c.in-AlreadyClosed.ensures.call c.requires.places;
}
