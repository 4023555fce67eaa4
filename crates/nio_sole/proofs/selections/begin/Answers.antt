use Rattle.std.proofs.Common.{sym}
use Rattle.nio_language.specs.declared.reply.Reply.TheVariants as reply
use Rattle.nio_serial.specs.Lines.{call_plan}
use Rattle.nio_sole.proofs.Asking.{begin_by, refused_at}
use Rattle.nio_sole.specs.Stands.{progress_of}
use Rattle.nio_sole.proofs.selections.begin.Goals as goal
use Rattle.nio_words.specs.Views.{view}

pub returns-in-None : goal.returns-in-None
unfolding call_plan
returns-in-None c =
    let now = progress_of c.args.d.now in
    record {
      call = begin_by now c.args.sel (sym c.in-None.ensures)
          (refused_at now reply.NegativeTimeout (view c.args.w.now c.args.d.now.pass) c.requires.ask.ready.pass.legal);
      ready = c.requires.ask.ready;
      places = c.requires.places;
    }
