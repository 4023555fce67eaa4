use Rattle.std.proofs.Common.{Option, [], inl, refl, sym, subst}
use Rattle.nio_history.specs.declared.found.Mode.{Mode}
use Rattle.nio_language.specs.declared.call.Call.TheVariants as call
use Rattle.nio_sole.proofs.Wants.{lacks_at}
use Rattle.nio_sole.specs.Makes.{BeginLacks}
use Rattle.nio_sole.proofs.selections.begin_with.Goals as goal
use Rattle.nio_words.specs.Views.{view}

pub returns-in-Err : goal.returns-in-Err
returns-in-Err c = record {
  call = lacks_at (call.Begin c.args.sel c.args.waiting) (view c.args.w.now c.args.d.now.pass)
      c.requires.may.ask.ready.pass.legal
      (subst (λ (how : Option Mode). BeginLacks c.args.sel how []) (sym c.requires.mode) (inl refl));
  ready = c.requires.may.ask.ready;
  places = c.requires.may.places;
  same = refl;
}
