use Rattle.std.proofs.Common.{◌≡◌, ◌∙◌, None, refl, ap, subst, sym}
use Rattle.nio_serial.specs.Documented.{nothing_yet}
use Rattle.nio_sole.proofs.Opened.{idle_desk, opening_state, stands_open}
use Rattle.nio_sole.proofs.ScriptLines.{no_line}
use Rattle.nio_sole.specs.Stands.{progress_of}
use Rattle.nio_sole.specs.declared.desk.Desk.{Desk}
use Rattle.nio_words.specs.Passes.{HoldSame, IsPassOf, limits_of, seen}
use Rattle.nio_sole.proofs.making.open_with.Goals as goal
use Rattle.nio_sole.proofs.making.open_with.Goals.{After-new}

-- the desk that is opened
abbrev opened : After-new → Desk
opened c = record {
  pass = c.replace-pass.result;
  selections = c.args.selections;
  closings = c.args.closings;
  group = None;
  pipes = c.new.result;
}

idle : (c : After-new) → progress_of (opened c) ≡ nothing_yet
idle c = idle_desk (opened c) c.requires.selections.none c.requires.closings.none refl c.new.ensures.items

pub returns-in-Ok-clause-none : goal.returns-in-Ok-clause-none
returns-in-Ok-clause-none c =
    no_line (limits_of c.args.w.now) (seen c.replace-pass.result) _
    (ap seen c.replace-pass.ensures.value ∙ (c.in-Ok.ensures.sees.sight ∙ c.draw_all.ensures.drawn.are))
    (idle c)

pub returns-in-Ok-clause-opening : goal.returns-in-Ok-clause-opening
returns-in-Ok-clause-opening c =
    opening_state c.draw_all.new.p (opened c) (ap seen c.replace-pass.ensures.value ∙ c.in-Ok.ensures.sees.sight)
    (idle c) c.draw_all.ensures.drawn.opening

pub returns-in-Ok-clause-stands : goal.returns-in-Ok-clause-stands
returns-in-Ok-clause-stands c =
    stands_open c.args.w.now c.draw_all.new.p (opened c) c.args.w.now.fit c.draw_all.ensures
    (subst (IsPassOf c.args.w.now) (sym c.replace-pass.ensures.value) c.in-Ok.ensures.sees.pass)
    (ap seen c.replace-pass.ensures.value ∙ c.in-Ok.ensures.sees.sight)
    (subst (HoldSame c.draw_all.new.p) (sym c.replace-pass.ensures.value) c.in-Ok.ensures.numbers)
    c.requires.selections c.requires.closings c.new.ensures.items (idle c)
