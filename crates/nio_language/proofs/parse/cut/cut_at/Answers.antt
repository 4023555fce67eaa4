use Rattle.std.proofs.Common.{◌∙◌, sym}
use Rattle.nio_language.proofs.Cuts.{position-cut, cut-position, parts-cut}
use Rattle.nio_language.proofs.parse.cut.cut_at.Goals as goal

pub returns-in_err-place-clause-only : goal.returns-in_err-place-clause-only
returns-in_err-place-clause-only c =
    λ before after others e.
    let at = position-cut c.args.byte c.args.text.now before after others e in
    absurd (cc (at, c.in_err-place.ensures.place))

pub returns-clause-found : goal.returns-clause-found
returns-clause-found c =
    cut-position c.args.byte c.in_ok-place.place c.args.text.now (sym c.in_ok-place.ensures.place)

pub returns-clause-only : goal.returns-clause-only
returns-clause-only c =
    λ before after others e.
    parts-cut c.args.byte c.args.text.now before after c.in_ok-place.place
    (c.in_ok-place.ensures.place ∙ position-cut c.args.byte c.args.text.now before after others e) e
