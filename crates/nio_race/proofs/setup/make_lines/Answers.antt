use Rattle.std.proofs.Common.{◌∷◌, ◌++◌, [], suc, take, drop, sym, ap, ◌∙◌, drop-cons, add-one}
use Rattle.std.proofs.lemmas.List.{take_more}
use Rattle.nio_race.proofs.SettingUp.{goes_on}
use Rattle.nio_race.proofs.setup.make_lines.Goals as goal

pub loop-index-preserved : goal.loop-index-preserved
loop-index-preserved c =
    let setup = c.args.setup.now in
    let i = c.loop-index.index in
    let line = c.index-setup-index.result in
    goes_on c.args.w.now c.loop-index.d c.make_line.new.d setup i c.args.text.now.items c.loop-index.text.items
    c.make_line.new.text.items line
    (take_more setup i line c.loop-index-test.true ∙ ap (λ x. take i setup ++ x ∷ []) (sym c.index-setup-index.is))
    (rw (add-one, drop-cons setup i line c.loop-index-test.true)
    (ap (λ x. x ∷ drop (suc i) setup) (sym c.index-setup-index.is)))
    c.loop-index.invariant c.in_ok-make_line.ensures.said
