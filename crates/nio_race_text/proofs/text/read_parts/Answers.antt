use Rattle.std.proofs.Common.{◌≡◌, ◌+◌, [], ◌∷◌, Err, map, sym, ◌∙◌, ap, subst, append-nil}
use Rattle.std.proofs.lemmas.List.{length-map}
use Rattle.std.proofs.lemmas.Result.{err_from_is_err_and}
use Rattle.nio_script.specs.declared.script.ScriptError.TheVariants.{BadLine}
use Rattle.nio_race_text.specs.RaceText.{AreRaceText, go_line, setup_alone, with_go}
use Rattle.nio_race_text.proofs.RaceTexts.{bad_race, bad_setup}
use Rattle.nio_race_text.proofs.text.read_parts.Goals as goal

pub returns-in_err-setup-clause-bad : goal.returns-in_err-setup-clause-bad
returns-in_err-setup-clause-bad c text n e is =
    let p = err_from_is_err_and c.from_residual.result c.from_residual.ensures.1 in
    let named : p.0 ≡ BadLine n = cc in
    let stops = c.in_err-setup.ensures.bad n (ap Err (sym p.2 ∙ named)) in
    bad_setup [] (e ∙ sym (append-nil (map (λ r. r.now) c.args.lines.now))) c.in_default.ensures stops

pub returns-in_default-clause-ok : goal.returns-in_default-clause-ok
returns-in_default-clause-ok c = rw c.new.ensures.items (setup_alone c.in_ok-setup.ensures.ok)

pub returns-in_err-setup-2-clause-bad : goal.returns-in_err-setup-2-clause-bad
returns-in_err-setup-2-clause-bad c text n e is =
    let p = err_from_is_err_and c.from_residual-in_err-setup-2.result c.from_residual-in_err-setup-2.ensures.1 in
    let named : p.0 ≡ BadLine n = cc in
    let stops = c.in_err-setup-2.ensures.bad n (ap Err (sym p.2 ∙ named)) in
    bad_setup (go_line ∷ map (λ r. r.now) c.in-Some.back.now) (e ∙ c.in-Some.ensures.parts) c.in-Some.ensures.first
    stops

pub returns-in_err-race-clause-bad : goal.returns-in_err-race-clause-bad
returns-in_err-race-clause-bad c text n e is =
    let p = err_from_is_err_and c.from_residual-in_err-race.result c.from_residual-in_err-race.ensures.1 in
    let named : p.0 ≡ BadLine n = cc in
    let stops = c.in_err-race.ensures.bad n (ap Err (sym p.2 ∙ named)) in
    bad_race (e ∙ c.in-Some.ensures.parts) c.in_ok-setup-2.ensures.ok
    (ap (λ k. k + 1) (sym (length-map c.in-Some.front.now (λ r. r.now)))) stops

pub returns-clause-ok : goal.returns-clause-ok
returns-clause-ok c =
    subst (λ ls. AreRaceText ls c.in_ok-setup-2.setup.items c.in_ok-race.race.items) (sym c.in-Some.ensures.parts)
    (with_go c.in_ok-setup-2.ensures.ok c.in_ok-race.ensures.ok)
