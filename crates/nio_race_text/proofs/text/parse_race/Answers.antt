use Rattle.std.proofs.Common.{◌≡◌, IfOk, map, sym, ◌∙◌, ap, subst}
use Rattle.nio_language.specs.Script.{lines_of}
use Rattle.nio_race_text.specs.RaceText.{AreRaceText}
use Rattle.nio_race_text.proofs.RaceTexts.{only_calls, only_line}
use Rattle.nio_race_text.proofs.text.parse_race.Goals as goal

pub returns-clause-ok : goal.returns-clause-ok
returns-clause-ok c =
    let lines = map (λ r. r.now) c.deref.result.now in
    let text : lines ≡ lines_of c.args.text.now = ap (map (λ r. r.now)) c.deref.ensures.value ∙ c.in_ok-lines.ensures in
    subst (λ ls. IfOk c.read_parts.result (λ calls. AreRaceText ls calls.setup calls.race)) text c.read_parts.ensures.ok

pub returns-clause-bad : goal.returns-clause-bad
returns-clause-bad c n is =
    let lines = map (λ r. r.now) c.deref.result.now in
    let text : lines ≡ lines_of c.args.text.now = ap (map (λ r. r.now)) c.deref.ensures.value ∙ c.in_ok-lines.ensures in
    c.read_parts.ensures.bad c.args.text.now n (sym text) is

pub returns-clause-only : goal.returns-clause-only
returns-clause-only c = only_calls c.read_parts.result (returns-clause-ok c) (returns-clause-bad c)

pub returns-clause-only_bad : goal.returns-clause-only_bad
returns-clause-only_bad c = only_line c.read_parts.result (returns-clause-ok c) (returns-clause-bad c)
