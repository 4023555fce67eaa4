use Rattle.std.proofs.Common.{◌≡◌, IfOk, map, ◌∙◌, ap, subst}
use Rattle.nio_language.specs.Script.{AreCalls, lines_of}
use Rattle.nio_script.specs.Entries.{StopsAt}
use Rattle.nio_script.proofs.FirstBad.{first_bad_from_stop, only_calls}
use Rattle.nio_script.proofs.script.parse_script.Goals as goal

pub returns-clause-ok : goal.returns-clause-ok
returns-clause-ok c =
    let lines = map (λ r. r.now) c.deref.result.now in
    let text : lines ≡ lines_of c.args.text.now = ap (map (λ r. r.now)) c.deref.ensures.value ∙ c.in_ok-lines.ensures in
    subst (λ ls. IfOk c.read_calls.result (λ calls. AreCalls ls calls.items)) text c.read_calls.ensures.ok

pub returns-clause-bad : goal.returns-clause-bad
returns-clause-bad c n is =
    let lines = map (λ r. r.now) c.deref.result.now in
    let text : lines ≡ lines_of c.args.text.now = ap (map (λ r. r.now)) c.deref.ensures.value ∙ c.in_ok-lines.ensures in
    first_bad_from_stop (subst (λ ls. StopsAt AreCalls 0 ls n) text (c.read_calls.ensures.bad n is))

pub returns-clause-only : goal.returns-clause-only
returns-clause-only c = only_calls (λ v. v.items) c.read_calls.result (returns-clause-ok c) (returns-clause-bad c)
