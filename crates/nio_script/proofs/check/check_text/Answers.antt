use Rattle.std.proofs.Common.{◌≡◌, ◌⊎◌, map, length, sym, ap, subst, ◌∙◌}
use Rattle.std.specs.Prelude.{Err}
use Rattle.std.proofs.lemmas.List.{length-map}
use Rattle.nio_script.specs.Check.{EndsEntries, legal_text}
use Rattle.nio_script.specs.HistoryCall.{entry_of}
use Rattle.nio_script.specs.Output.{IsWritten, WritesPrefix}
use Rattle.nio_script.specs.declared.status.Status.TheVariants.{BadScript, Memory}
use Rattle.nio_script.proofs.Checking.{legal_otherwise, never_bad, ends_text}
use Rattle.nio_script.proofs.FirstBadEntry.{history_not_bad, first_bad_entry_is_one}
use Rattle.nio_script.proofs.check.check_text.Goals as goal
use Rattle.nio_script.proofs.check.check_text.Goals.{After-check_calls}

-- how the check of the text's entries ends
ends : (g : _) (c : After-check_calls g)
    → EndsEntries c.args.rules c.args.limits (map entry_of c.in-Ok.calls.items) c.check_calls.result
ends g c =
    subst (λ calls. EndsEntries c.args.rules c.args.limits (map entry_of calls) c.check_calls.result)
    c.deref.ensures.value c.check_calls.ensures.ends

-- so many entries
count : (g : _) (c : After-check_calls g) → length c.deref.result.now ≡ length (map entry_of c.in-Ok.calls.items)
count g c = ap length c.deref.ensures.value ∙ sym (length-map c.in-Ok.calls.items entry_of)

pub returns-in-Ok-clause-done : goal.returns-in-Ok-clause-done
returns-in-Ok-clause-done g c = λ done.
    let after = (goal.at.returns-in-Ok-clause-done g c).After-check_calls in
    record {
      entries = map entry_of c.in-Ok.calls.items;
      history = c.in-Ok.ensures.ok;
      legal = legal_otherwise (ends g after) (λ n is. cc) (λ is. cc);
      said = subst (λ n. IsWritten g.K.Sink c.args.output.now c.check_calls.new.output (legal_text n)) (count g after)
          (c.check_calls.ensures.done done);
      still = c.check_calls.ensures.still done;
    }

pub returns-in-Ok-clause-write_fault : goal.returns-in-Ok-clause-write_fault
returns-in-Ok-clause-write_fault g c = λ fault.
    let after = (goal.at.returns-in-Ok-clause-write_fault g c).After-check_calls in
    record {
      entries = map entry_of c.in-Ok.calls.items;
      history = c.in-Ok.ensures.ok;
      legal = legal_otherwise (ends g after) (λ n is. cc) (λ is. cc);
      said = subst (λ n. WritesPrefix g.K.Sink c.args.output.now c.check_calls.new.output (legal_text n))
          (count g after) (c.check_calls.ensures.write_fault fault);
    }

pub returns-in-Ok-clause-bad_script : goal.returns-in-Ok-clause-bad_script
returns-in-Ok-clause-bad_script g c = λ line bad.
    absurd (never_bad (ends g (goal.at.returns-in-Ok-clause-bad_script g c).After-check_calls) line bad)

pub returns-in-Ok-clause-ends : goal.returns-in-Ok-clause-ends
returns-in-Ok-clause-ends g c = ends_text _ _ _ _ (ends g (goal.at.returns-in-Ok-clause-ends g c).After-check_calls)

pub returns-in-Ok-clause-of_bad : goal.returns-in-Ok-clause-of_bad
returns-in-Ok-clause-of_bad g c =
    λ line bad. absurd
    (history_not_bad c.args.rules c.args.text.now (map entry_of c.in-Ok.calls.items) line c.in-Ok.ensures.ok bad)

pub returns-in-Err-BadLine-clause-of_bad : goal.returns-in-Err-BadLine-clause-of_bad
returns-in-Err-BadLine-clause-of_bad g c = λ line bad.
    let read = c.in-Err-BadLine in
    let first = read.ensures.bad read.line (ap Err read.field-0-is) in
    subst (λ n. (c.refuse.result ≡ BadScript n) ⊎ (c.refuse.result ≡ Memory))
    (read.line-is ∙ first_bad_entry_is_one c.args.rules c.args.text.now read.line line first bad)
    c.refuse.ensures.status
