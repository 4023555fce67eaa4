use Rattle.std.proofs.Common.{◌≡◌, ◌+◌, Err, Global, Vec, vec_len, length, map, refl, sym, ◌∙◌, ap, subst, arith}
use Rattle.std.proofs.lemmas.List.{length-map, take_all}
use Rattle.std.proofs.lemmas.Result.{err_from_is_err_and}
use Rattle.nio_language.specs.Script.{lines_of}
use Rattle.nio_script.specs.History.{no_lines, AreEntries, IsFirstBadEntry}
use Rattle.nio_script.specs.HistoryCall.{entry_of}
use Rattle.nio_script.specs.declared.history.HistoryCall.{HistoryCall}
use Rattle.nio_script.specs.declared.script.ScriptError.TheVariants.{BadLine}
use Rattle.nio_script.proofs.EntryLemmas.{AreEntries-append, IsFirstBadEntry-here, none_renumbered, renumbered}
use Rattle.nio_script.proofs.FirstBadEntry.{history_not_bad}
use Rattle.nio_script.proofs.Lines.{next_now, only_memory, reads_more}
use Rattle.nio_script.proofs.OneHistory.{entries_one}
use Rattle.nio_script.proofs.history.parse_history.Goals as goal

pub loop-line-init : goal.loop-line-init
loop-line-init c = (refl, rw c.new-calls.ensures.items no_lines)

pub overflow_add-number : goal.overflow_add-number
overflow_add-number c = omega (arith, c.loop-line.invariant.0, c.deref-line-items.type_inv.0)

-- the number of the next entry
next_number : (calls : Vec HistoryCall Global) → vec_len calls + 1 ≡ length (map entry_of calls.items) + 1
next_number calls = simp length-map (omega (arith, calls.ok.0))

pub loop-line-preserved : goal.loop-line-preserved
loop-line-preserved c = (
  omega arith,
  reads_more (AreEntries c.args.rules 1)
      (next_now c.deref-line-items.result.now c.loop-line.line-index _ c.loop-line-test.true)
      c.in_ok-read_history_line.ensures.read
      (λ added so. AreEntries-append c.loop-line.invariant.1
      (renumbered (next_number c.loop-line.calls ∙ omega arith) so)),
)

pub returns-in_err-read_history_line-clause-bad : goal.returns-in_err-read_history_line-clause-bad
returns-in_err-read_history_line-clause-bad c line is =
    let p = err_from_is_err_and c.from_residual-in_err-read_history_line.result
    c.from_residual-in_err-read_history_line.ensures.1 in
    let named : p.0 ≡ BadLine line = cc in
    let b = c.in_err-read_history_line.ensures.bad line (ap Err (sym p.2 ∙ named)) in
    subst (IsFirstBadEntry c.args.rules c.args.text.now) (sym (b.0 ∙ ap (λ n. n + 1) c.loop-line.invariant.0))
    (IsFirstBadEntry-here (ap (map (λ r. r.now)) c.deref-line-items.ensures.value ∙ c.in_ok-lines.ensures)
    (next_now c.deref-line-items.result.now c.loop-line.line-index _ c.loop-line-test.true) c.loop-line.invariant.1
    (none_renumbered (next_number c.loop-line.calls) b.1))

pub returns-in_err-read_history_line-clause-only : goal.returns-in_err-read_history_line-clause-only
returns-in_err-read_history_line-clause-only c entries are =
    let p = err_from_is_err_and c.from_residual-in_err-read_history_line.result
    c.from_residual-in_err-read_history_line.ensures.1 in
    rw p.1 (only_memory p.0 (λ n named.
    history_not_bad _ _ entries n are (returns-in_err-read_history_line-clause-bad c n (p.1 ∙ ap Err named))))

pub returns-clause-ok : goal.returns-clause-ok
returns-clause-ok c =
    let lines = map (λ r. r.now) c.deref-line-items.result.now in
    let text : lines ≡ lines_of c.args.text.now = ap (map (λ r. r.now)) c.deref-line-items.ensures.value
    ∙ c.in_ok-lines.ensures in
    subst (λ ls. AreEntries c.args.rules 1 ls (map entry_of c.loop-line.calls.items))
    (take_all c.loop-line.line-index lines (simp length-map c.loop-line-test.false) ∙ text)
    c.loop-line.invariant.1

pub returns-clause-only : goal.returns-clause-only
returns-clause-only c all are = entries_one (returns-clause-ok c) are
