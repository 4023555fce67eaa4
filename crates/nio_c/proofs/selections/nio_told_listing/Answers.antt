use Rattle.std.proofs.Common.{refl, ap, sym, ◌∙◌, arith, rules}
use Rattle.nio_caller.specs.Callers.{selection}
use Rattle.nio_c.specs.Holding.{Holding}
use Rattle.nio_c.specs.Selections.{changes_count, told_changes}
use Rattle.nio_c.specs.Statuses.{code}
use Rattle.nio_c.specs.Values.{sel_no}
use Rattle.nio_c.proofs.Exported.{exported_held}
use Rattle.nio_c.proofs.Written.{counted_first, counted_none, written_first}
use Rattle.nio_c.proofs.selections.nio_told_listing.Goals as goal

pub returns : goal.returns
returns c =
    let before : Holding = c.deref_mut.result.now in
    let after : Holding = c.tell_listing-answer.new.self in
    let answer = c.tell_listing-answer.result in
    let changes = told_changes answer (selection before.caller (sel_no c.args.selector)) before.caller after.caller in
    exported_held _ _ _ _ c.args.caller.now c.put.new.self c.code-2.result before after
    (record { answer = answer; changes = changes }) c.in-Some.ensures.0.full
    (c.in-Some.ensures.0.its ∙ sym c.deref_mut.ensures.value) c.put.ensures.full c.put.ensures.its
    (record {
      tells = c.tell_listing-answer.ensures.told;
      lists = refl;
      again = λ goes_on. counted_none changes
          (sym c.tell_listing-answer.ensures.count ∙ c.tell_listing-answer.ensures.again goes_on);
    }) (
      c.write_selected.ensures.selected,
      record {
        array = search rules
            ∙ (c.tell_listing-answer.ensures.written ∙ written_first c.args.changes.now changes (omega arith));
        count = c.write_count.ensures
            ∙ ap (λ n. changes_count answer n c.args.changed.now)
            (c.tell_listing-answer.ensures.count ∙ counted_first changes);
      },
    )
    (c.code-2.ensures ∙ ap code c.write_selected.ensures.status)
