use Rattle.std.proofs.Common.{◌+◌, ◌∷◌, [], map, refl, ap, ◌∙◌, option_map}
use Rattle.std.proofs.lemmas.List.{map-append}
use Rattle.nio_script.specs.History.{no_lines, blank_line, entry_line}
use Rattle.nio_script.specs.HistoryCall.{entry_of}
use Rattle.nio_script.proofs.EntryLemmas.{renumbered}
use Rattle.nio_script.proofs.Lines.{adds_nothing}
use Rattle.nio_script.proofs.history.read_history_line.Goals as goal

pub returns-then-is_blank-clause-read : goal.returns-then-is_blank-clause-read
returns-then-is_blank-clause-read c =
    adds_nothing _ (blank_line {line = c.args.line.now} (c.if-is_blank.ensures.0 refl) no_lines)

pub returns-clause-read : goal.returns-clause-read
returns-clause-read c =
    let finds = c.in_ok-call.ensures in
    record {
      added = entry_of c.in-Some.call ∷ [];
      so = renumbered (ap (λ n. n + 1) c.len.ensures)
          (entry_line {line = c.args.line.now} (rw (ap (option_map entry_of) c.in-Some.is) at finds.found) no_lines);
      adds = ap (map entry_of) c.in_ok-push.ensures.items
          ∙ map-append entry_of c.args.calls.now.items (c.in-Some.call ∷ []);
    }
