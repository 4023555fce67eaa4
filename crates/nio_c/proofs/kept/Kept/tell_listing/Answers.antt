use Rattle.std.proofs.Common.{ap, ◌∙◌}
use Rattle.nio_caller.specs.Callers.{selection}
use Rattle.nio_c.specs.Selections.{told_changes}
use Rattle.nio_c.proofs.Written.{all_counted, all_written, same_array}
use Rattle.nio_c.proofs.kept.Kept.tell_listing.Goals as goal

pub returns-clause-same_array : goal.returns-clause-same_array
returns-clause-same_array c =
    ap (λ w. w.into.ghost_name) c.tell.ensures.listed
    ∙ same_array c.args.writing.now
    (told_changes c.tell.result (selection c.args.self.now.caller c.args.sel) c.args.self.now.caller c.tell.new.self.caller)

pub returns-clause-written : goal.returns-clause-written
returns-clause-written c =
    ap (λ w. w.into.now) c.tell.ensures.listed
    ∙ all_written c.args.writing.now
    (told_changes c.tell.result (selection c.args.self.now.caller c.args.sel) c.args.self.now.caller c.tell.new.self.caller)

pub returns-clause-count : goal.returns-clause-count
returns-clause-count c =
    ap (λ w. w.count) c.tell.ensures.listed
    ∙ all_counted c.args.writing.now
    (told_changes c.tell.result (selection c.args.self.now.caller c.args.sel) c.args.self.now.caller c.tell.new.self.caller)

pub returns-clause-again : goal.returns-clause-again
returns-clause-again c = λ goes_on. ap (λ w. w.count) (c.tell.ensures.again goes_on)
