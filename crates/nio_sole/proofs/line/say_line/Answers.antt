use Rattle.std.proofs.Common.{rules}
use Rattle.nio_sole.proofs.After.{has_no_pin, has_made, no_caller, says_line, drawn_below, past_limit}
use Rattle.nio_sole.proofs.line.say_line.Goals as goal

pub returns-then-me-limits : goal.returns-then-me-limits
returns-then-me-limits c =
    no_caller c.args.w.now c.args.d.now c.args.me c.args.call.now c.requires (past_limit _ _ (search rules))

pub make_line-requires-clause-ready : goal.make_line-requires-clause-ready
make_line-requires-clause-ready c = c.requires.ready c.args.me (search rules)

pub make_line-requires-clause-unpinned : goal.make_line-requires-clause-unpinned
make_line-requires-clause-unpinned c = has_no_pin c.args.w.now c.args.d.now c.args.me c.requires

pub make_line-requires-clause-made : goal.make_line-requires-clause-made
make_line-requires-clause-made c = has_made c.args.w.now c.args.d.now c.args.me c.requires

pub returns : goal.returns
returns c =
    says_line c.args.w.now c.args.d.now c.make_line.new.d c.args.me c.args.call.now c.make_line.result c.requires
    (drawn_below _ _ (search rules)) c.make_line.ensures
