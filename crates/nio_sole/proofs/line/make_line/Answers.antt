use Rattle.nio_sole.proofs.Named.{may_make_named, missing_made, line_made_of}
use Rattle.nio_sole.proofs.line.make_line.Goals as goal

pub call_of-requires : goal.call_of-requires
call_of-requires c =
    may_make_named c.args.w.now c.args.d.now c.find_names.new.p c.args.me c.args.call.now c.in-None.ensures
    c.requires.places c.requires.made

pub returns-in-Some : goal.returns-in-Some
returns-in-Some c =
    missing_made c.args.w.now c.args.d.now c.find_names.new.p c.args.me c.args.call.now c.in-Some.missing
    c.in-Some.ensures c.requires.places

pub returns-in-None : goal.returns-in-None
returns-in-None c =
    line_made_of c.args.w.now c.args.d.now c.call_of.new.d c.find_names.new.p c.args.me c.args.call.now c.call_of.result
    c.in-None.ensures c.call_of.ensures
