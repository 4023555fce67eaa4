use Rattle.nio_language.proofs.NameWords.{no_cut, no_key, no_ops, some_pair}
use Rattle.nio_language.proofs.parse.name.read_pair.Goals as goal

pub returns-in_err-key : goal.returns-in_err-key
returns-in_err-key c = rw c.from_residual.ensures (no_cut c.args.word.now c.in_err-key.ensures.only)

pub returns-in_err-key-2 : goal.returns-in_err-key-2
returns-in_err-key-2 c =
    rw c.from_residual-in_err-key-2.ensures
    (no_key c.args.word.now c.in_ok-key.key.now c.in_ok-key.ops.now c.in_ok-key.ensures.only c.in_err-key-2.ensures)

pub returns-in_err-ops : goal.returns-in_err-ops
returns-in_err-ops c =
    rw c.from_residual-in_err-ops.ensures
    (no_ops c.args.word.now c.in_ok-key.key.now c.in_ok-key.ops.now c.in_ok-key.ensures.only c.in_err-ops.ensures)

pub returns : goal.returns
returns c =
    some_pair c.args.word.now c.in_ok-key.key.now c.in_ok-key.ops.now c.in_ok-key-2.key c.in_ok-ops.ops
    c.in_ok-key.ensures.only c.in_ok-key.ensures.found c.in_ok-key-2.ensures c.in_ok-ops.ensures
