use Rattle.std.proofs.Common.{◌≡◌, ◌≤◌, ◌++◌, length, take, arith}
use Rattle.std.proofs.lemmas.Grind.{common_steps}
use Rattle.nio_checked.proofs.Buffering.{reads_into}
use Rattle.nio_checked.proofs.checked.CheckedNet.read_buf.Goals as goal

pub returns-in-Bytes-clause-call : goal.returns-in-Bytes-clause-call
returns-in-Bytes-clause-call g c = λ allowed told room.
    let more : c.put.new.self.items ≡ c.args.buffer.now.items ++ take c.in-Bytes.count c.read_front.new.block =
    grind (arith, common_steps) in
    let fits : c.min-size.result ≤ length c.read_front.new.block = grind (arith, common_steps) in
    reads_into c.args.chan _ _ c.args.buffer.now c.put.new.self _ c.read_front.new.block c.min-size.result
    c.in_ok-got.got c.in-Bytes.count c.in-Bytes.is more fits c.in_ok-got.ensures.got
    (c.in_ok-got.ensures.call (λ is. cc is) told)
