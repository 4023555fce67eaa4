use Rattle.nio_checked.proofs.Buffering.{writes_as, writes_front}
use Rattle.nio_checked.proofs.checked.CheckedNet.write_buf.Goals as goal

pub returns-in-Bytes-clause-call : goal.returns-in-Bytes-clause-call
returns-in-Bytes-clause-call g c = λ allowed told some.
    writes_as c.args.chan _ _ c.front.result.now c.args.buffer.now.items _ _ c.in-Bytes.is c.front.ensures.prefix
    (c.in_ok-put.ensures.call (λ is. cc is) told)

pub returns-in_default-clause-call : goal.returns-in_default-clause-call
returns-in_default-clause-call g c = λ allowed told some.
    writes_front c.args.chan _ _ c.front.result.now c.args.buffer.now.items _ c.front.ensures.prefix
    (c.in_ok-put.ensures.call (λ is. cc is) told)
