-- A pipe in one hand, told from its traces and its ring.
use Rattle.std.proofs.Common.{◌≡◌, ℕ, ◌≤◌, List, length, drop, Bool, sym, ap, ◌∙◌, subst}
use Rattle.std.proofs.Math.Seq.{drop-append_seam}
use Rattle.circular_buffer.specs.Buffer.{Buffer}
use Rattle.nio_base.specs.declared.numbers.ChanId.{ChanId}
use Rattle.nio_pipe.specs.Kept.{IsKept}
use Rattle.nio_pipe.specs.Pipe.{IsLawful}

-- what waits is what the ring has
pub waiting-items : (sent received : List ℕ) (buffer : Buffer ℕ) → IsKept sent received buffer
    → drop (length received) sent ≡ buffer.items
waiting-items sent received buffer kept =
    ap (drop (length received)) kept.whole ∙ drop-append_seam received buffer.items

pub kept-IsLawful : (source sink : ChanId) (sent received : List ℕ) (buffer : Buffer ℕ) (sealed : Bool)
    → IsKept sent received buffer
    → IsLawful (record { source = source; sink = sink; sent = sent; received = received; sealed = sealed })
kept-IsLawful source sink sent received buffer sealed kept = record {
  in_order = (buffer.items, sym kept.whole);
  few_waiting = subst (λ xs. length xs ≤ 65536) (sym (waiting-items sent received buffer kept)) kept.few_waiting;
}
