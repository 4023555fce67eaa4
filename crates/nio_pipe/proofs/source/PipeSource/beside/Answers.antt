use Rattle.std.proofs.Common.{◌≡◌, ◌+◌, ◌%◌, ◌^◌, ◌++◌, Some, length, ap, sym, ◌∙◌, subst, arith}
use Rattle.std.specs.Prelude.{is_some}
use mathlib.Core.List.{IsPrefix}
use Rattle.rtrb.specs.Ring.{known_items, received as popped, sent as pushed, SameConsumer}
use Rattle.nio_pipe.specs.Counts.{count_of, known_of}
use Rattle.nio_pipe.specs.Ends.{known}
use Rattle.nio_pipe.proofs.EndLemmas.{Beside, end_known, all_known, known_grows, known_then, end_lasts, was_whole}
use Rattle.nio_pipe.proofs.source.PipeSource.beside.Goals as goal

beside_of : (c : goal.After-reach_end)
    → Beside (popped c.slots_beside-waiting.new.self) (known_items c.slots_beside-waiting.new.self)
    (pushed c.slots_beside-waiting.new.producer)
    c.take_seal_beside.new.sink.sealed c.take_seal_beside.new.self.count c.take_seal_beside.new.sink.count
    c.take_seal_beside.new.self.seal c.take_seal_beside.new.self.to_end c.reach_end.new.self.to_end
beside_of c =
    let source = c.take_seal_beside.new.self in
    let sink = c.take_seal_beside.new.sink in
    let slots = c.slots_beside-waiting in
    let same : popped slots.new.self ≡ popped source.bytes = slots.ensures.looked.1 in
    record {
      whole = slots.ensures.fifo;
      few = omega (arith, slots.new.self.counts, slots.ensures.looked.0.1, source.sized);
      read_is = source.counted ∙ ap count_of (sym same);
      written_is = sink.counted ∙ ap count_of (sym slots.ensures.producer.1);
      seals = c.take_seal_beside.ensures.seal ∙ sink.left;
      reached = c.reach_end.ensures.reached;
      kept = c.reach_end.ensures.kept;
      told = λ n is. source.reached.told n is ∙ ap (λ xs. Some ((length xs + n) % 2 ^ 64)) (sym same);
    }

-- what the source knows is all that waits
all_seen : (c : goal.After-reach_end) → known c.reach_end.new.self ≡ known_items c.slots_beside-waiting.new.self
all_seen c = ap (λ ring. known_of c.reach_end.new.self.to_end (known_items ring)) c.reach_end.ensures.bytes
    ∙ all_known _ _ _ _ _ _ _ _ _ (beside_of c)

-- what it knew before
knew : (c : goal.After-reach_end)
    → known_of c.take_seal_beside.new.self.to_end (known_items c.take_seal_beside.new.self.bytes)
    ≡ known c.args.self.now
knew c =
    ap (λ t. known_of t (known_items c.take_seal_beside.new.self.bytes)) c.take_seal_beside.ensures.to_end
    ∙ ap (λ ring. known_of c.args.self.now.to_end (known_items ring)) c.take_seal_beside.ensures.bytes

pub returns-clause-waiting : goal.returns-clause-waiting
returns-clause-waiting c = c.slots_beside-waiting.ensures.value ∙ sym (ap length (all_seen c))

pub returns-clause-whole : goal.returns-clause-whole
returns-clause-whole c =
    ap (λ ring. popped ring ++ known c.reach_end.new.self) c.reach_end.ensures.bytes
    ∙ (ap (λ xs. popped c.slots_beside-waiting.new.self ++ xs) (all_seen c) ∙ c.slots_beside-waiting.ensures.fifo)

pub returns-clause-end : goal.returns-clause-end
returns-clause-end c = end_known _ _ _ _ _ _ _ _ _ (beside_of c)

pub returns-clause-source : goal.returns-clause-source
returns-clause-source c =
    let old = c.args.self.now in
    let new = c.reach_end.new.self in
    let slots = c.slots_beside-waiting in
    let source = c.take_seal_beside.new.self in
    let grows : IsPrefix (known_items source.bytes) (known_items slots.new.self) = slots.ensures.looked.2 in
    record {
      same = record {
        bytes = subst (λ b. SameConsumer old.bytes b) (sym c.reach_end.ensures.bytes)
            (subst (λ b. SameConsumer b slots.new.self) c.take_seal_beside.ensures.bytes slots.ensures.looked.0);
        seals = subst (λ m. SameConsumer old.seals m) (sym c.reach_end.ensures.seals) c.take_seal_beside.ensures.seals;
        channel = c.reach_end.ensures.channel ∙ c.take_seal_beside.ensures.channel;
      };
      received = ap popped c.reach_end.ensures.bytes
          ∙ (slots.ensures.looked.1 ∙ ap popped c.take_seal_beside.ensures.bytes);
      known = subst (λ xs. IsPrefix xs (known new)) (knew c)
          (subst (λ ring. IsPrefix (known_of source.to_end (known_items source.bytes))
          (known_of new.to_end (known_items ring))) (sym c.reach_end.ensures.bytes)
          (known_grows _ _ _ _ _ _ _ _ _ (beside_of c) (known_items source.bytes) source.reached.seen grows));
      no_more = λ knows.
          ap (λ ring. known_of new.to_end (known_items ring)) c.reach_end.ensures.bytes
          ∙ (known_then _ _ _ _ _ _ _ _ _ (beside_of c) (known_items source.bytes) source.reached.seen grows
          (ap is_some c.take_seal_beside.ensures.to_end ∙ knows) ∙ knew c);
      end_stays = λ knows. end_lasts _ _ _ _ _ _ _ _ _ (beside_of c)
          (ap is_some c.take_seal_beside.ensures.to_end ∙ knows);
    }

pub returns-clause-told : goal.returns-clause-told
returns-clause-told c = λ at_end.
    let source = c.take_seal_beside.new.self in
    let told = was_whole _ _ _ _ _ _ _ _ _ (beside_of c) (known_items source.bytes) source.reached.seen
    (ap is_some c.take_seal_beside.ensures.to_end ∙ at_end.sealed) (knew c ∙ at_end.no_byte) in
    record { sealed = told.0; whole = ap popped c.reach_end.ensures.bytes ∙ told.1 }
