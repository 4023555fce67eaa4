use Rattle.std.proofs.Common.{ap, sym, subst, ◌∙◌}
use Rattle.rtrb.specs.Ring.{known_items, received as popped, SameConsumer}
use Rattle.nio_pipe.specs.Ends.{known}
use Rattle.nio_pipe.proofs.EndLemmas.{known_nothing, knew_end}
use Rattle.nio_pipe.proofs.source.PipeSource.look_for_end.Goals as goal

pub returns-clause-looks : goal.returns-clause-looks
returns-clause-looks c =
    let old = c.args.self.now in
    let new = c.reach_end.new.self in
    record {
      same = record {
        bytes = subst (λ b. SameConsumer old.bytes b) (sym c.reach_end.ensures.bytes)
            (subst (λ b. SameConsumer b c.slots.new.self) c.take_seal.ensures.bytes c.slots.ensures.looked.0);
        seals = subst (λ m. SameConsumer old.seals m) (sym c.reach_end.ensures.seals) c.take_seal.ensures.seals;
        channel = c.reach_end.ensures.channel ∙ c.take_seal.ensures.channel;
      };
      received = ap popped c.reach_end.ensures.bytes ∙ (c.slots.ensures.looked.1 ∙ ap popped c.take_seal.ensures.bytes);
      known = known_nothing old.to_end (known_items old.bytes) (known new) c.requires.end c.requires.empty;
      end_stays = knew_end old.to_end c.requires.end;
      no_more = knew_end old.to_end c.requires.end;
    }
