use Rattle.std.proofs.Common.{[], refl, ◌∙◌}
use Rattle.std.proofs.lemmas.List.{append-nil}
use Rattle.rtrb.specs.Ring.{known_items, received as popped}
use Rattle.nio_pipe.proofs.EndLemmas.{PopsToEnd, reached_after, given-fits, given-received, given-rest, given-known}
use Rattle.nio_pipe.proofs.source.PipeSource.pop_to_end.Goals as goal

pub invariant_of-self-clause-reached : goal.invariant_of-self-clause-reached
invariant_of-self-clause-reached c =
    let self = c.args.self.now in
    let pop = c.pop_slice-given in
    let pops : PopsToEnd (known_items self.bytes) (known_items pop.new.bytes) (popped self.bytes)
    (popped pop.new.bytes) c.args.into.now pop.new.slice c.args.left c.min-room.result pop.result = record {
      seen = self.reached.seen c.args.left c.requires;
      room_is = c.min-room.ensures;
      fits = pop.ensures.fit;
      popped_is = pop.ensures.popped;
      next = pop.ensures.known;
      most = pop.ensures.most;
      part = pop.auto.slice;
    } in
    reached_after _ _ _ _ _ _ _ _ _ pops self.seal (self.reached.told c.args.left c.requires)

pub returns-clause-bytes : goal.returns-clause-bytes
returns-clause-bytes c =
    let self = c.args.self.now in
    let pop = c.pop_slice-given in
    let pops : PopsToEnd (known_items self.bytes) (known_items pop.new.bytes) (popped self.bytes)
    (popped pop.new.bytes) c.args.into.now pop.new.slice c.args.left c.min-room.result pop.result = record {
      seen = self.reached.seen c.args.left c.requires;
      room_is = c.min-room.ensures;
      fits = pop.ensures.fit;
      popped_is = pop.ensures.popped;
      next = pop.ensures.known;
      most = pop.ensures.most;
      part = pop.auto.slice;
    } in
    let same = given-known _ _ _ _ _ _ _ _ _ pops self.to_end c.requires in
    record {
      fit = given-fits _ _ _ _ _ _ _ _ _ pops;
      received = given-received _ _ _ _ _ _ _ _ _ pops;
      rest = given-rest _ _ _ _ _ _ _ _ _ pops;
      end_stays = λ _. refl;
      no_more = λ _. same;
      known = ([], append-nil _ ∙ same);
    }
