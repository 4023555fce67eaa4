use Rattle.std.proofs.Common.{List, Ok, subst}
use Rattle.nio_base.specs.declared.numbers.KeyNo.{KeyNo}
use Rattle.nio_c.specs.Taking.{TakesListed}
use Rattle.nio_c.proofs.taking.take_all.Goals as goal

pub returns-in-Ok : goal.returns-in-Ok
returns-in-Ok c = record {
  middle = c.selected_keys.new.self;
  lists = c.in-Ok.ensures.call;
  takes = subst (λ (keys : List KeyNo). TakesListed c.args.room (Ok keys) c.selected_keys.new.self
      c.unselect_listed.new.acting)
      c.as_slice.ensures.value c.unselect_listed.ensures;
}
