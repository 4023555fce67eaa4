use Rattle.std.proofs.Common.{◌*◌, ap, ◌∙◌, arith}
use Rattle.nio_select.proofs.AskedKeys.{kept_longer, longer_keys}
use Rattle.nio_select.proofs.asked.Asked.make_room.Goals as goal

pub invariant_of-self-2 : goal.invariant_of-self-2
invariant_of-self-2 c =
    kept_longer c.self.inside.slots.items c.lengthen.new.list.items c.self.inside.noted c.make_room.new.self
    c.self.inside.count (64 * c.args.words) c.self.invariant c.lengthen.ensures.longer c.lengthen.ensures.most
    c.make_room.ensures.told c.make_room.ensures.words c.in_ok-make_room.ensures.told_room
    (omega (arith, c.in_ok-make_room.ensures.words_room)) (c.make_room.ensures.few c.self.invariant.few)

pub returns-clause-keys : goal.returns-clause-keys
returns-clause-keys c =
    longer_keys c.self.inside.slots.items c.lengthen.new.list.items c.lengthen.ensures.longer
    ∙ ap (λ v. v.keys) c.self.view_is
