use Rattle.std.proofs.Common.{◌≡◌, ◌+◌, ◌++◌, Option, ap, sym, ◌∙◌, subst}
use Rattle.std.specs.Prelude.{option_map, option_to_list}
use Rattle.nio_steps.specs.declared.looked.LookedKey.{LookedKey}
use Rattle.nio_select.specs.Asked.{key_with, keys_to}
use Rattle.nio_select.proofs.KeptKeys.{key_is}
use Rattle.nio_select.proofs.asked.Asked.key.Goals as goal

pub returns-clause-is : goal.returns-clause-is
returns-clause-is c =
    c.key_kept.ensures
    ∙ (key_is c.args.index c.slot.result ∙ ap (option_map (key_with c.args.index)) c.slot.ensures.is)

pub returns-clause-next : goal.returns-clause-next
returns-clause-next c =
    subst (λ (o : Option LookedKey). keys_to (c.args.index + 1) c.args.self.now.keys
    ≡ keys_to c.args.index c.args.self.now.keys ++ option_to_list o) (sym c.key_kept.ensures) c.slot.ensures.next
