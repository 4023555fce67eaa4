use Rattle.std.proofs.Common.{List, Option, None, ◌≡◌, ◌+◌, ◌++◌, ap, sym, ◌∙◌, get_or, subst}
use Rattle.std.specs.Prelude.{option_map, option_to_list}
use Rattle.nio_steps.specs.Lists.{listed_at}
use Rattle.nio_steps.specs.declared.looked.LookedKey.{LookedKey}
use Rattle.nio_select.specs.Asked.{Looked, keys_to}
use Rattle.nio_select.specs.KeyKept.{keys_from}
use Rattle.nio_select.specs.Kept.{entry_kept, kept}
use Rattle.nio_select.specs.declared.slot.Slot.{Slot}
use Rattle.nio_select.proofs.KeptKeys.{first_listed, first_next}
use Rattle.nio_select.proofs.asked.Asked.slot.Goals as goal

pub returns-clause-is : goal.returns-clause-is
returns-clause-is c =
    ap (option_map entry_kept) (c.slot_at.ensures
    ∙ ap (λ (slots : List (Option Slot)). get_or slots c.args.index None) c.as_slice.ensures.value)
    ∙ (sym (first_listed c.args.index c.self.inside.slots.items)
    ∙ ap (λ (asked : Looked). listed_at asked.keys c.args.index) c.self.view_is)

pub returns-clause-next : goal.returns-clause-next
returns-clause-next c =
    let found : c.slot_at.result ≡ get_or c.self.inside.slots.items c.args.index None = c.slot_at.ensures
    ∙ ap (λ (slots : List (Option Slot)). get_or slots c.args.index None) c.as_slice.ensures.value in
    subst (λ (keys : List LookedKey). keys_to (c.args.index + 1) keys
    ≡ keys_to c.args.index keys ++ option_to_list (kept c.args.index c.slot_at.result))
    (ap (λ (asked : Looked). asked.keys) c.self.view_is)
    (subst (λ (o : Option Slot). keys_to (c.args.index + 1) (keys_from 0 c.self.inside.slots.items)
    ≡ keys_to c.args.index (keys_from 0 c.self.inside.slots.items) ++ option_to_list (kept c.args.index o))
    (sym found) (first_next c.args.index c.self.inside.slots.items))
