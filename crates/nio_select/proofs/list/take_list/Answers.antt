use Rattle.std.proofs.Common.{◌≡◌, ◌<◌, List, None, refl, ap, sym, subst, rules}
use Rattle.std.proofs.lemmas.List.Elements.{All-nil}
use Rattle.nio_base.specs.declared.numbers.SelNo.{SelNo}
use Rattle.nio_history.proofs.PassViews.{selector_after}
use Rattle.nio_steps.specs.declared.looked.LookedKey.{LookedKey}
use Rattle.nio_words.proofs.Views.{step_acts}
use Rattle.nio_words.specs.Views.{view}
use Rattle.nio_select.specs.Asked.{AreBelow}
use Rattle.nio_select.specs.InHand.{HeldList}
use Rattle.nio_select.proofs.ListTaken.{list_taken}
use Rattle.nio_select.proofs.list.take_list.Goals as goal

pub returns-clause-list : goal.returns-clause-list
returns-clause-list c =
    let free : c.take_list.result ≡ None = search rules in
    let taken = step_acts c.take_list.ensures refl in (
      ap (λ (keys : List LookedKey). held c.args.sel keys) c.new.ensures.keys,
      record {
        lister = record { selector = selector_after taken c.requires.selector; had = list_taken taken free };
        below = subst (AreBelow (view c.args.w.now c.take_list.new.p).limits.keys) (sym c.new.ensures.keys)
            (All-nil (λ (e : LookedKey). e.index < (view c.args.w.now c.take_list.new.p).limits.keys));
      },
    )
  where
    held : SelNo → List LookedKey → HeldList
    held s keys = record { selector = s; number = 0; keys = keys }
