-- A lister took note of what a caller did to keys.
use Rattle.std.proofs.Common.{◌≡◌, Option, Some, None, Result, Ok, Err, refl}
use Rattle.std.specs.Prelude.{◌↔◌, IfSome, OnErr, fold}
use Rattle.nio_caller.specs.Callers.{Acting, sees}
use Rattle.nio_caller.specs.declared.refusal.NotSelecting.{NotSelecting}
use Rattle.nio_select.specs.InHand.{InHand}
use Rattle.nio_select.specs.KeyChanges.{TakesNote}
use Rattle.nio_select.specs.declared.changes.KeyChange.{KeyChange}
use Rattle.nio_steps.specs.declared.selected.Selected.{Selected}
use Rattle.nio_c.specs.Selections.{told_changes}

module _ {L : Type 0} (noted : L → KeyChange → L) (old new : Acting) where
  pub took_note : (answer : Result (Option Selected) NotSelecting) (o : Option InHand) (before after : L)
      → ((answer ≡ Err (record {})) ↔ (o ≡ None)) → OnErr answer (after ≡ before)
      → IfSome o (λ x. TakesNote noted x.asked.keys old.number (sees old) (sees new) before after)
      → after ≡ fold noted before (told_changes (Some answer) o old new)
  took_note (Err error) o before after none untold took = untold
  took_note (Ok selected) (Some x) before after none untold took = took.notes
  took_note (Ok selected) None before after none untold took = absurd (cc (none.1 refl))
