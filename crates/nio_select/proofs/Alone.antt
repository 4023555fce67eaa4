-- Only the selecting caller does what only it does.
use Rattle.std.proofs.Common.{◌≡◌, [], ◌∷◌, ◌++◌, ap, sym, ◌∙◌, subst, append_assoc}
use Rattle.nio_history.proofs.Legal.{legal_beginning}
use Rattle.nio_history.proofs.Selections.{selects_alone}
use Rattle.nio_history.specs.Histories.{mine, IsLegal}
use Rattle.nio_history.specs.OwnEvents.{has, gives_turn}
use Rattle.nio_history.specs.PassViews.{done_between}
use Rattle.nio_history.proofs.OneMore.{has_none-append, mine-append}
use Rattle.nio_steps.proofs.StandLaws.{selections_stand}
use Rattle.nio_select.proofs.GoneOn.{done_in}
use Rattle.nio_select.specs.Laws.{SelectionsAreAlone}

pub selections_are_alone : SelectionsAreAlone
selections_are_alone old new me selection between e later selects legal parts keeps on =
    let s = selection.selector in
    let until = between ++ e ∷ [] in
    let cut : between ++ e ∷ later ≡ until ++ later = sym (append_assoc between (e ∷ []) later) in
    let whole : new.seen ≡ (old.seen ++ until) ++ later = parts
    ∙ (ap (λ events. old.seen ++ events) cut ∙ sym (append_assoc old.seen until later)) in
    let legal_until : IsLegal old.limits (old.seen ++ until) = legal_beginning old.limits (old.seen ++ until) later
    (subst (IsLegal old.limits) whole legal) in
    let legal_old : IsLegal old.limits old.seen = legal_beginning old.limits old.seen until legal_until in
    let own : done_between me old new ≡ mine me until ++ mine me later = done_in me old new (until ++ later)
    (sym (append_assoc old.seen until later) ∙ sym whole) ∙ mine-append me until later in
    selects_alone old.limits me s old.seen between e
    (record {
      legal = legal_until;
      has_it = selections_stand old.limits me old.seen selection legal_old selects.begun;
      kept =
          (has_none-append (gives_turn s.0) (mine me until) (mine me later) (ap (has (gives_turn s.0)) (sym own) ∙ keeps)).0;
    }) on
