-- What a caller did between two moments of a pass.
use Rattle.std.proofs.Common.{◌≡◌, List, [], ◌∷◌, ◌++◌, length, drop, refl, ap, sym, ◌∙◌, eq-eqb}
use Rattle.std.proofs.Math.Seq.{drop-append_seam}
use Rattle.nio_base.specs.declared.numbers.CallerNo.{CallerNo}
use Rattle.nio_history.proofs.OneMore.{mine-own, mine-append}
use Rattle.nio_history.specs.Histories.{mine, event_of}
use Rattle.nio_history.specs.PassViews.{PassView, done_between}
use Rattle.nio_history.specs.declared.act.Act.{Act}
use Rattle.nio_history.specs.declared.event.Event.{Event}

-- it is what the caller did in what was seen in between
pub done_in : (me : CallerNo) (old new : PassView) (later : List Event) → old.seen ++ later ≡ new.seen
    → done_between me old new ≡ mine me later
done_in me old new later parts =
    ap (λ events. drop (length (mine me old.seen)) (mine me events)) (sym parts)
    ∙ (ap (drop (length (mine me old.seen))) (mine-append me old.seen later)
    ∙ drop-append_seam (mine me old.seen) (mine me later))

-- what the caller did first, and then the rest
pub mine-cons : (me : CallerNo) (act : Act) (later : List Event)
    → mine me (event_of me act ∷ later) ≡ act ∷ mine me later
mine-cons me act later =
    mine-append me (event_of me act ∷ []) later
    ∙ ap (λ acts. acts ++ mine me later) (mine-own me [] (event_of me act) (eq-eqb me.0 me.0 refl))

-- what the caller did around one of its acts
pub mine-around : (me : CallerNo) (before : List Event) (act : Act) (later : List Event)
    → mine me (before ++ event_of me act ∷ later) ≡ mine me before ++ act ∷ mine me later
mine-around me before act later =
    mine-append me before (event_of me act ∷ later) ∙ ap (λ acts. mine me before ++ acts) (mine-cons me act later)
