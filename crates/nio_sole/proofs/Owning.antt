-- What a desk's selection lets its caller do.
use Rattle.std.proofs.Common.{◌≡◌, ◌<◌, Some, List, sym, ap, ◌∙◌, subst, true, false}
use Rattle.nio_steps.proofs.BeginLaws.{unlisted-begins}
use Rattle.std.specs.List.{AllPairs}
use Rattle.std.proofs.Math.Logic.{∥∥₁_map}
use Rattle.nio_base.specs.declared.numbers.CallerNo.{CallerNo}
use Rattle.nio_base.specs.declared.numbers.SelNo.{SelNo}
use Rattle.nio_history.specs.Conditions.{IsSelector}
use Rattle.nio_history.specs.PassViews.{HasSelector}
use Rattle.nio_select.specs.InHand.{InHand, selection_of}
use Rattle.nio_select.specs.InProgress.{Selects}
use Rattle.nio_sole.proofs.Desks.{own_selection_of}
use Rattle.nio_sole.proofs.Fits.{looked_below}
use Rattle.nio_sole.proofs.Had.{begun_had}
use Rattle.nio_sole.proofs.Progress.{made_begun}
use Rattle.nio_sole.specs.Made.{HasMade}
use Rattle.nio_sole.specs.Stands.{slot, progress_of, HasPlaces, IsOn}
use Rattle.nio_sole.specs.declared.desk.Desk.{Desk}
use Rattle.nio_steps.proofs.OrderLaws.{looks_in_order}
use Rattle.nio_steps.specs.Selections.{IsBegun}
use Rattle.nio_steps.specs.declared.looked.LookedKey.{LookedKey}
use Rattle.nio_words.specs.Passes.{IsReady, limits_of, seen, acts_seen}
use Rattle.nio_words.specs.Views.{view}
use Rattle.nio_words.specs.declared.words.Words.{Words}

-- The caller's own selection, which stands in its place.
module _ (w : Words) (d : Desk) (me : CallerNo) (s : SelNo) (x : InHand) (ready : IsReady w d.pass me)
    (has : HasSelector (view w d.pass) s) (places : HasPlaces w d)
    (made : ∥ HasMade (limits_of w) (acts_seen d.pass me) me (progress_of d) ∥₁)
    (was : slot d.selections.items s.0 ≡ Some (record { caller = me; selection = x })) where
  on : IsOn s.0 (selection_of x)
  on = places.selects s.0 _ was

  begun : IsBegun (acts_seen d.pass me) (selection_of x)
  begun = begun_had (limits_of w) (seen d.pass) me ready.pass.legal (selection_of x) on.1
      (∥∥₁_map made (λ m. (made_begun (limits_of w) (seen d.pass) me (progress_of d) s (selection_of x)
      ready.pass.legal m (own_selection_of me _ was)).0))

  pub its_selects : Selects (view w d.pass) me (selection_of x)
  its_selects =
      let on_it : x.selector ≡ s = ap (λ n. record { 0 = n }) on.0 in
      record {
        inside = subst (λ (y : SelNo). IsSelector (limits_of w) y) (sym on_it) has.inside;
        begun = begun;
        below = looked_below (limits_of w) me (seen d.pass) (selection_of x) ready.pass.legal begun on.1;
        lister = λ listed. let clash : false ≡ true = sym on.1 ∙ listed in absurd (cc clash);
      }

  -- the indexes of the keys that it looks at rise
  pub looked_rise : (looked : List LookedKey) → looked ≡ x.asked.keys
      → AllPairs (λ a b. a.index < b.index) looked
  looked_rise looked is =
      subst (λ (entries : List LookedKey). AllPairs (λ a b. a.index < b.index) entries) (sym is)
      (looks_in_order x.selector x.mode begun.beginning (selection_of x)
      (unlisted-begins (acts_seen d.pass me) (selection_of x) begun on.1)).rise
