-- The places of channels and the accepted links, as changes make them.
use Rattle.std.proofs.Common.{◌≡◌, ◌∙◌, Bool, if◌then◌else◌, List, [], ◌∷◌, ◌++◌, ap}
use Rattle.std.proofs.lemmas.List.Sums.{fold-append}
use Rattle.nio_base.specs.declared.numbers.ChanId.{ChanId}
use Rattle.nio_link.proofs.Channels.{is_another, is_itself}
use Rattle.nio_link.specs.Accepts.{accepted_by, accepted_next}
use Rattle.nio_link.specs.Links.{IsSameBut}
use Rattle.nio_link.specs.Places.{changed, place_after, places_after, never_asked}
use Rattle.nio_link.specs.declared.place.Change.{Change}
use Rattle.nio_link.specs.declared.place.Place.{Place}

module _ (changes : List (ChanId × Change)) (c : ChanId) (change : Change) where
  one_more : (k : ChanId) → places_after (changes ++ (c, change) ∷ []) k ≡ changed (places_after changes) (c, change) k
  one_more k = ap (λ (places : ChanId → Place). places k) (fold-append changed (λ _. never_asked) changes ((c, change) ∷ []))

  pub accepted_here : accepted_by (changes ++ (c, change) ∷ []) ≡ accepted_next (accepted_by changes) (c, change)
  accepted_here = fold-append accepted_next [] changes ((c, change) ∷ [])

  pub changed_here : places_after (changes ++ (c, change) ∷ []) c ≡ place_after change (places_after changes c)
  changed_here =
      one_more c ∙ ap (λ (b : Bool). if b then place_after change (places_after changes c) else places_after changes c)
      (is_itself c)

  pub changed_else : IsSameBut c (places_after changes) (places_after (changes ++ (c, change) ∷ []))
  changed_else k differ =
      one_more k ∙ ap (λ (b : Bool). if b then place_after change (places_after changes k) else places_after changes k)
      (is_another k c differ)
