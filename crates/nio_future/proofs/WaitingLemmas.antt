-- The sources at which tasks wait.
use Rattle.std.proofs.Common.{◌≡◌, ℕ, List, map, get_or, set, ap, ◌∙◌}
use lib.Seq.{map-set_same}
use Rattle.nio_future.specs.declared.waiting.Place.{Place}

-- where a place has another waker, the sources are the same
pub same-names : (places : List Place) (i : ℕ) (old new : Place) → new.source.id ≡ old.source.id
    → old ≡ get_or places i old
    → map (λ (p : Place). p.source.id) (set places i new) ≡ map (λ (p : Place). p.source.id) places
same-names places i old new same there =
    map-set_same (λ (p : Place). p.source.id) places i new old (same ∙ ap (λ (p : Place). p.source.id) there)
