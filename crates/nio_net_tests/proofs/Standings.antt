-- What stands under a channel after calls there.
use Rattle.std.proofs.Common.{◌≡◌, Result, Ok, Err, subst, sym}
use Rattle.nio_link.specs.Places.{IsLinked, place_after_shut}
use Rattle.nio_link.specs.declared.net.Failed.{Failed}
use Rattle.nio_link.specs.declared.place.Place.{Place}
use Rattle.nio_link.specs.declared.place.Standing.{Standing}
use Rattle.nio_link.specs.declared.place.Standing.TheVariants as standing

pub is_linked : (s : Standing) → s ≡ standing.Linked → IsLinked s
is_linked s linked = subst IsLinked (sym linked) tt

-- a link can still be read after a call that was to shut it for writing
pub linked_after_shut : (result : Result (Unit {0}) Failed) (place : Place) → place.standing ≡ standing.Linked
    → IsLinked (place_after_shut result place).standing
linked_after_shut (Ok done) place linked = tt
linked_after_shut (Err failed) place linked = is_linked place.standing linked
