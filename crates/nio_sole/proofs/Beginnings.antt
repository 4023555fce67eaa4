-- What a caller made before its first line, and that what it made is whole calls.
use Rattle.std.proofs.Common.{List, [], ◌∷◌, ◌++◌, false, refl}
use Rattle.nio_base.specs.declared.limits.Limits.{Limits}
use Rattle.nio_base.specs.declared.numbers.CallerNo.{CallerNo}
use Rattle.nio_history.specs.declared.act.Act.{Act}
use Rattle.nio_history.specs.declared.act.Act.TheVariants.{DrawBit}
use Rattle.nio_orderly.specs.Made.{draw}
use Rattle.nio_orderly.specs.Orderly.{HasMadeCalls}
use Rattle.nio_serial.specs.Documented.{Progress, nothing_yet}
use Rattle.nio_sole.proofs.Calls.{made_more}
use Rattle.nio_sole.specs.Made.{HasMade}

pub made_nothing : (l : Limits) (n : CallerNo) → HasMade l [] n nothing_yet
made_nothing l n =
    record {
      calls = [];
      are = record { runs = refl; in_order = tt };
      ongoing = record {
        selection = λ s. refl;
        closes = λ s. refl;
      };
    }

-- drawing its number is a call
pub made_draw : (l : Limits) (own : List Act) (n : CallerNo) (now : Progress) → HasMade l own n now
    → HasMade l (own ++ DrawBit n false ∷ []) n now
made_draw l own n now made = made_more l own (DrawBit n false ∷ []) n now now (draw n) made refl tt made.ongoing

pub made_whole : (l : Limits) (acts : List Act) (n : CallerNo) (now : Progress) → HasMade l acts n now
    → HasMadeCalls l acts
made_whole l acts n now made = record { calls = made.calls; are = made.are }
