use Rattle.std.proofs.Common.{refl}
use Rattle.nio_language.specs.Script.{IsInGrammar}
use Rattle.nio_language.proofs.parse.parse_line.Goals as goal

pub returns-then-is_blank-clause-malformed : goal.returns-then-is_blank-clause-malformed
returns-then-is_blank-clause-malformed c =
    λ _. (λ e. (cc), λ bad. absurd (bad (IsInGrammar.is_blank (c.if-is_blank.ensures.0 refl))))

pub returns-in-Some-clause-malformed : goal.returns-in-Some-clause-malformed
returns-in-Some-clause-malformed c =
    λ _. (
      λ e. (cc),
      λ bad. absurd
          (bad (IsInGrammar.is_call c.in-Some.caller c.in-Some.call
          (rw c.in-Some.is at c.in_ok-caller.ensures.found))),
    )
