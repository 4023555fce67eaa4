-- Ends of the same ring.
use Rattle.std.proofs.Common.{sym, ◌∙◌}
use Rattle.rtrb.specs.Ends.{SameRing}
use Rattle.rtrb.specs.declared.end.End.{End}

module _ {T A P : Type 0} where
  pub ring_then : (a b c : End T A P) → SameRing a b → SameRing b c → SameRing a c
  ring_then a b c first second = (second.0 ∙ first.0, second.1 ∙ first.1, second.2 ∙ first.2, second.3 ∙ first.3)

  pub ring_back : (a b : End T A P) → SameRing a b → SameRing b a
  ring_back a b same = (sym same.0, sym same.1, sym same.2, sym same.3)
