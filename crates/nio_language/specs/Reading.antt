-- What it is to read: to find what was printed.
use Rattle.std.specs.Prelude.{◌≡◌, Option, Some, IfSome}

-- a reader's answer for a text: what it finds fits and is printed as this text, and where the text
-- is printed from something that fits, it finds that
pub record Reads {A T : Type 0} (Fits : A → Type 0) (print : A → T) (text : T) (result : Option A) : Type 0 where
  pub found : IfSome result (λ x. Fits x × (text ≡ print x))
  pub only : (x : A) → Fits x → text ≡ print x → result ≡ Some x
