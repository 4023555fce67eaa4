-- Lemmas on known bytes.
use Rattle.std.proofs.Common.{◌≡◌, ℕ, List, [], ◌++◌, Some, None, refl, sym, ap, subst, append_assoc, append-nil}
use Rattle.std.specs.Prelude.{Option, IfSome}
use Rattle.std.specs.Io.KnownBytes.{prepend_known, append_known}

-- bytes in front, and then more behind them
pub prepend_known-append : (bytes more : List ℕ) (known : Option (List ℕ))
    → prepend_known (bytes ++ more) known ≡ prepend_known bytes (prepend_known more known)
prepend_known-append bytes more None = refl
prepend_known-append bytes more (Some xs) = ap Some (append_assoc bytes more xs)

-- no bytes more
pub append_known-nil : (known : Option (List ℕ)) → append_known known [] ≡ known
append_known-nil None = refl
append_known-nil (Some xs) = ap Some (append-nil xs)

-- bytes, and then more
pub append_known-append : (known : Option (List ℕ)) (bytes more : List ℕ)
    → append_known known (bytes ++ more) ≡ append_known (append_known known bytes) more
append_known-append None bytes more = refl
append_known-append (Some xs) bytes more = ap Some (sym (append_assoc xs bytes more))

-- what holds of the bytes that the known ones are holds of these
pub if_known : (known : Option (List ℕ)) (bytes : List ℕ) (IsSo : List ℕ → Type 0) → IfSome known (λ xs. xs ≡ bytes)
    → IsSo bytes → IfSome known IsSo
if_known None bytes IsSo same so = tt
if_known (Some xs) bytes IsSo same so = subst IsSo (sym same) so
