-- What the contracts of calls see of a pass at a table.
use Rattle.std.specs.Prelude.{◌≡◌, ℕ, ◌==◌, IsTrue}
use Rattle.std.specs.Int.{bit_at}
use Rattle.nio_base.specs.declared.numbers.CallerNo.{CallerNo}
use Rattle.nio_base.specs.declared.numbers.SelNo.{SelNo}
use Rattle.nio_history.specs.Conditions.{IsKey, has_pin}
use Rattle.nio_history.specs.PassViews.{PassView, known}
use Rattle.nio_words.specs.Passes.{seen, numbers_of, view_of, limits_of, IsReady}
use Rattle.nio_words.specs.declared.words.Pass.{Pass}
use Rattle.nio_words.specs.declared.words.Words.{Words}

abbrev pub view : Words → Pass → PassView
view w p =
    record { limits = limits_of w; seen = seen p; held = λ n. bit_at (numbers_of p) n.0 == 1; only = (view_of p).alone }

-- the caller has a pin on this index, and on no other
pub record HasOnlyPin (pass : PassView) (me : CallerNo) (s : SelNo) (i : ℕ) : Type 0 where
  pub here : IsTrue (has_pin (known pass) me s i)
  pub nowhere_else : (s' : SelNo) (i' : ℕ) → IsTrue (has_pin (known pass) me s' i') → (s' ≡ s) × (i' ≡ i)

-- what stands between a caller's pin on an index and its unpin: it may step with the pass, and this pin is
-- its only one
pub record IsPinned (w : Words) (p : Pass) (me : CallerNo) (s : SelNo) (i : ℕ) : Type 0 where
  pub ready : IsReady w p me
  pub inside : IsKey (limits_of w) s i
  pub only : HasOnlyPin (view w p) me s i
