-- Plans that go over indexes, or over a list, in rising order.
use Rattle.std.specs.Prelude.{ℕ, zero, suc, ◌+◌, ◌-◌, Option, Some, None, List, [], ◌∷◌}
use Rattle.nio_steps.specs.Plan.{Plan, reply, ◌>>=◌}

-- Goes over n indexes from i on: makes the steps `f` of each, with what the steps of the index before left.
unfoldable pub sweep : {A : Type 0} → ℕ → ℕ → (ℕ → A → Plan A) → A → Plan A
sweep zero i f x = reply x
sweep (suc n) i f x = do
  y ← f i x
  sweep n (i + 1) f y

-- the same of the indexes from i on that are below b
abbrev pub sweep_to : {A : Type 0} → ℕ → ℕ → (ℕ → A → Plan A) → A → Plan A
sweep_to b i f x = sweep (b - i) i f x

-- how a search goes on with what it found at an index
abbrev pub found_or : {A : Type 0} → Plan (Option A) → Option A → Plan (Option A)
found_or later (Some x) = reply (Some x)
found_or later None = later

-- Goes over n indexes from i on and replies what `f` finds at the first index where it finds anything. It stops
-- there.
unfoldable pub seek : {A : Type 0} → ℕ → ℕ → (ℕ → Plan (Option A)) → Plan (Option A)
seek zero i f = reply None
seek (suc n) i f = do
  here ← f i
  found_or (seek n (i + 1) f) here

-- the same of the indexes from i on that are below b
abbrev pub seek_to : {A : Type 0} → ℕ → ℕ → (ℕ → Plan (Option A)) → Plan (Option A)
seek_to b i f = seek (b - i) i f

-- Goes over a list: makes the steps `f` of each element, with what the steps of the element before left.
unfoldable pub sweep_over : {X A : Type 0} → List X → (X → A → Plan A) → A → Plan A
sweep_over [] f x = reply x
sweep_over (e ∷ later) f x = do
  y ← f e x
  sweep_over later f y
