-- Marking over the indexes that are noted makes the steps of the plan: keys of which nothing was told make none.
use Rattle.std.proofs.Common.{◌≡◌, ℕ, zero, suc, ◌+◌, ◌<◌, ◌≤◌, Option, Some, None}
use Rattle.std.proofs.Common.{List, [], ◌∷◌, length, get_or, refl, ap, sym, ◌∙◌, subst, arith}
use Rattle.std.specs.Int.Bits.{and_zero_l}
use Rattle.std.specs.Prelude.{bit_and}
use Rattle.nio_base.specs.declared.numbers.SelNo.{SelNo}
use Rattle.nio_steps.proofs.SweepLaws.{sweep_to-turn}
use Rattle.nio_steps.specs.Plan.{Plan, reply, ◌>>=◌}
use Rattle.nio_steps.specs.SelectCalls.{told_at, mark_told, mark_entry}
use Rattle.nio_steps.specs.Sweeps.{sweep, sweep_to, sweep_over}
use Rattle.nio_select.specs.KeyKept.{keys_from, key_kept}
use Rattle.nio_select.specs.ToldSlots.{told_of, wanted, mark_at}
use Rattle.nio_select.specs.declared.noted.Noted.{Noted}
use Rattle.nio_select.specs.declared.slot.Slot.{Slot}

-- an index of which nothing was told makes no step
wanted_none : (o : Option Slot) → wanted o 0 ≡ 0
wanted_none None = refl
wanted_none (Some slot) = and_zero_l slot.interest

pub marks_none : (s : SelNo) (slots : List (Option Slot)) (noted : Noted) (i count : ℕ) → told_of noted i ≡ 0
    → mark_at s slots noted i count ≡ reply count
marks_none s slots noted i count none =
    ap (λ (told : ℕ). mark_told s i told >>= (λ (marked : ℕ). reply (count + marked)))
    (ap (wanted (get_or slots i None)) none ∙ wanted_none (get_or slots i None))
    ∙ ap (λ (n : ℕ). reply n) (omega arith)

-- so the turn of such an index is passed over
pub marks_past : (s : SelNo) (slots : List (Option Slot)) (noted : Noted) (b i count : ℕ) → i < b → told_of noted i ≡ 0
    → sweep_to b i (mark_at s slots noted) count ≡ sweep_to b (i + 1) (mark_at s slots noted) count
marks_past s slots noted b i count below none =
    sweep_to-turn b i (mark_at s slots noted) count below
    ∙ ap (λ (plan : Plan ℕ). plan >>= (λ n. sweep_to b (i + 1) (mark_at s slots noted) n))
    (marks_none s slots noted i count none)

pub marks_over : (s : SelNo) (slots : List (Option Slot)) (noted : Noted) (b i count n : ℕ) → i + n ≤ b
    → ((k : ℕ) → i ≤ k → k < i + n → told_of noted k ≡ 0)
    → sweep_to b i (mark_at s slots noted) count ≡ sweep_to b (i + n) (mark_at s slots noted) count
marks_over s slots noted b i count zero within none =
    ap (λ (k : ℕ). sweep_to b k (mark_at s slots noted) count) (omega arith)
marks_over s slots noted b i count (suc n) within none =
    let more : i + 1 + n ≡ i + suc n = omega arith in
    marks_past s slots noted b i count (omega (arith, within)) (none i (omega arith) (omega arith))
    ∙ (marks_over s slots noted b (i + 1) count n (omega (arith, within))
    (λ k above below. none k (omega (arith, above)) (omega (arith, below)))
    ∙ ap (λ (k : ℕ). sweep_to b k (mark_at s slots noted) count) more)

-- ---- over the places, and over the keys that stand there

-- the same of the places from index i on
module _ (s : SelNo) (pairs : List (ℕ × ℕ)) (slots : List (Option Slot)) (noted : Noted) where
  at_key : (i count : ℕ) (slot : Slot) → get_or slots i None ≡ Some slot → told_of noted i ≡ told_at pairs i
      → mark_at s slots noted i count ≡ mark_entry s pairs (key_kept i slot) count
  at_key i count slot is told =
      ap (λ (o : Option Slot). mark_told s i (wanted o (told_of noted i)) >>= (λ (marked : ℕ). reply (count + marked))) is
      ∙ ap (λ (n : ℕ). mark_told s i (bit_and n slot.interest) >>= (λ (marked : ℕ). reply (count + marked))) told

  at_none : (i count : ℕ) → get_or slots i None ≡ None → mark_at s slots noted i count ≡ reply count
  at_none i count is =
      ap (λ (o : Option Slot). mark_told s i (wanted o (told_of noted i)) >>= (λ (marked : ℕ). reply (count + marked))) is
      ∙ ap (λ (n : ℕ). reply n) (omega arith)

  over_places : (n i : ℕ) (later : List (Option Slot)) (count : ℕ) → length later ≤ n
      → ((k : ℕ) → get_or slots (i + k) None ≡ get_or later k None)
      → ((k : ℕ) → k < length later → told_of noted (i + k) ≡ told_at pairs (i + k))
      → sweep n i (mark_at s slots noted) count ≡ sweep_over (keys_from i later) (mark_entry s pairs) count
  unfolding sweep sweep_over keys_from
  over_places zero i [] count few same told = refl
  over_places zero i (o ∷ later) count few same told = absurd (omega (arith, few))
  over_places (suc n) i [] count few same told =
      let at : i + 0 ≡ i = omega arith in
      ap (λ (plan : Plan ℕ). plan >>= (λ m. sweep n (i + 1) (mark_at s slots noted) m))
      (at_none i count (ap (λ (k : ℕ). get_or slots k None) (sym at) ∙ same 0))
      ∙ over_places n (i + 1) [] count (omega arith)
      (λ k. ap (λ (m : ℕ). get_or slots m None) (omega arith) ∙ same (suc k))
      (λ k below. absurd (omega (arith, below)))
  over_places (suc n) i (None ∷ later) count few same told =
      let at : i + 0 ≡ i = omega arith in
      ap (λ (plan : Plan ℕ). plan >>= (λ m. sweep n (i + 1) (mark_at s slots noted) m))
      (at_none i count (ap (λ (k : ℕ). get_or slots k None) (sym at) ∙ same 0))
      ∙ over_places n (i + 1) later count (omega (arith, few))
      (λ k. ap (λ (m : ℕ). get_or slots m None) (omega arith) ∙ same (suc k))
      (λ k below. subst (λ (m : ℕ). told_of noted m ≡ told_at pairs m) (omega arith) (told (suc k) (omega (arith, below))))
  over_places (suc n) i (Some slot ∷ later) count few same told =
      let at : i + 0 ≡ i = omega arith in
      ap (λ (plan : Plan ℕ). plan >>= (λ m. sweep n (i + 1) (mark_at s slots noted) m))
      (at_key i count slot (ap (λ (k : ℕ). get_or slots k None) (sym at) ∙ same 0)
      (subst (λ (m : ℕ). told_of noted m ≡ told_at pairs m) at (told 0 (omega arith))))
      ∙ ap (λ (on : ℕ → Plan ℕ). mark_entry s pairs (key_kept i slot) count >>= on)
      (λ e m. over_places n (i + 1) later m (omega (arith, few))
      (λ k. ap (λ (x : ℕ). get_or slots x None) (omega arith) ∙ same (suc k))
      (λ k below. subst (λ (x : ℕ). told_of noted x ≡ told_at pairs x) (omega arith) (told (suc k) (omega (arith, below))))
      e)

  pub over_all : (n count : ℕ) → length slots ≤ n → ((i : ℕ) → i < length slots → told_of noted i ≡ told_at pairs i)
      → sweep_to n 0 (mark_at s slots noted) count ≡ sweep_over (keys_from 0 slots) (mark_entry s pairs) count
  over_all n count few told =
      ap (λ (m : ℕ). sweep m 0 (mark_at s slots noted) count) (omega arith)
      ∙ over_places n 0 slots count few (λ k. ap (λ (m : ℕ). get_or slots m None) (omega arith))
      (λ k below. subst (λ (m : ℕ). told_of noted m ≡ told_at pairs m) (omega arith) (told k below))
