-- The loop that marks the keys of the indexes that are noted, turn by turn.
use Rattle.std.proofs.Common.{◌≡◌, ℕ, zero, suc, ◌+◌, ◌<◌, ◌≤◌, ◌==◌, false, Option, Some, None, List, [], ◌∷◌}
use Rattle.std.proofs.Common.{get_or, refl, subst, arith}
use Rattle.std.proofs.lemmas.List.Elements.{All-head, All-tail}
use Rattle.nio_base.specs.declared.numbers.CallerNo.{CallerNo}
use Rattle.nio_base.specs.declared.numbers.SelNo.{SelNo}
use Rattle.nio_history.specs.PassViews.{PassView}
use Rattle.nio_steps.proofs.CallLaws.{returned, ran_then, left_after_call}
use Rattle.nio_steps.proofs.SweepLaws.{sweep_turn}
use Rattle.nio_steps.specs.Calls.{CallClause, PartClause}
use Rattle.nio_steps.specs.Plan.{Plan, reply, ◌>>=◌}
use Rattle.nio_steps.specs.Runs.{Completes}
use Rattle.nio_steps.specs.SelectCalls.{mark_told}
use Rattle.nio_steps.specs.Sweeps.{sweep_to}
use Rattle.nio_select.specs.Asked.{AreBelow}
use Rattle.nio_select.specs.KeyKept.{keys_from, key_kept}
use Rattle.nio_select.specs.ToldSlots.{told_of, wanted, mark_at}
use Rattle.nio_select.specs.declared.noted.Noted.{Noted}
use Rattle.nio_select.specs.declared.slot.Slot.{Slot}
use Rattle.nio_select.proofs.ToldMarks.{marks_over}

-- the indexes up to the next are passed over
pub marks_skip : {me : CallerNo} {whole : Plan ℕ} {v0 v1 : PassView} (s : SelNo) (slots : List (Option Slot))
    (noted : Noted) (b from n count : ℕ) → from + n ≤ b
    → ((k : ℕ) → from ≤ k → k < from + n → told_of noted k ≡ 0)
    → PartClause me whole v0 v1 (sweep_to b from (mark_at s slots noted) count >>= reply)
    → PartClause me whole v0 v1 (sweep_to b (from + n) (mark_at s slots noted) count >>= reply)
marks_skip {me = me} {whole = whole} {v0 = v0} {v1 = v1} s slots noted b from n count within none =
    subst (λ (plan : Plan ℕ). PartClause me whole v0 v1 (plan >>= reply))
    (marks_over s slots noted b from count n within none)

-- the key of an index was marked
pub marks_turn : {me : CallerNo} {whole : Plan ℕ} {v0 v1 v2 : PassView} (s : SelNo) (slots : List (Option Slot))
    (noted : Noted) (b i count told marked : ℕ) → i < b → told ≡ wanted (get_or slots i None) (told_of noted i)
    → PartClause me whole v0 v1 (sweep_to b i (mark_at s slots noted) count >>= reply)
    → CallClause me (Completes (mark_told s i told)) v1 v2 marked
    → PartClause me whole v0 v2 (sweep_to b (i + 1) (mark_at s slots noted) (count + marked) >>= reply)
marks_turn {me = me} {v1 = v1} {v2 = v2} s slots noted b i count told marked below is so_far call =
    let call' : CallClause me (Completes (mark_told s i (wanted (get_or slots i None) (told_of noted i)))) v1 v2 marked =
    subst (λ (n : ℕ). CallClause me (Completes (mark_told s i n)) v1 v2 marked) is call in
    let at : CallClause me (Completes (mark_at s slots noted i count)) v1 v2 (count + marked) =
    returned (ran_then (λ n. reply (count + n)) call' (left_after_call call')) in
    sweep_turn b i (mark_at s slots noted) count (count + marked) reply below so_far at

-- a key that stands at a place has its index
key_inside : (limit base k : ℕ) (slots : List (Option Slot)) (slot : Slot) → AreBelow limit (keys_from base slots)
    → get_or slots k None ≡ Some slot → base + k < limit
unfolding keys_from
key_inside limit base k [] slot below is = absurd (cc is)
key_inside limit base zero (None ∷ slots) slot below is = absurd (cc is)
key_inside limit base zero (Some x ∷ slots) slot below is =
    let here : base < limit = All-head (λ e. e.index < limit) (key_kept base x) (keys_from (base + 1) slots) below in
    omega (arith, here)
key_inside limit base (suc k) (None ∷ slots) slot below is =
    omega (arith, key_inside limit (base + 1) k slots slot below is)
key_inside limit base (suc k) (Some x ∷ slots) slot below is =
    omega (
      arith,
      key_inside limit (base + 1) k slots slot
          (All-tail (λ e. e.index < limit) (key_kept base x) (keys_from (base + 1) slots) below) is,
    )

-- so where anything is told of it, the index is within the limits
pub wanted_inside : (limit i told : ℕ) (slots : List (Option Slot)) → AreBelow limit (keys_from 0 slots)
    → (wanted (get_or slots i None) told == 0) ≡ false → i < limit
wanted_inside limit i told slots below some = by_slot (get_or slots i None) refl some
  where
    by_slot : (o : Option Slot) → get_or slots i None ≡ o → (wanted o told == 0) ≡ false → i < limit
    by_slot None is none = absurd (cc none)
    by_slot (Some slot) is more = omega (arith, key_inside limit 0 i slots slot below is)
