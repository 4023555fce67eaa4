-- What an ending selection with the selector's list finds of an index below the high-water mark.
use Rattle.std.proofs.Common.{◌≡◌, ℕ, ◌+◌, ◌/◌, ◌%◌, ◌<◌, ◌==◌, nat_lt, Bool, true, false, List, [], ◌∷◌, ◌++◌}
use Rattle.std.proofs.Common.{refl, subst, eqb-true, arith}
use Rattle.std.specs.List.{Contains}
use Rattle.std.proofs.lemmas.Bool.{ltb-true, ltb-false, eqb-false}
use Rattle.std.proofs.lemmas.List.Elements.{Contains-append_left, Contains-append_right}
use Rattle.nio_base.specs.declared.numbers.SelNo.{SelNo}
use Rattle.nio_history.specs.Questions.{Question, question_of, answer_of}
use Rattle.nio_history.specs.declared.act.Act.{Act}
use Rattle.nio_history.specs.declared.act.Act.TheVariants.{LookTouched}
use Rattle.nio_steps.proofs.Listing.{always_remove}
use Rattle.nio_steps.proofs.Lists.{contains-middle}
use Rattle.nio_steps.proofs.LookedLaws.{Settled, met-left, met-right, met-removed, settles-passed}
use Rattle.nio_steps.proofs.Shown.{over_one, shown-all}
use Rattle.nio_steps.proofs.Walks.{Always, always_any, always_run, always_sweep, always_weaker}
use Rattle.nio_steps.specs.ChannelCalls.{words_below}
use Rattle.nio_steps.specs.KeyCalls.{has_bit}
use Rattle.nio_steps.specs.Looking.{over_touched, remove_below, remove_if_cancelled, shown}
use Rattle.nio_steps.specs.Plan.{Plan}
use Rattle.nio_steps.specs.Runs.{Completes}
use Rattle.nio_steps.specs.Steps.{word_in}
use Rattle.nio_steps.specs.Sweeps.{sweep_over}

-- the index was found not touched, or its key not in the cancelled set, or that was removed
pub data SettledEnd (s : SelNo) (i : ℕ) (acts : List Act) : Type 0 where
  is_untouched : (word : ℕ) → Contains acts (LookTouched s (i / 64) word) → has_bit word (i % 64) ≡ false
      → SettledEnd s i acts
  is_settled : Settled s i acts → SettledEnd s i acts

settled_end-left : (s : SelNo) (i : ℕ) (acts later : List Act) → SettledEnd s i acts → SettledEnd s i (acts ++ later)
settled_end-left s i acts later (is_untouched word look clear) =
    is_untouched word (Contains-append_left acts later (LookTouched s (i / 64) word) look) clear
settled_end-left s i acts later (is_settled settled) = is_settled (met-left s i acts later settled)

settled_end-right : (s : SelNo) (i : ℕ) (earlier acts : List Act) → SettledEnd s i acts
    → SettledEnd s i (earlier ++ acts)
settled_end-right s i earlier acts (is_untouched word look clear) =
    is_untouched word (Contains-append_right earlier acts (LookTouched s (i / 64) word) look) clear
settled_end-right s i earlier acts (is_settled settled) = is_settled (met-right s i earlier acts settled)

pub touched-look : (s : SelNo) (j : ℕ) (act : Act) → question_of act ≡ Question.look_touched s j
    → act ≡ LookTouched s j (word_in (answer_of act))
touched-look s j (LookTouched s' j' found) asks = cc asks
touched-look s j _ asks = absurd (cc asks)

module _ (s : SelNo) (i : ℕ) where
  abbrev remove_at : ℕ → Unit {0} → Plan (Unit {0})
  remove_at k u = remove_if_cancelled s k

  -- where the word shows the index, its turn settles it
  shown-settles : (word : ℕ) → has_bit word (i % 64) ≡ true → (u : Unit {0})
      → Always (λ acts _. Settled s i acts) (sweep_over (shown word (i / 64) 64) remove_at u)
  shown-settles word bit u =
      over_one (λ acts _. Settled s i acts) i remove_at (shown word (i / 64) 64) u
      (λ acts v. always_weaker (λ zs _. Settled s i zs) (λ zs _. Settled s i (acts ++ zs)) (remove_if_cancelled s i)
      (λ zs _ here. met-right s i acts zs here)
      (always_remove s i (Settled s i) (met-removed s i) (settles-passed s i)))
      (λ k acts v _ here. always_weaker (λ _ _. Unit {0}) (λ zs _. Settled s i (acts ++ zs)) (remove_if_cancelled s k)
      (λ zs _ _. met-left s i acts zs here) (always_any (remove_if_cancelled s k)))
      (shown-all word i bit)

  -- the turn of its word
  word-settles : (u : Unit {0}) → Always (λ acts _. SettledEnd s i acts) (over_touched s remove_at (i / 64) u)
  word-settles u = λ act asks. by_bit act asks (has_bit (word_in (answer_of act)) (i % 64)) refl
    where
      by_bit : (act : Act) → question_of act ≡ Question.look_touched s (i / 64) → (b : Bool)
          → has_bit (word_in (answer_of act)) (i % 64) ≡ b
          → Always (λ zs _. SettledEnd s i (act ∷ zs))
          (sweep_over (shown (word_in (answer_of act)) (i / 64) 64) remove_at u)
      by_bit act asks true bit =
          always_weaker (λ zs _. Settled s i zs) (λ zs _. SettledEnd s i (act ∷ zs))
          (sweep_over (shown (word_in (answer_of act)) (i / 64) 64) remove_at u)
          (λ zs _ here. is_settled (met-right s i (act ∷ []) zs here))
          (shown-settles (word_in (answer_of act)) bit u)
      by_bit act asks false clear =
          always_weaker (λ _ _. Unit {0}) (λ zs _. SettledEnd s i (act ∷ zs))
          (sweep_over (shown (word_in (answer_of act)) (i / 64) 64) remove_at u)
          (λ zs _ _. is_untouched (word_in (answer_of act))
          (subst (Contains (act ∷ zs)) (touched-look s (i / 64) act asks) (contains-middle [] act zs)) clear)
          (always_any (sweep_over (shown (word_in (answer_of act)) (i / 64) 64) remove_at u))

  -- once the words below p had their turn
  abbrev Left : ℕ → List Act → Unit {0} → Type 0
  Left p acts u = i / 64 < p → SettledEnd s i acts

  one-word : (j : ℕ) (acts : List Act) (u : Unit {0}) → Left j acts u
      → Always (λ zs v. Left (j + 1) (acts ++ zs) v) (over_touched s remove_at j u)
  one-word j acts u before = by_place (nat_lt (i / 64) j) refl (i / 64 == j) refl
    where
      by_place : (b : Bool) → nat_lt (i / 64) j ≡ b → (c : Bool) → (i / 64 == j) ≡ c
          → Always (λ zs v. Left (j + 1) (acts ++ zs) v) (over_touched s remove_at j u)
      by_place true earlier c at =
          always_weaker (λ _ _. Unit {0}) (λ zs v. Left (j + 1) (acts ++ zs) v) (over_touched s remove_at j u)
          (λ zs _ _ _. settled_end-left s i acts zs (before (ltb-true (i / 64) j earlier)))
          (always_any (over_touched s remove_at j u))
      by_place false earlier true at =
          always_weaker (λ zs _. SettledEnd s i zs) (λ zs v. Left (j + 1) (acts ++ zs) v) (over_touched s remove_at j u)
          (λ zs _ here _. settled_end-right s i acts zs here)
          (subst (λ (k : ℕ). Always (λ zs _. SettledEnd s i zs) (over_touched s remove_at k u)) (eqb-true (i / 64) j at)
          (word-settles u))
      by_place false earlier false at =
          always_weaker (λ _ _. Unit {0}) (λ zs v. Left (j + 1) (acts ++ zs) v) (over_touched s remove_at j u)
          (λ zs _ _ low. absurd (omega (arith, low, ltb-false (i / 64) j earlier, eqb-false (i / 64) j at)))
          (always_any (over_touched s remove_at j u))

  pub listed_end-settles : (mark : ℕ) (sweeps : List Act) → Completes (remove_below s mark true) sweeps tt
      → i / 64 < words_below mark → SettledEnd s i sweeps
  listed_end-settles mark sweeps run below =
      always_run (Left (words_below mark)) (remove_below s mark true) sweeps tt
      (always_sweep Left (words_below mark) 0 (over_touched s remove_at) tt (omega arith)
      (λ none. absurd (omega (arith, none))) (λ j acts u _ _ before. one-word j acts u before)) run
      below
