-- Which questions of a selection take the bit of an index, or look there.
use Rattle.std.proofs.Common.{◌≡◌, ℕ, ◌/◌, ◌%◌, ◌==◌, Bool, false, ◌&&◌, if◌then◌else◌, Some, None, is_some, List}
use Rattle.std.proofs.Common.{refl, ap}
use Rattle.std.specs.List.{All}
use Rattle.std.specs.Int.{bit_at}
use Rattle.std.proofs.lemmas.Bool.{or_from}
use Rattle.std.proofs.lemmas.List.Elements.{All-weaker}
use Rattle.std.proofs.lemmas.List.Folds.{list_any_none}
use Rattle.nio_history.specs.OwnEvents.{has}
use Rattle.nio_history.specs.Questions.{Question, question_of}
use Rattle.nio_history.specs.declared.act.Act.{Act}
use Rattle.nio_history.specs.declared.act.Act.TheVariants.{TakeTouched, LookIndex}
use Rattle.nio_steps.specs.ListLaws.{lists_index}

-- a question for the bits of the word of an index, or for a look at the index as a selection with the list makes it
abbrev pub asks_list : ℕ → ℕ → Question → Bool
asks_list s i (Question.take_touched s' j) = (s'.0 == s) && (i / 64 == j)
asks_list s i (Question.look_index s' i') = (s'.0 == s) && (i' == i)
asks_list s i _ = false

abbrev pub NoList : ℕ → ℕ → Question → Type 0
NoList s i q = asks_list s i q ≡ false

pub not-lists : (s i : ℕ) (act : Act) → asks_list s i (question_of act) ≡ false → lists_index s i act ≡ false
not-lists s i (TakeTouched s' j found) e = or_from _ _ (ap (λ b. b && (bit_at found (i % 64) == 1)) e) refl
not-lists s i (LookIndex s' i' found) e = or_from _ _ refl (ap (λ b. is_some (if b then Some found else None)) e)
not-lists s i _ e = refl

pub no_lists : (s i : ℕ) (acts : List Act) → All (λ act. NoList s i (question_of act)) acts
    → has (lists_index s i) acts ≡ false
no_lists s i acts each =
    list_any_none (lists_index s i) acts
    (All-weaker (λ act. NoList s i (question_of act)) (λ act. lists_index s i act ≡ false)
    (not-lists s i) acts each)
