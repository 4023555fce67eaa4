-- Calls that leave a selector's list: they take no bit, and look at no index as a selection with the list does.
use Rattle.std.proofs.Common.{◌≡◌, ℕ, ◌/◌, ◌%◌, ◌==◌, Bool, true, false, ◌&&◌, ◌||◌, if◌then◌else◌, Option, Some, None}
use Rattle.std.proofs.Common.{Result, Ok, Err, List, [], ◌∷◌, ◌++◌, refl, ap, sym, ◌∙◌, eqb-true}
use Rattle.std.specs.Prelude.{⊤, is_some}
use Rattle.std.specs.Int.{bit_at}
use Rattle.std.proofs.lemmas.Bool.{or_from, false_from_ne_true}
use Rattle.nio_base.specs.declared.numbers.SelNo.{SelNo}
use Rattle.nio_history.specs.OwnEvents.{has}
use Rattle.nio_history.specs.Questions.{Question, question_of, answer_of}
use Rattle.nio_history.specs.declared.act.Act.{Act}
use Rattle.nio_history.specs.declared.act.Act.TheVariants.{TakeTouched, LookIndex}
use Rattle.nio_history.specs.declared.found.Mode.{Mode}
use Rattle.nio_steps.proofs.CallWalks.{each_call, close_channel-walks, finish-walks, register-walks, new-walks}
use Rattle.nio_steps.proofs.PlanWalks.{Walk, is_plain, walks_run, pinned_calm}
use Rattle.nio_steps.proofs.SelectionLaws.{none_of-append}
use Rattle.nio_steps.proofs.Walks.{Always, always_if, always_bind, always_any, always_run}
use Rattle.nio_steps.specs.ListLaws.{lists_index, RefusalsLeaveList, OtherCallsLeaveList, WaitingCallsLeaveList}
use Rattle.nio_steps.specs.Looking.{look_at_keys}
use Rattle.nio_steps.specs.Plan.{reply}
use Rattle.nio_steps.specs.SelectCalls.{Selection, try_begin_plan, begin_open, begin_with_turn, given_back}
use Rattle.nio_steps.specs.SelectCalls.{begin_lacks_memory, Poll}
use Rattle.nio_steps.proofs.WaitingWalks.{begins_selection, waiting-holds}
use Rattle.nio_steps.specs.Steps.{gate_in, number_in, holder_in}
use Rattle.nio_steps.specs.TableCalls.{TableCall, WaitCall, row_of, try_begin, select}
use Rattle.nio_steps.specs.declared.looked.LookedKey.{LookedKey}
use Rattle.nio_steps.specs.declared.refusal.BeginError.{BeginError}

-- ---- questions and acts

-- the step would take the bits of a word, or look at an index as a selection with the list does
abbrev pub lists : Question → Bool
lists (Question.take_touched s j) = true
lists (Question.look_index s i) = true
lists _ = false

pub lists-not : (s i : ℕ) (act : Act) → lists (question_of act) ≡ false → lists_index s i act ≡ false
lists-not s i (TakeTouched s' j found) is = absurd (cc is)
lists-not s i (LookIndex s' i' found) is = absurd (cc is)
lists-not s i _ is = refl

-- an act that lists no index, and then such acts
pub unlisted-cons : (s i : ℕ) (act : Act) (acts : List Act) (question : Question) → question_of act ≡ question
    → lists question ≡ false → has (lists_index s i) acts ≡ false → has (lists_index s i) (act ∷ acts) ≡ false
unlisted-cons s i act acts question asks is none =
    or_from (lists_index s i act) (has (lists_index s i) acts) (lists-not s i act (ap lists asks ∙ is)) none

-- ---- a beginning that is refused

module _ (s : SelNo) (mode : Mode) (known : Option (List LookedKey)) where
  -- a refusal left the list
  abbrev IsLeft : List Act → Result Selection BeginError → Type 0
  IsLeft acts (Ok selection) = ⊤
  IsLeft acts (Err refusal) = (t i : ℕ) → has (lists_index t i) acts ≡ false

  given_back-left : (before : List Act) (refusal : BeginError) → ((t i : ℕ) → has (lists_index t i) before ≡ false)
      → Always (λ acts answer. IsLeft (before ++ acts) answer) (given_back s (Err refusal))
  given_back-left before refusal none = λ give asks t i.
      none_of-append (lists_index t i) before (give ∷ []) (none t i) (unlisted-cons t i give [] _ asks refl refl)

  begin-left : (lacks : Bool) → Always IsLeft (try_begin_plan s mode known lacks)
  unfolding try_begin_plan
  begin-left lacks =
      λ gate asks. let gate_left : (t i : ℕ) → has (lists_index t i) (gate ∷ []) ≡ false
      = λ t i. unlisted-cons t i gate [] _ asks refl refl in
      always_if (λ acts answer. IsLeft (gate ∷ acts) answer) (gate_in (answer_of gate)).shut
      (reply (Err BeginError.ClosedSelector)) (begin_open s mode known lacks) (λ _. gate_left)
      (λ _ take asks'. let take_left : (t i : ℕ) → has (lists_index t i) (gate ∷ take ∷ []) ≡ false
      = λ t i. unlisted-cons t i gate (take ∷ []) _ asks refl (unlisted-cons t i take [] _ asks' refl refl) in
      always_if (λ acts answer. IsLeft (gate ∷ take ∷ acts) answer) (is_some (holder_in (answer_of take)))
      (reply (Err BeginError.Busy)) (begin_with_turn s mode known lacks) (λ _. take_left)
      (λ _ look asks''. let look_left : (t i : ℕ) → has (lists_index t i) (gate ∷ take ∷ look ∷ []) ≡ false
      = λ t i. none_of-append (lists_index t i) (gate ∷ take ∷ []) (look ∷ []) (take_left t i)
      (unlisted-cons t i look [] _ asks'' refl refl) in
      always_if (λ acts answer. IsLeft (gate ∷ take ∷ look ∷ acts) answer) (gate_in (answer_of look)).shut
      (given_back s (Err BeginError.ClosedSelector)) _
      (λ _. given_back-left (gate ∷ take ∷ look ∷ []) BeginError.ClosedSelector look_left)
      (λ _ keys asks'''. let keys_left : (t i : ℕ) → has (lists_index t i) (gate ∷ take ∷ look ∷ keys ∷ []) ≡ false
      = λ t i. none_of-append (lists_index t i) (gate ∷ take ∷ look ∷ []) (keys ∷ []) (look_left t i)
      (unlisted-cons t i keys [] _ asks''' refl refl) in
      always_if (λ acts answer. IsLeft (gate ∷ take ∷ look ∷ keys ∷ acts) answer) lacks
      (given_back s (Err BeginError.Memory)) _
      (λ _. given_back-left (gate ∷ take ∷ look ∷ keys ∷ []) BeginError.Memory keys_left)
      (λ _. always_bind (λ _ _. ⊤) (λ acts answer. IsLeft (gate ∷ take ∷ look ∷ keys ∷ acts) answer)
      (look_at_keys s (number_in (answer_of keys)) known) _
      (always_any (look_at_keys s (number_in (answer_of keys)) known)) (λ _ _ _. tt)))))

pub refusals_leave_list : RefusalsLeaveList
refusals_leave_list s mode known acts refusal run i =
    always_run (IsLeft s mode known) (try_begin_plan s mode known (begin_lacks_memory {A = Selection} (Err refusal))) acts
    (Err refusal) (begin-left s mode known (begin_lacks_memory {A = Selection} (Err refusal))) run s.0 i

-- ---- the other calls

-- the step would take bits of the selector, or look at an index there as a selection with the list does
abbrev lists_at : ℕ → Question → Bool
lists_at s (Question.take_touched t j) = t.0 == s
lists_at s (Question.look_index t i) = t.0 == s
lists_at s _ = false

lists_at-not : (s i : ℕ) (act : Act) → lists_at s (question_of act) ≡ false → lists_index s i act ≡ false
lists_at-not s i (TakeTouched t j found) off =
    ap (λ b. (b && (i / 64 == j) && (bit_at found (i % 64) == 1)) || false) off
lists_at-not s i (LookIndex t k found) off =
    ap (λ b. is_some (if b && (k == i) then Some found else None)) off
lists_at-not s i _ off = refl

plain_off : (s : ℕ) (question : Question) → is_plain question ≡ true → lists_at s question ≡ false
plain_off s (Question.take_touched t j) is = absurd (cc is)
plain_off s (Question.look_index t i) is = absurd (cc is)
plain_off s _ is = refl

abbrev IsUnlisted : ℕ → ℕ → List Act → Type 0
IsUnlisted s i acts = has (lists_index s i) acts ≡ false

one_off : (s i : ℕ) (act : Act) → lists_at s (question_of act) ≡ false → IsUnlisted s i (act ∷ [])
one_off s i act off = or_from (lists_index s i act) false (lists_at-not s i act off) refl

abbrev listing_off : ℕ → ℕ → Walk
listing_off s i = record {
  Holds = IsUnlisted s i;
  Calm = λ question. lists_at s question ≡ false;
  none = refl;
  append = none_of-append (lists_index s i);
  one = one_off s i;
  plain = plain_off s;
  pinned = λ t k. pinned_calm (IsUnlisted s i) (none_of-append (lists_index s i)) t k
      (λ act asks. one_off s i act (ap (lists_at s) asks)) (λ act asks. one_off s i act (ap (lists_at s) asks));
}

pub same_selector : (t s : SelNo) → (t.0 == s.0) ≡ true → t ≡ s
same_selector t s same = ap selector (eqb-true t.0 s.0 same)
  where
    selector : ℕ → SelNo
    selector k = record { 0 = k }

pub other_calls_leave_list : OtherCallsLeaveList
other_calls_leave_list l lacks call acts answer s i other run =
    walks_run {w = listing_off s.0 i} ((row_of call).plan l lacks) acts answer
    (each_call l lacks call
    (record {
      registers = λ t c ops att. register-walks l t c ops att
          (new-walks (record {
            claims = λ _ _ _. refl;
            claims_again = λ _ _ _ _. refl;
            unpins = λ _ _. refl;
            publishes = λ _ _. refl;
          }) l t c ops att);
      closes = λ c. close_channel-walks l c (λ _. refl);
      finishes = λ t calm. finish-walks t refl calm;
    })
    (λ t _. record { gives = refl; marks = λ _ _ _. refl; removes = λ _. refl })
    (λ t mode known is. let off : (t.0 == s.0) ≡ false
    = false_from_ne_true (t.0 == s.0)
    (λ same. other mode known (is ∙ ap (λ k. try_begin k mode (Some known)) (same_selector t s same))) in
    record { takes = λ j. off; looks = λ k. off })) run

-- ---- the calls that wait

-- the whole selection that begins so
abbrev selection_by : WaitCall → List Poll → TableCall → WaitCall
selection_by other polls (try_begin s mode known) = select s mode known polls
selection_by other polls _ = other

pub waiting_calls_leave_list : WaitingCallsLeaveList
waiting_calls_leave_list l call acts answer s i other run =
    waiting-holds (listing_off s.0 i) l
    (λ call' unbegun acts' answer'. other_calls_leave_list l false call' acts' answer' s i
    (λ mode known is. absurd (cc (sym unbegun ∙ ap begins_selection is))))
    call
    (λ t mode known polls is acts' answer'. other_calls_leave_list l (begin_lacks_memory answer') (try_begin t mode known)
    acts' answer' s i (λ mode' known' same. other mode' known' polls (is ∙ ap (selection_by call polls) same)))
    acts answer run
