-- A beginning with the selector's list takes the list on: what it is after each act.
use Rattle.std.proofs.Common.{◌≡◌, ℕ, zero, suc, ◌+◌, ◌*◌, ◌/◌, ◌%◌, ◌<◌, ◌==◌, Bool, true, false, ◌&&◌, ◌||◌}
use Rattle.std.proofs.Common.{if◌then◌else◌, Some, None, is_some, List, [], ◌∷◌, ◌++◌, append_assoc, refl}
use Rattle.std.proofs.Common.{ap, sym, ◌∙◌, subst, eqb-true, eq-eqb, arith}
use Rattle.std.specs.List.{All, AllPairs, Contains, list_any}
use Rattle.std.proofs.Math.Bool.{and-false}
use Rattle.std.proofs.lemmas.Bool.{eqb-false, and_parts, or_from, or_left, or_right, false_from_ne_true}
use Rattle.std.proofs.lemmas.List.{append-nil}
use Rattle.std.proofs.lemmas.List.Elements.{All-nil, All-push, All-head, All-tail, All-weaker, Contains-append_left}
use Rattle.std.proofs.lemmas.List.Elements.{Contains-append_right}
use Rattle.std.proofs.lemmas.List.Folds.{list_any-append}
use Rattle.nio_base.specs.declared.numbers.SelNo.{SelNo}
use Rattle.nio_history.proofs.Soundness.{both_ways}
use Rattle.nio_history.specs.Lists.{takes_bit}
use Rattle.nio_history.specs.OwnEvents.{has}
use Rattle.nio_history.specs.Questions.{Question, question_of, answer_of}
use Rattle.nio_history.specs.declared.act.Act.{Act}
use Rattle.nio_history.specs.declared.act.Act.TheVariants.{LookIndex, LookKeys, TakeTouched}
use Rattle.nio_history.specs.declared.found.IndexWord.{IndexWord}
use Rattle.nio_steps.proofs.KnownAt.{IsKnownAt, known-stays, known-anew, found_below-more, lists_stay}
use Rattle.nio_steps.proofs.ListTurns.{AreUnlisted, ListsIndex, always_lists}
use Rattle.nio_steps.proofs.Relisted.{Rise, strictly, relisted, relisted_there, relisted_elsewhere, relisted_rises}
use Rattle.nio_steps.proofs.Relisted.{relisted_all}
use Rattle.nio_steps.proofs.Unlisted.{unlisted-cons}
use Rattle.nio_steps.proofs.Lists.{contains-middle}
use Rattle.nio_steps.proofs.BeginLaws.{begin-parts}
use Rattle.nio_steps.proofs.Walks.{Always, always_if, always_bind, always_weaker, always_sweep, always_run}
use Rattle.nio_steps.specs.ChannelCalls.{words_below}
use Rattle.nio_steps.specs.KeyCalls.{has_bit}
use Rattle.nio_steps.specs.ListLaws.{lists_index, BeginningsList}
use Rattle.nio_steps.specs.Lists.{listed_at, IsFoundBelow, IsListOf}
use Rattle.nio_steps.specs.Looking.{shown, list_over, list_taken, list_word}
use Rattle.nio_steps.specs.Plan.{reply}
use Rattle.nio_steps.specs.Steps.{word_in, number_in}
use Rattle.nio_steps.specs.Sweeps.{sweep_to, sweep_over}
use Rattle.nio_steps.specs.declared.looked.LookedKey.{LookedKey}

-- ---- the list while a selection takes it on

-- one of these indexes is k
abbrev pub has_index : ℕ → List ℕ → Bool
has_index k indexes = list_any (λ i. i == k) indexes

-- By these acts of its own this is the caller's list, but for these indexes: it took their bits, and hasn't looked there
-- since.
pub record IsListBut (owing : List ℕ) (own : List Act) (s : SelNo) (known : List LookedKey) : Type 0 where
  pub rise : AllPairs Rise known
  pub at : (k : ℕ) → has_index k owing ≡ false → IsKnownAt own s k (listed_at known k)
  pub below : All (λ e. IsFoundBelow own s e.index) known

pub whole_list : (own : List Act) (s : SelNo) (known : List LookedKey) → IsListBut [] own s known → IsListOf own s known
whole_list own s known list = record {
  rise = list.rise;
  entries = λ i. (list.at i refl).entry_is;
  whole = λ i. (list.at i refl).whole;
  below = list.below;
}

known_of : (own : List Act) (s : SelNo) (known : List LookedKey) → IsListOf own s known → (k : ℕ)
    → IsKnownAt own s k (listed_at known k)
known_of own s known list k = record { entry_is = list.entries k; whole = list.whole k }

-- ---- one index

-- a look at index i tells nothing of another
elsewhere : (s : SelNo) (i k : ℕ) (found : IndexWord) (rest : List Act) → (i == k) ≡ false → AreUnlisted s rest
    → has (lists_index s.0 k) (LookIndex s i found ∷ rest) ≡ false
elsewhere s i k found rest other unlisted =
    let not_there : ((s.0 == s.0) && (i == k)) ≡ false
    = ap (λ b. (s.0 == s.0) && b) other ∙ and-false (s.0 == s.0) in
    or_from (is_some (if (s.0 == s.0) && (i == k) then Some found else None)) (has (lists_index s.0 k) rest)
    (ap (λ b. is_some (if b then Some found else None)) not_there) (unlisted k)

-- after the turn of an index the list is right there too
pub list_at : (s : SelNo) (i : ℕ) (later : List ℕ) (own acts : List Act) (known answer : List LookedKey)
    → IsFoundBelow own s i → IsListBut (i ∷ later) own s known → ListsIndex s i known acts answer
    → IsListBut later (own ++ acts) s answer
list_at s i later own acts known answer below list turn =
    subst (λ xs. IsListBut later (own ++ xs) s answer) (sym turn.parts)
    (subst (IsListBut later all s) (sym turn.answer_is)
    (record {
      rise = relisted_rises i turn.now known turn.at list.rise;
      at = λ k free. by_place k free (i == k) refl;
      below = relisted_all (λ e. IsFoundBelow all s e.index) i turn.now known
          (λ e is. subst (IsFoundBelow all s) (sym (turn.at e is)) (found_below-more own those s i below))
          (All-weaker (λ e. IsFoundBelow own s e.index) (λ e. IsFoundBelow all s e.index)
          (λ e. found_below-more own those s e.index) known list.below);
    }))
  where
    those : List Act
    those = LookIndex s i turn.found ∷ turn.rest

    all : List Act
    all = own ++ those

    by_place : (k : ℕ) → has_index k later ≡ false → (b : Bool) → (i == k) ≡ b
        → IsKnownAt all s k (listed_at (relisted i turn.now known) k)
    by_place k free true same =
        subst (λ (m : ℕ). IsKnownAt all s m (listed_at (relisted i turn.now known) m)) (eqb-true i k same)
        (subst (IsKnownAt all s i) (sym (relisted_there i turn.now known turn.at ∙ turn.entry_is))
        (known-anew own turn.rest s i turn.found (turn.unlisted i) turn.done))
    by_place k free false other =
        subst (IsKnownAt all s k) (sym (relisted_elsewhere i k turn.now known turn.at other))
        (known-stays own those s k (listed_at known k) (elsewhere s i k turn.found turn.rest other turn.unlisted)
        (list.at k (or_from (i == k) (has_index k later) other free)))

-- after the turns of all these indexes nothing is owed
pub list_over-all : (s : SelNo) (owing : List ℕ) (own : List Act) (known : List LookedKey)
    → All (IsFoundBelow own s) owing → IsListBut owing own s known
    → Always (λ acts answer. IsListBut [] (own ++ acts) s answer) (sweep_over owing (list_over s) known)
unfolding sweep_over
list_over-all s [] own known below list =
    subst (λ xs. IsListBut [] xs s known) (sym (append-nil own)) list
list_over-all s (i ∷ later) own known below list =
    always_bind (λ xs y. IsListBut later (own ++ xs) s y) (λ xs y. IsListBut [] (own ++ xs) s y) (list_over s i known)
    (λ y. sweep_over later (list_over s) y)
    (always_weaker (ListsIndex s i known) (λ xs y. IsListBut later (own ++ xs) s y) (list_over s i known)
    (λ xs y turn. list_at s i later own xs known y (All-head (IsFoundBelow own s) i later below) list turn)
    (always_lists s i known))
    (λ xs y left. always_weaker (λ ys z. IsListBut [] ((own ++ xs) ++ ys) s z)
    (λ ys z. IsListBut [] (own ++ (xs ++ ys)) s z) (sweep_over later (list_over s) y)
    (λ ys z whole. subst (λ acts. IsListBut [] acts s z) (append_assoc own xs ys) whole)
    (list_over-all s later (own ++ xs) y
    (All-weaker (IsFoundBelow own s) (IsFoundBelow (own ++ xs) s) (found_below-more own xs s) later
    (All-tail (IsFoundBelow own s) i later below)) left))

-- ---- the indexes of a word

pub shown_there : (word j b n : ℕ) → b < n → has_bit word b ≡ true → has_index (64 * j + b) (shown word j n) ≡ true
unfolding shown
shown_there word j b zero low is = absurd (omega (arith, low))
shown_there word j b (suc n) low is =
    by_place (b == n) refl (has_bit word n) refl (λ low'. shown_there word j b n low' is)
  where
    k : ℕ
    k = 64 * j + b

    before : (b == n) ≡ false → b < n
    before other = strictly b n (omega (arith, low)) (λ same. eqb-false b n other (sym same))

    by_place : (here : Bool) → (b == n) ≡ here → (c : Bool) → has_bit word n ≡ c
        → (b < n → has_index k (shown word j n) ≡ true)
        → has_index k (if c then shown word j n ++ (64 * j + n) ∷ [] else shown word j n) ≡ true
    by_place true here true bit further =
        let same : 64 * j + n ≡ k = ap (λ (m : ℕ). 64 * j + m) (sym (eqb-true b n here)) in
        list_any-append (λ i. i == k) (shown word j n) ((64 * j + n) ∷ [])
        ∙ or_right _ _ (or_left _ _ (eq-eqb (64 * j + n) k same))
    by_place true here false bit further =
        absurd (both_ways (has_bit word n) (subst (λ (m : ℕ). has_bit word m ≡ true) (eqb-true b n here) is) bit)
    by_place false other true bit further =
        list_any-append (λ i. i == k) (shown word j n) ((64 * j + n) ∷ []) ∙ or_left _ _ (further (before other))
    by_place false other false bit further = further (before other)

shown_below : (word j n : ℕ) → All (λ i. i < 64 * j + n) (shown word j n)
unfolding shown
shown_below word j zero = All-nil (λ i. i < 64 * j + 0)
shown_below word j (suc n) =
    by_bit (has_bit word n)
    (All-weaker (λ i. i < 64 * j + n) (λ i. i < 64 * j + suc n) (λ i low. omega (arith, low)) (shown word j n)
    (shown_below word j n))
  where
    by_bit : (b : Bool) → All (λ i. i < 64 * j + suc n) (shown word j n)
        → All (λ i. i < 64 * j + suc n) (if b then shown word j n ++ (64 * j + n) ∷ [] else shown word j n)
    by_bit true each = All-push (λ i. i < 64 * j + suc n) (shown word j n) (64 * j + n) each (omega arith)
    by_bit false each = each

-- ---- one word

pub take-act : (s : SelNo) (j : ℕ) (act : Act) → question_of act ≡ Question.take_touched s j
    → act ≡ TakeTouched s j (word_in (answer_of act))
take-act s j (TakeTouched s' j' found) asks = cc asks
take-act s j _ asks = absurd (cc asks)

-- an index that the word doesn't show isn't taken
spares_others : (s : SelNo) (j word k : ℕ) → has_index k (shown word j 64) ≡ false
    → takes_bit s.0 k (TakeTouched s j word) ≡ false
spares_others s j word k free = false_from_ne_true (takes_bit s.0 k (TakeTouched s j word)) taken
  where
    taken : takes_bit s.0 k (TakeTouched s j word) ≡ true → ⊥
    taken is =
        let both = and_parts ((s.0 == s.0) && (k / 64 == j)) (has_bit word (k % 64)) is in
        let there : k / 64 ≡ j = eqb-true (k / 64) j (and_parts (s.0 == s.0) (k / 64 == j) both.0).1 in
        let same : 64 * j + k % 64 ≡ k = omega arith in
        both_ways (has_index k (shown word j 64))
        (subst (λ (m : ℕ). has_index m (shown word j 64) ≡ true) same
        (shown_there word j (k % 64) 64 (omega arith) both.1))
        free

-- after the bits of a word were taken the list is right but for the indexes that it shows
pub list_but_shown : (s : SelNo) (j : ℕ) (own : List Act) (known : List LookedKey) (act : Act)
    → question_of act ≡ Question.take_touched s j → IsListOf own s known
    → IsListBut (shown (word_in (answer_of act)) j 64) (own ++ act ∷ []) s known
list_but_shown s j own known act asks list =
    let word : ℕ = word_in (answer_of act) in
    let take : Act = TakeTouched s j word in
    subst (λ a. IsListBut (shown word j 64) (own ++ a ∷ []) s known) (sym (take-act s j act asks))
    (record {
      rise = list.rise;
      at = λ k free. known-stays own (take ∷ []) s k (listed_at known k)
          (or_from (takes_bit s.0 k take || false) false
          (or_from (takes_bit s.0 k take) false (spares_others s j word k free) refl) refl)
          (known_of own s known list k);
      below = All-weaker (λ e. IsFoundBelow own s e.index) (λ e. IsFoundBelow (own ++ take ∷ []) s e.index)
          (λ e. found_below-more own (take ∷ []) s e.index) known list.below;
    })

-- the turn of a word keeps the list right
pub list_word-all : (s : SelNo) (j mark : ℕ) (own : List Act) (known : List LookedKey)
    → Contains own (LookKeys s mark) → j < words_below mark → IsListOf own s known
    → Always (λ acts answer. IsListOf (own ++ acts) s answer) (list_word s j known)
list_word-all s j mark own known there low list = λ look asks.
    let after : List Act = own ++ look ∷ [] in
    let list_after : IsListOf after s known = lists_stay s known own (look ∷ []) list (λ k. unlisted-cons s.0 k look [] _ asks refl refl) in
    always_if (λ acts answer. IsListOf (own ++ look ∷ acts) s answer) (word_in (answer_of look) == 0) (reply known)
    (list_taken s j known) (λ _. list_after)
    (λ _ take asks'. let word : ℕ = word_in (answer_of take) in
    always_weaker (λ acts answer. IsListBut [] ((after ++ take ∷ []) ++ acts) s answer)
    (λ acts answer. IsListOf (own ++ look ∷ take ∷ acts) s answer) (sweep_over (shown word j 64) (list_over s) known)
    (λ acts answer whole. subst (λ xs. IsListOf xs s answer)
    (append_assoc after (take ∷ []) acts ∙ append_assoc own (look ∷ []) (take ∷ acts))
    (whole_list ((after ++ take ∷ []) ++ acts) s answer whole))
    (list_over-all s (shown word j 64) (after ++ take ∷ []) known
    (All-weaker (λ i. i < 64 * j + 64) (IsFoundBelow (after ++ take ∷ []) s)
    (λ i within. record {
      mark = mark;
      found = Contains-append_left after (take ∷ []) (LookKeys s mark)
          (Contains-append_left own (look ∷ []) (LookKeys s mark) there);
      below = omega (arith, within, low);
    }) (shown word j 64) (shown_below word j 64))
    (list_but_shown s j after known take asks' list_after)))

-- ---- all words

pub list_words-all : (s : SelNo) (mark : ℕ) (own : List Act) (known : List LookedKey) → Contains own (LookKeys s mark)
    → IsListOf own s known
    → Always (λ acts answer. IsListOf (own ++ acts) s answer) (sweep_to (words_below mark) 0 (list_word s) known)
list_words-all s mark own known there list =
    always_sweep (λ _ acts answer. IsListOf (own ++ acts) s answer) (words_below mark) 0 (list_word s) known
    (omega arith) (subst (λ xs. IsListOf xs s known) (sym (append-nil own)) list)
    (λ j acts known' _ low list'. always_weaker (λ xs answer. IsListOf ((own ++ acts) ++ xs) s answer)
    (λ xs answer. IsListOf (own ++ (acts ++ xs)) s answer) (list_word s j known')
    (λ xs answer list''. subst (λ ys. IsListOf ys s answer) (append_assoc own acts xs) list'')
    (list_word-all s j mark (own ++ acts) known' (Contains-append_left own acts (LookKeys s mark) there) low list'))

-- ---- the call

pub keys-look : (s : SelNo) (act : Act) → question_of act ≡ Question.look_keys s
    → act ≡ LookKeys s (number_in (answer_of act))
keys-look s (LookKeys s' found) asks = cc asks
keys-look s _ asks = absurd (cc asks)

pub beginnings_list : BeginningsList
beginnings_list s mode known own acts selection list run =
    let begun = begin-parts s mode (Some known) acts selection run in
    let head : List Act = begun.gate ∷ begun.take ∷ begun.look ∷ begun.keys ∷ [] in
    let keys_is : begun.keys ≡ LookKeys s selection.bound
    = keys-look s begun.keys begun.asks_keys ∙ ap (LookKeys s) (sym begun.bound) in
    subst (λ xs. IsListOf (own ++ xs) s selection.looked) (sym begun.parts)
    (subst (λ xs. IsListOf xs s selection.looked) (append_assoc own head begun.over)
    (always_run (λ xs answer. IsListOf ((own ++ head) ++ xs) s answer)
    (sweep_to (words_below selection.bound) 0 (list_word s) known) begun.over selection.looked
    (list_words-all s selection.bound (own ++ head) known
    (Contains-append_right own head (LookKeys s selection.bound)
    (subst (λ act. Contains (begun.gate ∷ begun.take ∷ begun.look ∷ act ∷ []) (LookKeys s selection.bound))
    (sym keys_is) (contains-middle (begun.gate ∷ begun.take ∷ begun.look ∷ []) (LookKeys s selection.bound) [])))
    (lists_stay s known own head list
    (λ k. unlisted-cons s.0 k begun.gate (begun.take ∷ begun.look ∷ begun.keys ∷ []) _ begun.asks_gate refl
    (unlisted-cons s.0 k begun.take (begun.look ∷ begun.keys ∷ []) _ begun.asks_take refl
    (unlisted-cons s.0 k begun.look (begun.keys ∷ []) _ begun.asks_look refl
    (unlisted-cons s.0 k begun.keys [] _ begun.asks_keys refl refl)))))) begun.runs_over))
