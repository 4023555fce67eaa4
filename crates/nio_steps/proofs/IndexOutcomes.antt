-- What a beginning selection with the selector's list finds of an index, and has of it on its list.
use Rattle.std.proofs.Common.{◌≡◌, ℕ, ◌+◌, ◌/◌, ◌%◌, ◌<◌, ◌≤◌, ◌==◌, nat_lt, Bool, true, false, ◌&&◌, List, [], ◌∷◌, ◌++◌}
use Rattle.std.proofs.Common.{Some, refl, ap, sym, ◌∙◌, subst, append_assoc, eqb-true, eq-eqb, arith}
use Rattle.std.specs.Prelude.{⊤}
use Rattle.std.specs.List.{All, Contains}
use Rattle.std.proofs.Math.Bool.{and-false}
use Rattle.std.proofs.lemmas.Bool.{or_from, eqb-false, false_from_ne_true}
use Rattle.std.proofs.lemmas.List.Elements.{All-weaker, All-contains, All-contains_itself, Contains-append_left}
use Rattle.std.proofs.lemmas.List.Elements.{Contains-append_right}
use Rattle.std.proofs.lemmas.List.Folds.{list_any_none}
use Rattle.std.proofs.lemmas.Nat.Bits.{bit_at-zero}
use Rattle.nio_base.specs.Numbers.{last_serial}
use Rattle.nio_base.specs.declared.numbers.SelNo.{SelNo}
use Rattle.nio_history.specs.OwnEvents.{has}
use Rattle.nio_history.specs.Pins.{removes}
use Rattle.nio_history.specs.Questions.{Question, question_of, answer_of}
use Rattle.nio_history.specs.Sets.{in_cancelled_set, is_valid}
use Rattle.nio_history.specs.declared.act.Act.{Act}
use Rattle.nio_history.specs.declared.act.Act.TheVariants.{LookInterest, LookTouched, TakeTouched, LookIndex, Remove}
use Rattle.nio_history.specs.declared.found.IndexWord.{IndexWord}
use Rattle.nio_history.specs.declared.found.Stage.{Stage}
use Rattle.nio_steps.proofs.Each.{Each}
use Rattle.nio_steps.proofs.EachLaws.{each_bind, each_if, each_run, each_when}
use Rattle.nio_steps.proofs.EndListed.{touched-look}
use Rattle.nio_steps.proofs.Enlisted.{without-none, without-kept}
use Rattle.nio_steps.proofs.ListAsks.{NoList, asks_list, not-lists, no_lists}
use Rattle.nio_steps.proofs.ListTurns.{index-look}
use Rattle.nio_steps.proofs.ListedBy.{take-act}
use Rattle.nio_steps.proofs.Listing.{removal}
use Rattle.nio_steps.proofs.Lists.{contains-middle}
use Rattle.nio_steps.proofs.LookedLaws.{interest-look, asks_removal, not-removes_at}
use Rattle.nio_steps.proofs.Relisted.{enlisted_all}
use Rattle.nio_steps.proofs.SelectionAsks.{each_list}
use Rattle.nio_steps.proofs.SelectionLaws.{none_of-append}
use Rattle.nio_steps.proofs.Shown.{IsShown, shown-only, shown-all, over_one, over_others}
use Rattle.nio_steps.proofs.Walks.{Always, always_any, always_bind, always_if, always_itself, always_run, always_sweep}
use Rattle.nio_steps.proofs.Walks.{always_weaker}
use Rattle.nio_steps.specs.ChannelCalls.{words_below}
use Rattle.nio_steps.specs.KeyCalls.{has_bit}
use Rattle.nio_steps.specs.ListLaws.{lists_index}
use Rattle.nio_steps.specs.Looking.{look_at_keys, looked_key, list_over, list_on, list_valid, list_word}
use Rattle.nio_steps.specs.Looking.{list_taken, without_index, remove_cancelled, shown}
use Rattle.nio_steps.specs.Plan.{reply, ◌>>◌, when}
use Rattle.nio_steps.specs.Runs.{Completes}
use Rattle.nio_steps.specs.Steps.{touch, put_free, stage_in, index_in, operations_in, word_in}
use Rattle.nio_steps.specs.Sweeps.{sweep_over}
use Rattle.nio_steps.specs.declared.looked.LookedKey.{LookedKey}

-- ---- what was found of an index

-- the key was found valid, with its interest set, and wasn't removed by these acts since
pub record FoundListed (s : SelNo) (acts : List Act) (key : LookedKey) : Type 0 where
  pub before : List Act
  pub word : IndexWord
  pub later : List Act
  pub parts : acts ≡ before ++ LookIndex s key.index word ∷ later
  pub valid : is_valid word.stage ≡ true
  pub serial : word.stage.serial ≡ key.serial
  pub channel : word.stage.chan ≡ key.channel
  pub interest : Contains later (LookInterest s key.index key.interest)
  pub spared : has (removes s.0 key.index) later ≡ false

-- a word showed that the index isn't touched
pub data IsClear (s : SelNo) (i : ℕ) (acts : List Act) : Type 0 where
  by_look : (word : ℕ) → Contains acts (LookTouched s (i / 64) word) → has_bit word (i % 64) ≡ false → IsClear s i acts
  by_taking : (word : ℕ) → Contains acts (TakeTouched s (i / 64) word) → has_bit word (i % 64) ≡ false
      → IsClear s i acts

-- what the list has of the index
abbrev pub AllOf : ℕ → (LookedKey → Type 0) → List LookedKey → Type 0
AllOf i P list = All (λ e. e.index ≡ i → P e) list

-- the acts neither look at the index nor remove its key, and the list has of it no more than was known
pub record IsLeft (s : SelNo) (i : ℕ) (known : List LookedKey) (acts : List Act) (list : List LookedKey) : Type 0 where
  pub lists : has (lists_index s.0 i) acts ≡ false
  pub spares : has (removes s.0 i) acts ≡ false
  pub kept : AllOf i (Contains known) list

pub data Outcome (s : SelNo) (i : ℕ) (known : List LookedKey) (acts : List Act) (list : List LookedKey) : Type 0 where
  is_clear : IsClear s i acts → IsLeft s i known acts list → Outcome s i known acts list
  is_removed : (found : Stage) → Contains acts (Remove s i found) → AllOf i (λ _. ⊥) list → Outcome s i known acts list
  is_found : (key : LookedKey) → key.index ≡ i → FoundListed s acts key → AllOf i (λ e. e ≡ key) list
      → Outcome s i known acts list
  is_outside : (word : IndexWord) → Contains acts (LookIndex s i word) → in_cancelled_set word.stage ≡ false
      → AllOf i (λ _. ⊥) list → Outcome s i known acts list

-- ---- acts elsewhere

all_of-on : (i : ℕ) (P : LookedKey → Type 0) (list next : List LookedKey) → AllOf i P list
    → AllOf i (Contains list) next → AllOf i P next
all_of-on i P list next each kept =
    All-weaker (λ e. e.index ≡ i → Contains list e) (λ e. e.index ≡ i → P e)
    (λ e there at. All-contains (λ x. x.index ≡ i → P x) list e each (there at) at) next kept

found-on : (s : SelNo) (acts more : List Act) (key : LookedKey) → has (removes s.0 key.index) more ≡ false
    → FoundListed s acts key → FoundListed s (acts ++ more) key
found-on s acts more key spares found = record {
  before = found.before;
  word = found.word;
  later = found.later ++ more;
  parts = ap (λ xs. xs ++ more) found.parts
      ∙ append_assoc found.before (LookIndex s key.index found.word ∷ found.later) more;
  valid = found.valid;
  serial = found.serial;
  channel = found.channel;
  interest = Contains-append_left found.later more (LookInterest s key.index key.interest) found.interest;
  spared = none_of-append (removes s.0 key.index) found.later more found.spared spares;
}

clear-on : (s : SelNo) (i : ℕ) (acts more : List Act) → IsClear s i acts → IsClear s i (acts ++ more)
clear-on s i acts more (by_look word look clear) =
    by_look word (Contains-append_left acts more (LookTouched s (i / 64) word) look) clear
clear-on s i acts more (by_taking word take clear) =
    by_taking word (Contains-append_left acts more (TakeTouched s (i / 64) word) take) clear

module _ (s : SelNo) (i : ℕ) (known : List LookedKey) where
  left-on : (acts more : List Act) (list next : List LookedKey) → IsLeft s i known acts list
      → IsLeft s i list more next → IsLeft s i known (acts ++ more) next
  left-on acts more list next left elsewhere = record {
    lists = none_of-append (lists_index s.0 i) acts more left.lists elsewhere.lists;
    spares = none_of-append (removes s.0 i) acts more left.spares elsewhere.spares;
    kept = all_of-on i (Contains known) list next left.kept elsewhere.kept;
  }

  outcome-on : (acts more : List Act) (list next : List LookedKey) → IsLeft s i list more next
      → Outcome s i known acts list → Outcome s i known (acts ++ more) next
  outcome-on acts more list next elsewhere (is_clear clear left) =
      is_clear (clear-on s i acts more clear) (left-on acts more list next left elsewhere)
  outcome-on acts more list next elsewhere (is_removed found there none) =
      is_removed found (Contains-append_left acts more (Remove s i found) there)
      (all_of-on i (λ _. ⊥) list next none elsewhere.kept)
  outcome-on acts more list next elsewhere (is_found key at found only) =
      is_found key at
      (found-on s acts more key (subst (λ (k : ℕ). has (removes s.0 k) more ≡ false) (sym at) elsewhere.spares) found)
      (all_of-on i (λ e. e ≡ key) list next only elsewhere.kept)
  outcome-on acts more list next elsewhere (is_outside word there outside none) =
      is_outside word (Contains-append_left acts more (LookIndex s i word) there) outside
      (all_of-on i (λ _. ⊥) list next none elsewhere.kept)

left-none : (s : SelNo) (i : ℕ) (list : List LookedKey) → IsLeft s i list [] list
left-none s i list = record {
  lists = refl;
  spares = refl;
  kept = All-weaker (Contains list) (λ e. e.index ≡ i → Contains list e) (λ e there _. there) list
      (All-contains_itself list);
}

-- ---- the turn of the index itself

spares-one : (s i : ℕ) (q : Question) (act : Act) → question_of act ≡ q → asks_removal s i q ≡ false
    → removes s i act ≡ false
spares-one s i q act asks none = not-removes_at s i act (ap (asks_removal s i) asks ∙ none)

lists-one : (s i : ℕ) (q : Question) (act : Act) → question_of act ≡ q → asks_list s i q ≡ false
    → lists_index s i act ≡ false
lists-one s i q act asks none = not-lists s i act (ap (asks_list s i) asks ∙ none)

module _ (s : SelNo) (i : ℕ) (known list : List LookedKey) (acts : List Act) where
  -- the look at the index, and what was done till now since
  abbrev Then : Act → List Act → List Act → List LookedKey → Type 0
  Then look xs ys next = Outcome s i known (acts ++ look ∷ (xs ++ ys)) next

  middle : (look act : Act) (xs ys : List Act) → Contains (acts ++ look ∷ (xs ++ act ∷ ys)) act
  middle look act xs ys =
      Contains-append_right acts (look ∷ (xs ++ act ∷ ys)) act
      (Contains-append_right (look ∷ []) (xs ++ act ∷ ys) act (contains-middle xs act ys))

  turn-removes : (look : Act) (xs : List Act)
      → Always (Then look xs) (remove_cancelled s i (index_in (answer_of look)).stage >> reply (without_index i list))
  turn-removes look xs = λ remove asks.
      let puts = when (nat_lt (index_in (answer_of look)).stage.serial last_serial) (put_free s i) in
      always_bind (λ _ _. Unit {0}) (λ ys next. Then look xs (remove ∷ ys) next) puts (λ _. reply (without_index i list))
      (always_any puts)
      (λ ys _ _. is_removed (stage_in (answer_of remove))
      (subst (Contains (acts ++ look ∷ (xs ++ remove ∷ (ys ++ [])))) (removal s i remove asks)
      (middle look remove xs (ys ++ []))) (without-none i list))

  turn-finds : (look : Act) (xs : List Act) → question_of look ≡ Question.look_index s i
      → has (removes s.0 i) xs ≡ false
      → is_valid (index_in (answer_of look)).stage ≡ true
      → Always (Then look xs) (list_valid s i (index_in (answer_of look)).stage list)
  turn-finds look xs asks spares valid = λ interest asks'.
      let word : IndexWord = index_in (answer_of look) in
      let key : LookedKey = looked_key i word.stage (operations_in (answer_of interest)) in
      is_found key refl
      (record {
        before = acts;
        word = word;
        later = xs ++ interest ∷ [];
        parts = ap (λ act. acts ++ act ∷ (xs ++ interest ∷ [])) (index-look s i look asks);
        valid = valid;
        serial = refl;
        channel = refl;
        interest = subst (Contains (xs ++ interest ∷ [])) (interest-look s i interest asks')
            (contains-middle xs interest []);
        spared = none_of-append (removes s.0 i) xs (interest ∷ []) spares
            (or_from _ _ (spares-one s.0 i _ interest asks' refl) refl);
      })
      (enlisted_all (λ e. e.index ≡ i → e ≡ key) key (without_index i list) (λ _. refl)
      (All-weaker (λ e. e.index ≡ i → ⊥) (λ e. e.index ≡ i → e ≡ key) (λ e none at. absurd (none at))
      (without_index i list) (without-none i list)))

  turn-passes : (look : Act) (xs : List Act) → question_of look ≡ Question.look_index s i
      → in_cancelled_set (index_in (answer_of look)).stage ≡ false
      → Always (Then look xs) (reply (without_index i list))
  turn-passes look xs asks outside =
      is_outside (index_in (answer_of look))
      (subst (Contains (acts ++ look ∷ (xs ++ []))) (index-look s i look asks)
      (contains-middle acts look (xs ++ []))) outside (without-none i list)

  turn-on : (look : Act) (xs : List Act) → question_of look ≡ Question.look_index s i
      → has (removes s.0 i) xs ≡ false
      → Always (Then look xs) (list_on s i list (index_in (answer_of look)).stage)
  turn-on look xs asks spares =
      let stage = (index_in (answer_of look)).stage in
      always_if (Then look xs) (in_cancelled_set stage)
      (remove_cancelled s i stage >> reply (without_index i list)) _
      (λ _. turn-removes look xs)
      (λ outside. always_if (Then look xs) (is_valid stage) (list_valid s i stage list) (reply (without_index i list))
      (λ valid. turn-finds look xs asks spares valid) (λ _. turn-passes look xs asks outside))

  pub index-turn : Always (λ zs next. Outcome s i known (acts ++ zs) next) (list_over s i list)
  index-turn = λ look asks.
      let word : IndexWord = index_in (answer_of look) in
      always_bind (λ xs _. has (removes s.0 i) xs ≡ false) (λ zs next. Outcome s i known (acts ++ look ∷ zs) next)
      (when word.pinned (touch s i)) (λ _. list_on s i list word.stage)
      (always_if (λ xs _. has (removes s.0 i) xs ≡ false) word.pinned (touch s i >> reply tt) (reply tt)
      (λ _ touches asks'. or_from _ _ (spares-one s.0 i _ touches asks' refl) refl) (λ _. refl))
      (λ xs _ spares. turn-on look xs asks spares)

-- ---- the turn of another index

module _ (s : SelNo) (i k : ℕ) (other : (k == i) ≡ false) (list : List LookedKey) where
  abbrev Quiet : Question → Type 0
  Quiet q = (asks_list s.0 i q ≡ false) × (asks_removal s.0 i q ≡ false)

  not_there : ((s.0 == s.0) && (k == i)) ≡ false
  not_there = ap (λ b. (s.0 == s.0) && b) other ∙ and-false (s.0 == s.0)

  without-other : AllOf i (Contains list) (without_index k list)
  without-other =
      All-weaker (Contains list) (λ e. e.index ≡ i → Contains list e) (λ e there _. there) (without_index k list)
      (without-kept k list)

  other-on : (stage : Stage) → Each (λ _. ⊤) (AllOf i (Contains list)) (list_on s k list stage)
  other-on stage =
      each_if (λ _. ⊤) (AllOf i (Contains list)) (in_cancelled_set stage)
      (remove_cancelled s k stage >> reply (without_index k list)) _
      (λ _. each_bind (λ _. ⊤) (λ _. ⊤) (AllOf i (Contains list)) (remove_cancelled s k stage)
      (λ _. reply (without_index k list))
      (tt, λ _. each_when (λ _. ⊤) (nat_lt stage.serial last_serial) (put_free s k) (tt, λ _. tt))
      (λ _ _. without-other))
      (λ _. each_if (λ _. ⊤) (AllOf i (Contains list)) (is_valid stage) (list_valid s k stage list)
      (reply (without_index k list))
      (λ _. (
        tt,
        λ answer. enlisted_all (λ e. e.index ≡ i → Contains list e) (looked_key k stage (operations_in answer))
            (without_index k list) (λ at. absurd (cc (sym (eq-eqb k i at) ∙ other))) without-other,
      ))
      (λ _. without-other))

  other-over : Each (λ _. ⊤) (AllOf i (Contains list)) (list_over s k list)
  other-over = (
    tt,
    λ answer. each_bind (λ _. ⊤) (λ _. ⊤) (AllOf i (Contains list)) (when (index_in answer).pinned (touch s k)) _
        (each_when (λ _. ⊤) (index_in answer).pinned (touch s k) (tt, λ _. tt))
        (λ _ _. other-on (index_in answer).stage),
  )

  other-asks : Each Quiet (λ _. ⊤) (list_over s k list)
  other-asks =
      each_list Quiet s k
      (record {
        looks = (refl, refl);
        looks_interest = (refl, refl);
        removes = (refl, not_there);
        puts = (refl, refl);
        looks_index = (not_there, refl);
        touches = (refl, refl);
      }) list

  pub index-elsewhere : Always (λ zs next. IsLeft s i list zs next) (list_over s k list)
  index-elsewhere =
      always_weaker (Completes (list_over s k list)) (λ zs next. IsLeft s i list zs next) (list_over s k list)
      (λ zs next run.
      let asked = (each_run Quiet (λ _. ⊤) (list_over s k list) zs next other-asks run).0 in
      record {
        lists = no_lists s.0 i zs
            (All-weaker (λ act. Quiet (question_of act)) (λ act. NoList s.0 i (question_of act)) (λ act q. q.0) zs asked);
        spares = list_any_none (removes s.0 i) zs
            (All-weaker (λ act. Quiet (question_of act)) (λ act. removes s.0 i act ≡ false)
            (λ act q. not-removes_at s.0 i act q.1) zs asked);
        kept = (each_run (λ _. ⊤) (AllOf i (Contains list)) (list_over s k list) zs next other-over run).1;
      })
      (always_itself (list_over s k list))

-- ---- the turn of a word

-- an act that asks nothing of the index
left-one : (s : SelNo) (i : ℕ) (list : List LookedKey) (act : Act) → lists_index s.0 i act ≡ false
    → removes s.0 i act ≡ false → IsLeft s i list (act ∷ []) list
left-one s i list act lists spares = record {
  lists = or_from _ _ lists refl;
  spares = or_from _ _ spares refl;
  kept = (left-none s i list).kept;
}

module _ (s : SelNo) (i : ℕ) where
  -- a look at the bits of a word
  look-left : (j : ℕ) (list : List LookedKey) (look : Act) → question_of look ≡ Question.look_touched s j
      → IsLeft s i list (look ∷ []) list
  look-left j list look asks =
      left-one s i list look (lists-one s.0 i _ look asks refl) (spares-one s.0 i _ look asks refl)

  -- those are taken, and don't show the index
  take-left : (j : ℕ) (list : List LookedKey) (take : Act) → question_of take ≡ Question.take_touched s j
      → ((i / 64 == j) && has_bit (word_in (answer_of take)) (i % 64)) ≡ false
      → IsLeft s i list (take ∷ []) list
  take-left j list take asks clear =
      let word = word_in (answer_of take) in
      left-one s i list take
      (ap (lists_index s.0 i) (take-act s j take asks)
      ∙ or_from _ _ (three (s.0 == s.0) (i / 64 == j) (has_bit word (i % 64)) clear) refl)
      (spares-one s.0 i _ take asks refl)
    where
      three : (a b c : Bool) → (b && c) ≡ false → (a && b && c) ≡ false
      three false b c none = refl
      three true b c none = none

  unlike : (k : ℕ) → (k ≡ i → ⊥) → (k == i) ≡ false
  unlike k differs = false_from_ne_true (k == i) (λ is. differs (eqb-true k i is))

  word-elsewhere : (j : ℕ) → (i / 64 == j) ≡ false → (list : List LookedKey)
      → Always (λ zs next. IsLeft s i list zs next) (list_word s j list)
  word-elsewhere j other list = λ look asks.
      always_if (λ zs next. IsLeft s i list (look ∷ zs) next) (word_in (answer_of look) == 0) (reply list)
      (list_taken s j list) (λ _. look-left j list look asks)
      (λ _ take asks'.
      let word = word_in (answer_of take) in
      over_others (λ zs next. IsLeft s i list (look ∷ take ∷ zs) next) i (list_over s) (shown word j 64) list
      (λ k zs y unlike_k left. always_weaker (λ ws z. IsLeft s i y ws z)
      (λ ws z. IsLeft s i list (look ∷ take ∷ (zs ++ ws)) z) (list_over s k y)
      (λ ws z more. left-on s i list (look ∷ take ∷ zs) ws y z left more) (index-elsewhere s i k unlike_k y))
      (All-weaker (IsShown word j) (λ k. (k == i) ≡ false)
      (λ k is. unlike k (λ same. absurd (cc
      (sym (eq-eqb (i / 64) j (ap (λ (m : ℕ). m / 64) (sym same) ∙ is.word_is)) ∙ other))))
      (shown word j 64) (shown-only word j 64 (omega arith)))
      (left-on s i list (look ∷ []) (take ∷ []) list list (look-left j list look asks)
      (take-left j list take asks' (ap (λ b. b && has_bit word (i % 64)) other))))

  module _ (known list : List LookedKey) (acts : List Act) where
    -- the word was looked at, and its bits taken
    module _ (look take : Act) where
      abbrev Since : List Act → List LookedKey → Type 0
      Since zs next = Outcome s i known (acts ++ look ∷ take ∷ zs) next

      since-elsewhere : (k : ℕ) (zs : List Act) (y : List LookedKey) → (k == i) ≡ false → Since zs y
          → Always (λ ws z. Since (zs ++ ws) z) (list_over s k y)
      since-elsewhere k zs y other here =
          always_weaker (λ ws z. IsLeft s i y ws z) (λ ws z. Since (zs ++ ws) z) (list_over s k y)
          (λ ws z more. subst (λ xs. Outcome s i known xs z) (append_assoc acts (look ∷ take ∷ zs) ws)
          (outcome-on s i known (acts ++ look ∷ take ∷ zs) ws y z more here)) (index-elsewhere s i k other y)

      since-there : (zs : List Act) (y : List LookedKey) → Always (λ ws z. Since (zs ++ ws) z) (list_over s i y)
      since-there zs y =
          always_weaker (λ ws z. Outcome s i known ((acts ++ look ∷ take ∷ zs) ++ ws) z) (λ ws z. Since (zs ++ ws) z)
          (list_over s i y)
          (λ ws z here. subst (λ xs. Outcome s i known xs z) (append_assoc acts (look ∷ take ∷ zs) ws) here)
          (index-turn s i known y (acts ++ look ∷ take ∷ zs))

      taken-turn : question_of look ≡ Question.look_touched s (i / 64)
          → question_of take ≡ Question.take_touched s (i / 64)
          → IsLeft s i known acts list
          → (b : Bool) → has_bit (word_in (answer_of take)) (i % 64) ≡ b
          → Always Since (sweep_over (shown (word_in (answer_of take)) (i / 64) 64) (list_over s) list)
      taken-turn asks asks' left true bit =
          over_one Since i (list_over s) (shown (word_in (answer_of take)) (i / 64) 64) list since-there since-elsewhere
          (shown-all (word_in (answer_of take)) i bit)
      taken-turn asks asks' left false clear =
          let word = word_in (answer_of take) in
          over_others Since i (list_over s) (shown word (i / 64) 64) list since-elsewhere
          (All-weaker (IsShown word (i / 64)) (λ k. (k == i) ≡ false)
          (λ k is. unlike k (λ same. absurd (cc
          (sym clear ∙ (ap (λ (m : ℕ). has_bit word (m % 64)) (sym same) ∙ is.bit)))))
          (shown word (i / 64) 64) (shown-only word (i / 64) 64 (omega arith)))
          (is_clear
          (by_taking word
          (subst (Contains (acts ++ look ∷ take ∷ [])) (take-act s (i / 64) take asks')
          (Contains-append_right acts (look ∷ take ∷ []) take (contains-middle (look ∷ []) take []))) clear)
          (left-on s i known acts (look ∷ take ∷ []) list list left
          (left-on s i list (look ∷ []) (take ∷ []) list list (look-left (i / 64) list look asks)
          (take-left (i / 64) list take asks'
          (ap (λ b. (i / 64 == i / 64) && b) clear ∙ and-false (i / 64 == i / 64))))))

    word-there : IsLeft s i known acts list
        → Always (λ zs next. Outcome s i known (acts ++ zs) next) (list_word s (i / 64) list)
    word-there left = λ look asks.
        let word = word_in (answer_of look) in
        always_if (λ zs next. Outcome s i known (acts ++ look ∷ zs) next) (word == 0) (reply list)
        (list_taken s (i / 64) list)
        (λ none. is_clear
        (by_look word
        (subst (Contains (acts ++ look ∷ [])) (touched-look s (i / 64) look asks) (contains-middle acts look []))
        (ap (λ (w : ℕ). has_bit w (i % 64)) (eqb-true word 0 none) ∙ ap (λ (n : ℕ). n == 1) (bit_at-zero (i % 64))))
        (left-on s i known acts (look ∷ []) list list left (look-left (i / 64) list look asks)))
        (λ _ take asks'. taken-turn look take asks asks' left (has_bit (word_in (answer_of take)) (i % 64)) refl)

  -- ---- all words

  -- once the words below p had their turn
  pub record AtWord (known : List LookedKey) (p : ℕ) (acts : List Act) (list : List LookedKey) : Type 0 where
    pub passed : i / 64 < p → Outcome s i known acts list
    pub ahead : p ≤ i / 64 → IsLeft s i known acts list

  one-word : (known : List LookedKey) (j : ℕ) (acts : List Act) (list : List LookedKey) → AtWord known j acts list
      → Always (λ zs next. AtWord known (j + 1) (acts ++ zs) next) (list_word s j list)
  one-word known j acts list before = by_place (i / 64 == j) refl
    where
      by_place : (b : Bool) → (i / 64 == j) ≡ b
          → Always (λ zs next. AtWord known (j + 1) (acts ++ zs) next) (list_word s j list)
      by_place true at =
          let same : i / 64 ≡ j = eqb-true (i / 64) j at in
          always_weaker (λ zs next. Outcome s i known (acts ++ zs) next)
          (λ zs next. AtWord known (j + 1) (acts ++ zs) next) (list_word s j list)
          (λ zs next here. record { passed = λ _. here; ahead = λ high. absurd (omega (arith, high, same)) })
          (subst (λ (k : ℕ). Always (λ zs next. Outcome s i known (acts ++ zs) next) (list_word s k list)) same
          (word-there known list acts (before.ahead (omega (arith, same)))))
      by_place false other =
          let differs = eqb-false (i / 64) j other in
          always_weaker (λ zs next. IsLeft s i list zs next)
          (λ zs next. AtWord known (j + 1) (acts ++ zs) next) (list_word s j list)
          (λ zs next more. record {
            passed = λ low. outcome-on s i known acts zs list next more (before.passed (omega (arith, low, differs)));
            ahead = λ high. left-on s i known acts zs list next (before.ahead (omega (arith, high))) more;
          })
          (word-elsewhere j other list)

  pub begin-outcome : (known : List LookedKey) (bound : ℕ) (over : List Act) (looked : List LookedKey)
      → Completes (look_at_keys s bound (Some known)) over looked → AtWord known (words_below bound) over looked
  begin-outcome known bound over looked run =
      always_run (AtWord known (words_below bound)) (look_at_keys s bound (Some known)) over looked
      (always_sweep (AtWord known) (words_below bound) 0 (list_word s) known (omega arith)
      (record { passed = λ none. absurd (omega (arith, none)); ahead = λ _. left-none s i known })
      (λ j acts list _ _ before. one-word known j acts list before)) run
