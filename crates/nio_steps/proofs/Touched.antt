-- What holds of going over the indexes that were touched.
use Rattle.std.proofs.Common.{◌≡◌, ℕ, zero, suc, ◌+◌, ◌*◌, ◌/◌, ◌%◌, ◌<◌, ◌≤◌, ◌==◌, ◌&&◌, Bool, true, false}
use Rattle.std.proofs.Common.{if◌then◌else◌, List, [], ◌∷◌, ◌++◌, refl, ap, sym, ◌∙◌, subst, append_assoc, eq-eqb, arith}
use Rattle.std.proofs.lemmas.Bool.{and_from, or_left, or_right}
use Rattle.std.proofs.lemmas.List.{append-nil}
use Rattle.std.proofs.lemmas.List.Folds.{list_any-append}
use Rattle.nio_base.specs.declared.numbers.SelNo.{SelNo}
use Rattle.nio_history.specs.Lists.{takes_bit}
use Rattle.nio_history.specs.OwnEvents.{has}
use Rattle.nio_history.specs.Questions.{Question, question_of, answer_of}
use Rattle.nio_history.specs.declared.act.Act.{Act}
use Rattle.nio_history.specs.declared.act.Act.TheVariants.{LookTouched, TakeTouched}
use Rattle.nio_steps.proofs.EndListed.{touched-look}
use Rattle.nio_steps.proofs.ListedBy.{take-act}
use Rattle.nio_steps.proofs.Listing.{always_push}
use Rattle.nio_steps.proofs.Walks.{Always, always_if, always_weaker, always_sweep}
use Rattle.nio_steps.specs.KeyCalls.{has_bit}
use Rattle.nio_steps.specs.ListLaws.{finds_touched}
use Rattle.nio_steps.specs.Looking.{shown, over_touched, list_over, list_taken, list_word}
use Rattle.nio_steps.specs.Plan.{Plan, reply}
use Rattle.nio_steps.specs.Steps.{word_in}
use Rattle.nio_steps.specs.Sweeps.{sweep_to, sweep_over}
use Rattle.nio_steps.specs.declared.looked.LookedKey.{LookedKey}

-- ---- the bits of a word

-- an index of which the word that was found has the bit was found touched
finds-bit : (s : SelNo) (j b word : ℕ) → b < 64 → has_bit word b ≡ true
    → finds_touched s.0 (64 * j + b) (LookTouched s j word) ≡ true
finds-bit s j b word low bit =
    let word_is : j ≡ (64 * j + b) / 64 = omega arith in
    let bit_is : b ≡ (64 * j + b) % 64 = omega arith in
    and_from ((s.0 == s.0) && (j == (64 * j + b) / 64)) (has_bit word ((64 * j + b) % 64))
    (and_from (s.0 == s.0) (j == (64 * j + b) / 64) (eq-eqb s.0 s.0 refl) (eq-eqb j ((64 * j + b) / 64) word_is))
    (ap (has_bit word) (sym bit_is) ∙ bit)

-- and where the word was taken, its bit was
takes-bit : (s : SelNo) (j b word : ℕ) → b < 64 → has_bit word b ≡ true
    → takes_bit s.0 (64 * j + b) (TakeTouched s j word) ≡ true
takes-bit s j b word low bit =
    let word_is : (64 * j + b) / 64 ≡ j = omega arith in
    let bit_is : b ≡ (64 * j + b) % 64 = omega arith in
    and_from ((s.0 == s.0) && ((64 * j + b) / 64 == j)) (has_bit word ((64 * j + b) % 64))
    (and_from (s.0 == s.0) ((64 * j + b) / 64 == j) (eq-eqb s.0 s.0 refl) (eq-eqb ((64 * j + b) / 64) j word_is))
    (ap (has_bit word) (sym bit_is) ∙ bit)

-- ---- index by index

-- `shows k` is the test of an act by which index k was found touched. `Left w k` is what holds of the acts and of what is
-- left after at most w looks at words and takings of words, before the turn of index k.
module _ {A : Type 0} (s : SelNo) (shows : ℕ → Act → Bool) (f : ℕ → A → Plan A)
    (Left : ℕ → ℕ → List Act → A → Type 0) where
  -- an index that was found touched, and one that wasn't
  pub record TouchedTurns : Type 0 where
    pub looks : (w k j : ℕ) (acts : List Act) (x : A) (act : Act) → question_of act ≡ Question.look_touched s j
        → Left w k acts x → Left (w + 1) k (acts ++ act ∷ []) x
    pub takes : (w k j : ℕ) (acts : List Act) (x : A) (act : Act) → question_of act ≡ Question.take_touched s j
        → Left w k acts x → Left (w + 1) k (acts ++ act ∷ []) x
    pub leaves : (w k : ℕ) (acts : List Act) (x : A) → Left w k acts x → Left (w + 1) k acts x
    pub at : (w k : ℕ) (acts : List Act) (x : A) → has (shows k) acts ≡ true → Left w k acts x
        → Always (λ ys y. Left w (k + 1) (acts ++ ys) y) (f k x)
    pub passes : (w k : ℕ) (acts : List Act) (x : A) → Left w k acts x → Left w (k + 1) acts x

  -- these acts found touched each index that the word shows
  abbrev HasShown : ℕ → ℕ → List Act → Type 0
  HasShown j word acts = (b : ℕ) → b < 64 → has_bit word b ≡ true → has (shows (64 * j + b)) acts ≡ true

  module _ (turns : TouchedTurns) where
    in_shown : (w j word : ℕ) (ys : List Act) (y : A) (n : ℕ) → n ≤ 64 → HasShown j word ys → Left w (64 * j) ys y
        → Always (λ zs z. Left w (64 * j + n) (ys ++ zs) z) (sweep_over (shown word j n) f y)
    unfolding sweep_over shown
    in_shown w j word ys y zero fits found here =
        let first : 64 * j ≡ 64 * j + 0 = omega arith in
        subst (λ acts. Left w (64 * j + 0) acts y) (sym (append-nil ys))
        (subst (λ (k : ℕ). Left w k ys y) first here)
    in_shown w j word ys y (suc n) fits found here =
        by_bit (has_bit word n) refl (in_shown w j word ys y n (omega arith) found here)
      where
        next : 64 * j + n + 1 ≡ 64 * j + suc n
        next = omega arith

        by_bit : (b : Bool) → has_bit word n ≡ b
            → Always (λ zs z. Left w (64 * j + n) (ys ++ zs) z) (sweep_over (shown word j n) f y)
            → Always (λ zs z. Left w (64 * j + suc n) (ys ++ zs) z)
            (sweep_over (if b then shown word j n ++ (64 * j + n) ∷ [] else shown word j n) f y)
        by_bit false bit rest =
            always_weaker (λ zs z. Left w (64 * j + n) (ys ++ zs) z) (λ zs z. Left w (64 * j + suc n) (ys ++ zs) z)
            (sweep_over (shown word j n) f y)
            (λ zs z left. subst (λ (k : ℕ). Left w k (ys ++ zs) z) next
            (turns.passes w (64 * j + n) (ys ++ zs) z left)) rest
        by_bit true bit rest =
            always_push (λ zs z. Left w (64 * j + n) (ys ++ zs) z) (λ zs z. Left w (64 * j + suc n) (ys ++ zs) z)
            (shown word j n) (64 * j + n) f y rest
            (λ zs z left. always_weaker (λ ws v. Left w (64 * j + n + 1) ((ys ++ zs) ++ ws) v)
            (λ ws v. Left w (64 * j + suc n) (ys ++ (zs ++ ws)) v) (f (64 * j + n) z)
            (λ ws v left'. subst (λ acts. Left w (64 * j + suc n) acts v) (append_assoc ys zs ws)
            (subst (λ (k : ℕ). Left w k ((ys ++ zs) ++ ws) v) next left'))
            (turns.at w (64 * j + n) (ys ++ zs) z
            (list_any-append (shows (64 * j + n)) ys zs ∙ or_left _ _ (found n (omega arith) bit)) left))

    -- the turn of a word after its look or taking
    after_word : (w j word : ℕ) (acts : List Act) (act : Act) (x : A)
        → ((b : ℕ) → b < 64 → has_bit word b ≡ true → shows (64 * j + b) act ≡ true)
        → Left w (64 * j) (acts ++ act ∷ []) x
        → Always (λ zs z. Left w (64 * (j + 1)) (acts ++ act ∷ zs) z) (sweep_over (shown word j 64) f x)
    after_word w j word acts act x found here =
        let end : 64 * j + 64 ≡ 64 * (j + 1) = omega arith in
        always_weaker (λ zs z. Left w (64 * j + 64) ((acts ++ act ∷ []) ++ zs) z)
        (λ zs z. Left w (64 * (j + 1)) (acts ++ act ∷ zs) z) (sweep_over (shown word j 64) f x)
        (λ zs z left. subst (λ (k : ℕ). Left w k (acts ++ act ∷ zs) z) end
        (subst (λ ws. Left w (64 * j + 64) ws z) (append_assoc acts (act ∷ []) zs) left))
        (in_shown w j word (acts ++ act ∷ []) x 64 (omega arith)
        (λ b low bit. list_any-append (shows (64 * j + b)) acts (act ∷ [])
        ∙ or_right _ _ (or_left _ _ (found b low bit))) here)

-- ---- word by word

-- the bits stay
pub always_touched : {A : Type 0} (s : SelNo) (f : ℕ → A → Plan A) (Left : ℕ → ℕ → List Act → A → Type 0)
    → TouchedTurns s (finds_touched s.0) f Left → (words : ℕ) (x : A) → Left 0 0 [] x
    → Always (Left words (64 * words)) (sweep_to words 0 (over_touched s f) x)
always_touched s f Left turns words x here =
    always_sweep (λ j acts y. Left j (64 * j) acts y) words 0 (over_touched s f) x (omega arith) here
    (λ j acts y _ _ left act asks.
    let word = word_in (answer_of act) in
    after_word s (finds_touched s.0) f Left turns (j + 1) j word acts act y
    (λ b low bit. ap (finds_touched s.0 (64 * j + b)) (touched-look s j act asks) ∙ finds-bit s j b word low bit)
    (turns.looks j (64 * j) j acts y act asks left))

-- they are taken where a look shows any
module _ (s : SelNo) (Left : ℕ → ℕ → List Act → List LookedKey → Type 0)
    (turns : TouchedTurns s (takes_bit s.0) (list_over s) Left) where
  word_turn : (w j : ℕ) (acts : List Act) (known : List LookedKey) → Left w (64 * j) acts known
      → Always (λ zs z. Left (w + 1 + 1) (64 * (j + 1)) (acts ++ zs) z) (list_word s j known)
  word_turn w j acts known left = λ look asks.
      let looked = turns.looks w (64 * j) j acts known look asks left in
      let end : 64 * j + 64 ≡ 64 * (j + 1) = omega arith in
      always_if (λ zs z. Left (w + 1 + 1) (64 * (j + 1)) (acts ++ look ∷ zs) z) (word_in (answer_of look) == 0)
      (reply known) (list_taken s j known)
      (λ _. subst (λ (k : ℕ). Left (w + 1 + 1) k (acts ++ look ∷ []) known) end
      (further (w + 1 + 1) (64 * j) 64 (acts ++ look ∷ []) known
      (turns.leaves (w + 1) (64 * j) (acts ++ look ∷ []) known looked)))
      (λ _ take asks'.
      let word = word_in (answer_of take) in
      always_weaker (λ zs z. Left (w + 1 + 1) (64 * (j + 1)) ((acts ++ look ∷ []) ++ take ∷ zs) z)
      (λ zs z. Left (w + 1 + 1) (64 * (j + 1)) (acts ++ look ∷ take ∷ zs) z) (sweep_over (shown word j 64) (list_over s) known)
      (λ zs z here. subst (λ ws. Left (w + 1 + 1) (64 * (j + 1)) ws z)
      (append_assoc acts (look ∷ []) (take ∷ zs)) here)
      (after_word s (takes_bit s.0) (list_over s) Left turns (w + 1 + 1) j word (acts ++ look ∷ []) take known
      (λ b low bit. ap (takes_bit s.0 (64 * j + b)) (take-act s j take asks') ∙ takes-bit s j b word low bit)
      (turns.takes (w + 1) (64 * j) j (acts ++ look ∷ []) known take asks' looked)))
    where
      -- no index is shown
      further : (v k m : ℕ) (ys : List Act) (y : List LookedKey) → Left v k ys y → Left v (k + m) ys y
      further v k zero ys y here =
          let same : k ≡ k + 0 = omega arith in
          subst (λ (q : ℕ). Left v q ys y) same here
      further v k (suc m) ys y here =
          let same : k + m + 1 ≡ k + suc m = omega arith in
          subst (λ (q : ℕ). Left v q ys y) same (turns.passes v (k + m) ys y (further v k m ys y here))

  pub always_taken : (words : ℕ) (known : List LookedKey) → Left 0 0 [] known
      → Always (Left (2 * words) (64 * words)) (sweep_to words 0 (list_word s) known)
  always_taken words known here =
      always_sweep (λ j acts y. Left (2 * j) (64 * j) acts y) words 0 (list_word s) known (omega arith) here
      (λ j acts y _ _ left.
      let twice : 2 * j + 1 + 1 ≡ 2 * (j + 1) = omega arith in
      subst (λ (w : ℕ). Always (λ zs z. Left w (64 * (j + 1)) (acts ++ zs) z) (list_word s j y)) twice
      (word_turn (2 * j) j acts y left))
