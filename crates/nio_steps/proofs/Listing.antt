-- What holds of going over the indexes below a bound that aren't free.
use Rattle.std.proofs.Common.{◌≡◌, ℕ, zero, suc, ◌+◌, ◌*◌, ◌/◌, ◌%◌, ◌<◌, ◌≤◌, nat_lt, ◌==◌, ◌&&◌, Bool, true, false}
use Rattle.std.proofs.Common.{not, if◌then◌else◌, List, [], ◌∷◌, ◌++◌, length, refl, ap, sym, ◌∙◌, subst, append_assoc}
use Rattle.std.proofs.Common.{eq-eqb, arith}
use Rattle.std.specs.Prelude.{⊤}
use Rattle.std.specs.List.{All, Contains}
use Rattle.std.proofs.lemmas.Bool.{and_from, lt-ltb, ltb-true, ltb-false, le-ltb}
use Rattle.std.proofs.lemmas.List.{append-nil}
use Rattle.std.proofs.lemmas.List.Elements.{All-nil, All-cons, Contains-append_left}
use Rattle.nio_base.specs.declared.numbers.SelNo.{SelNo}
use Rattle.nio_history.specs.OwnEvents.{has}
use Rattle.nio_history.specs.Questions.{Question, question_of, answer_of}
use Rattle.nio_history.specs.Sets.{in_cancelled_set, is_valid}
use Rattle.nio_base.specs.Numbers.{last_serial}
use Rattle.nio_history.specs.declared.act.Act.{Act}
use Rattle.nio_history.specs.declared.act.Act.TheVariants.{LookFree, LookKey, Remove}
use Rattle.nio_history.specs.declared.found.Stage.{Stage}
use Rattle.nio_steps.proofs.Each.{Each}
use Rattle.nio_steps.proofs.EachLaws.{each_sweep, each_over}
use Rattle.nio_steps.proofs.Lists.{contains-middle, any-of_one}
use Rattle.nio_steps.proofs.Walks.{Always, always_if, always_bind, always_weaker, always_sweep, always_unbind}
use Rattle.nio_steps.specs.Bound.{finds_not_free}
use Rattle.nio_steps.specs.ChannelCalls.{words_below}
use Rattle.nio_steps.specs.KeyCalls.{has_bit}
use Rattle.nio_steps.specs.Plan.{Plan, reply, ◌>>◌, when}
use Rattle.nio_steps.specs.Looking.{not_free, over_word, over_not_free, look_over, look_valid, looked_key}
use Rattle.nio_steps.specs.Looking.{remove_cancelled, remove_if_cancelled}
use Rattle.nio_steps.specs.Steps.{put_free, word_in, stage_in, operations_in}
use Rattle.nio_steps.specs.Sweeps.{sweep_over}
use Rattle.nio_steps.specs.declared.looked.LookedKey.{LookedKey}

pub free-look : (s : SelNo) (j : ℕ) (act : Act) → question_of act ≡ Question.look_free s j
    → act ≡ LookFree s j (word_in (answer_of act))
free-look s j (LookFree s' j' found) asks = cc asks
free-look s j _ asks = absurd (cc asks)

-- ---- what each part asks, wherever it is

pub each_listed : {A : Type 0} (Asks : Question → Type 0) (Left : A → Type 0) (s : SelNo) (bound : ℕ)
    (f : ℕ → A → Plan A) (x : A)
    → ((j : ℕ) → Asks (Question.look_free s j)) → Left x → ((i : ℕ) (y : A) → Left y → Each Asks Left (f i y))
    → Each Asks Left (over_not_free s bound f x)
each_listed Asks Left s bound f x frees here each =
    each_sweep Asks Left (words_below bound) 0 (over_word s bound f) x here
    (λ j y _ _ left. (
      frees j,
      λ answer. each_over Asks (λ _. ⊤) Left (not_free (word_in answer) j bound 64) f y (λ _ _ _. tt) left
          (λ i z _ left'. each i z left'),
    ))

-- ---- one element more

pub always_push : {X A : Type 0} (First P : List Act → A → Type 0) (xs : List X) (e : X) (f : X → A → Plan A) (x : A)
    → Always First (sweep_over xs f x)
    → ((ys : List Act) (y : A) → First ys y → Always (λ zs z. P (ys ++ zs) z) (f e y))
    → Always P (sweep_over (xs ++ e ∷ []) f x)
unfolding sweep_over
always_push First P [] e f x here last =
    always_bind P P (f e x) reply (last [] x here)
    (λ ys y fits. subst (λ acts. P acts y) (sym (append-nil ys)) fits)
always_push First P (e' ∷ xs) e f x here last =
    always_bind (λ ys y. Always (λ zs z. First (ys ++ zs) z) (sweep_over xs f y)) P (f e' x)
    (λ y. sweep_over (xs ++ e ∷ []) f y) (always_unbind First (f e' x) (λ y. sweep_over xs f y) here)
    (λ ys y rest. always_push (λ zs z. First (ys ++ zs) z) (λ zs z. P (ys ++ zs) z) xs e f y rest
    (λ zs z fits. always_weaker (λ ws w. P ((ys ++ zs) ++ ws) w) (λ ws w. P (ys ++ (zs ++ ws)) w) (f e z)
    (λ ws w holds. subst (λ acts. P acts w) (append_assoc ys zs ws) holds) (last (ys ++ zs) z fits)))

-- ---- index by index

-- `Left w k` is what holds of the acts and of what is left after w looks at which indexes are free, before the turn of
-- index k
module _ {A : Type 0} (s : SelNo) (bound : ℕ) (f : ℕ → A → Plan A) (Left : ℕ → ℕ → List Act → A → Type 0) where
  -- an index that was found not free, and one that was found free
  pub record Turns : Type 0 where
    pub looks : (j : ℕ) (acts : List Act) (x : A) (act : Act) → question_of act ≡ Question.look_free s j
        → Left j (64 * j) acts x → Left (j + 1) (64 * j) (acts ++ act ∷ []) x
    pub at : (w i : ℕ) (acts : List Act) (x : A) → i < bound → has (finds_not_free s.0 i) acts ≡ true → Left w i acts x
        → Always (λ ys y. Left w (i + 1) (acts ++ ys) y) (f i x)
    pub passes : (w j b word : ℕ) (acts : List Act) (x : A) → b < 64 → Contains acts (LookFree s j word)
        → has_bit word b ≡ true → Left w (64 * j + b) acts x → Left w (64 * j + b + 1) acts x

  -- the position after index k - 1, which isn't beyond the bound
  capped : ℕ → ℕ
  capped k = if nat_lt k bound then k else bound

  capped-below : (k : ℕ) → k < bound → capped k ≡ k
  unfolding capped
  capped-below k low = ap (λ (b : Bool). if b then k else bound) (lt-ltb k bound low)

  capped-beyond : (k : ℕ) → bound ≤ k → capped k ≡ bound
  unfolding capped
  capped-beyond k high = ap (λ (b : Bool). if b then k else bound) (le-ltb k bound high)

  capped-within : (k : ℕ) → k ≤ bound → capped k ≡ k
  capped-within k within = by_test (nat_lt k bound) refl
    where
      by_test : (b : Bool) → nat_lt k bound ≡ b → capped k ≡ k
      by_test true is = capped-below k (ltb-true k bound is)
      by_test false is =
          let high = ltb-false k bound is in
          let same : bound ≡ k = omega (arith, high, within) in capped-beyond k high ∙ same

  found_listed : (j b word : ℕ) (acts : List Act) → b < 64 → Contains acts (LookFree s j word)
      → not (has_bit word b) ≡ true → has (finds_not_free s.0 (64 * j + b)) acts ≡ true
  found_listed j b word acts low there clear =
      let word_is : j ≡ (64 * j + b) / 64 = omega arith in
      let bit_is : b ≡ (64 * j + b) % 64 = omega arith in
      any-of_one (finds_not_free s.0 (64 * j + b)) acts (LookFree s j word) there
      (and_from ((s.0 == s.0) && (j == (64 * j + b) / 64)) (not (has_bit word ((64 * j + b) % 64)))
      (and_from (s.0 == s.0) (j == (64 * j + b) / 64) (eq-eqb s.0 s.0 refl) (eq-eqb j ((64 * j + b) / 64) word_is))
      (ap (λ (c : ℕ). not (has_bit word c)) (sym bit_is) ∙ clear))

  module _ (turns : Turns) where
    in_word : (w j word : ℕ) (ys : List Act) (y : A) (n : ℕ) → n ≤ 64 → 64 * j < bound
        → Contains ys (LookFree s j word) → Left w (64 * j) ys y
        → Always (λ zs z. Left w (capped (64 * j + n)) (ys ++ zs) z) (sweep_over (not_free word j bound n) f y)
    unfolding sweep_over not_free
    in_word w j word ys y zero fits low there here =
        let first : 64 * j + 0 ≡ 64 * j = omega arith in
        let at : capped (64 * j + 0) ≡ 64 * j = capped-below (64 * j + 0) (omega arith) ∙ first in
        subst (λ acts. Left w (capped (64 * j + 0)) acts y) (sym (append-nil ys))
        (subst (λ (k : ℕ). Left w k ys y) (sym at) here)
    in_word w j word ys y (suc n) fits low there here =
        by_place (nat_lt (64 * j + n) bound) refl (has_bit word n) refl
        (in_word w j word ys y n (omega arith) low there here)
      where
        more : 64 * j + n + 1 ≡ 64 * j + suc n
        more = omega arith

        by_place : (b : Bool) → nat_lt (64 * j + n) bound ≡ b → (c : Bool) → has_bit word n ≡ c
            → Always (λ zs z. Left w (capped (64 * j + n)) (ys ++ zs) z) (sweep_over (not_free word j bound n) f y)
            → Always (λ zs z. Left w (capped (64 * j + suc n)) (ys ++ zs) z)
            (sweep_over (if b && not c then not_free word j bound n ++ (64 * j + n) ∷ [] else not_free word j bound n) f
            y)
        by_place false is c bit rest =
            let high = ltb-false (64 * j + n) bound is in
            let same : capped (64 * j + n) ≡ capped (64 * j + suc n) = capped-beyond (64 * j + n) high
            ∙ sym (capped-beyond (64 * j + suc n) (omega arith)) in
            always_weaker (λ zs z. Left w (capped (64 * j + n)) (ys ++ zs) z)
            (λ zs z. Left w (capped (64 * j + suc n)) (ys ++ zs) z) (sweep_over (not_free word j bound n) f y)
            (λ zs z left. subst (λ (k : ℕ). Left w k (ys ++ zs) z) same left) rest
        by_place true is true bit rest =
            let below = ltb-true (64 * j + n) bound is in
            let here_at : capped (64 * j + n) ≡ 64 * j + n = capped-below (64 * j + n) below in
            let next : 64 * j + n + 1 ≡ capped (64 * j + suc n) = more
            ∙ sym (capped-within (64 * j + suc n) (omega arith)) in
            always_weaker (λ zs z. Left w (capped (64 * j + n)) (ys ++ zs) z)
            (λ zs z. Left w (capped (64 * j + suc n)) (ys ++ zs) z) (sweep_over (not_free word j bound n) f y)
            (λ zs z left. subst (λ (k : ℕ). Left w k (ys ++ zs) z) next
            (turns.passes w j n word (ys ++ zs) z (omega arith)
            (Contains-append_left ys zs (LookFree s j word) there) bit
            (subst (λ (k : ℕ). Left w k (ys ++ zs) z) here_at left))) rest
        by_place true is false bit rest =
            let below = ltb-true (64 * j + n) bound is in
            let here_at : capped (64 * j + n) ≡ 64 * j + n = capped-below (64 * j + n) below in
            let next : 64 * j + n + 1 ≡ capped (64 * j + suc n) = more
            ∙ sym (capped-within (64 * j + suc n) (omega arith)) in
            always_push (λ zs z. Left w (capped (64 * j + n)) (ys ++ zs) z)
            (λ zs z. Left w (capped (64 * j + suc n)) (ys ++ zs) z) (not_free word j bound n) (64 * j + n) f y rest
            (λ zs z left. always_weaker (λ ws v. Left w (64 * j + n + 1) ((ys ++ zs) ++ ws) v)
            (λ ws v. Left w (capped (64 * j + suc n)) (ys ++ (zs ++ ws)) v) (f (64 * j + n) z)
            (λ ws v left'. subst (λ acts. Left w (capped (64 * j + suc n)) acts v) (append_assoc ys zs ws)
            (subst (λ (k : ℕ). Left w k ((ys ++ zs) ++ ws) v) next left'))
            (turns.at w (64 * j + n) (ys ++ zs) z below
            (found_listed j n word (ys ++ zs) (omega arith) (Contains-append_left ys zs (LookFree s j word) there)
            (ap not bit))
            (subst (λ (k : ℕ). Left w k (ys ++ zs) z) here_at left)))

    pub always_listed : (x : A) → Left 0 0 [] x → Always (Left (words_below bound) bound) (over_not_free s bound f x)
    always_listed x here =
        always_weaker (λ acts y. Left (words_below bound) (capped (64 * words_below bound)) acts y)
        (Left (words_below bound) bound) (over_not_free s bound f x)
        (λ acts y left. subst (λ (k : ℕ). Left (words_below bound) k acts y)
        (capped-beyond (64 * words_below bound) (omega arith)) left)
        (always_sweep (λ j acts y. Left j (capped (64 * j)) acts y) (words_below bound) 0 (over_word s bound f) x
        (omega arith) (subst (λ (k : ℕ). Left 0 k [] x) (sym (capped-within 0 (omega arith))) here)
        (λ j acts y _ high left. λ act asks. word_turn j acts y high act asks left))
      where
        word_turn : (j : ℕ) (acts : List Act) (y : A) → j < words_below bound → (act : Act)
            → question_of act ≡ Question.look_free s j → Left j (capped (64 * j)) acts y
            → Always (λ zs z. Left (j + 1) (capped (64 * (j + 1))) (acts ++ act ∷ zs) z)
            (sweep_over (not_free (word_in (answer_of act)) j bound 64) f y)
        word_turn j acts y high act asks left =
            let word = word_in (answer_of act) in
            let low : 64 * j < bound = omega arith in
            let start = subst (λ (k : ℕ). Left j k acts y) (capped-below (64 * j) low) left in
            let there = subst (Contains (acts ++ act ∷ [])) (free-look s j act asks) (contains-middle acts act []) in
            let end : 64 * j + 64 ≡ 64 * (j + 1) = omega arith in
            always_weaker (λ zs z. Left (j + 1) (capped (64 * j + 64)) ((acts ++ act ∷ []) ++ zs) z)
            (λ zs z. Left (j + 1) (capped (64 * (j + 1))) (acts ++ act ∷ zs) z)
            (sweep_over (not_free word j bound 64) f y)
            (λ zs z here'. subst (λ (k : ℕ). Left (j + 1) (capped k) (acts ++ act ∷ zs) z) end
            (subst (λ ws. Left (j + 1) (capped (64 * j + 64)) ws z) (append_assoc acts (act ∷ []) zs) here'))
            (in_word (j + 1) j word (acts ++ act ∷ []) y 64 (omega arith) low there
            (turns.looks j acts y act asks start))

-- ---- the turn of one index

pub key-look : (s : SelNo) (i : ℕ) (act : Act) → question_of act ≡ Question.look_key s i
    → act ≡ LookKey s i (stage_in (answer_of act))
key-look s i (LookKey s' i' found) asks = cc asks
key-look s i _ asks = absurd (cc asks)

pub removal : (s : SelNo) (i : ℕ) (act : Act) → question_of act ≡ Question.remove s i
    → act ≡ Remove s i (stage_in (answer_of act))
removal s i (Remove s' i' found) asks = cc asks
removal s i _ asks = absurd (cc asks)

-- what follows a removal: the index is put, or nothing is done
pub record Puts (s : SelNo) (i : ℕ) (acts : List Act) : Type 0 where
  pub each : All (λ act. question_of act ≡ Question.put_free s i) acts
  pub few : length acts ≤ 1

-- the acts of a turn at which the key of the index was found cancelled, and removed
pub record Removes (s : SelNo) (i : ℕ) (acts : List Act) : Type 0 where
  pub look : Act
  pub remove : Act
  pub puts : List Act
  pub parts : acts ≡ look ∷ remove ∷ puts
  pub asks_look : question_of look ≡ Question.look_key s i
  pub asks_remove : question_of remove ≡ Question.remove s i
  pub is_put : Puts s i puts

-- and of one at which it was found valid
pub record Finds (s : SelNo) (i : ℕ) (acts : List Act) : Type 0 where
  pub look : Act
  pub interest : Act
  pub parts : acts ≡ look ∷ interest ∷ []
  pub asks_look : question_of look ≡ Question.look_key s i
  pub asks_interest : question_of interest ≡ Question.look_interest s i
  pub valid : is_valid (stage_in (answer_of look)) ≡ true
  pub outside : in_cancelled_set (stage_in (answer_of look)) ≡ false

-- and of one at which it was found neither
pub record Passes (s : SelNo) (i : ℕ) (acts : List Act) : Type 0 where
  pub look : Act
  pub parts : acts ≡ look ∷ []
  pub asks_look : question_of look ≡ Question.look_key s i
  pub outside : in_cancelled_set (stage_in (answer_of look)) ≡ false

module _ (s : SelNo) (i : ℕ) where
  pub always_puts : (stage : Stage)
      → Always (λ acts _. Puts s i acts) (when (nat_lt stage.serial last_serial) (put_free s i))
  always_puts stage =
      always_if (λ acts _. Puts s i acts) (nat_lt stage.serial last_serial) (put_free s i >> reply tt) (reply tt)
      (λ _ put asks. record {
        each = All-cons (λ act. question_of act ≡ Question.put_free s i) put [] asks
            (All-nil (λ act. question_of act ≡ Question.put_free s i));
        few = omega arith;
      })
      (λ _. record { each = All-nil (λ act. question_of act ≡ Question.put_free s i); few = omega arith })

  always_removes : {A : Type 0} (P : List Act → A → Type 0) (x : A) (look : Act)
      → question_of look ≡ Question.look_key s i → ((acts : List Act) → Removes s i acts → P acts x)
      → Always (λ acts y. P (look ∷ acts) y) (remove_cancelled s i (stage_in (answer_of look)) >> reply x)
  always_removes P x look asks fits = λ remove asks'.
      always_bind (λ acts _. Puts s i acts) (λ acts y. P (look ∷ remove ∷ acts) y)
      (when (nat_lt (stage_in (answer_of look)).serial last_serial) (put_free s i)) (λ _. reply x)
      (always_puts (stage_in (answer_of look)))
      (λ puts _ is_put. fits (look ∷ remove ∷ (puts ++ []))
      (record {
        look = look;
        remove = remove;
        puts = puts;
        parts = ap (λ acts. look ∷ remove ∷ acts) (append-nil puts);
        asks_look = asks;
        asks_remove = asks';
        is_put = is_put;
      }))

  -- what holds of each turn of an index as a selection begins
  pub always_look : (P : List Act → List LookedKey → Type 0) (looked : List LookedKey)
      → ((acts : List Act) → Removes s i acts → P acts looked)
      → ((acts : List Act) (finds : Finds s i acts)
      → P acts
      (looked ++ looked_key i (stage_in (answer_of finds.look)) (operations_in (answer_of finds.interest)) ∷ []))
      → ((acts : List Act) (passes : Passes s i acts) → is_valid (stage_in (answer_of passes.look)) ≡ false
      → P acts looked) → Always P (look_over s i looked)
  always_look P looked removes finds passes = λ look asks.
      let stage = stage_in (answer_of look) in
      always_if (λ acts y. P (look ∷ acts) y) (in_cancelled_set stage) (remove_cancelled s i stage >> reply looked) _
      (λ _. always_removes P looked look asks removes)
      (λ outside. always_if (λ acts y. P (look ∷ acts) y) (is_valid stage) (look_valid s i stage looked) (reply looked)
      (λ valid interest asks'. finds (look ∷ interest ∷ [])
      (record {
        look = look;
        interest = interest;
        parts = refl;
        asks_look = asks;
        asks_interest = asks';
        valid = valid;
        outside = outside;
      }))
      (λ invalid. passes (look ∷ [])
      (record { look = look; parts = refl; asks_look = asks; outside = outside }) invalid))

  -- and as it ends
  pub always_remove : (P : List Act → Type 0) → ((acts : List Act) → Removes s i acts → P acts)
      → ((acts : List Act) → Passes s i acts → P acts) → Always (λ acts _. P acts) (remove_if_cancelled s i)
  always_remove P removes passes = λ look asks.
      let stage = stage_in (answer_of look) in
      always_if (λ acts _. P (look ∷ acts)) (in_cancelled_set stage) (remove_cancelled s i stage >> reply tt) (reply tt)
      (λ _. always_removes (λ acts _. P acts) tt look asks removes)
      (λ outside. passes (look ∷ []) (record { look = look; parts = refl; asks_look = asks; outside = outside }))
