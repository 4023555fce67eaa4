-- Going over the indexes that aren't free, performed on a state.
use Rattle.std.proofs.Common.{◌≡◌, ℕ, zero, suc, ◌+◌, ◌-◌, ◌<◌, List, [], ◌∷◌, ◌++◌, ap, sym, ◌∙◌, subst}
use Rattle.std.proofs.Common.{append_assoc, arith}
use Rattle.std.proofs.lemmas.List.{append-nil}
use Rattle.nio_base.specs.declared.numbers.CallerNo.{CallerNo}
use Rattle.nio_base.specs.declared.numbers.SelNo.{SelNo}
use Rattle.nio_history.specs.Answers.{free_word}
use Rattle.nio_history.specs.State.{State}
use Rattle.nio_steps.proofs.PerformLaws.{perform_sweep, perform_over}
use Rattle.nio_steps.specs.ChannelCalls.{words_below}
use Rattle.nio_steps.specs.Perform.{Performed, perform}
use Rattle.nio_steps.specs.Plan.{Plan}
use Rattle.nio_steps.specs.Looking.{not_free, over_word, over_not_free}
use Rattle.nio_steps.specs.Sweeps.{sweep_over}

-- the indexes below the bound that aren't free in this state, by the first n words
abbrev pub listed_in : State → SelNo → ℕ → ℕ → List ℕ
listed_in st s bound zero = []
listed_in st s bound (suc n) = listed_in st s bound n ++ not_free (free_word st s.0 n) n bound 64

-- `stands past` is the state after the turns of these indexes, and `left past` what they left
module _ {A : Type 0} (me : CallerNo) (s : SelNo) (bound : ℕ) (f : ℕ → A → Plan A) (st : State) (left : List ℕ → A)
    (stands : List ℕ → State) where
  abbrev listed : ℕ → List ℕ
  listed n = listed_in st s bound n

  record Begins (xs ys : List ℕ) : Type 0 where
    later : List ℕ
    parts : ys ≡ xs ++ later

  begins : (n m : ℕ) → Begins (listed n) (listed (n + m))
  begins n zero =
      let same : n ≡ n + 0 = omega arith in
      subst (λ (k : ℕ). Begins (listed n) (listed k)) same (record { later = []; parts = sym (append-nil (listed n)) })
  begins n (suc m) =
      let same : suc (n + m) ≡ n + suc m = omega arith in
      let first = begins n m in
      let more = not_free (free_word st s.0 (n + m)) (n + m) bound 64 in
      subst (λ (k : ℕ). Begins (listed n) (listed k)) same
      (record {
        later = first.later ++ more;
        parts = ap (λ xs. xs ++ more) first.parts ∙ append_assoc (listed n) first.later more;
      })

  module _ (looks : (j : ℕ) → j < words_below bound → free_word (stands (listed j)) s.0 j ≡ free_word st s.0 j)
      (each : (past : List ℕ) (e : ℕ) (later : List ℕ) → listed (words_below bound) ≡ past ++ e ∷ later
      → perform me (f e (left past)) (stands past) ≡ record {
        answer = left (past ++ e ∷ []);
        state = stands (past ++ e ∷ []);
      }) where
    abbrev after : List ℕ → Performed A
    after past = record { answer = left past; state = stands past }

    word-performed : (j : ℕ) → j < words_below bound
        → perform me (over_word s bound f j (left (listed j))) (stands (listed j)) ≡ after (listed (j + 1))
    word-performed j low =
        let word = free_word st s.0 j in
        let more = not_free word j bound 64 in
        let same : suc j ≡ j + 1 = omega arith in
        let next : listed j ++ more ≡ listed (j + 1) = ap listed same in
        ap (λ (w : ℕ). perform me (sweep_over (not_free w j bound 64) f (left (listed j))) (stands (listed j)))
        (looks j low)
        ∙ (ap (λ xs. perform me (sweep_over more f (left xs)) (stands xs)) (sym (append-nil (listed j)))
        ∙ (perform_over me more f (λ past. left (listed j ++ past)) (λ past. stands (listed j ++ past))
        (λ past e later parts. one past e later parts)
        ∙ ap after next))
      where
        one : (past : List ℕ) (e : ℕ) (later : List ℕ)
            → not_free (free_word st s.0 j) j bound 64 ≡ past ++ e ∷ later
            → perform me (f e (left (listed j ++ past))) (stands (listed j ++ past))
            ≡ after (listed j ++ (past ++ e ∷ []))
        one past e later parts =
            let rest = begins (suc j) (words_below bound - suc j) in
            let total : suc j + (words_below bound - suc j) ≡ words_below bound = omega arith in
            let all : listed (words_below bound) ≡ (listed j ++ past) ++ e ∷ (later ++ rest.later)
            = ap listed (sym total)
            ∙ (rest.parts ∙ (ap (λ xs. (listed j ++ xs) ++ rest.later) parts ∙ simp append_assoc)) in
            each (listed j ++ past) e (later ++ rest.later) all
            ∙ ap after (append_assoc (listed j) past (e ∷ []))

    pub perform_listed : perform me (over_not_free s bound f (left [])) (stands [])
        ≡ record { answer = left (listed (words_below bound)); state = stands (listed (words_below bound)) }
    perform_listed =
        perform_sweep me (words_below bound) 0 (over_word s bound f) (λ j. left (listed j)) (λ j. stands (listed j))
        (omega arith) (λ j _ low. word-performed j low)
