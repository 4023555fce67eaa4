-- The looks at which indexes are touched, and the steps of those that are, performed.
use Rattle.std.proofs.Common.{◌≡◌, ℕ, zero, suc, ◌+◌, ◌*◌, ◌<◌, Bool, true, false, cond, List, [], ◌∷◌, ◌++◌}
use Rattle.std.proofs.Common.{filter, refl, ap, sym, ◌∙◌, append_assoc, arith}
use Rattle.std.proofs.lemmas.List.{append-nil}
use Rattle.std.proofs.lemmas.List.Elements.{filter-append}
use Rattle.nio_base.specs.declared.numbers.CallerNo.{CallerNo}
use Rattle.nio_base.specs.declared.numbers.SelNo.{SelNo}
use Rattle.nio_history.specs.Answers.{bits_below, touched_word}
use Rattle.nio_history.specs.State.{State}
use Rattle.nio_plain.specs.Seq.Names.{below}
use Rattle.nio_steps.proofs.PerformLaws.{indexes, indexes-push, perform_sweep, perform_over}
use Rattle.nio_steps.specs.KeyCalls.{has_bit}
use Rattle.nio_steps.specs.Looking.{shown, over_touched}
use Rattle.nio_steps.specs.Perform.{Performed, perform}
use Rattle.nio_steps.specs.Plan.{Plan}
use Rattle.nio_steps.specs.Sweeps.{sweep_to, sweep_over}
use Rattle.nio_serial.proofs.FreeWords.{bit-shown, below-indexes}

-- those that the first n looks show
abbrev pub touched_in : State → SelNo → ℕ → List ℕ
touched_in st s zero = []
touched_in st s (suc n) = touched_in st s n ++ shown (touched_word st s.0 n) n 64

shown-is : (word j : ℕ) (q : ℕ → Bool) (n : ℕ) → ((b : ℕ) → b < n → has_bit word b ≡ q (64 * j + b))
    → shown word j n ≡ filter q (indexes (64 * j) n)
unfolding shown indexes
shown-is word j q zero same = refl
shown-is word j q (suc n) same =
    let i = 64 * j + n in
    ap (λ b. cond b (shown word j n ++ i ∷ []) (shown word j n)) (same n (omega arith))
    ∙ (ap (λ xs. cond (q i) (xs ++ i ∷ []) xs) (shown-is word j q n (λ b low. same b (omega arith)))
    ∙ (by_test (filter q (indexes (64 * j) n)) (q i)
    ∙ (sym (filter-append q (indexes (64 * j) n) (i ∷ [])) ∙ ap (filter q) (sym (indexes-push (64 * j) n)))))
  where
    by_test : (xs : List ℕ) (b : Bool) → cond b (xs ++ (64 * j + n) ∷ []) xs ≡ xs ++ cond b ((64 * j + n) ∷ []) []
    by_test xs true = refl
    by_test xs false = sym (append-nil xs)

pub touched_in-is : (st : State) (s : SelNo) (j : ℕ)
    → touched_in st s j ≡ filter (λ i. st.touched s.0 i) (below (64 * j))
touched_in-is st s zero = refl
touched_in-is st s (suc j) =
    let q : ℕ → Bool = λ i. st.touched s.0 i in
    let more : 64 * suc j ≡ 64 * j + 64 = omega arith in
    (λ k. touched_in-is st s j k
    ++ shown-is (touched_word st s.0 j) j q 64 (λ b low. bit-shown (λ n. q (64 * j + n)) b low) k)
    ∙ (sym (filter-append q (below (64 * j)) (indexes (64 * j) 64))
    ∙ ap (filter q) (sym (below-indexes (64 * j) 64) ∙ ap below (sym more)))

-- The steps of each of these indexes, with `stands` by the indexes that are done. They touch nothing.
module _ (st : State) (me : CallerNo) (s : SelNo) (f : ℕ → Unit {0} → Plan (Unit {0})) (stands : List ℕ → State)
    (turn : (past : List ℕ) (e : ℕ) → perform me (f e tt) (stands past) ≡ record {
      answer = tt;
      state = stands (past ++ e ∷ []);
    })
    (same : (past : List ℕ) → (stands past).touched ≡ st.touched) where
  abbrev after : List ℕ → Performed (Unit {0})
  after past = record { answer = tt; state = stands past }

  word-performed : (j : ℕ) → perform me (over_touched s f j tt) (stands (touched_in st s j))
      ≡ after (touched_in st s (suc j))
  word-performed j =
      let done = touched_in st s j in
      let more = shown (touched_word st s.0 j) j 64 in
      ap (λ (t : ℕ → ℕ → Bool). perform me
      (sweep_over (shown (bits_below 64 (λ b. t s.0 (64 * j + b))) j 64) f tt) (stands done)) (same done)
      ∙ (ap (λ xs. perform me (sweep_over more f tt) (stands xs)) (sym (append-nil done))
      ∙ perform_over me more f (λ _. tt) (λ past. stands (done ++ past))
      (λ past e later parts. turn (done ++ past) e ∙ ap after (append_assoc done past (e ∷ []))))

  pub over_touched-performed : (w : ℕ) → perform me (sweep_to w 0 (over_touched s f) tt) (stands [])
      ≡ after (touched_in st s w)
  over_touched-performed w =
      perform_sweep me w 0 (over_touched s f) (λ _. tt) (λ j. stands (touched_in st s j)) (omega arith)
      (λ j _ _. let next : suc j ≡ j + 1 = omega arith in
      word-performed j ∙ ap (λ (n : ℕ). after (touched_in st s n)) next)
