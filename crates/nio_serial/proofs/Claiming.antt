-- The search for an index of a new key, performed: the least free one, or else the first that never had a key.
use Rattle.std.proofs.Common.{◌≡◌, ℕ, zero, suc, ◌+◌, ◌-◌, ◌*◌, ◌/◌, ◌<◌, ◌≤◌, ◌==◌, nat_lt, Bool, true, false, cond}
use Rattle.std.proofs.Common.{not, ◌&&◌, ◌||◌, if◌then◌else◌, Option, Some, None, option_map, find, List, [], ◌∷◌, ◌++◌}
use Rattle.std.proofs.Common.{refl, ap, sym, ◌∙◌, append_assoc, arith}
use Rattle.std.proofs.lemmas.Bool.{lt-ltb, le-ltb, and_parts}
use Rattle.std.proofs.lemmas.List.{append-nil}
use Rattle.nio_base.specs.declared.limits.Limits.{Limits}
use Rattle.nio_base.specs.declared.numbers.CallerNo.{CallerNo}
use Rattle.nio_base.specs.declared.numbers.ChanNo.{ChanNo}
use Rattle.nio_base.specs.declared.numbers.KeyId.{KeyId}
use Rattle.nio_base.specs.declared.numbers.SelNo.{SelNo}
use Rattle.nio_history.specs.Acts.{new_key}
use Rattle.nio_history.specs.Answers.{count_below, is_pinned, free_word}
use Rattle.nio_history.specs.State.{State, put, put_at, with_key, with_pin, with_free, with_taker}
use Rattle.nio_plain.specs.Seq.Names.{below}
use Rattle.nio_steps.proofs.PerformLaws.{perform_then_on, perform_seek, indexes, indexes-push, found_at}
use Rattle.nio_steps.proofs.SweepLaws.{seek_to-turn, seek_to-done}
use Rattle.nio_steps.specs.ChannelCalls.{claim_taken, claim_free, claim_at_bit, claim_in_word, words_below, search_free}
use Rattle.nio_steps.specs.ChannelCalls.{claim_new}
use Rattle.nio_steps.specs.Perform.{Performed, perform}
use Rattle.nio_steps.specs.Plan.{Plan, ◌>>=◌}
use Rattle.nio_steps.specs.Steps.{put_free}
use Rattle.nio_steps.specs.Sweeps.{found_or, seek_to}
use Rattle.nio_serial.proofs.Base.{put_at-back}
use Rattle.nio_serial.proofs.Finding.{indexes-below}
use Rattle.nio_serial.proofs.FreeWords.{bit-free, below-indexes}

-- ---- searches

abbrev or_else : Option ℕ → Option ℕ → Option ℕ
or_else None o = o
or_else (Some x) o = Some x

find-append : (p : ℕ → Bool) (xs ys : List ℕ) → find p (xs ++ ys) ≡ or_else (find p xs) (find p ys)
find-append p [] ys = refl
find-append p (x ∷ xs) ys = by_test (p x) (find-append p xs ys)
  where
    by_test : (b : Bool) → find p (xs ++ ys) ≡ or_else (find p xs) (find p ys)
        → cond b (Some x) (find p (xs ++ ys)) ≡ or_else (cond b (Some x) (find p xs)) (find p ys)
    by_test true rest = refl
    by_test false rest = rest

find-same : (p q : ℕ → Bool) (n : ℕ) → ((i : ℕ) → i < n → p i ≡ q i) → find p (below n) ≡ find q (below n)
find-same p q zero same = refl
find-same p q (suc n) same =
    find-append p (below n) (n ∷ [])
    ∙ ((λ j. or_else (find-same p q n (λ i low. same i (omega arith)) j) (cond (same n (omega arith) j) (Some n) None))
    ∙ sym (find-append q (below n) (n ∷ [])))

find-none : (q : ℕ → Bool) (i n : ℕ) → ((k : ℕ) → i ≤ k → q k ≡ false) → find q (indexes i n) ≡ None
unfolding indexes
find-none q i zero none = refl
find-none q i (suc n) none =
    ap (λ b. cond b (Some i) (find q (indexes (i + 1) n))) (none i (omega arith))
    ∙ find-none q (i + 1) n (λ k low. none k (omega arith))

find-nothing : (q : ℕ → Bool) (i : ℕ) → find q (indexes i 0) ≡ None
unfolding indexes
find-nothing q i = refl

find-shift : (q : ℕ → Bool) (a i n : ℕ)
    → find q (indexes (a + i) n) ≡ option_map (λ b. a + b) (find (λ b. q (a + b)) (indexes i n))
unfolding indexes
find-shift q a i zero = refl
find-shift q a i (suc n) =
    let same : (a + i) + 1 ≡ a + (i + 1) = omega arith in
    ap (λ k. cond (q (a + i)) (Some (a + i)) (find q (indexes k n))) same
    ∙ by_test (q (a + i)) (find-shift q a (i + 1) n)
  where
    by_test : (b : Bool)
        → find q (indexes (a + (i + 1)) n) ≡ option_map (λ k. a + k) (find (λ k. q (a + k)) (indexes (i + 1) n))
        → cond b (Some (a + i)) (find q (indexes (a + (i + 1)) n)) ≡ option_map (λ k. a + k)
        (cond b (Some i) (find (λ k. q (a + k)) (indexes (i + 1) n)))
    by_test true rest = refl
    by_test false rest = rest

indexes-append : (i n m : ℕ) → indexes i (n + m) ≡ indexes i n ++ indexes (i + n) m
unfolding indexes
indexes-append i n zero =
    let same : n + 0 ≡ n = omega arith in
    ap (indexes i) same ∙ sym (append-nil (indexes i n))
indexes-append i n (suc m) =
    let same : n + suc m ≡ suc (n + m) = omega arith in
    let last : i + (n + m) ≡ (i + n) + m = omega arith in
    ap (indexes i) same
    ∙ (indexes-push i (n + m)
    ∙ ((λ j. indexes-append i n m j ++ last j ∷ [])
    ∙ (append_assoc (indexes i n) (indexes (i + n) m) (((i + n) + m) ∷ [])
    ∙ ap (λ xs. indexes i n ++ xs) (sym (indexes-push (i + n) m)))))

-- ---- an index that is claimed again

pub unpinned-none : (n : ℕ) (p : ℕ → Bool) → ((k : ℕ) → p k ≡ false) → count_below n p ≡ 0
unfolding count_below
unpinned-none zero p none = refl
unpinned-none (suc n) p none =
    let rest : count_below n p ≡ 0 = unpinned-none n p none in
    (λ j. count_below n p + (if none n j then 1 else 0)) ∙ omega arith

module _ (st : State) (me : CallerNo) (s : SelNo) (c : ChanNo) (unpinned : (i n : ℕ) → st.pinned s.0 i n ≡ false)
    (untaken : (i : ℕ) → st.taker s.0 i ≡ None) where
  -- the key that is given next to a free index
  abbrev pub next_at : ℕ → KeyId
  next_at i = record { index = i; serial = suc (st.key s.0 i).serial }

  -- the index is claimed for it, with a pin
  abbrev pub claimed_again : ℕ → State
  claimed_again i = record st {
    key = put_at st.key s.0 i (new_key c (suc (st.key s.0 i).serial));
    pinned = put_at st.pinned s.0 i (put (st.pinned s.0 i) me.0 true);
    free = put_at st.free s.0 i false;
  }

  not_pinned : (i : ℕ) → is_pinned st s.0 i ≡ false
  not_pinned i = ap (λ n. not (n == 0)) (unpinned-none 64 (st.pinned s.0 i) (unpinned i))

  free-performed : (i : ℕ) → st.free s.0 i ≡ true
      → perform me (claim_free s c i) st ≡ record { answer = Some (next_at i); state = claimed_again i }
  free-performed i is =
      ap (λ (b : Bool). perform me (if b then claim_taken s c i else Plan.reply None)
      (with_taker (with_free st s.0 i false) s.0 i (if b then Some me else st.taker s.0 i))) is
      ∙ (ap (λ (b : Bool). perform me
      (if b then (put_free s i >>= (λ _. Plan.reply None)) else Plan.reply (Some (next_at i))) (again b))
      (not_pinned i)
      ∙ (λ j. record {
        answer = Some (next_at i);
        state = record (claimed_again i) {
          pinned = put_at st.pinned s.0 i (put (st.pinned s.0 i) me.0 (unpinned i me.0 j || true));
          taker = put_at-back st.taker s.0 i (Some me) None (untaken i) j;
        };
      }))
    where
      taken : State
      taken = with_taker (with_free st s.0 i false) s.0 i (Some me)

      again : Bool → State
      again b =
          with_taker
          (with_pin (with_key taken s.0 i (if b then st.key s.0 i else new_key c (suc (st.key s.0 i).serial))) s.0 i
          me.0 (st.pinned s.0 i me.0 || not b))
          s.0 i (if b then taken.taker s.0 i else None)

  -- ---- the least free index below the high-water mark

  module _ (mark : ℕ) where
    abbrev can : ℕ → Bool
    can i = st.free s.0 i && nat_lt i mark

    abbrev pub found : Option ℕ → Performed (Option KeyId)
    found o = found_at st next_at claimed_again o

    bit-performed : (j b : ℕ) → b < 64 → (x : Bool) → can (64 * j + b) ≡ x
        → perform me (claim_at_bit s c mark j (free_word st s.0 j) b) st ≡ found (if x then Some (64 * j + b) else None)
    bit-performed j b low x is =
        let i = 64 * j + b in
        ap (λ (y : Bool). perform me (if y && nat_lt i mark then claim_free s c i else Plan.reply None) st)
        (bit-free st s.0 j b low)
        ∙ (ap (λ (y : Bool). perform me (if y then claim_free s c i else Plan.reply None) st) is ∙ by_test x is)
      where
        by_test : (y : Bool) → can (64 * j + b) ≡ y
            → perform me (if y then claim_free s c (64 * j + b) else Plan.reply None) st
            ≡ found (if y then Some (64 * j + b) else None)
        by_test true e =
            free-performed (64 * j + b) (and_parts (st.free s.0 (64 * j + b)) (nat_lt (64 * j + b) mark) e).0
        by_test false e = refl

    word-performed : (j : ℕ) → perform me (claim_in_word s c mark j) st ≡ found (find can (indexes (64 * j) 64))
    word-performed j =
        perform_seek me 64 0 (claim_at_bit s c mark j (free_word st s.0 j)) (λ b. can (64 * j + b))
        (λ b. next_at (64 * j + b)) st (λ b. claimed_again (64 * j + b)) (omega arith)
        (λ b _ low can_not. bit-performed j b low false can_not)
        (λ b _ low can_be. bit-performed j b low true can_be)
        ∙ (shifted (find (λ b. can (64 * j + b)) (indexes 0 (64 - 0)))
        ∙ ap found (sym (find-shift can (64 * j) 0 64) ∙ ap (λ i. find can (indexes i 64)) start))
      where
        start : 64 * j + 0 ≡ 64 * j
        start = omega arith

        shifted : (o : Option ℕ)
            → found_at st (λ b. next_at (64 * j + b)) (λ b. claimed_again (64 * j + b)) o
            ≡ found (option_map (λ b. 64 * j + b) o)
        shifted None = refl
        shifted (Some b) = refl

    words-performed : (w n j : ℕ) → j + n ≡ w
        → perform me (seek_to w j (claim_in_word s c mark)) st ≡ found (find can (indexes (64 * j) (64 * n)))
    words-performed w zero j total =
        ap (λ plan. perform me plan st) (seek_to-done w j (claim_in_word s c mark) (omega arith))
        ∙ ap found (sym (find-nothing can (64 * j)))
    words-performed w (suc n) j total =
        let more : 64 * suc n ≡ 64 + 64 * n = omega arith in
        let next : 64 * j + 64 ≡ 64 * (j + 1) = omega arith in
        ap (λ plan. perform me plan st) (seek_to-turn w j (claim_in_word s c mark) (omega arith))
        ∙ (by_word (find can (indexes (64 * j) 64)) (word-performed j) (words-performed w n (j + 1) (omega arith))
        ∙ ap found
        (sym (ap (λ k. find can (indexes (64 * j) k)) more ∙ (ap (find can) (indexes-append (64 * j) 64 (64 * n))
        ∙ (find-append can (indexes (64 * j) 64) (indexes (64 * j + 64) (64 * n))
        ∙ ap (λ k. or_else (find can (indexes (64 * j) 64)) (find can (indexes k (64 * n)))) next)))))
      where
        by_word : (o : Option ℕ) → perform me (claim_in_word s c mark j) st ≡ found o
            → perform me (seek_to w (j + 1) (claim_in_word s c mark)) st
            ≡ found (find can (indexes (64 * (j + 1)) (64 * n)))
            → perform me (claim_in_word s c mark j >>= found_or (seek_to w (j + 1) (claim_in_word s c mark))) st
            ≡ found (or_else o (find can (indexes (64 * (j + 1)) (64 * n))))
        by_word None here rest =
            perform_then_on me (claim_in_word s c mark j) (found_or (seek_to w (j + 1) (claim_in_word s c mark))) st
            None st here ∙ rest
        by_word (Some i) here rest =
            perform_then_on me (claim_in_word s c mark j) (found_or (seek_to w (j + 1) (claim_in_word s c mark))) st
            (Some (next_at i)) (claimed_again i) here

    pub search-performed : perform me (search_free s c mark) st ≡ found (find (λ i. st.free s.0 i) (below mark))
    search-performed =
        let w = words_below mark in
        let covers : 64 * w ≡ mark + (64 * w - mark) = (let enough : mark ≤ 64 * ((mark + 63) / 64) = omega arith in
        omega arith) in
        words-performed w w 0 (omega arith)
        ∙ ap found (ap (find can) (indexes-below (64 * w) ∙ (ap below covers ∙ below-indexes mark (64 * w - mark)))
        ∙ (find-append can (below mark) (indexes mark (64 * w - mark))
        ∙ ((λ j. or_else
        (find-same can (λ i. st.free s.0 i) mark
        (λ i low. and_low (st.free s.0 i) (nat_lt i mark) (lt-ltb i mark low)) j)
        (find-none can mark (64 * w - mark) (λ k above. and_high (st.free s.0 k) (nat_lt k mark) (le-ltb k mark above))
        j))
        ∙ or_nothing (find (λ i. st.free s.0 i) (below mark)))))
      where
        and_low : (f b : Bool) → b ≡ true → (f && b) ≡ f
        and_low true b is = is
        and_low false b is = refl

        and_high : (f b : Bool) → b ≡ false → (f && b) ≡ false
        and_high true b is = is
        and_high false b is = refl

        or_nothing : (o : Option ℕ) → or_else o None ≡ o
        or_nothing None = refl
        or_nothing (Some i) = refl

-- ---- an index that never had a key

module _ (st : State) (me : CallerNo) (s : SelNo) (c : ChanNo)
    (exact : (i : ℕ) → (st.key s.0 i).claimed ≡ nat_lt i (st.keys_high s.0))
    (unpinned : (i : ℕ) → st.pinned s.0 i me.0 ≡ false) where
  abbrev top : ℕ
  top = st.keys_high s.0

  -- the index at the high-water mark is claimed, with a pin
  abbrev pub claimed_first : State
  claimed_first = record st {
    key = put_at st.key s.0 top (new_key c 0);
    pinned = put_at st.pinned s.0 top (put (st.pinned s.0 top) me.0 true);
  }

  claims : Bool → ℕ → Performed (Option KeyId)
  claims b i = record {
    answer = if b then None else Some (record { index = i; serial = 0 });
    state = with_pin (with_key st s.0 i (if b then st.key s.0 i else new_key c 0)) s.0 i me.0
        (st.pinned s.0 i me.0 || not b);
  }

  at_high : perform me (claim_new s c top) st ≡ record {
    answer = Some (record { index = top; serial = 0 });
    state = claimed_first;
  }
  unfolding claims
  at_high =
      ap (λ b. claims b top) (exact top ∙ le-ltb top top (omega arith))
      ∙ (λ j. record {
        answer = Some (record { index = top; serial = 0 });
        state =
            record claimed_first {
              pinned = put_at st.pinned s.0 top (put (st.pinned s.0 top) me.0 (unpinned top j || true));
            };
      })

  pub first-performed : (l : Limits) → top < l.keys → perform me (seek_to l.keys top (claim_new s c)) st ≡ record {
    answer = Some (record { index = top; serial = 0 });
    state = claimed_first;
  }
  first-performed l room =
      ap (λ plan. perform me plan st) (seek_to-turn l.keys top (claim_new s c) room)
      ∙ perform_then_on me (claim_new s c top) (found_or (seek_to l.keys (top + 1) (claim_new s c))) st
      (Some (record { index = top; serial = 0 })) claimed_first at_high

  pub full-performed : (l : Limits) → l.keys ≤ top → perform me (seek_to l.keys top (claim_new s c)) st ≡ record {
    answer = None;
    state = st;
  }
  full-performed l full = ap (λ plan. perform me plan st) (seek_to-done l.keys top (claim_new s c) full)
