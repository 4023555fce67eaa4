-- The marks of a `told`, one after the other: the state after so many of them is the documented one for that part of
-- the looked list, and as many were updated.
use Rattle.std.proofs.Common.{◌≡◌, ℕ, ◌+◌, ◌<◌, ◌==◌, Bool, true, false, cond, not, ◌&&◌, ◌||◌, List, [], ◌∷◌, ◌++◌}
use Rattle.std.proofs.Common.{map, count_by, bit_and, refl, ap, sym, ◌∙◌, subst, arith, eqb-true, eq-eqb, bit_or}
use Rattle.std.proofs.lemmas.Bool.{both_ways, and_parts, or_left, or_right, not-true, cond-true, cond-false}
use Rattle.std.proofs.lemmas.List.{map-append}
use Rattle.std.proofs.lemmas.List.Elements.{All-map, All-head, All-tail}
use Rattle.std.proofs.lemmas.List.Folds.{list_any-append}
use Rattle.std.proofs.lemmas.List.Sums.{sum_by-append, sum_by-cons}
use Rattle.std.specs.List.{AllPairs, list_any}
use lib.Bits.{and_zero_r, or_zero_l, or_zero_r}
use Rattle.nio_base.specs.declared.numbers.CallerNo.{CallerNo}
use Rattle.nio_base.specs.declared.numbers.KeyId.{KeyId}
use Rattle.nio_history.specs.Sets.{fits, in_key_set, is_in_key_set}
use Rattle.nio_history.specs.State.{State, with_mark}
use Rattle.nio_history.specs.declared.found.Mark.{Mark}
use Rattle.nio_plain.proofs.Lists.{same-is, same-key, other-index, AreBelow, looked_interest-absent}
use Rattle.nio_plain.proofs.Lists.{looked_interest-last, looked_interest-others}
use Rattle.nio_plain.specs.Seq.Names.{is_same_key, key_at}
use Rattle.nio_plain.specs.Seq.Selections.{all_told, looked_interest, told_bits, is_looked, marked, is_updated}
use Rattle.nio_plain.specs.Seq.Selections.{with_marks}
use Rattle.nio_steps.proofs.Lists.{pairs-before}
use Rattle.nio_steps.proofs.PerformLaws.{perform_then_on, perform_over}
use Rattle.nio_steps.specs.Perform.{perform}
use Rattle.nio_steps.specs.Plan.{Plan}
use Rattle.nio_steps.specs.SelectCalls.{Selection, told_at, told_bits as told_bits_of, one_if, mark_told, mark_entry}
use Rattle.nio_steps.specs.Sweeps.{sweep_over}
use Rattle.nio_steps.specs.declared.looked.LookedKey.{LookedKey}
use Rattle.nio_serial.proofs.Marks.{or_self, told-is, mark-performed}
use Rattle.nio_serial.proofs.Removing.{put_at-is}
use Rattle.nio_serial.specs.Documented.{settled_mark, looked_pair}
use Rattle.nio_serial.specs.Laws.{by_key}
use Rattle.nio_serial.specs.Lines.{by_index}

-- the interest of a key in a rising list
interest-middle : (past : List (KeyId × ℕ)) (p : KeyId × ℕ) (later : List (KeyId × ℕ)) → AreBelow past p.0.index
    → looked_interest (past ++ p ∷ later) p.0 ≡ p.1
interest-middle [] p later low = cond-true (is_same_key p.0 p.0) p.1 (looked_interest later p.0) (same-key p.0)
interest-middle (q ∷ past) p later low =
    let less : q.0.index < p.0.index = All-head (λ (r : KeyId × ℕ). r.0.index < p.0.index) q past low in
    cond-false (is_same_key q.0 p.0) q.1 (looked_interest (past ++ p ∷ later) p.0)
    (other-index q.0 p.0 (λ e. omega arith))
    ∙ interest-middle past p later (All-tail (λ (r : KeyId × ℕ). r.0.index < p.0.index) q past low)

pub looked-middle : (past : List (KeyId × ℕ)) (p : KeyId × ℕ) (later : List (KeyId × ℕ))
    → is_looked (past ++ p ∷ later) p.0 ≡ true
looked-middle past p later =
    list_any-append (λ (q : KeyId × ℕ). is_same_key q.0 p.0) past (p ∷ later)
    ∙ or_right (list_any (λ (q : KeyId × ℕ). is_same_key q.0 p.0) past) (is_same_key p.0 p.0 || is_looked later p.0)
    (or_left (is_same_key p.0 p.0) (is_looked later p.0) (same-key p.0))

-- a looked key is the present one of its index
serial-at : (st : State) (s : ℕ) (k : KeyId) → is_in_key_set (st.key s k.index) k.serial ≡ true
    → (st.key s k.index).serial ≡ k.serial
serial-at st s k in_set =
    let fit = (and_parts (fits (st.key s k.index) k.serial) (in_key_set (st.key s k.index)) in_set).0 in
    eqb-true (st.key s k.index).serial k.serial
    (and_parts (st.key s k.index).claimed ((st.key s k.index).serial == k.serial) fit).1

-- the told pairs by index tell of each looked key what the pairs by key do
pub by_index-tells : (st : State) (x : Selection) (pairs : List (KeyId × ℕ))
    → ((k : KeyId) → is_looked (map looked_pair x.looked) k ≡ true
    → is_in_key_set (st.key x.selector.0 k.index) k.serial ≡ true)
    → (k : KeyId) → is_looked (map looked_pair x.looked) k ≡ true
    → told_at (by_index x pairs) k.index ≡ all_told pairs k
by_index-tells st x pairs in_set k there = told-is (map looked_pair x.looked) apart k there pairs
  where
    apart : (m n : KeyId) → is_looked (map looked_pair x.looked) m ≡ true
        → is_looked (map looked_pair x.looked) n ≡ true → m.index ≡ n.index → m.serial ≡ n.serial
    apart m n first second same =
        sym (serial-at st x.selector.0 m (in_set m first))
        ∙ (ap (λ i. (st.key x.selector.0 i).serial) same ∙ serial-at st x.selector.0 n (in_set n second))

-- and the pairs by key that are made of told pairs by index do too
pub by_key-tells : (x : Selection) (told : List (ℕ × ℕ)) (k : KeyId) → is_looked (map looked_pair x.looked) k ≡ true
    → told_at told k.index ≡ all_told (by_key x told) k
by_key-tells x told k there = sym (gathered x.looked ∙ ap (λ b. cond b (told_at told k.index) 0) there)
  where
    once : (b : Bool) (n : ℕ) → bit_or n (cond b n 0) ≡ n
    once true n = or_self n
    once false n = or_zero_r n

    gathered : (xs : List LookedKey)
        → all_told (map (λ (e : LookedKey). ((looked_pair e).0, told_at told e.index)) xs) k
        ≡ cond (is_looked (map looked_pair xs) k) (told_at told k.index) 0
    gathered [] = refl
    gathered (e ∷ xs) =
        ap (λ n. bit_or (cond (is_same_key (looked_pair e).0 k) (told_at told e.index) 0) n) (gathered xs)
        ∙ by_same (is_same_key (looked_pair e).0 k) refl
      where
        by_same : (b : Bool) → is_same_key (looked_pair e).0 k ≡ b
            → bit_or (cond b (told_at told e.index) 0)
            (cond (is_looked (map looked_pair xs) k) (told_at told k.index) 0)
            ≡ cond (b || is_looked (map looked_pair xs) k) (told_at told k.index) 0
        by_same true same =
            ap (λ i. bit_or (told_at told i) (cond (is_looked (map looked_pair xs) k) (told_at told k.index) 0))
            (ap (λ m. m.index) (same-is (looked_pair e).0 k same))
            ∙ once (is_looked (map looked_pair xs) k) (told_at told k.index)
        by_same false other = or_zero_l (cond (is_looked (map looked_pair xs) k) (told_at told k.index) 0)

-- `told` is what the poller told by index, and `pairs` by key: of each looked key the same
module _ (st : State) (me : CallerNo) (x : Selection) (pairs : List (KeyId × ℕ)) (told : List (ℕ × ℕ))
    (rises : AllPairs (λ (a b : LookedKey). a.index < b.index) x.looked)
    (in_set : (k : KeyId) → is_looked (map looked_pair x.looked) k ≡ true
    → is_in_key_set (st.key x.selector.0 k.index) k.serial ≡ true)
    (tells : (k : KeyId) → is_looked (map looked_pair x.looked) k ≡ true
    → told_at told k.index ≡ all_told pairs k) where
  abbrev s : ℕ
  s = x.selector.0

  abbrev looked : List (KeyId × ℕ)
  looked = map looked_pair x.looked

  -- a looked key is the present one of its index
  pub serial-is : (k : KeyId) → is_looked looked k ≡ true → (st.key s k.index).serial ≡ k.serial
  serial-is k there = serial-at st s k (in_set k there)

  pub not-removed : (k : KeyId) → is_looked looked k ≡ true → (st.key s k.index).removed ≡ false
  not-removed k there =
      let set = (and_parts (fits (st.key s k.index) k.serial) (in_key_set (st.key s k.index)) (in_set k there)).1 in
      not-true (st.key s k.index).removed
      (and_parts (st.key s k.index).published (not (st.key s k.index).removed) set).1

  -- whether a looked key is updated, as a script sees it
  abbrev pub updated : KeyId × ℕ → Bool
  updated p = is_updated (settled_mark (st.key s p.0.index) (st.mark s p.0.index)) (told_bits looked pairs p.0)

  abbrev pub stands : List LookedKey → State
  stands past = with_marks st s (map looked_pair past) pairs

  abbrev pub counts : List LookedKey → ℕ
  counts past = count_by updated (map looked_pair past)

  module _ (past : List LookedKey) (e : LookedKey) (later : List LookedKey) (parts : x.looked ≡ past ++ e ∷ later) where
    abbrev p : KeyId × ℕ
    p = looked_pair e

    abbrev before : List (KeyId × ℕ)
    before = map looked_pair past

    abbrev m : Mark
    m = st.mark s e.index

    abbrev bits : ℕ
    bits = told_bits_of told e

    all-is : looked ≡ before ++ p ∷ map looked_pair later
    all-is = ap (map looked_pair) parts ∙ map-append looked_pair past (e ∷ later)

    there : is_looked looked p.0 ≡ true
    there = ap (λ xs. is_looked xs p.0) all-is ∙ looked-middle before p (map looked_pair later)

    low : AreBelow before e.index
    low = All-map (λ (q : KeyId × ℕ). q.0.index < e.index) looked_pair past
        (pairs-before (λ (a b : LookedKey). a.index < b.index) past e later
        (subst (AllPairs (λ (a b : LookedKey). a.index < b.index)) parts rises))

    key-is : key_at st s e.index ≡ p.0
    key-is = λ j. record { index = e.index; serial = serial-is p.0 there j }

    told-here : told_at told e.index ≡ all_told pairs p.0
    told-here = tells p.0 there

    -- nothing was told of its index before
    mark-before : (stands past).mark s e.index ≡ m
    mark-before =
        cond-true (s == s) (marked m (told_bits before pairs (key_at st s e.index))) m (eq-eqb s s refl)
        ∙ ap (marked m)
        (ap (bit_and (all_told pairs (key_at st s e.index)))
        (looked_interest-absent before (key_at st s e.index) low)
        ∙ and_zero_r (all_told pairs (key_at st s e.index)))

    mark-after : marked m bits ≡ (stands (past ++ e ∷ [])).mark s e.index
    mark-after = sym (
        cond-true (s == s) (marked m (told_bits (map looked_pair (past ++ e ∷ [])) pairs (key_at st s e.index))) m
        (eq-eqb s s refl)
        ∙ ap (marked m) ((λ j. told_bits (map-append looked_pair past (e ∷ []) j) pairs (key-is j))
        ∙ (λ j. bit_and (sym told-here j) (looked_interest-last before p low j))))

    others : (t i : ℕ) → ((t == s) && (i == e.index)) ≡ false
        → (stands past).mark t i ≡ (stands (past ++ e ∷ [])).mark t i
    others t i other = by_selector (t == s) other
      where
        by_selector : (b : Bool) → (b && (i == e.index)) ≡ false
            → cond b (marked (st.mark t i) (told_bits before pairs (key_at st t i))) (st.mark t i)
            ≡ cond b (marked (st.mark t i) (told_bits (map looked_pair (past ++ e ∷ [])) pairs (key_at st t i)))
            (st.mark t i)
        by_selector true ne =
            ap (λ n. marked (st.mark t i) (bit_and (all_told pairs (key_at st t i)) n))
            (sym (looked_interest-others before p (key_at st t i)
            (other-index p.0 (key_at st t i) (λ same. both_ways (i == e.index) ne (eq-eqb i e.index (sym same)))))
            ∙ ap (λ xs. looked_interest xs (key_at st t i)) (sym (map-append looked_pair past (e ∷ []))))
        by_selector false ne = refl

    updated-is : is_updated m bits ≡ updated p
    updated-is = λ j. is_updated (record m { selected = not (sym (not-removed p.0 there) j) && m.selected })
        (bit_and (told-here j)
        (sym (ap (λ xs. looked_interest xs p.0) all-is ∙ interest-middle before p (map looked_pair later) low) j))

    count-is : counts past + one_if (is_updated m bits) ≡ counts (past ++ e ∷ [])
    count-is =
        ap (λ b. counts past + one_if b) updated-is
        ∙ sym (ap (count_by updated) (map-append looked_pair past (e ∷ []))
        ∙ (sum_by-append (λ q. cond (updated q) 1 0) before (p ∷ []) ∙ ap (λ n. counts past + n) last))
      where
        last : count_by updated (p ∷ []) ≡ one_if (updated p)
        last = sum_by-cons (λ q. cond (updated q) 1 0) p [] ∙ omega arith

    turn : perform me (mark_entry x.selector told e (counts past)) (stands past) ≡ record {
      answer = counts (past ++ e ∷ []);
      state = stands (past ++ e ∷ []);
    }
    turn =
        perform_then_on me (mark_told x.selector e.index bits) (λ n. Plan.reply (counts past + n)) (stands past) _ _
        (mark-performed (stands past) me x.selector e.index bits)
        ∙ (ap (λ y. record {
          answer = counts past + one_if (is_updated y bits);
          state =
              with_mark (stands past) s e.index (marked y bits);
        }) mark-before
        ∙ (λ j. record {
          answer = count-is j;
          state =
              record st {
                mark = λ t i. put_at-is (stands past).mark (stands (past ++ e ∷ [])).mark s e.index
                    (marked m bits) mark-after others t i j;
              };
        }))

  pub marks-performed : perform me (sweep_over x.looked (mark_entry x.selector told) 0) st ≡ record {
    answer = counts x.looked;
    state = stands x.looked;
  }
  marks-performed =
      ap (perform me (sweep_over x.looked (mark_entry x.selector told) 0)) unmarked_yet
      ∙ perform_over me x.looked (mark_entry x.selector told) counts stands turn
    where
      same : (b : Bool) (y : Mark) → cond b y y ≡ y
      same true y = refl
      same false y = refl

      unmarked_yet : st ≡ stands []
      unmarked_yet =
          λ j. record st {
            mark = λ t i.
                (sym (ap (λ n. cond (t == s) (marked (st.mark t i) n) (st.mark t i))
                (and_zero_r (all_told pairs (key_at st t i))) ∙ same (t == s) (st.mark t i))) j;
          }
