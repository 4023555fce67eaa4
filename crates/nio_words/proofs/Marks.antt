-- The kinds of step on a mark's word do to it what they do to the mark.
use Rattle.std.proofs.Common.{◌≡◌, ℕ, ◌+◌, ◌-◌, ◌*◌, ◌%◌, ◌^◌, ◌<◌, ◌==◌, Bool, true, false, if◌then◌else◌, refl, ap}
use Rattle.std.proofs.Common.{sym, ◌∙◌, subst, arith, eqb-true, eq-eqb, ne_eqb}
use Rattle.std.specs.Prelude.{bit_and, bit_or, Ok, Err}
use Rattle.std.specs.Bool.{beq}
use Rattle.std.specs.Int.{bit_not, w64}
use prog.Atomic.{either}
use Rattle.std.proofs.lemmas.Bool.{and_parts, and_from}
use Rattle.std.proofs.lemmas.Nat.{or_lt, and_le_l}
use Rattle.nio_base.specs.declared.limits.Limits.{Limits}
use Rattle.nio_base.specs.declared.numbers.CallerNo.{CallerNo}
use Rattle.nio_base.specs.declared.numbers.SelNo.{SelNo}
use Rattle.nio_history.proofs.Put.{put_at-same}
use Rattle.nio_history.specs.Acts.{selected_with, exchanged}
use Rattle.nio_history.specs.Answers.{is_same_mark}
use Rattle.nio_history.specs.Conditions.{IsKey}
use Rattle.nio_history.specs.Questions.{flag, key_mark, exchange}
use Rattle.nio_history.specs.State.{unmarked}
use Rattle.nio_history.specs.declared.act.Act.TheVariants.{LookMark, Mark as MarkKey, UnselectBit, ClearMark}
use Rattle.nio_history.specs.declared.found.Mark.{Mark as KeyMark}
use Rattle.nio_words.proofs.Fields.{bit-lt, reads, clears, exchange_small}
use Rattle.nio_words.specs.Decodings.{is_set, mark_of, exchange_found}
use Rattle.nio_words.specs.Encodings.{bit, mark_word}
use Rattle.nio_words.specs.Moves.{Moves}
use Rattle.nio_words.specs.declared.instruction.Instruction.TheVariants.{Load, ClearBit, Swap, Exchange}
use Rattle.nio_words.specs.declared.part.Part.TheVariants.{Mark}
use Rattle.nio_words.proofs.Looks.{looks}

reads_selected : (m : KeyMark) → m.ready < 256 → is_set (mark_word m) 8 ≡ m.selected
reads_selected m fits = let selected = bit-lt m.selected in reads (mark_word m) 8 m.selected (omega arith)

reads_mark : (m : KeyMark) → m.ready < 256 → mark_of (mark_word m) ≡ m
reads_mark m fits =
    let ready : mark_word m % 256 ≡ m.ready = omega arith in
    λ j. record { selected = reads_selected m fits j; ready = ready j }

unselects : (m : KeyMark) → m.ready < 256
    → bit_and (mark_word m) (bit_not w64 256) ≡ mark_word (record m { selected = false })
unselects m fits =
    let fields : mark_word m ≡ (0 * 2 + bit m.selected) * 2 ^ 8 + m.ready = omega arith in
    ap (λ (n : ℕ). bit_and n (bit_not w64 256)) fields
    ∙ (clears 8 0 (2 ^ 55 - 1) m.ready m.selected (omega arith) (omega arith) refl ∙ omega arith)

pub look_mark_moves : (l : Limits) (me : CallerNo) (s : SelNo) (i : ℕ) → IsKey l s i
    → Moves l me (Mark s.0 i) Load (λ n. LookMark s i (mark_of n))
look_mark_moves l me s i is_key =
    looks is_key (λ n. refl) (λ st n. refl) (λ st n proper. proper)
    (λ st now. ap key_mark (reads_mark (st.mark s.0 i) now.proper))

pub unselect_bit_moves : (l : Limits) (me : CallerNo) (s : SelNo) (i : ℕ) → IsKey l s i
    → Moves l me (Mark s.0 i) (ClearBit 8) (λ n. UnselectBit s i (is_set n 8))
unselect_bit_moves l me s i is_key = record {
  within = is_key;
  bit = omega arith;
  part = λ n. refl;
  word = λ st now. unselects (st.mark s.0 i) now.proper
      ∙ ap mark_word (sym (put_at-same st.mark s.0 i (record (st.mark s.0 i) { selected = false })));
  small = λ n small. let less = and_le_l n (bit_not w64 256) in omega arith;
  proper = λ st now. subst (λ m. m.ready < 256)
      (sym (put_at-same st.mark s.0 i (record (st.mark s.0 i) { selected = false }))) now.proper;
  answers = λ st now. ap flag (reads_selected (st.mark s.0 i) now.proper);
}

pub clear_mark_moves : (l : Limits) (me : CallerNo) (s : SelNo) (i : ℕ) → IsKey l s i
    → Moves l me (Mark s.0 i) (Swap 0) (λ n. ClearMark s i (mark_of n))
clear_mark_moves l me s i is_key = record {
  within = is_key;
  bit = tt;
  part = λ n. refl;
  word = λ st now. ap mark_word (sym (put_at-same st.mark s.0 i unmarked));
  small = λ n small. omega arith;
  proper = λ st now. subst (λ m. m.ready < 256) (sym (put_at-same st.mark s.0 i unmarked)) (omega arith);
  answers = λ st now. ap key_mark (reads_mark (st.mark s.0 i) now.proper);
}

-- ---- the exchange

beq-bits : (a b : Bool) → bit a ≡ bit b → beq a b ≡ true
beq-bits true true e = refl
beq-bits true false e = absurd (omega arith)
beq-bits false true e = absurd (omega arith)
beq-bits false false e = refl

bits-beq : (a b : Bool) → beq a b ≡ true → bit a ≡ bit b
bits-beq true true e = refl
bits-beq true false e = absurd cc
bits-beq false true e = absurd cc
bits-beq false false e = refl

-- two marks have the same word where they are the same
same_words : (x y : KeyMark) → x.ready < 256 → y.ready < 256 → (mark_word x == mark_word y) ≡ is_same_mark x y
same_words x y fits fits' = by_test (is_same_mark x y) refl
  where
    other : mark_word x ≡ mark_word y → is_same_mark x y ≡ true
    other same =
        let sx = bit-lt x.selected in
        let sy = bit-lt y.selected in
        and_from (beq x.selected y.selected) (x.ready == y.ready) (beq-bits x.selected y.selected (omega arith))
        (eq-eqb x.ready y.ready (omega arith))

    by_test : (b : Bool) → is_same_mark x y ≡ b → (mark_word x == mark_word y) ≡ b
    by_test true e =
        let both = and_parts (beq x.selected y.selected) (x.ready == y.ready) e in
        let selected : bit x.selected ≡ bit y.selected = bits-beq x.selected y.selected both.0 in
        let ready : x.ready ≡ y.ready = eqb-true x.ready y.ready both.1 in
        eq-eqb (mark_word x) (mark_word y) (omega (arith, selected, ready))
    by_test false e = ne_eqb (mark_word x) (mark_word y) (λ same. let clash : true ≡ false = sym (other same) ∙ e in cc)

exchanges_mark : (b : Bool) (stands made other : KeyMark)
    → either b (mark_word made) (mark_word stands) ≡ mark_word (exchanged stands made (if b then Ok tt else Err other))
exchanges_mark true stands made other = refl
exchanges_mark false stands made other = refl

exchanged-ready : (b : Bool) (stands made other : KeyMark) → stands.ready < 256 → made.ready < 256
    → (exchanged stands made (if b then Ok tt else Err other)).ready < 256
exchanged-ready true stands made other h h' = h'
exchanged-ready false stands made other h h' = h

selected-ready : (from : KeyMark) (told : ℕ) → from.ready < 256 → told < 256 → (selected_with from told).ready < 256
selected-ready from told h h' = by_test from.selected
  where
    by_test : (b : Bool) → (if b then bit_or from.ready told else told) < 256
    by_test true = or_lt 8 from.ready told h h'
    by_test false = h'

selected_word-lt : (from : KeyMark) (told : ℕ) → from.ready < 256 → told < 256
    → mark_word (selected_with from told) < 512
selected_word-lt from told h h' = let ready : (selected_with from told).ready < 256 =
    selected-ready from told h h' in omega (arith, ready)

found_mark : (stands from : KeyMark) → stands.ready < 256 → from.ready < 256
    → exchange_found from (mark_word stands) ≡ (if is_same_mark stands from then Ok tt else Err stands)
found_mark stands from h h' =
    ap (λ b. if b then Ok tt else Err (mark_of (mark_word stands))) (same_words stands from h h')
    ∙ ap (λ m. if is_same_mark stands from then Ok tt else Err m) (reads_mark stands h)

pub mark_moves : (l : Limits) (me : CallerNo) (s : SelNo) (i : ℕ) (from : KeyMark) (told : ℕ) → IsKey l s i
    → from.ready < 256 → told < 256
    → Moves l me (Mark s.0 i) (Exchange (mark_word from) (mark_word (selected_with from told)))
    (λ n. MarkKey s i from told (exchange_found from n))
mark_moves l me s i from told is_key h h' = record {
  within = is_key;
  bit = tt;
  part = λ n. refl;
  word = λ st now.
      exchanges_mark (mark_word (st.mark s.0 i) == mark_word from) (st.mark s.0 i) (selected_with from told)
      (mark_of (mark_word (st.mark s.0 i)))
      ∙ ap mark_word
      (sym (put_at-same st.mark s.0 i
      (exchanged (st.mark s.0 i) (selected_with from told) (exchange_found from (mark_word (st.mark s.0 i))))));
  small = λ n small. exchange_small (mark_word from) (mark_word (selected_with from told)) n 512
      (selected_word-lt from told h h') small;
  proper = λ st now.
      subst (λ m. m.ready < 256)
      (sym (put_at-same st.mark s.0 i
      (exchanged (st.mark s.0 i) (selected_with from told) (exchange_found from (mark_word (st.mark s.0 i))))))
      (exchanged-ready (mark_word (st.mark s.0 i) == mark_word from) (st.mark s.0 i) (selected_with from told)
      (mark_of (mark_word (st.mark s.0 i))) now.proper (selected-ready from told h h'));
  answers = λ st now. ap exchange (found_mark (st.mark s.0 i) from now.proper h);
}
