-- The kinds of step on a gate do to its word what they do to the gate.
use Rattle.std.proofs.Common.{◌≡◌, ◌+◌, ◌*◌, Bool, true, false, refl, ap, sym, ◌∙◌, arith}
use Rattle.std.specs.Prelude.{bit_and, bit_or}
use Rattle.std.specs.Int.{bit_not, w64}
use Rattle.std.proofs.lemmas.Nat.{or_lt, and_le_l}
use Rattle.nio_base.specs.declared.limits.Limits.{Limits}
use Rattle.nio_base.specs.declared.numbers.CallerNo.{CallerNo}
use Rattle.nio_base.specs.declared.numbers.SelNo.{SelNo}
use Rattle.nio_history.proofs.Put.{put-same}
use Rattle.nio_history.specs.Conditions.{IsSelector}
use Rattle.nio_history.specs.Questions.{flag, gate_word as found_gate}
use Rattle.nio_history.specs.declared.act.Act.TheVariants.{Wake, LookGate, BeginLook, EndWake, ShutBit}
use Rattle.nio_history.specs.declared.found.GateWord.{GateWord}
use Rattle.nio_words.specs.Decodings.{is_set, gate_of}
use Rattle.nio_words.specs.Encodings.{bit, gate_word}
use Rattle.nio_words.specs.Moves.{Moves}
use Rattle.nio_words.specs.declared.instruction.Instruction.TheVariants.{Load, SetBit, ClearBit}
use Rattle.nio_words.specs.declared.part.Part.TheVariants.{Gate}
use Rattle.nio_words.proofs.Looks.{looks}

sets_woken : (woken shut : Bool) → bit_or (bit woken + 2 * bit shut) 1 ≡ 1 + 2 * bit shut
sets_woken true true = refl
sets_woken true false = refl
sets_woken false true = refl
sets_woken false false = refl

clears_woken : (woken shut : Bool) → bit_and (bit woken + 2 * bit shut) (bit_not w64 1) ≡ bit false + 2 * bit shut
clears_woken true true = refl
clears_woken true false = refl
clears_woken false true = refl
clears_woken false false = refl

sets_shut : (woken shut : Bool) → bit_or (bit woken + 2 * bit shut) 2 ≡ bit woken + 2
sets_shut true true = refl
sets_shut true false = refl
sets_shut false true = refl
sets_shut false false = refl

reads_woken : (woken shut : Bool) → is_set (bit woken + 2 * bit shut) 0 ≡ woken
reads_woken true true = refl
reads_woken true false = refl
reads_woken false true = refl
reads_woken false false = refl

reads_shut : (woken shut : Bool) → is_set (bit woken + 2 * bit shut) 1 ≡ shut
reads_shut true true = refl
reads_shut true false = refl
reads_shut false true = refl
reads_shut false false = refl

reads_gate : (g : GateWord) → gate_of (gate_word g) ≡ g
reads_gate g = λ k. record { woken = reads_woken g.woken g.shut k; shut = reads_shut g.woken g.shut k }

pub wake_moves : (l : Limits) (me : CallerNo) (s : SelNo) → IsSelector l s
    → Moves l me (Gate s.0) (SetBit 0) (λ n. Wake s (is_set n 0))
wake_moves l me s below = record {
  within = below;
  bit = omega arith;
  part = λ n. refl;
  word = λ st now. sets_woken (st.gate s.0).woken (st.gate s.0).shut
      ∙ ap gate_word (sym (put-same st.gate s.0 (record (st.gate s.0) { woken = true })));
  small = λ n small. or_lt 2 n 1 small (omega arith);
  proper = λ st now. tt;
  answers = λ st now. ap flag (reads_woken (st.gate s.0).woken (st.gate s.0).shut);
}

pub look_gate_moves : (l : Limits) (me : CallerNo) (s : SelNo) → IsSelector l s
    → Moves l me (Gate s.0) Load (λ n. LookGate s (gate_of n))
look_gate_moves l me s below =
    looks below (λ n. refl) (λ st n. refl) (λ st n proper. proper)
    (λ st now. ap found_gate (reads_gate (st.gate s.0)))

pub begin_look_moves : (l : Limits) (me : CallerNo) (s : SelNo) → IsSelector l s
    → Moves l me (Gate s.0) Load (λ n. BeginLook s (gate_of n))
begin_look_moves l me s below =
    looks below (λ n. refl) (λ st n. refl) (λ st n proper. proper)
    (λ st now. ap found_gate (reads_gate (st.gate s.0)))

pub end_wake_moves : (l : Limits) (me : CallerNo) (s : SelNo) → IsSelector l s
    → Moves l me (Gate s.0) (ClearBit 0) (λ n. EndWake s (gate_of n))
end_wake_moves l me s below = record {
  within = below;
  bit = omega arith;
  part = λ n. refl;
  word = λ st now. clears_woken (st.gate s.0).woken (st.gate s.0).shut
      ∙ ap gate_word (sym (put-same st.gate s.0 (record (st.gate s.0) { woken = false })));
  small = λ n small. let less = and_le_l n (bit_not w64 1) in omega arith;
  proper = λ st now. tt;
  answers = λ st now. ap found_gate (reads_gate (st.gate s.0));
}

pub shut_bit_moves : (l : Limits) (me : CallerNo) (s : SelNo) → IsSelector l s
    → Moves l me (Gate s.0) (SetBit 1) (λ n. ShutBit s (is_set n 1))
shut_bit_moves l me s below = record {
  within = below;
  bit = omega arith;
  part = λ n. refl;
  word = λ st now. sets_shut (st.gate s.0).woken (st.gate s.0).shut
      ∙ ap gate_word (sym (put-same st.gate s.0 (record (st.gate s.0) { shut = true })));
  small = λ n small. or_lt 2 n 2 small (omega arith);
  proper = λ st now. tt;
  answers = λ st now. ap flag (reads_shut (st.gate s.0).woken (st.gate s.0).shut);
}
