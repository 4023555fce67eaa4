-- The kinds of step on an attachment's word do to it what they do to the attachment.
use Rattle.std.proofs.Common.{ℕ, ◌^◌, ◌<◌, refl, sym}
use Rattle.nio_base.specs.declared.limits.Limits.{Limits}
use Rattle.nio_base.specs.declared.numbers.CallerNo.{CallerNo}
use Rattle.nio_base.specs.declared.numbers.SelNo.{SelNo}
use Rattle.nio_history.proofs.Put.{put_at-same}
use Rattle.nio_history.specs.Conditions.{IsKey}
use Rattle.nio_history.specs.declared.act.Act.TheVariants.{SwapNote, LookNote}
use Rattle.nio_words.specs.Moves.{Moves}
use Rattle.nio_words.specs.declared.instruction.Instruction.TheVariants.{Load, Swap}
use Rattle.nio_words.specs.declared.part.Part.TheVariants.{Note}
use Rattle.nio_words.proofs.Looks.{looks}

pub swap_note_moves : (l : Limits) (me : CallerNo) (s : SelNo) (i att : ℕ) → IsKey l s i → att < 2 ^ 64
    → Moves l me (Note s.0 i) (Swap att) (λ n. SwapNote s i att n)
swap_note_moves l me s i att is_key fits = record {
  within = is_key;
  bit = tt;
  part = λ n. refl;
  word = λ st now. sym (put_at-same st.note s.0 i att);
  small = λ n small. fits;
  proper = λ st now. tt;
  answers = λ st now. refl;
}

pub look_note_moves : (l : Limits) (me : CallerNo) (s : SelNo) (i : ℕ) → IsKey l s i
    → Moves l me (Note s.0 i) Load (λ n. LookNote s i n)
look_note_moves l me s i is_key =
    looks is_key (λ n. refl) (λ st n. refl) (λ st n proper. proper)
    (λ st now. refl)
