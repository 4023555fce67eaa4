-- The kinds of step on the word of a channel's enrolled key do to it what they do to what is enrolled.
use Rattle.std.proofs.Common.{◌+◌, ◌^◌, ◌<◌, Some, refl, ap, sym, subst, arith}
use Rattle.std.specs.Option.{IfSome}
use Rattle.nio_base.specs.declared.limits.Limits.{Limits}
use Rattle.nio_base.specs.declared.numbers.CallerNo.{CallerNo}
use Rattle.nio_base.specs.declared.numbers.ChanNo.{ChanNo}
use Rattle.nio_base.specs.declared.numbers.KeyId.{KeyId}
use Rattle.nio_base.specs.declared.numbers.SelNo.{SelNo}
use Rattle.nio_history.proofs.Put.{put_at-same}
use Rattle.nio_history.specs.Conditions.{IsChannel, IsSelector}
use Rattle.nio_history.specs.Questions.{enrolled_key}
use Rattle.nio_history.specs.declared.act.Act.TheVariants.{LookReg, Enrol}
use Rattle.nio_words.proofs.Fields.{reads_enrolled}
use Rattle.nio_words.specs.Decodings.{enrolled_of}
use Rattle.nio_words.specs.Encodings.{enrolled_word}
use Rattle.nio_words.specs.Moves.{Moves}
use Rattle.nio_words.specs.declared.instruction.Instruction.TheVariants.{Load, Swap}
use Rattle.nio_words.specs.declared.part.Part.TheVariants.{Enrolled}
use Rattle.nio_words.proofs.Looks.{looks}

pub look_reg_moves : (l : Limits) (me : CallerNo) (c : ChanNo) (s : SelNo) → IsChannel l c → IsSelector l s
    → Moves l me (Enrolled c.0 s.0) Load (λ n. LookReg c s (enrolled_of n))
look_reg_moves l me c s is_channel is_selector =
    looks (is_channel, is_selector) (λ n. refl) (λ st n. refl) (λ st n proper. proper)
    (λ st now. ap enrolled_key (reads_enrolled (st.enrolled c.0 s.0) now.proper))

pub enrol_moves : (l : Limits) (me : CallerNo) (c : ChanNo) (s : SelNo) (k : KeyId) → IsChannel l c → IsSelector l s
    → k.index + 1 < 2 ^ 32 → k.serial < 2 ^ 32
    → Moves l me (Enrolled c.0 s.0) (Swap (enrolled_word (Some k))) (λ n. Enrol c s k.index k.serial (enrolled_of n))
enrol_moves l me c s k is_channel is_selector few serial = record {
  within = (is_channel, is_selector);
  bit = tt;
  part = λ n. refl;
  word = λ st now. ap enrolled_word (sym (put_at-same st.enrolled c.0 s.0 (Some k)));
  small = λ n small. omega arith;
  proper = λ st now. subst (λ o. IfSome o (λ x. x.index + 1 < 2 ^ 32)) (sym (put_at-same st.enrolled c.0 s.0 (Some k)))
      few;
  answers = λ st now. ap enrolled_key (reads_enrolled (st.enrolled c.0 s.0) now.proper);
}
