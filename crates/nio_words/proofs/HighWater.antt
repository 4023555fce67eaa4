-- The kinds of step on the words of the channels' and of a selector's keys' high-water marks do to these words
-- what they do to the high-water marks.
use Rattle.std.proofs.Common.{◌≡◌, ℕ, max, ◌^◌, ◌<◌, refl, ap, sym, arith}
use Rattle.nio_base.specs.declared.limits.Limits.{Limits}
use Rattle.nio_base.specs.declared.numbers.CallerNo.{CallerNo}
use Rattle.nio_base.specs.declared.numbers.SelNo.{SelNo}
use Rattle.nio_history.proofs.Put.{put-same}
use Rattle.nio_history.specs.Conditions.{IsSelector}
use Rattle.nio_history.specs.Questions.{number}
use Rattle.nio_history.specs.declared.act.Act.TheVariants.{LookChannels, RaiseChannels, LookKeys, RaiseKeys}
use Rattle.nio_words.specs.Decodings.{number_of}
use Rattle.nio_words.specs.Moves.{Moves}
use Rattle.nio_words.specs.declared.instruction.Instruction.TheVariants.{Load, Max}
use Rattle.nio_words.specs.declared.part.Part.TheVariants.{ChannelsHigh, KeysHigh}
use Rattle.nio_words.proofs.Looks.{looks}

reads_number : (n : ℕ) → n < 2 ^ 32 → number_of n ≡ n
reads_number n small = omega arith

pub look_channels_moves : (l : Limits) (me : CallerNo) → Moves l me ChannelsHigh Load (λ n. LookChannels (number_of n))
look_channels_moves l me =
    looks tt (λ n. refl) (λ st n. refl) (λ st n proper. proper)
    (λ st now. ap number (reads_number st.channels_high now.small))

pub raise_channels_moves : (l : Limits) (me : CallerNo) (k : ℕ) → k < 2 ^ 32
    → Moves l me ChannelsHigh (Max k) (λ n. RaiseChannels k (number_of n))
raise_channels_moves l me k few = record {
  within = tt;
  bit = tt;
  part = λ n. refl;
  word = λ st now. refl;
  small = λ n small. omega arith;
  proper = λ st now. tt;
  answers = λ st now. ap number (reads_number st.channels_high now.small);
}

pub look_keys_moves : (l : Limits) (me : CallerNo) (s : SelNo) → IsSelector l s
    → Moves l me (KeysHigh s.0) Load (λ n. LookKeys s (number_of n))
look_keys_moves l me s below =
    looks below (λ n. refl) (λ st n. refl) (λ st n proper. proper)
    (λ st now. ap number (reads_number (st.keys_high s.0) now.small))

pub raise_keys_moves : (l : Limits) (me : CallerNo) (s : SelNo) (k : ℕ) → IsSelector l s → k < 2 ^ 32
    → Moves l me (KeysHigh s.0) (Max k) (λ n. RaiseKeys s k (number_of n))
raise_keys_moves l me s k below few = record {
  within = below;
  bit = tt;
  part = λ n. refl;
  word = λ st now. sym (put-same st.keys_high s.0 (max (st.keys_high s.0) k));
  small = λ n small. omega arith;
  proper = λ st now. tt;
  answers = λ st now. ap number (reads_number (st.keys_high s.0) now.small);
}
