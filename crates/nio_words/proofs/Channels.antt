-- The kinds of step on a channel's word do to it what they do to the channel.
use Rattle.std.proofs.Common.{◌≡◌, ℕ, suc, ◌^◌, ◌<◌, ◌==◌, Bool, true, false, not, if◌then◌else◌, refl, ap, sym, ◌∙◌}
use Rattle.std.proofs.Common.{subst, arith}
use Rattle.std.specs.Int.{bit_not, w64}
use Rattle.std.proofs.lemmas.Nat.{or_lt, and_le_l}
use Rattle.nio_base.specs.declared.kind.Kind.{Kind}
use Rattle.nio_base.specs.declared.limits.Limits.{Limits}
use Rattle.nio_base.specs.declared.numbers.CallerNo.{CallerNo}
use Rattle.nio_base.specs.declared.numbers.ChanNo.{ChanNo}
use Rattle.nio_history.proofs.Put.{put-same}
use Rattle.nio_history.proofs.Soundness.{legal-sound}
use Rattle.nio_history.specs.Acts.{new_channel, closed_from}
use Rattle.nio_history.specs.Conditions.{IsChannel}
use Rattle.nio_history.specs.Questions.{flag, channel}
use Rattle.nio_history.specs.Sound.{IsSound}
use Rattle.nio_base.specs.Numbers.{last_serial}
use Rattle.nio_history.specs.State.{State, unmade_channel}
use Rattle.nio_history.specs.declared.act.Act.TheVariants.{MakeChannel, LookChannel, SetMode, CloseBit, Reopen}
use Rattle.nio_history.specs.declared.found.Chan.{Chan as Channel}
use Rattle.nio_words.proofs.ChannelWords.{channel_word-lt, serial-lt, reads_made, reads_channel, unblocks_channel}
use Rattle.nio_words.proofs.ChannelWords.{blocks_channel, makes_channel, closes_channel, same_words, exchanges_channel}
use Rattle.nio_words.proofs.Fields.{exchange_small}
use Rattle.nio_words.proofs.Looks.{looks}
use Rattle.nio_words.specs.Decodings.{is_set, chan_of, is_other_channel}
use Rattle.nio_words.specs.Encodings.{channel_word}
use Rattle.nio_words.specs.Instructions.{put_bit}
use Rattle.nio_words.specs.Moves.{IsMoment, Moves}
use Rattle.nio_words.specs.declared.instruction.Instruction.TheVariants.{Load, Max, Exchange}
use Rattle.nio_words.specs.declared.part.Part.TheVariants.{Chan}

pub make_channel_moves : (l : Limits) (me : CallerNo) (c : ChanNo) (kind : Kind) → IsChannel l c
    → Moves l me (Chan c.0) (Exchange 0 (channel_word (new_channel kind 0))) (λ n. MakeChannel c kind (is_set n 0))
make_channel_moves l me c kind below = record {
  within = below;
  bit = tt;
  part = λ n. refl;
  word = λ st now. makes_channel (st.chan c.0) kind (bare st now)
      ∙ ap channel_word
      (sym (put-same st.chan c.0
      (if is_set (channel_word (st.chan c.0)) 0 then st.chan c.0 else new_channel kind 0)));
  small = λ n small. exchange_small 0 (channel_word (new_channel kind 0)) n (2 ^ 64)
      (channel_word-lt (new_channel kind 0) (omega arith)) small;
  proper = λ st now. tt;
  answers = λ st now. ap flag (reads_made (st.chan c.0));
}
  where
    bare : (st : State) → IsMoment l me (Chan c.0) (λ n. MakeChannel c kind (is_set n 0)) st
        → (st.chan c.0).made ≡ false → st.chan c.0 ≡ unmade_channel
    bare st now e = (subst IsSound now.leaves (legal-sound l now.past now.legal)).unmade_bare c.0 e

pub look_channel_moves : (l : Limits) (me : CallerNo) (c : ChanNo) → IsChannel l c
    → Moves l me (Chan c.0) Load (λ n. LookChannel c (chan_of n))
look_channel_moves l me c below =
    looks below (λ n. refl) (λ st n. refl) (λ st n proper. proper)
    (λ st now. ap channel (reads_channel (st.chan c.0)))

pub set_mode_moves : (l : Limits) (me : CallerNo) (c : ChanNo) (blocking : Bool) → IsChannel l c
    → Moves l me (Chan c.0) (put_bit 5 (not blocking)) (λ n. SetMode c blocking (chan_of n))
set_mode_moves l me c false below = record {
  within = below;
  bit = omega arith;
  part = λ n. refl;
  word = λ st now. unblocks_channel (st.chan c.0)
      ∙ ap channel_word (sym (put-same st.chan c.0 (record (st.chan c.0) { blocking = false })));
  small = λ n small. or_lt 64 n 32 small (omega arith);
  proper = λ st now. tt;
  answers = λ st now. ap channel (reads_channel (st.chan c.0));
}
set_mode_moves l me c true below = record {
  within = below;
  bit = omega arith;
  part = λ n. refl;
  word = λ st now. blocks_channel (st.chan c.0) (serial-lt (st.chan c.0) now.small)
      ∙ ap channel_word (sym (put-same st.chan c.0 (record (st.chan c.0) { blocking = true })));
  small = λ n small. let less = and_le_l n (bit_not w64 32) in omega arith;
  proper = λ st now. tt;
  answers = λ st now. ap channel (reads_channel (st.chan c.0));
}

pub close_bit_moves : (l : Limits) (me : CallerNo) (c : ChanNo) (from : Channel) → IsChannel l c
    → from.serial < 2 ^ 32
    → Moves l me (Chan c.0) (Max (channel_word (record from { closed = true }))) (λ n. CloseBit c from (chan_of n))
close_bit_moves l me c from below few = record {
  within = below;
  bit = tt;
  part = λ n. refl;
  word = λ st now.
      let was_open = (now.condition 0).1 in
      closes_channel from (st.chan c.0) was_open.made was_open.kind was_open.was
      ∙ ap channel_word (sym (put-same st.chan c.0 (closed_from from (st.chan c.0))));
  small = λ n small. let closed = channel_word-lt (record from { closed = true }) few in omega arith;
  proper = λ st now. tt;
  answers = λ st now. ap channel (reads_channel (st.chan c.0));
}

pub reopen_moves : (l : Limits) (me : CallerNo) (c : ChanNo) (from : Channel) (next : ℕ) → next ≡ suc from.serial
    → IsChannel l c → from.serial < last_serial
    → Moves l me (Chan c.0) (Exchange (channel_word from) (channel_word (new_channel from.kind next)))
    (λ n. Reopen c from (is_other_channel from n))
reopen_moves l me c from next is below few = record {
  within = below;
  bit = tt;
  part = λ n. refl;
  word = λ st now.
      let stands : Channel = st.chan c.0 in
      let other : Bool = is_other_channel from (channel_word stands) in
      exchanges_channel (channel_word stands == channel_word from) stands (new_channel from.kind next)
      ∙ (ap (λ (n : ℕ). channel_word (if other then stands else new_channel from.kind n)) is
      ∙ ap channel_word
      (sym (put-same st.chan c.0 (if other then stands else new_channel from.kind (suc from.serial)))));
  small = λ n small. exchange_small (channel_word from) (channel_word (new_channel from.kind next)) n (2 ^ 64)
      (channel_word-lt (new_channel from.kind next) (omega arith)) small;
  proper = λ st now. tt;
  answers = λ st now. ap (λ b. flag (not b)) (same_words (st.chan c.0) from);
}
