-- The kinds of step on a word that says who has something, a channel's hold, a selector's turn or its list, do to it
-- what they do to the hold, to the turn or to the list.
use Rattle.std.proofs.Common.{◌≡◌, ℕ, ◌+◌, ◌^◌, ◌<◌, Option, None, Some, refl, ap, sym, ◌∙◌, arith}
use Rattle.nio_base.specs.declared.limits.Limits.{Limits}
use Rattle.nio_base.specs.declared.numbers.CallerNo.{CallerNo}
use Rattle.nio_base.specs.declared.numbers.ChanNo.{ChanNo}
use Rattle.nio_base.specs.declared.numbers.SelNo.{SelNo}
use Rattle.nio_history.proofs.Put.{put-same}
use Rattle.nio_history.specs.Acts.{taken_by}
use Rattle.nio_history.specs.Conditions.{IsChannel, IsSelector}
use Rattle.nio_history.specs.Questions.{holder}
use Rattle.nio_history.specs.State.{put}
use Rattle.nio_history.specs.declared.act.Act.TheVariants.{TryHoldBit, Release, TakeTurn, GiveTurn, Enter}
use Rattle.nio_history.specs.declared.act.Act.TheVariants.{TakeList}
use Rattle.nio_words.proofs.Fields.{reads_holder, takes, exchange_small}
use Rattle.nio_words.specs.Decodings.{holder_of}
use Rattle.nio_words.specs.Encodings.{holder_word}
use Rattle.nio_words.specs.Instructions.{applied}
use Rattle.nio_words.specs.Moves.{Moves}
use Rattle.nio_words.specs.declared.instruction.Instruction.TheVariants.{Load, Swap, Exchange}
use Rattle.nio_words.specs.declared.part.Part.TheVariants.{Hold, Turn, Lister}
use Rattle.nio_words.proofs.Looks.{looks}

-- ---- who has number `i` of what `has` says: the exchange takes it where nobody has it, the swap gives it back

taken : (me : CallerNo) (has : ℕ → Option CallerNo) (i : ℕ) → holder_word (has i) < 2 ^ 32 + 1
    → applied (Exchange 0 (holder_word (Some me))) (holder_word (has i))
    ≡ holder_word (put has i (taken_by me (holder_of (holder_word (has i)))) i)
taken me has i small =
    takes me (has i)
    ∙ (ap (λ o. holder_word (taken_by me o)) (sym (reads_holder (has i) small))
    ∙ ap holder_word (sym (put-same has i (taken_by me (holder_of (holder_word (has i)))))))

taken_small : (me : CallerNo) → me.0 < 2 ^ 32 → (n : ℕ) → n < 2 ^ 32 + 1
    → applied (Exchange 0 (holder_word (Some me))) n < 2 ^ 32 + 1
taken_small me few n small = exchange_small 0 (me.0 + 1) n (2 ^ 32 + 1) (omega arith) small

given_back : (has : ℕ → Option CallerNo) (i : ℕ) → 0 ≡ holder_word (put has i None i)
given_back has i = ap holder_word (sym (put-same has i None))

-- ---- a channel's hold

pub try_hold_bit_moves : (l : Limits) (me : CallerNo) (c : ChanNo) → IsChannel l c → me.0 < 2 ^ 32
    → Moves l me (Hold c.0) (Exchange 0 (holder_word (Some me))) (λ n. TryHoldBit c (holder_of n))
try_hold_bit_moves l me c below few = record {
  within = below;
  bit = tt;
  part = λ n. refl;
  word = λ st now. taken me st.hold c.0 now.small;
  small = taken_small me few;
  proper = λ st now. tt;
  answers = λ st now. ap holder (reads_holder (st.hold c.0) now.small);
}

pub release_moves : (l : Limits) (me : CallerNo) (c : ChanNo) → IsChannel l c
    → Moves l me (Hold c.0) (Swap 0) (λ n. Release c)
release_moves l me c below = record {
  within = below;
  bit = tt;
  part = λ n. refl;
  word = λ st now. given_back st.hold c.0;
  small = λ n small. omega arith;
  proper = λ st now. tt;
  answers = λ st now. refl;
}

-- ---- a selector's turn

pub take_turn_moves : (l : Limits) (me : CallerNo) (s : SelNo) → IsSelector l s → me.0 < 2 ^ 32
    → Moves l me (Turn s.0) (Exchange 0 (holder_word (Some me))) (λ n. TakeTurn s (holder_of n))
take_turn_moves l me s below few = record {
  within = below;
  bit = tt;
  part = λ n. refl;
  word = λ st now. taken me st.turn s.0 now.small;
  small = taken_small me few;
  proper = λ st now. tt;
  answers = λ st now. ap holder (reads_holder (st.turn s.0) now.small);
}

pub give_turn_moves : (l : Limits) (me : CallerNo) (s : SelNo) → IsSelector l s
    → Moves l me (Turn s.0) (Swap 0) (λ n. GiveTurn s)
give_turn_moves l me s below = record {
  within = below;
  bit = tt;
  part = λ n. refl;
  word = λ st now. given_back st.turn s.0;
  small = λ n small. omega arith;
  proper = λ st now. tt;
  answers = λ st now. refl;
}

pub enter_moves : (l : Limits) (me : CallerNo) (s : SelNo) → IsSelector l s
    → Moves l me (Turn s.0) Load (λ n. Enter s (holder_of n))
enter_moves l me s below =
    looks below (λ n. refl) (λ st n. refl) (λ st n proper. proper)
    (λ st now. ap holder (reads_holder (st.turn s.0) now.small))

-- ---- a selector's list

pub take_list_moves : (l : Limits) (me : CallerNo) (s : SelNo) → IsSelector l s → me.0 < 2 ^ 32
    → Moves l me (Lister s.0) (Exchange 0 (holder_word (Some me))) (λ n. TakeList s (holder_of n))
take_list_moves l me s below few = record {
  within = below;
  bit = tt;
  part = λ n. refl;
  word = λ st now. taken me st.lister s.0 now.small;
  small = taken_small me few;
  proper = λ st now. tt;
  answers = λ st now. ap holder (reads_holder (st.lister s.0) now.small);
}
