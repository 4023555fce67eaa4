-- The kinds of step on an index's word do to it what they do to the index's key and to the pins on it.
use Rattle.std.proofs.Common.{◌≡◌, ◌≢◌, ℕ, suc, ◌+◌, ◌-◌, ◌%◌, ◌^◌, ◌<◌, ◌==◌, Bool, true, false, not, ◌||◌}
use Rattle.std.proofs.Common.{if◌then◌else◌, List, [], refl, ap, sym, ◌∙◌, subst, arith, eqb-true, eq-eqb, ne_eqb}
use Rattle.std.proofs.lemmas.Bool.{eqb-false}
use Rattle.std.proofs.lemmas.Nat.{or_lt}
use prog.Atomic.{either}
use Rattle.nio_base.specs.Limits.{IsFit}
use Rattle.nio_base.specs.declared.limits.Limits.{Limits}
use Rattle.nio_base.specs.declared.numbers.CallerNo.{CallerNo}
use Rattle.nio_base.specs.declared.numbers.ChanNo.{ChanNo}
use Rattle.nio_base.specs.declared.numbers.SelNo.{SelNo}
use Rattle.nio_history.proofs.Legal.{legal_more}
use Rattle.nio_history.proofs.Put.{put_at-same}
use Rattle.nio_history.proofs.Soundness.{legal-sound}
use Rattle.nio_history.proofs.Within.{legal-within}
use Rattle.nio_history.specs.Acts.{new_key}
use Rattle.nio_history.specs.Answers.{count_below, pins, is_pinned, index_at}
use Rattle.nio_history.specs.Conditions.{Condition, IsCaller, IsKey}
use Rattle.nio_history.specs.Histories.{state_after, mine, event_of, IsStep, IsLegal}
use Rattle.nio_history.specs.Questions.{flag, stage, index_word}
use Rattle.nio_history.specs.Sound.{IsSound}
use Rattle.nio_history.specs.State.{State, put, put_at, unclaimed}
use Rattle.nio_history.specs.declared.act.Act.TheVariants.{LookKey, CancelKey, Claim, Publish, Remove, Pin, Unpin}
use Rattle.nio_history.specs.declared.act.Act.TheVariants.{ClaimAgain, LookIndex}
use Rattle.nio_history.specs.declared.found.IndexWord.{IndexWord}
use Rattle.nio_history.specs.declared.found.Stage.{Stage}
use Rattle.nio_history.proofs.PinLaws.{claims_again_the_removed}
use Rattle.nio_history.proofs.Counts.{count_none}
use Rattle.nio_words.proofs.Counting.{count_below-le, count_below-put, claimed_pins, same_pins}
use Rattle.nio_words.proofs.Fields.{exchanges, exchange_small}
use Rattle.nio_words.proofs.Stages.{reads_claimed, reads_stage, reads_pins, publishes_stage, cancels_stage, removes_stage}
use Rattle.nio_words.proofs.Stages.{pins_stage, unpins_stage, claimed_some, stage_word-lt}
use Rattle.nio_words.specs.Decodings.{is_set, stage_of, pins_of, index_of, was_pinned}
use Rattle.nio_words.specs.Encodings.{bit, stage_word}
use Rattle.nio_words.specs.Instructions.{applied}
use Rattle.nio_words.specs.Moves.{IsMoment, Moves}
use Rattle.nio_words.specs.declared.instruction.Instruction.TheVariants.{Load, SetBit, Add, Subtract, Exchange}
use Rattle.nio_words.specs.declared.part.Part.TheVariants.{Key}
use Rattle.nio_words.proofs.Looks.{looks}

-- there are at most 64 pins
few_pins : (st : State) (s i : ℕ) → pins st s i < 2 ^ 8
few_pins st s i = let few = count_below-le 64 (st.pinned s i) in omega arith

-- a step that changes the index's key alone
key_word : (st : State) (s i : ℕ) (k : Stage)
    → stage_word k (pins st s i) ≡ stage_word (put_at st.key s i k s i) (pins st s i)
key_word st s i k = ap (λ x. stage_word x (pins st s i)) (sym (put_at-same st.key s i k))

proper_key : (st : State) (s i : ℕ) (k : Stage) → k.chan.0 < 2 ^ 20 → (put_at st.key s i k s i).chan.0 < 2 ^ 20
proper_key st s i k fits = subst (λ x. x.chan.0 < 2 ^ 20) (sym (put_at-same st.key s i k)) fits

-- a step that changes the pins of one caller
pinned_word : (k : Stage) (pinned : ℕ → ℕ → ℕ → Bool) (s i : ℕ) (f : ℕ → Bool)
    → stage_word k (count_below 64 f) ≡ stage_word k (count_below 64 (put_at pinned s i f s i))
pinned_word k pinned s i f = ap (λ g. stage_word k (count_below 64 g)) (sym (put_at-same pinned s i f))

both_word : (key : ℕ → ℕ → Stage) (pinned : ℕ → ℕ → ℕ → Bool) (s i : ℕ) (k : Stage) (f : ℕ → Bool)
    → stage_word k (count_below 64 f) ≡ stage_word (put_at key s i k s i) (count_below 64 (put_at pinned s i f s i))
both_word key pinned s i k f =
    pinned_word k pinned s i f
    ∙ ap (λ x. stage_word x (count_below 64 (put_at pinned s i f s i))) (sym (put_at-same key s i k))

reads : (st : State) (s i : ℕ) → (st.key s i).chan.0 < 2 ^ 20
    → stage_of (stage_word (st.key s i) (pins st s i)) ≡ st.key s i
reads st s i fits = reads_stage (st.key s i) (pins st s i) (few_pins st s i) fits

abbrev word_with : Stage → Bool → IndexWord
word_with k pinned = record { stage = k; pinned = pinned }

reads_index : (st : State) (s i : ℕ) → (st.key s i).chan.0 < 2 ^ 20
    → index_of (stage_word (st.key s i) (pins st s i)) ≡ index_at st s i
reads_index st s i fits =
    ap (λ k. word_with k (not (pins_of (stage_word (st.key s i) (pins st s i)) == 0))) (reads st s i fits)
    ∙ ap (λ (n : ℕ). word_with (st.key s i) (not (n == 0)))
    (reads_pins (st.key s i) (pins st s i) (few_pins st s i) fits)

pub look_key_moves : (l : Limits) (me : CallerNo) (s : SelNo) (i : ℕ) → IsKey l s i
    → Moves l me (Key s.0 i) Load (λ n. LookKey s i (stage_of n))
look_key_moves l me s i is_key =
    looks is_key (λ n. refl) (λ st n. refl) (λ st n proper. proper)
    (λ st now. ap stage (reads st s.0 i now.proper))

pub look_index_moves : (l : Limits) (me : CallerNo) (s : SelNo) (i : ℕ) → IsKey l s i
    → Moves l me (Key s.0 i) Load (λ n. LookIndex s i (index_of n))
look_index_moves l me s i is_key =
    looks is_key (λ n. refl) (λ st n. refl) (λ st n proper. proper)
    (λ st now. ap index_word (reads_index st s.0 i now.proper))

pub cancel_key_moves : (l : Limits) (me : CallerNo) (s : SelNo) (i : ℕ) → IsKey l s i
    → Moves l me (Key s.0 i) (SetBit 2) (λ n. CancelKey s i (stage_of n))
cancel_key_moves l me s i is_key = record {
  within = is_key;
  bit = omega arith;
  part = λ n. refl;
  word = λ st now.
      cancels_stage (st.key s.0 i) (pins st s.0 i) (few_pins st s.0 i) now.proper
      ∙ key_word st s.0 i (record (st.key s.0 i) { cancelled = true });
  small = λ n small. or_lt 64 n 4 small (omega arith);
  proper = λ st now. proper_key st s.0 i (record (st.key s.0 i) { cancelled = true }) now.proper;
  answers = λ st now. ap stage (reads st s.0 i now.proper);
}

pub publish_moves : (l : Limits) (me : CallerNo) (s : SelNo) (i : ℕ) → IsKey l s i
    → Moves l me (Key s.0 i) (SetBit 1) (λ n. Publish s i (stage_of n))
publish_moves l me s i is_key = record {
  within = is_key;
  bit = omega arith;
  part = λ n. refl;
  word = λ st now.
      publishes_stage (st.key s.0 i) (pins st s.0 i) (few_pins st s.0 i) now.proper
      ∙ key_word st s.0 i (record (st.key s.0 i) { published = true });
  small = λ n small. or_lt 64 n 2 small (omega arith);
  proper = λ st now. proper_key st s.0 i (record (st.key s.0 i) { published = true }) now.proper;
  answers = λ st now. ap stage (reads st s.0 i now.proper);
}

pub remove_moves : (l : Limits) (me : CallerNo) (s : SelNo) (i : ℕ) → IsKey l s i
    → Moves l me (Key s.0 i) (SetBit 3) (λ n. Remove s i (stage_of n))
remove_moves l me s i is_key = record {
  within = is_key;
  bit = omega arith;
  part = λ n. refl;
  word = λ st now.
      removes_stage (st.key s.0 i) (pins st s.0 i) (few_pins st s.0 i) now.proper
      ∙ key_word st s.0 i (record (st.key s.0 i) { removed = true });
  small = λ n small. or_lt 64 n 8 small (omega arith);
  proper = λ st now. proper_key st s.0 i (record (st.key s.0 i) { removed = true }) now.proper;
  answers = λ st now. ap stage (reads st s.0 i now.proper);
}

-- ---- pins

-- one pin more, of a caller that had none
one_more : (f : ℕ → Bool) (me : ℕ) → me < 64 → not (f me) ≡ true → count_below 64 (put f me true) ≡ count_below 64 f + 1
one_more f me below free =
    let count = count_below-put 64 f me true below in
    let none : bit (f me) ≡ 0 = without (f me) free in
    let one : bit true ≡ 1 = refl in
    omega (arith, count, none, one)
  where
    without : (b : Bool) → not b ≡ true → bit b ≡ 0
    without true e = absurd cc
    without false e = refl

one_less : (f : ℕ → Bool) (me : ℕ) → me < 64 → f me ≡ true → count_below 64 f ≡ count_below 64 (put f me false) + 1
one_less f me below had =
    let count = count_below-put 64 f me false below in
    let one : bit (f me) ≡ 1 = ap bit had in
    let none : bit false ≡ 0 = refl in
    omega (arith, count, none, one)

pub pin_moves : (l : Limits) (me : CallerNo) (s : SelNo) (i : ℕ) → IsKey l s i → me.0 < 64
    → Moves l me (Key s.0 i) (Add 16) (λ n. Pin s i (stage_of n))
pin_moves l me s i is_key below = record {
  within = is_key;
  bit = tt;
  part = λ n. refl;
  word = λ st now.
      let more = one_more (st.pinned s.0 i) me.0 below (now.condition 0).2 in
      let few = count_below-le 64 (put (st.pinned s.0 i) me.0 true) in
      pins_stage (st.key s.0 i) (pins st s.0 i) (omega (arith, more, few)) now.proper now.small
      ∙ (ap (stage_word (st.key s.0 i)) (sym more)
      ∙ pinned_word (st.key s.0 i) st.pinned s.0 i (put (st.pinned s.0 i) me.0 true));
  small = λ n small. omega arith;
  proper = λ st now. now.proper;
  answers = λ st now. ap stage (reads st s.0 i now.proper);
}

pub unpin_moves : (l : Limits) (me : CallerNo) (s : SelNo) (i : ℕ) → IsKey l s i → me.0 < 64
    → Moves l me (Key s.0 i) (Subtract 16) (λ n. Unpin s i)
unpin_moves l me s i is_key below = record {
  within = is_key;
  bit = tt;
  part = λ n. refl;
  word = λ st now.
      let k : Stage = st.key s.0 i in
      let less : pins st s.0 i ≡ count_below 64 (put (st.pinned s.0 i) me.0 false)
      + 1 = one_less (st.pinned s.0 i) me.0 below (now.condition 0).1 in
      let small : stage_word k (count_below 64 (put (st.pinned s.0 i) me.0 false) + 1)
      < 2 ^ 64 = subst (λ (n : ℕ). stage_word k n < 2 ^ 64) less now.small in
      ap (λ (n : ℕ). (stage_word k n + (2 ^ 64 - 16)) % 2 ^ 64) less
      ∙ (unpins_stage k (count_below 64 (put (st.pinned s.0 i) me.0 false)) small
      ∙ pinned_word k st.pinned s.0 i (put (st.pinned s.0 i) me.0 false));
  small = λ n small. omega arith;
  proper = λ st now. now.proper;
  answers = λ st now. refl;
}

-- ---- claims

sound : (l : Limits) (me : CallerNo) (p : _) (act : _) (st : State) → IsMoment l me p act st → IsSound st
sound l me p act st now = subst IsSound now.leaves (legal-sound l now.past now.legal)

-- the word that a claim leaves, by whether the index was claimed
claims_word : (me : CallerNo) (c : ChanNo) (k : Stage) (f : ℕ → Bool) → me.0 < 64 → (b : Bool) → k.claimed ≡ b
    → (b ≡ false → k ≡ unclaimed) → (b ≡ false → count_below 64 f ≡ 0)
    → applied (Exchange 0 (stage_word (new_key c 0) 1)) (stage_word k (count_below 64 f))
    ≡ stage_word (if b then k else new_key c 0) (count_below 64 (put f me.0 (f me.0 || not b)))
claims_word me c k f below true is bare unpinned =
    exchanges (stage_word k (count_below 64 f)) (stage_word (new_key c 0) 1) true
    (λ _. claimed_some k (count_below 64 f) is) (λ e. absurd cc)
    ∙ ap (stage_word k) (sym (same_pins f me.0 below))
claims_word me c k f below false is bare unpinned =
    let zero_word : stage_word k (count_below 64 f) ≡ 0 = ap (λ x. stage_word x (count_below 64 f)) (bare refl)
    ∙ ap (stage_word unclaimed) (unpinned refl) in
    exchanges (stage_word k (count_below 64 f)) (stage_word (new_key c 0) 1) false (λ e. absurd cc) (λ _. zero_word)
    ∙ ap (stage_word (new_key c 0)) (sym (claimed_pins f me.0 below (unpinned refl)))

pick : (b : Bool) (k new : Stage) → k.chan.0 < 2 ^ 20 → new.chan.0 < 2 ^ 20 → (if b then k else new).chan.0 < 2 ^ 20
pick true k new h h' = h
pick false k new h h' = h'

pub claim_moves : (l : Limits) (me : CallerNo) (s : SelNo) (i : ℕ) (c : ChanNo) → IsKey l s i → me.0 < 64 → c.0 < 2 ^ 20
    → Moves l me (Key s.0 i) (Exchange 0 (stage_word (new_key c 0) 1)) (λ n. Claim s i c (is_set n 0))
claim_moves l me s i c is_key below few = record {
  within = is_key;
  bit = tt;
  part = λ n. refl;
  word = λ st now.
      let k : Stage = st.key s.0 i in
      let f : ℕ → Bool = st.pinned s.0 i in
      let found : Bool = is_set (stage_word k (pins st s.0 i)) 0 in
      let is : found ≡ k.claimed = claimed st now in
      let is_sound = sound l me _ _ st now in
      claims_word me c k f below found (sym is) (λ e. is_sound.unclaimed_bare s.0 i (sym is ∙ e))
      (λ e. count_none 64 f (λ n _. is_sound.unclaimed_unpinned s.0 i n (sym is ∙ e)))
      ∙ both_word st.key st.pinned s.0 i (if found then k else new_key c 0) (put f me.0 (f me.0 || not found));
  small = λ n small. exchange_small 0 (stage_word (new_key c 0) 1) n (2 ^ 64) (omega arith) small;
  proper = λ st now. proper_key st s.0 i
      (if is_set (stage_word (st.key s.0 i) (pins st s.0 i)) 0 then st.key s.0 i else new_key c 0)
      (pick (is_set (stage_word (st.key s.0 i) (pins st s.0 i)) 0) (st.key s.0 i) (new_key c 0) now.proper few);
  answers = λ st now. ap flag (claimed st now);
}
  where
    claimed : (st : State) → IsMoment l me (Key s.0 i) (λ n. Claim s i c (is_set n 0)) st
        → is_set (stage_word (st.key s.0 i) (pins st s.0 i)) 0 ≡ (st.key s.0 i).claimed
    claimed st now = reads_claimed (st.key s.0 i) (pins st s.0 i) (few_pins st s.0 i) now.proper

-- ---- a further claim

channel_small : (l : Limits) → IsFit l → (past : List _) → IsLegal l past → (s i : ℕ)
    → ((state_after past).key s i).chan.0 < 2 ^ 20
channel_small l fit past legal s i = by_test ((state_after past).key s i).claimed refl
  where
    by_test : (b : Bool) → ((state_after past).key s i).claimed ≡ b → ((state_after past).key s i).chan.0 < 2 ^ 20
    by_test true is = let below = ((legal-within l past legal).keys s i is).2 in omega (arith, below, fit.few_channels)
    by_test false is =
        subst (λ k. k.chan.0 < 2 ^ 20) (sym ((legal-sound l past legal).unclaimed_bare s i is)) (omega arith)

-- two words of one key are the same where they have as many pins
same_stage_word : (k : Stage) (n : ℕ) → (stage_word k n == stage_word k 0) ≡ (n == 0)
same_stage_word k n = by_test (n == 0) refl
  where
    by_test : (b : Bool) → (n == 0) ≡ b → (stage_word k n == stage_word k 0) ≡ b
    by_test true e = let none : n ≡ 0 =
        eqb-true n 0 e in eq-eqb (stage_word k n) (stage_word k 0) (ap (stage_word k) none)
    by_test false e = let some : n ≢ 0 =
        eqb-false n 0 e in ne_eqb (stage_word k n) (stage_word k 0) (λ same. some (omega arith))

-- the stage that the index has is the one that the caller found since it took it
pub claims_from : (l : Limits) (me : CallerNo) (s : SelNo) (i : ℕ) (c : ChanNo) (from : Stage) (found : Bool)
    (past : List _) → IsLegal l past → IsCaller l me
    → Condition l (mine me past) (state_after past) me (ClaimAgain s i c from found)
    → (state_after past).key s.0 i ≡ from
claims_from l me s i c from found past legal is_caller may =
    let b : Bool = is_pinned (state_after past) s.0 i in
    let step : IsStep l past (event_of me (ClaimAgain s i c from b)) = record {
      by_caller = is_caller;
      condition = may;
      answers = refl;
    } in
    (claims_again_the_removed l me s i c from b past []
    (legal_more l past (event_of me (ClaimAgain s i c from b)) legal step)).0

-- so its channel is below the limit
pub claims_from_small : (l : Limits) → IsFit l
    → (me : CallerNo) (s : SelNo) (i : ℕ) (c : ChanNo) (from : Stage) (past : List _) → IsLegal l past → IsCaller l me
    → Condition l (mine me past) (state_after past) me (ClaimAgain s i c from false) → from.chan.0 < 2 ^ 20
claims_from_small l fit me s i c from past legal is_caller may =
    let same = claims_from l me s i c from false past legal is_caller may in
    subst (λ k. k.chan.0 < 2 ^ 20) same (channel_small l fit past legal s.0 i)

claims_again_word : (me : CallerNo) (c : ChanNo) (k : Stage) (f : ℕ → Bool) → me.0 < 64 → (b : Bool)
    → (count_below 64 f == 0) ≡ b
    → either b (stage_word (new_key c (suc k.serial)) 1) (stage_word k (count_below 64 f))
    ≡ stage_word (if not b then k else new_key c (suc k.serial)) (count_below 64 (put f me.0 (f me.0 || not (not b))))
claims_again_word me c k f below true none =
    ap (stage_word (new_key c (suc k.serial))) (sym (claimed_pins f me.0 below (eqb-true (count_below 64 f) 0 none)))
claims_again_word me c k f below false some = ap (stage_word k) (sym (same_pins f me.0 below))

-- the exchange from stage k does to the word what the claim does to the index
abbrev ClaimsFrom : CallerNo → ℕ → ℕ → ChanNo → State → Stage → Type 0
ClaimsFrom me s i c st k =
    let word : ℕ = stage_word (st.key s i) (pins st s i) in
    let found : Bool = was_pinned k word in
    applied (Exchange (stage_word k 0) (stage_word (new_key c (suc k.serial)) 1)) word
    ≡ stage_word (put_at st.key s i (if found then st.key s i else new_key c (suc (st.key s i).serial)) s i)
    (count_below 64 (put_at st.pinned s i (put (st.pinned s i) me.0 (st.pinned s i me.0 || not found)) s i))

claims_from_itself : (me : CallerNo) (s i : ℕ) (c : ChanNo) (st : State) → me.0 < 64
    → ClaimsFrom me s i c st (st.key s i)
claims_from_itself me s i c st below =
    let k : Stage = st.key s i in
    let f : ℕ → Bool = st.pinned s i in
    let b : Bool = stage_word k (pins st s i) == stage_word k 0 in
    claims_again_word me c k f below b (sym (same_stage_word k (pins st s i)))
    ∙ both_word st.key st.pinned s i (if not b then k else new_key c (suc k.serial))
    (put f me.0 (f me.0 || not (not b)))

claims_again : (l : Limits) (me : CallerNo) (s : SelNo) (i : ℕ) (c : ChanNo) (from : Stage) → IsKey l s i
    → IsCaller l me → me.0 < 64 → c.0 < 2 ^ 20 → from.serial < 2 ^ 32 - 1
    → Moves l me (Key s.0 i) (Exchange (stage_word from 0) (stage_word (new_key c (suc from.serial)) 1))
    (λ n. ClaimAgain s i c from (was_pinned from n))
claims_again l me s i c from is_key is_caller below few serial = record {
  within = is_key;
  bit = tt;
  part = λ n. refl;
  word = λ st now. subst (ClaimsFrom me s.0 i c st) (from_there st now) (claims_from_itself me s.0 i c st below);
  small = λ n small.
      exchange_small (stage_word from 0) (stage_word (new_key c (suc from.serial)) 1) n (2 ^ 64)
      (stage_word-lt (new_key c (suc from.serial)) 1 (omega arith) few (omega arith)) small;
  proper = λ st now.
      let found : Bool = was_pinned from (stage_word (st.key s.0 i) (pins st s.0 i)) in
      proper_key st s.0 i (if found then st.key s.0 i else new_key c (suc (st.key s.0 i).serial))
      (pick found (st.key s.0 i) (new_key c (suc (st.key s.0 i).serial)) now.proper few);
  answers = λ st now. subst
      (λ k. flag (was_pinned k (stage_word (st.key s.0 i) (pins st s.0 i))) ≡ flag (is_pinned st s.0 i))
      (from_there st now) (answered st);
}
  where
    from_there : (st : State) → IsMoment l me (Key s.0 i) (λ n. ClaimAgain s i c from (was_pinned from n)) st
        → st.key s.0 i ≡ from
    from_there st now =
        subst (λ st'. Condition l (mine me now.past) st' me (ClaimAgain s i c from false) → st'.key s.0 i ≡ from)
        now.leaves
        (claims_from l me s i c from false now.past now.legal is_caller) (now.condition 0)

    answered : (st : State)
        → flag (was_pinned (st.key s.0 i) (stage_word (st.key s.0 i) (pins st s.0 i))) ≡ flag (is_pinned st s.0 i)
    answered st = ap (λ b. flag (not b)) (same_stage_word (st.key s.0 i) (pins st s.0 i))

pub claim_again_moves : (l : Limits) (me : CallerNo) (s : SelNo) (i : ℕ) (c : ChanNo) (from : Stage) (next : ℕ)
    → next ≡ suc from.serial → IsKey l s i → IsCaller l me → me.0 < 64 → c.0 < 2 ^ 20 → from.serial < 2 ^ 32 - 1
    → Moves l me (Key s.0 i) (Exchange (stage_word from 0) (stage_word (new_key c next) 1))
    (λ n. ClaimAgain s i c from (was_pinned from n))
claim_again_moves l me s i c from next is is_key is_caller below few serial =
    subst (λ (q : ℕ). Moves l me (Key s.0 i) (Exchange (stage_word from 0) (stage_word (new_key c q) 1))
    (λ n. ClaimAgain s i c from (was_pinned from n))) (sym is)
    (claims_again l me s i c from is_key is_caller below few serial)
