-- A step changes no word but that of its own part. Of each sort of part only the kinds of step that
-- change such a part are looked at; of the others the last line speaks.
use Rattle.std.proofs.Common.{◌≡◌, ◌≢◌, ℕ, ◌+◌, ◌*◌, ◌/◌, ◌^◌, ◌<◌, ◌==◌, Bool, true, false, cond, ◌&&◌, refl, ap, sym}
use Rattle.std.proofs.Common.{◌∙◌, subst, arith, eqb-true}
use Rattle.std.specs.Option.{IfSome}
use Rattle.std.proofs.lemmas.Bool.{and_parts}
use Rattle.nio_base.specs.declared.numbers.CallerNo.{CallerNo}
use Rattle.nio_history.specs.Acts.{effect}
use Rattle.nio_history.specs.Answers.{bits_below, count_below}
use Rattle.nio_history.specs.State.{State, put_at}
use Rattle.nio_history.specs.declared.act.Act.{Act}
use Rattle.nio_history.specs.declared.act.Act.TheVariants.{DrawBit, MakeSelector, Wake, SetInterrupt, TakeInterrupt}
use Rattle.nio_history.specs.declared.act.Act.TheVariants.{CancelKey, SwapInterest, OrInterest, AndInterest, SwapNote}
use Rattle.nio_history.specs.declared.act.Act.TheVariants.{MakeChannel, Claim, RaiseKeys, Publish, Enrol, TakeTurn}
use Rattle.nio_history.specs.declared.act.Act.TheVariants.{GiveTurn, Remove, Mark as MarkKey, UnselectBit, EndWake}
use Rattle.nio_history.specs.declared.act.Act.TheVariants.{RaiseChannels, TryHoldBit, Release, SetMode, CloseBit}
use Rattle.nio_history.specs.declared.act.Act.TheVariants.{ShutBit}
use Rattle.nio_history.specs.declared.act.Act.TheVariants.{Pin, Unpin, ClearMark, ClaimAgain, PutFree, TakeFree}
use Rattle.nio_history.specs.declared.act.Act.TheVariants.{Touch, TakeTouched, TakeList}
use Rattle.nio_history.specs.declared.act.Act.TheVariants.{Reopen}
use Rattle.nio_history.specs.declared.found.Stage.{Stage}
use Rattle.nio_history.proofs.Put.{put-other}
use Rattle.nio_words.proofs.Bits.{bits_below-same}
use Rattle.nio_words.specs.Encodings.{encoding, IsProper, channel_word, holder_word, enrolled_word, gate_word}
use Rattle.nio_words.specs.Encodings.{stage_word, mark_word}
use Rattle.nio_words.specs.Parts.{part_of}
use Rattle.nio_words.specs.declared.part.Part.{Part}
use Rattle.nio_words.specs.declared.part.Part.TheVariants.{Callers, Interrupts, Selectors, ChannelsHigh, Chan, Hold}
use Rattle.nio_words.specs.declared.part.Part.TheVariants.{Enrolled, Gate, Turn, KeysHigh, Key, Interest, Mark, Note}
use Rattle.nio_words.specs.declared.part.Part.TheVariants.{Free, Touched, Lister}

-- at another pair of numbers a changed function is what it was
put_at-other : {A : Type 0} (f : ℕ → ℕ → A) (i j : ℕ) (x : A) (m n : ℕ) → ((m ≡ i) → (n ≡ j) → ⊥)
    → put_at f i j x m n ≡ f m n
put_at-other {A = A} f i j x m n ne = by_test ((m == i) && (n == j)) refl
  where
    by_test : (b : Bool) → ((m == i) && (n == j)) ≡ b → cond b x (f m n) ≡ f m n
    by_test true e = let both = and_parts (m == i) (n == j) e in absurd (ne (eqb-true m i both.0) (eqb-true n j both.1))
    by_test false e = refl

-- the word of an index whose key and pins are as they were
key_word : {k k' : Stage} {f f' : ℕ → Bool} → k' ≡ k → f' ≡ f
    → stage_word k' (count_below 64 f') ≡ stage_word k (count_below 64 f)
key_word {k' = k'} {f = f} same same' =
    ap (λ g. stage_word k' (count_below 64 g)) same' ∙ ap (λ x. stage_word x (count_below 64 f)) same

-- a word of free indexes in which another index changes
free_word-other : (free : ℕ → ℕ → Bool) (s i : ℕ) (x : Bool) (t j : ℕ) → ((t ≡ s) → (j ≡ i / 64) → ⊥)
    → bits_below 64 (λ b. put_at free s i x t (64 * j + b)) ≡ bits_below 64 (λ b. free t (64 * j + b))
free_word-other free s i x t j ne =
    bits_below-same 64 _ _ (λ b below. put_at-other free s i x t (64 * j + b) (λ e e'. ne e (omega arith)))

-- another word than the one whose indexes aren't touched any more
word-left : (touched : ℕ → ℕ → Bool) (s j' t j : ℕ) → ((t ≡ s) → (j ≡ j') → ⊥)
    → bits_below 64 (λ b. cond ((t == s) && ((64 * j + b) / 64 == j')) false (touched t (64 * j + b)))
    ≡ bits_below 64 (λ b. touched t (64 * j + b))
word-left touched s j' t j ne = bits_below-same 64 _ _ each
  where
    each : (b : ℕ) → b < 64
        → cond ((t == s) && ((64 * j + b) / 64 == j')) false (touched t (64 * j + b)) ≡ touched t (64 * j + b)
    each b below = by_test ((t == s) && ((64 * j + b) / 64 == j')) refl
      where
        by_test : (x : Bool) → ((t == s) && ((64 * j + b) / 64 == j')) ≡ x
            → cond x false (touched t (64 * j + b)) ≡ touched t (64 * j + b)
        by_test true e =
            let both = and_parts (t == s) ((64 * j + b) / 64 == j') e in
            let word : (64 * j + b) / 64 ≡ j' = eqb-true ((64 * j + b) / 64) j' both.1 in
            absurd (ne (eqb-true t s both.0) (omega arith))
        by_test false e = refl

pub apart : (st : State) (me : CallerNo) (act : Act) (q : Part) → q ≢ part_of act
    → encoding (effect st me act) q ≡ encoding st q
apart st me (DrawBit n found) Callers ne = absurd (ne refl)
apart st me act Callers ne = refl
apart st me (SetInterrupt n found) Interrupts ne = absurd (ne refl)
apart st me (TakeInterrupt found) Interrupts ne = absurd (ne refl)
apart st me act Interrupts ne = refl
apart st me (MakeSelector s found) Selectors ne = absurd (ne refl)
apart st me act Selectors ne = refl
apart st me (RaiseChannels n found) ChannelsHigh ne = absurd (ne refl)
apart st me act ChannelsHigh ne = refl
apart st me (MakeChannel c kind found) (Chan d) ne = ap channel_word (put-other st.chan c.0 _ d (λ e. ne (ap Chan e)))
apart st me (SetMode c blocking found) (Chan d) ne = ap channel_word (put-other st.chan c.0 _ d (λ e. ne (ap Chan e)))
apart st me (CloseBit c from found) (Chan d) ne = ap channel_word (put-other st.chan c.0 _ d (λ e. ne (ap Chan e)))
apart st me (Reopen c from found) (Chan d) ne = ap channel_word (put-other st.chan c.0 _ d (λ e. ne (ap Chan e)))
apart st me act (Chan d) ne = refl
apart st me (TryHoldBit c found) (Hold d) ne = ap holder_word (put-other st.hold c.0 _ d (λ e. ne (ap Hold e)))
apart st me (Release c) (Hold d) ne = ap holder_word (put-other st.hold c.0 _ d (λ e. ne (ap Hold e)))
apart st me act (Hold d) ne = refl
apart st me (Enrol c s i serial found) (Enrolled d t) ne =
    ap enrolled_word (put_at-other st.enrolled c.0 s.0 _ d t (λ e e'. ne cc))
apart st me act (Enrolled d t) ne = refl
apart st me (Wake s found) (Gate t) ne = ap gate_word (put-other st.gate s.0 _ t (λ e. ne (ap Gate e)))
apart st me (EndWake s found) (Gate t) ne = ap gate_word (put-other st.gate s.0 _ t (λ e. ne (ap Gate e)))
apart st me (ShutBit s found) (Gate t) ne = ap gate_word (put-other st.gate s.0 _ t (λ e. ne (ap Gate e)))
apart st me act (Gate t) ne = refl
apart st me (TakeTurn s found) (Turn t) ne = ap holder_word (put-other st.turn s.0 _ t (λ e. ne (ap Turn e)))
apart st me (GiveTurn s) (Turn t) ne = ap holder_word (put-other st.turn s.0 _ t (λ e. ne (ap Turn e)))
apart st me act (Turn t) ne = refl
apart st me (RaiseKeys s n found) (KeysHigh t) ne = put-other st.keys_high s.0 _ t (λ e. ne (ap KeysHigh e))
apart st me act (KeysHigh t) ne = refl
apart st me (CancelKey s i found) (Key t j) ne = key_word (put_at-other st.key s.0 i _ t j (λ e e'. ne cc)) refl
apart st me (Claim s i c found) (Key t j) ne =
    key_word (put_at-other st.key s.0 i _ t j (λ e e'. ne cc)) (put_at-other st.pinned s.0 i _ t j (λ e e'. ne cc))
apart st me (Publish s i found) (Key t j) ne = key_word (put_at-other st.key s.0 i _ t j (λ e e'. ne cc)) refl
apart st me (Remove s i found) (Key t j) ne = key_word (put_at-other st.key s.0 i _ t j (λ e e'. ne cc)) refl
apart st me (Pin s i found) (Key t j) ne = key_word refl (put_at-other st.pinned s.0 i _ t j (λ e e'. ne cc))
apart st me (Unpin s i) (Key t j) ne = key_word refl (put_at-other st.pinned s.0 i _ t j (λ e e'. ne cc))
apart st me (ClaimAgain s i c from found) (Key t j) ne =
    key_word (put_at-other st.key s.0 i _ t j (λ e e'. ne cc)) (put_at-other st.pinned s.0 i _ t j (λ e e'. ne cc))
apart st me act (Key t j) ne = refl
apart st me (SwapInterest s i ops found) (Interest t j) ne = put_at-other st.interest s.0 i _ t j (λ e e'. ne cc)
apart st me (OrInterest s i ops found) (Interest t j) ne = put_at-other st.interest s.0 i _ t j (λ e e'. ne cc)
apart st me (AndInterest s i ops found) (Interest t j) ne = put_at-other st.interest s.0 i _ t j (λ e e'. ne cc)
apart st me act (Interest t j) ne = refl
apart st me (MarkKey s i from told found) (Mark t j) ne =
    ap mark_word (put_at-other st.mark s.0 i _ t j (λ e e'. ne cc))
apart st me (ClearMark s i found) (Mark t j) ne = ap mark_word (put_at-other st.mark s.0 i _ t j (λ e e'. ne cc))
apart st me (UnselectBit s i found) (Mark t j) ne = ap mark_word (put_at-other st.mark s.0 i _ t j (λ e e'. ne cc))
apart st me act (Mark t j) ne = refl
apart st me (SwapNote s i att found) (Note t j) ne = put_at-other st.note s.0 i _ t j (λ e e'. ne cc)
apart st me act (Note t j) ne = refl
apart st me (PutFree s i) (Free t j) ne = free_word-other st.free s.0 i _ t j (λ e e'. ne cc)
apart st me (TakeFree s i found) (Free t j) ne = free_word-other st.free s.0 i _ t j (λ e e'. ne cc)
apart st me act (Free t j) ne = refl
apart st me (Touch s i found) (Touched t j) ne = free_word-other st.touched s.0 i _ t j (λ e e'. ne cc)
apart st me (TakeTouched s j' found) (Touched t j) ne = word-left st.touched s.0 j' t j (λ e e'. ne cc)
apart st me act (Touched t j) ne = refl
apart st me (TakeList s found) (Lister t) ne = ap holder_word (put-other st.lister s.0 _ t (λ e. ne (ap Lister e)))
apart st me act (Lister t) ne = refl

pub proper-apart : (st : State) (me : CallerNo) (act : Act) (q : Part) → q ≢ part_of act → IsProper st q
    → IsProper (effect st me act) q
proper-apart st me (Enrol c s i serial found) (Enrolled d t) ne h =
    subst (λ o. IfSome o (λ k. k.index + 1 < 2 ^ 32)) (sym (put_at-other st.enrolled c.0 s.0 _ d t (λ e e'. ne cc))) h
proper-apart st me act (Enrolled d t) ne h = h
proper-apart st me (CancelKey s i found) (Key t j) ne h =
    subst (λ k. k.chan.0 < 2 ^ 20) (sym (put_at-other st.key s.0 i _ t j (λ e e'. ne cc))) h
proper-apart st me (Claim s i c found) (Key t j) ne h =
    subst (λ k. k.chan.0 < 2 ^ 20) (sym (put_at-other st.key s.0 i _ t j (λ e e'. ne cc))) h
proper-apart st me (Publish s i found) (Key t j) ne h =
    subst (λ k. k.chan.0 < 2 ^ 20) (sym (put_at-other st.key s.0 i _ t j (λ e e'. ne cc))) h
proper-apart st me (Remove s i found) (Key t j) ne h =
    subst (λ k. k.chan.0 < 2 ^ 20) (sym (put_at-other st.key s.0 i _ t j (λ e e'. ne cc))) h
proper-apart st me (ClaimAgain s i c from found) (Key t j) ne h =
    subst (λ k. k.chan.0 < 2 ^ 20) (sym (put_at-other st.key s.0 i _ t j (λ e e'. ne cc))) h
proper-apart st me act (Key t j) ne h = h
proper-apart st me (ClearMark s i found) (Mark t j) ne h =
    subst (λ m. m.ready < 256) (sym (put_at-other st.mark s.0 i _ t j (λ e e'. ne cc))) h
proper-apart st me (MarkKey s i from told found) (Mark t j) ne h =
    subst (λ m. m.ready < 256) (sym (put_at-other st.mark s.0 i _ t j (λ e e'. ne cc))) h
proper-apart st me (UnselectBit s i found) (Mark t j) ne h =
    subst (λ m. m.ready < 256) (sym (put_at-other st.mark s.0 i _ t j (λ e e'. ne cc))) h
proper-apart st me act (Mark t j) ne h = h
proper-apart st me act q ne h = tt
