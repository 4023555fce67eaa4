-- What is permanent, from any state: no step ends it. Each lemma has a line for each kind of step that changes
-- the fact's part of the state; its last line is for all the others.
use Rattle.std.proofs.Common.{◌≡◌, ℕ, ◌<◌, true, false, refl, arith}
use Rattle.std.proofs.lemmas.Bool.{or_left}
use Rattle.nio_base.specs.declared.numbers.CallerNo.{CallerNo}
use Rattle.nio_history.proofs.ChannelChanges.{closing_keeps}
use Rattle.nio_history.proofs.Put.{put_keeps, put_at_keeps}
use Rattle.nio_history.specs.Acts.{effect}
use Rattle.nio_history.specs.State.{State}
use Rattle.nio_history.specs.declared.act.Act.{Act}
use Rattle.nio_history.specs.declared.act.Act.TheVariants.{DrawBit, MakeSelector, Wake, CancelKey, MakeChannel, Claim}
use Rattle.nio_history.specs.declared.act.Act.TheVariants.{RaiseKeys, Publish, Remove, EndWake, RaiseChannels, SetMode}
use Rattle.nio_history.specs.declared.act.Act.TheVariants.{CloseBit, ShutBit, Enter, ClaimAgain, Reopen}

pub drawn_lasts : (st : State) (me : CallerNo) (act : Act) (n : ℕ) → st.drawn n ≡ true
    → (effect st me act).drawn n ≡ true
drawn_lasts st me (DrawBit k found) n h = put_keeps (λ _ b. b ≡ true) st.drawn k.0 true (λ _. refl) n h
drawn_lasts st me act n h = h

pub selector_lasts : (st : State) (me : CallerNo) (act : Act) (s : ℕ) → st.selector s ≡ true
    → (effect st me act).selector s ≡ true
selector_lasts st me (MakeSelector k found) s h = put_keeps (λ _ b. b ≡ true) st.selector k.0 true (λ _. refl) s h
selector_lasts st me act s h = h

pub shut_lasts : (st : State) (me : CallerNo) (act : Act) (s : ℕ) → (st.gate s).shut ≡ true
    → ((effect st me act).gate s).shut ≡ true
shut_lasts st me (Wake k found) s h = put_keeps (λ _ g. g.shut ≡ true) st.gate k.0 _ (λ e. e) s h
shut_lasts st me (EndWake k found) s h = put_keeps (λ _ g. g.shut ≡ true) st.gate k.0 _ (λ e. e) s h
shut_lasts st me (ShutBit k found) s h = put_keeps (λ _ g. g.shut ≡ true) st.gate k.0 _ (λ _. refl) s h
shut_lasts st me act s h = h

pub entered_lasts : (st : State) (me : CallerNo) (act : Act) (s : ℕ) → st.entered s ≡ true
    → (effect st me act).entered s ≡ true
entered_lasts st me (Enter k found) s h = put_keeps (λ _ b. b ≡ true) st.entered k.0 _ (λ e. or_left _ _ e) s h
entered_lasts st me act s h = h

pub made_lasts : (st : State) (me : CallerNo) (act : Act) (c : ℕ) → (st.chan c).made ≡ true
    → ((effect st me act).chan c).made ≡ true
made_lasts st me (MakeChannel k kind true) c h = put_keeps (λ _ x. x.made ≡ true) st.chan k.0 _ (λ e. e) c h
made_lasts st me (MakeChannel k kind false) c h = put_keeps (λ _ x. x.made ≡ true) st.chan k.0 _ (λ _. refl) c h
made_lasts st me (SetMode k blocking found) c h = put_keeps (λ _ x. x.made ≡ true) st.chan k.0 _ (λ e. e) c h
made_lasts st me (CloseBit k from found) c h =
    put_keeps (λ _ x. x.made ≡ true) st.chan k.0 _
    (closing_keeps (λ x. x.made ≡ true) from (st.chan k.0) (λ _ e. e)) c h
made_lasts st me (Reopen k from true) c h = put_keeps (λ _ x. x.made ≡ true) st.chan k.0 _ (λ e. e) c h
made_lasts st me (Reopen k from false) c h = put_keeps (λ _ x. x.made ≡ true) st.chan k.0 _ (λ _. refl) c h
made_lasts st me act c h = h

pub claimed_lasts : (st : State) (me : CallerNo) (act : Act) (s i : ℕ) → (st.key s i).claimed ≡ true
    → ((effect st me act).key s i).claimed ≡ true
claimed_lasts st me (CancelKey s' i' found) s i h =
    put_at_keeps (λ _ _ k. k.claimed ≡ true) st.key s'.0 i' _ (λ e. e) s i h
claimed_lasts st me (Claim s' i' c true) s i h =
    put_at_keeps (λ _ _ k. k.claimed ≡ true) st.key s'.0 i' _ (λ e. e) s i h
claimed_lasts st me (Claim s' i' c false) s i h =
    put_at_keeps (λ _ _ k. k.claimed ≡ true) st.key s'.0 i' _ (λ _. refl) s i h
claimed_lasts st me (Publish s' i' found) s i h =
    put_at_keeps (λ _ _ k. k.claimed ≡ true) st.key s'.0 i' _ (λ e. e) s i h
claimed_lasts st me (Remove s' i' found) s i h =
    put_at_keeps (λ _ _ k. k.claimed ≡ true) st.key s'.0 i' _ (λ e. e) s i h
claimed_lasts st me (ClaimAgain s' i' c from true) s i h =
    put_at_keeps (λ _ _ k. k.claimed ≡ true) st.key s'.0 i' _ (λ e. e) s i h
claimed_lasts st me (ClaimAgain s' i' c from false) s i h =
    put_at_keeps (λ _ _ k. k.claimed ≡ true) st.key s'.0 i' _ (λ _. refl) s i h
claimed_lasts st me act s i h = h

pub keys_high_lasts : (st : State) (me : CallerNo) (act : Act) (s i : ℕ) → i < st.keys_high s
    → i < (effect st me act).keys_high s
keys_high_lasts st me (RaiseKeys k n found) s i h = put_keeps (λ _ m. i < m) st.keys_high k.0 _ (λ e. omega arith) s h
keys_high_lasts st me act s i h = h

pub channels_high_lasts : (st : State) (me : CallerNo) (act : Act) (c : ℕ) → c < st.channels_high
    → c < (effect st me act).channels_high
channels_high_lasts st me (RaiseChannels n found) c h = omega arith
channels_high_lasts st me act c h = h
