-- The channels that are made, and the indexes of a selector that are claimed, are those below a number.
use Rattle.std.proofs.Common.{◌≡◌, ℕ, suc, ◌+◌, ◌==◌, ◌≤◌, max, nat_lt, Bool, true, false, ◌&&◌, ◌↔◌, IsTrue}
use Rattle.std.proofs.Common.{if◌then◌else◌, refl, ap, sym, ◌∙◌, arith, eqb-true, eq-eqb, ◌<◌, inl, inr}
use Rattle.std.proofs.lemmas.Bool.{ltb-true, ltb-false, lt-ltb, le-ltb, cases_lt}
use Rattle.nio_audit.specs.Counting.{IsCounted, channels_after, keys_after}
use Rattle.nio_audit.specs.StepNumbers.{number_of}
use Rattle.nio_base.specs.declared.limits.Limits.{Limits}
use Rattle.nio_base.specs.declared.numbers.CallerNo.{CallerNo}
use Rattle.nio_base.specs.declared.numbers.SelNo.{SelNo}
use Rattle.nio_history.proofs.ChannelChanges.{channels_keep}
use Rattle.nio_history.proofs.Put.{put_at_keeps}
use Rattle.nio_history.specs.Acts.{effect, new_key}
use Rattle.nio_history.specs.Answers.{Answers}
use Rattle.nio_history.specs.Conditions.{Condition, AllMade, AllClaimed}
use Rattle.nio_history.specs.Questions.{flag}
use Rattle.nio_history.specs.Sound.{IsSound}
use Rattle.nio_history.specs.State.{State, put, put_at}
use Rattle.nio_history.specs.declared.act.Act.{Act}
use Rattle.nio_history.specs.declared.act.Act.TheVariants.{CancelKey, MakeChannel, Claim, Publish, Remove, SetMode}
use Rattle.nio_history.specs.declared.act.Act.TheVariants.{CloseBit, ClaimAgain, Reopen}
use Rattle.nio_history.proofs.Soundness.{held_some}
use Rattle.nio_history.proofs.KeyChanges.{back_parts}
use Rattle.nio_history.specs.declared.found.Stage.{Stage}
use Rattle.std.specs.Prelude.{List}

-- where the numbers below one pass a test and no others, all below another pass it where that is no larger
all_below : (test : ℕ → Bool) (count n : ℕ) → ((i : ℕ) → test i ≡ nat_lt i count)
    → (n ≤ count) ↔ ((i : ℕ) → i < n → IsTrue (test i))
all_below test count n is = (
  λ le i below. is i ∙ lt-ltb i count (omega arith),
  λ all. elim (cases_lt count n) [
    | inl beyond ↦
        let clash : true ≡ false = sym (all count beyond) ∙ (is count ∙ le-ltb count count (omega arith)) in
        absurd cc
    | inr within ↦ within
  ],
)

module _ {st : State} {channels : ℕ} {keys : ℕ → ℕ} where
  pub all_made : IsCounted st channels keys → (n : ℕ) → (n ≤ channels) ↔ AllMade st n
  all_made h n =
      all_below (λ c. (st.chan c).made) channels n h.made

  pub all_claimed : IsCounted st channels keys → (s : SelNo) (n : ℕ) → (n ≤ keys s.0) ↔ AllClaimed st s n
  all_claimed h s n = all_below (λ i. (st.key s.0 i).claimed) (keys s.0) n (h.claimed s.0)

-- one more below the number, at the number or below it
same_below : (n c count : ℕ) → c ≤ count → (n ≡ c → ⊥) → nat_lt n count ≡ nat_lt n (max count (c + 1))
same_below n c count le ne = by_order (nat_lt n count) refl
  where
    by_order : (b : Bool) → nat_lt n count ≡ b → b ≡ nat_lt n (max count (c + 1))
    by_order true e = sym (lt-ltb n (max count (c + 1)) (omega (arith, ltb-true n count e)))
    by_order false e = let above : count ≤ n = ltb-false n count e in sym (le-ltb n (max count (c + 1)) (omega arith))

counted_more : {A : Type 0} (test : A → Bool) (f : ℕ → A) (c count : ℕ) (x : A) → c ≤ count → test x ≡ true
    → ((n : ℕ) → test (f n) ≡ nat_lt n count)
    → (n : ℕ) → test (put f c x n) ≡ nat_lt n (max count (c + 1))
counted_more {A = A} test f c count x le is h n = by_test (n == c) refl
  where
    by_test : (b : Bool) → (n == c) ≡ b → test (if b then x else f n) ≡ nat_lt n (max count (c + 1))
    by_test true e = let same : n ≡ c = eqb-true n c e in is ∙ sym (lt-ltb n (max count (c + 1)) (omega arith))
    by_test false e =
        let ne : n ≡ c → ⊥ = λ (eq : n ≡ c). (let clash : true ≡ false = sym (eq-eqb n c eq) ∙ e in absurd cc) in
        h n ∙ same_below n c count le ne

-- what is made or claimed after the step is
made_after : {A : Type 0} (test : A → Bool) (found : Bool) (was new : A) → found ≡ test was → test new ≡ true
    → test (if found then was else new) ≡ true
made_after test true was new e is = sym e
made_after test false was new e is = is

found_is : (found x : Bool) → flag found ≡ flag x → found ≡ x
found_is found x e = cc

-- a stage that is claimed as it was leaves the indexes counted
claimed_put : (f : ℕ → ℕ → Stage) (keys : ℕ → ℕ) → ((s i : ℕ) → (f s i).claimed ≡ nat_lt i (keys s))
    → (s i : ℕ) (x : Stage) → x.claimed ≡ (f s i).claimed
    → (t j : ℕ) → (put_at f s i x t j).claimed ≡ nat_lt j (keys t)
claimed_put f keys counted s i x same t j =
    put_at_keeps (λ t' j' y. y.claimed ≡ nat_lt j' (keys t')) f s i x (λ e. same ∙ e) t j (counted t j)

abbrev makes : Act → Bool
makes (MakeChannel c kind found) = true
makes _ = false

-- other steps leave the same numbers with a channel
made_kept : (l : Limits) (own : List Act) (st : State) (me : CallerNo) (act : Act) {channels : ℕ} {keys : ℕ → ℕ}
    → Condition l own st me act → makes act ≡ false → Answers st me act → IsCounted st channels keys
    → (c : ℕ) → ((effect st me act).chan c).made ≡ nat_lt c channels
made_kept l own st me act {channels = channels} may none answers h c =
    channels_keep (λ act'. Condition l own st me act' × (makes act' ≡ false)) st me (λ n x. x.made ≡ nat_lt n channels)
    record {
      made = λ _ _ may' _ _. absurd cc;
      mode = λ _ _ _ _ e. e;
      closed = λ _ _ _ _ _ e. e;
      reopened = λ _ may' e. sym may'.0.2 ∙ e;
    } act (may, none) answers c (h.made c)

pub counted-step : (l : Limits) (own : List Act) (st : State) (me : CallerNo) (act : Act) (channels : ℕ) (keys : ℕ → ℕ)
    → IsSound st
    → Condition l own st me act → Answers st me act → IsCounted st channels keys
    → IsCounted (effect st me act) (channels_after channels (number_of act)) (keys_after keys (number_of act))
counted-step l own st me (MakeChannel c kind found) channels keys sound may answers h = record {
  made = counted_more (λ x. x.made) st.chan c.0 channels (if found then st.chan c.0 else _) ((all_made h c.0).1 may.1)
      (made_after (λ x. x.made) found (st.chan c.0) _ (found_is found (st.chan c.0).made answers) refl) h.made;
  claimed = h.claimed;
}
counted-step l own st me (SetMode c blocking found) channels keys sound may answers h =
    record { made = made_kept l own st me (SetMode c blocking found) may refl answers h; claimed = h.claimed }
counted-step l own st me (CloseBit c from found) channels keys sound may answers h =
    record { made = made_kept l own st me (CloseBit c from found) may refl answers h; claimed = h.claimed }
counted-step l own st me (Reopen c from found) channels keys sound may answers h =
    record { made = made_kept l own st me (Reopen c from found) may refl answers h; claimed = h.claimed }
counted-step l own st me (CancelKey s i found) channels keys sound may answers h = record {
  made = h.made;
  claimed = claimed_put st.key keys h.claimed s.0 i _ refl;
}
counted-step l own st me (Publish s i found) channels keys sound may answers h = record {
  made = h.made;
  claimed = claimed_put st.key keys h.claimed s.0 i _ refl;
}
counted-step l own st me (Remove s i found) channels keys sound may answers h = record {
  made = h.made;
  claimed = claimed_put st.key keys h.claimed s.0 i _ refl;
}
counted-step l own st me (ClaimAgain s i c from found) channels keys sound may answers h = record {
  made = h.made;
  claimed = claimed_put st.key keys h.claimed s.0 i _ (by_found found);
}
  where
    by_found : (b : Bool)
        → (if b then st.key s.0 i else new_key c (suc (st.key s.0 i).serial)).claimed ≡ (st.key s.0 i).claimed
    by_found true = refl
    by_found false =
        sym (back_parts (st.key s.0 i) (sound.taken_back s.0 i (held_some me (st.taker s.0 i) may.3))).claimed
counted-step l own st me (Claim s i c found) channels keys sound may answers h = record {
  made = h.made;
  claimed = λ t j. by_test t (t == s.0) refl j;
}
  where
    by_test : (t : ℕ) (b : Bool) → (t == s.0) ≡ b → (j : ℕ)
        → (if b && (j == i) then (if found then st.key s.0 i else new_key c 0) else st.key t j).claimed
        ≡ nat_lt j (if b then max (keys s.0) (i + 1) else keys t)
    by_test t true e j =
        let same : t ≡ s.0 = eqb-true t s.0 e in
        ap (λ (k : ℕ). (if j == i then (if found then st.key s.0 i else new_key c 0) else st.key k j).claimed) same
        ∙ counted_more (λ x. x.claimed) (st.key s.0) i (keys s.0) (if found then st.key s.0 i else new_key c 0)
        ((all_claimed h s i).1 may.3)
        (made_after (λ x. x.claimed) found (st.key s.0 i) (new_key c 0) (found_is found (st.key s.0 i).claimed answers)
        refl) (h.claimed s.0) j
    by_test t false e j = h.claimed t j
counted-step l own st me _ channels keys sound may answers h = record { made = h.made; claimed = h.claimed }
