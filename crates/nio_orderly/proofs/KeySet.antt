-- How a key comes into the key set, and what stays of it: at each step, from any state.
use Rattle.std.proofs.Common.{◌≡◌, ℕ, ◌==◌, suc, Bool, true, false, not, ◌&&◌, ◌||◌, ◌⊎◌, inl, inr, refl, ap, sym}
use Rattle.std.proofs.Common.{◌∙◌, subst, eqb-true, eq-eqb}
use Rattle.std.proofs.lemmas.Bool.{and_parts, and_from}
use Rattle.nio_base.specs.declared.numbers.CallerNo.{CallerNo}
use Rattle.nio_base.specs.declared.numbers.ChanNo.{ChanNo}
use Rattle.nio_history.proofs.ChannelChanges.{channels_keep}
use Rattle.nio_history.proofs.Put.{put_at_keeps}
use Rattle.nio_history.specs.Acts.{effect, new_key, closes_from, takes_close}
use Rattle.nio_history.specs.Answers.{Answers}
use Rattle.nio_history.specs.Sets.{in_key_set, is_valid}
use Rattle.nio_history.specs.State.{State}
use Rattle.nio_history.specs.declared.act.Act.{Act}
use Rattle.nio_history.specs.declared.act.Act.TheVariants.{CancelKey, Claim, Publish, Remove, CloseBit}
use Rattle.nio_history.specs.declared.act.Act.TheVariants.{ClaimAgain}
use Rattle.nio_history.specs.declared.found.Chan.{Chan}
use Rattle.nio_history.specs.declared.found.Stage.{Stage}
use Rattle.nio_history.specs.OwnEvents.{closes}
use Rattle.nio_orderly.specs.Owed.{publishes_key}
use Rattle.nio_steps.specs.Names.{channel_of}

-- the key of an index was in the key set before, and is the same key
pub record WasThere (was now : Stage) : Type 0 where
  pub in_set : in_key_set was ≡ true
  pub serial : now.serial ≡ was.serial
  pub channel : now.chan ≡ was.chan
  pub cancelled : was.cancelled ≡ true → now.cancelled ≡ true

-- a key that was in the key set and isn't cancelled now was valid
pub was_valid : (was now : Stage) → WasThere was now → is_valid now ≡ true → is_valid was ≡ true
was_valid was now there valid = by_cancelled was.cancelled refl
  where
    by_cancelled : (b : Bool) → was.cancelled ≡ b → is_valid was ≡ true
    by_cancelled true is_so =
        let clash : not true ≡ true = ap not (sym (there.cancelled is_so))
        ∙ (and_parts (in_key_set now) (not now.cancelled) valid).1 in
        absurd cc
    by_cancelled false is_so = and_from (in_key_set was) (not was.cancelled) there.in_set (ap not is_so)

-- a key of the key set was there before the step, or the step published it
abbrev Came : State → Act → ℕ → ℕ → Stage → Type 0
Came st act s i now =
    in_key_set now ≡ true
    → WasThere (st.key s i) now
    ⊎ (publishes_key now.chan.0 s (record { index = i; serial = now.serial }) act ≡ true)

was_there : (st : State) (act : Act) (s i : ℕ) → Came st act s i (st.key s i)
was_there st act s i in_set = inl (record { in_set = in_set; serial = refl; channel = refl; cancelled = λ e. e })

pub came : (st : State) (me : CallerNo) (act : Act) → Answers st me act → (s i : ℕ)
    → in_key_set ((effect st me act).key s i) ≡ true
    → WasThere (st.key s i) ((effect st me act).key s i)
    ⊎ (publishes_key ((effect st me act).key s i).chan.0 s
    (record { index = i; serial = ((effect st me act).key s i).serial }) act ≡ true)
came st me (CancelKey s' i' found) answers s i =
    put_at_keeps (Came st (CancelKey s' i' found)) st.key s'.0 i' (record (st.key s'.0 i') { cancelled = true })
    (λ old in_set. inl (record { in_set = in_set; serial = refl; channel = refl; cancelled = λ e. refl }))
    s i (was_there st (CancelKey s' i' found) s i)
came st me (Claim s' i' c true) answers s i =
    put_at_keeps (Came st (Claim s' i' c true)) st.key s'.0 i' (st.key s'.0 i') (λ old. old) s i
    (was_there st (Claim s' i' c true) s i)
came st me (Claim s' i' c false) answers s i =
    put_at_keeps (Came st (Claim s' i' c false)) st.key s'.0 i' (new_key c 0) (λ old in_set. absurd cc) s i
    (was_there st (Claim s' i' c false) s i)
came st me (ClaimAgain s' i' c from true) answers s i =
    put_at_keeps (Came st (ClaimAgain s' i' c from true)) st.key s'.0 i' (st.key s'.0 i') (λ old. old) s i
    (was_there st (ClaimAgain s' i' c from true) s i)
came st me (ClaimAgain s' i' c from false) answers s i =
    put_at_keeps (Came st (ClaimAgain s' i' c from false)) st.key s'.0 i' (new_key c (suc (st.key s'.0 i').serial))
    (λ old in_set. absurd cc) s i (was_there st (ClaimAgain s' i' c from false) s i)
came st me (Remove s' i' found) answers s i =
    put_at_keeps (Came st (Remove s' i' found)) st.key s'.0 i' (record (st.key s'.0 i') { removed = true })
    (λ old in_set. let clash = and_parts (st.key s'.0 i').published (not true) in_set in absurd (cc (clash.1)))
    s i (was_there st (Remove s' i' found) s i)
came st me (Publish s' i' found) answers s i =
    put_at_keeps (Came st (Publish s' i' found)) st.key s'.0 i' (record (st.key s'.0 i') { published = true }) new s i
    (was_there st (Publish s' i' found) s i)
  where
    was : Stage
    was = st.key s'.0 i'

    found_is : found ≡ st.key s'.0 i'
    found_is = cc

    new : Came st (Publish s' i' found) s'.0 i' (st.key s'.0 i')
        → Came st (Publish s' i' found) s'.0 i' (record (st.key s'.0 i') { published = true })
    new old in_set = by_published (st.key s'.0 i').published refl
      where
        unremoved : not was.removed ≡ true
        unremoved = (and_parts true (not was.removed) in_set).1

        by_published : (b : Bool) → was.published ≡ b
            → WasThere was (record was { published = true })
            ⊎ (publishes_key was.chan.0 s'.0 (record { index = i'; serial = was.serial }) (Publish s' i' found) ≡ true)
        by_published true is_so =
            inl (record {
              in_set = and_from was.published (not was.removed) is_so unremoved;
              serial = refl;
              channel =
                  refl;
              cancelled = λ e. e;
            })
        by_published false is_so =
            inr (subst
            (λ (f : Stage). publishes_key was.chan.0 s'.0 (record { index = i'; serial = was.serial })
            (Publish s' i' f) ≡ true) (sym found_is)
            (and_from _ (not was.removed)
            (and_from _ (not was.published)
            (and_from _ (was.serial == was.serial)
            (and_from _ (was.chan.0 == was.chan.0)
            (and_from (s'.0 == s'.0) (i' == i') (eq-eqb s'.0 s'.0 refl) (eq-eqb i' i' refl))
            (eq-eqb was.chan.0 was.chan.0 refl))
            (eq-eqb was.serial was.serial refl))
            (ap not is_so))
            unremoved))
came st me act answers s i = was_there st act s i

-- the channel that a number has was closed before, and is the same channel
pub record StillClosed (was now : Chan) : Type 0 where
  pub closed : was.closed ≡ true
  pub serial : now.serial ≡ was.serial

closes_now : (st : State) (me : CallerNo) (c : ChanNo) (from found : Chan) → Answers st me (CloseBit c from found)
    → closes_from from (st.chan c.0) ≡ true → (st.chan c.0).closed ≡ false
    → closes (channel_of c (st.chan c.0).serial) (CloseBit c from found) ≡ true
closes_now st me c from found answers closes_it open' =
    subst (λ (x : Chan). closes (channel_of c (st.chan c.0).serial) (CloseBit c from x) ≡ true) (sym found_is)
    (and_from ((c.0 == c.0) && (from.serial == was.serial)) (takes_close from was)
    (and_from (c.0 == c.0) (from.serial == was.serial) (eq-eqb c.0 c.0 refl)
    (eq-eqb from.serial was.serial (sym (eqb-true was.serial from.serial
    (and_parts (was.serial == from.serial) (was.blocking || not from.blocking) closes_it).0))))
    (and_from (closes_from from was) (not was.closed) closes_it (ap not open')))
  where
    was : Chan
    was = st.chan c.0

    found_is : found ≡ st.chan c.0
    found_is = cc

-- a closed channel was closed before, or the step closed it
pub came_closed : (st : State) (me : CallerNo) (act : Act) → Answers st me act → (c : ChanNo)
    → ((effect st me act).chan c.0).closed ≡ true
    → StillClosed (st.chan c.0) ((effect st me act).chan c.0)
    ⊎ (closes (channel_of c ((effect st me act).chan c.0).serial) act ≡ true)
came_closed st me act answers c =
    channels_keep (λ a. a ≡ act) st me
    (λ m x. x.closed ≡ true → StillClosed (st.chan m) x ⊎ (closes (channel_of (record { 0 = m }) x.serial) act ≡ true))
    (record {
      made = λ k kind is unmade old closed. absurd cc;
      mode = λ k blocking found is old closed. inl (record { closed = closed; serial = refl });
      closed = λ k from found is closes_it old closed. by_test k from found is closes_it (st.chan k.0).closed refl;
      reopened = λ k is old closed. absurd cc;
    })
    act refl answers c.0 (λ closed. inl (record { closed = closed; serial = refl }))
  where
    by_test : (k : ChanNo) (from found : Chan) → CloseBit k from found ≡ act → closes_from from (st.chan k.0) ≡ true
        → (b : Bool) → (st.chan k.0).closed ≡ b
        → StillClosed (st.chan k.0) (record (st.chan k.0) { closed = true; blocking = from.blocking })
        ⊎ (closes (channel_of k (st.chan k.0).serial) act ≡ true)
    by_test k from found is closes_it true closed = inl (record { closed = closed; serial = refl })
    by_test k from found is closes_it false open' =
        inr (subst (λ (a : Act). closes (channel_of k (st.chan k.0).serial) a ≡ true) is
        (closes_now st me k from found (subst (Answers st me) (sym is) answers) closes_it open'))
