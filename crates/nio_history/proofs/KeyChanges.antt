-- How the stages of indexes change: five kinds of step change one, and what each of them keeps every step
-- keeps.
use Rattle.std.proofs.Common.{◌≡◌, ℕ, true, false, suc, ◌&&◌, ap, sym}
use Rattle.std.specs.Prelude.{nat_lt}
use Rattle.std.proofs.lemmas.Bool.{and_parts}
use Rattle.nio_base.specs.declared.numbers.CallerNo.{CallerNo}
use Rattle.nio_base.specs.declared.numbers.ChanNo.{ChanNo}
use Rattle.nio_base.specs.declared.numbers.SelNo.{SelNo}
use Rattle.nio_history.proofs.Put.{put_at_keeps}
use Rattle.nio_history.specs.Acts.{effect, new_key}
use Rattle.nio_history.specs.Answers.{Answers, is_pinned}
use Rattle.nio_history.specs.Sets.{can_come_back}
use Rattle.nio_base.specs.Numbers.{last_serial}
use Rattle.nio_history.specs.State.{State}
use Rattle.nio_history.specs.declared.act.Act.{Act}
use Rattle.nio_history.specs.declared.act.Act.TheVariants.{CancelKey, Claim, Publish, Remove, ClaimAgain}
use Rattle.nio_history.specs.declared.found.Stage.{Stage}

-- what stands of the stage of each index, `R`, stays at the steps that `May` allows and that change a stage
pub record KeepsStages (May : Act → Type 0) (st : State) (R : ℕ → ℕ → Stage → Type 0) : Type 0 where
  pub claimed : (s : SelNo) (i : ℕ) (c : ChanNo) → (st.key s.0 i).claimed ≡ false → R s.0 i (st.key s.0 i)
      → R s.0 i (new_key c 0)
  pub published : (s : SelNo) (i : ℕ) (found : Stage) → May (Publish s i found) → R s.0 i (st.key s.0 i)
      → R s.0 i (record (st.key s.0 i) { published = true })
  pub cancelled : (s : SelNo) (i : ℕ) (found : Stage) → May (CancelKey s i found) → R s.0 i (st.key s.0 i)
      → R s.0 i (record (st.key s.0 i) { cancelled = true })
  pub removed : (s : SelNo) (i : ℕ) (found : Stage) → May (Remove s i found) → R s.0 i (st.key s.0 i)
      → R s.0 i (record (st.key s.0 i) { removed = true })
  pub again : (s : SelNo) (i : ℕ) (c : ChanNo) (from : Stage) → May (ClaimAgain s i c from false)
      → is_pinned st s.0 i ≡ false
      → R s.0 i (st.key s.0 i) → R s.0 i (new_key c (suc (st.key s.0 i).serial))

pub stages_keep : (May : Act → Type 0) (st : State) (me : CallerNo) (R : ℕ → ℕ → Stage → Type 0) → KeepsStages May st R
    → (act : Act) → May act → Answers st me act → (s i : ℕ) → R s i (st.key s i) → R s i ((effect st me act).key s i)
stages_keep May st me R keeps (CancelKey s' i' found) may answers s i =
    put_at_keeps R st.key s'.0 i' (record (st.key s'.0 i') { cancelled = true }) (keeps.cancelled s' i' found may) s i
stages_keep May st me R keeps (Claim s' i' c true) may answers s i =
    put_at_keeps R st.key s'.0 i' (st.key s'.0 i') (λ old. old) s i
stages_keep May st me R keeps (Claim s' i' c false) may answers s i =
    let unclaimed_yet : (st.key s'.0 i').claimed ≡ false = cc in
    put_at_keeps R st.key s'.0 i' (new_key c 0) (keeps.claimed s' i' c unclaimed_yet) s i
stages_keep May st me R keeps (Publish s' i' found) may answers s i =
    put_at_keeps R st.key s'.0 i' (record (st.key s'.0 i') { published = true }) (keeps.published s' i' found may) s i
stages_keep May st me R keeps (Remove s' i' found) may answers s i =
    put_at_keeps R st.key s'.0 i' (record (st.key s'.0 i') { removed = true }) (keeps.removed s' i' found may) s i
stages_keep May st me R keeps (ClaimAgain s' i' c from true) may answers s i =
    put_at_keeps R st.key s'.0 i' (st.key s'.0 i') (λ old. old) s i
stages_keep May st me R keeps (ClaimAgain s' i' c from false) may answers s i =
    let unpinned : is_pinned st s'.0 i' ≡ false = cc in
    put_at_keeps R st.key s'.0 i' (new_key c (suc (st.key s'.0 i').serial)) (keeps.again s' i' c from may unpinned) s i
stages_keep May st me R keeps act may answers s i = λ h. h

-- a step that claims no index again
abbrev pub IsNoClaimAgain : Act → Type 0
IsNoClaimAgain act = (s : SelNo) (i : ℕ) (c : ChanNo) (from : Stage) → act ≡ ClaimAgain s i c from false → ⊥

-- ---- a stage from which an index can come back

pub record IsBack (k : Stage) : Type 0 where
  pub claimed : k.claimed ≡ true
  pub published : k.published ≡ true
  pub cancelled : k.cancelled ≡ true
  pub removed : k.removed ≡ true
  pub below_last : nat_lt k.serial last_serial ≡ true

pub back_parts : (k : Stage) → can_come_back k ≡ true → IsBack k
back_parts k back =
    let four = and_parts (k.claimed && k.published && k.cancelled && k.removed) (nat_lt k.serial last_serial) back in
    let three = and_parts (k.claimed && k.published && k.cancelled) k.removed four.0 in
    let two = and_parts (k.claimed && k.published) k.cancelled three.0 in
    let one = and_parts k.claimed k.published two.0 in
    record { claimed = one.0; published = one.1; cancelled = two.1; removed = three.1; below_last = four.1 }

-- to set a bit that is set changes nothing
pub published_already : (k : Stage) → k.published ≡ true → record k { published = true } ≡ k
published_already k e = ap (λ b. record k { published = b }) (sym e)

pub cancelled_already : (k : Stage) → k.cancelled ≡ true → record k { cancelled = true } ≡ k
cancelled_already k e = ap (λ b. record k { cancelled = b }) (sym e)

pub removed_already : (k : Stage) → k.removed ≡ true → record k { removed = true } ≡ k
removed_already k e = ap (λ b. record k { removed = b }) (sym e)
