-- Indexes that are claimed, the caller's claim of one, and words that show no index as free.
use Rattle.std.proofs.Common.{◌≡◌, ℕ, zero, suc, ◌+◌, ◌*◌, ◌<◌, ◌≤◌, ◌==◌, ◌&&◌, Bool, true, false, if◌then◌else◌, []}
use Rattle.std.proofs.Common.{◌∷◌, ◌++◌, refl, ap, sym, ◌∙◌, subst, below_more, Some, None, List, add-one, eq-eqb}
use Rattle.std.specs.Prelude.{nat_lt}
use Rattle.std.proofs.lemmas.Bool.{ltb-true}
use Rattle.std.proofs.lemmas.Nat.Bits.{bit_at-zero}
use Rattle.nio_base.specs.declared.numbers.CallerNo.{CallerNo}
use Rattle.nio_base.specs.declared.numbers.ChanNo.{ChanNo}
use Rattle.nio_base.specs.declared.numbers.KeyId.{KeyId}
use Rattle.nio_base.specs.declared.numbers.SelNo.{SelNo}
use Rattle.nio_history.proofs.Finds.{step_leaves}
use Rattle.nio_history.proofs.KeyChanges.{back_parts}
use Rattle.nio_history.proofs.Put.{put_at-same}
use Rattle.nio_history.proofs.Soundness.{legal-sound, held_some}
use Rattle.nio_history.proofs.Within.{legal-within}
use Rattle.nio_history.specs.Acts.{new_key}
use Rattle.nio_history.specs.Conditions.{IsKey, AllClaimed, is_claimed, is_held_by, has_taken}
use Rattle.nio_history.specs.Histories.{state_after}
use Rattle.nio_history.specs.Permanent.{index_claimed}
use Rattle.nio_history.specs.OwnEvents.{own_claim, is_unpublished}
use Rattle.nio_history.specs.PassViews.{PassView, Holds, known, ActsClause, HasNoPin}
use Rattle.nio_history.specs.Sets.{can_come_back}
use Rattle.nio_base.specs.Numbers.{last_serial}
use Rattle.nio_history.specs.State.{State}
use Rattle.nio_history.specs.declared.act.Act.{Act}
use Rattle.nio_history.specs.declared.act.Act.TheVariants.{LookKey, Claim, LookKeys, TakeFree, ClaimAgain}
use Rattle.nio_history.specs.declared.found.Stage.{Stage}
use Rattle.nio_history.proofs.PassViews.{lasts_over}
use Rattle.nio_steps.specs.ChannelCalls.{claim_free, claim_at_bit}
use Rattle.nio_steps.specs.Plan.{reply, ◌>>=◌}
use Rattle.nio_steps.specs.Sweeps.{found_or, seek, seek_to}
use Rattle.nio_words.proofs.Pins.{changes_pins, stays_pinned, only_claimed, only_claimed_again}
use Rattle.nio_words.proofs.Stepping.{still_ready}
use Rattle.nio_words.proofs.Views.{finds_drawn, step_acts, look_tells}
use Rattle.nio_words.specs.Passes.{IsReady, acts_seen, limits_of}
use Rattle.nio_words.specs.Steps.{Steps}
use Rattle.nio_words.specs.Views.{view}
use Rattle.nio_words.specs.declared.words.Pass.{Pass}
use Rattle.nio_words.specs.declared.words.Words.{Words}
use Rattle.nio_channel.proofs.Held.{own_more}
use Rattle.nio_channel.proofs.Own.{keeps_claims, claim_stays, unpublished_stays, claim_now, unpublished_now}
use Rattle.nio_channel.specs.Held.{HasClaimed}

-- ---- claimed indexes

pub all_claimed_after : {me : CallerNo} {acts : List Act} {v0 v1 : PassView} (s : SelNo) (n : ℕ)
    → ActsClause me acts v0 v1 → AllClaimed (known v0) s n → AllClaimed (known v1) s n
all_claimed_after s n clause here i below = lasts_over (index_claimed s.0 i) clause (here i below)

-- an index that the caller just tried to claim is claimed
claimed_now : {me : CallerNo} {s : SelNo} {i : ℕ} {c : ChanNo} {found : Bool} {v0 v1 : PassView}
    → ActsClause me (Claim s i c found ∷ []) v0 v1 → is_claimed (known v1) s i ≡ true
claimed_now {me = me} {s = s} {i = i} {c = c} {found = found} {v0 = v0} {v1 = v1} clause =
    let leaves = step_leaves v0.limits (Holds v0) me (Claim s i c found) v0.seen v1.seen clause.history in
    let before : State = state_after (v0.seen ++ leaves.between) in
    let told : found ≡ (before.key s.0 i).claimed = cc leaves.step.answers in
    ap (λ st. is_claimed st s i) leaves.state
    ∙ (ap (λ x. x.claimed) (put_at-same before.key s.0 i (if found then before.key s.0 i else new_key c 0))
    ∙ by_found found (before.key s.0 i) told)
  where
    by_found : (b : Bool) (was : Stage) → b ≡ was.claimed → (if b then was else new_key c 0).claimed ≡ true
    by_found true was told = sym told
    by_found false was told = refl

-- with it, every index below the next is
pub all_claimed_more : {me : CallerNo} {s : SelNo} {i : ℕ} {c : ChanNo} {found : Bool} {v0 v1 : PassView}
    → ActsClause me (Claim s i c found ∷ []) v0 v1
    → AllClaimed (known v0) s i → AllClaimed (known v1) s (i + 1)
all_claimed_more {s = s} {i = i} clause here = below_more _ _ (all_claimed_after s i clause here) (claimed_now clause)

-- every index below the high-water mark that was found is claimed
pub all_claimed_below : {me : CallerNo} {s : SelNo} {mark : ℕ} {v0 v1 : PassView}
    → ActsClause me (LookKeys s mark ∷ []) v0 v1 → AllClaimed (known v1) s mark
all_claimed_below {s = s} {mark = mark} {v0 = v0} {v1 = v1} clause i below =
    let told : mark ≡ (known v1).keys_high s.0 = cc (look_tells clause refl) in
    (legal-sound v0.limits v1.seen clause.history.legal).keys_below s.0 i (subst (λ n. i < n) told below)

-- the high-water mark is within the limits
pub mark_inside : {me : CallerNo} {s : SelNo} {mark : ℕ} {v0 v1 : PassView} → ActsClause me (LookKeys s mark ∷ []) v0 v1
    → mark ≤ v0.limits.keys
mark_inside {s = s} {mark = mark} {v0 = v0} {v1 = v1} clause =
    let told : mark ≡ (known v1).keys_high s.0 = cc (look_tells clause refl) in
    subst (λ n. n ≤ v0.limits.keys) (sym told) ((legal-within v0.limits v1.seen clause.history.legal).keys_high s.0)

-- ---- a taken index

-- who just took an index that was free has it
pub taken_now : {me : CallerNo} {s : SelNo} {i : ℕ} {v0 v1 : PassView} → ActsClause me (TakeFree s i true ∷ []) v0 v1
    → has_taken (known v1) me s i ≡ true
taken_now {me = me} {s = s} {i = i} {v0 = v0} {v1 = v1} clause =
    let leaves = step_leaves v0.limits (Holds v0) me (TakeFree s i true) v0.seen v1.seen clause.history in
    let before : State = state_after (v0.seen ++ leaves.between) in
    ap (λ st. has_taken st me s i) leaves.state
    ∙ (ap (is_held_by me) (put_at-same before.taker s.0 i (Some me)) ∙ eq-eqb me.0 me.0 refl)

-- the key of a taken index has a serial below the last
pub taken_serial : {me : CallerNo} {s : SelNo} {i : ℕ} {stage : Stage} {v0 v1 : PassView}
    → ActsClause me (LookKey s i stage ∷ []) v0 v1 → has_taken (known v1) me s i ≡ true
    → stage.serial < last_serial
taken_serial {me = me} {s = s} {i = i} {stage = stage} {v0 = v0} {v1 = v1} clause taken =
    let told : stage ≡ (known v1).key s.0 i = cc (look_tells clause refl) in
    let back = (legal-sound v0.limits v1.seen clause.history.legal).taken_back s.0 i
    (held_some me ((known v1).taker s.0 i) taken) in
    let back' : can_come_back stage ≡ true = ap can_come_back told ∙ back in
    ltb-true stage.serial last_serial (back_parts stage back').below_last

-- ---- the caller's claim

pub claimed_stays : {w : Words} {p q : Pass} {me : CallerNo} {act : Act} {c : ChanNo} {s : SelNo} {k : KeyId}
    → Steps w p q me act → finds_drawn act ≡ false
    → changes_pins act ≡ false → keeps_claims act ≡ true → HasClaimed w p me c s k → HasClaimed w q me c s k
claimed_stays {p = p} {me = me} {act = act} {s = s} {k = k} steps new pins keeps here = record {
  pinned = stays_pinned steps new pins here.pinned;
  claim = ap (own_claim s.0 k.index) (own_more steps new)
      ∙ (claim_stays s.0 k.index (acts_seen p me) act keeps ∙ here.claim);
  unpublished = ap (is_unpublished s.0 k.index) (own_more steps new)
      ∙ (unpublished_stays s.0 k.index (acts_seen p me) act keeps ∙ here.unpublished);
}

-- it just claimed the index for its first key
pub has_claimed : {w : Words} {p q : Pass} {me : CallerNo} {c : ChanNo} {s : SelNo} {i : ℕ}
    → Steps w p q me (Claim s i c false) → IsReady w p me → IsKey (limits_of w) s i
    → HasNoPin (view w p) me → HasClaimed w q me c s (record { index = i; serial = 0 })
has_claimed {w = w} {p = p} {q = q} {me = me} {c = c} {s = s} {i = i} steps ready inside none = record {
  pinned = record {
    ready = still_ready w p q me me _ steps ready;
    inside = inside;
    only = only_claimed (step_acts steps refl) none;
  };
  claim = ap (own_claim s.0 i) (own_more steps refl)
      ∙ claim_now s i (Claim s i c false) (record { channel = c; serial = 0 }) (acts_seen p me) refl;
  unpublished = ap (is_unpublished s.0 i) (own_more steps refl)
      ∙ unpublished_now s i (Claim s i c false) (acts_seen p me) refl;
}

-- it just claimed it again
pub has_claimed_again : {w : Words} {p q : Pass} {me : CallerNo} {c : ChanNo} {s : SelNo} {i : ℕ} {from : Stage}
    → Steps w p q me (ClaimAgain s i c from false) → IsReady w p me
    → IsKey (limits_of w) s i → HasNoPin (view w p) me
    → HasClaimed w q me c s (record { index = i; serial = from.serial + 1 })
has_claimed_again {w = w} {p = p} {q = q} {me = me} {c = c} {s = s} {i = i} {from = from} steps ready inside none =
    record {
      pinned = record {
        ready = still_ready w p q me me _ steps ready;
        inside = inside;
        only = only_claimed_again (step_acts steps refl) none;
      };
      claim =
          ap (own_claim s.0 i) (own_more steps refl)
          ∙ (claim_now s i (ClaimAgain s i c from false) (record { channel = c; serial = suc from.serial })
          (acts_seen p me) refl
          ∙ ap (λ (n : ℕ). Some (record { channel = c; serial = n })) (sym (add-one from.serial)));
      unpublished = ap (is_unpublished s.0 i) (own_more steps refl)
          ∙ unpublished_now s i (ClaimAgain s i c from false) (acts_seen p me) refl;
    }

-- ---- a word that shows no index as free

-- no bit of it is set, so that none of its indexes is tried
no_bit : (s : SelNo) (c : ChanNo) (mark j n b : ℕ) → seek n b (claim_at_bit s c mark j 0) ≡ reply None
unfolding seek
no_bit s c mark j zero b = refl
no_bit s c mark j (suc n) b =
    ap (λ (bit : ℕ). (if (bit == 1) && nat_lt (64 * j + b) mark then claim_free s c (64 * j + b) else reply None)
    >>= found_or (seek n (b + 1) (claim_at_bit s c mark j 0))) (bit_at-zero b)
    ∙ no_bit s c mark j n (b + 1)

-- for such a word nothing is done
pub none_free : (s : SelNo) (c : ChanNo) (mark j word : ℕ) → word ≡ 0
    → seek_to 64 0 (claim_at_bit s c mark j word) ≡ reply None
none_free s c mark j word none =
    ap (λ (found : ℕ). seek_to 64 0 (claim_at_bit s c mark j found)) none ∙ no_bit s c mark j 64 0
