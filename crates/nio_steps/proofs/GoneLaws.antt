-- A key that was cancelled before a selection begins is gone when it has begun, and one that was cancelled before its
-- end looks for such keys is gone when it is over.
use Rattle.std.proofs.Common.{◌≡◌, ℕ, ◌+◌, ◌*◌, ◌<◌, ◌==◌, nat_lt, Bool, true, false, not, ◌&&◌, ◌||◌, if◌then◌else◌}
use Rattle.nio_steps.specs.Looking.{remove_below}
use Rattle.nio_steps.specs.Runs.{Completes}
use Rattle.std.proofs.Common.{List, [], ◌∷◌, ◌++◌, refl, ap, sym, ◌∙◌, subst, append_assoc, eqb-true, eq-eqb, arith}
use Rattle.std.specs.List.{Contains}
use Rattle.std.proofs.lemmas.Bool.{and_parts, and_from, le-ltb, ltb-false}
use Rattle.std.proofs.lemmas.List.Elements.{All-weaker}
use mathlib.Core.List.{IsPrefix}
use Rattle.nio_base.specs.declared.limits.Limits.{Limits}
use Rattle.nio_base.specs.declared.numbers.CallerNo.{CallerNo}
use Rattle.nio_base.specs.declared.numbers.SelNo.{SelNo}
use Rattle.nio_history.proofs.Bits.{bits_below-at}
use Rattle.nio_history.proofs.KeyChanges.{back_parts}
use Rattle.nio_history.proofs.Legal.{legal_beginning, legal_next}
use Rattle.nio_history.proofs.OneMore.{state_after-more, mine-append}
use Rattle.nio_history.proofs.Put.{put_at-same}
use Rattle.nio_history.proofs.Soundness.{legal-sound}
use Rattle.nio_history.proofs.Stays.{facts_are_permanent}
use Rattle.nio_history.specs.Answers.{free_word}
use Rattle.nio_history.specs.Histories.{state_after, mine, event_of, IsStep, IsLegal}
use Rattle.nio_history.specs.Permanent.{key_published, key_cancelled, key_removed}
use Rattle.nio_history.specs.Sets.{in_cancelled_set, is_valid, fits, was_claimed, was_published, was_cancelled}
use Rattle.nio_history.specs.Sets.{was_removed}
use Rattle.nio_history.specs.State.{State}
use Rattle.nio_history.specs.declared.act.Act.{Act}
use Rattle.nio_history.specs.declared.act.Act.TheVariants.{LookKey, LookKeys, LookFree, Remove}
use Rattle.nio_history.specs.declared.event.Event.{Event}
use Rattle.nio_history.specs.declared.found.Stage.{Stage}
use Rattle.nio_steps.proofs.LookedLaws.{Settled, is_free, is_found, is_gone, met-left, met-right, met-weaker}
use Rattle.nio_steps.proofs.LookedLaws.{begin-meets, end-settles, looks_at_valid_keys}
use Rattle.nio_steps.proofs.OwnActs.{at_own, mine-own_first}
use Rattle.nio_steps.proofs.ToldParts.{cut_at_keys}
use Rattle.nio_steps.specs.KeyCalls.{has_bit}
use Rattle.nio_steps.specs.Laws.{IsLookedAt, CancelledKeysGo, CancelledKeysGoAtEnd}
use Rattle.nio_steps.specs.SelectCalls.{Tells, done}
use Rattle.nio_steps.specs.Steps.{stage_in, word_in}

-- ---- stages
--
-- `later` says that the index has a later key, and `fit` that it has this one.

pub also_removed : (later fit published removed : Bool) → (later || (fit && published)) ≡ true → removed ≡ true
    → (later || (fit && removed)) ≡ true
also_removed true fit published removed was is = refl
also_removed false true published removed was is = is
also_removed false false published removed was is = was

-- a key that is published and cancelled, and not in the cancelled set, is removed
pub outside_removed : (later fit published cancelled removed : Bool) → (later || (fit && published)) ≡ true
    → (later || (fit && cancelled)) ≡ true
    → (published && not removed && cancelled) ≡ false → (later || (fit && removed)) ≡ true
outside_removed true fit p c r was_p was_c out = refl
outside_removed false true true true true was_p was_c out = refl
outside_removed false true true true false was_p was_c out = absurd (cc out)
outside_removed false true false c r was_p was_c out = absurd (cc was_p)
outside_removed false true true false r was_p was_c out = absurd (cc was_c)
outside_removed false false p c r was_p was_c out = absurd (cc was_p)

-- a valid key of this serial wasn't cancelled
valid_uncancelled : (later fit published cancelled removed : Bool) → later ≡ false
    → (later || (fit && cancelled)) ≡ true → (published && not removed && not cancelled) ≡ true → ⊥
valid_uncancelled true fit p c r not_later was valid = absurd (cc not_later)
valid_uncancelled false true true true true not_later was valid = cc valid
valid_uncancelled false true true true false not_later was valid = cc valid
valid_uncancelled false true true false r not_later was valid = cc was
valid_uncancelled false true false c r not_later was valid = cc valid
valid_uncancelled false false p c r not_later was valid = cc was

-- a claimed key is the present one, or an earlier one
pub claimed_removed : (k : Stage) (serial : ℕ) → was_claimed k serial ≡ true → k.removed ≡ true
    → was_removed k serial ≡ true
claimed_removed k serial was is =
    let both = and_parts k.claimed (not (nat_lt k.serial serial)) was in
    by_later (nat_lt serial k.serial) refl both.0 (reached (nat_lt k.serial serial) refl both.1)
  where
    reached : (b : Bool) → nat_lt k.serial serial ≡ b → not b ≡ true → nat_lt k.serial serial ≡ false
    reached true e upper = absurd (cc upper)
    reached false e upper = e

    by_later : (b : Bool) → nat_lt serial k.serial ≡ b → k.claimed ≡ true → nat_lt k.serial serial ≡ false
        → (b || (fits k serial && k.removed)) ≡ true
    by_later true e claimed low = refl
    by_later false e claimed low =
        let same : k.serial ≡ serial = omega (arith, ltb-false serial k.serial e, ltb-false k.serial serial low) in
        and_from (fits k serial) k.removed
        (and_from k.claimed (k.serial == serial) claimed (eq-eqb k.serial serial same)) is

-- ---- a step of the caller's own, in a longer history

pub record StepIn (l : Limits) (n : CallerNo) (before later : List Event) (act : Act) : Type 0 where
  pub past : List Event
  pub rest : List Event
  pub parts : before ++ later ≡ past ++ event_of n act ∷ rest
  pub begins : IsPrefix before past
  pub step : IsStep l past (event_of n act)
  pub legal_past : IsLegal l past

pub step_in : (l : Limits) (n : CallerNo) (before later : List Event) (act : Act) → IsLegal l (before ++ later)
    → Contains (mine n later) act → StepIn l n before later act
step_in l n before later act legal there =
    let at = at_own n later act there in
    let e = event_of n act in
    let parts : before ++ later ≡ (before ++ at.past) ++ e ∷ at.later = ap (λ events. before ++ events) at.parts
    ∙ sym (append_assoc before at.past (e ∷ at.later)) in
    let legal' = subst (IsLegal l) parts legal in
    record {
      past = before ++ at.past;
      rest = at.later;
      parts = parts;
      begins = (at.past, refl);
      step = legal_next l (before ++ at.past) e at.later legal';
      legal_past = legal_beginning l (before ++ at.past) (e ∷ at.later) legal';
    }

-- who removed the key of an index that was claimed for this key leaves it removed
pub removal_stands : (l : Limits) (n : CallerNo) (before later : List Event) (s : SelNo) (i serial : ℕ) (found : Stage)
    → IsLegal l (before ++ later)
    → Contains (mine n later) (Remove s i found)
    → ((past : List Event) → IsPrefix before past → IsLegal l past → (k : Stage) → k ≡ (state_after past).key s.0 i
    → was_removed (record k { removed = true }) serial ≡ true)
    → was_removed ((state_after (before ++ later)).key s.0 i) serial ≡ true
removal_stands l n before later s i serial found legal there removes =
    let act = Remove s i found in
    let at = step_in l n before later act legal there in
    let e = event_of n act in
    let st = state_after at.past in
    let k : Stage = st.key s.0 i in
    let now = state_after-more at.past e in
    let made = put_at-same st.key s.0 i (record k { removed = true }) in
    let here : was_removed ((state_after (at.past ++ e ∷ [])).key s.0 i) serial ≡ true
    = ap (λ (x : State). was_removed (x.key s.0 i) serial) now
    ∙ (ap (λ (x : Stage). was_removed x serial) made ∙ removes at.past at.begins at.legal_past k refl) in
    let joined : (at.past ++ e ∷ []) ++ at.rest ≡ before ++ later = append_assoc at.past (e ∷ []) at.rest
    ∙ sym at.parts in
    facts_are_permanent l (at.past ++ e ∷ []) (before ++ later) (at.rest, joined) legal (key_removed s.0 i serial) here

-- also where the key was published before
pub removal_gone : (l : Limits) (n : CallerNo) (before later : List Event) (s : SelNo) (i serial : ℕ) (found : Stage)
    → IsLegal l (before ++ later) → was_published ((state_after before).key s.0 i) serial ≡ true
    → Contains (mine n later) (Remove s i found)
    → was_removed ((state_after (before ++ later)).key s.0 i) serial ≡ true
removal_gone l n before later s i serial found legal published there =
    removal_stands l n before later s i serial found legal there
    (λ past begins legal' k is. also_removed (nat_lt serial k.serial) (fits k serial) k.published true
    (subst (λ (x : Stage). was_published x serial ≡ true) (sym is)
    (facts_are_permanent l before past begins legal' (key_published s.0 i serial) published)) refl)

-- ---- the law

module _ (l : Limits) (n : CallerNo) (before later : List Event) (s : SelNo) (i serial : ℕ)
    (legal : IsLegal l (before ++ later))
    (published : was_published ((state_after before).key s.0 i) serial ≡ true) where
  -- what was so before is so at each step of this caller since
  pub still_published : (past : List Event) → IsPrefix before past → IsLegal l past
      → was_published ((state_after past).key s.0 i) serial ≡ true
  still_published past begins legal' =
      facts_are_permanent l before past begins legal' (key_published s.0 i serial) published

  -- what is so at such a step is so at the end
  at_end : (act : Act) (at : StepIn l n before later act) → was_removed ((state_after at.past).key s.0 i) serial ≡ true
      → was_removed ((state_after (before ++ later)).key s.0 i) serial ≡ true
  at_end act at here =
      facts_are_permanent l at.past (before ++ later) (event_of n act ∷ at.rest, sym at.parts) legal
      (key_removed s.0 i serial) here

  -- a look shows the index free
  pub free_gone : (j b word : ℕ) → i ≡ 64 * j + b → b < 64 → Contains (mine n later) (LookFree s j word)
      → has_bit word b ≡ true → was_removed ((state_after (before ++ later)).key s.0 i) serial ≡ true
  free_gone j b word at low look bit =
      let act = LookFree s j word in
      let there = step_in l n before later act legal look in
      let st = state_after there.past in
      let is : word ≡ free_word st s.0 j = ap word_in there.step.answers in
      let one : has_bit (free_word st s.0 j) b ≡ true = ap (λ (w : ℕ). has_bit w b) (sym is) ∙ bit in
      let free : st.free s.0 (64 * j + b) ≡ true = by_bit (st.free s.0 (64 * j + b))
      (bits_below-at 64 (λ c. st.free s.0 (64 * j + c)) b low) one in
      let back = back_parts (st.key s.0 i)
      ((legal-sound l there.past there.legal_past).free_back s.0 i
      (subst (λ (k : ℕ). st.free s.0 k ≡ true) (sym at) free)) in
      at_end act there
      (also_removed (nat_lt serial (st.key s.0 i).serial) (fits (st.key s.0 i) serial) (st.key s.0 i).published
      (st.key s.0 i).removed
      (still_published there.past there.begins there.legal_past) back.removed)
    where
      by_bit : {w : ℕ} (c : Bool) → w ≡ (if c then 1 else 0) → (w == 1) ≡ true → c ≡ true
      by_bit true is one = refl
      by_bit {w = w} false is one = absurd (omega (arith, is, eqb-true w 1 one))

  module _ (cancelled : was_cancelled ((state_after before).key s.0 i) serial ≡ true) where
    still_cancelled : (past : List Event) → IsPrefix before past → IsLegal l past
        → was_cancelled ((state_after past).key s.0 i) serial ≡ true
    still_cancelled past begins legal' =
        facts_are_permanent l before past begins legal' (key_cancelled s.0 i serial) cancelled

    -- where the key isn't in the cancelled set at a time since, it is removed
    pub outside_since : (past rest : List Event) → before ++ later ≡ past ++ rest → IsPrefix before past
        → IsLegal l past
        → in_cancelled_set ((state_after past).key s.0 i) ≡ false
        → was_removed ((state_after (before ++ later)).key s.0 i) serial ≡ true
    outside_since past rest parts begins legal' outside =
        let k : Stage = (state_after past).key s.0 i in
        facts_are_permanent l past (before ++ later) (rest, sym parts) legal (key_removed s.0 i serial)
        (outside_removed (nat_lt serial k.serial) (fits k serial) k.published k.cancelled k.removed
        (still_published past begins legal') (still_cancelled past begins legal') outside)

    -- a key that is valid then is another one
    pub other_since : (past : List Event) → IsPrefix before past → IsLegal l past
        → is_valid ((state_after past).key s.0 i) ≡ true → ((state_after past).key s.0 i).serial ≡ serial → ⊥
    other_since past begins legal' valid same =
        let k : Stage = (state_after past).key s.0 i in
        valid_uncancelled (nat_lt serial k.serial) (fits k serial) k.published k.cancelled k.removed
        (le-ltb serial k.serial (omega (arith, same))) (still_cancelled past begins legal') valid

    outside_gone : (stage : Stage) → Contains (mine n later) (LookKey s i stage) → in_cancelled_set stage ≡ false
        → was_removed ((state_after (before ++ later)).key s.0 i) serial ≡ true
    outside_gone stage look outside =
        let act = LookKey s i stage in
        let there = step_in l n before later act legal look in
        let is : stage ≡ (state_after there.past).key s.0 i = ap stage_in there.step.answers in
        outside_since there.past (event_of n act ∷ there.rest) there.parts there.begins there.legal_past
        (ap in_cancelled_set (sym is) ∙ outside)

    pub settled-gone : Settled s i (mine n later) → was_removed ((state_after (before ++ later)).key s.0 i) serial ≡ true
    settled-gone (is_free j b word at low look bit) = free_gone j b word at low look bit
    settled-gone (is_found stage look outside) = outside_gone stage look outside
    settled-gone (is_gone found there) = removal_gone l n before later s i serial found legal published there

    -- a looked key is another one
    not-looked : (stage : Stage) → Contains (mine n later) (LookKey s i stage) → is_valid stage ≡ true
        → stage.serial ≡ serial → ⊥
    not-looked stage look valid same =
        let there = step_in l n before later (LookKey s i stage) legal look in
        let is : stage ≡ (state_after there.past).key s.0 i = ap stage_in there.step.answers in
        other_since there.past there.begins there.legal_past (ap is_valid (sym is) ∙ valid)
        (ap (λ (x : Stage). x.serial) (sym is) ∙ same)

pub cancelled_keys_go : CancelledKeysGo
cancelled_keys_go l n before later s mode selection i serial legal run published cancelled below = (
  settled-gone l n before later s i serial legal published cancelled
      (met-weaker s i (mine n later) (λ stage listed. listed.outside)
      (begin-meets s mode (mine n later) selection run i below)),
  All-weaker (IsLookedAt s (mine n later)) (λ entry. (entry.index ≡ i) × (entry.serial ≡ serial) → ⊥)
      (λ entry is same. not-looked l n before later s i serial legal published cancelled is.stage
      (subst (λ (k : ℕ). Contains (mine n later) (LookKey s k is.stage)) same.0 is.look) is.valid (is.serial ∙ same.1))
      selection.looked (looks_at_valid_keys s mode (mine n later) selection run),
)

pub cancelled_keys_go_at_end : CancelledKeysGoAtEnd
cancelled_keys_go_at_end l n before looked later selection poll answer mark i serial legal unlisted run published
    cancelled below =
    let s = selection.selector in
    let e = event_of n (LookKeys s mark) in
    let own : mine n (looked ++ e ∷ later) ≡ mine n looked ++ LookKeys s mark ∷ mine n later = mine-append n looked
    (e ∷ later) ∙ ap (λ xs. mine n looked ++ xs) (mine-own_first n e later (eq-eqb n.0 n.0 refl)) in
    let cut = cut_at_keys selection poll (mine n looked) mark (mine n later) answer
    (subst (λ xs. Tells selection poll xs (done answer)) own run) in
    let swept = end-settles s mark cut.ended.sweeps
    (subst (λ b. Completes (remove_below s mark b) cut.ended.sweeps tt) unlisted cut.runs_sweeps) i below in
    let settled : Settled s i (mine n (e ∷ later))
    = subst (Settled s i)
    (sym (mine-own_first n e later (eq-eqb n.0 n.0 refl) ∙ ap (λ xs. LookKeys s mark ∷ xs) cut.after))
    (met-right s i (LookKeys s mark ∷ []) (cut.ended.sweeps ++ cut.ended.wake ∷ cut.ended.gives ∷ [])
    (met-left s i cut.ended.sweeps (cut.ended.wake ∷ cut.ended.gives ∷ []) swept)) in
    let joined : (before ++ looked) ++ e ∷ later ≡ before ++ (looked ++ e ∷ later) = append_assoc before looked
    (e ∷ later) in
    subst (λ events. was_removed ((state_after events).key s.0 i) serial ≡ true) joined
    (settled-gone l n (before ++ looked) (e ∷ later) s i serial (subst (IsLegal l) (sym joined) legal) published
    cancelled settled)
