-- What stands under the hold of a number after one step more.
use Rattle.std.proofs.Common.{◌≡◌, ℕ, ◌==◌, Bool, true, false, ◌&&◌, ◌||◌, Option, Some, None, [], ◌∷◌, ◌++◌, refl, ap}
use Rattle.std.proofs.Common.{sym, ◌∙◌, subst, below_more, arith, ◌+◌, not, eq-eqb, if◌then◌else◌}
use Rattle.std.specs.Prelude.{nat_lt, IfSome, IsTrue}
use Rattle.std.proofs.lemmas.Bool.{and_parts, and_from, or_right, ne_eqb}
use Rattle.std.proofs.Math.Bool.{and-false}
use Rattle.nio_base.specs.declared.numbers.CallerNo.{CallerNo}
use Rattle.nio_base.specs.declared.numbers.ChanId.{ChanId}
use Rattle.nio_base.specs.declared.numbers.ChanNo.{ChanNo}
use Rattle.nio_base.specs.declared.numbers.KeyId.{KeyId}
use Rattle.nio_base.specs.declared.numbers.SelNo.{SelNo}
use Rattle.nio_history.proofs.Finds.{step_leaves}
use Rattle.nio_history.proofs.LastsAlone.{same_two}
use Rattle.nio_history.proofs.OneMore.{since_from-more}
use Rattle.nio_history.proofs.PinLaws.{enrolled_keys_are_claimed}
use Rattle.nio_history.proofs.Put.{put-same}
use Rattle.nio_history.proofs.Within.{legal-within}
use Rattle.nio_history.specs.Conditions.{IsChannel, IsSelector, IsKey, is_held_by, holds, is_claimed}
use Rattle.nio_history.specs.Found.{finds}
use Rattle.nio_history.specs.Histories.{state_after}
use Rattle.nio_history.specs.Permanent.{OwnFact, the_hold, is_had_by, gives_back, channel_closed, key_published}
use Rattle.nio_history.specs.OwnEvents.{has, last, under, takes_hold, releases, finds_unblocked, enrolled_found}
use Rattle.nio_history.specs.OwnEvents.{is_clear}
use Rattle.nio_history.specs.PassViews.{PassView, Holds as HoldsNumber, known, ActsClause, HasKey}
use Rattle.nio_history.specs.Sets.{fits, in_key_set, is_valid, was_published, is_in_key_set, is_valid_key}
use Rattle.nio_history.specs.Sets.{is_open_channel}
use Rattle.nio_history.specs.Sound.{IsWithin}
use Rattle.nio_history.specs.State.{State}
use Rattle.nio_history.specs.declared.act.Act.{Act}
use Rattle.nio_history.specs.declared.act.Act.TheVariants.{LookKey, LookChannel, LookReg, TryHoldBit}
use Rattle.nio_history.specs.declared.found.Chan.{Chan}
use Rattle.nio_history.specs.declared.found.Stage.{Stage}
use Rattle.nio_steps.specs.Names.{key}
use Rattle.nio_words.proofs.GoingOn.{own_stands}
use Rattle.nio_words.proofs.Stepping.{still_ready}
use Rattle.nio_words.proofs.Views.{finds_drawn, step_acts, look_tells, found_now}
use Rattle.nio_words.specs.Passes.{seen, state_seen, acts_seen, IsPassOf, IsReady, limits_of}
use Rattle.nio_words.specs.Steps.{Steps}
use Rattle.nio_words.specs.Views.{view}
use Rattle.nio_words.specs.declared.words.Pass.{Pass}
use Rattle.nio_words.specs.declared.words.Words.{Words}
use Rattle.nio_channel.proofs.Chans.{open_unclosed}
use Rattle.nio_channel.proofs.Own.{is_quiet, quiet_holds, quiet_keeps, quiet_unclosed, under_longer, under_found}
use Rattle.nio_channel.proofs.Own.{under_never, told_look, clear_quiet, clear_look_else, clear_none, clear_looked}
use Rattle.nio_channel.specs.Held.{HoldsChannel, HoldsUnblocked, MayEnrol, IsClearBelow}
use Rattle.nio_channel.specs.Registered.{found_closed}

-- the caller's acts grow by the step
pub own_more : {w : Words} {p q : Pass} {me : CallerNo} {act : Act} → Steps w p q me act → finds_drawn act ≡ false
    → acts_seen q me ≡ acts_seen p me ++ act ∷ []
own_more steps new = (step_acts steps new).history.own

-- a caller has what it had, where the step doesn't give it back
pub had_stays : {w : Words} {p q : Pass} {me : CallerNo} {act : Act} (f : OwnFact) → Steps w p q me act
    → finds_drawn act ≡ false → gives_back f act ≡ false → IsPassOf w p
    → is_had_by me f (state_seen p) ≡ true → is_had_by me f (state_seen q) ≡ true
had_stays {w = w} {p = p} {q = q} {me = me} {act = act} f steps new keeps pass had =
    let clause = (step_acts steps new).history in
    own_stands w me f (act ∷ []) p q
    (record {
      goes_on = record {
        later = record { earlier_pass = pass; later_pass = steps.pass; begins = clause.goes_on };
        own = clause.own;
      };
      has_it = had;
      kept = ap (λ b. b || false) keeps;
    })

-- it found that the channel is closed
abbrev pub finds_closed : ChanId → Act → Bool
finds_closed c act = finds act (channel_closed c.number.0 c.serial)

-- ---- the hold

pub hold_stays : {w : Words} {p q : Pass} {me : CallerNo} {act : Act} {c : ChanNo} → Steps w p q me act
    → finds_drawn act ≡ false → releases c.0 act ≡ false
    → HoldsChannel w p me c → HoldsChannel w q me c
hold_stays {w = w} {p = p} {q = q} {me = me} {act = act} {c = c} steps new keeps held = record {
  ready = still_ready w p q me me act steps held.ready;
  channel = held.channel;
  holding = had_stays (the_hold c) steps new keeps held.ready.pass held.holding;
}

-- who just took the hold of a channel has it
held_now : {me : CallerNo} {c : ChanNo} {v0 v1 : PassView} → ActsClause me (TryHoldBit c None ∷ []) v0 v1
    → holds (known v1) me c ≡ true
held_now {me = me} {c = c} {v0 = v0} {v1 = v1} clause =
    let leaves = step_leaves v0.limits (HoldsNumber v0) me (TryHoldBit c None) v0.seen v1.seen clause.history in
    let before : State = state_after (v0.seen ++ leaves.between) in
    ap (λ st. holds st me c) leaves.state
    ∙ (ap (is_held_by me) (put-same before.hold c.0 (Some me)) ∙ eq-eqb me.0 me.0 refl)

pub takes_the_hold : {w : Words} {p q : Pass} {me : CallerNo} {c : ChanNo} {found : Option CallerNo}
    → Steps w p q me (TryHoldBit c found) → found ≡ None → IsReady w p me
    → IsChannel (limits_of w) c → HoldsChannel w q me c
takes_the_hold {w = w} {p = p} {q = q} {me = me} {c = c} {found = found} steps free ready inside = record {
  ready = still_ready w p q me me (TryHoldBit c found) steps ready;
  channel = inside;
  holding = held_now
      (subst (λ holder. ActsClause me (TryHoldBit c holder ∷ []) (view w p) (view w q)) free (step_acts steps refl));
}

-- a step that neither takes nor gives back a hold, and doesn't find the channel closed
pub unblocked_over : {w : Words} {p q : Pass} {me : CallerNo} {act : Act} {c : ChanId} → Steps w p q me act
    → finds_drawn act ≡ false
    → takes_hold c.number.0 act ≡ false → releases c.number.0 act ≡ false
    → finds act (channel_closed c.number.0 c.serial) ≡ false
    → HoldsUnblocked w p me c → HoldsUnblocked w q me c
unblocked_over {p = p} {me = me} {act = act} {c = c} steps new takes keeps unclosed here = record {
  held = hold_stays steps new keeps here.held;
  unblocked =
      ap (λ own. has (finds_unblocked c.number.0) (under c.number.0 own)) (own_more steps new)
      ∙ under_longer (finds_unblocked c.number.0) c.number.0 (acts_seen p me) act takes here.unblocked;
  unclosed =
      ap (λ own. has (finds_closed c) (under c.number.0 own)) (own_more steps new)
      ∙ under_never (finds_closed c) c.number.0 (acts_seen p me) act takes unclosed
      here.unclosed;
}

pub unblocked_stays : {w : Words} {p q : Pass} {me : CallerNo} {act : Act} {c : ChanId} → Steps w p q me act
    → finds_drawn act ≡ false → is_quiet act ≡ true
    → HoldsUnblocked w p me c → HoldsUnblocked w q me c
unblocked_stays {act = act} {c = c} steps new quiet here =
    unblocked_over steps new (quiet_holds c.number.0 act quiet) (quiet_keeps c.number.0 act quiet)
    (quiet_unclosed c.number.0 c.serial act quiet) here

pub may_enrol_stays : {w : Words} {p q : Pass} {me : CallerNo} {act : Act} {c : ChanId} {s : SelNo} → Steps w p q me act
    → finds_drawn act ≡ false → is_quiet act ≡ true
    → MayEnrol w p me c s → MayEnrol w q me c s
may_enrol_stays {p = p} {me = me} {act = act} {c = c} {s = s} steps new quiet here = record {
  unblocked = unblocked_stays steps new quiet here.unblocked;
  clear = ap (is_clear c.number.0 s.0) (own_more steps new)
      ∙ clear_quiet c.number.0 s.0 (acts_seen p me) act quiet here.clear;
}

-- ---- no key in the key set is enrolled in the first selectors

-- a step that is of no consequence leaves it so
pub clear_below_stays : {w : Words} {p q : Pass} {me : CallerNo} {act : Act} (c : ChanNo) (n : ℕ) → Steps w p q me act
    → finds_drawn act ≡ false → is_quiet act ≡ true
    → IsClearBelow p me c n → IsClearBelow q me c n
clear_below_stays {p = p} {me = me} {act = act} c n steps new quiet clear s below =
    ap (is_clear c.0 s) (own_more steps new) ∙ clear_quiet c.0 s (acts_seen p me) act quiet (clear s below)

-- so does a look in the next selector
pub clear_below_look : {w : Words} {p q : Pass} {me : CallerNo} {c : ChanNo} {s : SelNo} {enrolled : Option KeyId}
    → Steps w p q me (LookReg c s enrolled)
    → IsClearBelow p me c s.0 → IsClearBelow q me c s.0
clear_below_look {p = p} {me = me} {c = c} {s = s} {enrolled = enrolled} steps clear s' below =
    let other : (s.0 == s') ≡ false = ne_eqb s.0 s' (λ is. omega arith) in
    ap (is_clear c.0 s') (own_more steps refl) ∙ clear_look_else c s' s enrolled (acts_seen p me) other (clear s' below)

-- none was found enrolled in the next
pub clear_below_none : {w : Words} {p q : Pass} {me : CallerNo} {c : ChanNo} {s : SelNo}
    → Steps w p q me (LookReg c s None)
    → IsClearBelow p me c s.0 → IsClearBelow q me c (s.0 + 1)
clear_below_none {p = p} {me = me} {c = c} {s = s} steps clear =
    below_more _ _ (clear_below_look steps clear)
    (ap (is_clear c.0 s.0) (own_more steps refl) ∙ clear_none c s (acts_seen p me))

-- the one that was found enrolled in the next was found outside the key set
pub clear_below_outside : {w : Words} {p q r : Pass} {me : CallerNo} {c : ChanNo} {s : SelNo} {k : KeyId}
    {stage : Stage} → Steps w p q me (LookReg c s (Some k))
    → Steps w q r me (LookKey s k.index stage) → is_in_key_set stage k.serial ≡ false → IsClearBelow p me c s.0
    → IsClearBelow r me c (s.0 + 1)
clear_below_outside {p = p} {q = q} {me = me} {c = c} {s = s} {k = k} {stage = stage} look there out clear =
    below_more _ _ (clear_below_stays c s.0 there refl refl (clear_below_look look clear))
    (ap (is_clear c.0 s.0) (own_more there refl)
    ∙ clear_looked c.0 s k stage (acts_seen q me) out
    (ap (λ own. last (enrolled_found c.0 s.0) (under c.0 own)) (own_more look refl)
    ∙ told_look c s (Some k) (acts_seen p me)))

-- ---- the enrolled key

-- a key that was found enrolled has an index of the selector
pub enrolled_inside : {w : Words} {p q : Pass} {me : CallerNo} {c : ChanNo} {s : SelNo} (enrolled : Option KeyId)
    → Steps w p q me (LookReg c s enrolled) → IsSelector (limits_of w) s
    → IfSome enrolled (λ k. IsKey (limits_of w) s k.index)
enrolled_inside None steps inside = tt
enrolled_inside {w = w} {q = q} {c = c} {s = s} (Some k) steps inside =
    (inside, (within.enrolled c.0 s.0 k (sym told)).0)
  where
    told : Some k ≡ (state_seen q).enrolled c.0 s.0
    told = cc (look_tells (step_acts steps refl) refl)

    within : IsWithin (limits_of w) (state_seen q)
    within = legal-within (limits_of w) (seen q) steps.pass.legal

-- and it is claimed
pub enrolled_claimed : {w : Words} {p q : Pass} {me : CallerNo} {c : ChanNo} {s : SelNo} (enrolled : Option KeyId)
    → Steps w p q me (LookReg c s enrolled)
    → IfSome enrolled (λ k. IsTrue (is_claimed (state_seen q) s k.index))
enrolled_claimed None steps = tt
enrolled_claimed {w = w} {q = q} {c = c} {s = s} (Some k) steps =
    (and_parts _ _ (enrolled_keys_are_claimed (limits_of w) c s k (seen q) w.fit steps.pass.legal (sym told)).0).0
  where
    told : Some k ≡ (state_seen q).enrolled c.0 s.0
    told = cc (look_tells (step_acts steps refl) refl)

-- ---- keys

-- a stage that shows a key in the key set shows that it was published
pub in_set_published : (stage : Stage) (serial : ℕ) → is_in_key_set stage serial ≡ true
    → was_published stage serial ≡ true
in_set_published stage serial inside =
    let parts = and_parts (fits stage serial) (in_key_set stage) inside in
    or_right (nat_lt serial stage.serial) (fits stage serial && stage.published)
    (and_from (fits stage serial) stage.published parts.0 (and_parts stage.published (not stage.removed) parts.1).0)

-- a key that a look just found in the key set
pub looked_key : {w : Words} {p q : Pass} {me : CallerNo} {s : SelNo} {k : KeyId} {stage : Stage}
    → Steps w p q me (LookKey s k.index stage) → IsKey (limits_of w) s k.index
    → is_in_key_set stage k.serial ≡ true → HasKey (view w q) (key s k)
looked_key {s = s} {k = k} {stage = stage} steps inside found = record {
  inside = inside;
  published = found_now (key_published s.0 k.index k.serial) (step_acts steps refl)
      (ap (λ b. b && was_published stage k.serial) (same_two s.0 k.index) ∙ in_set_published stage k.serial found);
}

-- a valid key is in the key set
pub valid_in_set : (stage : Stage) (serial : ℕ) → is_valid_key stage serial ≡ true → is_in_key_set stage serial ≡ true
valid_in_set stage serial valid =
    let parts = and_parts (fits stage serial) (is_valid stage) valid in
    and_from (fits stage serial) (in_key_set stage) parts.0
    (and_parts (in_key_set stage) (not stage.cancelled) parts.1).0

-- a key of the key set that isn't cancelled is valid
pub invalid_outside : (stage : Stage) (serial : ℕ) → (is_in_key_set stage serial && stage.cancelled) ≡ false
    → is_valid_key stage serial ≡ false → is_in_key_set stage serial ≡ false
invalid_outside stage serial = by_parts (fits stage serial) (in_key_set stage) stage.cancelled
  where
    by_parts : (f i c : Bool) → ((f && i) && c) ≡ false → (f && (i && not c)) ≡ false → (f && i) ≡ false
    by_parts false i c spared invalid = refl
    by_parts true false c spared invalid = refl
    by_parts true true true spared invalid = spared
    by_parts true true false spared invalid = invalid

-- the channel was just found open and non-blocking
pub found_unblocked : {w : Words} {p q : Pass} {me : CallerNo} {c : ChanId} {found : Chan}
    → Steps w p q me (LookChannel c.number found) → is_open_channel found c.serial ≡ true → found.blocking ≡ false
    → HoldsChannel w p me c.number → found_closed (view w p) me c ≡ false → HoldsUnblocked w q me c
found_unblocked {p = p} {me = me} {c = c} {found = found} steps opens unblocked held before = record {
  held = hold_stays steps refl refl held;
  unblocked =
      ap (λ own. has (finds_unblocked c.number.0) (under c.number.0 own)) (own_more steps refl)
      ∙ under_found (finds_unblocked c.number.0) c.number.0 (acts_seen p me) (LookChannel c.number found) refl
      (and_from (c.number.0 == c.number.0) (not found.blocking) (eq-eqb c.number.0 c.number.0 refl) (ap not unblocked));
  unclosed =
      ap (λ own. has (finds_closed c) (under c.number.0 own)) (own_more steps refl)
      ∙ under_never (finds_closed c) c.number.0 (acts_seen p me)
      (LookChannel c.number found) refl
      (ap (λ b. (c.number.0 == c.number.0) && b) (open_unclosed found c.serial opens)
      ∙ and-false (c.number.0 == c.number.0)) before;
}

-- under a hold that was just taken it hasn't been found closed
pub unclosed_yet : {w : Words} {p q : Pass} {me : CallerNo} (c : ChanId) {found : Option CallerNo}
    → Steps w p q me (TryHoldBit c.number found) → found ≡ None → found_closed (view w q) me c ≡ false
unclosed_yet {p = p} {me = me} c {found = found} steps free =
    ap (has (finds_closed c)) (ap (under c.number.0) (own_more steps refl))
    ∙ (ap (λ holder. has (finds_closed c) (under c.number.0 (acts_seen p me ++ TryHoldBit c.number holder ∷ []))) free
    ∙ (ap (has (finds_closed c)) (since_from-more (takes_hold c.number.0) (acts_seen p me) (TryHoldBit c.number None))
    ∙ ap (λ b. has (finds_closed c)
    (if b then [] else under c.number.0 (acts_seen p me) ++ TryHoldBit c.number None ∷ []))
    (eq-eqb c.number.0 c.number.0 refl)))
