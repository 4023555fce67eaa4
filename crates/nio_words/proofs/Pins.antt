-- The pins that a caller has after its own acts.
use Rattle.std.proofs.Common.{◌≡◌, ℕ, ◌==◌, ◌&&◌, Bool, true, false, if◌then◌else◌, Option, Some, None, [], ◌∷◌, refl}
use Rattle.std.proofs.Common.{ap, sym, ◌∙◌, eqb-true, eq-eqb}
use Rattle.std.specs.Option.{option_or}
use Rattle.std.specs.Prelude.{IsTrue}
use Rattle.std.proofs.lemmas.Bool.{and_parts}
use Rattle.nio_base.specs.declared.numbers.CallerNo.{CallerNo}
use Rattle.nio_base.specs.declared.numbers.ChanNo.{ChanNo}
use Rattle.nio_base.specs.declared.numbers.SelNo.{SelNo}
use Rattle.nio_history.proofs.OneMore.{last-more}
use Rattle.nio_history.proofs.OwnPins.{pins_are_own}
use Rattle.nio_history.proofs.Soundness.{legal-sound, pinned-claimed}
use Rattle.nio_history.proofs.Stays.{beginnings_are_legal}
use Rattle.nio_history.specs.Conditions.{has_pin, is_claimed}
use Rattle.nio_history.specs.Histories.{mine}
use Rattle.nio_history.specs.OwnEvents.{is_yes, last, pin_changed, keeps_pin}
use Rattle.nio_history.specs.PassViews.{PassView, known, ActsClause, HasNoPin}
use Rattle.nio_history.specs.declared.act.Act.{Act}
use Rattle.nio_history.specs.declared.act.Act.TheVariants.{Claim, Pin, Unpin, ClaimAgain}
use Rattle.nio_history.specs.declared.found.Stage.{Stage}
use Rattle.nio_words.proofs.Stepping.{still_ready}
use Rattle.nio_words.proofs.Views.{finds_drawn, step_acts}
use Rattle.nio_words.specs.Passes.{seen, state_seen, limits_of}
use Rattle.nio_words.specs.Steps.{Steps}
use Rattle.nio_words.specs.Views.{HasOnlyPin, IsPinned}
use Rattle.nio_words.specs.declared.words.Pass.{Pass}
use Rattle.nio_words.specs.declared.words.Words.{Words}

-- whether there is a pin after an act that tells this of it, by whether there was one before
abbrev pub pin_then : Option Bool → Bool → Bool
pin_then told pinned = is_yes (option_or told (Some pinned))

pub pin_after : {me : CallerNo} {act : Act} {v0 v1 : PassView} → ActsClause me (act ∷ []) v0 v1 → (s : SelNo) (i : ℕ)
    → has_pin (known v1) me s i ≡ pin_then (pin_changed s.0 i act) (has_pin (known v0) me s i)
pin_after {me = me} {act = act} {v0 = v0} {v1 = v1} clause s i =
    let legal = beginnings_are_legal v0.limits v0.seen v1.seen clause.history.goes_on clause.history.legal in
    pins_are_own v0.limits me s i v1.seen clause.history.legal
    ∙ (ap (keeps_pin s.0 i) clause.history.own
    ∙ (ap is_yes (last-more (pin_changed s.0 i) (mine me v0.seen) act)
    ∙ (by_act (pin_changed s.0 i act) (last (pin_changed s.0 i) (mine me v0.seen))
    ∙ ap (pin_then (pin_changed s.0 i act)) (sym (pins_are_own v0.limits me s i v0.seen legal)))))
  where
    by_act : (told before : Option Bool) → is_yes (option_or told before) ≡ pin_then told (is_yes before)
    by_act None before = refl
    by_act (Some b) before = refl

-- ---- an act that puts no pin on an index and takes none off

abbrev pub changes_pins : Act → Bool
changes_pins (Claim s i c false) = true
changes_pins (Pin s i found) = true
changes_pins (Unpin s i) = true
changes_pins (ClaimAgain s i c from false) = true
changes_pins _ = false

unchanged : (act : Act) → changes_pins act ≡ false → (s i : ℕ) → pin_changed s i act ≡ None
unchanged (Claim s' i' c false) keeps s i = absurd cc
unchanged (Pin s' i' found) keeps s i = absurd cc
unchanged (Unpin s' i') keeps s i = absurd cc
unchanged (ClaimAgain s' i' c from false) keeps s i = absurd cc
unchanged act keeps s i = refl

pub same_pin : {me : CallerNo} {act : Act} {v0 v1 : PassView} → ActsClause me (act ∷ []) v0 v1
    → changes_pins act ≡ false → (s : SelNo) (i : ℕ)
    → has_pin (known v1) me s i ≡ has_pin (known v0) me s i
same_pin {me = me} {act = act} {v0 = v0} clause keeps s i =
    pin_after clause s i ∙ ap (λ told. pin_then told (has_pin (known v0) me s i)) (unchanged act keeps s.0 i)

pub no_pin_stays : {me : CallerNo} {act : Act} {v0 v1 : PassView} → ActsClause me (act ∷ []) v0 v1
    → changes_pins act ≡ false → HasNoPin v0 me → HasNoPin v1 me
no_pin_stays clause keeps none s i = same_pin clause keeps s i ∙ none s i

pub only_pin_stays : {me : CallerNo} {s : SelNo} {i : ℕ} {act : Act} {v0 v1 : PassView} → ActsClause me (act ∷ []) v0 v1
    → changes_pins act ≡ false
    → HasOnlyPin v0 me s i → HasOnlyPin v1 me s i
only_pin_stays {s = s} {i = i} clause keeps only = record {
  here = same_pin clause keeps s i ∙ only.here;
  nowhere_else = λ s' i' there. only.nowhere_else s' i' (sym (same_pin clause keeps s' i') ∙ there);
}

-- ---- an act that puts the caller's first pin on an index, or takes its only one off

-- it tells this of the pin on index i, and nothing of others
abbrev pub tells_here : SelNo → ℕ → Bool → ℕ → ℕ → Option Bool
tells_here s i pinned s' i' = if (s.0 == s') && (i == i') then Some pinned else None

same_index : (s s' : SelNo) (i i' : ℕ) → ((s.0 == s'.0) && (i == i')) ≡ true → (s' ≡ s) × (i' ≡ i)
same_index s s' i i' same =
    let both = and_parts (s.0 == s'.0) (i == i') same in
    (ap (λ (n : ℕ). record { 0 = n }) (sym (eqb-true s.0 s'.0 both.0)), sym (eqb-true i i' both.1))

first_pin : {me : CallerNo} {s : SelNo} {i : ℕ} {act : Act} {v0 v1 : PassView}
    → ((s' i' : ℕ) → pin_changed s' i' act ≡ tells_here s i true s' i')
    → ActsClause me (act ∷ []) v0 v1 → HasNoPin v0 me → HasOnlyPin v1 me s i
first_pin {me = me} {s = s} {i = i} {act = act} {v0 = v0} {v1 = v1} tells clause none = record {
  here = after s i
      ∙ ap (λ b. pin_then (if b then Some true else None) (has_pin (known v0) me s i))
      (ap (λ b. b && (i == i)) (eq-eqb s.0 s.0 refl) ∙ eq-eqb i i refl);
  nowhere_else = λ s' i' there. by_test s' i' ((s.0 == s'.0) && (i == i')) refl (sym (after s' i') ∙ there);
}
  where
    after : (s' : SelNo) (i' : ℕ)
        → has_pin (known v1) me s' i' ≡ pin_then (tells_here s i true s'.0 i') (has_pin (known v0) me s' i')
    after s' i' = pin_after clause s' i' ∙ ap (λ told. pin_then told (has_pin (known v0) me s' i')) (tells s'.0 i')

    by_test : (s' : SelNo) (i' : ℕ) (b : Bool) → ((s.0 == s'.0) && (i == i')) ≡ b
        → pin_then (if b then Some true else None) (has_pin (known v0) me s' i') ≡ true
        → (s' ≡ s) × (i' ≡ i)
    by_test s' i' true same there = same_index s s' i i' same
    by_test s' i' false same there = let no : false ≡ true = sym (none s' i') ∙ there in absurd cc

pub only_pinned : {me : CallerNo} {s : SelNo} {i : ℕ} {found : Stage} {v0 v1 : PassView}
    → ActsClause me (Pin s i found ∷ []) v0 v1 → HasNoPin v0 me → HasOnlyPin v1 me s i
only_pinned clause none = first_pin (λ s' i'. refl) clause none

pub only_claimed : {me : CallerNo} {s : SelNo} {i : ℕ} {c : ChanNo} {v0 v1 : PassView}
    → ActsClause me (Claim s i c false ∷ []) v0 v1 → HasNoPin v0 me → HasOnlyPin v1 me s i
only_claimed clause none = first_pin (λ s' i'. refl) clause none

pub only_claimed_again : {me : CallerNo} {s : SelNo} {i : ℕ} {c : ChanNo} {from : Stage} {v0 v1 : PassView}
    → ActsClause me (ClaimAgain s i c from false ∷ []) v0 v1
    → HasNoPin v0 me → HasOnlyPin v1 me s i
only_claimed_again clause none = first_pin (λ s' i'. refl) clause none

pub none_unpinned : {me : CallerNo} {s : SelNo} {i : ℕ} {v0 v1 : PassView} → ActsClause me (Unpin s i ∷ []) v0 v1
    → HasOnlyPin v0 me s i → HasNoPin v1 me
none_unpinned {me = me} {s = s} {i = i} {v0 = v0} clause only s' i' =
    pin_after clause s' i' ∙ by_test ((s.0 == s'.0) && (i == i')) refl (has_pin (known v0) me s' i') refl
  where
    by_test : (b : Bool) → ((s.0 == s'.0) && (i == i')) ≡ b → (pinned : Bool) → has_pin (known v0) me s' i' ≡ pinned
        → pin_then (if b then Some false else None) pinned ≡ false
    by_test true same pinned there = refl
    by_test false same false there = refl
    by_test false same true there =
        let here = only.nowhere_else s' i' there in
        let is : ((s.0 == s'.0) && (i == i')) ≡ true =
        ap (λ b. b && (i == i')) (eq-eqb s.0 s'.0 (ap (λ x. x.0) (sym here.0))) ∙ eq-eqb i i' (sym here.1) in
        let no : false ≡ true = sym same ∙ is in
        absurd cc

-- ---- between a pin and its unpin

pub stays_pinned : {w : Words} {p q : Pass} {me : CallerNo} {s : SelNo} {i : ℕ} {act : Act} → Steps w p q me act
    → finds_drawn act ≡ false → changes_pins act ≡ false
    → IsPinned w p me s i → IsPinned w q me s i
stays_pinned {w = w} {p = p} {q = q} {me = me} {act = act} steps new keeps pinned = record {
  ready = still_ready w p q me me act steps pinned.ready;
  inside = pinned.inside;
  only = only_pin_stays (step_acts steps new) keeps pinned.only;
}

-- an index on which the caller has a pin is claimed
pub pinned_claimed : {w : Words} {p : Pass} {me : CallerNo} {s : SelNo} {i : ℕ} → IsPinned w p me s i
    → IsTrue (is_claimed (state_seen p) s i)
pinned_claimed {w = w} {p = p} {me = me} {s = s} {i = i} pinned =
    pinned-claimed (state_seen p) (legal-sound (limits_of w) (seen p) pinned.ready.pass.legal) s.0 i me.0
    pinned.only.here
