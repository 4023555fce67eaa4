-- Each event of the worked history is a step.
use Rattle.std.proofs.Common.{◌≡◌, ℕ, ◌<◌, true, false, Option, Some, None, List, [], ◌∷◌, ◌++◌, take, drop}
use Rattle.std.proofs.Common.{append_assoc, ap, refl, sym, subst, arith, lit<, lit≤}
use Rattle.std.proofs.lemmas.List.{append-nil}
use Rattle.nio_base.specs.declared.limits.Limits.{Limits}
use Rattle.nio_history.proofs.Legal.{legal_empty, legal_more}
use Rattle.nio_history.specs.Histories.{state_after, mine, IsStep, IsLegal}
use Rattle.nio_history.specs.Answers.{bits_below, count_below}
use Rattle.nio_history.specs.OwnEvents.{OwnClaim, is_clear}
use Rattle.nio_history.specs.Worked.{v, small_limits, worked_history, WorkedHistoryIsLegal, RefusedEventsAreNoSteps}
use Rattle.nio_history.specs.declared.event.Event.{Event}

-- each of the events is a step, one after the other
abbrev pub AreSteps : Limits → List Event → List Event → Type 0
AreSteps l past [] = Unit {0}
AreSteps l past (e ∷ later) = IsStep l past e × AreSteps l (past ++ e ∷ []) later

pub legal_by_steps : (l : Limits) (past later : List Event) → IsLegal l past → AreSteps l past later
    → IsLegal l (past ++ later)
legal_by_steps l past [] legal steps = subst (IsLegal l) (sym (append-nil past)) legal
legal_by_steps l past (e ∷ later) legal steps =
    subst (IsLegal l) (append_assoc past (e ∷ []) later)
    (legal_by_steps l (past ++ e ∷ []) later (legal_more l past e legal steps.0) steps.1)

-- there is one number below 1
pub below_one : (P : ℕ → Type 0) → P 0 → (n : ℕ) → n < 1 → P n
below_one P first n below =
    let is_first : 0 ≡ n = omega arith in
    subst P is_first first

-- a step, and then the others
infixr 5 ◌▸◌
abbrev pub ◌▸◌ : {A B : Type 0} → A → B → A × B
first ▸ later = (first, later)

-- the next events of the worked history, so many after so many
abbrev NextSteps : ℕ → ℕ → Type 0
NextSteps k n = AreSteps small_limits (take k worked_history) (take n (drop k worked_history))

opening : NextSteps 0 14
unfolding bits_below count_below
opening =
    -- callers 0 and 1 are drawn
    record { by_caller = lit< tt; condition = (lit< tt, refl, refl); answers = refl } ▸
    record { by_caller = lit< tt; condition = (lit< tt, refl, refl); answers = refl } ▸
    -- caller 0 opens a selector and a channel
    record { by_caller = lit< tt; condition = lit< tt; answers = refl } ▸
    record { by_caller = lit< tt; condition = tt; answers = refl } ▸
    record { by_caller = lit< tt; condition = tt; answers = refl } ▸
    record { by_caller = lit< tt; condition = (lit< tt, λ n below. absurd (omega arith)); answers = refl } ▸
    record {
      by_caller = lit< tt;
      condition =
          (lit≤ tt, below_one (λ k. ((state_after (take 6 worked_history)).chan k).made ≡ true) refl);
      answers =
          refl;
    } ▸
    record { by_caller = lit< tt; condition = tt; answers = refl } ▸
    -- it sets non-blocking mode; caller 1 finds the hold taken
    record { by_caller = lit< tt; condition = lit< tt; answers = refl } ▸
    record { by_caller = lit< tt; condition = (lit< tt, refl); answers = refl } ▸
    record { by_caller = lit< tt; condition = (lit< tt, refl); answers = refl } ▸
    record { by_caller = lit< tt; condition = lit< tt; answers = refl } ▸
    record { by_caller = lit< tt; condition = (lit< tt, refl, λ e. absurd cc); answers = refl } ▸
    record { by_caller = lit< tt; condition = (lit< tt, refl); answers = refl } ▸
    tt

registering : NextSteps 14 22
unfolding bits_below count_below
registering =
    -- it registers the channel: no index was claimed yet, so it claims index 0, which pins it
    record { by_caller = lit< tt; condition = (lit< tt, refl); answers = refl } ▸
    record { by_caller = lit< tt; condition = lit< tt; answers = refl } ▸
    record { by_caller = lit< tt; condition = (lit< tt, lit< tt); answers = refl } ▸
    record { by_caller = lit< tt; condition = lit< tt; answers = refl } ▸
    record { by_caller = lit< tt; condition = lit< tt; answers = refl } ▸
    record {
      by_caller = lit< tt;
      condition = ((lit< tt, lit< tt), lit< tt, refl, λ n below. absurd (omega arith));
      answers = refl;
    } ▸
    record {
      by_caller = lit< tt;
      condition =
          (lit< tt, lit≤ tt, below_one (λ k. ((state_after (take 20 worked_history)).key 0 k).claimed ≡ true) refl);
      answers = refl;
    } ▸
    record { by_caller = lit< tt; condition = lit< tt; answers = refl } ▸
    record { by_caller = lit< tt; condition = ((lit< tt, lit< tt), refl); answers = refl } ▸
    record { by_caller = lit< tt; condition = ((lit< tt, lit< tt), refl, refl); answers = refl } ▸
    record { by_caller = lit< tt; condition = ((lit< tt, lit< tt), refl); answers = refl } ▸
    record { by_caller = lit< tt; condition = (lit< tt, (lit< tt, lit< tt), refl, refl, refl); answers = refl } ▸
    record { by_caller = lit< tt; condition = ((lit< tt, lit< tt), refl, refl); answers = refl } ▸
    record { by_caller = lit< tt; condition = lit< tt; answers = refl } ▸
    record { by_caller = lit< tt; condition = ((lit< tt, lit< tt), refl); answers = refl } ▸
    record { by_caller = lit< tt; condition = (lit< tt, refl); answers = refl } ▸
    -- under a pin it changes the interest set to and fro
    record { by_caller = lit< tt; condition = ((lit< tt, lit< tt), refl, refl); answers = refl } ▸
    record { by_caller = lit< tt; condition = ((lit< tt, lit< tt), refl); answers = refl } ▸
    record { by_caller = lit< tt; condition = ((lit< tt, lit< tt), refl, refl); answers = refl } ▸
    record { by_caller = lit< tt; condition = ((lit< tt, lit< tt), refl, refl); answers = refl } ▸
    record { by_caller = lit< tt; condition = ((lit< tt, lit< tt), refl); answers = refl } ▸
    record { by_caller = lit< tt; condition = ((lit< tt, lit< tt), refl); answers = refl } ▸
    tt

selecting : NextSteps 36 29
unfolding bits_below count_below
selecting =
    -- it begins a selection; caller 1 finds the turn taken
    record { by_caller = lit< tt; condition = lit< tt; answers = refl } ▸
    record { by_caller = lit< tt; condition = lit< tt; answers = refl } ▸
    record { by_caller = lit< tt; condition = (lit< tt, refl); answers = refl } ▸
    record { by_caller = lit< tt; condition = lit< tt; answers = refl } ▸
    record { by_caller = lit< tt; condition = (lit< tt, lit< tt); answers = refl } ▸
    -- it takes the selector's list, which caller 1 finds taken, and the bit of index 0, and looks there
    record { by_caller = lit< tt; condition = lit< tt; answers = refl } ▸
    record { by_caller = lit< tt; condition = lit< tt; answers = refl } ▸
    record { by_caller = lit< tt; condition = (lit< tt, lit< tt); answers = refl } ▸
    record { by_caller = lit< tt; condition = (lit< tt, lit< tt, refl, refl); answers = refl } ▸
    record { by_caller = lit< tt; condition = (lit< tt, lit< tt); answers = refl } ▸
    record { by_caller = lit< tt; condition = (lit< tt, lit< tt); answers = refl } ▸
    record { by_caller = lit< tt; condition = ((lit< tt, lit< tt), refl); answers = refl } ▸
    -- caller 1 wakes it, and cancels the key under a pin, which it keeps
    record { by_caller = lit< tt; condition = (lit< tt, refl); answers = refl } ▸
    record { by_caller = lit< tt; condition = ((lit< tt, lit< tt), refl, refl); answers = refl } ▸
    record { by_caller = lit< tt; condition = ((lit< tt, lit< tt), refl); answers = refl } ▸
    record { by_caller = lit< tt; condition = ((lit< tt, lit< tt), refl, refl, refl); answers = refl } ▸
    -- it is told of the key twice, and ends the selection: the key is removed, and its index becomes free
    record { by_caller = lit< tt; condition = ((lit< tt, lit< tt), refl); answers = refl } ▸
    record { by_caller = lit< tt; condition = ((lit< tt, lit< tt), refl, refl); answers = refl } ▸
    record { by_caller = lit< tt; condition = ((lit< tt, lit< tt), refl, refl); answers = refl } ▸
    record { by_caller = lit< tt; condition = ((lit< tt, lit< tt), refl, refl); answers = refl } ▸
    record { by_caller = lit< tt; condition = ((lit< tt, lit< tt), refl); answers = refl } ▸
    record { by_caller = lit< tt; condition = lit< tt; answers = refl } ▸
    record { by_caller = lit< tt; condition = tt; answers = refl } ▸
    record { by_caller = lit< tt; condition = (lit< tt, lit< tt); answers = refl } ▸
    record { by_caller = lit< tt; condition = (lit< tt, lit< tt); answers = refl } ▸
    record { by_caller = lit< tt; condition = ((lit< tt, lit< tt), refl); answers = refl } ▸
    record { by_caller = lit< tt; condition = ((lit< tt, lit< tt), refl); answers = refl } ▸
    record { by_caller = lit< tt; condition = (lit< tt, refl); answers = refl } ▸
    record { by_caller = lit< tt; condition = (lit< tt, refl); answers = refl } ▸
    tt

claiming_again : NextSteps 65 30
unfolding bits_below count_below
claiming_again =
    -- it registers the channel again: index 0 is free, but caller 1 still has its pin on it
    record { by_caller = lit< tt; condition = lit< tt; answers = refl } ▸
    record { by_caller = lit< tt; condition = (lit< tt, refl); answers = refl } ▸
    record { by_caller = lit< tt; condition = lit< tt; answers = refl } ▸
    record { by_caller = lit< tt; condition = (lit< tt, lit< tt); answers = refl } ▸
    record { by_caller = lit< tt; condition = ((lit< tt, lit< tt), refl, refl); answers = refl } ▸
    record { by_caller = lit< tt; condition = ((lit< tt, lit< tt), refl); answers = refl } ▸
    record { by_caller = lit< tt; condition = lit< tt; answers = refl } ▸
    record { by_caller = lit< tt; condition = lit< tt; answers = refl } ▸
    record { by_caller = lit< tt; condition = (lit< tt, lit< tt); answers = refl } ▸
    record { by_caller = lit< tt; condition = (lit< tt, lit< tt); answers = refl } ▸
    record { by_caller = lit< tt; condition = (lit< tt, lit< tt); answers = refl } ▸
    record { by_caller = lit< tt; condition = (lit< tt, lit< tt); answers = refl } ▸
    record { by_caller = lit< tt; condition = ((lit< tt, lit< tt), lit< tt, refl, refl, refl, lit< tt); answers = refl }
    ▸
    record { by_caller = lit< tt; condition = ((lit< tt, lit< tt), refl); answers = refl } ▸
    -- caller 1 takes its pin off: now the index is given again, to a key with serial 1
    record { by_caller = lit< tt; condition = ((lit< tt, lit< tt), refl); answers = refl } ▸
    record { by_caller = lit< tt; condition = ((lit< tt, lit< tt), refl); answers = refl } ▸
    record { by_caller = lit< tt; condition = (lit< tt, lit< tt); answers = refl } ▸
    record { by_caller = lit< tt; condition = (lit< tt, lit< tt); answers = refl } ▸
    record { by_caller = lit< tt; condition = (lit< tt, lit< tt); answers = refl } ▸
    record { by_caller = lit< tt; condition = ((lit< tt, lit< tt), lit< tt, refl, refl, refl, lit< tt); answers = refl }
    ▸
    record { by_caller = lit< tt; condition = ((lit< tt, lit< tt), refl); answers = refl } ▸
    record { by_caller = lit< tt; condition = lit< tt; answers = refl } ▸
    record { by_caller = lit< tt; condition = ((lit< tt, lit< tt), refl); answers = refl } ▸
    record { by_caller = lit< tt; condition = ((lit< tt, lit< tt), refl, refl); answers = refl } ▸
    record { by_caller = lit< tt; condition = ((lit< tt, lit< tt), refl); answers = refl } ▸
    record { by_caller = lit< tt; condition = (lit< tt, (lit< tt, lit< tt), refl, refl, refl); answers = refl } ▸
    record { by_caller = lit< tt; condition = ((lit< tt, lit< tt), refl, refl); answers = refl } ▸
    record { by_caller = lit< tt; condition = lit< tt; answers = refl } ▸
    record { by_caller = lit< tt; condition = ((lit< tt, lit< tt), refl); answers = refl } ▸
    record { by_caller = lit< tt; condition = (lit< tt, refl); answers = refl } ▸
    tt

removing_again : NextSteps 95 19
unfolding bits_below count_below
removing_again =
    -- it cancels this key too, and a selection removes it
    record { by_caller = lit< tt; condition = ((lit< tt, lit< tt), refl, refl); answers = refl } ▸
    record { by_caller = lit< tt; condition = ((lit< tt, lit< tt), refl); answers = refl } ▸
    record { by_caller = lit< tt; condition = ((lit< tt, lit< tt), refl); answers = refl } ▸
    record { by_caller = lit< tt; condition = ((lit< tt, lit< tt), refl, refl, refl); answers = refl } ▸
    record { by_caller = lit< tt; condition = ((lit< tt, lit< tt), refl); answers = refl } ▸
    record { by_caller = lit< tt; condition = ((lit< tt, lit< tt), refl, refl); answers = refl } ▸
    record { by_caller = lit< tt; condition = lit< tt; answers = refl } ▸
    record { by_caller = lit< tt; condition = (lit< tt, refl); answers = refl } ▸
    record { by_caller = lit< tt; condition = lit< tt; answers = refl } ▸
    record { by_caller = lit< tt; condition = (lit< tt, lit< tt); answers = refl } ▸
    -- it finds the index pinned by caller 1, so it touches it again
    record { by_caller = lit< tt; condition = (lit< tt, lit< tt, refl, refl); answers = refl } ▸
    record { by_caller = lit< tt; condition = (lit< tt, lit< tt); answers = refl } ▸
    record { by_caller = lit< tt; condition = ((lit< tt, lit< tt), refl); answers = refl } ▸
    record { by_caller = lit< tt; condition = (lit< tt, lit< tt); answers = refl } ▸
    record { by_caller = lit< tt; condition = ((lit< tt, lit< tt), refl); answers = refl } ▸
    record { by_caller = lit< tt; condition = ((lit< tt, lit< tt), refl); answers = refl } ▸
    record { by_caller = lit< tt; condition = (lit< tt, refl); answers = refl } ▸
    record { by_caller = lit< tt; condition = (lit< tt, refl); answers = refl } ▸
    record { by_caller = lit< tt; condition = ((lit< tt, lit< tt), refl); answers = refl } ▸
    tt

closing : NextSteps 114 16
unfolding bits_below count_below
closing =
    -- caller 1 sets blocking mode again: the enrolled key is removed
    record { by_caller = lit< tt; condition = (lit< tt, refl); answers = refl } ▸
    record { by_caller = lit< tt; condition = (lit< tt, lit< tt); answers = refl } ▸
    record { by_caller = lit< tt; condition = (lit< tt, lit< tt); answers = refl } ▸
    record {
      by_caller = lit< tt;
      condition =
          (lit< tt, refl, λ e. below_one (λ k. is_clear 0 k (mine v (take 117 worked_history)) ≡ true) refl);
      answers = refl;
    } ▸
    record { by_caller = lit< tt; condition = (lit< tt, refl); answers = refl } ▸
    -- it closes the channel and the selector, and interrupts caller 0
    record {
      by_caller = lit< tt;
      condition = (lit< tt, record { made = refl; open_then = refl; kind = refl; was = refl });
      answers = refl;
    } ▸
    record { by_caller = lit< tt; condition = lit< tt; answers = refl } ▸
    record { by_caller = lit< tt; condition = lit< tt; answers = refl } ▸
    record { by_caller = lit< tt; condition = lit< tt; answers = refl } ▸
    record { by_caller = lit< tt; condition = lit< tt; answers = refl } ▸
    record { by_caller = lit< tt; condition = (lit< tt, refl); answers = refl } ▸
    record { by_caller = lit< tt; condition = lit< tt; answers = refl } ▸
    record { by_caller = lit< tt; condition = ((lit< tt, lit< tt), refl); answers = refl } ▸
    record { by_caller = lit< tt; condition = lit< tt; answers = refl } ▸
    record { by_caller = lit< tt; condition = tt; answers = refl } ▸
    record { by_caller = lit< tt; condition = tt; answers = refl } ▸
    tt

reopening : NextSteps 130 8
unfolding bits_below count_below
reopening =
    -- caller 1 gives the channel's number to a new channel, once; a closing of the old one that comes late leaves it
    record { by_caller = lit< tt; condition = (lit< tt, refl); answers = refl } ▸
    record { by_caller = lit< tt; condition = (lit< tt, lit< tt); answers = refl } ▸
    record { by_caller = lit< tt; condition = (lit< tt, lit< tt); answers = refl } ▸
    record {
      by_caller = lit< tt;
      condition = (
        lit< tt,
        refl,
        refl,
        refl,
        lit< tt,
        below_one (λ k. is_clear 0 k (mine v (take 133 worked_history)) ≡ true) refl,
      );
      answers = refl;
    } ▸
    record {
      by_caller = lit< tt;
      condition = (
        lit< tt,
        refl,
        refl,
        refl,
        lit< tt,
        below_one (λ k. is_clear 0 k (mine v (take 134 worked_history)) ≡ true) refl,
      );
      answers = refl;
    } ▸
    record { by_caller = lit< tt; condition = (lit< tt, refl); answers = refl } ▸
    record {
      by_caller = lit< tt;
      condition = (lit< tt, record { made = refl; open_then = refl; kind = refl; was = refl });
      answers = refl;
    } ▸
    record { by_caller = lit< tt; condition = lit< tt; answers = refl } ▸
    tt

-- a longer beginning is legal
longer : (k n : ℕ) → IsLegal small_limits (take k worked_history) → NextSteps k n
    → IsLegal small_limits (take k worked_history ++ take n (drop k worked_history))
longer k n legal steps =
    legal_by_steps small_limits (take k worked_history) (take n (drop k worked_history)) legal steps

pub worked_history_is_legal : WorkedHistoryIsLegal
worked_history_is_legal =
    let legal_opening : IsLegal small_limits (take 14 worked_history) = longer 0 14
    (legal_empty small_limits) opening in
    let legal_registering : IsLegal small_limits (take 36 worked_history) = longer 14 22 legal_opening registering in
    let legal_selecting : IsLegal small_limits (take 65 worked_history) = longer 36 29 legal_registering selecting in
    let legal_claiming_again : IsLegal small_limits (take 95 worked_history) =
    longer 65 30 legal_selecting claiming_again in
    let legal_removing_again : IsLegal small_limits (take 114 worked_history) =
    longer 95 19 legal_claiming_again removing_again in
    let legal_closing : IsLegal small_limits (take 130 worked_history) = longer 114 16 legal_removing_again closing in
    longer 130 8 legal_closing reopening

not_so : false ≡ true → ⊥
not_so e = cc

nothing_known : {A : Type 0} (x : A) → None ≡ Some x → ⊥
nothing_known x e = cc

abbrev claimed_serial : Option OwnClaim → ℕ
claimed_serial None = 0
claimed_serial (Some claim) = claim.serial

other_serial : ◌≡◌ {A = ℕ} 1 0 → ⊥
other_serial e = cc e

pub refused_events_are_no_steps : RefusedEventsAreNoSteps
unfolding bits_below count_below
refused_events_are_no_steps =
    -- a number is drawn once, and by its own caller
    (λ step. cc step.condition.2) ▸
    (λ step. cc step.answers) ▸
    (λ step. cc (ap (λ n. n.0) step.condition.1)) ▸
    -- a selector is woken once it is made
    (λ step. not_so step.condition.1) ▸
    -- only the holder of a channel sets its mode or claims for it
    (λ step. not_so step.condition.1) ▸
    (λ step. not_so step.condition.2) ▸
    -- what a step finds is what stands there
    (λ step. cc step.answers) ▸
    -- only who claimed an index publishes its key, and only with the pin of that claim
    (λ step. not_so step.condition.1) ▸
    (λ step. not_so step.condition.1) ▸
    -- a caller has one pin on an index at most, and takes off only its own
    (λ step. not_so step.condition.2) ▸
    (λ step. not_so step.condition.1) ▸
    -- a step on a key is made under a pin
    (λ step. not_so step.condition.1) ▸
    (λ step. not_so step.condition.2) ▸
    -- only the holder of the turn begins a selection
    (λ step. not_so step.condition.1) ▸
    -- a selection removes no key that is not cancelled, and none twice
    (λ step. not_so step.condition.1) ▸
    (λ step. not_so step.condition.1) ▸
    -- only the selecting caller marks, and only what it is told of and finds
    (λ step. not_so step.condition.1) ▸
    (λ step. not_so step.condition.2) ▸
    (λ step. cc step.answers) ▸
    -- an index is put by the caller whose selection removed its key, or that has taken it, and once
    (λ step. not_so step.condition.1) ▸
    (λ step. not_so step.condition.1) ▸
    (λ step. not_so step.condition.1) ▸
    (λ step. not_so step.condition.1) ▸
    -- an index is claimed again from what the caller found since it took it, and not while it is pinned
    (λ step. nothing_known _ step.condition.4) ▸
    (λ step. cc step.answers) ▸
    (λ step. not_so step.condition.2) ▸
    -- a mark is cleared by who claimed the index, before the key is published
    (λ step. not_so step.condition.1) ▸
    (λ step. not_so step.condition.1) ▸
    -- a key is enrolled with the serial of the claim
    (λ step. other_serial (ap claimed_serial step.condition.2)) ▸
    -- a channel goes back to blocking mode only after a look at its enrolled keys, since it enrolled one itself
    (λ step. not_so (step.condition.2 refl 0 (lit< tt))) ▸
    (λ step. not_so (step.condition.2 refl 0 (lit< tt))) ▸
    (λ step. not_so (step.condition.2 refl 0 (lit< tt))) ▸
    -- a closer removes after it has entered, and what it has found below the high-water mark since
    (λ step. not_so step.condition.1) ▸
    (λ step. not_so step.condition.1) ▸
    -- only the closer enters
    (λ step. not_so step.condition.1) ▸
    -- a channel is closed from one that was found open, of the kind and of a serial that its number has or had
    (λ step. not_so (sym step.condition.1.open_then)) ▸
    (λ step. cc step.condition.1.kind) ▸
    (λ step. not_so step.condition.1.was) ▸
    -- a number is given to a new channel by its holder, after a look at its enrolled keys under this hold
    (λ step. not_so step.condition.1) ▸
    (λ step. not_so (step.condition.5 0 (lit< tt))) ▸
    (λ step. not_so (step.condition.5 0 (lit< tt))) ▸
    (λ step. not_so step.condition.1) ▸
    -- the channel that stands there gives it, where it is closed, and no other one
    (λ step. cc step.answers) ▸
    (λ step. cc step.answers) ▸
    (λ step. not_so step.condition.3) ▸
    -- an index is touched by who has a pin on it, or has begun
    (λ step. not_so step.condition.1) ▸
    -- a change is made by who touched the index since it pinned it
    (λ step. not_so step.condition.2) ▸
    (λ step. not_so step.condition.3) ▸
    -- a list is taken once, and only who has it takes the bits, while it selects
    (λ step. not_so step.condition.3) ▸
    (λ step. cc step.answers) ▸
    (λ step. not_so step.condition.2) ▸
    (λ step. not_so step.condition.2) ▸
    -- what is touched is what stands there
    (λ step. cc step.answers) ▸
    tt
