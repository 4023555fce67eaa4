-- A judge before the first event.
use Rattle.std.proofs.Common.{◌≡◌, ℕ, false, [], ap, sym, ◌∙◌, subst, arith}
use Rattle.std.proofs.lemmas.Bool.{le-ltb}
use Rattle.nio_audit.proofs.Knowing.{remembers-none}
use Rattle.nio_audit.specs.Allowing.{state_of}
use Rattle.nio_audit.specs.Counting.{IsCounted}
use Rattle.nio_audit.specs.DueIndexes.{due_of, IsBefore}
use Rattle.nio_audit.specs.Following.{Follows}
use Rattle.nio_audit.specs.Remembering.{Knowledge, knowledge_of, nothing_known}
use Rattle.nio_audit.specs.Remembers.{Remembers}
use Rattle.nio_audit.specs.StateOf.{state_with}
use Rattle.nio_audit.specs.TableWords.{row, grid, cube}
use Rattle.nio_audit.specs.declared.judge.Judge.{Judge}
use Rattle.nio_audit.specs.declared.state.StateTables.{StateTables}
use Rattle.nio_history.specs.State.{State, opening}

-- the state is the opening one where each of its parts is
pub same_state : (t : StateTables)
    → row t.drawn ≡ opening.drawn
    → row t.interrupted ≡ opening.interrupted
    → row t.selector ≡ opening.selector
    → row t.chan ≡ opening.chan
    → row t.hold ≡ opening.hold
    → grid t.enrolled ≡ opening.enrolled
    → row t.gate ≡ opening.gate
    → row t.turn ≡ opening.turn
    → row t.keys_high ≡ opening.keys_high
    → grid t.key ≡ opening.key
    → grid t.interest ≡ opening.interest
    → grid t.mark ≡ opening.mark
    → grid t.note ≡ opening.note
    → cube t.pinned ≡ opening.pinned
    → grid t.free ≡ opening.free
    → row t.begun ≡ opening.begun
    → row t.closer ≡ opening.closer
    → row t.entered ≡ opening.entered
    → grid t.taker ≡ opening.taker
    → grid t.touched ≡ opening.touched
    → row t.lister ≡ opening.lister
    → cube t.amid ≡ opening.amid
    → t.channels_high ≡ opening.channels_high → state_with t (λ _ _. false) ≡ opening
same_state t drawn interrupted selector chan hold enrolled gate turn keys_high key interest mark note pinned free begun
    closer entered taker touched lister amid channels_high = λ i. record {
      drawn = drawn i;
      interrupted = interrupted i;
      selector = selector i;
      chan = chan i;
      hold = hold i;
      enrolled = enrolled i;
      gate = gate i;
      turn = turn i;
      keys_high = keys_high i;
      key = key i;
      interest = interest i;
      mark = mark i;
      note = note i;
      pinned = pinned i;
      free = free i;
      begun = begun i;
      closer = closer i;
      entered = entered i;
      taker = taker i;
      touched = touched i;
      lister = lister i;
      amid = amid i;
      channels_high = channels_high i;
      put_due = λ _ _. false;
    }

counted-opening : IsCounted opening 0 (λ _. 0)
counted-opening = record { made = λ c. sym (le-ltb c 0 (omega arith)); claimed = λ s i. sym (le-ltb i 0 (omega arith)) }

pub follows-none : {j : Judge} → state_with j.state (λ _ _. false) ≡ opening → due_of j.dues ≡ (λ _ _. false)
    → IsBefore j.dues 1 → j.counts.channels ≡ 0
    → row j.counts.keys ≡ (λ _. 0) → knowledge_of j.memory ≡ nothing_known → Follows j []
follows-none {j = j} opens due before channels keys knowledge = record {
  state = is_opening;
  counted = subst (λ (st : State). IsCounted st j.counts.channels (row j.counts.keys)) (sym is_opening)
      (subst (λ (n : ℕ). IsCounted opening n (row j.counts.keys)) (sym channels)
      (subst (λ (f : ℕ → ℕ). IsCounted opening 0 f) (sym keys) counted-opening));
  before = before;
  remembers = subst (λ (k : Knowledge). Remembers k []) (sym knowledge) remembers-none;
}
  where
    is_opening : state_of j ≡ opening
    is_opening = ap (state_with j.state) due ∙ opens
