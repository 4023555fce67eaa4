-- The steps of the calls of selections, of closing a selector, and of waking and interrupting.
use Rattle.std.specs.Prelude.{◌≡◌, ℕ, ◌+◌, ◌==◌, Bool, true, false, not, ◌&&◌, if◌then◌else◌}
use Rattle.std.specs.Prelude.{Option, Some, None, is_some, is_none, Result, Ok, Err, is_ok, List, [], ◌∷◌, ◌++◌, map, fold}
use Rattle.std.specs.Prelude.{bit_and, bit_or}
use Rattle.nio_base.specs.declared.limits.Limits.{Limits}
use Rattle.nio_base.specs.declared.numbers.CallerNo.{CallerNo}
use Rattle.nio_base.specs.declared.numbers.KeyNo.{KeyNo}
use Rattle.nio_base.specs.declared.numbers.SelNo.{SelNo}
use Rattle.nio_history.specs.Sets.{in_key_set}
use Rattle.nio_history.specs.declared.act.Act.{Act}
use Rattle.nio_history.specs.declared.found.GateWord.{GateWord}
use Rattle.nio_history.specs.declared.found.Mark.{Mark as KeyMark}
use Rattle.nio_history.specs.declared.found.Mode.{Mode}
use Rattle.nio_history.specs.declared.found.Mode.TheVariants.{Now as WithoutWaiting, Wait, For}
use Rattle.nio_history.specs.declared.found.Stage.{Stage}
use Rattle.nio_history.specs.declared.why.Why.{Why}
use Rattle.nio_history.specs.declared.why.Why.TheVariants.{Ready, Closed, Now, Woken, Interrupted, Elapsed}
use Rattle.nio_base.specs.Ops.{is_within}
use Rattle.nio_steps.specs.KeyCalls.{under_pin}
use Rattle.nio_steps.specs.Looking.{look_at_keys, remove_below}
use Rattle.nio_steps.specs.Names.{selector}
use Rattle.nio_steps.specs.Plan.{Plan, reply, ◌>>=◌, ◌>>◌}
use Rattle.nio_steps.specs.Runs.{Completes}
use Rattle.nio_steps.specs.Steps.{make_selector, wake, look_gate, set_interrupt, take_interrupt, look_interrupt}
use Rattle.nio_steps.specs.Steps.{look_key, look_keys, take_turn, begin_look, give_turn, remove}
use Rattle.nio_steps.specs.Steps.{look_mark, mark, end_wake, shut_bit, enter, take_list}
use Rattle.nio_steps.specs.Sweeps.{sweep_to, seek_to, sweep_over}
use Rattle.nio_steps.specs.Waiting.{Then, Tries, Repeats, Retries}
use Rattle.nio_steps.specs.declared.looked.LookedKey.{LookedKey}
use Rattle.nio_steps.specs.declared.refusal.BeginError.{BeginError}
use Rattle.nio_steps.specs.declared.refusal.ListError.{ListError}
use Rattle.nio_steps.specs.declared.refusal.SelectorsSpent.{SelectorsSpent}
use Rattle.nio_steps.specs.declared.selected.Selected.{Selected}

-- ---- opening

-- makes the selector, unless it was made
abbrev pub makes_selector : SelNo → Plan (Option SelNo)
makes_selector s = do
  was ← make_selector s
  reply (if was then None else Some s)

abbrev pub opened_selector : Option SelNo → Result SelNo SelectorsSpent
opened_selector None = Err (record {})
opened_selector (Some s) = Ok s

unfoldable pub open_selector_plan : Limits → Plan (Result SelNo SelectorsSpent)
open_selector_plan l = do
  made ← seek_to l.selectors 0 (λ n. makes_selector (selector n))
  reply (opened_selector made)

-- ---- taking the list

-- Whether the caller took it: nobody had it. It is empty then, and the caller's for good.
unfoldable pub take_list_plan : SelNo → Plan Bool
take_list_plan s = do
  holder ← take_list s
  reply (is_none holder)

-- ---- beginning a selection

-- A selection in progress: its selector and mode, its bound, which is the keys' high-water mark that it found when it
-- began, its looked list, and whether it goes by the selector's list. The looked list rises; it has each key below the
-- bound that the selection found valid, or, where it goes by the list, that the list has then.
pub record Selection : Type 0 where
  pub selector : SelNo
  pub mode : Mode
  pub bound : ℕ
  pub looked : List LookedKey
  pub listed : Bool

-- a refusal after the turn was taken
abbrev pub given_back : {A : Type 0} → SelNo → A → Plan A
given_back s answer = do
  give_turn s
  reply answer

-- below the bound, unless there is no memory for the looked list
abbrev pub begin_below : SelNo → Mode → Option (List LookedKey) → ℕ → Bool → Plan (Result Selection BeginError)
begin_below s mode known bound lacks = if lacks then given_back s (Err BeginError.Memory) else do
  looked ← look_at_keys s bound known
  reply (Ok (record { selector = s; mode = mode; bound = bound; looked = looked; listed = is_some known }))

-- with the turn
abbrev pub begin_with_turn : SelNo → Mode → Option (List LookedKey) → Bool → Plan (Result Selection BeginError)
begin_with_turn s mode known lacks = do
  begun ← begin_look s
  if begun.shut then given_back s (Err BeginError.ClosedSelector) else do
    bound ← look_keys s
    begin_below s mode known bound lacks

-- the gate was found open
abbrev pub begin_open : SelNo → Mode → Option (List LookedKey) → Bool → Plan (Result Selection BeginError)
begin_open s mode known lacks = do
  holder ← take_turn s
  if is_some holder then reply (Err BeginError.Busy) else begin_with_turn s mode known lacks

-- `known` is the selector's list, where the caller has it; `lacks` says whether there is no memory for the looked list.
-- A refusal leaves the list as it is.
unfoldable pub try_begin_plan : SelNo → Mode → Option (List LookedKey) → Bool → Plan (Result Selection BeginError)
try_begin_plan s mode known lacks = do
  gate ← look_gate s
  if gate.shut then reply (Err BeginError.ClosedSelector) else begin_open s mode known lacks

-- the answer is that there was no memory
abbrev pub begin_lacks_memory : {A : Type 0} → Result A BeginError → Bool
begin_lacks_memory (Ok selection) = false
begin_lacks_memory (Err BeginError.ClosedSelector) = false
begin_lacks_memory (Err BeginError.Busy) = false
begin_lacks_memory (Err BeginError.Memory) = true

-- the call with this answer
abbrev pub Begins : SelNo → Mode → Option (List LookedKey) → List Act → Result Selection BeginError → Type 0
Begins s mode known acts answer = Completes (try_begin_plan s mode known (begin_lacks_memory answer)) acts answer

-- ---- telling

-- what the poller's answer says of an index: where the index stands twice, its bits are united
abbrev pub told_at : List (ℕ × ℕ) → ℕ → ℕ
told_at pairs i = fold (λ bits pair. if pair.0 == i then bit_or bits pair.1 else bits) 0 pairs

-- the told bits of a looked key: those that the poller told of it and that the selection looked for
abbrev pub told_bits : List (ℕ × ℕ) → LookedKey → ℕ
told_bits pairs entry = bit_and (told_at pairs entry.index) entry.interest

-- whether the key is selected already and its ready set would gain nothing
abbrev pub gains_nothing : KeyMark → ℕ → Bool
gains_nothing was told = was.selected && is_within told was.ready

abbrev pub one_if : Bool → ℕ
one_if test = if test then 1 else 0

-- once more from the mark that was found in place of the one that was looked at
abbrev pub mark_again : SelNo → ℕ → ℕ → Result (Unit {0}) KeyMark → Plan ℕ
mark_again s i told (Ok _) = reply 1
mark_again s i told (Err found) = do
  second ← mark s i found told
  reply (one_if (is_ok second))

abbrev pub mark_looked : SelNo → ℕ → ℕ → Plan ℕ
mark_looked s i told = do
  was ← look_mark s i
  if gains_nothing was told then reply 0 else do
    first ← mark s i was told
    mark_again s i told first

-- how many marks of the key succeeded, which is one at most; a key that nothing is told of has no step
abbrev pub mark_told : SelNo → ℕ → ℕ → Plan ℕ
mark_told s i told = if told == 0 then reply 0 else mark_looked s i told

abbrev pub mark_entry : SelNo → List (ℕ × ℕ) → LookedKey → ℕ → Plan ℕ
mark_entry s pairs entry count = do
  marked ← mark_told s entry.index (told_bits pairs entry)
  reply (count + marked)

abbrev pub may_wait : Mode → Bool
may_wait WithoutWaiting = false
may_wait Wait = true
may_wait (For ms) = true

abbrev pub is_timed : Mode → Bool
is_timed WithoutWaiting = false
is_timed Wait = false
is_timed (For ms) = true

-- the selection goes on: it may wait, no key was updated in this call, the gate shows neither a wakeup
-- nor that it is shut, the caller isn't interrupted, and its time isn't over
abbrev pub is_again : Mode → ℕ → GateWord → Bool → Bool → Bool
is_again mode count gate interrupted elapsed =
    may_wait mode && (count == 0) && not gate.woken && not gate.shut && not interrupted
    && not (is_timed mode && elapsed)

-- why the selection is over: the first that holds
abbrev pub why_ended : Mode → ℕ → GateWord → Bool → Why
why_ended mode count gate interrupted =
    if not (count == 0) then Ready else
    (if gate.shut then Closed else
    (if not (may_wait mode) then Now else
    (if gate.woken then Woken else
    (if interrupted then Interrupted else Elapsed))))

-- Java's third step: the keys that were added to the cancelled set meanwhile are removed as in the first step. It goes
-- over the indexes below the high-water mark that it finds now, so over those too that were claimed since.
abbrev pub remove_all_cancelled : SelNo → (listed : Bool) → Plan (Unit {0})
remove_all_cancelled s listed = do
  mark ← look_keys s
  remove_below s mark listed

-- the selection is over, or goes on
pub data ToldReply : Type 0 where
  done : Selected → ToldReply
  again : Selection → ToldReply

-- the cancelled keys are removed, the wakeup is used up, and the turn is free
abbrev pub end_selection : Selection → Selected → Plan ToldReply
end_selection selection answer = do
  remove_all_cancelled selection.selector selection.listed
  end_wake selection.selector
  give_turn selection.selector
  reply (done answer)

-- the selection goes on or is over, after so many marks that succeeded
abbrev pub after_marks : Selection → Bool → ℕ → Plan ToldReply
after_marks selection elapsed count = do
  gate ← look_gate selection.selector
  interrupted ← look_interrupt
  if is_again selection.mode count gate interrupted elapsed then reply (again selection) else
      end_selection selection (record { count = count; why = why_ended selection.mode count gate interrupted })

-- `pairs` is what the poller told, and `elapsed` whether it said that the time is over
unfoldable pub told_plan : Selection → List (ℕ × ℕ) → Bool → Plan ToldReply
told_plan selection pairs elapsed = do
  count ← sweep_over selection.looked (mark_entry selection.selector pairs) 0
  after_marks selection elapsed count

-- after a poll that failed
unfoldable pub leave_plan : Selection → Plan (Unit {0})
leave_plan selection = give_turn selection.selector

-- ---- closing

pub data ShutReply : Type 0 where
  closing : ShutReply
  already_closed : ShutReply

unfoldable pub shut_plan : SelNo → Plan ShutReply
shut_plan s = do
  was ← shut_bit s
  reply (if was then already_closed else closing)

pub data FinishReply : Type 0 where
  closed : FinishReply
  busy : FinishReply

abbrev pub remove_key : SelNo → ℕ → Plan (Unit {0})
remove_key s i = do
  remove s i
  reply tt

abbrev pub remove_keys : SelNo → Plan FinishReply
remove_keys s = do
  bound ← look_keys s
  sweep_to bound 0 (λ i _. remove_key s i) tt
  reply closed

unfoldable pub try_finish_plan : SelNo → Plan FinishReply
try_finish_plan s = do
  holder ← enter s
  if is_some holder then reply busy else remove_keys s

-- ---- listing

-- the key that the index has
abbrev pub present_key : SelNo → ℕ → Stage → KeyNo
present_key s i stage = record { sel = s; index = i; serial = stage.serial }

abbrev pub list_key : SelNo → ℕ → List KeyNo → Plan (List KeyNo)
list_key s i listed = do
  stage ← look_key s i
  reply (if in_key_set stage then listed ++ present_key s i stage ∷ [] else listed)

-- the same of a key that is selected
abbrev pub list_present : SelNo → ℕ → List KeyNo → Stage → Plan (List KeyNo)
list_present s i listed stage = if in_key_set stage then (do
  found ← look_mark s i
  reply (if found.selected then listed ++ present_key s i stage ∷ [] else listed)) else reply listed

abbrev pub list_selected : SelNo → ℕ → List KeyNo → Plan (List KeyNo)
list_selected s i listed = under_pin s i (list_present s i listed)

-- the keys below the bound that were found in the set, in rising order
abbrev pub list_all : (SelNo → ℕ → List KeyNo → Plan (List KeyNo)) → SelNo → ℕ → Plan (Result (List KeyNo) ListError)
list_all list_one s bound = do
  listed ← sweep_to bound 0 (list_one s) []
  reply (Ok listed)

-- the gate was found open
abbrev pub list_open : (SelNo → ℕ → List KeyNo → Plan (List KeyNo)) → SelNo → Bool
    → Plan (Result (List KeyNo) ListError)
list_open list_one s lacks = do
  bound ← look_keys s
  if lacks then reply (Err ListError.Memory) else list_all list_one s bound

-- `lacks` says whether there is no memory for the list
abbrev pub list_plan : (SelNo → ℕ → List KeyNo → Plan (List KeyNo)) → SelNo → Bool
    → Plan (Result (List KeyNo) ListError)
list_plan list_one s lacks = do
  gate ← look_gate s
  if gate.shut then reply (Err ListError.ClosedSelector) else list_open list_one s lacks

unfoldable pub keys_plan : SelNo → Bool → Plan (Result (List KeyNo) ListError)
keys_plan s lacks = list_plan list_key s lacks

unfoldable pub selected_keys_plan : SelNo → Bool → Plan (Result (List KeyNo) ListError)
selected_keys_plan s lacks = list_plan list_selected s lacks

-- the answer is that there was no memory
abbrev pub list_lacks_memory : {A : Type 0} → Result A ListError → Bool
list_lacks_memory (Ok listed) = false
list_lacks_memory (Err ListError.ClosedSelector) = false
list_lacks_memory (Err ListError.Memory) = true

-- the calls with this answer
abbrev pub ListsKeys : SelNo → List Act → Result (List KeyNo) ListError → Type 0
ListsKeys s acts answer = Completes (keys_plan s (list_lacks_memory answer)) acts answer

abbrev pub ListsSelected : SelNo → List Act → Result (List KeyNo) ListError → Type 0
ListsSelected s acts answer = Completes (selected_keys_plan s (list_lacks_memory answer)) acts answer

-- ---- waking and interrupting

-- whether a wakeup was pending already
unfoldable pub wakeup_plan : SelNo → Plan Bool
wakeup_plan s = wake s

unfoldable pub interrupt_plan : CallerNo → Plan (Unit {0})
interrupt_plan target = do
  set_interrupt target
  reply tt

-- whether the caller's status was set; it is cleared
unfoldable pub interrupted_plan : Plan Bool
interrupted_plan = take_interrupt

-- ---- calls that wait: selecting

-- somebody has the turn of the selector: another caller, or the caller itself
abbrev pub begin_finds_busy : {A : Type 0} → Result A BeginError → Bool
begin_finds_busy (Ok selection) = false
begin_finds_busy (Err BeginError.ClosedSelector) = false
begin_finds_busy (Err BeginError.Busy) = true
begin_finds_busy (Err BeginError.Memory) = false

-- what a poller told of a selection's keys, and whether it said that the time is over
pub record Poll : Type 0 where
  pub pairs : List (ℕ × ℕ)
  pub elapsed : Bool

-- the selection is told what a poller answered
abbrev pub Tells : Selection → Poll → List Act → ToldReply → Type 0
Tells selection poll acts answer = Completes (told_plan selection poll.pairs poll.elapsed) acts answer

-- the selection goes on after such an answer
abbrev pub goes_on_after : Poll → ToldReply → Bool
goes_on_after poll (done answer) = false
goes_on_after poll (again selection) = true

-- the selection is told the answer of each poll, until it is over
pub record TellsAll (selection : Selection) (polls : List Poll) (acts : List Act) (answer : Selected) : Type 0 where
  pub tells : Repeats (Tells selection) goes_on_after acts (done answer)
  pub polls_are : polls ≡ map (λ run. run.given) (tells.tries.runs ++ tells.last ∷ [])

-- the selection is told the answers of these polls, none of which ends it, and is left: the next poll failed
pub record TellsAndLeaves (selection : Selection) (polls : List Poll) (acts : List Act) : Type 0 where
  pub told : List Act
  pub leaves : List Act
  pub parts : acts ≡ told ++ leaves
  pub tells : Tries (Tells selection) goes_on_after told
  pub polls_are : polls ≡ map (λ run. run.given) tells.runs
  pub left : Completes (leave_plan selection) leaves tt

-- what a whole selection answers: it ended, it didn't begin, or a poll failed and it was left
pub data SelectReply : Type 0 where
  selected : Selected → SelectReply
  not_begun : BeginError → SelectReply
  left : SelectReply

-- the answer is that there was no memory
abbrev pub select_lacks_memory : SelectReply → Bool
select_lacks_memory (selected answer) = false
select_lacks_memory (not_begun BeginError.ClosedSelector) = false
select_lacks_memory (not_begun BeginError.Busy) = false
select_lacks_memory (not_begun BeginError.Memory) = true
select_lacks_memory left = false

-- how a whole selection goes on after its beginning
abbrev pub SelectsRest : List Poll → Result Selection BeginError → List Act → SelectReply → Type 0
SelectsRest polls (Ok selection) acts (selected answer) = TellsAll selection polls acts answer
SelectsRest polls (Ok selection) acts (not_begun refusal) = ⊥
SelectsRest polls (Ok selection) acts left = TellsAndLeaves selection polls acts
SelectsRest polls (Err refusal) acts answer = (acts ≡ []) × (polls ≡ []) × (answer ≡ not_begun refusal)

-- A whole selection, with these polls that the poller answered: it begins once nobody has the turn, and then
-- polls and is told until it is over.
abbrev pub MakesSelection : SelNo → Mode → Option (List LookedKey) → List Poll → List Act → SelectReply → Type 0
MakesSelection s mode known polls = Then (Retries (Begins s mode known) begin_finds_busy) (SelectsRest polls)

-- what came of a whole selection: what its beginning answered at last, and what the call answers
pub record SelectOutcome : Type 0 where
  pub begun : Result Selection BeginError
  pub answer : SelectReply

-- a whole selection with this outcome
pub record HasSelectOutcome (s : SelNo) (mode : Mode) (known : Option (List LookedKey)) (polls : List Poll)
    (acts : List Act) (outcome : SelectOutcome) : Type 0 where
  pub makes : MakesSelection s mode known polls acts outcome.answer
  pub begun : makes.middle ≡ outcome.begun

-- ---- calls that wait: closing

-- somebody has the turn of the selector: another caller, or the caller itself
abbrev pub finish_finds_busy : FinishReply → Bool
finish_finds_busy closed = false
finish_finds_busy busy = true

-- a closing that this call began is finished once nobody selects
abbrev pub ClosesRest : SelNo → ShutReply → List Act → Bool → Type 0
ClosesRest s closing acts answer =
    (answer ≡ true) × Retries (Completes (try_finish_plan s)) finish_finds_busy acts closed
ClosesRest s already_closed acts answer = (answer ≡ false) × (acts ≡ [])

-- closing a selector: whether this call shut it
abbrev pub ClosesSelector : SelNo → List Act → Bool → Type 0
ClosesSelector s = Then (Completes (shut_plan s)) (ClosesRest s)
