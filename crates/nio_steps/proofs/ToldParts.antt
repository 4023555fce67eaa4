-- The parts of a `told` that ends its selection.
use Rattle.std.proofs.Common.{◌≡◌, ℕ, Bool, true, false, List, [], ◌∷◌, ◌++◌, refl, ap, sym, subst, append_assoc}
use Rattle.std.specs.Prelude.{⊤}
use Rattle.std.specs.List.{All}
use Rattle.std.proofs.lemmas.List.Elements.{All-nil, All-cons, All-append}
use Rattle.nio_history.specs.Questions.{Question, question_of, answer_of}
use Rattle.nio_history.specs.declared.act.Act.{Act}
use Rattle.nio_history.specs.declared.act.Act.TheVariants.{LookKeys}
use Rattle.nio_steps.proofs.EachLaws.{each_run}
use Rattle.nio_steps.proofs.Lists.{only_place}
use Rattle.nio_steps.proofs.SelectionAsks.{each_marks, each_remove_below}
use Rattle.nio_steps.proofs.Walks.{Always, always_if, always_bind, always_itself, always_run}
use Rattle.nio_steps.specs.Plan.{reply}
use Rattle.nio_steps.specs.Runs.{Completes}
use Rattle.nio_steps.specs.SelectCalls.{Selection, Poll, Tells, ToldReply, done, again, mark_entry}
use Rattle.nio_steps.specs.Looking.{remove_below}
use Rattle.nio_steps.specs.SelectCalls.{is_again, end_selection, after_marks, told_plan}
use Rattle.nio_steps.specs.Steps.{flag_in, gate_in, number_in}
use Rattle.nio_steps.specs.Sweeps.{sweep_over}
use Rattle.nio_steps.specs.declared.selected.Selected.{Selected}

pub record Ended (selection : Selection) (poll : Poll) (acts : List Act) : Type 0 where
  pub marks : List Act
  pub marked : ℕ
  pub gate : Act
  pub status : Act
  pub keys : Act
  pub sweeps : List Act
  pub wake : Act
  pub gives : Act
  pub parts : acts ≡ (marks ++ gate ∷ status ∷ []) ++ keys ∷ (sweeps ++ wake ∷ gives ∷ [])
  pub runs_marks : Completes (sweep_over selection.looked (mark_entry selection.selector poll.pairs) 0) marks marked
  pub asks_gate : question_of gate ≡ Question.look_gate selection.selector
  pub asks_status : question_of status ≡ Question.look_interrupt
  pub asks_keys : question_of keys ≡ Question.look_keys selection.selector
  pub runs_sweeps : Completes (remove_below selection.selector (number_in (answer_of keys)) selection.listed) sweeps tt
  pub asks_wake : question_of wake ≡ Question.end_wake selection.selector
  pub asks_gives : question_of gives ≡ Question.give_turn selection.selector

module _ (selection : Selection) (poll : Poll) where
  abbrev IsEnded : List Act → ToldReply → Type 0
  IsEnded acts (done answer) = Ended selection poll acts
  IsEnded acts (again next) = ⊤

  told-ended : Always IsEnded (told_plan selection poll.pairs poll.elapsed)
  unfolding told_plan
  told-ended =
      let s = selection.selector in
      let tells = sweep_over selection.looked (mark_entry s poll.pairs) 0 in
      always_bind (Completes tells) IsEnded tells (after_marks selection poll.elapsed) (always_itself tells)
      (λ marks number runs gate asks_gate status asks_status.
      always_if (λ xs r. IsEnded (marks ++ gate ∷ status ∷ xs) r)
      (is_again selection.mode number (gate_in (answer_of gate)) (flag_in (answer_of status)) poll.elapsed)
      (reply (again selection)) (end_selection selection _)
      (λ _. tt)
      (λ _ keys asks_keys.
      let sweep = remove_below s (number_in (answer_of keys)) selection.listed in
      always_bind (Completes sweep) (λ xs r. IsEnded (marks ++ gate ∷ status ∷ keys ∷ xs) r) sweep _
      (always_itself sweep)
      (λ sweeps u runs' wake asks_wake gives asks_gives. record {
        marks = marks;
        marked = number;
        gate = gate;
        status = status;
        keys = keys;
        sweeps = sweeps;
        wake = wake;
        gives = gives;
        parts = sym (append_assoc marks (gate ∷ status ∷ []) (keys ∷ (sweeps ++ wake ∷ gives ∷ [])));
        runs_marks = runs;
        asks_gate = asks_gate;
        asks_status = asks_status;
        asks_keys = asks_keys;
        runs_sweeps = runs';
        asks_wake = asks_wake;
        asks_gives = asks_gives;
      })))

pub ended-parts : (selection : Selection) (poll : Poll) (acts : List Act) (answer : Selected)
    → Tells selection poll acts (done answer) → Ended selection poll acts
ended-parts selection poll acts answer run =
    always_run (IsEnded selection poll) (told_plan selection poll.pairs poll.elapsed) acts (done answer)
    (told-ended selection poll) run

-- ---- where it looks at the keys' high-water mark

abbrev asks_keys : Question → Bool
asks_keys (Question.look_keys s) = true
asks_keys _ = false

abbrev NoKeys : Question → Type 0
NoKeys q = asks_keys q ≡ false

abbrev None : Act → Type 0
None act = NoKeys (question_of act)

pub record CutAtKeys (selection : Selection) (poll : Poll) (third : List Act) (mark : ℕ) (fourth : List Act)
    : Type 0 where
  pub ended : Ended selection poll (third ++ LookKeys selection.selector mark ∷ fourth)
  pub before : third ≡ ended.marks ++ ended.gate ∷ ended.status ∷ []
  pub after : fourth ≡ ended.sweeps ++ ended.wake ∷ ended.gives ∷ []
  pub runs_sweeps : Completes (remove_below selection.selector mark selection.listed) ended.sweeps tt

pub cut_at_keys : (selection : Selection) (poll : Poll) (third : List Act) (mark : ℕ) (fourth : List Act)
    (answer : Selected)
    → Tells selection poll (third ++ LookKeys selection.selector mark ∷ fourth) (done answer)
    → CutAtKeys selection poll third mark fourth
cut_at_keys selection poll third mark fourth answer run = record {
  ended = ended;
  before = cut.0;
  after = cut.2;
  runs_sweeps = subst
      (λ act. Completes (remove_below selection.selector (number_in (answer_of act)) selection.listed) ended.sweeps tt)
      (sym cut.1) ended.runs_sweeps;
}
  where
    ended : Ended selection poll (third ++ LookKeys selection.selector mark ∷ fourth)
    ended = ended-parts selection poll (third ++ LookKeys selection.selector mark ∷ fourth) answer run

    marks_none : All None ended.marks
    marks_none =
        (each_run NoKeys (λ _. ⊤) _ ended.marks ended.marked
        (each_marks NoKeys selection.selector poll.pairs selection.looked
        (λ k d _. record { looks = refl; marks = λ _ _. refl })) ended.runs_marks).0

    sweeps_none : All None ended.sweeps
    sweeps_none =
        (each_run NoKeys (λ _. ⊤) _ ended.sweeps tt
        (each_remove_below NoKeys selection.selector _ selection.listed
        (record {
          frees = λ _. refl;
          touched = λ _. refl;
          takes = λ _. refl;
          at = λ _. record {
            looks = refl;
            looks_interest = refl;
            removes = refl;
            puts = refl;
            looks_index = refl;
            touches = refl;
          };
        })) ended.runs_sweeps).0

    cut : (third ≡ ended.marks ++ ended.gate ∷ ended.status ∷ []) × (LookKeys selection.selector mark ≡ ended.keys)
        × (fourth ≡ ended.sweeps ++ ended.wake ∷ ended.gives ∷ [])
    cut =
        only_place (λ act. asks_keys (question_of act)) third (LookKeys selection.selector mark) fourth
        (ended.marks ++ ended.gate ∷ ended.status ∷ []) ended.keys (ended.sweeps ++ ended.wake ∷ ended.gives ∷ []) refl
        (All-append None ended.marks (ended.gate ∷ ended.status ∷ []) marks_none
        (All-cons None ended.gate (ended.status ∷ []) (ap asks_keys ended.asks_gate)
        (All-cons None ended.status [] (ap asks_keys ended.asks_status) (All-nil None))))
        (All-append None ended.sweeps (ended.wake ∷ ended.gives ∷ []) sweeps_none
        (All-cons None ended.wake (ended.gives ∷ []) (ap asks_keys ended.asks_wake)
        (All-cons None ended.gives [] (ap asks_keys ended.asks_gives) (All-nil None))))
        ended.parts
