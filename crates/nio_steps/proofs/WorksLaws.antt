-- A call gives a turn back, marks keys and removes keys only on the selector that its row names.
use Rattle.std.proofs.Common.{◌≡◌, ℕ, ◌==◌, Bool, true, false, ◌||◌, Ok, Err, List, [], ◌∷◌, ◌++◌}
use Rattle.std.proofs.Common.{refl, ap, sym, ◌∙◌}
use Rattle.nio_history.specs.OwnEvents.{gives_turn}
use Rattle.nio_history.specs.Questions.{Question, question_of}
use Rattle.nio_history.specs.Turns.{removes_on}
use Rattle.nio_history.specs.declared.act.Act.{Act}
use Rattle.nio_history.specs.declared.act.Act.TheVariants.{GiveTurn, Remove, Mark}
use Rattle.nio_steps.proofs.CallWalks.{each_call, close_channel-walks, finish-walks, register-walks, new-walks}
use Rattle.nio_steps.proofs.PlanWalks.{Walk, is_plain, walks_run, pinned_calm}
use Rattle.nio_steps.proofs.SelectionLaws.{none_of-append}
use Rattle.nio_steps.specs.Laws.{LeavesSelector, is_selector, WorksOnlyThere}
use Rattle.nio_steps.specs.Selections.{marks_on}
use Rattle.nio_steps.specs.TableCalls.{row_of}

-- ---- questions and acts

-- the step would give the turn of selector t back, or mark or remove a key there
abbrev pub touches : ℕ → Question → Bool
touches t (Question.give_turn s) = s.0 == t
touches t (Question.mark s i from told) = s.0 == t
touches t (Question.remove s i) = s.0 == t
touches t _ = false

abbrev pub Spared : ℕ → Question → Type 0
Spared t question = touches t question ≡ false

gives-not : (t : ℕ) (act : Act) → Spared t (question_of act) → gives_turn t act ≡ false
gives-not t (GiveTurn s) spared = spared
gives-not t _ spared = refl

marks-not : (t : ℕ) (act : Act) → Spared t (question_of act) → marks_on t act ≡ false
marks-not t (Mark s i from told (Ok u)) spared = spared
marks-not t (Mark s i from told (Err found)) spared = refl
marks-not t _ spared = refl

removes-not : (t : ℕ) (act : Act) → Spared t (question_of act) → removes_on t act ≡ false
removes-not t (Remove s i found) spared = spared
removes-not t _ spared = refl

pub none-leaves : (t : ℕ) → LeavesSelector t []
none-leaves t = record { gives = refl; marks = refl; removes = refl }

pub one-leaves : (t : ℕ) (act : Act) → Spared t (question_of act) → LeavesSelector t (act ∷ [])
one-leaves t act spared = record {
  gives = ap (λ b. b || false) (gives-not t act spared);
  marks = ap (λ b. b || false) (marks-not t act spared);
  removes = ap (λ b. b || false) (removes-not t act spared);
}

pub leaves-append : (t : ℕ) (xs ys : List Act) → LeavesSelector t xs → LeavesSelector t ys
    → LeavesSelector t (xs ++ ys)
leaves-append t xs ys first second = record {
  gives = none_of-append (gives_turn t) xs ys first.gives second.gives;
  marks = none_of-append (marks_on t) xs ys first.marks second.marks;
  removes = none_of-append (removes_on t) xs ys first.removes second.removes;
}

-- ---- the walk

plain_spared : (t : ℕ) (question : Question) → is_plain question ≡ true → Spared t question
plain_spared t (Question.give_turn s) is = absurd (cc is)
plain_spared t (Question.mark s i from told) is = absurd (cc is)
plain_spared t (Question.remove s i) is = absurd (cc is)
plain_spared t _ is = refl

abbrev sparing : ℕ → Walk
sparing t = record {
  Holds = LeavesSelector t;
  Calm = Spared t;
  none = none-leaves t;
  append = leaves-append t;
  one = one-leaves t;
  plain = plain_spared t;
  pinned = λ s i. pinned_calm (LeavesSelector t) (leaves-append t) s i
      (λ act asks. one-leaves t act (ap (touches t) asks)) (λ act asks. one-leaves t act (ap (touches t) asks));
}

-- ---- each call

pub works_only_there : WorksOnlyThere
works_only_there l lacks call acts answer t run off =
    walks_run {w = sparing t} ((row_of call).plan l lacks) acts answer
    (each_call l lacks call
    (record {
      registers = λ s c ops att. register-walks l s c ops att
          (new-walks (record {
            claims = λ _ _ _. refl;
            claims_again = λ _ _ _ _. refl;
            unpins = λ _ _. refl;
            publishes = λ _ _. refl;
          }) l s c ops att);
      closes = λ c. close_channel-walks l c (λ _. refl);
      finishes = λ s calm. finish-walks s refl calm;
    })
    (λ s on. let other : (s.0 == t) ≡ false = ap (is_selector t) (sym on) ∙ off in
    record { gives = other; marks = λ i from bits. other; removes = λ i. other })
    (λ s mode known _. record { takes = λ j. refl; looks = λ i. refl })) run
