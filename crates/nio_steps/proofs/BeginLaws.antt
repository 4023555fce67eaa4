-- The parts of a `try_begin` that answers Ok.
use Rattle.std.proofs.Common.{◌≡◌, Bool, true, false, Option, Some, None, Result, Ok, Err, List, [], ◌∷◌, ◌++◌, refl, ap}
use Rattle.std.proofs.Common.{sym, ◌∙◌, subst}
use Rattle.std.specs.Prelude.{⊤, is_some}
use Rattle.std.specs.List.{All}
use Rattle.std.proofs.lemmas.List.{append-nil}
use Rattle.std.proofs.lemmas.List.Elements.{All-nil, All-cons}
use Rattle.nio_base.specs.declared.numbers.SelNo.{SelNo}
use Rattle.nio_history.specs.Questions.{Question, question_of, answer_of}
use Rattle.nio_history.specs.declared.act.Act.{Act}
use Rattle.nio_history.specs.declared.act.Act.TheVariants.{BeginLook}
use Rattle.nio_history.specs.declared.found.GateWord.{GateWord}
use Rattle.nio_history.specs.declared.found.Mode.{Mode}
use Rattle.nio_steps.proofs.EachLaws.{each_run}
use Rattle.nio_steps.proofs.Lists.{only_place}
use Rattle.nio_steps.proofs.SelectionAsks.{each_look_at_keys}
use Rattle.nio_steps.proofs.Walks.{Always, always_if, always_bind, always_itself, always_run}
use Rattle.nio_steps.specs.Plan.{reply}
use Rattle.nio_steps.specs.Runs.{Completes}
use Rattle.nio_steps.specs.SelectCalls.{Selection, Begins, try_begin_plan, begin_with_turn, begin_below}
use Rattle.nio_steps.specs.SelectCalls.{given_back}
use Rattle.nio_steps.specs.Looking.{look_at_keys}
use Rattle.nio_steps.specs.Selections.{IsBegun}
use Rattle.nio_steps.specs.Steps.{gate_in, number_in, holder_in}
use Rattle.nio_steps.specs.declared.looked.LookedKey.{LookedKey}
use Rattle.nio_steps.specs.declared.refusal.BeginError.{BeginError}

-- the look at the gate and the taking of the turn, the look by which the selection begins, the look at the
-- keys' high-water mark, and the looks at the keys below it
pub record Begun (s : SelNo) (mode : Mode) (known : Option (List LookedKey)) (acts : List Act) (selection : Selection)
    : Type 0 where
  pub gate : Act
  pub take : Act
  pub look : Act
  pub keys : Act
  pub over : List Act
  pub parts : acts ≡ gate ∷ take ∷ look ∷ keys ∷ over
  pub asks_gate : question_of gate ≡ Question.look_gate s
  pub asks_take : question_of take ≡ Question.take_turn s
  pub asks_look : question_of look ≡ Question.begin_look s
  pub opens : (gate_in (answer_of look)).shut ≡ false
  pub asks_keys : question_of keys ≡ Question.look_keys s
  pub bound : selection.bound ≡ number_in (answer_of keys)
  pub runs_over : Completes (look_at_keys s selection.bound known) over selection.looked
  pub selector : selection.selector ≡ s
  pub mode_is : selection.mode ≡ mode
  pub listed : selection.listed ≡ is_some known

module _ (s : SelNo) (mode : Mode) (known : Option (List LookedKey)) where
  abbrev IsBegunBy : List Act → Result Selection BeginError → Type 0
  IsBegunBy acts (Ok selection) = Begun s mode known acts selection
  IsBegunBy acts (Err refusal) = ⊤

  below-begun : (gate take look keys : Act) → question_of gate ≡ Question.look_gate s
      → question_of take ≡ Question.take_turn s → question_of look ≡ Question.begin_look s
      → (gate_in (answer_of look)).shut ≡ false → question_of keys ≡ Question.look_keys s
      → Always (λ acts r. IsBegunBy (gate ∷ take ∷ look ∷ keys ∷ acts) r)
      (begin_below s mode known (number_in (answer_of keys)) false)
  below-begun gate take look keys asks_gate asks_take asks_look opens asks_keys =
      let bound = number_in (answer_of keys) in
      let looks = look_at_keys s bound known in
      always_bind (Completes looks) (λ acts r. IsBegunBy (gate ∷ take ∷ look ∷ keys ∷ acts) r) looks _
      (always_itself looks)
      (λ xs found over. record {
        gate = gate;
        take = take;
        look = look;
        keys = keys;
        over = xs;
        parts = ap (λ acts. gate ∷ take ∷ look ∷ keys ∷ acts) (append-nil xs);
        asks_gate = asks_gate;
        asks_take = asks_take;
        asks_look = asks_look;
        opens = opens;
        asks_keys = asks_keys;
        bound = refl;
        runs_over = over;
        selector = refl;
        mode_is = refl;
        listed = refl;
      })

  begin-begun : Always IsBegunBy (try_begin_plan s mode known false)
  unfolding try_begin_plan
  begin-begun =
      λ gate asks_gate. always_if _ (gate_in (answer_of gate)).shut (reply (Err BeginError.ClosedSelector)) _ (λ _. tt)
      (λ _ take asks_take. always_if _ (is_some (holder_in (answer_of take))) (reply (Err BeginError.Busy))
      (begin_with_turn s mode known false) (λ _. tt)
      (λ _ look asks_look. always_if _ (gate_in (answer_of look)).shut (given_back s (Err BeginError.ClosedSelector)) _
      (λ _ give _. tt)
      (λ opens keys asks_keys. below-begun gate take look keys asks_gate asks_take asks_look opens asks_keys)))

pub begin-parts : (s : SelNo) (mode : Mode) (known : Option (List LookedKey)) (acts : List Act) (selection : Selection)
    → Begins s mode known acts (Ok selection) → Begun s mode known acts selection
begin-parts s mode known acts selection run =
    always_run (IsBegunBy s mode known) (try_begin_plan s mode known false) acts (Ok selection)
    (begin-begun s mode known) run

unknown : {A : Type 0} (known : Option A) → is_some known ≡ false → known ≡ None
unknown None not = refl
unknown (Some x) not = absurd (cc not)

-- a selection that doesn't go by the list was begun without it
pub unlisted-begins : (own : List Act) (selection : Selection) (begun : IsBegun own selection)
    → selection.listed ≡ false
    → Begins selection.selector selection.mode None begun.beginning (Ok selection)
unlisted-begins own selection begun unlisted =
    let parts = begin-parts selection.selector selection.mode begun.known begun.beginning selection begun.begins in
    subst (λ known. Begins selection.selector selection.mode known begun.beginning (Ok selection))
    (unknown begun.known (sym parts.listed ∙ unlisted)) begun.begins

pub unlisted-parts : (own : List Act) (selection : Selection) (begun : IsBegun own selection)
    → selection.listed ≡ false
    → Begun selection.selector selection.mode None begun.beginning selection
unlisted-parts own selection begun unlisted =
    begin-parts selection.selector selection.mode None begun.beginning selection
    (unlisted-begins own selection begun unlisted)

-- ---- where it begins to look

abbrev asks_begin : Question → Bool
asks_begin (Question.begin_look s) = true
asks_begin _ = false

abbrev NoBegin : Question → Type 0
NoBegin q = asks_begin q ≡ false

abbrev NoneBegins : Act → Type 0
NoneBegins act = NoBegin (question_of act)

pub cut_at_begin : (s : SelNo) (mode : Mode) (known : Option (List LookedKey)) (acts : List Act) (selection : Selection)
    (begun : Begun s mode known acts selection) (first : List Act) (found : GateWord) (second : List Act)
    → acts ≡ first ++ BeginLook s found ∷ second
    → (first ≡ begun.gate ∷ begun.take ∷ []) × (BeginLook s found ≡ begun.look) × (second ≡ begun.keys ∷ begun.over)
cut_at_begin s mode known acts selection begun first found second parts =
    let none_over : All NoneBegins begun.over =
    (each_run NoBegin (λ _. ⊤) (look_at_keys s selection.bound known) begun.over selection.looked
    (each_look_at_keys NoBegin s selection.bound known
    (record {
      frees = λ _. refl;
      touched = λ _. refl;
      takes = λ _. refl;
      at = λ _. record {
        looks = refl;
        looks_interest = refl;
        removes = refl;
        puts = refl;
        looks_index = refl;
        touches = refl;
      };
    })) begun.runs_over).0 in
    only_place (λ act. asks_begin (question_of act)) first (BeginLook s found) second
    (begun.gate ∷ begun.take ∷ []) begun.look (begun.keys ∷ begun.over) refl
    (All-cons NoneBegins begun.gate (begun.take ∷ []) (ap asks_begin begun.asks_gate)
    (All-cons NoneBegins begun.take [] (ap asks_begin begun.asks_take) (All-nil NoneBegins)))
    (All-cons NoneBegins begun.keys begun.over (ap asks_begin begun.asks_keys) none_over)
    (sym parts ∙ begun.parts)
