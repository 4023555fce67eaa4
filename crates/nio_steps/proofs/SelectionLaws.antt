-- To which selection a `told` belongs, and what it counts.
use Rattle.std.proofs.Common.{◌≡◌, ℕ, ◌+◌, ◌==◌, Bool, true, false, cond, ◌&&◌, ◌||◌, Result, Ok, Err, List, [], ◌∷◌}
use Rattle.std.proofs.Common.{◌++◌, refl, ap, sym, ◌∙◌, subst, eq-eqb, eqb-true, append_assoc, zero-add, arith}
use Rattle.std.specs.Prelude.{⊤, is_ok}
use Rattle.std.specs.List.{All}
use Rattle.std.proofs.lemmas.List.Elements.{All-weaker}
use Rattle.std.proofs.lemmas.List.Folds.{list_any-append, list_any_none}
use Rattle.std.proofs.lemmas.List.Sums.{sum_by-append}
use Rattle.std.proofs.lemmas.List.{append-nil}
use Rattle.std.proofs.lemmas.Bool.{or_from, or_parts}
use Rattle.nio_base.specs.declared.numbers.SelNo.{SelNo}
use Rattle.nio_history.specs.OwnEvents.{has, count, gives_turn}
use Rattle.nio_history.specs.Pins.{removes}
use Rattle.nio_history.specs.Questions.{Question, question_of, answer_of}
use Rattle.nio_history.specs.Turns.{removes_on}
use Rattle.nio_history.specs.declared.act.Act.{Act}
use Rattle.nio_history.specs.declared.act.Act.TheVariants.{Mark, GiveTurn, Remove}
use Rattle.nio_history.specs.declared.found.Mark.{Mark as KeyMark}
use Rattle.nio_history.specs.declared.found.Mode.{Mode}
use Rattle.nio_steps.proofs.BeginLaws.{begin-parts}
use Rattle.nio_steps.proofs.EachLaws.{each_if, each_run, split}
use Rattle.nio_steps.proofs.SelectionAsks.{each_end, each_marks}
use Rattle.nio_steps.proofs.Walks.{Always, always_weaker, always_bind, always_if, always_any, always_over, always_run}
use Rattle.nio_steps.proofs.Each.{Each}
use Rattle.nio_steps.specs.Laws.{BeginsSelection, AgainGoesOn, CountsSelection}
use Rattle.nio_steps.specs.Plan.{reply, ◌>>=◌}
use Rattle.nio_steps.specs.Runs.{Completes}
use Rattle.nio_steps.specs.SelectCalls.{Selection, ToldReply, Begins, told_plan, told_bits, mark_entry, mark_told}
use Rattle.nio_steps.specs.SelectCalls.{mark_looked, mark_again, one_if, gains_nothing, is_again, remove_all_cancelled}
use Rattle.nio_steps.specs.SelectCalls.{end_selection, after_marks, again, done}
use Rattle.nio_steps.specs.Selections.{marks_on, IsBegun}
use Rattle.nio_steps.specs.Steps.{mark, flag_in, gate_in, mark_in, exchange_in}
use Rattle.nio_steps.specs.Sweeps.{sweep_over}
use Rattle.nio_steps.specs.declared.looked.LookedKey.{LookedKey}
use Rattle.nio_steps.specs.declared.selected.Selected.{Selected}

-- ---- questions that are no mark, and that don't give the turn back

abbrev pub asks_mark : ℕ → Question → Bool
asks_mark s (Question.mark s' i from told) = s'.0 == s
asks_mark s _ = false

abbrev pub asks_give : ℕ → Question → Bool
asks_give s (Question.give_turn s') = s'.0 == s
asks_give s _ = false

not-marks : (s : ℕ) (act : Act) → asks_mark s (question_of act) ≡ false → marks_on s act ≡ false
not-marks s (Mark s' i from told (Ok u)) e = e
not-marks s (Mark s' i from told (Err found)) e = refl
not-marks s _ e = refl

pub not-gives : (s : ℕ) (act : Act) → asks_give s (question_of act) ≡ false → gives_turn s act ≡ false
not-gives s (GiveTurn s') e = e
not-gives s _ e = refl

pub no_marks : (s : ℕ) (acts : List Act) → All (λ act. asks_mark s (question_of act) ≡ false) acts
    → has (marks_on s) acts ≡ false
no_marks s acts each =
    list_any_none (marks_on s) acts
    (All-weaker (λ act. asks_mark s (question_of act) ≡ false) (λ act. marks_on s act ≡ false)
    (not-marks s) acts each)

pub no_gives : (s : ℕ) (acts : List Act) → All (λ act. asks_give s (question_of act) ≡ false) acts
    → has (gives_turn s) acts ≡ false
no_gives s acts each =
    list_any_none (gives_turn s) acts
    (All-weaker (λ act. asks_give s (question_of act) ≡ false) (λ act. gives_turn s act ≡ false)
    (not-gives s) acts each)

abbrev pub asks_remove : ℕ → Question → Bool
asks_remove s (Question.remove s' i) = s'.0 == s
asks_remove s _ = false

not-removes : (s : ℕ) (act : Act) → asks_remove s (question_of act) ≡ false → removes_on s act ≡ false
not-removes s (Remove s' i found) e = e
not-removes s _ e = refl

pub no_removes : (s : ℕ) (acts : List Act) → All (λ act. asks_remove s (question_of act) ≡ false) acts
    → has (removes_on s) acts ≡ false
no_removes s acts each =
    list_any_none (removes_on s) acts
    (All-weaker (λ act. asks_remove s (question_of act) ≡ false) (λ act. removes_on s act ≡ false)
    (not-removes s) acts each)

-- who removes no key of a selector removes none of an index of it
pub removes_none : (s i : ℕ) (acts : List Act) → has (removes_on s) acts ≡ false → has (removes s i) acts ≡ false
removes_none s i [] none = refl
removes_none s i (act ∷ acts) none =
    or_from (removes s i act) (has (removes s i) acts)
    (of_act act (or_parts (removes_on s act) (has (removes_on s) acts) none).0)
    (removes_none s i acts (or_parts (removes_on s act) (has (removes_on s) acts) none).1)
  where
    of_act : (a : Act) → removes_on s a ≡ false → removes s i a ≡ false
    of_act (Remove s' i' found) none' = ap (λ b. b && (i' == i)) none'
    of_act _ none' = refl

pub count-append : (p : Act → Bool) (acts later : List Act) → count p (acts ++ later) ≡ count p acts + count p later
count-append p acts later = sum_by-append (λ act. cond (p act) 1 0) acts later

pub count-cons : (p : Act → Bool) (act : Act) (acts : List Act) → count p (act ∷ acts) ≡ cond (p act) 1 0 + count p acts
count-cons p act acts = count-append p (act ∷ []) acts ∙ ap (λ (n : ℕ). n + count p acts) (zero-add (cond (p act) 1 0))

-- what has no such act counts none, and the other way round
pub count-none : (p : Act → Bool) (acts : List Act) → has p acts ≡ false → count p acts ≡ 0
count-none p [] none = refl
count-none p (act ∷ acts) none =
    let here : cond {A = ℕ} (p act) 1 0 ≡ 0 = ap (λ (b : Bool). cond {A = ℕ} b 1 0)
    (or_parts (p act) (has p acts) none).0 in
    let later = count-none p acts (or_parts (p act) (has p acts) none).1 in
    let all = count-cons p act acts in
    omega (arith, here, later, all)

pub none-count : (p : Act → Bool) (acts : List Act) → count p acts ≡ 0 → has p acts ≡ false
none-count p [] none = refl
none-count p (act ∷ acts) none = by_test (p act) (sym (count-cons p act acts) ∙ none) (none-count p acts)
  where
    by_test : (b : Bool) → cond {A = ℕ} b 1 0 + count p acts ≡ 0 → (count p acts ≡ 0 → has p acts ≡ false)
        → (b || has p acts) ≡ false
    by_test true total later = absurd (omega arith)
    by_test false total later = later (omega arith)

-- ---- how many marks succeed

mark-counts : (s : SelNo) (i : ℕ) (from : KeyMark) (told : ℕ) (act : Act)
    → question_of act ≡ Question.mark s i from told
    → cond (marks_on s.0 act) 1 0 ≡ one_if (is_ok (exchange_in (answer_of act)))
mark-counts s i from told (Mark s' i' from' told' (Ok u)) asks =
    let same : s'.0 ≡ s.0 = ap (λ (x : SelNo). x.0) (cc asks) in
    ap (λ (b : Bool). cond {A = ℕ} b 1 0) (eq-eqb s'.0 s.0 same)
mark-counts s i from told (Mark s' i' from' told' (Err found)) asks = refl
mark-counts s i from told _ asks = absurd (cc asks)

again-counts : (s : SelNo) (i told : ℕ) (found : Result (Unit {0}) KeyMark)
    → Always (λ acts n. one_if (is_ok found) + count (marks_on s.0) acts ≡ n) (mark_again s i told found)
again-counts s i told (Ok u) = refl
again-counts s i told (Err found) = λ act asks.
    let here = mark-counts s i found told act asks in
    let all = count-cons (marks_on s.0) act [] in
    omega (arith, here, all)

mark_looked-counts : (s : SelNo) (i told : ℕ) → Always (λ acts n. count (marks_on s.0) acts ≡ n) (mark_looked s i told)
mark_looked-counts s i told = λ look asks_look.
    let no_mark : marks_on s.0 look ≡ false = not-marks s.0 look (ap (asks_mark s.0) asks_look) in
    let first : (acts : List Act) → count (marks_on s.0) (look ∷ acts) ≡ count (marks_on s.0) acts =
    λ acts. count-cons (marks_on s.0) look acts
    ∙ (ap (λ (b : Bool). cond {A = ℕ} b 1 0 + count (marks_on s.0) acts) no_mark
    ∙ zero-add (count (marks_on s.0) acts)) in
    let was = mark_in (answer_of look) in
    always_if (λ acts n. count (marks_on s.0) (look ∷ acts) ≡ n) (gains_nothing was told) (reply 0)
    (mark s i was told >>= mark_again s i told) (λ _. first [])
    (λ _ act asks. always_weaker
    (λ acts n. one_if (is_ok (exchange_in (answer_of act))) + count (marks_on s.0) acts ≡ n)
    (λ acts n. count (marks_on s.0) (look ∷ act ∷ acts) ≡ n)
    (mark_again s i told (exchange_in (answer_of act)))
    (λ acts n rest.
    let here = mark-counts s i was told act asks in
    let all = count-cons (marks_on s.0) act acts in
    let both = first (act ∷ acts) in
    omega (arith, here, rest, all, both))
    (again-counts s i told (exchange_in (answer_of act))))

mark_told-counts : (s : SelNo) (i told : ℕ) → Always (λ acts n. count (marks_on s.0) acts ≡ n) (mark_told s i told)
mark_told-counts s i told =
    always_if (λ acts n. count (marks_on s.0) acts ≡ n) (told == 0) (reply 0) (mark_looked s i told) (λ _. refl)
    (λ _. mark_looked-counts s i told)

entry-counts : (s : SelNo) (pairs : List (ℕ × ℕ)) (entry : LookedKey) (before : ℕ)
    → Always (λ acts n. before + count (marks_on s.0) acts ≡ n) (mark_entry s pairs entry before)
entry-counts s pairs entry before =
    let told = told_bits pairs entry in
    always_bind (λ acts n. count (marks_on s.0) acts ≡ n) (λ acts n. before + count (marks_on s.0) acts ≡ n)
    (mark_told s entry.index told) (λ marked. reply (before + marked))
    (mark_told-counts s entry.index told)
    (λ acts marked counted. let same = ap (count (marks_on s.0)) (append-nil acts) in omega (arith, counted, same))

pub over-counts : (s : SelNo) (pairs : List (ℕ × ℕ)) (entries : List LookedKey)
    → Always (λ acts n. count (marks_on s.0) acts ≡ n) (sweep_over entries (mark_entry s pairs) 0)
over-counts s pairs entries =
    always_over (λ _ acts n. count (marks_on s.0) acts ≡ n) entries (mark_entry s pairs) 0 refl
    (λ past entry later acts n _ counted. always_weaker (λ xs m. n + count (marks_on s.0) xs ≡ m)
    (λ xs m. count (marks_on s.0) (acts ++ xs) ≡ m) (mark_entry s pairs entry n)
    (λ xs m here. let all = count-append (marks_on s.0) acts xs in omega (arith, counted, here, all))
    (entry-counts s pairs entry n))

-- ---- giving the turn back

abbrev pub NoGive : ℕ → Question → Type 0
NoGive s q = asks_give s q ≡ false

-- and no key is removed
abbrev pub NoRemove : ℕ → Question → Type 0
NoRemove s q = asks_remove s q ≡ false

module _ (s : SelNo) (pairs : List (ℕ × ℕ)) (entries : List LookedKey) (acts : List Act) (n : ℕ)
    (run : Completes (sweep_over entries (mark_entry s pairs) 0) acts n) where
  pub marks-no_give : has (gives_turn s.0) acts ≡ false
  marks-no_give =
      no_gives s.0 acts (each_run (NoGive s.0) (λ _. ⊤) (sweep_over entries (mark_entry s pairs) 0) acts n
      (each_marks (NoGive s.0) s pairs entries (λ k d _. record { looks = refl; marks = λ _ _. refl })) run).0

  pub marks-no_remove : has (removes_on s.0) acts ≡ false
  marks-no_remove =
      no_removes s.0 acts (each_run (NoRemove s.0) (λ _. ⊤) (sweep_over entries (mark_entry s pairs) 0) acts n
      (each_marks (NoRemove s.0) s pairs entries (λ k d _. record { looks = refl; marks = λ _ _. refl })) run).0

-- ---- after the marks

abbrev pub NoMark : ℕ → Question → Type 0
NoMark s q = asks_mark s q ≡ false

-- the count of what is over; what goes on is this selection, and nothing was marked
abbrev pub Replies : Selection → ℕ → ToldReply → Type 0
Replies selection n (done answer) = answer.count ≡ n
Replies selection n (again next) = (next ≡ selection) × (n ≡ 0)

second_of : (a b c d e f : Bool) → (a && b && c && d && e && f) ≡ true → b ≡ true
second_of a true c d e f all = refl
second_of true false c d e f all = absurd (cc all)
second_of false false c d e f all = absurd (cc all)

pub after-replies : (selection : Selection) (elapsed : Bool) (n : ℕ)
    → Each (NoMark selection.selector.0) (Replies selection n) (after_marks selection elapsed n)
after-replies selection elapsed n = (
  refl,
  λ gate. (
    refl,
    λ interrupted. each_if (NoMark selection.selector.0) (Replies selection n)
        (is_again selection.mode n (gate_in gate) (flag_in interrupted) elapsed) (reply (again selection))
        (end_selection selection _)
        (λ goes_on. (refl, eqb-true n 0 (second_of _ _ _ _ _ _ goes_on)))
        (λ _. each_end (NoMark selection.selector.0) (Replies selection n) selection _ refl
        (record {
          frees = λ _. refl;
          touched = λ _. refl;
          takes = λ _. refl;
          at = λ _. record {
            looks = refl;
            looks_interest = refl;
            removes = refl;
            puts = refl;
            looks_index = refl;
            touches = refl;
          };
        }) refl refl refl),
  ),
)

-- where it goes on, the caller keeps the turn, and removed nothing
abbrev KeepsTurn : ℕ → List Act → ToldReply → Type 0
KeepsTurn s acts (done answer) = ⊤
KeepsTurn s acts (again next) = (has (gives_turn s) acts ≡ false) × (has (removes_on s) acts ≡ false)

any-done : (s : ℕ) (xs : List Act) (selection : Selection) (answer : Selected)
    → Always (λ acts r. KeepsTurn s (xs ++ acts) r) (end_selection selection answer)
any-done s xs selection answer =
    always_bind (λ _ _. ⊤) (λ acts r. KeepsTurn s (xs ++ acts) r)
    (remove_all_cancelled selection.selector selection.listed) _
    (always_any (remove_all_cancelled selection.selector selection.listed))
    (λ _ _ _ _ _ _ _. tt)

after-keeps : (selection : Selection) (elapsed : Bool) (n : ℕ)
    → Always (KeepsTurn selection.selector.0) (after_marks selection elapsed n)
after-keeps selection elapsed n = λ look asks look' asks'.
    let s = selection.selector.0 in
    always_if (λ acts r. KeepsTurn s (look ∷ look' ∷ acts) r)
    (is_again selection.mode n (gate_in (answer_of look)) (flag_in (answer_of look')) elapsed)
    (reply (again selection)) (end_selection selection _)
    (λ _. (
      or_from _ _ (not-gives s look (ap (asks_give s) asks))
          (or_from _ _ (not-gives s look' (ap (asks_give s) asks')) refl),
      or_from _ _ (not-removes s look (ap (asks_remove s) asks))
          (or_from _ _ (not-removes s look' (ap (asks_remove s) asks')) refl),
    ))
    (λ _. any-done s (look ∷ look' ∷ []) selection _)

-- ---- the laws

pub none_of-append : (p : Act → Bool) (acts later : List Act) → has p acts ≡ false → has p later ≡ false
    → has p (acts ++ later) ≡ false
none_of-append p acts later first second = list_any-append p acts later ∙ or_from _ _ first second

-- the selection that was begun, after acts that neither mark a key nor give the turn back
longer : (own : List Act) (selection : Selection) (acts : List Act) → IsBegun own selection
    → has (gives_turn selection.selector.0) acts ≡ false → has (marks_on selection.selector.0) acts ≡ false
    → has (removes_on selection.selector.0) acts ≡ false
    → IsBegun (own ++ acts) selection
longer own selection acts begun no_give no_mark no_remove = record {
  earlier = begun.earlier;
  beginning = begun.beginning;
  since = begun.since ++ acts;
  parts = ap (λ xs. xs ++ acts) begun.parts
      ∙ (append_assoc begun.earlier (begun.beginning ++ begun.since) acts
      ∙ ap (λ xs. begun.earlier ++ xs) (append_assoc begun.beginning begun.since acts));
  known = begun.known;
  begins = begun.begins;
  goes_on = none_of-append (gives_turn selection.selector.0) begun.since acts begun.goes_on no_give;
  unmarked = none_of-append (marks_on selection.selector.0) begun.since acts begun.unmarked no_mark;
  unremoved = none_of-append (removes_on selection.selector.0) begun.since acts begun.unremoved no_remove;
}

-- what a run of `told` marks, and how it goes on or ends
pub again_goes_on : AgainGoesOn
unfolding told_plan
again_goes_on own selection next poll acts begun run =
    let s = selection.selector in
    let parts = split (sweep_over selection.looked (mark_entry s poll.pairs) 0)
    (after_marks selection poll.elapsed) acts (again next) run in
    let counted = always_run (λ xs n. count (marks_on s.0) xs ≡ n) _ parts.first parts.middle
    (over-counts s poll.pairs selection.looked) parts.runs_first in
    let after = each_run (NoMark s.0) (Replies selection parts.middle) (after_marks selection poll.elapsed parts.middle)
    parts.second (again next) (after-replies selection poll.elapsed parts.middle) parts.runs_second in
    let keeps = always_run (KeepsTurn s.0) _ parts.second (again next) (after-keeps selection poll.elapsed parts.middle)
    parts.runs_second in
    let none_first = none-count (marks_on s.0) parts.first (counted ∙ after.1.1) in
    let no_mark = ap (has (marks_on s.0)) parts.parts
    ∙ none_of-append (marks_on s.0) parts.first parts.second none_first (no_marks s.0 parts.second after.0) in
    let no_give = ap (has (gives_turn s.0)) parts.parts
    ∙ none_of-append (gives_turn s.0) parts.first parts.second
    (marks-no_give s poll.pairs selection.looked parts.first parts.middle parts.runs_first) keeps.0 in
    let no_remove = ap (has (removes_on s.0)) parts.parts
    ∙ none_of-append (removes_on s.0) parts.first parts.second
    (marks-no_remove s poll.pairs selection.looked parts.first parts.middle parts.runs_first) keeps.1 in
    subst (IsBegun (own ++ acts)) (sym after.1.0) (longer own selection acts begun no_give no_mark no_remove)

pub counts_selection : CountsSelection
unfolding told_plan
counts_selection own selection poll acts answer begun run =
    let s = selection.selector in
    let parts = split (sweep_over selection.looked (mark_entry s poll.pairs) 0)
    (after_marks selection poll.elapsed) acts (done answer) run in
    let counted = always_run (λ xs n. count (marks_on s.0) xs ≡ n) _ parts.first parts.middle
    (over-counts s poll.pairs selection.looked) parts.runs_first in
    let after = each_run (NoMark s.0) (Replies selection parts.middle) (after_marks selection poll.elapsed parts.middle)
    parts.second (done answer) (after-replies selection poll.elapsed parts.middle) parts.runs_second in
    let none_before = count-none (marks_on s.0) begun.since begun.unmarked in
    let none_after = count-none (marks_on s.0) parts.second (no_marks s.0 parts.second after.0) in
    let here = ap (count (marks_on s.0)) parts.parts ∙ count-append (marks_on s.0) parts.first parts.second in
    let all = count-append (marks_on s.0) begun.since acts in
    let is : answer.count ≡ parts.middle = after.1 in
    omega (arith, counted, none_before, none_after, here, all, is)

pub begins_selection : BeginsSelection
begins_selection s mode known own acts selection run =
    let begun = begin-parts s mode known acts selection run in
    record {
      earlier = own;
      beginning = acts;
      since = [];
      parts = ap (λ xs. own ++ xs) (sym (append-nil acts));
      known = known;
      begins = subst (λ (x : SelNo). Begins x selection.mode known acts (Ok selection)) (sym begun.selector)
          (subst (λ (m : Mode). Begins s m known acts (Ok selection)) (sym begun.mode_is) run);
      goes_on = refl;
      unmarked = refl;
      unremoved = refl;
    }
