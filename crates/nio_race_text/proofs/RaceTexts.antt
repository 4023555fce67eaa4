-- A text is a race text of one setup and one race, or has one first bad line, and not both.
use Rattle.std.proofs.Common.{◌≡◌, ◌≢◌, ℕ, ◌+◌, List, [], ◌∷◌, ◌++◌, length, Result, Ok, Err, IfOk, ◌⊎◌, ◌↔◌, inl, inr}
use Rattle.std.proofs.Common.{refl, sym, ap, ◌∙◌, subst, append_assoc, length-append, arith}
use Rattle.std.specs.Prelude.{MatchResult}
use Rattle.std.proofs.lemmas.List.Elements.{All-head, All-tail}
use Rattle.nio_base.specs.declared.numbers.CallerNo.{CallerNo}
use Rattle.nio_language.specs.Calls.{IsBlank, IsLine}
use Rattle.nio_language.specs.Script as script
use Rattle.nio_language.specs.Script.{AreCalls, lines_of}
use Rattle.nio_language.specs.declared.call.Call.{Call}
use Rattle.nio_language.specs.declared.call.ScriptCall.{ScriptCall}
use Rattle.nio_language.proofs.OneReading.{line_full, line_one}
use Rattle.nio_race_text.specs.RaceLines.{AreRaceLines, no_lines, blank_line, race_line}
use Rattle.nio_race_text.specs.RaceText.{RaceCalls, AreRaceText, IsRaceText, AreSomeRaceText, IsFirstBadRace, IsInRace}
use Rattle.nio_race_text.specs.RaceText.{IsInSetup, setup_alone, with_go, go_line}
use Rattle.nio_race_text.specs.Reading.{AreGoless}
use Rattle.nio_race_text.specs.declared.call.RaceLine.{RaceLine}
use Rattle.nio_race_text.proofs.OneLine.{line_not_go, go_full, race_one}
use Rattle.nio_race_text.proofs.Parts.{AreRaceLines-append, AreRaceLines-behind}
use Rattle.nio_script.specs.Entries.{StopsAt}
use Rattle.nio_script.specs.declared.script.ScriptError.{ScriptError}
use Rattle.nio_script.specs.declared.script.ScriptError.TheVariants.{BadLine, Memory}
use Rattle.nio_script.proofs.EntryLemmas.{same_line}
use Rattle.nio_script.proofs.FirstBad.{AreCalls-append}
use Rattle.nio_script.proofs.FirstBreak.{IsBreak, unbroken, one_break}
use Rattle.nio_script.proofs.Lines.{only_memory}

-- ---- a race text, line by line

data Steps : List (List ℕ) → List ScriptCall → List RaceLine → Type 0 where
  end : Steps [] [] []
  blank : {line : List ℕ} {lines : List (List ℕ)} {setup : List ScriptCall} {race : List RaceLine}
      → IsBlank line → Steps lines setup race → Steps (line ∷ lines) setup race
  call : {line : List ℕ} {lines : List (List ℕ)} {caller : CallerNo} {c : Call} {setup : List ScriptCall}
      {race : List RaceLine}
      → IsLine caller c line → Steps lines setup race
      → Steps (line ∷ lines) (record { caller = caller; call = c } ∷ setup) race
  go : {line : List ℕ} {lines : List (List ℕ)} {race : List RaceLine}
      → line ≡ go_line → AreRaceLines lines race → Steps (line ∷ lines) [] race

steps_of_setup : {front : List (List ℕ)} {setup : List ScriptCall} → AreCalls front setup → Steps front setup []
steps_of_setup script.no_lines = end
steps_of_setup (script.blank_line b rest) = blank b (steps_of_setup rest)
steps_of_setup (script.call_line is rest) = call is (steps_of_setup rest)

steps_of_go : {front back : List (List ℕ)} {setup : List ScriptCall} {race : List RaceLine}
    → AreCalls front setup → AreRaceLines back race → Steps (front ++ go_line ∷ back) setup race
steps_of_go script.no_lines race = go refl race
steps_of_go (script.blank_line b rest) race = blank b (steps_of_go rest race)
steps_of_go (script.call_line is rest) race = call is (steps_of_go rest race)

steps_of : {lines : List (List ℕ)} {setup : List ScriptCall} {race : List RaceLine} → AreRaceText lines setup race
    → Steps lines setup race
steps_of (setup_alone setup) = steps_of_setup setup
steps_of (with_go setup race) = steps_of_go setup race

blank_first : {line : List ℕ} {lines : List (List ℕ)} {setup : List ScriptCall} {race : List RaceLine}
    → IsBlank line → AreRaceText lines setup race → AreRaceText (line ∷ lines) setup race
blank_first b (setup_alone setup) = setup_alone (script.blank_line b setup)
blank_first b (with_go setup race) = with_go (script.blank_line b setup) race

call_first : {line : List ℕ} {lines : List (List ℕ)} {caller : CallerNo} {c : Call} {setup : List ScriptCall}
    {race : List RaceLine}
    → IsLine caller c line → AreRaceText lines setup race
    → AreRaceText (line ∷ lines) (record { caller = caller; call = c } ∷ setup) race
call_first is (setup_alone setup) = setup_alone (script.call_line is setup)
call_first is (with_go setup race) = with_go (script.call_line is setup) race

go_first : {line : List ℕ} {lines : List (List ℕ)} {race : List RaceLine}
    → line ≡ go_line → AreRaceLines lines race → AreRaceText (line ∷ lines) [] race
go_first {lines = lines} {race = race} e are =
    subst (λ line. AreRaceText (line ∷ lines) [] race) (sym e) (with_go script.no_lines are)

text_of : {lines : List (List ℕ)} {setup : List ScriptCall} {race : List RaceLine} → Steps lines setup race
    → AreRaceText lines setup race
text_of end = setup_alone script.no_lines
text_of (blank b rest) = blank_first b (text_of rest)
text_of (call is rest) = call_first is (text_of rest)
text_of (go e are) = go_first e are

-- ---- one reading

steps_one : {lines : List (List ℕ)} {setup calls : List ScriptCall} {race others : List RaceLine}
    → Steps lines setup race → Steps lines calls others → (setup ≡ calls) × (race ≡ others)
steps_one end end = (refl, refl)
steps_one (blank b rest) (blank c more) = steps_one rest more
steps_one (blank b rest) (call is more) = absurd (line_full is b)
steps_one (blank b rest) (go e are) = absurd (go_full e b)
steps_one (call is rest) (blank b more) = absurd (line_full is b)
steps_one (call {caller = t} {c = c} {setup = setup} is rest) (call {caller = u} {c = d} same more) =
    let first = line_one is same in
    let others = steps_one rest more in (
      ap (λ x. x ∷ setup)
          (same_line (record { caller = t; call = c }) (record { caller = u; call = d }) first.0 first.1)
          ∙ ap (λ xs. record { caller = u; call = d } ∷ xs) others.0,
      others.1,
    )
steps_one (call is rest) (go e are) = absurd (line_not_go is e)
steps_one (go e are) (blank b more) = absurd (go_full e b)
steps_one (go e are) (call is more) = absurd (line_not_go is e)
steps_one (go e are) (go same all) = (refl, race_one are all)

pub race_text_one : {lines : List (List ℕ)} {setup calls : List ScriptCall} {race others : List RaceLine}
    → AreRaceText lines setup race → AreRaceText lines calls others → (setup ≡ calls) × (race ≡ others)
race_text_one x y = steps_one (steps_of x) (steps_of y)

-- ---- the first lines of a race text are one

race_front : (xs ys : List (List ℕ)) {race : List RaceLine} → AreRaceLines (xs ++ ys) race
    → (first : List RaceLine) × AreRaceLines xs first
race_front [] ys are = ([], no_lines)
race_front (x ∷ xs) ys (blank_line b rest) = let front = race_front xs ys rest in (front.0, blank_line b front.1)
race_front (x ∷ xs) ys (race_line {caller = caller} {c = c} is rest) =
    let front = race_front xs ys rest in (record { caller = caller; call = c } ∷ front.0, race_line is front.1)

front_of : (xs ys : List (List ℕ)) {setup : List ScriptCall} {race : List RaceLine} → Steps (xs ++ ys) setup race
    → AreSomeRaceText xs
front_of [] ys steps = ([], [], setup_alone script.no_lines)
front_of (x ∷ xs) ys (blank b rest) = let front = front_of xs ys rest in (front.0, front.1, blank_first b front.2)
front_of (x ∷ xs) ys (call {caller = caller} {c = c} is rest) =
    let front = front_of xs ys rest in (record { caller = caller; call = c } ∷ front.0, front.1, call_first is front.2)
front_of (x ∷ xs) ys (go e are) = let front = race_front xs ys are in ([], front.0, go_first e front.1)

-- ---- the first bad line

break_of : (text : List ℕ) (n : ℕ) → IsFirstBadRace text n → IsBreak AreSomeRaceText (lines_of text) n
break_of text n bad = record {
  item = bad.line;
  before = bad.before;
  after = bad.after;
  parts = bad.lines;
  number = bad.number;
  good = bad.good;
  bad = λ rest some.
      let whole = subst (λ ls. Steps ls some.0 some.1) (sym (append_assoc bad.before (bad.line ∷ []) rest))
      (steps_of some.2) in
      bad.bad (front_of (bad.before ++ bad.line ∷ []) rest whole);
}

pub race_not_bad : (text : List ℕ) (setup : List ScriptCall) (race : List RaceLine) (n : ℕ) → IsRaceText text setup race
    → IsFirstBadRace text n → ⊥
race_not_bad text setup race n is bad =
    unbroken AreSomeRaceText (lines_of text) n (setup, race, is) (break_of text n bad)

pub first_bad_race_one : (text : List ℕ) (m n : ℕ) → IsFirstBadRace text m → IsFirstBadRace text n → m ≡ n
first_bad_race_one text m n x y = one_break AreSomeRaceText (lines_of text) m n (break_of text m x) (break_of text n y)

-- ---- where the two parts stop

setup_of : {lines : List (List ℕ)} (rest : List (List ℕ)) {setup : List ScriptCall} {race : List RaceLine}
    → AreGoless (lines ++ rest) → Steps lines setup race → AreCalls lines setup
setup_of rest goless end = script.no_lines
setup_of rest goless (blank {line = line} {lines = lines} b more) =
    script.blank_line b (setup_of rest (All-tail (λ l. l ≢ go_line) line (lines ++ rest) goless) more)
setup_of rest goless (call {line = line} {lines = lines} is more) =
    script.call_line is (setup_of rest (All-tail (λ l. l ≢ go_line) line (lines ++ rest) goless) more)
setup_of rest goless (go {line = line} {lines = lines} e are) =
    absurd (All-head (λ l. l ≢ go_line) line (lines ++ rest) goless e)

race_of : {front back : List (List ℕ)} {setup calls : List ScriptCall} {race : List RaceLine}
    → AreCalls front setup → Steps (front ++ go_line ∷ back) calls race → AreRaceLines back race
race_of script.no_lines (blank b more) = absurd (go_full refl b)
race_of script.no_lines (call is more) = absurd (line_not_go is refl)
race_of script.no_lines (go e are) = are
race_of (script.blank_line b rest) (blank c more) = race_of rest more
race_of (script.blank_line b rest) (call is more) = race_of rest more
race_of (script.blank_line b rest) (go e are) = absurd (go_full e b)
race_of (script.call_line is rest) (blank b more) = race_of rest more
race_of (script.call_line is rest) (call same more) = race_of rest more
race_of (script.call_line is rest) (go e are) = absurd (line_not_go is e)

-- the first bad line stands in the setup
pub bad_setup : {text : List ℕ} {front : List (List ℕ)} (rest : List (List ℕ)) {n : ℕ}
    → lines_of text ≡ front ++ rest → AreGoless front → StopsAt AreCalls 0 front n → IsFirstBadRace text n
bad_setup {front = front} rest e goless stops = record {
  line = stops.line;
  before = stops.before;
  after = stops.after ++ rest;
  lines = e ∙ ap (λ xs. xs ++ rest) stops.parts ∙ append_assoc stops.before (stops.line ∷ stops.after) rest;
  number = omega (arith, stops.number);
  good = (stops.calls, [], setup_alone stops.good);
  bad = λ some.
      let parts = stops.parts ∙ sym (append_assoc stops.before (stops.line ∷ []) stops.after) in
      stops.bad some.0 (setup_of stops.after (subst AreGoless parts goless) (steps_of some.2));
}

-- the first bad line stands in the race
pub bad_race : {text : List ℕ} {front back : List (List ℕ)} {setup : List ScriptCall} {skipped n : ℕ}
    → lines_of text ≡ front ++ go_line ∷ back → AreCalls front setup → skipped ≡ length front + 1
    → StopsAt AreRaceLines skipped back n
    → IsFirstBadRace text n
bad_race {front = front} {setup = setup} e are many stops = record {
  line = stops.line;
  before = front ++ go_line ∷ stops.before;
  after = stops.after;
  lines = e ∙ ap (λ xs. front ++ go_line ∷ xs) stops.parts
      ∙ sym (append_assoc front (go_line ∷ stops.before) (stops.line ∷ stops.after));
  number = omega (arith, length-append front (go_line ∷ stops.before), stops.number, many);
  good = (setup, stops.calls, with_go are stops.good);
  bad = λ some.
      let parts = append_assoc front (go_line ∷ stops.before) (stops.line ∷ []) in
      stops.bad some.1 (race_of are (subst (λ ls. Steps ls some.0 some.1) parts (steps_of some.2)));
}

-- ---- the line behind some

last_of_setup : {before : List (List ℕ)} {line : List ℕ} {setup calls : List ScriptCall} {race : List RaceLine}
    → AreCalls before setup → Steps (before ++ line ∷ []) calls race → IsInSetup line
last_of_setup script.no_lines (blank b more) = inl (script.is_blank b)
last_of_setup script.no_lines (call {caller = caller} {c = c} is more) = inl (script.is_call caller c is)
last_of_setup script.no_lines (go e are) = inr e
last_of_setup (script.blank_line b rest) (blank c more) = last_of_setup rest more
last_of_setup (script.blank_line b rest) (call is more) = last_of_setup rest more
last_of_setup (script.blank_line b rest) (go e are) = absurd (go_full e b)
last_of_setup (script.call_line is rest) (blank b more) = last_of_setup rest more
last_of_setup (script.call_line is rest) (call same more) = last_of_setup rest more
last_of_setup (script.call_line is rest) (go e are) = absurd (line_not_go is e)

pub behind_setup : (before : List (List ℕ)) (line : List ℕ) (setup : List ScriptCall) → AreCalls before setup
    → AreSomeRaceText (before ++ line ∷ []) ↔ IsInSetup line
behind_setup before line setup are = (λ some. last_of_setup are (steps_of some.2), more)
  where
    more : IsInSetup line → AreSomeRaceText (before ++ line ∷ [])
    more (inl (script.is_blank b)) =
        (setup ++ [], [], setup_alone (AreCalls-append are (script.blank_line b script.no_lines)))
    more (inl (script.is_call t c is)) = (
      setup ++ record {
        caller = t;
        call = c;
      } ∷ [],
      [],
      setup_alone (AreCalls-append are (script.call_line is script.no_lines)),
    )
    more (inr e) = (setup, [], subst (λ l. AreRaceText (before ++ l ∷ []) setup []) (sym e) (with_go are no_lines))

one_race_line : {line : List ℕ} {race : List RaceLine} → AreRaceLines (line ∷ []) race → IsInRace line
one_race_line (blank_line b none) = inl b
one_race_line (race_line {caller = caller} {c = c} is none) = inr (record { caller = caller; call = c }, is)

pub behind_go : (front back : List (List ℕ)) (line : List ℕ) (setup : List ScriptCall) (race : List RaceLine)
    → AreCalls front setup → AreRaceLines back race → AreSomeRaceText (front ++ go_line ∷ back ++ line ∷ [])
    ↔ IsInRace line
behind_go front back line setup race are others = (last, more)
  where
    parts : (front ++ go_line ∷ back) ++ line ∷ [] ≡ front ++ go_line ∷ (back ++ line ∷ [])
    parts = append_assoc front (go_line ∷ back) (line ∷ [])

    last : AreSomeRaceText (front ++ go_line ∷ back ++ line ∷ []) → IsInRace line
    last some =
        let all = race_of are (subst (λ ls. Steps ls some.0 some.1) parts (steps_of some.2)) in
        one_race_line (AreRaceLines-behind back (line ∷ []) some.1 all).1

    with_calls : (added : List RaceLine) → AreRaceLines (line ∷ []) added
        → AreSomeRaceText (front ++ go_line ∷ back ++ line ∷ [])
    with_calls added is = (
      setup,
      race ++ added,
      subst (λ ls. AreRaceText ls setup (race ++ added)) (sym parts)
          (with_go are (AreRaceLines-append others is)),
    )

    more : IsInRace line → AreSomeRaceText (front ++ go_line ∷ back ++ line ∷ [])
    more (inl b) = with_calls [] (blank_line b no_lines)
    more (inr r) = with_calls (r.0 ∷ []) (race_line r.1 no_lines)

-- ---- a reader that finds the calls or names the first bad line

pub only_calls : {text : List ℕ} (r : Result RaceCalls ScriptError)
    → IfOk r (λ calls. IsRaceText text calls.setup calls.race)
    → ((n : ℕ) → r ≡ Err (BadLine n) → IsFirstBadRace text n) → (setup : List ScriptCall) (race : List RaceLine)
    → IsRaceText text setup race
    → MatchResult r (λ calls. (calls.setup ≡ setup) × (calls.race ≡ race)) (λ e. e ≡ Memory)
only_calls (Ok calls) ok bad setup race is = race_text_one ok is
only_calls {text = text} (Err e) ok bad setup race is =
    only_memory e (λ n named. race_not_bad text setup race n is (bad n (ap Err named)))

pub only_line : {text : List ℕ} (r : Result RaceCalls ScriptError)
    → IfOk r (λ calls. IsRaceText text calls.setup calls.race)
    → ((n : ℕ) → r ≡ Err (BadLine n) → IsFirstBadRace text n) → (n : ℕ) → IsFirstBadRace text n
    → (r ≡ Err (BadLine n)) ⊎ (r ≡ Err Memory)
only_line {text = text} (Ok calls) ok bad n is = absurd (race_not_bad text calls.setup calls.race n ok is)
only_line {text = text} (Err (BadLine m)) ok bad n is =
    inl (ap (λ k. Err (BadLine k)) (first_bad_race_one text m n (bad m refl) is))
only_line (Err Memory) ok bad n is = inr refl
