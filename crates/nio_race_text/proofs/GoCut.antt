-- Where lines are cut at their first `go`.
use Rattle.std.proofs.Common.{◌≡◌, ◌≢◌, ℕ, ◌+◌, ◌-◌, ◌<◌, List, [], ◌∷◌, ◌++◌, get_or, length, drop, take, map, sym, ap}
use Rattle.std.proofs.Common.{◌∙◌, arith, All}
use Rattle.std.specs.Borrow.{Bor}
use Rattle.std.specs.List.{AllWithin, HoldsAt}
use Rattle.std.proofs.lemmas.List.{drop-map, get_or-take, length-drop, length-take, take-map, take_all}
use Rattle.std.proofs.lemmas.List.Elements.{All-from_all_within, All-map}
use Rattle.nio_race_text.specs.RaceText.{go_line}
use Rattle.nio_race_text.specs.Reading.{AreGoless, IsCutAtGo}
use Rattle.nio_script.proofs.Lines.{next_now, parts}

abbrev texts : List (Bor (List ℕ)) → List (List ℕ)
texts lines = map (λ line. line.now) lines

abbrev pub IsGo : Bor (List ℕ) → Type 0
IsGo line = line.now ≡ go_line

abbrev pub IsOther : Bor (List ℕ) → Type 0
IsOther line = line.now ≢ go_line

pub all_other : (lines : List (Bor (List ℕ))) → AllWithin IsOther lines 0 (length lines) → AreGoless (texts lines)
all_other lines all = All-map (λ text. text ≢ go_line) (λ line. line.now) lines (All-from_all_within IsOther lines all)

others_before : (lines : List (Bor (List ℕ))) (place : ℕ) → AllWithin IsOther lines 0 place
    → All IsOther (take place lines)
others_before lines place all k d within =
    let below : k < place = omega (arith, within, length-take place lines) in
    rw (get_or-take place lines k d below) (all k d (omega arith) below)

module _ (lines : List (Bor (List ℕ))) (place : ℕ) (within : place < length lines) where
  rest : take (length lines - (place + 1)) (drop (place + 1) lines) ≡ drop (place + 1) lines
  rest = take_all (length lines - (place + 1)) (drop (place + 1) lines) (omega (arith, length-drop (place + 1) lines))

  cut_at : (d : Bor (List ℕ)) → (get_or lines place d).now ≡ go_line → AllWithin IsOther lines 0 place
      → IsCutAtGo (texts lines) (texts (take place lines))
      (texts (take (length lines - (place + 1)) (drop (place + 1) lines)))
  cut_at d is others = record {
    parts =
        parts (next_now lines place d within)
        ∙ ap (λ text. take place (texts lines) ++ text ∷ drop (place + 1) (texts lines)) is
        ∙ ap (λ ls. ls ++ go_line ∷ drop (place + 1) (texts lines)) (take-map (λ line. line.now) place lines)
        ∙ ap (λ ls. texts (take place lines) ++ go_line ∷ ls)
        (drop-map (λ line. line.now) (place + 1) lines ∙ ap texts (sym rest));
    first = All-map (λ text. text ≢ go_line) (λ line. line.now) (take place lines) (others_before lines place others);
  }

pub cut_here : (lines : List (Bor (List ℕ))) (place : ℕ) → place < length lines → HoldsAt IsGo lines place
    → AllWithin IsOther lines 0 place
    → IsCutAtGo (texts lines) (texts (take place lines))
    (texts (take (length lines - (place + 1)) (drop (place + 1) lines)))
cut_here [] place within is others = absurd (omega (arith, within))
cut_here (first ∷ lines) place within is others = cut_at (first ∷ lines) place within first (is first) others
