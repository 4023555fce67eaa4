-- From the parts of a line to the call that it is.
use Rattle.std.proofs.Common.{◌≡◌, ◌≢◌, ℕ, ◌<◌, ◌^◌, List, ◌∷◌, ◌++◌, Option, Some, None, codes, sym, ◌∙◌, ap, subst}
use Rattle.std.proofs.lemmas.List.{append_cancel_left}
use Rattle.std.proofs.lemmas.Option.{none-some, same_Some}
use Rattle.nio_base.specs.declared.numbers.CallerNo.{CallerNo}
use Rattle.nio_base.specs.declared.numbers.SelNo.{SelNo}
use Rattle.nio_language.specs.Calls.{IsBlank, IsLine}
use Rattle.nio_language.specs.Reading.{Reads}
use Rattle.nio_language.specs.Script.{IsInGrammar, is_call}
use Rattle.nio_language.specs.Words.{caller_word, selector_word}
use Rattle.nio_language.specs.declared.call.Call.{Call}
use Rattle.nio_language.proofs.NameWords.{NoCut, OnlyCut}
use Rattle.nio_language.proofs.OneReading.{line_one}
use Rattle.nio_language.proofs.Spaces.{caller_spaceless}
use Rattle.nio_race_text.specs.RaceLines.{IsBlockLine, IsRaceLine, MayRace, script_line, block_line}
use Rattle.nio_race_text.specs.declared.call.RaceCall.{RaceCall}
use Rattle.nio_race_text.specs.declared.call.RaceCall.TheVariants.{Script, Block}
use Rattle.nio_race_text.specs.declared.call.RaceLine.{RaceLine}
use Rattle.nio_race_text.proofs.OneLine.{no_block, race_full, race_line_one, same_race_line}
use Rattle.nio_script.specs.Entries.{Finds}

-- ---- the line `tN block sM`

module _ (line : List ℕ) where
  pub uncut : NoCut 32 line → (p : CallerNo × SelNo) → IsBlockLine p.0 p.1 line → ⊥
  uncut none p is = none (caller_word p.0) (codes "block " ++ selector_word p.1)
      (caller_spaceless p.0.0 is.caller_fits) is.text

  module _ (front back : List ℕ) (only : OnlyCut 32 line front back) where
    block_parts : (p : CallerNo × SelNo) → IsBlockLine p.0 p.1 line → (front ≡ caller_word p.0)
        × (back ≡ codes "block " ++ selector_word p.1)
    block_parts p is = only (caller_word p.0) (codes "block " ++ selector_word p.1)
        (caller_spaceless p.0.0 is.caller_fits) is.text

    pub no_block_behind : ((rest : List ℕ) → back ≢ codes "block " ++ rest) → (p : CallerNo × SelNo)
        → IsBlockLine p.0 p.1 line → ⊥
    no_block_behind none p is = none (selector_word p.1) (block_parts p is).1

    pub no_caller : Reads (λ (t : CallerNo). t.0 < 64) caller_word front None → (p : CallerNo × SelNo)
        → IsBlockLine p.0 p.1 line → ⊥
    no_caller read p is = none-some p.0 (read.only p.0 is.caller_fits (block_parts p is).0)

    module _ (word : List ℕ) (prefixed : back ≡ codes "block " ++ word) where
      selector_part : (p : CallerNo × SelNo) → IsBlockLine p.0 p.1 line → word ≡ selector_word p.1
      selector_part p is = append_cancel_left (codes "block ") word (selector_word p.1)
          (sym prefixed ∙ (block_parts p is).1)

      pub no_selector : Reads (λ (s : SelNo). s.0 < 2 ^ 32) selector_word word None → (p : CallerNo × SelNo)
          → IsBlockLine p.0 p.1 line → ⊥
      no_selector read p is = none-some p.1 (read.only p.1 is.selector_fits (selector_part p is))

      pub finds_block : (caller : CallerNo) (s : SelNo) → line ≡ front ++ 32 ∷ back
          → Reads (λ (t : CallerNo). t.0 < 64) caller_word front (Some caller)
          → Reads (λ (s : SelNo). s.0 < 2 ^ 32) selector_word word (Some s)
          → Finds (λ (p : CallerNo × SelNo). IsBlockLine p.0 p.1 line) (Some (caller, s))
      finds_block caller s cut first second = record {
        found = record {
          caller_fits = first.found.0;
          selector_fits = second.found.0;
          text =
              cut
              ∙ ap (λ w. w ++ 32 ∷ back) first.found.1
              ∙ ap (λ w. caller_word caller ++ 32 ∷ w) (prefixed ∙ ap (λ w. codes "block " ++ w) second.found.1);
        };
        only = λ p is.
            let callers = same_Some caller p.0 (first.only p.0 is.caller_fits (block_parts p is).0) in
            let selectors = same_Some s p.1 (second.only p.1 is.selector_fits (selector_part p is)) in
            ap (λ t. Some (t, s)) callers ∙ ap (λ x. Some (p.0, x)) selectors;
      }

-- ---- any line behind `go`

abbrev pub FindsRaceLine : List ℕ → Option RaceLine → Type 0
FindsRaceLine line answer = Finds (λ (r : RaceLine). IsRaceLine r.caller r.call line) answer

module _ {line : List ℕ} where
  pub finds_race : {caller : CallerNo} {c : RaceCall} → IsRaceLine caller c line
      → FindsRaceLine line (Some (record { caller = caller; call = c }))
  finds_race {caller = caller} {c = c} is = record {
    found = is;
    only = λ r other.
        let one = race_line_one is other in
        ap Some (same_race_line (record { caller = caller; call = c }) r one.0 one.1);
  }

  finds_nothing : ((r : RaceLine) → IsRaceLine r.caller r.call line → ⊥) → FindsRaceLine line None
  finds_nothing none = record { found = tt; only = λ r is. absurd (none r is) }

  -- a call that may not stand behind `go`
  pub finds_barred : {caller : CallerNo} {c : Call} → IsLine caller c line → ¬ MayRace c → FindsRaceLine line None
  finds_barred {c = c} is barred = finds_nothing (λ r other. by_call r.caller r.call other)
    where
      by_call : (t : CallerNo) (d : RaceCall) → IsRaceLine t d line → ⊥
      by_call t (Script d) (script_line same may) = barred (subst MayRace (sym (line_one is same).1) may)
      by_call t (Block s) (block_line block) = no_block is block

  pub finds_no_blank : IsBlank line → FindsRaceLine line None
  finds_no_blank blank = finds_nothing (λ r is. race_full is blank)

  -- neither a script's line nor `block`
  pub finds_neither : (IsInGrammar line → ⊥) → Finds (λ (p : CallerNo × SelNo). IsBlockLine p.0 p.1 line) None
      → FindsRaceLine line None
  finds_neither bad unblocked = finds_nothing (λ r is. by_call r.caller r.call is)
    where
      by_call : (t : CallerNo) (d : RaceCall) → IsRaceLine t d line → ⊥
      by_call t (Script d) (script_line is may) = bad (is_call t d is)
      by_call t (Block s) (block_line is) = none-some (t, s) (unblocked.only (t, s) is)
