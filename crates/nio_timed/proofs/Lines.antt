-- What the bytes of a line are read as.
use Rattle.std.proofs.Common.{◌≡◌, ◌≢◌, ℕ, ◌≤◌, ◌==◌, List, length, Option, Some, None, sym, ap, ◌∙◌, subst}
use Rattle.std.specs.List.{join_with_byte, slice_split}
use Rattle.std.proofs.lemmas.List.Splits.{join_with_byte-slice_split}
use Rattle.std.proofs.lemmas.Option.{none-some}
use Rattle.nio_base.specs.declared.numbers.CallerNo.{CallerNo}
use Rattle.nio_language.specs.Calls.{IsBlank, IsLine}
use Rattle.nio_language.specs.Reading.{Reads}
use Rattle.nio_language.specs.Script.{IsInGrammar, is_call}
use Rattle.nio_language.specs.declared.call.Call.{Call}
use Rattle.nio_language.specs.declared.call.Call.TheVariants as call
use Rattle.nio_language.specs.declared.group_call.GroupCall.{GroupCall}
use Rattle.nio_language.proofs.OneReading.{line_one}
use Rattle.nio_script.specs.Entries.{Finds}
use Rattle.nio_timed.specs.Lines.{IsTimedCall, IsTimedLine, timed_line_words}
use Rattle.nio_timed.specs.Reading.{IsGroupLineOf, IsOwnCall, IsOwnLine}
use Rattle.nio_timed.specs.declared.call.TimedCall.{TimedCall}
use Rattle.nio_timed.specs.declared.call.TimedCall.TheVariants.{Group, StartTimed, Expire, Next}
use Rattle.nio_timed.specs.declared.call.TimedLine.{TimedLine}
use Rattle.nio_timed.proofs.OwnWords.{apart, own_words_of, timed_full}

abbrev pub FindsTimed : List ℕ → Option TimedLine → Type 0
FindsTimed line answer = Finds (λ (l : TimedLine). IsTimedLine l line) answer

own_fits : (d : TimedCall) → IsOwnCall d → IsTimedCall d
own_fits (Group g) own = absurd own
own_fits (StartTimed s) own = own
own_fits (Expire now) own = own
own_fits Next own = tt

abbrev pub line_of : CallerNo → TimedCall → TimedLine
line_of t c = record { caller = t; call = c }

module _ {line : List ℕ} where
  pub as_timed : {caller : CallerNo} {g : GroupCall} → IsLine caller (call.Group g) line
      → IsTimedLine (line_of caller (Group g)) line
  as_timed is = record { caller_fits = is.caller_fits; call_fits = is.call_fits; text = is.text; short = is.short }

  pub as_line : {caller : CallerNo} {g : GroupCall} → IsTimedLine (line_of caller (Group g)) line
      → IsLine caller (call.Group g) line
  as_line is = record { caller_fits = is.caller_fits; call_fits = is.call_fits; text = is.text; short = is.short }

  pub finds_nothing : ((l : TimedLine) → IsTimedLine l line → ⊥) → FindsTimed line None
  finds_nothing none = record { found = tt; only = λ l is. absurd (none l is) }

  pub finds_no_blank : IsBlank line → FindsTimed line None
  finds_no_blank blank = finds_nothing (λ l is. timed_full is blank)

  -- a call on the group
  finds_group : {caller : CallerNo} {g : GroupCall} → IsLine caller (call.Group g) line
      → FindsTimed line (Some (line_of caller (Group g)))
  finds_group {caller = caller} {g = g} is =
      record { found = as_timed is; only = λ l other. by_call l.caller l.call other }
    where
      by_call : (t : CallerNo) (d : TimedCall) → IsTimedLine (line_of t d) line
          → Some (line_of caller (Group g)) ≡ Some (line_of t d)
      by_call t (Group h) other = let one = line_one is (as_line other) in cc (one.0, one.1)
      by_call t (StartTimed s) other = absurd (apart is other other.call_fits)
      by_call t (Expire now) other = absurd (apart is other other.call_fits)
      by_call t Next other = absurd (apart is other other.call_fits)

  -- a call that isn't on the group
  finds_other : {caller : CallerNo} {c : Call} → IsLine caller c line → ((g : GroupCall) → c ≢ call.Group g)
      → FindsTimed line None
  finds_other {c = c} is none = finds_nothing (λ l other. by_call l.caller l.call other)
    where
      by_call : (t : CallerNo) (d : TimedCall) → IsTimedLine (line_of t d) line → ⊥
      by_call t (Group h) other = none h (line_one is (as_line other)).1
      by_call t (StartTimed s) other = apart is other other.call_fits
      by_call t (Expire now) other = apart is other other.call_fits
      by_call t Next other = apart is other other.call_fits

  pub finds_line : {caller : CallerNo} {c : Call} (r : Option TimedLine) → IsLine caller c line
      → IsGroupLineOf caller c r → FindsTimed line r
  finds_line None is of = finds_other is (λ g e. none-some _ (of.only g e))
  finds_line {caller = caller} {c = c} (Some l) is of =
      let f = of.found in
      subst (λ r. FindsTimed line (Some r)) (sym f.2)
      (finds_group (subst (λ d. IsLine caller d line) f.1 is))

  -- a line that is in no script
  only_own : (IsInGrammar line → ⊥) → (l : TimedLine) → IsTimedLine l line → IsOwnCall l.call
  only_own bad l is = by_call l.caller l.call is
    where
      by_call : (t : CallerNo) (d : TimedCall) → IsTimedLine (line_of t d) line → IsOwnCall d
      by_call t (Group h) other = absurd (bad (is_call t (call.Group h) (as_line other)))
      by_call t (StartTimed s) other = other.call_fits
      by_call t (Expire now) other = other.call_fits
      by_call t Next other = other.call_fits

  pub finds_no_long : (length line ≤ 4096 → ⊥) → FindsTimed line None
  finds_no_long long = finds_nothing (λ l is. long is.short)

  pub finds_own : (words : List (List ℕ)) (r : Option TimedLine) → (IsInGrammar line → ⊥) → length line ≤ 4096
      → words ≡ slice_split (λ b. b == 32) line → Reads IsOwnLine timed_line_words words r → FindsTimed line r
  finds_own words r bad short e read = by_answer r read
    where
      only : (r : Option TimedLine) → Reads IsOwnLine timed_line_words words r → (l : TimedLine) → IsTimedLine l line
          → r ≡ Some l
      only r read l is =
          let own = only_own bad l is in
          read.only l (record { caller = is.caller_fits; call = own }) (e ∙ own_words_of is own)

      by_answer : (r : Option TimedLine) → Reads IsOwnLine timed_line_words words r → FindsTimed line r
      by_answer None read = record { found = tt; only = only None read }
      by_answer (Some l) read = record {
        found = record {
          caller_fits = read.found.0.caller;
          call_fits = own_fits l.call read.found.0.call;
          text =
              sym (join_with_byte-slice_split 32 line)
              ∙ ap (join_with_byte 32) (sym e ∙ read.found.1);
          short = short;
        };
        only = only (Some l) read;
      }
