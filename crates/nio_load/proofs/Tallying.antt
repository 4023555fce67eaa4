-- What is kept while the calls of a script are summed up.
use Rattle.std.proofs.Common.{◌≡◌, ℕ, ◌+◌, ◌*◌, ◌^◌, ◌≤◌, List, ◌∷◌, length, sum, take, Option, None, Some, refl, sym, ap}
use Rattle.std.proofs.Common.{◌∙◌, arith}
use Rattle.std.proofs.lemmas.List.Sums.{sum_by-cons}
use Rattle.std.specs.List.{cons_option}
use Rattle.nio_base.specs.declared.limits.Limits.{Limits}
use Rattle.nio_language.specs.declared.call.ScriptCall.{ScriptCall}
use Rattle.nio_plain.specs.Answer.{left_from}
use Rattle.nio_plain.specs.ScriptState.{ScriptState}
use Rattle.nio_plain.specs.Seq.{seq}
use Rattle.nio_plain.specs.declared.rules.Rules.{Rules}
use Rattle.nio_plain.specs.declared.system.System as system
use Rattle.nio_script.specs.Run.{MakesAll, left_by_call}
use Rattle.nio_load.specs.Summary.{count_of, counts_from}
use Rattle.nio_load.specs.Tally.{with_count}
use Rattle.nio_load.specs.declared.summary.Tally.{Tally}

-- Some calls were made, and the rest of them are left. The tally and the counts of the rest are those of all calls.
pub record IsTallying {Y : Type 0} (y : system.Ghosts Y) (run run' : Y) (tally : Tally) (index : ℕ)
    (rest calls : List ScriptCall) : Type 0 where
  pub selections : tally.selections + length (counts_from (y.rules run) (y.limits run) (y.state run') rest)
      ≡ length (counts_from (y.rules run) (y.limits run) (y.state run) calls)
  pub updates : tally.updates + sum (counts_from (y.rules run) (y.limits run) (y.state run') rest)
      ≡ sum (counts_from (y.rules run) (y.limits run) (y.state run) calls)
  pub makes : MakesAll y run run' (take index calls)
  pub left : y.state run' ≡ left_from (y.rules run) (y.limits run) (y.state run) (take index calls)
  pub few_selections : tally.selections ≤ index
  pub few_updates : tally.updates ≤ index * 2 ^ 32
  pub kept_on : y.kept run run'
  pub rules : y.rules run' ≡ y.rules run
  pub limits : y.limits run' ≡ y.limits run

-- A tally with the count of one reply more, and the counts of those after it, are as many as before.
selections_with : (tally : Tally) (count : Option ℕ) (counts : List ℕ)
    → (with_count tally count).selections + length counts ≡ tally.selections + length (cons_option count counts)
selections_with tally None counts = refl
selections_with tally (Some n) counts = omega arith

updates_with : (tally : Tally) (count : Option ℕ) (counts : List ℕ)
    → (with_count tally count).updates + sum counts ≡ tally.updates + sum (cons_option count counts)
updates_with tally None counts = refl
updates_with tally (Some n) counts = omega (arith, sum_by-cons (λ x. x) n counts)

-- the next call is made
module _ {Y : Type 0} (y : system.Ghosts Y) (run before after : Y) (tally tally' : Tally) (index : ℕ) (call : ScriptCall)
    (rest calls : List ScriptCall) (tallying : IsTallying y run before tally index (call ∷ rest) calls)
    (counted : tally' ≡ with_count tally (count_of (seq (y.rules before) (y.limits before) (y.state before) call.caller
    call.call).reply))
    (left : y.state after ≡ left_by_call (y.rules before) (y.limits before) (y.state before) call) where
  abbrev its_count : Option ℕ
  its_count = count_of (seq (y.rules before) (y.limits before) (y.state before) call.caller call.call).reply

  abbrev pub counts_after : List ℕ
  counts_after = counts_from (y.rules run) (y.limits run) (y.state after) rest

  counts_on : counts_from (y.rules run) (y.limits run) (y.state before) (call ∷ rest) ≡ cons_option its_count counts_after
  counts_on =
      let by = λ (rules : Rules) (l : Limits).
      let done = seq rules l (y.state before) call.caller call.call in
      cons_option (count_of done.reply) (counts_from (y.rules run) (y.limits run) done.left rest) in
      ap (λ (rules : Rules). by rules (y.limits run)) (sym tallying.rules)
      ∙ ap (by (y.rules before)) (sym tallying.limits)
      ∙ ap (λ (st : ScriptState). cons_option its_count (counts_from (y.rules run) (y.limits run) st rest)) (sym left)

  pub selections_on : tally'.selections + length counts_after
      ≡ length (counts_from (y.rules run) (y.limits run) (y.state run) calls)
  selections_on =
      ap (λ (t : Tally). t.selections + length counts_after) counted
      ∙ selections_with tally its_count counts_after
      ∙ ap (λ (counts : List ℕ). tally.selections + length counts) (sym counts_on)
      ∙ tallying.selections

  pub updates_on : tally'.updates + sum counts_after
      ≡ sum (counts_from (y.rules run) (y.limits run) (y.state run) calls)
  updates_on =
      ap (λ (t : Tally). t.updates + sum counts_after) counted
      ∙ updates_with tally its_count counts_after
      ∙ ap (λ (counts : List ℕ). tally.updates + sum counts) (sym counts_on)
      ∙ tallying.updates
