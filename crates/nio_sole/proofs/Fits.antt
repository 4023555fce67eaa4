-- The looked list of a selection without the selector's list: its indexes are within the limits, so it is no longer than
-- the limit of indexes.
use Rattle.std.proofs.Common.{◌≡◌, ℕ, suc, ◌+◌, ◌<◌, ◌≤◌, Ok, List, [], ◌∷◌, ◌++◌, length, ap, sym, ◌∙◌, subst}
use Rattle.std.specs.Prelude.{None}
use Rattle.std.proofs.Common.{append_assoc, arith, false}
use Rattle.std.specs.List.{All, AllPairs}
use Rattle.std.proofs.lemmas.List.Elements.{All-head, All-tail}
use Rattle.nio_base.specs.declared.limits.Limits.{Limits}
use Rattle.nio_base.specs.declared.numbers.CallerNo.{CallerNo}
use Rattle.nio_base.specs.declared.numbers.SelNo.{SelNo}
use Rattle.nio_history.proofs.Legal.{legal_beginning, legal_next}
use Rattle.nio_history.proofs.Within.{legal-within}
use Rattle.nio_history.specs.Histories.{state_after, mine, event_of, IsLegal}
use Rattle.nio_history.specs.PassViews.{PassView, done_between}
use Rattle.nio_history.specs.Questions.{Question, question_of, answer_of}
use Rattle.nio_history.specs.declared.act.Act.{Act}
use Rattle.nio_history.specs.declared.act.Act.TheVariants.{LookKeys}
use Rattle.nio_history.specs.declared.event.Event.{Event}
use Rattle.nio_history.specs.declared.found.Mode.{Mode}
use Rattle.nio_select.proofs.LastKeys.{below_longer}
use Rattle.nio_select.specs.Asked.{AreBelow}
use Rattle.nio_select.specs.InProgress.{Selects}
use Rattle.nio_steps.proofs.BeginLaws.{begin-parts, unlisted-begins}
use Rattle.nio_steps.proofs.Lists.{pairs-head, pairs-tail}
use Rattle.nio_steps.proofs.OrderLaws.{looks_in_order}
use Rattle.nio_steps.proofs.OwnActs.{cut_at}
use Rattle.nio_steps.specs.Calls.{CallClause}
use Rattle.nio_steps.specs.SelectCalls.{Selection, Begins}
use Rattle.nio_steps.specs.Selections.{IsBegun}
use Rattle.nio_steps.specs.Steps.{number_in}
use Rattle.nio_steps.specs.declared.looked.LookedKey.{LookedKey}

-- ---- the indexes

keys-act : (s : SelNo) (act : Act) → question_of act ≡ Question.look_keys s
    → act ≡ LookKeys s (number_in (answer_of act))
keys-act s (LookKeys s' found) asks = cc asks
keys-act s _ asks = absurd (cc asks)

-- the bound is a keys' high-water mark that the caller found when it began
bound_inside : (l : Limits) (n : CallerNo) (events : List Event) (selection : Selection) → IsLegal l events
    → IsBegun (mine n events) selection → selection.bound ≤ l.keys
bound_inside l n events selection legal begun =
    let s = selection.selector in
    let first = begin-parts s selection.mode begun.known begun.beginning selection begun.begins in
    let before = begun.earlier ++ (first.gate ∷ first.take ∷ first.look ∷ []) in
    let later = first.over ++ begun.since in
    let act : first.keys ≡ LookKeys s selection.bound = keys-act s first.keys first.asks_keys
    ∙ ap (LookKeys s) (sym first.bound) in
    let acts : begun.beginning ≡ first.gate ∷ first.take ∷ first.look ∷ LookKeys s selection.bound
    ∷ first.over
    = first.parts ∙ ap (λ x. first.gate ∷ first.take ∷ first.look ∷ x ∷ first.over) act in
    let own : mine n events ≡ before ++ LookKeys s selection.bound ∷ later
    = begun.parts
    ∙ (ap (λ xs. begun.earlier ++ (xs ++ begun.since)) acts
    ∙ sym (append_assoc begun.earlier (first.gate ∷ first.take ∷ first.look ∷ [])
    (LookKeys s selection.bound ∷ later))) in
    let cut = cut_at n events before (LookKeys s selection.bound) later own in
    let e = event_of n (LookKeys s selection.bound) in
    let legal' = subst (IsLegal l) cut.parts legal in
    let told : selection.bound ≡ (state_after cut.past).keys_high s.0 = cc
    (legal_next l cut.past e cut.later legal').answers in
    subst (λ (k : ℕ). k ≤ l.keys) (sym told)
    ((legal-within l cut.past (legal_beginning l cut.past (e ∷ cut.later) legal')).keys_high s.0)

pub looked_below : (l : Limits) (n : CallerNo) (events : List Event) (selection : Selection) → IsLegal l events
    → IsBegun (mine n events) selection → selection.listed ≡ false → AreBelow l.keys selection.looked
looked_below l n events selection legal begun unlisted =
    below_longer selection.bound l.keys selection.looked (bound_inside l n events selection legal begun)
    (looks_in_order selection.selector selection.mode begun.beginning selection
    (unlisted-begins (mine n events) selection begun unlisted)).below

-- ---- the length

-- rising indexes from `low` on that are below `high`
few : (entries : List LookedKey) (low high : ℕ) → low ≤ high → AllPairs (λ x y. x.index < y.index) entries
    → All (λ x. low ≤ x.index) entries → All (λ x. x.index < high) entries → low + length entries ≤ high
few [] low high within rise above below = omega arith
few (entry ∷ entries) low high within rise above below =
    let here : low ≤ entry.index = All-head (λ x. low ≤ x.index) entry entries above in
    let under : entry.index < high = All-head (λ x. x.index < high) entry entries below in
    let later : suc entry.index + length entries ≤ high =
    few entries (suc entry.index) high (omega arith) (pairs-tail (λ x y. x.index < y.index) entry entries rise)
    (pairs-head (λ x y. x.index < y.index) entry entries rise)
    (All-tail (λ x. x.index < high) entry entries below) in
    omega arith

pub looked_fits : (me : CallerNo) (s : SelNo) (mode : Mode) (v0 v1 : PassView) (x : Selection)
    → CallClause me (Begins s mode None) v0 v1 (Ok x) → Selects v1 me x → length x.looked ≤ v1.limits.keys
looked_fits me s mode v0 v1 x call selects =
    let order = looks_in_order s mode (done_between me v0 v1) x call.shape in
    let count : 0 + length x.looked ≤ v1.limits.keys = few x.looked 0 v1.limits.keys (omega arith) order.rise
    (λ k d within. omega arith) selects.below in
    omega (arith, count)
