-- What the workers came to, one after the other.
use Rattle.std.proofs.Common.{◌≡◌, ◌≢◌, ℕ, ◌+◌, ◌<◌, inl, inr, Result, Ok, Err, Some, option_map, IsOk, List, length}
use Rattle.std.proofs.Common.{slice_index_or, IfOk, ◌≤◌}
use Rattle.std.proofs.Common.{slice_get, refl, sym, ap, subst, ◌∙◌, arith, add-one}
use Rattle.std.proofs.lemmas.Bool.{cases_order}
use Rattle.std.proofs.lemmas.Option.{get_or_from_slice_get, same_Some, slice_get_within}
use Rattle.nio_relay.specs.declared.plan.Served.{Served}
use Rattle.nio_serve.specs.declared.serving.ServeError.{ServeError}
use Rattle.nio_reactor.proofs.Shares.{shares_few}
use Rattle.nio_reactor.specs.Dealing.{share}
use Rattle.nio_reactor.specs.Many.{sum_below}
use Rattle.nio_serve.specs.declared.serving.ServeError.TheVariants as serve
use Rattle.nio_reactor.specs.Working.{AddsSoFar, AddsAll, AddsUp, Concludes, CountFew, NoneHasEnded, faults_of}
use Rattle.nio_reactor.specs.declared.many.ManyError.{ManyError}
use Rattle.nio_reactor.specs.declared.many.ManyError.TheVariants as many

ok_is : (o : Result Served ServeError) (served : Served) → o ≡ Ok served → IsOk o
ok_is o served is = subst IsOk (sym is) refl

pub adds_one : {X : Type 0} (outcome : X → Result Served ServeError) (lanes : List X) (i faults sum : ℕ) (x : X)
    (served : Served) → AddsSoFar outcome lanes i faults → slice_get lanes i ≡ Some x → outcome x ≡ Ok served
    → sum ≡ faults + served.faults → AddsSoFar outcome lanes (i + 1) sum
adds_one {X} outcome lanes i faults sum x served so_far at is sum_is = record {
  sum =
      let last : faults_of (option_map outcome (slice_get lanes i)) ≡ served.faults
      = ap (λ o. faults_of (option_map outcome o)) at ∙ ap (λ (o : Result Served ServeError). faults_of (Some o)) is in
      let total : sum_below (λ v. faults_of (option_map outcome (slice_get lanes v))) i
      + faults_of (option_map outcome (slice_get lanes i)) ≡ sum
      = omega (arith, so_far.sum, last, sum_is) in
      sym (ap (sum_below (λ v. faults_of (option_map outcome (slice_get lanes v)))) (add-one i) ∙ total);
  all = λ v y few at_y. elim (cases_order v i) [
    | inl same ↦
        let here : x ≡ y = same_Some x y (sym at ∙ ap (slice_get lanes) (sym same) ∙ at_y) in
        subst (λ z. IsOk (outcome z)) here (ok_is (outcome x) served is)
    | inr (inl less) ↦ so_far.all v y less at_y
    | inr (inr more) ↦ absurd (omega (arith, more, few))
  ];
}

pub adds_end : {X : Type 0} (outcome : X → Result Served ServeError) (lanes : List X) (i : ℕ) (conns : ℕ)
    (served : Served) → AddsSoFar outcome lanes i served.faults → length lanes ≡ i → served.connections ≡ conns
    → AddsAll outcome conns lanes served
adds_end {X} outcome lanes i conns served so_far end is = record {
  connections = is;
  faults = so_far.sum ∙ ap (sum_below (λ v. faults_of (option_map outcome (slice_get lanes v)))) (sym end);
  all = λ v y at. so_far.all v y (subst (λ n. v < n) end (slice_get_within lanes v y at)) at;
}

-- the faults of the first workers, and of the next one, are no more than they have connections
abbrev pub AreFew : {X : Type 0} → ℕ → List X → ℕ → ℕ → Type 0
AreFew conns lanes i faults = faults ≤ sum_below (λ v. share (length lanes) v conns) i

pub few_more : {X : Type 0} (outcome : X → Result Served ServeError) (conns : ℕ) (lanes : List X) (i faults : ℕ) (x : X)
    (served : Served) → CountFew outcome conns lanes → slice_get lanes i ≡ Some x → outcome x ≡ Ok served
    → AreFew conns lanes i faults → AreFew conns lanes (i + 1) (faults + served.faults)
few_more outcome conns lanes i faults x served few at ok so_far =
    let its : served.faults ≤ share (length lanes) i conns
    = subst (λ (o : Result Served ServeError). IfOk o (λ s. s.faults ≤ share (length lanes) i conns)) ok (few i x at) in
    let next : sum_below (λ v. share (length lanes) v conns) (i + 1)
    ≡ sum_below (λ v. share (length lanes) v conns) i + share (length lanes) i conns
    = ap (sum_below (λ v. share (length lanes) v conns)) (add-one i) in
    omega (arith, its, next, so_far)

pub few_in_all : {X : Type 0} (conns : ℕ) (lanes : List X) (i faults : ℕ) → AreFew conns lanes i faults → faults ≤ conns
few_in_all conns lanes i faults few = omega (arith, few, shares_few (length lanes) conns i)

-- ---- why the others ended

-- none of the first n lanes has ended for this reason
abbrev pub NoneBelow : {X : Type 0} → ServeError → (X → Result Served ServeError) → List X → ℕ → Type 0
NoneBelow {X} reason outcome lanes n =
    (k : ℕ) (x : X) → k < n → outcome (slice_index_or lanes k x) ≢ Err reason

pub none_one : {X : Type 0} (reason : ServeError) (outcome : X → Result Served ServeError) (lanes : List X) (i : ℕ)
    (x : X) → NoneBelow reason outcome lanes i → slice_get lanes i ≡ Some x → outcome x ≢ Err reason
    → NoneBelow reason outcome lanes (i + 1)
none_one reason outcome lanes i x so_far at apart k y less =
    elim (cases_order k i) [
      | inl same ↦
          subst (λ z. outcome z ≢ Err reason)
          (sym (ap (λ j. slice_index_or lanes j y) same ∙ get_or_from_slice_get lanes i x y at)) apart
      | inr (inl before) ↦ so_far k y before
      | inr (inr after) ↦ absurd (omega (arith, after, less))
    ]

pub none_end : {X : Type 0} (reason : ServeError) (outcome : X → Result Served ServeError) (lanes : List X) (i : ℕ)
    → NoneBelow reason outcome lanes i → length lanes ≡ i → NoneHasEnded reason outcome lanes
none_end reason outcome lanes i so_far end k x less = so_far k x (subst (λ n. k < n) end less)

module _ {X : Type 0} (accepted : Result (Unit {0}) ManyError) (outcome : X → Result Served ServeError) (conns : ℕ)
    (lanes : List X) (none : NoneHasEnded serve.Memory outcome lanes) where
  pub concludes_error : (error : ManyError) → accepted ≡ Err error → Concludes accepted outcome conns lanes (Err error)
  concludes_error many.NetFault is = (none, inl is)
  concludes_error many.Memory is = inl is

  pub concludes_sum : (result : Result Served ManyError) → IsOk accepted → AddsUp outcome conns lanes result
      → Concludes accepted outcome conns lanes result
  concludes_sum (Ok served) ok adds = (ok, adds)
  concludes_sum (Err many.NetFault) ok ended = (none, inr (ok, ended))
  concludes_sum (Err many.Memory) ok never = absurd never
