-- What the proxy does with the net that accepts, by what its way came to and what was said of it.
use Rattle.std.proofs.Common.{◌≡◌, inl, inr, Result, Ok, Err, refl, sym, subst, ◌∙◌}
use Rattle.nio_bytes.specs.Cause.{Rose}
use Rattle.nio_bytes.specs.declared.sink.Sink as sink
use Rattle.nio_link.specs.Nets.{Members, NetView, view_of}
use Rattle.nio_relay.specs.declared.plan.ProxyPlan.{ProxyPlan}
use Rattle.nio_relay.specs.declared.plan.Served.{Served}
use Rattle.nio_script.specs.declared.status.Status.{Status}
use Rattle.nio_script.specs.declared.status.Status.TheVariants.{WriteFault, Memory, NetFault}
use Rattle.nio_serve.proofs.Promise.{nothing_served}
use Rattle.nio_serve.specs.Serving.{IsFresh, Serves}
use Rattle.nio_serve.specs.declared.serving.ServeError.{ServeError}
use Rattle.nio_serve.specs.declared.serving.ServeError.TheVariants as error
use Rattle.nio_run.specs.Proxy.{DoesProxy, SaysOutcome, served_line}
use Rattle.nio_run.specs.Relays.{EndsRelay, SaysLine}

module _ {K : Type 0} (k : sink.Ghosts K) (output output' : K) (status : Status) where
  line_ends : (served : Served) → SaysLine k (served_line served) output output' status → EndsRelay status
  line_ends served says = elim says.ends [
    | inl done ↦ subst EndsRelay (sym done) tt
    | inr (inl write) ↦ subst EndsRelay (sym write) tt
    | inr (inr memory) ↦ subst EndsRelay (sym memory) tt
  ]

  -- how the proxy ends, whatever it came to
  pub outcome_ends : (served : Result Served ServeError) → SaysOutcome k served output output' status
      → EndsRelay status
  outcome_ends (Ok served) says = line_ends served says
  outcome_ends (Err error.NetFault) says = subst EndsRelay (sym says.0) tt
  outcome_ends (Err error.Memory) says = subst EndsRelay (sym says.0) tt

  pub outcome_rose : (served : Result Served ServeError) → SaysOutcome k served output output' status
      → status ≡ WriteFault → Rose (k.faults output) (k.faults output')
  outcome_rose (Ok served) says is = (says.write_fault is).1
  outcome_rose (Err error.NetFault) says is =
      let bad : NetFault ≡ WriteFault = sym says.0 ∙ is in absurd (cc bad)
  outcome_rose (Err error.Memory) says is = let bad : Memory ≡ WriteFault = sym says.0 ∙ is in absurd (cc bad)

  -- over other names for the net before and after
  pub does_over : (plan : ProxyPlan) {N : Type 0} (n : Members N) (net first last net' : N) → first ≡ net
      → net' ≡ last → (served : Result Served ServeError) → Serves plan (view_of n first) (view_of n last) served
      → SaysOutcome k served output output' status
      → DoesProxy k plan (view_of n net) (view_of n net') output output' status
  does_over plan {N} n net first last net' first_is last_is served serves says = record {
    served = served;
    serves = subst (λ (x : N). Serves plan (view_of n x) (view_of n net') served) first_is
        (subst (λ (y : N). Serves plan (view_of n first) (view_of n y) served) (sym last_is) serves);
    says = says;
  }

-- where it doesn't begin, for want of memory
pub unserved : {K : Type 0} (k : sink.Ghosts K) (plan : ProxyPlan) (v : NetView) (output : K) → IsFresh v
    → DoesProxy k plan v v output output Memory
unserved k plan v output fresh = record {
  served = Err error.Memory;
  serves = nothing_served plan v v error.Memory fresh refl (λ never. absurd (cc never));
  says = (refl, refl);
}
