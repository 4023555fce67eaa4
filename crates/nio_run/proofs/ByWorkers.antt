-- What the proxy does with a net for each worker.
use Rattle.std.proofs.Common.{◌≡◌, ℕ, ◌≤◌, ◌<◌, ◌++◌, All, List, Result, Ok, Err, take, drop, length, refl, sym, ap, subst, ◌∙◌}
use Rattle.std.proofs.Math.Seq.{take-append_seam}
use Rattle.std.proofs.lemmas.List.{length-take-le}
use Rattle.std.proofs.lemmas.List.Elements.{All-take}
use Rattle.nio_bytes.specs.declared.sink.Sink as sink
use Rattle.nio_link.specs.Nets.{Members, view_of}
use Rattle.nio_reactor.proofs.Concluding.{none_served}
use Rattle.nio_reactor.specs.Many.{ServesMany}
use Rattle.nio_reactor.specs.declared.many.ManyError.{ManyError}
use Rattle.nio_reactor.specs.declared.many.ManyError.TheVariants as many
use Rattle.nio_relay.specs.declared.plan.ProxyPlan.{ProxyPlan}
use Rattle.nio_relay.specs.declared.plan.Served.{Served}
use Rattle.nio_script.specs.declared.status.Status.{Status}
use Rattle.nio_script.specs.declared.status.Status.TheVariants.{Memory}
use Rattle.nio_serve.specs.Serving.{IsFresh}
use Rattle.nio_run.specs.Many.{DoesMany, many_answer_of}
use Rattle.nio_run.specs.Proxy.{SaysOutcome}

-- ---- nets of which nothing was asked

module _ {N : Type 0} (n : Members N) (plan : ProxyPlan) (more : List N)
    (fresh : All (λ x. IsFresh (view_of n x)) more) (workers : ℕ) (net : N) (net_fresh : IsFresh (view_of n net)) where
  -- nothing was done, for want of memory
  pub none_by_workers : ServesMany n plan net net (take workers more) (take workers more) (Err many.Memory)
  none_by_workers = none_served n plan net (take workers more) net_fresh
      (All-take (λ x. IsFresh (view_of n x)) workers more fresh)

  -- the same, where the list was lent and given back
  pub none_over : (more' : List N) → more' ≡ more
      → ServesMany n plan net net (take workers more) (take workers more') (Err many.Memory)
  none_over more' same =
      subst (λ (xs : List N). ServesMany n plan net net (take workers more) (take workers xs) (Err many.Memory))
      (sym same) none_by_workers

  pub unserved_many : {K : Type 0} (k : sink.Ghosts K) (output : K)
      → DoesMany k n plan workers net net more more output output Memory
  unserved_many k output = record {
    served = Err many.Memory;
    serves = none_by_workers;
    says = (refl, refl);
    count = refl;
    others = refl;
    few = λ is_few. (refl, refl, refl);
  }

-- ---- what was said

-- where memory lacked, the status says that
lacks : {K : Type 0} (k : sink.Ghosts K) (output output' : K) (status : Status) (served : Result Served ManyError)
    → served ≡ Err many.Memory → SaysOutcome k (many_answer_of served) output output' status → status ≡ Memory
lacks k output output' status (Ok served) is says = absurd (cc is)
lacks k output output' status (Err many.NetFault) is says = absurd (cc is)
lacks k output output' status (Err many.Memory) is says = says.0

pub does_many : {K N : Type 0} (k : sink.Ghosts K) (n : Members N) (plan : ProxyPlan) (workers : ℕ) (net net' : N)
    (more more' : List N) (output output' : K) (status : Status) (served : Result Served ManyError)
    → ServesMany n plan net net' (take workers more) (take workers more') served
    → SaysOutcome k (many_answer_of served) output output' status → length more' ≡ length more
    → drop workers more' ≡ drop workers more
    → (length more < workers → (served ≡ Err many.Memory) × (net' ≡ net) × (more' ≡ more))
    → DoesMany k n plan workers net net' more more' output output' status
does_many k n plan workers net net' more more' output output' status served serves says count others few = record {
  served = served;
  serves = serves;
  says = says;
  count = count;
  others = others;
  few = λ is_few.
      let its = few is_few in (lacks k output output' status served its.0 says, its.1, its.2);
}

-- ---- the first nets, lent and given back

module _ {N : Type 0} (n : ℕ) (more lent lent' rest more' : List N) (enough : n ≤ length more)
    (lent_is : lent ≡ take n more) (count : length lent' ≡ length lent) (more_is : more' ≡ lent' ++ rest) where
  lent_count : length lent' ≡ n
  lent_count = count ∙ (ap length lent_is ∙ length-take-le n more enough)

  pub first_back : take n more' ≡ lent'
  first_back = ap (take n) more_is
      ∙ (ap (λ i. take i (lent' ++ rest)) (sym lent_count) ∙ take-append_seam lent' rest)
