-- What `proxy --way many` does.
use Rattle.std.specs.Prelude.{◌≡◌, ℕ, ◌<◌, List, Result, Ok, Err, take, drop, length}
use Rattle.nio_bytes.specs.declared.sink.Sink as sink
use Rattle.nio_link.specs.Nets.{Members}
use Rattle.nio_reactor.specs.Many.{ServesMany}
use Rattle.nio_reactor.specs.declared.many.ManyError.{ManyError}
use Rattle.nio_reactor.specs.declared.many.ManyError.TheVariants as many
use Rattle.nio_relay.specs.declared.plan.ProxyPlan.{ProxyPlan}
use Rattle.nio_relay.specs.declared.plan.Served.{Served}
use Rattle.nio_script.specs.declared.status.Status.{Status}
use Rattle.nio_script.specs.declared.status.Status.TheVariants.{Memory}
use Rattle.nio_serve.specs.declared.serving.ServeError.{ServeError}
use Rattle.nio_serve.specs.declared.serving.ServeError.TheVariants as serve
use Rattle.nio_run.specs.Proxy.{SaysOutcome}

-- the answer of the proxy by workers: the same, with the loop's error of the same name
abbrev pub many_answer_of : Result Served ManyError → Result Served ServeError
many_answer_of (Ok served) = Ok served
many_answer_of (Err many.NetFault) = Err serve.NetFault
many_answer_of (Err many.Memory) = Err serve.Memory

-- What `proxy --way many` does with so many workers: it uses the first of the nets `more`, one for each worker, serves
-- the plan with the net that accepts and these, and says what that came to. Where there are fewer nets, that counts as
-- want of memory. The nets are given as they are before it, and after it (with a prime).
pub record DoesMany {K N : Type 0} (k : sink.Ghosts K) (n : Members N) (plan : ProxyPlan) (workers : ℕ) (net net' : N)
    (more more' : List N) (output output' : K) (status : Status) : Type 0 where
  pub served : Result Served ManyError
  pub serves : ServesMany n plan net net' (take workers more) (take workers more') served
  pub says : SaysOutcome k (many_answer_of served) output output' status
  pub count : length more' ≡ length more
  pub others : drop workers more' ≡ drop workers more
  pub few : length more < workers → (status ≡ Memory) × (net' ≡ net) × (more' ≡ more)
