-- What no call of a group changes: its limits, and how many operations it has accepted, but for `start`.
use Rattle.std.proofs.Common.{◌≡◌, ℕ, ◌+◌, zero, suc, Bool, true, false, List, [], ◌∷◌, Option, Some}
use Rattle.std.proofs.Common.{None, length, refl, sym, ◌∙◌, arith}
use Rattle.std.specs.Option.{option_map}
use Rattle.std.proofs.lemmas.Bool.{false≢true}
use Rattle.std.proofs.lemmas.List.{length-set, length-map, length_push}
use Rattle.nio_base.specs.declared.numbers.GChan.{GChan}
use Rattle.nio_base.specs.declared.group.GKind.{GKind}
use Rattle.nio_base.specs.declared.group.OpKind.{OpKind}
use Rattle.nio_base.specs.declared.group.OpKind.TheVariants.{Accept, Connect, Read, Write}
use Rattle.nio_base.specs.declared.group.Outcome.{Outcome}
use Rattle.nio_base.specs.declared.group.Outcome.TheVariants as outcome
use Rattle.nio_group.specs.declared.channel.Endpoint.{Endpoint}
use Rattle.nio_group.specs.declared.channel.Endpoint.TheVariants.{Listener, Stream}
use Rattle.nio_group.specs.declared.channel.Link.TheVariants.{Connected}
use Rattle.nio_group.specs.declared.operation.Operation.{Operation}
use Rattle.nio_group.specs.declared.operation.Stage.TheVariants.{Running}
use Rattle.nio_group.specs.Flight.{op_at, accepted, flight_after_take, with_channel_closed, closed_on, with_ended}
use Rattle.nio_group.specs.Group.{Group, channel_at, is_open, is_present, new_endpoint}
use Rattle.nio_group.specs.Making.{next_name, with_made}
use Rattle.nio_group.specs.Refusals.{bind_refusal, report_refusal}
use Rattle.nio_group.specs.Run.{Call, open_channel, bind, start, report, take, finish, close_channel, shutdown}
use Rattle.nio_group.specs.Run.{shutdown_now, after}
use Rattle.nio_group.specs.Stages.{is_running, at_stage}
use Rattle.nio_group.specs.Steps.{after_open, after_bind, started, channels_after_start, after_report, reported}
use Rattle.nio_group.specs.Steps.{channels_after_report, completed, result_of, accepted_name, after_closing, after_take, after_finish, finish_refusal}
use Rattle.nio_group.specs.Steps.{after_close, after_shutdown, closed_below, with_closed, with_endpoint}
use Rattle.nio_group.proofs.RunLemmas.{unless-refused, cond-holds}

abbrev pub is_start : Call → Bool
is_start (open_channel kind) = false
is_start (bind chan) = false
is_start (start chan kind len) = true
is_start (report op o) = false
is_start take = false
is_start (finish op) = false
is_start (close_channel chan) = false
is_start shutdown = false
is_start shutdown_now = false

-- the limits stay; `more` operations were accepted
pub record IsFramed (g h : Group) (more : ℕ) : Type 0 where
  pub limit : h.flight.limit ≡ g.flight.limit
  pub ops : h.op_limit ≡ g.op_limit
  pub accepts : accepted h.flight ≡ accepted g.flight + more

framed-same : (g : Group) → IsFramed g g 0
framed-same g = record { limit = refl; ops = refl; accepts = omega arith }

framed-trans : (a b c : Group) → IsFramed a b 0 → IsFramed b c 0 → IsFramed a c 0
framed-trans a b c first second =
    let accepts = first.accepts in
    let accepts' = second.accepts in
    record {
      limit = second.limit ∙ first.limit;
      ops = second.ops ∙ first.ops;
      accepts = omega (arith, accepts, accepts');
    }

framed-made : (g : Group) (name : Option GChan) (endpoint : Endpoint) → IsFramed g (with_made g name endpoint) 0
framed-made g None endpoint = framed-same g
framed-made g (Some chan) endpoint = record { limit = refl; ops = refl; accepts = omega arith }

framed-open : (g : Group) (kind : GKind) → IsFramed g (after_open g kind) 0
framed-open g kind =
    cond-holds (λ (h : Group). IsFramed g h 0) g.is_shut g (with_made g (next_name g kind) (new_endpoint kind))
    (λ shut. framed-same g)
    (λ going. framed-made g (next_name g kind) (new_endpoint kind))

framed-bind : (g : Group) (chan : GChan) → IsFramed g (after_bind g chan) 0
framed-bind g chan =
    unless-refused (λ (h : Group). IsFramed g h 0) (bind_refusal (is_open g chan) (channel_at g chan.number).endpoint) g
    (with_endpoint g chan.number (Listener true)) (framed-same g)
    (λ free. record { limit = refl; ops = refl; accepts = omega arith })

ops-start : (g : Group) (c : ℕ) (kind : OpKind) (opened : Bool)
    → (channels_after_start g c kind opened).op_limit ≡ g.op_limit
ops-start g c Accept opened = refl
ops-start g c Connect true = refl
ops-start g c Connect false = refl
ops-start g c Read opened = refl
ops-start g c Write opened = refl

ops-report : (g : Group) (c : ℕ) (kind : OpKind) (o : Outcome)
    → (channels_after_report g c kind o).op_limit ≡ g.op_limit
ops-report g c kind (outcome.Count k) = refl
ops-report g c kind outcome.End = refl
ops-report g c kind outcome.Connected = refl
ops-report g c kind outcome.Accepted = refl
ops-report g c Accept outcome.Fault = refl
ops-report g c Connect outcome.Fault = refl
ops-report g c Read outcome.Fault = refl
ops-report g c Write outcome.Fault = refl

pub framed-started : (g : Group) (chan : GChan) (kind : OpKind) (len : ℕ) → IsFramed g (started g chan kind len) 1
framed-started g chan kind len =
    record {
      limit = refl;
      ops = ops-start g chan.number kind (is_open g chan);
      accepts = length_push g.flight.operations _;
    }

framed-reported : (g : Group) (n : ℕ) (o : Outcome) (slot : Option Operation) → IsFramed g (reported g n o slot) 0
framed-reported g n o None = framed-same g
framed-reported g n o (Some op) =
    let left = completed g n o (result_of g o) op in
    framed-trans g left (reported g n o (Some op))
    (record {
      limit = refl;
      ops = ops-report g op.chan.number op.kind o;
      accepts = omega (arith, length-set {A = Option Operation});
    })
    (framed-made left (accepted_name g o) (Stream Connected))

framed-report : (g : Group) (n : ℕ) (o : Outcome) → IsFramed g (after_report g n o) 0
framed-report g n o =
    unless-refused (λ (h : Group). IsFramed g h 0) (report_refusal (op_at g.flight n) o) g
    (reported g n o (op_at g.flight n)) (framed-same g) (λ free. framed-reported g n o (op_at g.flight n))

framed-take : (g : Group) → IsFramed g (after_take g) 0
framed-take g = by_queue g.flight.queue
  where
    by_queue : (queue : List ℕ) → IsFramed g (record g { flight = flight_after_take g.flight queue }) 0
    by_queue [] = framed-same g
    by_queue (n ∷ rest) =
        record {
          limit = refl;
          ops = refl;
          accepts = omega (arith, length-set g.flight.operations n (option_map (at_stage Running) (op_at g.flight n)));
        }

framed-finish : (g : Group) (n : ℕ) → IsFramed g (after_finish g n) 0
framed-finish g n =
    unless-refused (λ (h : Group). IsFramed g h 0) (finish_refusal (is_running (op_at g.flight n))) g
    (record g { flight = with_ended g.flight n }) (framed-same g)
    (λ free. record {
      limit = refl;
      ops = refl;
      accepts = omega (arith, length-set {A = Option Operation} g.flight.operations n None);
    })

framed-closing : (g : Group) (c : ℕ) → IsFramed g (after_closing g c) 0
framed-closing g c =
    cond-holds (λ (h : Group). IsFramed g h 0) (channel_at g c).is_open
    (record (with_closed g c) { flight = with_channel_closed g.flight c }) g
    (λ t. record {
      limit = refl;
      ops = refl;
      accepts = omega (arith, length-map g.flight.operations (closed_on c));
    })
    (λ f. framed-same g)

framed-close : (g : Group) (chan : GChan) → IsFramed g (after_close g chan) 0
framed-close g chan =
    cond-holds (λ (h : Group). IsFramed g h 0) (is_present g chan) (after_closing g chan.number) g
    (λ t. framed-closing g chan.number)
    (λ f. framed-same g)

framed-shutdown : (g : Group) → IsFramed g (after_shutdown g) 0
framed-shutdown g = record { limit = refl; ops = refl; accepts = omega arith }

framed-closed_below : (c : ℕ) (g : Group) → IsFramed g (closed_below c g) 0
framed-closed_below zero g = framed-same g
framed-closed_below (suc c) g =
    framed-trans g (closed_below c g) (after_closing (closed_below c g) c) (framed-closed_below c g)
    (framed-closing (closed_below c g) c)

pub framed-after : (g : Group) (call : Call) → is_start call ≡ false → IsFramed g (after g call) 0
framed-after g (open_channel kind) other = framed-open g kind
framed-after g (bind chan) other = framed-bind g chan
framed-after g (start chan kind len) other = absurd (false≢true (sym other))
framed-after g (report op o) other = framed-report g op.0 o
framed-after g take other = framed-take g
framed-after g (finish op) other = framed-finish g op.0
framed-after g (close_channel chan) other = framed-close g chan
framed-after g shutdown other = framed-shutdown g
framed-after g shutdown_now other =
    framed-trans g (after_shutdown g) (closed_below (length g.channels) (after_shutdown g)) (framed-shutdown g)
    (framed-closed_below (length g.channels) (after_shutdown g))
