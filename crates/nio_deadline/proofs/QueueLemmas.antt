-- What each call of a group but `take` makes of its queue and its limits.
use Rattle.std.proofs.Common.{◌≡◌, ℕ, zero, suc, Bool, true, false, cond, List, [], ◌∷◌, ◌++◌, Option, Some, None, refl}
use Rattle.std.proofs.Common.{sym, ap, ◌∙◌, length, append_assoc}
use Rattle.std.proofs.lemmas.List.{append-nil}
use Rattle.nio_base.specs.declared.numbers.GChan.{GChan}
use Rattle.nio_base.specs.declared.group.GKind.{GKind}
use Rattle.nio_base.specs.declared.group.OpKind.{OpKind}
use Rattle.nio_base.specs.declared.group.OpKind.TheVariants.{Accept, Connect, Read, Write}
use Rattle.nio_base.specs.declared.group.Outcome.{Outcome}
use Rattle.nio_base.specs.declared.group.Outcome.TheVariants as outcome
use Rattle.nio_group.specs.declared.channel.Endpoint.{Endpoint}
use Rattle.nio_group.specs.declared.channel.Endpoint.TheVariants.{Listener, Stream}
use Rattle.nio_group.specs.declared.channel.Link.TheVariants.{Connected}
use Rattle.nio_group.specs.declared.operation.Operation.{Operation}
use Rattle.nio_group.specs.Stages.{stage_is_queued, is_running}
use Rattle.nio_group.specs.Flight.{Flight, op_at, accepted, with_ended, with_channel_closed, pending_from}
use Rattle.nio_group.specs.Group.{Group, channel_at, is_open, is_present, new_endpoint}
use Rattle.nio_group.specs.Making.{next_name, with_made}
use Rattle.nio_group.specs.Refusals.{bind_refusal, start_refusal, report_refusal}
use Rattle.nio_group.specs.Steps.{after_open, after_bind, after_start, after_report, after_finish, after_close}
use Rattle.nio_group.specs.Steps.{after_shutdown, after_shutdown_now, closed_below, with_endpoint, with_closed, started}
use Rattle.nio_group.specs.Steps.{channels_after_start, channels_after_report, first_stage, reported, finish_refusal}
use Rattle.nio_group.specs.Steps.{completed, result_of, accepted_name, after_closing}
use Rattle.nio_group.proofs.MakingLemmas.{made-limit}
use Rattle.nio_group.proofs.StageLemmas.{made-flight}
use Rattle.nio_group.proofs.RunLemmas.{unless-refused, cond-holds}

pub record Keeps (g g' : Group) : Type 0 where
  pub channels : g'.channel_limit ≡ g.channel_limit
  pub flight : g'.flight.limit ≡ g.flight.limit
  pub more : List ℕ
  pub queue : g'.flight.queue ≡ g.flight.queue ++ more

pub keeps-same : (g : Group) → Keeps g g
keeps-same g = record { channels = refl; flight = refl; more = []; queue = sym (append-nil g.flight.queue) }

keeps-flight : (g g' : Group) → g'.channel_limit ≡ g.channel_limit → g'.flight ≡ g.flight → Keeps g g'
keeps-flight g g' channels flight =
    record {
      channels = channels;
      flight = ap (λ (f : Flight). f.limit) flight;
      more = [];
      queue = ap (λ (f : Flight). f.queue) flight ∙ sym (append-nil g.flight.queue);
    }

keeps-trans : (a b c : Group) → Keeps a b → Keeps b c → Keeps a c
keeps-trans a b c first second =
    record {
      channels = second.channels ∙ first.channels;
      flight = second.flight ∙ first.flight;
      more = first.more ++ second.more;
      queue = second.queue ∙ ap (λ (ns : List ℕ). ns ++ second.more) first.queue
          ∙ append_assoc a.flight.queue first.more second.more;
    }

keeps-made : (g : Group) (name : Option GChan) (endpoint : Endpoint) → Keeps g (with_made g name endpoint)
keeps-made g name endpoint =
    keeps-flight g (with_made g name endpoint) (made-limit g name endpoint) (made-flight g name endpoint)

pub keeps-open : (g : Group) (kind : GKind) → Keeps g (after_open g kind)
keeps-open g kind =
    cond-holds (Keeps g) g.is_shut g (with_made g (next_name g kind) (new_endpoint kind)) (λ shut. keeps-same g)
    (λ going. keeps-made g (next_name g kind) (new_endpoint kind))

pub keeps-bind : (g : Group) (chan : GChan) → Keeps g (after_bind g chan)
keeps-bind g chan =
    unless-refused (Keeps g) (bind_refusal (is_open g chan) (channel_at g chan.number).endpoint) g
    (with_endpoint g chan.number (Listener true)) (keeps-same g) (λ free. keeps-flight g _ refl refl)

channels-start : (g : Group) (c : ℕ) (kind : OpKind) (opened : Bool)
    → (channels_after_start g c kind opened).channel_limit ≡ g.channel_limit
channels-start g c Accept opened = refl
channels-start g c Connect true = refl
channels-start g c Connect false = refl
channels-start g c Read opened = refl
channels-start g c Write opened = refl

grown : (b : Bool) (ns : List ℕ) (n : ℕ) → cond b (ns ++ n ∷ []) ns ≡ ns ++ cond b (n ∷ []) []
grown true ns n = refl
grown false ns n = sym (append-nil ns)

pub keeps-start : (g : Group) (chan : GChan) (kind : OpKind) (len : ℕ) → Keeps g (after_start g chan kind len)
keeps-start g chan kind len =
    unless-refused (Keeps g) (start_refusal g chan kind) g (started g chan kind len) (keeps-same g)
    (λ free.
    record {
      channels = channels-start g chan.number kind (is_open g chan);
      flight = refl;
      more = cond (stage_is_queued (first_stage (is_open g chan) kind len)) (accepted g.flight ∷ []) [];
      queue = grown (stage_is_queued (first_stage (is_open g chan) kind len)) g.flight.queue
          (accepted g.flight);
    })

channels-report : (g : Group) (c : ℕ) (kind : OpKind) (o : Outcome)
    → (channels_after_report g c kind o).channel_limit ≡ g.channel_limit
channels-report g c kind (outcome.Count k) = refl
channels-report g c kind outcome.End = refl
channels-report g c kind outcome.Connected = refl
channels-report g c kind outcome.Accepted = refl
channels-report g c Accept outcome.Fault = refl
channels-report g c Connect outcome.Fault = refl
channels-report g c Read outcome.Fault = refl
channels-report g c Write outcome.Fault = refl

keeps-reported : (g : Group) (n : ℕ) (o : Outcome) (slot : Option Operation) → Keeps g (reported g n o slot)
keeps-reported g n o None = keeps-same g
keeps-reported g n o (Some op) =
    let left = completed g n o (result_of g o) op in
    keeps-trans g left (with_made left (accepted_name g o) (Stream Connected))
    (record { channels = channels-report g op.chan.number op.kind o; flight = refl; more = n ∷ []; queue = refl })
    (keeps-made left (accepted_name g o) (Stream Connected))

pub keeps-report : (g : Group) (n : ℕ) (o : Outcome) → Keeps g (after_report g n o)
keeps-report g n o =
    unless-refused (Keeps g) (report_refusal (op_at g.flight n) o) g (reported g n o (op_at g.flight n))
    (keeps-same g)
    (λ free. keeps-reported g n o (op_at g.flight n))

pub keeps-finish : (g : Group) (n : ℕ) → Keeps g (after_finish g n)
keeps-finish g n =
    unless-refused (Keeps g) (finish_refusal (is_running (op_at g.flight n))) g
    (record g { flight = with_ended g.flight n }) (keeps-same g)
    (λ free. record { channels = refl; flight = refl; more = []; queue = sym (append-nil g.flight.queue) })

keeps-closing : (g : Group) (c : ℕ) → Keeps g (after_closing g c)
keeps-closing g c =
    cond-holds (Keeps g) (channel_at g c).is_open
    (record (with_closed g c) { flight = with_channel_closed g.flight c }) g
    (λ t. record { channels = refl; flight = refl; more = pending_from c 0 g.flight.operations; queue = refl })
    (λ f. keeps-same g)

pub keeps-close : (g : Group) (chan : GChan) → Keeps g (after_close g chan)
keeps-close g chan =
    cond-holds (Keeps g) (is_present g chan) (after_closing g chan.number) g
    (λ t. keeps-closing g chan.number)
    (λ f. keeps-same g)

pub keeps-shutdown : (g : Group) → Keeps g (after_shutdown g)
keeps-shutdown g = keeps-flight g (after_shutdown g) refl refl

keeps-closed_below : (c : ℕ) (g : Group) → Keeps g (closed_below c g)
keeps-closed_below zero g = keeps-same g
keeps-closed_below (suc c) g =
    keeps-trans g (closed_below c g) (after_closing (closed_below c g) c) (keeps-closed_below c g)
    (keeps-closing (closed_below c g) c)

pub keeps-shutdown_now : (g : Group) → Keeps g (after_shutdown_now g)
keeps-shutdown_now g =
    keeps-trans g (after_shutdown g) (after_shutdown_now g) (keeps-shutdown g)
    (keeps-closed_below (length g.channels) (after_shutdown g))
