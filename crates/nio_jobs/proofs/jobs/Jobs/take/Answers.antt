use Rattle.std.proofs.Common.{◌≡◌, List, IfSome, Option, rules, slice_set, sym, subst}
use Rattle.nio_group.specs.Completion.{JobFields}
use Rattle.nio_jobs.specs.Jobs.{AreInPlace, IsJobFor, job_in, jobs_of, jobs_without}
use Rattle.nio_jobs.specs.declared.jobs.OfChannel.{OfChannel}
use Rattle.nio_jobs.proofs.JobLemmas.{its_channel, its_kind, job_for, taken_in_place}
use Rattle.nio_jobs.proofs.jobs.Jobs.take.Goals as goal

pub invariant_of-self-2 : goal.invariant_of-self-2
invariant_of-self-2 c =
    let all = c.self.inside.channels.items in
    let same : slice_set all c.args.chan.number.0 c.take_of.new.self ≡ jobs_without all c.args.chan c.args.kind =
    search rules in
    subst (λ (xs : List OfChannel). AreInPlace xs) (sym same)
    (taken_in_place all c.args.chan c.args.kind c.self.invariant)

pub returns-clause-kind : goal.returns-clause-kind
returns-clause-kind c =
    let was : c.take_of.result ≡ job_in (jobs_of c.self.inside.channels.items c.args.chan) c.args.kind = search rules in
    its_kind c.args.chan c.args.kind c.take_of.result
    (subst (λ (job : Option JobFields). IfSome job (IsJobFor c.args.chan c.args.kind)) (sym was)
    (job_for c.self.inside.channels.items c.args.chan c.args.kind c.self.invariant))

pub returns-clause-its : goal.returns-clause-its
returns-clause-its c =
    let was : c.take_of.result ≡ job_in (jobs_of c.self.inside.channels.items c.args.chan) c.args.kind = search rules in
    its_channel c.args.chan c.args.kind c.take_of.result
    (subst (λ (job : Option JobFields). IfSome job (IsJobFor c.args.chan c.args.kind)) (sym was)
    (job_for c.self.inside.channels.items c.args.chan c.args.kind c.self.invariant))
