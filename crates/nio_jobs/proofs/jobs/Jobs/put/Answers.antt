use Rattle.std.proofs.Common.{◌≡◌, List, rules, slice_set, sym, subst}
use Rattle.nio_jobs.specs.Jobs.{AreInPlace, jobs_with}
use Rattle.nio_jobs.specs.declared.jobs.OfChannel.{OfChannel}
use Rattle.nio_jobs.proofs.JobLemmas.{put_in_place}
use Rattle.nio_jobs.proofs.jobs.Jobs.put.Goals as goal

pub invariant_of-self-2 : goal.invariant_of-self-2
invariant_of-self-2 c =
    let all = c.self.inside.channels.items in
    let same : slice_set all c.chan.result.number c.keep.new.self ≡ jobs_with all c.args.job = search rules in
    subst (λ (xs : List OfChannel). AreInPlace xs) (sym same) (put_in_place all c.args.job c.self.invariant)
