-- The jobs that were handed out and not yet used up, by channel and kind.
use Rattle.std.specs.Prelude.{◌≡◌, ℕ, ◌==◌, if◌then◌else◌, nat_lt, List, Option, Some, None, IfSome, is_some, bit_or}
use Rattle.std.specs.Prelude.{slice_index_or, slice_set}
use Rattle.nio_base.specs.declared.group.OpKind.{OpKind}
use Rattle.nio_base.specs.declared.group.OpKind.TheVariants.{Accept, Connect, Read, Write}
use Rattle.nio_base.specs.declared.numbers.ChanId.{ChanId}
use Rattle.nio_base.specs.declared.numbers.GChan.{GChan}
use Rattle.nio_group.specs.Completion.{JobFields}
use Rattle.nio_link.specs.Jobs.{of_net}
use Rattle.nio_jobs.specs.declared.jobs.OfChannel.{OfChannel}

-- ---- one channel

-- a channel for which there has been no job
abbrev pub no_jobs : ℕ → OfChannel
no_jobs serial = record { serial = serial; accept = None; connect = None; read = None; write = None; had = 0 }

-- what there is for the channel of this serial, where these are kept for its number
abbrev pub of_serial : OfChannel → ℕ → OfChannel
of_serial c serial = if c.serial == serial then c else no_jobs serial

-- the job of this kind
abbrev pub job_in : OfChannel → OpKind → Option JobFields
job_in c Accept = c.accept
job_in c Connect = c.connect
job_in c Read = c.read
job_in c Write = c.write

-- this one in its place
abbrev pub with_job_in : OfChannel → OpKind → Option JobFields → OfChannel
with_job_in c Accept job = record c { accept = job }
with_job_in c Connect job = record c { connect = job }
with_job_in c Read job = record c { read = job }
with_job_in c Write job = record c { write = job }

-- the operation of this kind, as a set
abbrev pub set_of : OpKind → ℕ
set_of Accept = 16
set_of Connect = 8
set_of Read = 1
set_of Write = 4

-- the operations for which there is a job
abbrev pub set_where : OpKind → Option JobFields → ℕ
set_where kind job = if is_some job then set_of kind else 0

abbrev pub present_in : OfChannel → ℕ
present_in c =
    bit_or (bit_or (bit_or (set_where Accept c.accept) (set_where Connect c.connect)) (set_where Read c.read))
    (set_where Write c.write)

-- this job is kept, and from now on there has been one of its kind
abbrev pub with_job : OfChannel → JobFields → OfChannel
with_job c job = record (with_job_in c job.kind (Some job)) { had = bit_or c.had (set_of job.kind) }

-- A job is kept with those of its channel. One of a later channel of the number takes the place of all that were there,
-- and one of an earlier channel isn't kept: that channel is closed.
abbrev pub keeping : OfChannel → JobFields → OfChannel
keeping c job = if nat_lt job.chan.serial c.serial then c else with_job (of_serial c job.chan.serial) job

-- the job of this kind is taken out, where these are of this serial
abbrev pub taking : OfChannel → ℕ → OpKind → OfChannel
taking c serial kind = if c.serial == serial then with_job_in c kind None else c

-- ---- all channels

-- what is kept for this number
abbrev pub jobs_at : List OfChannel → ℕ → OfChannel
jobs_at all number = slice_index_or all number (no_jobs 0)

-- what there is for this channel
abbrev pub jobs_of : List OfChannel → ChanId → OfChannel
jobs_of all chan = of_serial (jobs_at all chan.number.0) chan.serial

-- a job is kept, if there is room for those of its number
abbrev pub jobs_with : List OfChannel → JobFields → List OfChannel
jobs_with all job = slice_set all job.chan.number (keeping (jobs_at all job.chan.number) job)

-- the job of this kind for this channel is taken out
abbrev pub jobs_without : List OfChannel → ChanId → OpKind → List OfChannel
jobs_without all chan kind = slice_set all chan.number.0 (taking (jobs_at all chan.number.0) chan.serial kind)

-- the channel of a net of which the group's channel has the number and the serial
abbrev pub net_channel : GChan → ChanId
net_channel chan = record { number = record { 0 = chan.number }; serial = chan.serial }

-- a job is of this kind, and for this channel of the net
abbrev pub IsJobFor : ChanId → OpKind → JobFields → Type 0
IsJobFor chan kind job = (job.kind ≡ kind) × (job.chan ≡ of_net chan)

-- each job is kept at its kind and at its channel's number, with those of its serial
abbrev pub AreInPlace : List OfChannel → Type 0
AreInPlace all = (number : ℕ) (kind : OpKind) → IfSome (job_in (jobs_at all number) kind)
    (IsJobFor (record { number = record { 0 = number }; serial = (jobs_at all number).serial }) kind)
