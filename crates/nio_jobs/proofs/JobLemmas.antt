-- Jobs stay in their places.
use Rattle.std.proofs.Common.{◌≡◌, ◌⊎◌, inl, inr, ℕ, zero, suc, ◌==◌, Bool, true, false, if◌then◌else◌, List, [], ◌∷◌}
use Rattle.std.proofs.Common.{Option, Some, None, IfSome, set, bit_or, replicate, refl, sym, ap, ◌∙◌, subst, eqb-true}
use Rattle.std.specs.Prelude.{nat_lt}
use Rattle.nio_base.specs.declared.group.OpKind.{OpKind}
use Rattle.nio_base.specs.declared.group.OpKind.TheVariants.{Accept, Connect, Read, Write}
use Rattle.nio_base.specs.declared.numbers.ChanId.{ChanId}
use Rattle.nio_group.specs.Completion.{JobFields}
use Rattle.nio_jobs.specs.Jobs.{AreInPlace, IsJobFor, job_in, jobs_at, jobs_of, jobs_with, jobs_without, keeping}
use Rattle.nio_jobs.specs.Jobs.{no_jobs, of_serial, set_of, taking, with_job, with_job_in}
use Rattle.nio_link.specs.Jobs.{of_net}
use Rattle.nio_jobs.specs.declared.jobs.OfChannel.{OfChannel}

abbrev named : ℕ → ℕ → ChanId
named number serial = record { number = record { 0 = number }; serial = serial }

-- the jobs of a kind that are kept are for this channel
abbrev IsFor : OfChannel → OpKind → ChanId → Type 0
IsFor c kind chan = IfSome (job_in c kind) (IsJobFor chan kind)

-- each job that is kept for this number is for the channel of its serial
abbrev AreFor : OfChannel → ℕ → Type 0
AreFor c number = (kind : OpKind) → IsFor c kind (named number c.serial)

none-at : (count number : ℕ) → jobs_at (replicate count (no_jobs 0)) number ≡ no_jobs 0
none-at zero number = refl
none-at (suc count) zero = refl
none-at (suc count) (suc number) = none-at count number

no-job : (serial : ℕ) (chan : ChanId) (kind : OpKind) → IsFor (no_jobs serial) kind chan
no-job serial chan Accept = tt
no-job serial chan Connect = tt
no-job serial chan Read = tt
no-job serial chan Write = tt

-- where there is none, each is in its place
pub none_in_place : (all : List OfChannel) (count : ℕ) → all ≡ replicate count (no_jobs 0) → AreInPlace all
none_in_place all count is number kind =
    let at : jobs_at all number ≡ no_jobs 0
    = ap (λ (xs : List OfChannel). jobs_at xs number) is ∙ none-at count number in
    subst (λ (c : OfChannel). IsFor c kind (named number c.serial)) (sym at) (no-job 0 (named number 0) kind)

-- at each number is what was there, or what was set there
at-set : (all : List OfChannel) (i number : ℕ) (c : OfChannel)
    → (jobs_at (set all i c) number ≡ jobs_at all number) ⊎ ((number ≡ i) × (jobs_at (set all i c) number ≡ c))
at-set [] i number c = inl refl
at-set (x ∷ all) zero zero c = inr (refl, refl)
at-set (x ∷ all) zero (suc number) c = inl refl
at-set (x ∷ all) (suc i) zero c = inl refl
at-set (x ∷ all) (suc i) (suc number) c =
    elim (at-set all i number c) [ inl same ↦ inl same | inr (is, there) ↦ inr (ap suc is, there) ]

set-in_place : (all : List OfChannel) (i : ℕ) (c : OfChannel) → AreInPlace all → AreFor c i → AreInPlace (set all i c)
set-in_place all i c before now number kind = by_place (at-set all i number c)
  where
    by_place : (jobs_at (set all i c) number ≡ jobs_at all number) ⊎ ((number ≡ i) × (jobs_at (set all i c) number ≡ c))
        → IsFor (jobs_at (set all i c) number) kind (named number (jobs_at (set all i c) number).serial)
    by_place (inl same) =
        subst (λ (x : OfChannel). IsFor x kind (named number x.serial)) (sym same) (before number kind)
    by_place (inr (is, there)) =
        subst (λ (x : OfChannel). IsFor x kind (named number x.serial)) (sym there)
        (subst (λ (n : ℕ). IsFor c kind (named n c.serial)) (sym is) (now kind))

-- ---- one channel

-- of this kind is what was put there, and of each other kind what was there
in-with : (c : OfChannel) (at kind : OpKind) (job : Option JobFields)
    → ((at ≡ kind) × (job_in (with_job_in c at job) kind ≡ job)) ⊎ (job_in (with_job_in c at job) kind ≡ job_in c kind)
in-with c Accept Accept job = inl (refl, refl)
in-with c Accept Connect job = inr refl
in-with c Accept Read job = inr refl
in-with c Accept Write job = inr refl
in-with c Connect Accept job = inr refl
in-with c Connect Connect job = inl (refl, refl)
in-with c Connect Read job = inr refl
in-with c Connect Write job = inr refl
in-with c Read Accept job = inr refl
in-with c Read Connect job = inr refl
in-with c Read Read job = inl (refl, refl)
in-with c Read Write job = inr refl
in-with c Write Accept job = inr refl
in-with c Write Connect job = inr refl
in-with c Write Read job = inr refl
in-with c Write Write job = inl (refl, refl)

with-serial : (c : OfChannel) (at : OpKind) (job : Option JobFields) → (with_job_in c at job).serial ≡ c.serial
with-serial c Accept job = refl
with-serial c Connect job = refl
with-serial c Read job = refl
with-serial c Write job = refl

with-had : (c : OfChannel) (had : ℕ) (kind : OpKind) → job_in (record c { had = had }) kind ≡ job_in c kind
with-had c had Accept = refl
with-had c had Connect = refl
with-had c had Read = refl
with-had c had Write = refl

with-fits : (c : OfChannel) (at kind : OpKind) (job : Option JobFields) (chan : ChanId) → IsFor c kind chan
    → (at ≡ kind → IfSome job (IsJobFor chan kind)) → IsFor (with_job_in c at job) kind chan
with-fits c at kind job chan before fits = by_kind (in-with c at kind job)
  where
    by_kind : ((at ≡ kind) × (job_in (with_job_in c at job) kind ≡ job))
        ⊎ (job_in (with_job_in c at job) kind ≡ job_in c kind)
        → IsFor (with_job_in c at job) kind chan
    by_kind (inl (is, there)) =
        subst (λ (j : Option JobFields). IfSome j (IsJobFor chan kind)) (sym there) (fits is)
    by_kind (inr same) = subst (λ (j : Option JobFields). IfSome j (IsJobFor chan kind)) (sym same) before

-- what there is for one of the channels of a number
its-serial : (c : OfChannel) (serial : ℕ) → (of_serial c serial).serial ≡ serial
its-serial c serial = by_test (c.serial == serial) refl
  where
    by_test : (b : Bool) → (c.serial == serial) ≡ b → (if b then c else no_jobs serial).serial ≡ serial
    by_test true same = eqb-true c.serial serial same
    by_test false other = refl

serial-for : (c : OfChannel) (serial number : ℕ) (kind : OpKind) → AreFor c number
    → IsFor (of_serial c serial) kind (named number serial)
serial-for c serial number kind before = by_test (c.serial == serial) refl
  where
    by_test : (b : Bool) → (c.serial == serial) ≡ b
        → IsFor (if b then c else no_jobs serial) kind (named number serial)
    by_test true same =
        subst (λ (s : ℕ). IsFor c kind (named number s)) (eqb-true c.serial serial same) (before kind)
    by_test false other = no-job serial (named number serial) kind

-- what is kept once there is a job of this channel or of a later one
abbrev once : OfChannel → JobFields → OfChannel
once c job = with_job (of_serial c job.chan.serial) job

once-serial : (c : OfChannel) (job : JobFields) → (once c job).serial ≡ job.chan.serial
once-serial c job =
    with-serial (of_serial c job.chan.serial) job.kind (Some job) ∙ its-serial c job.chan.serial

once-for : (c : OfChannel) (job : JobFields) (kind : OpKind) → AreFor c job.chan.number
    → IsFor (once c job) kind (named job.chan.number job.chan.serial)
once-for c job kind before =
    let there = of_serial c job.chan.serial in
    subst (λ (j : Option JobFields). IfSome j (IsJobFor (named job.chan.number job.chan.serial) kind))
    (sym (with-had (with_job_in there job.kind (Some job)) (bit_or there.had (set_of job.kind)) kind))
    (with-fits there job.kind kind (Some job) (named job.chan.number job.chan.serial)
    (serial-for c job.chan.serial job.chan.number kind before) (λ is. (is, refl)))

kept-for : (c : OfChannel) (job : JobFields) → AreFor c job.chan.number → AreFor (keeping c job) job.chan.number
kept-for c job before = by_order (nat_lt job.chan.serial c.serial)
  where
    by_order : (b : Bool) → AreFor (if b then c else once c job) job.chan.number
    by_order true kind = before kind
    by_order false kind =
        subst (λ (s : ℕ). IsFor (once c job) kind (named job.chan.number s)) (sym (once-serial c job))
        (once-for c job kind before)

taken-for : (c : OfChannel) (serial number : ℕ) (at : OpKind) → AreFor c number → AreFor (taking c serial at) number
taken-for c serial number at before = by_test (c.serial == serial)
  where
    by_test : (b : Bool) → AreFor (if b then with_job_in c at None else c) number
    by_test true kind =
        subst (λ (s : ℕ). IsFor (with_job_in c at None) kind (named number s)) (sym (with-serial c at None))
        (with-fits c at kind None (named number c.serial) (before kind) (λ is. tt))
    by_test false kind = before kind

-- ---- all channels

pub put_in_place : (all : List OfChannel) (job : JobFields) → AreInPlace all → AreInPlace (jobs_with all job)
put_in_place all job before =
    set-in_place all job.chan.number (keeping (jobs_at all job.chan.number) job) before
    (kept-for (jobs_at all job.chan.number) job (before job.chan.number))

pub taken_in_place : (all : List OfChannel) (chan : ChanId) (kind : OpKind) → AreInPlace all
    → AreInPlace (jobs_without all chan kind)
taken_in_place all chan kind before =
    set-in_place all chan.number.0 (taking (jobs_at all chan.number.0) chan.serial kind) before
    (taken-for (jobs_at all chan.number.0) chan.serial chan.number.0 kind (before chan.number.0))

-- the job that is there for a channel
pub job_for : (all : List OfChannel) (chan : ChanId) (kind : OpKind) → AreInPlace all
    → IfSome (job_in (jobs_of all chan) kind) (IsJobFor chan kind)
job_for all chan kind before =
    serial-for (jobs_at all chan.number.0) chan.serial chan.number.0 kind (before chan.number.0)

pub its_kind : (chan : ChanId) (kind : OpKind) (job : Option JobFields) → IfSome job (IsJobFor chan kind)
    → IfSome job (λ j. j.kind ≡ kind)
its_kind chan kind None is = tt
its_kind chan kind (Some job) is = is.0

pub its_channel : (chan : ChanId) (kind : OpKind) (job : Option JobFields) → IfSome job (IsJobFor chan kind)
    → IfSome job (λ j. j.chan ≡ of_net chan)
its_channel chan kind None is = tt
its_channel chan kind (Some job) is = is.1
