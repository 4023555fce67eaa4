-- `start`: what refuses it, and what it leaves.
use Rattle.std.proofs.Common.{◌≡◌, ℕ, ◌<◌, ◌≤◌, ◌^◌, zero, suc, Bool, true, false, cond, eqb, List, [], ◌∷◌, ◌++◌}
use Rattle.std.proofs.Common.{Option, Some, None, is_some, count_by, length, get_or, refl, sym, ap, ◌∙◌, subst, arith}
use Rattle.std.proofs.Common.{Ok, Err}
use Rattle.std.specs.Option.{option_or}
use Rattle.std.proofs.lemmas.Bool.{false≢true, eqb-true, eqb-false}
use Rattle.std.proofs.lemmas.List.{length_push}
use Rattle.nio_base.specs.declared.numbers.GChan.{GChan}
use Rattle.nio_base.specs.declared.numbers.OpNo.{OpNo}
use Rattle.nio_base.specs.declared.group.OpKind.{OpKind}
use Rattle.nio_base.specs.declared.group.OpKind.TheVariants.{Accept, Connect, Read, Write}
use Rattle.nio_group.specs.declared.channel.Endpoint.{Endpoint}
use Rattle.nio_group.specs.declared.channel.Endpoint.TheVariants.{Stream, Listener}
use Rattle.nio_group.specs.declared.channel.Link.{Link}
use Rattle.nio_group.specs.declared.channel.Link.TheVariants.{Unconnected, Connecting, Connected}
use Rattle.nio_group.specs.declared.operation.Operation.{Operation}
use Rattle.nio_group.specs.declared.operation.Stage.TheVariants.{Pending}
use Rattle.nio_group.specs.declared.refusal.StartError.{StartError}
use Rattle.nio_group.specs.declared.refusal.StartError.TheVariants as refused
use Rattle.nio_group.specs.Flight.{op_at, accepted, in_flight}
use Rattle.nio_group.specs.Group.{Group, IsLawful, IsMade, StaysMade, channel_at, is_terminated, is_open as open_by}
use Rattle.nio_group.specs.Operations.{Accepted}
use Rattle.nio_group.specs.Refusals as group
use Rattle.nio_group.specs.Refusals.{channel_refusal, has_pending}
use Rattle.nio_group.specs.Run.{start}
use Rattle.nio_group.specs.Stages.{stage_is_running}
use Rattle.nio_group.specs.Steps as group_steps
use Rattle.nio_group.specs.Steps.{first_stage, unless_refused}
use Rattle.nio_group.proofs.ListLemmas.{count_by-push, get_or-push}
use Rattle.nio_group.proofs.RunLemmas.{lawful-after}
use Rattle.nio_group.proofs.StartLemmas.{startable}
use Rattle.nio_group.proofs.TableLemmas.{by_test}
use Rattle.nio_group.proofs.IndexLemmas.{count_by-cons}
use Rattle.nio_future.specs.Desk.{DeskState, held_at, tickets_out}
use Rattle.nio_future.specs.Kept.{Agrees, IsSettling, IsDesk}
use Rattle.nio_future.specs.Steps.{after_start, answer_to_start, kept_if_refused, limit_refusal, settled, start_refusal}
use Rattle.nio_future.specs.Steps.{ticket_of, with_ticket}
use Rattle.nio_future.specs.Ticket.{Ticket}
use Rattle.nio_future.specs.Tickets.{AreTicketsOf, IsTicketOf, TakesTicket}
use Rattle.nio_group.proofs.NumberLemmas.{made-stays}
use Rattle.nio_future.proofs.CallLemmas.{channels-settled, made-same}
use Rattle.nio_future.proofs.SettleLemmas.{desk_of, keeps-same, same-out-settled}
use Rattle.nio_future.proofs.TicketLemmas.{is-given, takes-with, bit}
use Rattle.nio_future.proofs.FrameLemmas.{framed-started}

-- ---- what refuses it

count-le : (xs ys : List (Option Operation)) → length xs ≡ length ys
    → ((n : ℕ) → is_some (get_or xs n None) ≡ true → is_some (get_or ys n None) ≡ true)
    → count_by is_some xs ≤ count_by is_some ys
count-le [] ys same has = omega arith
count-le (x ∷ xs) [] same has = absurd (omega arith)
count-le (x ∷ xs) (y ∷ ys) same has =
    let rest = count-le xs ys (omega arith) (λ n h. has (suc n) h) in
    let left = count_by-cons {X = Option Operation} is_some x xs in
    let right = count_by-cons {X = Option Operation} is_some y ys in
    by_test (is_some x)
    (λ t. let a : bit (is_some x) ≡ 1 = ap bit t in
    let b : bit (is_some y) ≡ 1 = ap bit (has zero t) in
    omega (arith, rest, left, right, a, b))
    (λ f. let a : bit (is_some x) ≡ 0 = ap bit f in
    omega (arith, rest, left, right, a))

agrees-some : (slot held : Option Operation) → Agrees slot held → is_some slot ≡ true → is_some held ≡ true
agrees-some None held agrees there = absurd (false≢true there)
agrees-some (Some op) held agrees there = ap is_some agrees.1

-- no more operations are in flight than tickets are out
pub flight-le-out : (d : DeskState) → IsSettling d → in_flight d.group.flight ≤ tickets_out d
flight-le-out d s =
    count-le d.group.flight.operations d.out.operations (sym s.same_count)
    (λ n there. agrees-some (op_at d.group.flight n) (held_at d n) (s.agrees n) there)

full-out : (d : DeskState) → IsSettling d → eqb (in_flight d.group.flight) d.group.flight.limit ≡ true
    → eqb (tickets_out d) d.out.limit ≡ true
full-out d s t =
    let same = eqb-true (in_flight d.group.flight) d.group.flight.limit t in
    let le = flight-le-out d s in
    let few = s.few_out in
    let limit = s.same_limit in
    by_test (eqb (tickets_out d) d.out.limit) (λ x. x)
    (λ f. absurd (eqb-false (tickets_out d) d.out.limit f (omega (arith, same, le, few, limit))))

-- what the desk's cause is, by the group's
abbrev pub or_full : Bool → Option StartError → Option StartError
or_full full None = cond full (Some refused.FlightFull) None
or_full full (Some e) = Some e

limit-by : (a b c : Bool) → (b ≡ true → c ≡ true)
    → cond a (Some refused.OpsSpent) (cond c (Some refused.FlightFull) None)
    ≡ or_full c (cond a (Some refused.OpsSpent) (cond b (Some refused.FlightFull) None))
limit-by true b c h = refl
limit-by false true c h = rw (h refl) refl
limit-by false false c h = refl

or-by : (t full : Bool) (e : Option StartError) (x y : Option StartError) → x ≡ or_full full y
    → cond t (Some refused.ShutdownGroup) (option_or e x)
    ≡ or_full full (cond t (Some refused.ShutdownGroup) (option_or e y))
or-by true full e x y is = refl
or-by false full None x y is = is
or-by false full (Some e) x y is = refl

-- the desk refuses what the group refuses, and else where as many tickets are out as may be
pub refusal-by : (d : DeskState) (chan : GChan) (kind : OpKind) → IsSettling d
    → start_refusal d chan kind ≡ or_full (eqb (tickets_out d) d.out.limit) (group.start_refusal d.group chan kind)
refusal-by d chan kind s =
    or-by (is_terminated d.group) (eqb (tickets_out d) d.out.limit)
    (channel_refusal (open_by d.group chan) (channel_at d.group chan.number).endpoint
    (has_pending d.group.flight chan.number kind) kind) (limit_refusal d) (group.limit_refusal d.group)
    (limit-by (eqb (accepted d.group.flight) d.group.op_limit) (eqb (in_flight d.group.flight) d.group.flight.limit)
    (eqb (tickets_out d) d.out.limit) (full-out d s))

-- ---- what it leaves

not-running : (is_open : Bool) (kind : OpKind) (len : ℕ) → stage_is_running (first_stage is_open kind len) ≡ false
not-running false kind len = refl
not-running true Accept len = refl
not-running true Connect len = refl
not-running true Read len = by_test (eqb len 0) (λ t. rw t refl) (λ f. rw f refl)
not-running true Write len = by_test (eqb len 0) (λ t. rw t refl) (λ f. rw f refl)

pub started-free : (g : Group) (chan : GChan) (kind : OpKind) (len : ℕ) → group.start_refusal g chan kind ≡ None
    → group_steps.after_start g chan kind len ≡ group_steps.started g chan kind len
started-free g chan kind len free =
    ap (λ (o : Option StartError). group_steps.kept_if_refused o g (group_steps.started g chan kind len)) free

-- a desk after the group's `start`, with one more ticket out
pub settling-started : (d : DeskState) (chan : GChan) (kind : OpKind) (len : ℕ) → IsDesk d
    → IsMade d.group chan → group.start_refusal d.group chan kind ≡ None
    → tickets_out d < d.out.limit
    → IsSettling (record d { group = group_steps.started d.group chan kind len; out = with_ticket d.out chan kind len })
settling-started d chan kind len desk made free room =
    let s = desk.settling in
    let g = d.group in
    let is_open = open_by g chan in
    let op : Operation = record { chan = chan; kind = kind; len = len; stage = first_stage is_open kind len } in
    let held : Operation = record { chan = chan; kind = kind; len = len; stage = Pending } in
    let frame = framed-started g chan kind len in
    let few = s.few_ops in
    let ops = frame.ops in
    let counts = s.same_count in
    let accepts = frame.accepts in
    let more = count_by-push is_some d.out.operations (Some held) in
    let longer = length_push d.out.operations (Some held) in
    record {
      lawful = subst IsLawful (started-free g chan kind len free)
          (lawful-after g (start chan kind len) s.lawful made);
      same_limit = s.same_limit ∙ sym frame.limit;
      few_ops = omega (arith, few, ops);
      same_count = omega (arith, counts, accepts, longer);
      few_out = omega (arith, more, room);
      agrees = λ n.
          let ours = get_or-push g.flight.operations (Some op) None n in
          let theirs = get_or-push d.out.operations (Some held) None n in
          by_test (eqb n (length g.flight.operations))
          (λ t.
          let turned : eqb n (length d.out.operations) ≡ true =
          subst (λ (k : ℕ). eqb n k ≡ true) (sym counts) t in
          let here = rw t at ours in
          let there = rw turned at theirs in
          let fits : Agrees (Some op) (Some held) = (not-running is_open kind len, refl) in
          subst (λ (slot : Option Operation). Agrees slot (get_or (d.out.operations ++ Some held ∷ []) n None))
          (sym here)
          (subst (λ (slot : Option Operation). Agrees (Some op) slot) (sym there) fits))
          (λ f.
          let turned : eqb n (length d.out.operations) ≡ false =
          subst (λ (k : ℕ). eqb n k ≡ false) (sym counts) f in
          let here = rw f at ours in
          let there = rw turned at theirs in
          subst (λ (slot : Option Operation). Agrees slot (get_or (d.out.operations ++ Some held ∷ []) n None))
          (sym here)
          (subst (λ (slot : Option Operation). Agrees (op_at g.flight n) slot) (sym there) (s.agrees n)));
    }

pub refusal-answer : (d old : DeskState) (chan : GChan) (kind : OpKind) (r : Option StartError) → IsDesk d → d ≡ old
    → r ≡ group.start_refusal d.group chan kind
    → or_full (eqb (tickets_out d) d.out.limit) r ≡ start_refusal old chan kind
refusal-answer d old chan kind r desk view is =
    ap (λ (o : Option StartError). or_full (eqb (tickets_out d) d.out.limit) o) is ∙ sym
    (refusal-by d chan kind desk.settling)
    ∙ ap (λ (x : DeskState). start_refusal x chan kind) view

-- ---- a start that isn't refused

or-none : (full : Bool) (r : Option StartError) → or_full full r ≡ None → (r ≡ None) × (full ≡ false)
or-none true None h = absurd (let never : ⊥ = cc in never)
or-none false None h = (refl, refl)
or-none full (Some e) h = absurd (let never : ⊥ = cc in never)

-- the group doesn't refuse it either, and there is room for a ticket
pub free-of : (d old : DeskState) (chan : GChan) (kind : OpKind) → IsDesk d → d ≡ old
    → start_refusal old chan kind ≡ None
    → (group.start_refusal d.group chan kind ≡ None) × (tickets_out d < d.out.limit)
free-of d old chan kind desk view none =
    let parts = or-none (eqb (tickets_out d) d.out.limit) (group.start_refusal d.group chan kind)
    (refusal-answer d old chan kind (group.start_refusal d.group chan kind) desk view refl ∙ none) in
    let differ = eqb-false (tickets_out d) d.out.limit parts.1 in
    let few = desk.settling.few_out in
    (parts.0, omega (arith, differ, few))

-- numbers are left
pub numbers-left : (d : DeskState) (chan : GChan) (kind : OpKind) → IsDesk d
    → group.start_refusal d.group chan kind ≡ None
    → length d.out.operations < 2 ^ 62
numbers-left d chan kind desk free =
    let s = desk.settling in
    let numbers = (startable d.group chan kind s.lawful free).numbers in
    let ops = s.few_ops in
    let counts = s.same_count in
    omega (arith, numbers, ops, counts)

pub settling-start : (d : DeskState) (chan : GChan) (kind : OpKind) (len : ℕ) (g : Group) (out : Accepted) → IsDesk d
    → IsMade d.group chan → group.start_refusal d.group chan kind ≡ None
    → tickets_out d < d.out.limit → g ≡ group_steps.after_start d.group chan kind len
    → out ≡ with_ticket d.out chan kind len → IsSettling (desk_of g out d.source d.places)
settling-start d chan kind len g out desk made free room started pushed =
    rw (started, started-free d.group chan kind len free, pushed) (settling-started d chan kind len desk made free room)

-- what `start` answers and leaves
pub record IsStarted (old new : DeskState) (chan : GChan) (kind : OpKind) (len : ℕ) (op : OpNo) : Type 0 where
  pub answer : Ok (record { op = op; desk = old.source ∷ [] }) ≡ answer_to_start old chan kind
  pub after : new ≡ after_start old chan kind len
  pub made : StaysMade old.group new.group
  pub given : IsTicketOf new (record { op = op; desk = old.source ∷ [] })
  pub tickets : TakesTicket (record { op = op; desk = old.source ∷ [] }) old new

ticket-answer : (d : DeskState) (chan : GChan) (kind : OpKind) (op : OpNo) → start_refusal d chan kind ≡ None
    → op ≡ record { 0 = accepted d.group.flight }
    → Ok (record { op = op; desk = d.source ∷ [] }) ≡ answer_to_start d chan kind
ticket-answer d chan kind op none number =
    let t = ticket_of d (accepted d.group.flight) in
    let allowed : answer_to_start d chan kind ≡ Ok t =
    ap (λ (o : Option StartError). unless_refused o t) none in
    let named : Ok (record { op = op; desk = d.source ∷ [] }) ≡ Ok t =
    ap (λ (o : OpNo). Ok (record { op = o; desk = d.source ∷ [] })) number in
    named ∙ sym allowed

started-here : (d new : DeskState) (chan : GChan) (kind : OpKind) (len : ℕ) (g : Group) (out : Accepted) (op : OpNo)
    → IsDesk d → IsMade d.group chan → start_refusal d chan kind ≡ None
    → group.start_refusal d.group chan kind ≡ None → tickets_out d < d.out.limit
    → Ok op ≡ group_steps.answer_to_start d.group chan kind → g ≡ group_steps.after_start d.group chan kind len
    → out ≡ with_ticket d.out chan kind len → new ≡ settled (desk_of g out d.source d.places)
    → IsStarted d new chan kind len op
started-here d new chan kind len g out op desk made none free room answered started pushed settles =
    let s = desk.settling in
    let settling = settling-start d chan kind len g out desk made free room started pushed in
    let accepted_is : group_steps.answer_to_start d.group chan kind ≡ Ok (record { 0 = accepted d.group.flight }) =
    ap (λ (o : Option StartError). group_steps.unless_refused o (record { 0 = accepted d.group.flight })) free in
    let both : Ok op ≡ Ok (record { 0 = accepted d.group.flight }) = answered ∙ accepted_is in
    let number : op ≡ record { 0 = accepted d.group.flight } = cc in
    let t : Ticket = record { op = op; desk = d.source ∷ [] } in
    let held : Operation = record { chan = chan; kind = kind; len = len; stage = Pending } in
    let leaves : after_start d chan kind len
    ≡ settled (desk_of (group_steps.after_start d.group chan kind len) (with_ticket d.out chan kind len) d.source d.places) =
    ap (λ (o : Option StartError). kept_if_refused o d
    (settled (desk_of (group_steps.after_start d.group chan kind len) (with_ticket d.out chan kind len) d.source d.places)))
    none in
    let after : new ≡ after_start d chan kind len =
    settles ∙ ap (λ (x : Group). settled (desk_of x out d.source d.places)) started
    ∙ ap (λ (x : Accepted). settled (desk_of (group_steps.after_start d.group chan kind len) x d.source d.places)) pushed
    ∙ sym leaves in
    let same_out = same-out-settled (desk_of g out d.source d.places) settling in
    let channels : new.group.channels ≡ (group_steps.after_start d.group chan kind len).channels =
    ap (λ (x : DeskState). x.group.channels) settles ∙ channels-settled (desk_of g out d.source d.places) settling
    ∙ ap (λ (x : Group). x.channels) started in
    let gives : TakesTicket t d (record d { out = out }) =
    takes-with d t out held refl
    (ap (λ (o : OpNo). o.0) number ∙ sym s.same_count) (ap (λ (x : Accepted). x.operations) pushed) in
    let keeps = keeps-same (record d { out = out }) (settled (desk_of g out d.source d.places))
    (record { source = same_out.source; out = same_out.out }) in
    record {
      answer = ticket-answer d chan kind op none number;
      after = after;
      made = λ named was. made-same (group_steps.after_start d.group chan kind len) new.group named channels
          (made-stays d.group (start chan kind len) s.lawful made named was);
      given = subst (λ (x : DeskState). IsTicketOf x t) (sym settles)
          (keeps.each t (is-given d t out held refl
          (ap (λ (o : OpNo). o.0) number ∙ sym s.same_count) (ap (λ (x : Accepted). x.operations) pushed)));
      tickets = λ ts tickets. subst (λ (x : DeskState). AreTicketsOf x (t ∷ ts)) (sym settles)
          (keeps.lists (t ∷ ts) (gives ts tickets));
    }

pub started-facts : (d old new : DeskState) (chan : GChan) (kind : OpKind) (len : ℕ) (g : Group) (out : Accepted)
    (op : OpNo) → IsDesk d → d ≡ old → IsMade d.group chan → start_refusal old chan kind ≡ None
    → Ok op ≡ group_steps.answer_to_start d.group chan kind → g ≡ group_steps.after_start d.group chan kind len
    → out ≡ with_ticket d.out chan kind len → new ≡ settled (desk_of g out d.source d.places)
    → IsStarted old new chan kind len op
started-facts d old new chan kind len g out op desk view made none answered started pushed settles =
    let free = free-of d old chan kind desk view none in
    let here : start_refusal d chan kind ≡ None = ap (λ (x : DeskState). start_refusal x chan kind) view ∙ none in
    subst (λ (x : DeskState). IsStarted x new chan kind len op) view
    (started-here d new chan kind len g out op desk made here free.0 free.1 answered started pushed settles)

pub not-refused : (d : DeskState) (chan : GChan) (kind : OpKind) (e : StartError)
    → group.start_refusal d.group chan kind ≡ None → Err e ≡ group_steps.answer_to_start d.group chan kind → ⊥
not-refused d chan kind e free answered =
    let number : OpNo = record { 0 = accepted d.group.flight } in
    let accepts : group_steps.answer_to_start d.group chan kind ≡ Ok number =
    ap (λ (o : Option StartError). group_steps.unless_refused o number) free in
    let both : Err e ≡ Ok number = answered ∙ accepts in
    cc

-- ---- where it is FlightFull

other-pending : (pending : Bool) (e : StartError) → (Some e ≡ Some refused.FlightFull → ⊥)
    → group.if_pending pending e ≡ Some refused.FlightFull → ⊥
other-pending true e other is = other is
other-pending false e other is = cc

other-stream : (link : Link) (pending : Bool) (kind : OpKind)
    → group.stream_refusal link pending kind ≡ Some refused.FlightFull → ⊥
other-stream link pending Accept is = cc
other-stream Unconnected pending Connect is = cc
other-stream Connecting pending Connect is = cc
other-stream Connected pending Connect is = cc
other-stream Unconnected pending Read is = cc
other-stream Connecting pending Read is = cc
other-stream Connected pending Read is = other-pending pending refused.ReadPending (λ e. cc) is
other-stream Unconnected pending Write is = cc
other-stream Connecting pending Write is = cc
other-stream Connected pending Write is = other-pending pending refused.WritePending (λ e. cc) is

other-state : (e : Endpoint) (pending : Bool) (kind : OpKind)
    → group.state_refusal e pending kind ≡ Some refused.FlightFull → ⊥
other-state (Listener true) pending Accept is = other-pending pending refused.AcceptPending (λ e. cc) is
other-state (Listener false) pending Accept is = cc
other-state (Listener bound) pending Connect is = cc
other-state (Listener bound) pending Read is = cc
other-state (Listener bound) pending Write is = cc
other-state (Stream link) pending kind is = other-stream link pending kind is

if-open : (is_open : Bool) (e : Endpoint) (pending : Bool) (kind : OpKind)
    → cond is_open (group.state_refusal e pending kind) None ≡ Some refused.FlightFull → ⊥
if-open true e pending kind is = other-state e pending kind is
if-open false e pending kind is = cc

other-channel : (is_open : Bool) (e : Endpoint) (pending : Bool) (kind : OpKind)
    → channel_refusal is_open e pending kind ≡ Some refused.FlightFull → ⊥
other-channel is_open (Stream link) pending Accept is = cc
other-channel is_open (Stream link) pending Connect is = if-open is_open (Stream link) pending Connect is
other-channel is_open (Stream link) pending Read is = if-open is_open (Stream link) pending Read is
other-channel is_open (Stream link) pending Write is = if-open is_open (Stream link) pending Write is
other-channel is_open (Listener bound) pending Accept is = if-open is_open (Listener bound) pending Accept is
other-channel is_open (Listener bound) pending Connect is = cc
other-channel is_open (Listener bound) pending Read is = cc
other-channel is_open (Listener bound) pending Write is = cc

full-limit : (a b : Bool) → cond a (Some refused.OpsSpent) (cond b (Some refused.FlightFull) None)
    ≡ Some refused.FlightFull
    → b ≡ true
full-limit true b is = absurd (let never : ⊥ = cc in never)
full-limit false true is = refl
full-limit false false is = absurd (let never : ⊥ = cc in never)

full-by : (t : Bool) (r l : Option StartError) → (r ≡ Some refused.FlightFull → ⊥)
    → cond t (Some refused.ShutdownGroup) (option_or r l) ≡ Some refused.FlightFull → l ≡ Some refused.FlightFull
full-by true r l other is = absurd (let never : ⊥ = cc in never)
full-by false None l other is = is
full-by false (Some e) l other is = absurd (other is)

-- as many tickets are out as may be
pub full-cause : (d : DeskState) (chan : GChan) (kind : OpKind) → start_refusal d chan kind ≡ Some refused.FlightFull
    → tickets_out d ≡ d.out.limit
full-cause d chan kind is =
    let opened = open_by d.group chan in
    let endpoint = (channel_at d.group chan.number).endpoint in
    let pending = has_pending d.group.flight chan.number kind in
    let limits = full-by (is_terminated d.group) (channel_refusal opened endpoint pending kind) (limit_refusal d)
    (other-channel opened endpoint pending kind) is in
    eqb-true (tickets_out d) d.out.limit
    (full-limit (eqb (accepted d.group.flight) d.group.op_limit) (eqb (tickets_out d) d.out.limit) limits)
