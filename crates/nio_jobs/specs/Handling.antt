-- What is started once an operation has completed.
use Rattle.std.specs.Prelude.{ℕ, ◌==◌, if◌then◌else◌, Result, Ok, Err, List, [], ◌∷◌}
use Rattle.nio_base.specs.declared.numbers.GChan.{GChan}
use Rattle.nio_base.specs.declared.group.Finished.{Finished}
use Rattle.nio_base.specs.declared.group.GKind.TheVariants.{Stream, Listener}
use Rattle.nio_base.specs.declared.group.OpKind.{OpKind}
use Rattle.nio_base.specs.declared.group.OpKind.TheVariants.{Accept, Connect}
use Rattle.nio_group.specs.Group.{is_made}
use Rattle.nio_group.specs.Run as run
use Rattle.nio_group.specs.Steps.{answer_to_open}
use Rattle.nio_group.specs.declared.refusal.StartError.{StartError}
use Rattle.nio_link.specs.Jobs.{of_net}
use Rattle.nio_jobs.specs.Next.{listener, held_after_finished, next_after, start_of}
use Rattle.nio_jobs.specs.declared.exchange.Done.{Done}
use Rattle.nio_jobs.specs.declared.exchange.Done.TheVariants as done
use Rattle.nio_jobs.specs.declared.next.Next.{Next}
use Rattle.nio_jobs.specs.declared.next.Next.TheVariants as next
use Rattle.nio_jobs.specs.declared.next.Start.{Start}
use Rattle.nio_jobs.specs.declared.starter.Starter.{Ghosts}

-- ---- what calls came to

-- What a report does. The channel is the one there with the number and the serial of the net's; it is closed if it was
-- made.
abbrev pub after_done : {S : Type 0} → Ghosts S → S → Done → S
after_done n s (done.Outcome op outcome) = n.after s (run.report op outcome)
after_done n s (done.Again chan kind) = s
after_done n s (done.Closed chan) =
    if is_made (n.group s) (of_net chan) then n.after s (run.close_channel (of_net chan)) else s

-- what the reports of a round do, in their order
abbrev pub after_round : {S : Type 0} → Ghosts S → S → List Done → S
after_round n s [] = s
after_round n s (one ∷ rest) = after_round n (after_done n s one) rest

-- ---- what is started

-- an operation is started on a channel, if that was made
abbrev pub starting : {S : Type 0} → Ghosts S → S → Start → S
starting n s start =
    if is_made (n.group s) start.chan then n.after s (run.start start.chan start.kind start.len) else s

-- a read or a write is started, if it is for any bytes
abbrev pub starting_some : {S : Type 0} → Ghosts S → S → Start → S
starting_some n s start = if start.len == 0 then s else starting n s start

-- a listener is bound, if that channel was made
abbrev pub binding : {S : Type 0} → Ghosts S → S → GChan → S
binding n s chan = if is_made (n.group s) chan then n.after s (run.bind chan) else s

-- The listener's channel is opened and bound, and its first accept is started. Where it can't be opened, nothing is
-- started.
abbrev pub after_listening_as : {S : Type 0} → Ghosts S → S → Result GChan StartError → S
after_listening_as n s (Ok chan) =
    starting n (binding n (n.after s (run.open_channel Listener)) chan) (start_of chan Accept 0)
after_listening_as n s (Err refused) = s

abbrev pub after_listening : {S : Type 0} → Ghosts S → S → S
after_listening n s = after_listening_as n s (answer_to_open (n.group s) Listener)

-- A client was accepted: its target's channel is opened and connected, and then the next client is accepted. Where no
-- channel can be opened, nothing is started.
abbrev pub after_accepted_as : {S : Type 0} → Ghosts S → S → Result GChan StartError → S
after_accepted_as n s (Ok target) =
    starting n (starting n (n.after s (run.open_channel Stream)) (start_of target Connect 0))
    (start_of listener Accept 0)
after_accepted_as n s (Err refused) = s

abbrev pub after_accepted : {S : Type 0} → Ghosts S → S → S
after_accepted n s = after_accepted_as n s (answer_to_open (n.group s) Stream)

-- what is due is done
abbrev pub after_next : {S : Type 0} → Ghosts S → S → Next → S
after_next n s next.Nothing = s
after_next n s next.Accepted = after_accepted n s
after_next n s (next.Both first second) = starting_some n (starting_some n s first) second

-- an operation of this kind on this channel has this result: what is due is done, if that channel was made
abbrev pub after_result : {S : Type 0} → Ghosts S → List ℕ → S → GChan → OpKind → Finished → S
after_result n held s chan kind finished =
    if is_made (n.group s) chan then after_next n s (next_after held chan kind finished) else s

-- how many bytes the directions hold then
abbrev pub held_after_result : {S : Type 0} → Ghosts S → List ℕ → S → GChan → OpKind → Finished → List ℕ
held_after_result n held s chan kind finished =
    if is_made (n.group s) chan then held_after_finished held chan kind finished else held
