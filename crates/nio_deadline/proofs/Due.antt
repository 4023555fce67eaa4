-- Whether an operation is due by the deadlines that a group with time limits has.
use Rattle.std.specs.Prelude.{ℕ, ◌==◌, Bool, false, ◌&&◌, ◌||◌, List, [], ◌∷◌, nat_le}
use Rattle.std.specs.List.{list_any}
use Rattle.nio_group.specs.Flight.{op_at}
use Rattle.nio_group.specs.Stages.{is_pending}
use Rattle.nio_deadline.specs.Run.{Call, open_channel, bind, start_timed, report, expire, take, finish, close_channel}
use Rattle.nio_deadline.specs.Run.{shutdown, shutdown_now, after}
use Rattle.nio_deadline.specs.Timed.{Timed}

-- the operation is pending, and its deadline has come
abbrev pub is_due : Timed → ℕ → ℕ → Bool
is_due t now n = is_pending (op_at t.group.flight n) && list_any (λ d. (d.op == n) && nat_le d.at now) t.deadlines

-- the call is an `expire` at which the operation is pending and its deadline has come
abbrev pub is_due_at : ℕ → Timed → Call → Bool
is_due_at n t (open_channel kind) = false
is_due_at n t (bind chan) = false
is_due_at n t (start_timed chan kind len now limit) = false
is_due_at n t (report op outcome) = false
is_due_at n t (expire now) = is_due t now n
is_due_at n t take = false
is_due_at n t (finish op) = false
is_due_at n t (close_channel chan) = false
is_due_at n t shutdown = false
is_due_at n t shutdown_now = false

-- some call of the run is
abbrev pub was_due : ℕ → Timed → List Call → Bool
was_due n t [] = false
was_due n t (call ∷ calls) = is_due_at n t call || was_due n (after t call) calls
