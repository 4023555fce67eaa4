-- An office between two rounds.
use Rattle.std.specs.Prelude.{◌≡◌, ◌≤◌, [], length}
use Rattle.std.specs.Vec.{vec_capacity}
use Rattle.nio_tickets.specs.declared.office.AtRest.{AtRest}

-- No ticket is to be polled and nothing has come; there is room for all tickets that there can be.
pub record IsAtRest (rest : AtRest) : Type 0 where
  pub none_taken : rest.tickets.items ≡ []
  pub none_still : rest.still.items ≡ []
  pub none_ready : rest.ready.items ≡ []
  pub room : length rest.office.seats ≤ vec_capacity rest.tickets
  pub still_room : length rest.office.seats ≤ vec_capacity rest.still
  pub ready_room : length rest.office.seats ≤ vec_capacity rest.ready
