use Rattle.nio_steps.proofs.KnownAt.{lists_are_empty_at_first, lists_stay}
use Rattle.nio_steps.proofs.ListedBy.{beginnings_list}
use Rattle.nio_steps.proofs.Unlisted.{refusals_leave_list, other_calls_leave_list}
use Rattle.nio_steps.proofs.Unlisted.{waiting_calls_leave_list}
use Rattle.nio_steps.proofs.laws.list_law.Goals as goal

pub returns : goal.returns
returns c =
    record {
      empty = lists_are_empty_at_first;
      stays = lists_stay;
      begins = beginnings_list;
      refused = refusals_leave_list;
      others = other_calls_leave_list;
      waiting = waiting_calls_leave_list;
    }
