use Rattle.nio_orderly.proofs.CallLists.{beginnings_are_orderly, whole_is_orderly, one_call_more, orderly_ends_in_call}
use Rattle.nio_orderly.proofs.CallLists.{serial_is_whole, serial_call_more}
use Rattle.nio_orderly.proofs.WaitedCalls.{waiting_calls_are_calls, calls_without_waiting}
use Rattle.nio_orderly.proofs.laws.orderly_law.Goals as goal

pub returns : goal.returns
returns c = record {
  beginnings = beginnings_are_orderly;
  whole = whole_is_orderly;
  more = one_call_more;
  ends = orderly_ends_in_call;
  serial = serial_is_whole;
  serial_more = serial_call_more;
  waits = waiting_calls_are_calls;
  unwaiting = calls_without_waiting;
}
