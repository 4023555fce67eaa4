use Rattle.nio_orderly.proofs.OrderlyExamples.{closed_in_registration_is_whole, reopened_meanwhile_is_whole}
use Rattle.nio_orderly.proofs.OrderlyExamples.{steps_of_no_calls}
use Rattle.nio_orderly.proofs.laws.orderly_examples_law.Goals as goal

pub returns : goal.returns
returns c = record {
  whole = closed_in_registration_is_whole;
  reopened = reopened_meanwhile_is_whole;
  disorderly = steps_of_no_calls;
}
