use Rattle.std.proofs.Common.{refl, rules}
use Rattle.nio_history.specs.Permanent.{selector_made}
use Rattle.nio_words.proofs.Views.{found_now, step_acts}
use Rattle.nio_keys.proofs.finds.find_selector.Goals as goal

pub returns-then-has_bit-clause-found : goal.returns-then-has_bit-clause-found
returns-then-has_bit-clause-found c =
    record {
      inside = search rules;
      made = found_now (selector_made c.args.number)
          (step_acts c.look_selectors-made.ensures refl) (search rules);
    }
