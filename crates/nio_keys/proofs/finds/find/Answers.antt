use Rattle.std.proofs.Common.{refl, rules}
use Rattle.nio_words.proofs.Views.{key_found, step_acts}
use Rattle.nio_keys.proofs.finds.find.Goals as goal

pub returns-then-was_published-clause-found : goal.returns-then-was_published-clause-found
returns-then-was_published-clause-found c =
    record {
      inside = search rules;
      published = key_found c.args.serial (step_acts c.look_key-stage.ensures refl)
          (search rules);
    }
