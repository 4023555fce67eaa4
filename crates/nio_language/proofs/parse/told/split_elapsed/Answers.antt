use Rattle.std.proofs.Common.{refl}
use Rattle.nio_language.proofs.Elapsed.{behind_elapsed}
use Rattle.nio_language.proofs.parse.told.split_elapsed.Goals as goal

pub returns-in-len1-up-clause-only : goal.returns-in-len1-up-clause-only
returns-in-len1-up-clause-only c =
    behind_elapsed c.args.words.now _ c.in-len1-up.len_at_least (c.if-is_elapsed.ensures.0 refl)
