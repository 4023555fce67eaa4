use Rattle.std.proofs.Common.{◌≡◌, refl}
use Rattle.nio_audit.proofs.Answering.{index_iff}
use Rattle.nio_history.specs.Questions.{index_word}
use Rattle.nio_table_tests.proofs.words.worked.same_index.Goals as goal

pub returns : goal.returns
returns c same =
    let words : index_word c.args.first ≡ index_word c.args.second =
    (index_iff c.eq.result c.args.first c.args.second c.args.second c.eq.ensures refl).0 same in
    cc
