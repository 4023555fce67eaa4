use Rattle.nio_orderly.proofs.Removals.{begin_looks_at_valid, select_looks_at_valid}
use Rattle.nio_orderly.proofs.laws.looked_law.Goals as goal

pub returns : goal.returns
returns c =
    let begins = begin_looks_at_valid c.begin_law.ensures.looked c.listed_law.ensures.looked in
    record {
      begin = begins;
      select = select_looks_at_valid begins;
    }
