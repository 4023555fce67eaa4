use Rattle.nio_select.proofs.AskedKeys.{kept_none, keys_none}
use Rattle.nio_select.proofs.asked.Asked.new.Goals as goal

pub invariant_of-result : goal.invariant_of-result
invariant_of-result c = kept_none c.new.result.items c.new-2.result c.new.ensures.items c.new-2.ensures.told c.new-2.ensures.words

pub returns-clause-keys : goal.returns-clause-keys
returns-clause-keys c = keys_none c.new.result.items c.new.ensures.items
