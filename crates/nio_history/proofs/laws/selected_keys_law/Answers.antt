use Rattle.nio_history.proofs.SelectedKeys.{selections_keep_keys}
use Rattle.nio_history.proofs.laws.selected_keys_law.Goals as goal

pub returns : goal.returns
returns c = selections_keep_keys
