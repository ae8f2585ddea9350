use Rattle.manager_core.proofs.StoredNumbers.{values_stored}
use Rattle.manager_core.proofs.laws.numbered_values.Goals as goal

pub returns : goal.returns
returns c = values_stored
