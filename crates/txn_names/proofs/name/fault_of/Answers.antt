use Rattle.std.proofs.Common.{rules}
use Rattle.txn_names.proofs.OnePass.{deep}
use Rattle.txn_names.proofs.name.fault_of.Goals as goal

pub returns-else-has_long : goal.returns-else-has_long
returns-else-has_long c = deep c.args.bytes.now (search rules) (search rules) (search rules) c.requires
