use Rattle.std.proofs.Common.{take, ap, sym, ◌∙◌}
use Rattle.txn_names.specs.Text.{spelled_name}
use Rattle.txn_names.specs.Fields.{spelled_pieces}
use Rattle.txn_names.proofs.name.Name.spelled.Goals as goal

pub returns-clause-value : goal.returns-clause-value
returns-clause-value c = sym (spelled_pieces (take c.self.inside.len c.self.inside.bytes)) ∙ ap spelled_name c.self.view_is
