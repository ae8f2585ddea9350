use Rattle.std.proofs.Common.{sym, ◌∙◌}
use Rattle.sql_store.proofs.Texts.{old_listed}
use Rattle.sql_store.proofs.schema.is_old.Goals as goal

pub returns-clause-none : goal.returns-clause-none
returns-clause-none c is = c.is_listed_old.ensures.0 is ∙ sym old_listed

pub returns-clause-all : goal.returns-clause-all
returns-clause-all c has = c.is_listed_old.ensures.1 (has ∙ old_listed)
