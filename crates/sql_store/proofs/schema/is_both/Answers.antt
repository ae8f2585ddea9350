use Rattle.std.proofs.Common.{sym, ◌∙◌}
use Rattle.sql_store.proofs.Texts.{both_listed}
use Rattle.sql_store.proofs.schema.is_both.Goals as goal

pub returns-clause-none : goal.returns-clause-none
returns-clause-none c is = c.is_listed_both.ensures.0 is ∙ sym both_listed

pub returns-clause-all : goal.returns-clause-all
returns-clause-all c has = c.is_listed_both.ensures.1 (has ∙ both_listed)
