use Rattle.std.proofs.Common.{◌∙◌}
use Rattle.indexmap.proofs.CallerLemmas.{insert_entry-new}
use Rattle.txn_names.specs.Path.{label_eq}
use Rattle.report_tables.proofs.sessions.add_session.Goals as goal

pub returns-in-Ok : goal.returns-in-Ok
returns-in-Ok c = c.in-Ok.ensures.entries ∙ insert_entry-new label_eq c.args.sessions.now c.args.label.now _ c.requires.new
