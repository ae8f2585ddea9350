use Rattle.std.proofs.Common.{◌∙◌, sym, ap}
use Rattle.std.specs.Prelude.{is_none}
use Rattle.report_tables.proofs.Speaking.{value_of_entry, waits_at}
use Rattle.report_tables.proofs.sessions.is_idle_at.Goals as goal

pub returns-in-Some : goal.returns-in-Some
returns-in-Some c labels h are within =
    let es = c.args.sessions.now.entries in
    let n = c.args.number in
    let w = waits_at labels h es n c.in-Some.session.now are (value_of_entry es n c.in-Some.field-0-0.now c.in-Some.session.now (sym c.in-Some.ensures.entry)) in
    c.is_idle.ensures ∙ sym (ap is_none w.0)
