use Rattle.std.proofs.Common.{◌∙◌, sym, ap}
use Rattle.std.specs.Prelude.{position}
use Rattle.txn_names.specs.Path.{label_eq}
use Rattle.report_tables.proofs.Speaking.{numbered_full, numbered_known, numbered_new}
use Rattle.report_tables.proofs.sessions.session_number.Goals as goal

pub returns-in-Some : goal.returns-in-Some
returns-in-Some c labels h are =
    let l = c.args.label.now in
    numbered_known labels l h c.in-Some.number c.args.sessions.now.entries are (ap (position (label_eq l)) (sym are.keys) ∙ sym c.get_index_of.ensures.index ∙ c.in-Some.is)

pub returns-then-number-ge-MOST_SESSIONS : goal.returns-then-number-ge-MOST_SESSIONS
returns-then-number-ge-MOST_SESSIONS c labels h are =
    let l = c.args.label.now in
    numbered_full labels l h c.len-number.result c.args.sessions.now.entries are (ap (position (label_eq l)) (sym are.keys) ∙ sym c.get_index_of.ensures.index ∙ c.in_default.is)
    c.len-number.ensures.len c.if-number-ge-MOST_SESSIONS.true

pub returns : goal.returns
returns c labels h are =
    let l = c.args.label.now in
    numbered_new labels l h c.len-number.result c.args.sessions.now.entries c.add_session.new.sessions.entries are
    (ap (position (label_eq l)) (sym are.keys) ∙ sym c.get_index_of.ensures.index ∙ c.in_default.is) c.len-number.ensures.len c.if-number-ge-MOST_SESSIONS.false c.in_ok-add_session.ensures
