use Rattle.std.proofs.Common.{◌≡◌, ◌==◌, ◌∷◌, suc, Some, ◌∙◌, sym, ap, subst}
use Rattle.std.specs.Prelude.{slice_get}
use Rattle.std.specs.Map.{values_of}
use Rattle.std.specs.Option.{option_copied_mut}
use Rattle.std.proofs.lemmas.Bool.{and_parts, eqb-true}
use Rattle.indexmap.specs.IndexMap.{set_value_at}
use Rattle.serial_spec.specs.Interleaving.{answered}
use Rattle.report_check.specs.Passing.{goes_on, waiting}
use Rattle.report_tables.specs.Spoken.{AreSessionsOf, line_entry}
use Rattle.report_tables.proofs.Speaking.{sessions_told}
use Rattle.report_tables.proofs.sessions.take_line.Goals as goal

pub returns : goal.returns
returns c labels h are event within =
    let es = c.args.sessions.now.entries in
    let n = c.args.number in
    let before = c.in-Some.session.now in
    let there : slice_get (values_of es) n ≡ Some before = sym c.get_index_mut.ensures.value ∙ ap option_copied_mut c.in-Some.is in
    let may = sym (c.may_tell.ensures h n (are.each n before there) event) ∙ c.if-not-may_tell.false in
    let next = eqb-true c.args.line (suc (answered h n)) (and_parts (c.args.line == suc (answered h n)) (goes_on (waiting h n) c.args.event.now c.args.answer.now) may).0 in (
      may,
      subst (λ x. AreSessionsOf labels (line_entry n c.args.line c.args.event.now c.args.answer.now ∷ h) (set_value_at es n x)) (sym c.tell.ensures)
          (sessions_told labels h es n c.args.line c.args.event.now c.args.answer.now before are there event next within),
    )

pub returns-then-not-may_tell : goal.returns-then-not-may_tell
returns-then-not-may_tell c labels h are event within =
    let there : slice_get (values_of c.args.sessions.now.entries) c.args.number ≡ Some c.in-Some.session.now = sym c.get_index_mut.ensures.value ∙ ap option_copied_mut c.in-Some.is in
    sym (c.may_tell.ensures h c.args.number (are.each c.args.number c.in-Some.session.now there) event) ∙ c.if-not-may_tell.true
