use Rattle.std.proofs.Common.{◌≡◌, List, ℕ, ◌++◌, ap, sym, subst, ◌∙◌, append_assoc, OnErr}
use Rattle.std.specs.Prelude.{codes}
use Rattle.line_language.specs.Report.{line, spelled_history, spelled_rows}
use Rattle.txn_bytes.specs.Written.{AppendsFront}
use Rattle.txn_bytes.proofs.Exports.{front_of, on_err, then, then_front, then_on_err}
use Rattle.report_text.proofs.Accepted.{accepted, on_ok}
use Rattle.report_text.proofs.report.write_report.Goals as goal

pub returns-in_err-write_opening-clause-err : goal.returns-in_err-write_opening-clause-err
returns-in_err-write_opening-clause-err g c =
    let part = rw c.opening.ensures at c.in_err-write_opening.ensures.err in
    on_err c.from_residual.result (front_of _ _ _ _ (front_of _ _ _ _ (front_of _ _ _ _ (front_of _ _ _ _ part))))

pub returns-in_err-write_entries-clause-err : goal.returns-in_err-write_entries-clause-err
returns-in_err-write_entries-clause-err g c =
    let rows = rw c.opening.ensures at c.in_ok-write_opening.ensures.ok in
    let part = then_front _ _ _ _ _ rows (rw (c.labels.ensures, c.history.ensures) at c.in_err-write_entries.ensures.err) in
    on_err c.from_residual-in_err-write_entries.result (front_of _ _ _ _ (front_of _ _ _ _ (front_of _ _ _ _ part)))

pub returns-clause-err : goal.returns-clause-err
returns-clause-err g c =
    let told = c.args.told.now in
    let before : List ℕ = line (codes "open") ++ spelled_rows told.opening ++ spelled_history told.labels told.history in
    let t : List ℕ = line (codes "table") in
    let f : List ℕ = spelled_rows told.table in
    let e : List ℕ = line (codes "end") in
    let rows = rw c.opening.ensures at c.in_ok-write_opening.ensures.ok in
    let entries = then _ _ _ _ _ rows (rw (c.labels.ensures, c.history.ensures) at c.in_ok-write_entries.ensures.ok) in
    let parts : before ++ t ++ f ++ e ≡ before ++ (t ++ f ++ e) = ap (λ x. x ++ e) (append_assoc before t f) ∙ append_assoc before (t ++ f) e in
    subst (λ bs. OnErr c.write_ending.result (AppendsFront (g.W.Write.contents c.args.out.now) (g.W.Write.contents c.write_ending.new.out) bs)) (sym parts)
    (then_on_err _ _ _ before (t ++ f ++ e) _ entries (rw c.table.ensures.table at c.write_ending.ensures.err))

pub returns-clause-accepted : goal.returns-clause-accepted
returns-clause-accepted g c = on_ok c.write_ending.result (accepted c.args.told.now c.table.ensures.report)
