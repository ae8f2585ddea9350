use Rattle.std.proofs.Common.{◌++◌, subst}
use Rattle.std.specs.Io.KnownBytes.{Appends}
use Rattle.txn_bytes.specs.Written.{AppendsFront}
use Rattle.txn_bytes.proofs.Exports.{front_of, then, then_front}
use Rattle.line_language.specs.Report.{spelled_history}
use Rattle.report_text.specs.Lines.{ending_text}
use Rattle.live_runs.specs.Showing.{entries_behind}
use Rattle.live_runs.proofs.Passing.{cut, passed, unpassed}
use Rattle.live_runs.proofs.Shown.{behind_told}
use Rattle.live_runs.proofs.showing.show_rest.Goals as goal

pub returns-in_err-write_entries-clause-err : goal.returns-in_err-write_entries-clause-err
returns-in_err-write_entries-clause-err g c =
    let r = c.args.report.now in
    let n = c.args.written in
    let told = behind_told r.labels c.labels.result.now c.history.result.now.entries r.history n c.labels.ensures c.history.ensures c.requires in
    let front = subst (λ bs. AppendsFront (g.W.Write.contents c.args.out.now) (g.W.Write.contents c.write_entries.new.out) bs) told c.in_err-write_entries.ensures.err in
    cut _ c.from_residual.result c.args.out.now c.write_entries.new.out
    (spelled_history r.labels (entries_behind n r.history) ++ ending_text r.table) (front_of _ _ _ _ front) c.in_err-write_entries.ensures.asked

pub returns-in_err-write_ending-clause-err : goal.returns-in_err-write_ending-clause-err
returns-in_err-write_ending-clause-err g c =
    let r = c.args.report.now in
    let n = c.args.written in
    let told = behind_told r.labels c.labels.result.now c.history.result.now.entries r.history n c.labels.ensures c.history.ensures c.requires in
    let entries = subst (λ bs. Appends (g.W.Write.contents c.args.out.now) (g.W.Write.contents c.write_entries.new.out) bs) told c.in_ok-write_entries.ensures.ok in
    let front = subst (λ t. AppendsFront (g.W.Write.contents c.write_entries.new.out) (g.W.Write.contents c.write_ending.new.out) (ending_text t))
    c.table-table.ensures.table c.in_err-write_ending.ensures.err in
    cut _ c.from_residual-in_err-write_ending.result c.args.out.now c.write_ending.new.out
    (spelled_history r.labels (entries_behind n r.history) ++ ending_text r.table) (then_front _ _ _ _ _ entries front) c.in_err-write_ending.ensures.asked

pub returns-clause-ok : goal.returns-clause-ok
returns-clause-ok g c =
    let r = c.args.report.now in
    let n = c.args.written in
    let told = behind_told r.labels c.labels.result.now c.history.result.now.entries r.history n c.labels.ensures c.history.ensures c.requires in
    let entries = subst (λ bs. Appends (g.W.Write.contents c.args.out.now) (g.W.Write.contents c.write_entries.new.out) bs) told c.in_ok-write_entries.ensures.ok in
    let ending = subst (λ t. Appends (g.W.Write.contents c.write_entries.new.out) (g.W.Write.contents c.write_ending.new.out) (ending_text t))
    c.table-table.ensures.table c.in_ok-write_ending.ensures.ok in
    passed _ c.args.out.now c.write_ending.new.out c.pass_on.new.self
    (spelled_history r.labels (entries_behind n r.history) ++ ending_text r.table) (then _ _ _ _ _ entries ending)
    c.pass_on.ensures.kept c.pass_on.result c.pass_on.ensures.asked

pub returns-clause-err : goal.returns-clause-err
returns-clause-err g c =
    let r = c.args.report.now in
    let n = c.args.written in
    let told = behind_told r.labels c.labels.result.now c.history.result.now.entries r.history n c.labels.ensures c.history.ensures c.requires in
    let entries = subst (λ bs. Appends (g.W.Write.contents c.args.out.now) (g.W.Write.contents c.write_entries.new.out) bs) told c.in_ok-write_entries.ensures.ok in
    let ending = subst (λ t. Appends (g.W.Write.contents c.write_entries.new.out) (g.W.Write.contents c.write_ending.new.out) (ending_text t))
    c.table-table.ensures.table c.in_ok-write_ending.ensures.ok in
    unpassed _ c.args.out.now c.write_ending.new.out c.pass_on.new.self
    (spelled_history r.labels (entries_behind n r.history) ++ ending_text r.table) (then _ _ _ _ _ entries ending)
    c.pass_on.ensures.kept c.pass_on.result c.pass_on.ensures.asked
