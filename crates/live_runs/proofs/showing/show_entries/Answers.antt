use Rattle.std.proofs.Common.{reverse, refl, subst, arith}
use Rattle.std.proofs.lemmas.List.{length-reverse}
use Rattle.std.specs.Io.KnownBytes.{Appends}
use Rattle.txn_bytes.specs.Written.{AppendsFront}
use Rattle.line_language.specs.Report.{spelled_history}
use Rattle.live_runs.specs.Showing.{entries_behind}
use Rattle.live_runs.proofs.Passing.{cut, passed, unpassed}
use Rattle.live_runs.proofs.Shown.{behind_told}
use Rattle.live_runs.proofs.showing.show_entries.Goals as goal

pub returns-in_err-write_entries-clause-err : goal.returns-in_err-write_entries-clause-err
returns-in_err-write_entries-clause-err g c =
    let labels = c.args.labels.now in
    let h = c.args.history.now.entries in
    let n = c.args.written in
    cut _ c.from_residual.result c.args.out.now c.write_entries.new.out
    (spelled_history labels (entries_behind n (reverse h)))
    (subst (λ bs. AppendsFront (g.W.Write.contents c.args.out.now) (g.W.Write.contents c.write_entries.new.out) bs)
    (behind_told labels labels h (reverse h) n refl refl (omega (arith, length-reverse h, c.requires))) c.in_err-write_entries.ensures.err)
    c.in_err-write_entries.ensures.asked

pub returns-clause-ok : goal.returns-clause-ok
returns-clause-ok g c =
    let labels = c.args.labels.now in
    let h = c.args.history.now.entries in
    let n = c.args.written in
    passed _ c.args.out.now c.write_entries.new.out c.pass_on.new.self
    (spelled_history labels (entries_behind n (reverse h)))
    (subst (λ bs. Appends (g.W.Write.contents c.args.out.now) (g.W.Write.contents c.write_entries.new.out) bs)
    (behind_told labels labels h (reverse h) n refl refl (omega (arith, length-reverse h, c.requires))) c.in_ok-write_entries.ensures.ok)
    c.pass_on.ensures.kept c.pass_on.result c.pass_on.ensures.asked

pub returns-clause-err : goal.returns-clause-err
returns-clause-err g c =
    let labels = c.args.labels.now in
    let h = c.args.history.now.entries in
    let n = c.args.written in
    unpassed _ c.args.out.now c.write_entries.new.out c.pass_on.new.self
    (spelled_history labels (entries_behind n (reverse h)))
    (subst (λ bs. Appends (g.W.Write.contents c.args.out.now) (g.W.Write.contents c.write_entries.new.out) bs)
    (behind_told labels labels h (reverse h) n refl refl (omega (arith, length-reverse h, c.requires))) c.in_ok-write_entries.ensures.ok)
    c.pass_on.ensures.kept c.pass_on.result c.pass_on.ensures.asked
