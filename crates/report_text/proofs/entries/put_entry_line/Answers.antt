use Rattle.std.proofs.Common.{ℕ, List, subst}
use Rattle.txn_bytes.specs.Written.{AppendsFront}
use Rattle.txn_bytes.proofs.Exports.{front_of, on_err, then_on_err}
use Rattle.event_lists.specs.Views.{seen}
use Rattle.std.specs.Io.KnownBytes.{Appends}
use Rattle.report_text.specs.Lines.{entry_line}
use Rattle.report_text.proofs.Batching.{cut_back, passed_on_ok}
use Rattle.report_text.proofs.entries.put_entry_line.Goals as goal

pub returns-in_err-hand_on-clause-err : goal.returns-in_err-hand_on-clause-err
returns-in_err-hand_on-clause-err g c =
    let held : List ℕ = c.args.batch.now in
    let line : List ℕ = entry_line c.args.labels.now (seen c.args.entry.now) in
    let back = cut_back held _ c.truncate.new.self line _ _ _ c.truncate.ensures c.len-held.ensures c.is_ok.ensures.value c.if-is_ok.false c.put_entry_parts.ensures.err in
    on_err c.from_residual.result (front_of _ _ held line
    (subst (λ bs. AppendsFront (g.W.Write.contents c.args.out.now) (g.W.Write.contents c.hand_on.new.out) bs) back c.in_err-hand_on.ensures.err))

pub returns-clause-ok : goal.returns-clause-ok
returns-clause-ok g c =
    let held : List ℕ = c.args.batch.now in
    let line : List ℕ = entry_line c.args.labels.now (seen c.args.entry.now) in
    let back = cut_back held _ c.truncate.new.self line _ _ _ c.truncate.ensures c.len-held.ensures c.is_ok.ensures.value c.if-is_ok.false c.put_entry_parts.ensures.err in
    passed_on_ok _ _ _ held _ line c.put_entry_apart.result c.in_ok-hand_on.ensures.none
    (subst (λ bs. Appends (g.W.Write.contents c.args.out.now) (g.W.Write.contents c.hand_on.new.out) bs) back c.in_ok-hand_on.ensures.ok)
    c.put_entry_apart.ensures.ok

pub returns-clause-err : goal.returns-clause-err
returns-clause-err g c =
    let held : List ℕ = c.args.batch.now in
    let line : List ℕ = entry_line c.args.labels.now (seen c.args.entry.now) in
    let back = cut_back held _ c.truncate.new.self line _ _ _ c.truncate.ensures c.len-held.ensures c.is_ok.ensures.value c.if-is_ok.false c.put_entry_parts.ensures.err in
    then_on_err _ _ _ held line c.put_entry_apart.result
    (subst (λ bs. Appends (g.W.Write.contents c.args.out.now) (g.W.Write.contents c.hand_on.new.out) bs) back c.in_ok-hand_on.ensures.ok)
    c.put_entry_apart.ensures.err
