use Rattle.std.proofs.Common.{◌≡◌, ◌+◌, [], List, ℕ, arith, drop, length-drop, reverse, slice_get, subst, take, take_all}
use Rattle.txn_bytes.specs.Written.{AppendsFront}
use Rattle.txn_bytes.proofs.Exports.{front_of, on_err}
use Rattle.serial_spec.specs.declared.entry.Entry.{Entry}
use Rattle.line_language.specs.Report.{spelled_history}
use Rattle.report_text.specs.Lines.{entry_lines}
use Rattle.report_text.specs.inner.Batched.{Batches}
use Rattle.report_text.proofs.Batching.{batches_then, cut_off, unended}
use Rattle.report_text.proofs.Parts.{spelled-on, spelled-parted}
use Rattle.report_text.proofs.entries.put_history.Goals as goal

pub returns-in_err-put_entry_at-clause-err : goal.returns-in_err-put_entry_at-clause-err
returns-in_err-put_entry_at-clause-err g c =
    let es : List Entry = c.args.entries.now.entries in
    let n : ℕ = c.args.told in
    let k : ℕ = c.loop-place.place in
    let whole = cut_off _ _ _ _ _ (entry_lines c.args.labels.now (slice_get es (n + k))) c.loop-place.invariant c.in_err-put_entry_at.ensures.err in
    on_err c.from_residual.result
    (subst (λ bs. AppendsFront (g.W.Write.contents c.args.out.now) (g.W.Write.contents c.put_entry_at.new.out) bs) (spelled-parted c.args.labels.now es n k)
    (front_of _ _ _ (spelled_history c.args.labels.now (reverse (drop (k + 1) (drop n es)))) whole))

pub loop-place-preserved : goal.loop-place-preserved
loop-place-preserved g c =
    let es : List Entry = c.args.entries.now.entries in
    let n : ℕ = c.args.told in
    let k : ℕ = c.loop-place.place in
    rw (spelled-on c.args.labels.now es n k)
    (batches_then _ _ _ [] _ _ _ (entry_lines c.args.labels.now (slice_get es (n + k))) c.loop-place.invariant c.in_ok-put_entry_at.ensures.ok)

pub returns-clause-err : goal.returns-clause-err
returns-clause-err g c =
    let es : List Entry = c.args.entries.now.entries in
    let n : ℕ = c.args.told in
    let k : ℕ = c.loop-place.place in
    let all : take k (drop n es) ≡ drop n es =
    take_all k (drop n es) (omega (arith, length-drop n es, c.loop-place-test.false, c.saturating_sub-left.ensures, c.len.ensures)) in
    unended _ _ _ _ _ c.hand_on.result
    (subst
    (λ (xs : List Entry). Batches (g.W.Write.contents c.args.out.now) (g.W.Write.contents c.loop-place.out) [] c.loop-place.batch (spelled_history c.args.labels.now (reverse xs)))
    all c.loop-place.invariant)
    c.hand_on.ensures.err
