use Rattle.std.proofs.Common.{◌<◌, ◌∙◌, length, arith}
use Rattle.txn_names.proofs.Pieces.{at_end, at_slash}
use Rattle.txn_names.proofs.OnePass.{other, past}
use Rattle.txn_names.proofs.name.cut_label.Goals as goal

pub returns-then-end-bytes-clause-parts : goal.returns-then-end-bytes-clause-parts
returns-then-end-bytes-clause-parts c =
    let e = c.label_end-end in
    past c.args.bytes.now e.result e.ensures.within e.ensures.plain ∙ at_end c.args.bytes.now e.result (omega (arith, c.if-end-bytes.true))

pub returns-then-bytes-end-eq47-clause-parts : goal.returns-then-bytes-end-eq47-clause-parts
returns-then-bytes-end-eq47-clause-parts c =
    let e = c.label_end-end in
    let inside : e.result < length c.args.bytes.now = omega (arith, e.ensures.within, c.if-end-bytes.false) in
    past c.args.bytes.now e.result e.ensures.within e.ensures.plain ∙ at_slash c.args.bytes.now e.result inside c.if-bytes-end-eq47.true

pub returns-clause-none : goal.returns-clause-none
returns-clause-none c =
    let e = c.label_end-end in
    let inside : e.result < length c.args.bytes.now = omega (arith, e.ensures.within, c.if-end-bytes.false) in
    λ _. other c.args.bytes.now e.result inside e.ensures.plain (e.ensures.other inside) c.if-bytes-end-eq47.false
