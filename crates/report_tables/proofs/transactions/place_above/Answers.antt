use Rattle.std.proofs.Common.{◌≡◌, suc, Some, unwrap_or, sym, ap, ◌∙◌, arith}
use Rattle.std.specs.Prelude.{slice_get}
use Rattle.txn_names.specs.Path.{parent}
use Rattle.txn_tree.proofs.Exports.{child_parts}
use Rattle.report_tables.specs.Told.{places}
use Rattle.report_tables.proofs.transactions.place_above.Goals as goal

pub returns-in-Some-clause-place : goal.returns-in-Some-clause-place
returns-in-Some-clause-place c t at =
    let next : c.place_of.result ≡ suc c.in-Some.parent = omega (arith, c.place_of.ensures) in
    let w = child_parts _ _ c.in-Some.ensures.named in
    let own : w.1 ≡ t = ap (λ o. unwrap_or o t) (sym w.3 ∙ at) in
    ap (slice_get (places c.args.tree.now)) next ∙ w.2 ∙ ap Some (sym w.4 ∙ ap parent own)
