use Rattle.std.proofs.Common.{ℕ, List, ◌++◌, sym, subst}
use Rattle.std.specs.Map.{keys_of}
use Rattle.serial_spec.specs.declared.target.Asked.TheVariants.{Over}
use Rattle.report_tables.specs.Chained.{known_by}
use Rattle.report_tables.specs.Told.{AreTransactionsOf}
use Rattle.report_tables.proofs.Exports.{roomy, groups_grown}
use Rattle.report_judge.proofs.Following.{on_ok}
use Rattle.report_judge.proofs.seen.take_sum.Goals as goal

pub returns : goal.returns
returns c =
    let x = c.args.transactions.now in
    let old = keys_of c.args.groups.now.entries in
    let grown = c.in_ok-group.ensures.grown in
    on_ok c.access.result _ _ c.access.ensures
    (λ ok told base keys h are line.
    told base (known_by keys (keys_of c.group_number.new.groups.entries)) h (Over c.args.group.now)
    (subst (λ (gs : List (List ℕ)). AreTransactionsOf base (known_by keys gs) h x) (sym grown.1)
    (roomy base (known_by keys old) (known_by keys (old ++ grown.0)) h x (groups_grown keys old grown.0) are)) line c.in_ok-group.ensures.group)
