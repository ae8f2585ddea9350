use Rattle.std.proofs.Common.{ℕ, List, ◌++◌, refl, sym, subst}
use Rattle.std.specs.Map.{keys_of}
use Rattle.serial_spec.specs.declared.target.Asked.TheVariants.{At}
use Rattle.report_tables.specs.Chained.{known_by}
use Rattle.report_tables.specs.Told.{AreTransactionsOf}
use Rattle.report_tables.proofs.Exports.{roomy, keys_grown}
use Rattle.report_judge.proofs.Following.{on_ok}
use Rattle.report_judge.proofs.seen.take_access.Goals as goal

pub returns-clause-effect : goal.returns-clause-effect
returns-clause-effect c =
    let x = c.args.transactions.now in
    let old = keys_of c.args.values.now.entries in
    let grown = c.in_ok-key.ensures.grown in
    on_ok c.access.result _ _ c.access.ensures
    (λ ok told base groups h are line.
    told base (known_by (keys_of c.number_of.new.values.entries) groups) h (At c.args.key.now c.args.op)
    (subst (λ (ks : List (List ℕ)). AreTransactionsOf base (known_by ks groups) h x) (sym grown.1)
    (roomy base (known_by old groups) (known_by (old ++ grown.0) groups) h x (keys_grown old groups grown.0) are)) line (c.in_ok-key.ensures.key, refl))
