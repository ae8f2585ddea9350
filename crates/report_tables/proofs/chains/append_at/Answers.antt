use Rattle.std.proofs.Common.{ap, set, ◌∙◌}
use Rattle.report_tables.specs.Chained.{joined}
use Rattle.report_tables.proofs.Leading.{chain_within, changed_past}
use Rattle.report_tables.proofs.chains.append_at.Goals as goal
use Rattle.report_tables.proofs.chains.append_at.Goals.{then-place-chains, else-place-chains}

pub returns-clause-chains : goal.returns-clause-chains
returns-clause-chains c =
    let cs = c.args.chains.now in
    let p = c.args.place in
    let more = c.args.more in
    elim c.if-place-chains.branch [
      | then-place-chains w ↦
          w.chains-is ∙ ap (set cs p) (w.joined.ensures ∙ ap (λ o. joined o more) c.chain_at-own.ensures) ∙ chain_within cs p more more w.if-place-chains.true
      | else-place-chains w ↦ w.chains-is ∙ changed_past (λ o. joined o more) cs p w.if-place-chains.false
    ]
