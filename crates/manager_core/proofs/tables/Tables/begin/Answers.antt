use Rattle.std.proofs.Common.{ap, ◌∙◌}
use Rattle.std.proofs.lemmas.List.{map-append}
use Rattle.txn_names.specs.Path.{Path}
use Rattle.txn_tree.specs.States.{States, names}
use Rattle.txn_tree.specs.declared.status.Status.{Status}
use Rattle.manager_core.proofs.Looked.{seen_begun}
use Rattle.manager_core.proofs.tables.Tables.begin.Goals as goal

pub invariant_of-self : goal.invariant_of-self
invariant_of-self c =
    let m = c.self.inside in
    seen_begun m.tree c.begin.new.self c.args.name.now m.estate.locks m.waits.waits m.looks
    (ap (λ (s : States). names s) c.in-Ok.ensures.last ∙ map-append (λ (x : Path × Status). x.0) m.tree _) c.self.invariant
