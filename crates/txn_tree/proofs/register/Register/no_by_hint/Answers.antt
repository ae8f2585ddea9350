use Rattle.std.proofs.Common.{sym, ap, ◌∙◌}
use Rattle.std.specs.Prelude.{is_some}
use Rattle.indexmap.proofs.MapLemmas.{some_index}
use Rattle.txn_names.specs.Path.{path_eq}
use Rattle.txn_tree.specs.States.{names}
use Rattle.txn_tree.proofs.Numbers.{number_at, no_root, is_begun}
use Rattle.txn_tree.proofs.Places.{found_at}
use Rattle.txn_tree.proofs.register.Register.no_by_hint.Goals as goal

pub returns-then-is_at-clause-place : goal.returns-then-is_at-clause-place
returns-then-is_at-clause-place c =
    sym (found_at (names c.args.self.now) c.is_tree.ensures.distinct c.args.name.now c.args.hint (c.is_at.ensures c.if-is_at.true))

pub returns-then-is_at-clause-number : goal.returns-then-is_at-clause-number
returns-then-is_at-clause-number c =
    let place = found_at (names c.args.self.now) c.is_tree.ensures.distinct c.args.name.now c.args.hint (c.is_at.ensures c.if-is_at.true) in
    number_at (names c.args.self.now) c.is_tree.ensures.distinct c.args.name.now c.args.hint place

pub returns-then-is_at-clause-begun : goal.returns-then-is_at-clause-begun
returns-then-is_at-clause-begun c =
    let tree = c.args.self.now in
    let t = c.args.name.now in
    let place = found_at (names tree) c.is_tree.ensures.distinct t c.args.hint (c.is_at.ensures c.if-is_at.true) in
    sym (ap is_some place) ∙ some_index (path_eq t) tree ∙ is_begun tree c.is_tree.ensures t c.has_labels.ensures

pub returns-then-is_at-clause-rootless : goal.returns-then-is_at-clause-rootless
returns-then-is_at-clause-rootless c = no_root c.args.self.now c.is_tree.ensures
