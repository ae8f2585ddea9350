use Rattle.std.proofs.Common.{◌≡◌, ◌<◌, Some, None, rules}
use Rattle.std.specs.Prelude.{length}
use Rattle.txn_names.specs.Path.{parent}
use Rattle.txn_tree.specs.Asked.{IsNumberOf}
use Rattle.table_tests.proofs.inherit_tests.commit_once.Goals as goal

pub commit_child-requires : goal.commit_child-requires
commit_child-requires c =
    let t = c.args.name.now in
    let p = c.in-Some-no_of.parent in
    let below : 1 < length t = search rules in
    let is : IsNumberOf c.args.tree.now (parent t) p = search rules in
    record { room = c.in_ok-reserve_for.ensures.ok c.in-Some.child c.in-Some.ensures.number (Some p) (below, is) }

pub commit_top-requires : goal.commit_top-requires
commit_top-requires c =
    let top : length c.args.name.now ≡ 1 = search rules in
    record { room = c.in_ok-reserve_for.ensures.ok c.in-Some.child c.in-Some.ensures.number None top }
