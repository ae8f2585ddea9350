use Rattle.std.proofs.Common.{◌≡◌, ◌<◌, Some, None, sym, rules}
use Rattle.std.proofs.lemmas.Result.{on_ok_weaker}
use Rattle.std.specs.Prelude.{length}
use Rattle.txn_names.specs.Path.{parent}
use Rattle.txn_tree.specs.Asked.{IsNumberOf}
use Rattle.inherit.proofs.Ready.{ready_below, ready_nowhere, ready_top}
use Rattle.inherit.proofs.estate.Estate.reserve_commit.Goals as goal

pub returns-in-Some-no_of-clause-ok : goal.returns-in-Some-no_of-clause-ok
returns-in-Some-no_of-clause-ok c =
    let t = c.args.name.now in
    let p = c.in-Some-no_of.parent in
    let is : IsNumberOf c.args.tree.now (parent t) p = search rules in
    let below : length t ≡ 1 → ⊥ = search rules in
    on_ok_weaker c.reserve_for_parent.result (ready_below c.args.tree.now c.reserve_for_parent.new.self t c.args.child c.requires p is below) c.reserve_for_parent.ensures.ok

pub returns-in-None-no_of-clause-ok : goal.returns-in-None-no_of-clause-ok
returns-in-None-no_of-clause-ok c =
    let t = c.args.name.now in
    let below : length t ≡ 1 → ⊥ = search rules in
    ready_nowhere c.args.tree.now c.args.self.now t c.args.child c.requires (search rules) below

pub returns-in-None-clause-ok : goal.returns-in-None-clause-ok
returns-in-None-clause-ok c =
    let t = c.args.name.now in
    let top : length t ≡ 1 = search rules in
    on_ok_weaker c.reserve_for_base.result (ready_top c.args.tree.now (record { locks = c.self.inside.locks; versions = c.reserve_for_base.new.self }) t c.args.child c.requires top) c.reserve_for_base.ensures.ok

pub returns-in-Some-no_of-clause-succeeds : goal.returns-in-Some-no_of-clause-succeeds
returns-in-Some-no_of-clause-succeeds c =
    let t = c.args.name.now in
    let p = c.in-Some-no_of.parent in
    let is : IsNumberOf c.args.tree.now (parent t) p = search rules in
    let below : 1 < length t = search rules in
    λ ready. c.reserve_for_parent.ensures.succeeds (ready c.args.child c.requires (Some p) (below, is))

pub returns-in-None-clause-succeeds : goal.returns-in-None-clause-succeeds
returns-in-None-clause-succeeds c =
    let top : length c.args.name.now ≡ 1 = search rules in
    rw (sym c.self.view_is) (λ ready. c.reserve_for_base.ensures.succeeds (ready c.args.child c.requires None top))
