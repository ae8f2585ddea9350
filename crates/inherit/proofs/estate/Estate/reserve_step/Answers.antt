use Rattle.std.proofs.Common.{ℕ, sym, subst, ◌∙◌}
use Rattle.std.proofs.lemmas.Result.{on_ok_weaker}
use Rattle.inherit.specs.LocksAndVersions.{HasPlace}
use Rattle.inherit.proofs.Numbers.{no_number, one_number}
use Rattle.inherit.proofs.estate.Estate.reserve_step.Goals as goal

pub returns-in-Some-clause-ok : goal.returns-in-Some-clause-ok
returns-in-Some-clause-ok c =
    let tree = c.args.tree.now in
    let name = c.args.name.now in
    let new = c.reserve_asked.new.self in
    on_ok_weaker c.reserve_asked.result
    (λ place n is. subst (λ (m : ℕ). HasPlace new m c.args.asked.now) (sym (one_number tree name c.in-Some.txn c.in-Some.ensures.number n is)) place)
    c.reserve_asked.ensures.ok

pub returns-in-None-clause-ok : goal.returns-in-None-clause-ok
returns-in-None-clause-ok c = λ n is. absurd (no_number c.args.tree.now c.args.name.now n is (sym c.in-None.is ∙ c.no_of.ensures.place))
