use Rattle.std.proofs.Common.{sym, ◌∙◌}
use Rattle.manager_core.proofs.Locks.{tells}
use Rattle.manager_core.proofs.Pairing.{agreed}
use Rattle.manager_core.proofs.breaking.next_victim.Goals as goal

pub returns-in_err-txn-clause-none : goal.returns-in_err-txn-clause-none
returns-in_err-txn-clause-none c =
    let are = rw (sym c.tables.view_is) at c.requires.are in
    let told = agreed _ _ _ are c.requires.allowed c.has_distinct_names.ensures.distinct c.has_each_once.ensures in
    rw c.from_residual.ensures (told.quiet ((rw c.locks.ensures at c.in_err-txn.ensures.none) _ (tells _ _ _ are)))

pub returns-clause-some : goal.returns-clause-some
returns-clause-some c =
    let are = rw (sym c.tables.view_is) at c.requires.are in
    let told = agreed _ _ _ are c.requires.allowed c.has_distinct_names.ensures.distinct c.has_each_once.ensures in
    let named = told.victim c.in_ok-txn.txn ((rw c.locks.ensures at c.in_ok-txn.ensures.some) _ (tells _ _ _ are)) in
    rw (c.copied.ensures ∙ c.name_of.ensures ∙ named.1) named.2

pub returns-clause-none : goal.returns-clause-none
returns-clause-none c =
    let are = rw (sym c.tables.view_is) at c.requires.are in
    let told = agreed _ _ _ are c.requires.allowed c.has_distinct_names.ensures.distinct c.has_each_once.ensures in
    let named = told.victim c.in_ok-txn.txn ((rw c.locks.ensures at c.in_ok-txn.ensures.some) _ (tells _ _ _ are)) in
    rw (c.copied.ensures ∙ c.name_of.ensures ∙ named.1) tt
