use Rattle.std.proofs.Common.{sym, ◌∙◌}
use Rattle.std.proofs.lemmas.Bool.{not-false}
use Rattle.manager_core.proofs.Suspects.{last_is_victim, quiet_but_absent, quiet_but_on_none}
use Rattle.manager_core.proofs.breaking.next_own_victim.Goals as goal

pub returns-in_err-txn-clause-none : goal.returns-in_err-txn-clause-none
returns-in_err-txn-clause-none c =
    let are = rw (sym c.tables.view_is) at c.requires.are in
    rw c.from_residual.ensures (quiet_but_absent _ _ _ are c.args.name.now (not-false _ (sym c.in_err-txn.ensures.begun)) c.requires.own)

pub returns-in_err-last-clause-none : goal.returns-in_err-last-clause-none
returns-in_err-last-clause-none c =
    let are = rw (sym c.tables.view_is) at c.requires.are in
    rw c.from_residual-in_err-last.ensures
    (quiet_but_on_none _ _ _ are c.requires.allowed c.has_each_once.ensures c.has_distinct_names.ensures.distinct c.args.name.now c.in_ok-txn.txn
    c.in_ok-txn.ensures.number c.requires.own (rw c.locks.ensures at c.in_err-last.ensures.none))

pub returns-clause-some : goal.returns-clause-some
returns-clause-some c =
    let are = rw (sym c.tables.view_is) at c.requires.are in
    let named =
    last_is_victim _ _ _ are c.requires.allowed c.has_each_once.ensures c.has_distinct_names.ensures.distinct c.args.name.now c.in_ok-txn.txn
    c.in_ok-txn.ensures.number c.requires.own c.in_ok-last.last (rw c.locks.ensures at c.in_ok-last.ensures.some) in
    rw (c.copied.ensures ∙ c.name_of.ensures ∙ named.1) named.2

pub returns-clause-none : goal.returns-clause-none
returns-clause-none c =
    let are = rw (sym c.tables.view_is) at c.requires.are in
    let named =
    last_is_victim _ _ _ are c.requires.allowed c.has_each_once.ensures c.has_distinct_names.ensures.distinct c.args.name.now c.in_ok-txn.txn
    c.in_ok-txn.ensures.number c.requires.own c.in_ok-last.last (rw c.locks.ensures at c.in_ok-last.ensures.some) in
    rw (c.copied.ensures ∙ c.name_of.ensures ∙ named.1) tt
