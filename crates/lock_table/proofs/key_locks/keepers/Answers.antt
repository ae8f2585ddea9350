use Rattle.std.proofs.Common.{◌≡◌, ℕ, List, true, filter, sym, ◌∙◌, arith}
use Rattle.std.proofs.lemmas.List.{take_all}
use Rattle.lock_table.specs.Locked.{modes_of}
use Rattle.lock_table.specs.Blocking.{keeps_out}
use Rattle.lock_table.proofs.Blockers.{filter_rivals, kept_by}
use Rattle.lock_table.proofs.key_locks.keepers.Goals as goal

pub returns-in_err-push-clause-succeeds : goal.returns-in_err-push-clause-succeeds
returns-in_err-push-clause-succeeds c = λ free.
    let n : ℕ = c.holder-item.result in
    let here : keeps_out c.args.tree.now (modes_of c.args.locks.now) c.args.txn c.args.kind n ≡ true = sym c.keeps_out.ensures ∙ c.if-keeps_out.true in
    absurd (kept_by c.args.tree.now (modes_of c.args.locks.now) c.args.txn c.args.kind n here free)

pub returns-clause-found : goal.returns-clause-found
returns-clause-found c =
    let keeps = keeps_out c.args.tree.now (modes_of c.args.locks.now) c.args.txn c.args.kind in
    let holders : List ℕ = c.rivals-holder-items.result.now in
    let all : c.loop-holder.found.items ≡ filter keeps holders = rw (take_all c.loop-holder.holder-index holders (omega (arith, c.loop-holder-test.false))) at c.loop-holder.invariant in
    all ∙ filter_rivals c.args.tree.now (modes_of c.args.locks.now) c.args.txn c.args.kind holders c.rivals-holder-items.ensures.rising c.rivals-holder-items.ensures.all
