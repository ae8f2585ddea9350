use Rattle.std.proofs.Common.{◌≡◌, ◌||◌, ℕ, List, true, nat_eq, ap, refl, subst, ◌∙◌}
use Rattle.std.specs.List.{list_any}
use Rattle.txn_cells.proofs.ByKey.{any-insert, any_at}
use Rattle.txn_cells.proofs.Puts.{on_number}
use Rattle.txn_cells.proofs.numbers.put_in.Goals as goal

pub returns-in-Err-clause-each : goal.returns-in-Err-clause-each
returns-in-Err-clause-each c =
    let items = rw c.unwrap.ensures at c.insert.ensures.items in
    λ u. ap (list_any (nat_eq u)) items ∙ any-insert c.args.numbers.now.items c.args.txn c.in-Err.place u

pub returns-in_default-clause-each : goal.returns-in_default-clause-each
returns-in_default-clause-each c =
    let xs : List ℕ = c.args.numbers.now.items in
    let t = c.args.txn in
    let there = rw (c.in_default.is, c.as_slice.ensures.value) at c.find.ensures.there in
    λ u.
    on_number t u (λ b. list_any (nat_eq u) xs ≡ (b || list_any (nat_eq u) xs))
    (λ e. subst (λ (v : ℕ). list_any (nat_eq v) xs ≡ true) e (any_at xs t c.in_default.field-0 there))
    (λ _. refl)
