use Rattle.std.proofs.Common.{◌≡◌, ℕ, Bool, false, not, Option, Some, None, is_some, sym, ap, ⊎_elim, ◌∙◌}
use Rattle.std.proofs.lemmas.Bool.{cases_eq, true≢false}
use Rattle.txn_tree.specs.Siblings.{IsFirst, is_child_at}
use Rattle.manager_core.proofs.looks.has_nobody_below.Goals as goal

none_first : (p : ℕ → Bool) (o : Option ℕ) → is_some o ≡ false → IsFirst p o → (m : ℕ) → p m ≡ false
none_first p None e first = first
none_first p (Some c) e first = absurd (true≢false e)

pub returns : goal.returns
returns c none u under =
    let p = is_child_at c.args.tree.now c.args.txn in
    let childless : (m : ℕ) → p m ≡ false = none_first p c.first_child.result (c.is_none.ensures ∙ ap not none) c.first_child.ensures.first in
    ⊎_elim
    (λ same. same)
    (λ other.
    let branch = c.first_child.ensures.branches u under (λ same. other (sym same)) in
    absurd (true≢false (sym branch.1 ∙ childless branch.0)))
    (cases_eq u c.args.txn)
