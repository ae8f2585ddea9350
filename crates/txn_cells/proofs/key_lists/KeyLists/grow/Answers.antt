use Rattle.std.proofs.Common.{◌≡◌, ℕ, Bool, true, false, [], ◌∷◌, ◌++◌, refl, ap, sym, ◌∙◌, arith, rules, if◌then◌else◌}
use Rattle.std.specs.Prelude.{is_ok}
use Rattle.txn_cells.specs.Kept.{Listed, Lists, busy_in, listed_at}
use Rattle.txn_cells.proofs.Lists.{busy_grown, keys_grown}
use Rattle.txn_cells.proofs.key_lists.KeyLists.grow.Goals as goal

-- whether or not there was memory
keys_after : (b : Bool) (lists now : Lists) (new : Listed) → new ≡ [] → now ≡ (if b then lists ++ new ∷ [] else lists) → (u : ℕ) → listed_at now u ≡ listed_at lists u
keys_after true lists now new none is u = ap (λ (x : Lists). listed_at x u) (is ∙ ap (λ (ks : Listed). lists ++ ks ∷ []) none) ∙ keys_grown lists u
keys_after false lists now new none is u = ap (λ (x : Lists). listed_at x u) is

busy_after : (b : Bool) (lists now : Lists) (new : Listed) → new ≡ [] → now ≡ (if b then lists ++ new ∷ [] else lists) → busy_in now ≡ busy_in lists
busy_after true lists now new none is = ap (λ (x : Lists). busy_in x) (is ∙ ap (λ (ks : Listed). lists ++ ks ∷ []) none) ∙ busy_grown lists
busy_after false lists now new none is = ap (λ (x : Lists). busy_in x) is

pub loop-self-init : goal.loop-self-init
loop-self-init c = record { keys = λ u. refl; busy = c.self.invariant }

pub invariant_of-self : goal.invariant_of-self
invariant_of-self c = c.loop-self.invariant.busy

pub invariant_of-self-then-is_err : goal.invariant_of-self-then-is_err
invariant_of-self-then-is_err c =
    c.loop-self.invariant.busy ∙ sym (busy_after (is_ok c.push.result) c.loop-self.self-inside.lists.items c.push.new.self.items c.new.result c.new.ensures c.push.ensures.items)

pub returns-then-is_err-clause-lists : goal.returns-then-is_err-clause-lists
returns-then-is_err-clause-lists c =
    rw (sym c.self.view_is)
    (λ u. keys_after (is_ok c.push.result) c.loop-self.self-inside.lists.items c.push.new.self.items c.new.result c.new.ensures c.push.ensures.items u ∙ c.loop-self.invariant.keys u)

pub loop-self-smaller : goal.loop-self-smaller
loop-self-smaller c =
    let ok : is_ok c.push.result ≡ true = search rules in
    let longer = rw ok at c.push.ensures.len in
    omega (arith, longer, c.len.ensures, c.loop-self-test.true)

pub loop-self-preserved : goal.loop-self-preserved
loop-self-preserved c = record {
  keys = λ u. keys_after (is_ok c.push.result) c.loop-self.self-inside.lists.items c.push.new.self.items c.new.result c.new.ensures c.push.ensures.items u ∙ c.loop-self.invariant.keys u;
  busy = c.loop-self.invariant.busy ∙ sym (busy_after (is_ok c.push.result) c.loop-self.self-inside.lists.items c.push.new.self.items c.new.result c.new.ensures c.push.ensures.items);
}

pub returns-clause-lists : goal.returns-clause-lists
returns-clause-lists c = rw (sym c.self.view_is) c.loop-self.invariant.keys
