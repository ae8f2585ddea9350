use Rattle.std.proofs.Common.{◌≡◌, ◌∙◌, ◌-◌, ◌&&◌, ℕ, List, length, take, drop, ap, ap₂, arith, rules}
use Rattle.std.specs.List.{list_all}
use Rattle.txn_names.specs.Text.{is_key_byte}
use Rattle.txn_names.proofs.KeyBytes.{halves_decide}
use Rattle.txn_names.proofs.key.are_few_key_bytes.Goals as goal

pub returns-in-Some-Some : goal.returns-in-Some-Some
returns-in-Some-Some c =
    let xs : List ℕ = c.args.bytes.now in
    let last = c.in-Some-Some.ensures'.cases in
    let front : c.in-Some-Some.first.now ≡ take 4 xs = search rules in
    let back : c.in-Some-Some.last.now ≡ drop (length xs - 4) xs = search rules in
    ap₂ (λ a b. a && b) (c.is_key_half.ensures ∙ ap (list_all is_key_byte) front) (c.is_key_half-in-Some-Some.ensures ∙ ap (list_all is_key_byte) back)
    ∙ halves_decide is_key_byte xs last.0 (omega (arith, c.requires))
