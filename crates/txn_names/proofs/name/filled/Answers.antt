use Rattle.std.proofs.Common.{◌≡◌, ℕ, List, length, drop, take, replicate, ◌++◌, ◌≤◌, ◌∙◌, ap, sym, arith, length-take-le}
use Rattle.std.proofs.lemmas.List.{drop-replicate, length-replicate}
use Rattle.txn_names.proofs.name.filled.Goals as goal

pub slice_bounds-held-end : goal.slice_bounds-held-end
slice_bounds-held-end c = c.requires

-- the bytes fill the front of the field
front : (bs : List ℕ) → length bs ≤ 271 → length {A = ℕ} (take (length bs) (replicate 271 0)) ≡ length bs
front bs h = length-take-le (length bs) (replicate 271 0) (omega (arith, h, length-replicate {A = ℕ} 271 0))

pub slice_bounds-copy_from_slice-end : goal.slice_bounds-copy_from_slice-end
slice_bounds-copy_from_slice-end c = sym (front c.args.bytes.now c.requires)

pub copy_from_slice-requires : goal.copy_from_slice-requires
copy_from_slice-requires c = front c.args.bytes.now c.requires

pub returns : goal.returns
returns c =
    ap (λ (xs : List ℕ). xs ++ drop (length c.args.bytes.now) (replicate 271 0)) c.copy_from_slice.ensures.after
    ∙ ap (λ (zs : List ℕ). c.args.bytes.now ++ zs) (drop-replicate (length c.args.bytes.now) 271 0)
