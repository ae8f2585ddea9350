use Rattle.std.proofs.Common.{◌≡◌, ◌-◌, ◌++◌, ℕ, List, length, take, drop, refl, sym, ap, ap₂, subst₂, ◌∙◌, arith, take-append-drop}
use Rattle.txn_bytes.proofs.LastWords.{last_stays}
use Rattle.txn_bytes.proofs.same.are_fronts_same.Goals as goal

pub loop-left-preserved : goal.loop-left-preserved
loop-left-preserved c =
    let xs : List ℕ = c.loop-left.left.now in
    let ys : List ℕ = c.loop-left.right.now in
    let ours = c.in-Some.ensures.cases in
    let theirs = c.in-Some-split_first_chunk.ensures.cases in
    let kept = c.loop-left.invariant in
    let words : take 8 xs ≡ take 8 ys = sym ours.0 ∙ c.if-not-is_same_word.ensures.0 refl ∙ theirs.0 in
    record {
      len = omega (arith, ours.2, theirs.2, kept.len);
      last = subst₂ (λ (zs ws : List ℕ). drop (length zs - 8) zs ≡ drop (length ws - 8) ws) (sym ours.1) (sym theirs.1) (last_stays xs ys kept.len kept.last);
      same = (
        λ h. kept.same.0 (sym (take-append-drop 8 xs) ∙ ap₂ (λ (zs ws : List ℕ). zs ++ ws) words (sym ours.1 ∙ h ∙ theirs.1) ∙ take-append-drop 8 ys),
        λ h. ours.1 ∙ ap (λ (zs : List ℕ). drop 8 zs) (kept.same.1 h) ∙ sym theirs.1,
      );
    }
