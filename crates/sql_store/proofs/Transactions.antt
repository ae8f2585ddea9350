-- A transaction that makes changes one after another, or piece by piece.
use Rattle.std.proofs.Common.{◌≡◌, ◌<◌, ℤ, List, [], ◌∷◌, ◌++◌, length, append-nil, append_assoc, refl, sym, ap, subst, ◌∙◌, arith}
use Rattle.sqlite.specs.Store.{Ghosts}
use Rattle.sqlite.specs.Held.{Held, state}
use Rattle.sqlite.specs.State.{IsUnchanged}
use Rattle.txn_names.specs.declared.change.Change.{Change}
use Rattle.sql_store.specs.Asked.{MakesChange, MakesEach, MakesPiece, MakesPieces, ExecutedEach, joined, Transacted, Committed}

joined_push : (pieces : List (List Change)) (piece : List Change) → joined (pieces ++ piece ∷ []) ≡ joined pieces ++ piece
joined_push [] piece = append-nil piece
joined_push (p ∷ pieces) piece = ap (λ l. p ++ l) (joined_push pieces piece) ∙ sym (append_assoc p (joined pieces) piece)

module _ {S : Type 0} (g : Ghosts S) where
  pub each_more : (number : ℤ) (cs : List Change) (c : Change) (x y z : Held S) → MakesEach g number cs x y → MakesChange g number c.key c.value y z → MakesEach g number (cs ++ c ∷ []) x z
  each_more number [] c x y z same one = let first = subst (λ h. MakesChange g number c.key c.value h z) same one in (z, first, refl)
  each_more number (d ∷ cs) c x y z all one = (all.0, all.1, each_more number cs c all.0 y z all.2 one)

  pieces_more : (number : ℤ) (pieces : List (List Change)) (piece : List Change) (x y z : Held S) → MakesPieces g number pieces x y → MakesPiece g number piece y z → MakesPieces g number (pieces ++ piece ∷ []) x z
  pieces_more number [] piece x y z same one = let first = subst (λ h. MakesPiece g number piece h z) same one in (z, first, refl)
  pieces_more number (p ∷ pieces) piece x y z all one = (all.0, all.1, pieces_more number pieces piece all.0 y z all.2 one)

  pub executed_more : (number : ℤ) (cs piece : List Change) (x y z : Held S) → ExecutedEach g number cs x y → MakesPiece g number piece y z → ExecutedEach g number (cs ++ piece) x z
  executed_more number cs piece x y z all one =
      (all.0 ++ piece ∷ [], ap (λ l. l ++ piece) all.1 ∙ sym (joined_push all.0 piece), pieces_more number all.0 piece x y z all.2 one)

  pub committed_some : (number : ℤ) (cs : List Change) (x y : Held S) → 0 < length cs → Transacted g number cs x y → Committed g number cs x y
  committed_some number [] x y some h = absurd (omega arith)
  committed_some number (c ∷ cs) x y some h = h

  pub committed_none : (number : ℤ) (cs : List Change) (x y : Held S) → length cs ≡ 0 → IsUnchanged (state g x) (state g y) → Committed g number cs x y
  committed_none number [] x y none h = h
  committed_none number (c ∷ cs) x y none h = absurd (omega arith)
