-- What is kept of the lines of a history without entries.
use Rattle.std.proofs.Common.{◌≡◌, ℕ, zero, suc, false, leb, replicate, slice_index, [], refl, ap, ◌∙◌, arith}
use Rattle.std.proofs.lemmas.Bool.{lt-leb, and_right}
use Rattle.indexmap.specs.IndexMap.{IsEmpty}
use Rattle.txn_history.specs.declared.line_states.LineStates.{LineStates}
use Rattle.txn_history.specs.Tables.{Place, has_closed, AreLines}

none_read : (n s : ℕ) → slice_index (replicate n 0) s ≡ 0
none_read zero s = refl
none_read (suc n) zero = refl
none_read (suc n) (suc s) = none_read n s

none_closed : (n : ℕ) (p : Place) → has_closed (replicate n 0) p ≡ false
none_closed n (s, zero) = refl
none_closed n (s, suc l) = and_right _ _ (ap (leb (suc l)) (none_read n s) ∙ lt-leb (suc l) 0 (omega arith))

pub none_known : (n : ℕ) (s : LineStates) → s.closed ≡ replicate n 0 → IsEmpty s.others → AreLines [] s
none_known n s closed others = record { each = λ p. rw (closed, none_closed n p, others) refl; beyond = λ p a. rw others refl }
