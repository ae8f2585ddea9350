-- The operations on a key, row by row: each is told by its word and its number.
use Rattle.std.proofs.Common.{◌≡◌, ℕ, ℤ, pos, ◌+ℤ◌, List, [], ◌∷◌, length, true, cond, Option, Some, None, refl, sym, ap, ◌∙◌, subst, ◌≤◌, arith}
use Rattle.std.specs.Prelude.{find}
use Rattle.std.specs.List.{list_all}
use Rattle.std.specs.Str.{bytes_eq}
use Rattle.std.proofs.lemmas.Slice.Eq.{bytes_eq-Decides}
use Rattle.txn_names.specs.Text.{is_label_byte}
use Rattle.txn_names.proofs.Exports.{on_test}
use Rattle.serial_spec.specs.Operations.{amount, is_i64, reply_of, value_after}
use Rattle.serial_spec.specs.declared.operation.Op.{Op}
use Rattle.serial_spec.specs.declared.operation.Op.TheVariants.{Get, Set, Add, Del}
use Rattle.serial_spec.specs.declared.operation.Reply.TheVariants.{New, Overflow}
use Rattle.serial_spec.specs.declared.entry.Answer.TheVariants.{Done}
use Rattle.line_language.specs.declared.lengths.TheConstants.{MOST_WORD}
use Rattle.line_language.specs.Entries.{IsAnswer}
use Rattle.line_language.specs.Verbs.{IsOp, may_reply, operand, operation_of, operations, with_operand, word}

-- ---- words

-- the word of an operation asks it
pub word_again : (o : Op) → operation_of (word o) ≡ Some (with_operand o (pos 0))
word_again Get = refl
word_again o = refl

found : (w : List ℕ) (os : List Op) (o : Op) → find (λ p. bytes_eq w (word p)) os ≡ Some o → w ≡ word o
found w [] o h = cc
found w (p ∷ os) o h = on_test (bytes_eq w (word p)) (λ b. cond b (Some p) (find (λ q. bytes_eq w (word q)) os) ≡ Some o → w ≡ word o)
    (λ is e. let same : p ≡ o = cc in (bytes_eq-Decides w (word p)).0 is ∙ ap word same)
    (λ _ e. found w os o e)
    h

-- and no other word does
pub word_reads : (w : List ℕ) (o : Op) → operation_of w ≡ Some o → w ≡ word o
word_reads w o h = found w operations o h

pub word_plain : (o : Op) → list_all is_label_byte (word o) ≡ true
word_plain Get = refl
word_plain o = refl

pub word_length : (o : Op) → length (word o) ≤ MOST_WORD
word_length Get = omega arith
word_length o = omega arith

-- ---- numbers

-- another number leaves the word
pub word_with : (o : Op) (v : ℤ) → word (with_operand o v) ≡ word o
word_with Get v = refl
word_with o v = refl

pub operand_with : (o : Op) (u v : ℤ) → operand o ≡ Some u → operand (with_operand o v) ≡ Some v
operand_with Get u v h = cc
operand_with Del u v h = cc
operand_with o u v h = refl

pub with_again : (o : Op) (u v : ℤ) → operand o ≡ Some v → with_operand (with_operand o u) v ≡ o
with_again Get u v h = refl
with_again (Set w) u v h = let same : w ≡ v = cc in ap Set (sym same)
with_again (Add w) u v h = let same : w ≡ v = cc in ap Add (sym same)
with_again Del u v h = refl

-- an operation without a number stays as it is
pub with_none : (o : Op) (v : ℤ) → operand o ≡ None → with_operand o v ≡ o
with_none Get v h = refl
with_none Del v h = refl
with_none o v h = cc

-- ---- replies and values

abbrev AreNumbers : Option ℤ → Type 0
AreNumbers o = (w : ℤ) → o ≡ Some w → is_i64 w ≡ true

-- the reply at a number is one that the operation may have
pub reply_fits : (o : Op) (v : Option ℤ) → AreNumbers v → (may_reply o (reply_of v o) ≡ true) × IsAnswer (Done (reply_of v o))
reply_fits Get None is = (refl, tt)
reply_fits Get (Some w) is = (refl, is w refl)
reply_fits (Add d) v is = on_test (is_i64 (amount v +ℤ d))
    (λ b. (may_reply (Add d) (cond b (New (amount v +ℤ d)) Overflow) ≡ true) × IsAnswer (Done (cond b (New (amount v +ℤ d)) Overflow)))
    (λ e. (refl, e)) (λ _. (refl, tt))
reply_fits o v is = (refl, tt)

added : (v w : ℤ) (o : Option ℤ) → (o ≡ Some w → is_i64 w ≡ true) → cond (is_i64 v) (Some v) o ≡ Some w → is_i64 w ≡ true
added v w o old e = on_test (is_i64 v) (λ b. cond b (Some v) o ≡ Some w → is_i64 w ≡ true)
    (λ is same. let eq : v ≡ w = cc in subst (λ (x : ℤ). is_i64 x ≡ true) eq is) (λ _ same. old same) e

-- a number is made of numbers
pub left_is : (o : Option ℤ) (op : Op) (w : ℤ) → IsOp op → AreNumbers o → value_after o op ≡ Some w → is_i64 w ≡ true
left_is o Get w is old e = old w e
left_is o (Set v) w is old e = let eq : v ≡ w = cc in subst (λ (x : ℤ). is_i64 x ≡ true) eq is
left_is o (Add d) w is old e = added (amount o +ℤ d) w o (old w) e
left_is o Del w is old e = cc
