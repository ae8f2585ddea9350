-- The operations on a key as lines have them: a word, a number behind the key or none, and what
-- each may be replied. What they do is in the `Operations` of serial_spec.
use Rattle.std.specs.Prelude.{ℕ, ℤ, pos, Bool, true, false, List, [], ◌∷◌, Option, Some, None, IfSome, IsTrue, find, codes}
use Rattle.std.specs.Str.{bytes_eq}
use Rattle.serial_spec.specs.Operations.{is_i64}
use Rattle.serial_spec.specs.declared.operation.Op.{Op}
use Rattle.serial_spec.specs.declared.operation.Op.TheVariants.{Get, Set, Add, Del}
use Rattle.serial_spec.specs.declared.operation.Reply.{Reply}
use Rattle.serial_spec.specs.declared.operation.Reply.TheVariants.{Ok, Value, Absent, New, Overflow}

-- each operation, with the number 0 where it has one
abbrev pub operations : List Op
operations = Get ∷ Set (pos 0) ∷ Add (pos 0) ∷ Del ∷ []

abbrev pub word : Op → List ℕ
word Get = codes "get"
word (Set v) = codes "set"
word (Add d) = codes "add"
word Del = codes "del"

-- its number, if it has one
abbrev pub operand : Op → Option ℤ
operand Get = None
operand (Set v) = Some v
operand (Add d) = Some d
operand Del = None

-- the same operation with this number
abbrev pub with_operand : Op → ℤ → Op
with_operand Get v = Get
with_operand (Set u) v = Set v
with_operand (Add u) v = Add v
with_operand Del v = Del

abbrev pub may_reply : Op → Reply → Bool
may_reply Get (Value v) = true
may_reply Get Absent = true
may_reply (Set v) Ok = true
may_reply (Add d) (New v) = true
may_reply (Add d) Overflow = true
may_reply Del Ok = true
may_reply o r = false

-- ---- read off these

-- the operation that the word asks, with the number 0 where it has one
abbrev pub operation_of : List ℕ → Option Op
operation_of w = find (λ o. bytes_eq w (word o)) operations

-- its number is an i64
abbrev pub IsOp : Op → Type 0
IsOp o = IfSome (operand o) (λ v. IsTrue (is_i64 v))
