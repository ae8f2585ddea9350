-- The operations on a key, one by one: what they leave, that a read changes nothing, and that `==`
-- tells whether two are the same.
use Rattle.std.proofs.Common.{◌≡◌, ℤ, ◌+ℤ◌, Bool, true, false, cond, Option, Some, refl, ap}
use Rattle.std.proofs.Common.{None as Nothing}
use Rattle.std.proofs.lemmas.Bool.{false≢true, true≢false}
use Rattle.std.proofs.lemmas.Bool.Decides.{Decides-int_eq}
use Rattle.txn_names.proofs.Exports.{on_test}
use Rattle.serial_spec.specs.declared.operation.Op.{Op}
use Rattle.serial_spec.specs.declared.operation.Op.TheVariants.{Get, Set, Add, Del}
use Rattle.serial_spec.specs.declared.operation.Reply.{Reply}
use Rattle.serial_spec.specs.declared.operation.Reply.TheVariants.{New, Overflow}
use Rattle.serial_spec.specs.contracts.operation.OpPartialEq.TheImpl.{ghosts as of_op}
use Rattle.serial_spec.specs.Operations.{is_i64, amount, kind, value_after, reply_of, leaves}
use Rattle.serial_spec.specs.History.{or_else}
use Rattle.serial_spec.specs.Locks.{mode_of, is_exclusive}
use Rattle.serial_spec.specs.Values.{value_or}

-- an access leaves the value that its reply tells, or else the one that was left before
pub left_by : (o : Op) (v : Option ℤ) (left : Option (Option ℤ)) (base : Option ℤ) → value_or left base ≡ v
    → value_or (or_else (leaves o (reply_of v o)) left) base ≡ value_after v o
left_by Get Nothing left base e = e
left_by Get (Some w) left base e = e
left_by (Set w) v left base e = refl
left_by (Add d) v left base e =
    on_test (is_i64 (amount v +ℤ d)) (λ b. value_or (or_else (leaves (Add d) (cond b (New (amount v +ℤ d)) Overflow)) left) base ≡ cond b (Some (amount v +ℤ d)) v)
    (λ _. refl) (λ _. e)
left_by Del v left base e = refl

-- a read leaves nothing
pub read_leaves_nothing : (o : Op) (r : Reply) → is_exclusive (mode_of (kind o)) ≡ false → leaves o r ≡ Nothing
read_leaves_nothing Get r h = refl
read_leaves_nothing o r h = absurd (true≢false h)

-- and its key as it is
pub read_leaves : (o : Op) (v : Option ℤ) → is_exclusive (mode_of (kind o)) ≡ false → value_after v o ≡ v
read_leaves Get v h = refl
read_leaves o v h = absurd (true≢false h)

-- ---- `==`

pub same_op : (x y : Op) → of_op.eq x y ≡ true → x ≡ y
same_op Get Get e = refl
same_op (Set v) (Set w) e = ap Set ((Decides-int_eq v w).0 e)
same_op (Add v) (Add w) e = ap Add ((Decides-int_eq v w).0 e)
same_op Del Del e = refl
same_op x y e = absurd (false≢true e)

pub op_self : (x : Op) → of_op.eq x x ≡ true
op_self (Set v) = (Decides-int_eq v v).1 refl
op_self (Add v) = (Decides-int_eq v v).1 refl
op_self x = refl
