-- What proofs of other crates may cite. Each other module of this folder is private.
-- The test of two replies decides their equality.
pub use Rattle.serial_spec.proofs.FirstWrong.{same_reply-Decides}
-- A name sees what its parent sees, unless the name left something.
pub use Rattle.serial_spec.proofs.Seen.{seen_of-parent}
-- Names see the same where each front left the same.
pub use Rattle.serial_spec.proofs.Seen.{seen_of-same}
-- A key below another is below all keys above that one.
pub use Rattle.serial_spec.proofs.Ordered.{above_all}
-- A key below all keys of some rows has no row there.
pub use Rattle.serial_spec.proofs.Ordered.{none_above}
-- A case split on how two keys compare.
pub use Rattle.serial_spec.proofs.Ordered.{on_ordering}
-- Sorted rows that agree as maps are the same rows.
pub use Rattle.serial_spec.proofs.Ordered.{rows_by_map}
-- Keys that compare as equal are equal.
pub use Rattle.serial_spec.proofs.Ordered.{same_key}
-- The order of two keys, seen from the other one.
pub use Rattle.serial_spec.proofs.Ordered.{turned}
-- One more item from the front of a list is the item at that place.
pub use Rattle.serial_spec.proofs.Taking.{take_next}
-- Past the end of a list there is no item more.
pub use Rattle.serial_spec.proofs.Taking.{take_past}
-- Maps that agree at the keys of a group have one sum over it.
pub use Rattle.serial_spec.proofs.Sums.{sum_in-cong}
-- A change at a key outside a group keeps the group's sum.
pub use Rattle.serial_spec.proofs.Sums.{sum_in-else}
-- A change at a key of a group changes the group's sum by the difference.
pub use Rattle.serial_spec.proofs.Sums.{sum_in-put}
-- Rows in byte order have the sum of their map.
pub use Rattle.serial_spec.proofs.Sums.{sum_in-rows}
-- An access leaves the value that its reply tells, or else what was left before.
pub use Rattle.serial_spec.proofs.Operations.{left_by}
-- An operation equals itself.
pub use Rattle.serial_spec.proofs.Operations.{op_self}
-- A read keeps the value of its key.
pub use Rattle.serial_spec.proofs.Operations.{read_leaves}
-- A read leaves nothing.
pub use Rattle.serial_spec.proofs.Operations.{read_leaves_nothing}
-- Operations that pass the test of equality are equal.
pub use Rattle.serial_spec.proofs.Operations.{same_op}
