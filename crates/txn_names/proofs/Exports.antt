-- What proofs of other crates may cite. Each other module of this folder is private.
-- The child of an ancestor on the way down to a descendant.
pub use Rattle.txn_names.proofs.Names.{child_towards}
-- A front of a path is the path itself or a front of its parent.
pub use Rattle.txn_names.proofs.Names.{front_cases}
-- A parent is a front of the path.
pub use Rattle.txn_names.proofs.Names.{is_front-parent}
-- The first labels of a path are a front of it.
pub use Rattle.txn_names.proofs.Names.{is_front-take}
-- A front of a front is a front.
pub use Rattle.txn_names.proofs.Names.{is_front-trans}
-- A path is a front of itself.
pub use Rattle.txn_names.proofs.Names.{is_front_self}
-- A label equals itself.
pub use Rattle.txn_names.proofs.Names.{label_eq_self}
-- A front is no longer than the path.
pub use Rattle.txn_names.proofs.Names.{length-front}
-- A parent has one label less.
pub use Rattle.txn_names.proofs.Names.{length-parent}
-- Paths with the same first labels share at least these.
pub use Rattle.txn_names.proofs.Names.{meet-greatest}
-- What two paths share is no longer than either.
pub use Rattle.txn_names.proofs.Names.{meet-le}
-- No path but the empty one is a front of its parent.
pub use Rattle.txn_names.proofs.Names.{not_front-parent}
-- A case split on whether two labels are equal.
pub use Rattle.txn_names.proofs.Names.{on_label}
-- A case split on whether two paths are equal.
pub use Rattle.txn_names.proofs.Names.{on_path}
-- A case split on a test.
pub use Rattle.txn_names.proofs.Names.{on_test}
-- Below the first label a parent is the parent of the rest.
pub use Rattle.txn_names.proofs.Names.{parent-cons}
-- Equal paths pass the test of equality.
pub use Rattle.txn_names.proofs.Names.{path_eq-from}
-- A path equals itself.
pub use Rattle.txn_names.proofs.Names.{path_eq_self}
-- Labels that pass the test of equality are equal.
pub use Rattle.txn_names.proofs.Names.{same_label}
-- Paths that pass the test of equality are equal.
pub use Rattle.txn_names.proofs.Names.{same_path}
-- A front is the first labels of the path.
pub use Rattle.txn_names.proofs.Names.{take-front}
-- Two paths have the same labels as far as they meet.
pub use Rattle.txn_names.proofs.Names.{take-meet}
-- The spelling of a name is read as that name.
pub use Rattle.txn_names.proofs.ReadBack.{name_of-spelled}
-- Bytes that are read as a name spell it.
pub use Rattle.txn_names.proofs.ReadBack.{read_is_name}
-- The topmost front that passes a test passes it, and no shorter one does.
pub use Rattle.txn_names.proofs.Tops.{first_passes}
-- No front passes the test.
pub use Rattle.txn_names.proofs.Tops.{none_passes}
-- Tests that agree on all fronts of a path find the same topmost front.
pub use Rattle.txn_names.proofs.Tops.{top_as}
-- A case split on the first label of a path below it.
pub use Rattle.txn_names.proofs.Tops.{under}
-- A key of a group has a dot behind the group's bytes.
pub use Rattle.txn_names.proofs.Groups.{dot_behind}
-- A key that is a group, a dot and a rest is in the group.
pub use Rattle.txn_names.proofs.Groups.{has_rest}
-- A key of a group is the group, a dot and a rest.
pub use Rattle.txn_names.proofs.Groups.{rest_of}
-- The group of a key is its first bytes.
pub use Rattle.txn_names.proofs.Groups.{same_front}
-- The spelling of a name is no longer than the longest name.
pub use Rattle.txn_names.proofs.Lengths.{length-name}
