-- What proofs of other crates may cite. Each other module of this folder is private.
-- A state has aborted where its status has.
pub use Rattle.txn_tree.proofs.Statuses.{aborted_as}
-- The status read off a history has aborted exactly where the name has.
pub use Rattle.txn_tree.proofs.Statuses.{aborted_by}
-- A state is absent where its status is.
pub use Rattle.txn_tree.proofs.Statuses.{absent_as}
-- The status read off a history is absent exactly where the name has not begun.
pub use Rattle.txn_tree.proofs.Statuses.{absent_by}
-- A state has committed where its status has.
pub use Rattle.txn_tree.proofs.Statuses.{committed_as}
-- Whether a status is that of a transaction which has aborted.
pub use Rattle.txn_tree.proofs.Statuses.{is_aborted_status}
-- A state is live where its status is.
pub use Rattle.txn_tree.proofs.Statuses.{live_as}
-- A state that is set has the status that is set.
pub use Rattle.txn_tree.proofs.Statuses.{status_set}
-- A name that is added stands last.
pub use Rattle.txn_tree.proofs.Changes.{keys-push}
-- Some item passes a test exactly where more than none are counted.
pub use Rattle.txn_tree.proofs.Children.{any_counted}
-- A name of the tree has a label.
pub use Rattle.txn_tree.proofs.Links.{some_label}
-- A number is that of a name exactly where the name stands there.
pub use Rattle.txn_tree.proofs.Numbers.{number_at}
-- An active transaction is live and no orphan.
pub use Rattle.txn_tree.proofs.Orphans.{active_parts}
-- A front of a path is the path or a front of its parent.
pub use Rattle.txn_tree.proofs.Orphans.{front_last}
-- A name of the tree is found at its number.
pub use Rattle.txn_tree.proofs.Places.{found_at}
-- An item of a list stands at the same place of a longer one.
pub use Rattle.txn_tree.proofs.Places.{get_front}
-- An item that is added stands at the end.
pub use Rattle.txn_tree.proofs.Places.{get_last}
-- An item of a longer list is one of the list or the last.
pub use Rattle.txn_tree.proofs.Places.{get_pushed}
-- An item of a list with one item changed is that of the list or the changed one.
pub use Rattle.txn_tree.proofs.Places.{get_updated}
-- A list with an item changed is as long as before.
pub use Rattle.txn_tree.proofs.Places.{length_updated}
-- A name stands at one place.
pub use Rattle.txn_tree.proofs.Places.{one_place}
-- What holds of all siblings before a child and of it holds of all before the next.
pub use Rattle.txn_tree.proofs.Subtrees.{before_next}
-- A child lies under its parent.
pub use Rattle.txn_tree.proofs.Subtrees.{child_under}
-- No child stands before the first.
pub use Rattle.txn_tree.proofs.Subtrees.{none_before_first}
-- The siblings of a child are the children of its parent.
pub use Rattle.txn_tree.proofs.Subtrees.{siblings_are_children}
-- The siblings of a top-level transaction are the top-level transactions.
pub use Rattle.txn_tree.proofs.Subtrees.{siblings_are_tops}
-- What holds of a transaction and below each of its children holds of its subtree.
pub use Rattle.txn_tree.proofs.Subtrees.{subtree}
-- What lies under a descendant lies under the ancestor.
pub use Rattle.txn_tree.proofs.Subtrees.{under-trans}
-- A child and its parent have names.
pub use Rattle.txn_tree.proofs.Siblings.{child_parts}
-- An absent name has no number.
pub use Rattle.txn_tree.proofs.Under.{absent_nowhere}
