-- What proofs of other crates may cite. Each other module of this folder is private.
-- A number is in a list with one more where it is the new one or was in it.
pub use Rattle.txn_cells.proofs.ByKey.{any-insert}
-- Membership in a list, asked from the other side.
pub use Rattle.txn_cells.proofs.ByKey.{contained}
-- A number put where it belongs keeps a list rising.
pub use Rattle.txn_cells.proofs.ByKey.{rising_insert}
-- A look-up finds the cell under its key.
pub use Rattle.txn_cells.proofs.Reserving.{found_by_key}
-- Without a cell under a key nothing is held there.
pub use Rattle.txn_cells.proofs.Reserving.{nothing_there}
