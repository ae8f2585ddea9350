-- What proofs of other crates may cite. Each other module of this folder is private.
-- An entry without an effect keeps the tables of the checker.
pub use Rattle.report_tables.proofs.Doing.{done_idle}
-- Known keys and groups that are only added to keep what was known.
pub use Rattle.report_tables.proofs.Doing.{roomy}
-- A group that is added keeps the keys and groups before it.
pub use Rattle.report_tables.proofs.Leading.{groups_grown}
-- A key that is added keeps the keys and groups before it.
pub use Rattle.report_tables.proofs.Leading.{keys_grown}
-- The tree has a live child of a name where the history has one.
pub use Rattle.report_tables.proofs.Trees.{same_children}
