-- What proofs of other crates may cite. Each other module of this folder is private.
-- The top of the list of numbers is the greatest number of the table.
pub use Rattle.durable_top.proofs.Numbering.{greatest_from}
-- A commit renumbers the rows that it changes.
pub use Rattle.durable_top.proofs.Numbering.{numbers_after}
-- A table has one greatest number.
pub use Rattle.durable_top.proofs.Numbering.{one_greatest}
-- A commit of a numbered table changes its values as the overlay of the changes does.
pub use Rattle.durable_top.proofs.Numbering.{values_committed}
-- Numbered rows have the values of the plain rows.
pub use Rattle.durable_top.proofs.Numbering.{values_in_rows}
