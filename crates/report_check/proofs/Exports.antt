-- What proofs of other crates may cite. Each other module of this folder is private.
-- What holds of every history that the checker builds entry by entry.
pub use Rattle.report_check.proofs.Grown.{IsGrown}
-- Who begins or commits has a name.
pub use Rattle.report_check.proofs.Grown.{IsNamed}
-- An entry whose effect is possible keeps a history grown.
pub use Rattle.report_check.proofs.Grown.{grown_more}
-- A report whose final rows a serial run makes of the opening rows is accepted.
pub use Rattle.report_check.proofs.Faults.{served_is_accepted}
